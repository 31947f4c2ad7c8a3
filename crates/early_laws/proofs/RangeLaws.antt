-- How large bounds grow on a fit state: each link adds a distance of at most 1,000,000,000 units and at most 1,024 deltas, and there are at most T of them.
-- So times stay below `earliest_time` and deltas at most 33,792 (`sum_time` and 34,815 with a distance more), and 64 and 32 bits hold them.
use Prim.Native.Nat.{ℕ, zero, suc, ◌+◌, ◌*◌, ◌<◌, ◌≤◌, ◌/◌, ◌%◌, ◌^◌}
use mathlib.Core.Path.{◌≡◌, refl, sym, subst}
use mathlib.Core.Logic.{◌⊎◌, inl, inr}
use mathlib.Core.Bool.{not}
use mathlib.Core.List.{List}
use native.Mathlib.Omega.{arith}
use lib.Dec.{T, eqb, T_not}
use lib.ListN.{get_or}
use Rattle.base.proofs.BoolLaws.{cond-case, eq→eqb}
use Rattle.clock.specs.declared.Cycle.{Cycle}
use Rattle.clock.specs.declared.Bound.{Bound}
use Rattle.clock.specs.declared.Bound.TheVariants.{Never, At}
use Rattle.clock.specs.Wait.{last_delta}
use Rattle.clock.specs.Advance.{least, least_below, delta_after, plus_of, ◌⊕◌, one_delta}
use Rattle.clock.proofs.LeastLaws.{least-case, least_below-one}
use Rattle.clock.proofs.AdvanceLaws.{SmallBound, ⊕-one_delta, Never-⊕}
use Rattle.model.specs.declared.Model.{Model}
use Rattle.model.specs.declared.State.{State}
use Rattle.model.specs.declared.Thread.{Thread}
use Rattle.model.specs.Limits.{cut_time, record_time}
use Rattle.model.specs.Record as view
use Rattle.model.specs.Record.{thread_at, cycle_of, View, view_of, awaits, awaited_by}
use Rattle.tables.specs.Word.{all_ones, bound_of, distance_in}
use Rattle.tables_laws.proofs.WordLaws.{place-below}
use Rattle.plain_laws.proofs.RecordLaws.{ready-cycle, waits-cycle, awaits→waits}
use Rattle.early.specs.declared.Notification.{Notification}
use Rattle.early.specs.Log.{pair_of, least_heard}
use Rattle.early.specs.Earliest.{source_of, soonest_notify, raised, link_to, earliest_of}
use Rattle.early.specs.Fit.{is_fit_thread, is_fit_word}
use Rattle.early_laws.proofs.LogLaws.{In, least_heard-at}
use Rattle.early_laws.proofs.RaiseLaws.{raised-case}
use Rattle.early_laws.proofs.LinkLaws.{source_of-ready, source_of-waiting, source_of-idle, soonest_notify-one, link_to-case}
use Rattle.early_laws.proofs.EarliestLaws.{earliest_at, linked_at, with_links-none, with_links-more}
use Rattle.early_laws.proofs.FitLaws.{FitCycle, is_fit_thread→, FitPair, is_fit_word→, FitWord}

-- an earliest has a time below this, 32 links from a record; with a distance more, below that
abbrev pub earliest_time : ℕ
earliest_time = record_time + 32 * cut_time

abbrev pub sum_time : ℕ
sum_time = earliest_time + cut_time

-- a time below t, a delta at most d; never is within everything
abbrev pub Within : ℕ → ℕ → Bound → Type 0
Within t d Never = Unit {0}
Within t d (At c) = (c.time.0 < t) × (c.delta.0 ≤ d)

pub within_more : (t d t2 d2 : ℕ) (b : Bound) → t ≤ t2 → d ≤ d2 → Within t d b → Within t2 d2 b
within_more t d t2 d2 Never p q w = tt
within_more t d t2 d2 (At c) p q w = (omega arith, omega arith)

pub within-small : (t d : ℕ) (b : Bound) → t ≤ 2 ^ 64 → d < 2 ^ 32 → Within t d b → SmallBound b
within-small t d Never p q w = tt
within-small t d (At c) p q w = (omega arith, omega arith)

pub within-least : (t d : ℕ) (a b : Bound) → Within t d a → Within t d b → Within t d (least a b)
within-least t d a b p q = least-case (Within t d) a b p q

pub within-least_below : (t d n : ℕ) (f : ℕ → Bound) → ((i : ℕ) → i < n → Within t d (f i)) → Within t d (least_below n f)
within-least_below t d n f all = go (least_below-one n f)
  where
    go : (least_below n f ≡ Never) ⊎ ((i : ℕ) × (i < n) × (least_below n f ≡ f i)) → Within t d (least_below n f)
    go (inl e) = subst (Within t d) (sym e) tt
    go (inr (i, h, e)) = subst (Within t d) (sym e) (all i h)

delta_after-≤ : (t d : ℕ) → delta_after t d ≤ d
unfolding delta_after
delta_after-≤ zero d = omega arith
delta_after-≤ (suc t) d = omega arith

pub within-⊕ : (t d t2 d2 : ℕ) (a b : Bound) → Within t d a → Within t2 d2 b → Within (t + t2) (d + d2) (a ⊕ b)
unfolding ◌⊕◌ plus_of
within-⊕ t d t2 d2 Never b p q = tt
within-⊕ t d t2 d2 (At a) Never p q = tt
within-⊕ t d t2 d2 (At a) (At w) p q = (omega arith, omega (arith, delta_after-≤ w.time.0 a.delta.0))

pub within-one_delta : (t d : ℕ) (a : Bound) → Within t d a → Within t (d + 1) (a ⊕ one_delta)
within-one_delta t d Never p = rw (Never-⊕ one_delta) tt
within-one_delta t d (At a) p = rw (⊕-one_delta a) (omega arith)

-- a fit word
pub within_word : (w : ℕ) → T (is_fit_word w) → Within cut_time last_delta (bound_of w)
unfolding bound_of
within_word w f =
    cond-case
    (Within cut_time last_delta)
    (eqb w all_ones)
    (λ t. tt)
    (λ t. go t (is_fit_word→ w f))
  where
    go : T (not (eqb w all_ones)) → FitWord w → (w / 1024 < cut_time) × (w % 1024 ≤ last_delta)
    go t (inl e) = absurd (T_not (eqb w all_ones) t (eq→eqb w all_ones e))
    go t (inr h) = (h, omega arith)

-- fit records, a fit log and fit words
module _ (m : Model) (ws : List ℕ) (l : List Notification) (ts : List Thread)
    (fit-threads : (k : ℕ) → k < m.t → T (is_fit_thread m k (thread_at ts k)))
    (fit-log : (x : Notification) → In x l → FitPair m x)
    (Fit-words : (i : ℕ) → i < m.n * m.n → T (is_fit_word (get_or ws i 0)))
  where
    -- the word from r to s stands among the N × N
    pub within-distance : (r s : ℕ) → r < m.n → s < m.n → Within cut_time last_delta (distance_in m ws r s)
    unfolding distance_in
    within-distance r s p q =
        within_word
        (get_or ws (r * m.n + s) 0)
        (Fit-words (r * m.n + s) (place-below m.n r s p q))

    pub within-heard : (e : ℕ) (since : Cycle) → Within cut_time last_delta (least_heard l e since)
    within-heard e since = go (least_heard l e since) refl
      where
        go : (b : Bound) → least_heard l e since ≡ b → Within cut_time last_delta b
        go Never f = tt
        go (At c) f =
            let fits = fit-log (pair_of e c) (least_heard-at l e since c f).0 in
            (fits.cycle.time, fits.cycle.delta)

    -- a wait began at the cycle that its record holds
    pub began-fit : (k e : ℕ) (since : Cycle) → k < m.t → awaited_by (thread_at ts k).state ≡ awaits e since → FitCycle record_time since
    began-fit k e since h a =
        let s = (thread_at ts k).state in
        subst (FitCycle record_time) (waits-cycle s e since (awaits→waits (view_of s) e since a)) (is_fit_thread→ m k (thread_at ts k) (fit-threads k h)).cycle

    within-source : (k : ℕ) → k < m.t → Within record_time 1024 (source_of l (thread_at ts k).state)
    within-source k h = go (view_of s) refl
      where
        s : State
        s = (thread_at ts k).state

        f : FitCycle record_time (cycle_of s)
        f = (is_fit_thread→ m k (thread_at ts k) (fit-threads k h)).cycle

        go : (v : View) → view_of s ≡ v → Within record_time 1024 (source_of l s)
        go view.idle w = rw (source_of-idle l s (rw w tt)) tt
        go (view.ready c) w = let g : FitCycle record_time c = rw (ready-cycle s c w) at f in rw (source_of-ready l s c w) (g.time, omega (arith, g.delta))
        go (view.waits e since) w =
            rw
            (source_of-waiting l s e since w)
            (within_more
            cut_time
            (last_delta + 1)
            record_time
            1024
            (least_heard l e since ⊕ one_delta)
            (omega arith)
            (omega arith)
            (within-one_delta cut_time last_delta (least_heard l e since) (within-heard e since)))

    -- a bound plus the distance to a segment, from the segment that a thread is in
    pub within-sum : (t d : ℕ) (x : Bound) (k s : ℕ) → k < m.t → s < m.n → Within t d x → Within (t + cut_time) (d + last_delta) (x ⊕ distance_in m ws (thread_at ts k).segment s)
    within-sum t d x k s h p w =
        within-⊕
        t
        d
        cut_time
        last_delta
        x
        (distance_in m ws (thread_at ts k).segment s)
        w
        (within-distance (thread_at ts k).segment s (is_fit_thread→ m k (thread_at ts k) (fit-threads k h)).segment p)

    pub within-notify : (t d : ℕ) (x : Bound) (k e : ℕ) → k < m.t → Within t d x → Within (t + cut_time) (d + last_delta) (soonest_notify m ws ts k x e)
    within-notify t d x k e h w = go (soonest_notify m ws ts k x e) refl
      where
        go : (b : Bound) → soonest_notify m ws ts k x e ≡ b → Within (t + cut_time) (d + last_delta) b
        go Never f = tt
        go (At b) f =
            let (live, (s, p, u, g)) = soonest_notify-one m ws ts k x e b f in
            subst (Within (t + cut_time) (d + last_delta)) g (within-sum t d x k s h p w)

    -- raised to a wait of a fit record, where the bound that links began from is at least as large
    pub within-raised : (t d : ℕ) (k e : ℕ) (since : Cycle) (x : Bound) → record_time ≤ t → last_delta ≤ d → k < m.t → awaited_by (thread_at ts k).state ≡ awaits e since → Within t d x → Within t d (raised since x)
    within-raised t d k e since x p q h a w =
        let fits = began-fit k e since h a in
        raised-case since (Within t d) x (omega (arith, fits.time), omega (arith, fits.delta)) w

    pub within-link : (t d : ℕ) (x : Bound) (j k : ℕ) → record_time ≤ t → j < m.t → k < m.t → Within t d x → Within (t + cut_time) (d + 1024) (link_to m ws ts j k x)
    within-link t d x j k large h waits w =
        link_to-case
        m
        ws
        ts
        j
        k
        (λ (f : Bound → Bound). Within (t + cut_time) (d + 1024) (f x))
        tt
        (λ e since a.
        let y = soonest_notify m ws ts j x e in
        within_more
        (t + cut_time)
        (d + last_delta + 1)
        (t + cut_time)
        (d + 1024)
        (raised since y ⊕ one_delta)
        (omega arith)
        (omega arith)
        (within-one_delta
        (t + cut_time)
        (d + last_delta)
        (raised since y)
        (within-raised (t + cut_time) (d + last_delta) k e since y (omega arith) (omega arith) waits a (within-notify t d x j e h w))))

    -- after i rounds
    pub within-links : (i k : ℕ) → k < m.t → Within (record_time + i * cut_time) (1024 + i * 1024) (linked_at m ws l ts i k)
    within-links zero k h =
        rw
        (with_links-none m ws l ts k h)
        (within_more record_time 1024 (record_time + 0 * cut_time) (1024 + 0 * 1024) (source_of l (thread_at ts k).state) (omega arith) (omega arith) (within-source k h))
    within-links (suc i) k h =
        rw
        (with_links-more m ws l ts i k h)
        (within-least
        (record_time + suc i * cut_time)
        (1024 + suc i * 1024)
        (linked_at m ws l ts i k)
        (least_below m.t (λ j. link_to m ws ts j k (linked_at m ws l ts i j)))
        (grown (linked_at m ws l ts i k) (within-links i k h))
        (within-least_below
        (record_time + suc i * cut_time)
        (1024 + suc i * 1024)
        m.t
        (λ j. link_to m ws ts j k (linked_at m ws l ts i j))
        (λ j p.
        within_more
        (record_time + i * cut_time + cut_time)
        (1024 + i * 1024 + 1024)
        (record_time + suc i * cut_time)
        (1024 + suc i * 1024)
        (link_to m ws ts j k (linked_at m ws l ts i j))
        (omega arith)
        (omega arith)
        (within-link (record_time + i * cut_time) (1024 + i * 1024) (linked_at m ws l ts i j) j k (omega arith) p h (within-links i j p)))))
      where
        grown : (b : Bound) → Within (record_time + i * cut_time) (1024 + i * 1024) b → Within (record_time + suc i * cut_time) (1024 + suc i * 1024) b
        grown b w = within_more (record_time + i * cut_time) (1024 + i * 1024) (record_time + suc i * cut_time) (1024 + suc i * 1024) b (omega arith) (omega arith) w

    -- with at most 32 threads, after at most 32 rounds; earliest is the last of them
    pub links-small : (i k : ℕ) → i ≤ 32 → k < m.t → Within earliest_time 33792 (linked_at m ws l ts i k)
    links-small i k p h =
        within_more
        (record_time + i * cut_time)
        (1024 + i * 1024)
        earliest_time
        33792
        (linked_at m ws l ts i k)
        (omega arith)
        (omega arith)
        (within-links i k h)

    pub earliest-small : (k : ℕ) → m.t ≤ 32 → k < m.t → Within earliest_time 33792 (earliest_at m ws l ts k)
    unfolding earliest_of
    earliest-small k p h = links-small m.t k p h

    -- earliest plus distance
    pub sum-small : (k s : ℕ) → m.t ≤ 32 → k < m.t → s < m.n → Within sum_time 34815 (earliest_at m ws l ts k ⊕ distance_in m ws (thread_at ts k).segment s)
    sum-small k s p h q = within-sum earliest_time 33792 (earliest_at m ws l ts k) k s h q (earliest-small k p h)
