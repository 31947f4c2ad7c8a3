-- Bounds are sound: a place that is not done runs no sooner than its thread's earliest plus the distance to its segment.
-- By induction on the place. A ready thread goes on by its own steps. A waiting one is woken by a notification of an earlier
-- place: if that is done, it is logged, and earliest knows it; if not, the bound holds there, and earliest knows the link.
-- Takes as given the facts of the plain run (PlainFacts) and the laws of the kit (KitLaws).
use Prim.Native.Nat.{ℕ, zero, suc, ◌≤◌, ◌<◌}
use mathlib.Core.Path.{◌≡◌, refl, ap, sym, ◌∙◌, subst}
use mathlib.Core.Logic.{◌⊎◌, inl, inr}
use mathlib.Core.Bool.{Bool}
use mathlib.Core.List.{List}
use native.Mathlib.Omega.{arith}
use native.Mathlib.Decide.{dec_lt, ℕ_discrete}
use lib.Dec.{T}
use Rattle.base.proofs.BoolLaws.{T-case}
use Rattle.clock.specs.declared.Cycle.{Cycle}
use Rattle.clock.specs.declared.Wait.TheVariants as wait
use Rattle.clock.specs.declared.Bound.{Bound}
use Rattle.clock.specs.declared.Bound.TheVariants.{At}
use Rattle.clock.specs.Wait.{wait_ends}
use Rattle.clock.specs.Advance.{◌⊕◌, one_delta}
use Rattle.clock.specs.Order.{◌⊑◌, ◌≼◌}
use Rattle.clock.proofs.OrderLaws.{⊑_refl, Before→not-⊑}
use Rattle.clock.proofs.AdvanceLaws.{⊕-no_advance}
use Rattle.model.specs.declared.Model.{Model}
use Rattle.model.specs.declared.Thread.{Thread}
use Rattle.model.specs.Limits.{is_up_to_horizon}
use Rattle.model.specs.Record as view
use Rattle.model.specs.Record.{thread_at, is_live, is_live_view, View, view_of}
use Rattle.plain.specs.History.{Item}
use Rattle.plain.specs.Step.{place_at}
use Rattle.plain_laws.proofs.RecordLaws.{state_after-not-waits}
use Rattle.early.specs.declared.Notification.{Notification}
use Rattle.early.specs.Log.{pair_of}
use Rattle.order.proofs.Seen.{seen, seen-view}
use Rattle.order.proofs.Places.{now_at, record_at, effect_there, woken_in, Runs, Says, Hears, Happens, idle, runs, hears}
use Rattle.order.proofs.PlainFacts.{PlainFacts}
use Rattle.order.proofs.KitLaws.{bound_in, KitLaws, Forecasts}
use Rattle.order.proofs.PlaceLaws.{Over, over-ready-not, over-stays, heard-ready}
use Rattle.order.proofs.Invariant.{Known, IsCut, Bounded}
use Rattle.order.proofs.CutLaws.{cut-view, cut-segment}

module _ (m : Model) (pf : PlainFacts m) {marks : List (List Bool)} {ws : List ℕ} (kl : KitLaws m marks ws)
    {x : List ℕ} {l : List Notification} {ts : List Thread} {h : ℕ → List Item} {cut : ℕ → ℕ} {low : Bound}
    (ic : IsCut m x l ts h cut low) (f : Forecasts m marks ws l ts)
  where
    -- a thread with a place that is not done is live
    pub live-undone : (q j : ℕ) → Runs m q j → (q < cut j → ⊥) → T (is_live (thread_at ts j).state)
    live-undone q j r new = subst (λ (v : View). T (is_live_view v)) (sym (cut-view ic j r.below)) (go (T-case (is_live (record_at m (cut j) j).state)))
      where
        go : T (is_live (record_at m (cut j) j).state) ⊎ Over (record_at m (cut j) j) → T (is_live (record_at m (cut j) j).state)
        go (inl t) = t
        go (inr over) =
            let stays = over-stays m pf j (cut j) q r.below (omega arith) over in
            absurd (over-ready-not (record_at m (cut j) j) (now_at m q) over (ap (λ (t : Thread). view_of t.state) (sym stays) ∙ r.ready))

    -- the bound of thread k at the segment of a record
    abbrev bound_to : ℕ → Thread → Bound
    bound_to k t = bound_in m ws ts f.earliest k t.segment

    segment-cut : (k : ℕ) → k < m.t → (thread_at ts k).segment < m.n
    segment-cut k kt = rw (cut-segment ic k kt) (pf.segment_below (cut k) k kt)

    bound-still : (k : ℕ) → k < m.t → bound_to k (seen (thread_at ts k)) ≡ f.earliest k
    bound-still k kt =
        ap (λ (b : Bound). f.earliest k ⊕ b) (kl.distances.self (thread_at ts k).segment (segment-cut k kt)) ∙ ⊕-no_advance (f.earliest k)

    -- What is shown of a record of thread k, by its view. Ready: the bound is not after its cycle, if that is before the
    -- horizon. Waiting: the record is the one at the cut, or the bound is not after the delta that follows any hearing.
    abbrev BoundAt : ℕ → Thread → View → Type 0
    BoundAt k t (view.ready c) = T (is_up_to_horizon m c) → bound_to k t ≼ At c
    BoundAt k t (view.waits e since) =
        (t ≡ seen (thread_at ts k)) ⊎ ((c : Cycle) → since ⊑ c → T (is_up_to_horizon m c) → bound_to k t ≼ At c ⊕ one_delta)
    BoundAt k t view.idle = Unit {0}

    abbrev Sound : ℕ → Thread → Type 0
    Sound k t = BoundAt k t (view_of t.state)

    abbrev UpTo : ℕ → Type 0
    UpTo n = (k j : ℕ) → j ≤ n → k < m.t → cut k ≤ j → Sound k (record_at m j k)

    sound-cut : (k : ℕ) → k < m.t → Sound k (seen (thread_at ts k))
    sound-cut k kt = rw (seen-view (thread_at ts k)) (go (view_of (thread_at ts k).state) refl)
      where
        go : (v : View) → view_of (thread_at ts k).state ≡ v → BoundAt k (seen (thread_at ts k)) v
        go (view.ready c) e = λ before. rw (bound-still k kt, f.ready k c kt e) ⊑_refl
        go (view.waits e since) w = inl refl
        go view.idle e = tt

    sound-place : (k n : ℕ) → cut k ≡ n → k < m.t → Sound k (record_at m n k)
    sound-place k n here kt = subst (λ (i : ℕ). Sound k (record_at m i k)) here (subst (Sound k) (ic.records k kt) (sound-cut k kt))

    -- a place that runs thread j, from its cut on
    bound-there : (n : ℕ) → UpTo n → (q j : ℕ) → q ≤ n → cut j ≤ q → Runs m q j → bound_to j (record_at m q j) ≼ At (now_at m q)
    bound-there n ih q j h from r = subst (BoundAt j (record_at m q j)) r.ready (ih j q h r.below from) (pf.now_before q)

    -- a thread that still waits as at its cut, and hears at place n: earliest is not after the delta that follows
    heard-next : (n : ℕ) → UpTo n → (k e : ℕ) (since : Cycle) → Hears m n k e since → record_at m n k ≡ seen (thread_at ts k)
        → f.earliest k ≼ At (now_at m n) ⊕ one_delta
    heard-next n ih k e since hear same =
        let (q, j, sooner, says, now) = pf.source n k e since hear in
        subst (λ (c : Cycle). f.earliest k ≼ At c ⊕ one_delta) now (by q j sooner says (rw now hear.begun) (dec_lt q (cut j)))
      where
        waits : view_of (thread_at ts k).state ≡ view.waits e since
        waits = sym (seen-view (thread_at ts k)) ∙ ap (λ (t : Thread). view_of t.state) (sym same) ∙ hear.waits

        by : (q j : ℕ) → q < n → Says m q j e → since ⊑ now_at m q → Dec (q < cut j) → f.earliest k ≼ At (now_at m q) ⊕ one_delta
        by q j sooner says begun (yes d) = go (ic.logged q j e (record { runs = says.runs; passed = d }) says)
          where
            go : Known m l ts low e (now_at m q) → f.earliest k ≼ At (now_at m q) ⊕ one_delta
            go (inl held) = f.heard k (pair_of e (now_at m q)) (record { below = hear.below; since = since; waits = waits; logged = held; begun = begun })
            go (inr gone) = absurd (Before→not-⊑ (gone.unheard k since hear.below waits) begun)
        by q j sooner says begun (no d) =
            let run = says.runs in
            let segment = (record_at m q j).segment in
            let listed = kl.distances.listed j segment (now_at m q) (place_at m q).variables e says.notifies in
            f.linked k e since j segment (now_at m q) hear.below waits run.below (live-undone q j run d) (pf.segment_below q j run.below)
            listed begun (bound-there n ih q j (omega arith) (omega arith) run)

    sound-run : (n k : ℕ) → k < m.t → bound_to k (record_at m n k) ≼ At (now_at m n) → Sound k (effect_there m n k).thread
    sound-run n k kt p = go (view_of (effect_there m n k).thread.state) refl
      where
        at : ℕ
        at = (thread_at ts k).segment

        to : ℕ
        to = (record_at m n k).segment

        go : (v : View) → view_of (effect_there m n k).thread.state ≡ v → BoundAt k (effect_there m n k).thread v
        go (view.ready d) e = λ b.
            kl.distances.over_wait k at to (now_at m n) d (place_at m n).variables (f.earliest k) kt (segment-cut k kt) (pf.segment_below n k kt) e b p
        go (view.waits u since) e = inr (λ c a b.
            kl.distances.over_event k at to u (now_at m n) since c (place_at m n).variables (f.earliest k) kt (segment-cut k kt) (pf.segment_below n k kt) e a b p)
        go view.idle e = tt

    sound-heard : (s k : ℕ) (c : Cycle) → bound_to k (woken_in s c) ≼ At c ⊕ one_delta → Sound k (woken_in s c)
    sound-heard s k c p = go (view_of (woken_in s c).state) refl
      where
        go : (v : View) → view_of (woken_in s c).state ≡ v → BoundAt k (woken_in s c) v
        go (view.ready d) e = λ b. subst (λ (y : Bound). bound_to k (woken_in s c) ≼ y) (heard-ready c d e) p
        go (view.waits u since) e = absurd (state_after-not-waits (wait_ends wait.Event c) u since e)
        go view.idle e = tt

    sound-next : (n : ℕ) → UpTo n → (k : ℕ) → k < m.t → cut k ≤ n → Happens m n k → Sound k (record_at m (suc n) k)
    sound-next n ih k kt from (idle same _ _ _) = subst (Sound k) (sym same) (ih k n (omega arith) kt from)
    sound-next n ih k kt from (runs r next _) = subst (Sound k) (sym next) (sound-run n k kt (bound-there n ih n k (omega arith) from r))
    sound-next n ih k kt from (hears u since hear next _) =
        subst (Sound k) (sym next)
        (sound-heard (record_at m n k).segment k (now_at m n) (go (subst (BoundAt k (record_at m n k)) hear.waits (ih k n (omega arith) kt from))))
      where
        go : BoundAt k (record_at m n k) (view.waits u since) → bound_to k (record_at m n k) ≼ At (now_at m n) ⊕ one_delta
        go (inl same) = rw (same, bound-still k kt) (heard-next n ih k u since hear same)
        go (inr p) = p (now_at m n) hear.begun (pf.now_before n)

    sound-up-to : (n : ℕ) → UpTo n
    sound-up-to zero k j h kt from = sound-place k j (omega arith) kt
    sound-up-to (suc n) k j h kt from = go (ℕ_discrete j (suc n)) (ℕ_discrete (cut k) j) (sound-up-to n)
      where
        go : Dec (j ≡ suc n) → Dec (cut k ≡ j) → UpTo n → Sound k (record_at m j k)
        go _ (yes here) ih = sound-place k j here kt
        go (no below) (no _) ih = ih k j (omega arith) kt from
        go (yes top) (no late) ih =
            subst (λ (i : ℕ). Sound k (record_at m i k)) (sym top) (sound-next n ih k kt (omega arith) (pf.happens n k kt))

    pub bounded : Bounded m ws ts cut f.earliest
    bounded = record { sound = λ q j r new. bound-there q (sound-up-to q) q j (omega arith) (omega arith) r; live = live-undone }
