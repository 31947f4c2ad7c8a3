-- The log with what is counted for running threads: what stands in it, that it holds no pair twice where the log holds none twice, and that
-- no log of some of its pairs takes more places.
--     Grown, grown-length     a log with new pairs at its end, each once; the more pairs, the more places
--     with_running-kept, with_running-new, with_running-only     what stands in it
--     with_running-once, with_running-none, with_running-same     no pair twice; nothing runs; the same runs
--     places_with-counted, running-counted, dropped-shorter     what a log takes is counted
use Prim.Native.Nat.{ℕ, zero, suc, ◌<◌, ◌≤◌}
use mathlib.Core.Path.{◌≡◌, refl, ap, sym, ◌∙◌, subst}
use mathlib.Core.Logic.{◌⊎◌, inl, inr}
use mathlib.Core.Bool.{Bool, true, false, cond}
use mathlib.Core.List.Memᴰ
use mathlib.Core.List.{List, [], ◌∷◌, ◌++◌, append_assoc, append-nil}
use native.Mathlib.Omega.{arith}
use native.Mathlib.Decide.{ℕ_discrete}
use lib.Dec.{T, T_not}
use lib.ListN.{length, length-append}
use Rattle.base.proofs.BoolLaws.{cond-case, T→true, T→false}
use Rattle.clock.specs.declared.Cycle.{Cycle}
use Rattle.clock.specs.declared.Bound.{Bound}
use Rattle.clock.specs.declared.Bound.TheVariants.{Never, At}
use Rattle.clock.specs.Order.{◌≼◌}
use Rattle.model.specs.declared.Model.{Model}
use Rattle.model.specs.declared.Thread.{Thread}
use Rattle.model.specs.Record.{thread_at, cycle_of, is_running}
use Rattle.model.specs.Footprint.{has, listed_in}
use Rattle.early.specs.declared.Notification.{Notification}
use Rattle.early.specs.Log.{pair_of, holds, with_pair, with_pairs, places_with, with_running, counted_log, is_dropped, drop_before}
use Rattle.early_laws.proofs.LogLaws.{In, In→holds, with_pairs-kept, with_pairs-new, with_pairs-only, drop_before-kept, drop_before-only}
use Rattle.early_laws.proofs.OnceLaws.{Once, none, once-end, once-length, with_pairs-once, drop_before-once, drop_before-length}

-- log b is log a with new pairs at its end, each once
pub record Grown (a b : List Notification) : Type 0 where
  pub new : List Notification
  pub is : b ≡ a ++ new
  pub once : Once new
  pub apart : (x : Notification) → In x new → In x a → ⊥

pub grown-none : (a : List Notification) → Grown a a
grown-none a = record { new = []; is = sym (append-nil a); once = none; apart = λ x h. absurd (Memᴰ.not-nil h) }

grown-one : (a b : List Notification) (x : Notification) → Grown a b → (In x b → ⊥) → Grown a (b ++ (x ∷ []))
grown-one a b x g other =
    record {
      new = g.new ++ (x ∷ []);
      is = ap (λ (y : List Notification). y ++ (x ∷ [])) g.is ∙ append_assoc a g.new (x ∷ []);
      once = once-end x g.once (λ h. other (inside (Memᴰ.append_right a h)));
      apart = λ y h. go y (Memᴰ.append_cases g.new h);
    }
  where
    inside : {y : Notification} → In y (a ++ g.new) → In y b
    inside {y} h = subst (In y) (sym g.is) h

    go : (y : Notification) → In y g.new ⊎ In y (x ∷ []) → In y a → ⊥
    go y (inl h) k = g.apart y h k
    go y (inr h) k = other (subst (λ (z : Notification). In z b) (Memᴰ.eq_of_singleton h) (inside (Memᴰ.append_left g.new k)))

grown-pair : (a b : List Notification) (x : Notification) → Grown a b → Grown a (with_pair b x)
unfolding with_pair
grown-pair a b x g = cond-case (Grown a) (holds b x) (λ t. g) (λ t. grown-one a b x g (λ h. T_not (holds b x) t (In→holds h)))

pub grown-pairs : (a b : List Notification) (c : Cycle) (es : List ℕ) → Grown a b → Grown a (with_pairs b c es)
unfolding with_pairs
grown-pairs a b c [] g = g
grown-pairs a b c (e ∷ es) g = grown-pairs a (with_pair b (pair_of e c)) c es (grown-pair a b (pair_of e c) g)

drop_before-append : (f : Bound) (a b : List Notification) → drop_before f (a ++ b) ≡ drop_before f a ++ drop_before f b
unfolding drop_before
drop_before-append f [] b = refl
drop_before-append f (x ∷ a) b = go (is_dropped f x) (drop_before-append f a b)
  where
    go : (d : Bool) → drop_before f (a ++ b) ≡ drop_before f a ++ drop_before f b
        → cond d (drop_before f (a ++ b)) (x ∷ drop_before f (a ++ b)) ≡ cond d (drop_before f a) (x ∷ drop_before f a) ++ drop_before f b
    go true e = e
    go false e = ap (λ (l : List Notification). x ∷ l) e

-- and so are both after a drop
pub grown-dropped : (f : Bound) (a b : List Notification) → Grown a b → Grown (drop_before f a) (drop_before f b)
grown-dropped f a b g =
    record {
      new = drop_before f g.new;
      is = ap (drop_before f) g.is ∙ drop_before-append f a g.new;
      once = drop_before-once f g.once;
      apart = λ x h k. g.apart x (drop_before-only f g.new h).0 (drop_before-only f a k).0;
    }

-- two logs grown from one: the one whose pairs all stand in the other is no longer
pub grown-length : (a b c : List Notification) → Grown a b → Grown a c → ((x : Notification) → In x b → In x c) → length b ≤ length c
grown-length a b c g h within =
    let k = once-length g.once h.new (λ x i. go x i (Memᴰ.append_cases a (subst (In x) h.is (within x (subst (In x) (sym g.is) (Memᴰ.append_right a i)))))) in
    let p = ap length g.is ∙ length-append a g.new in
    let q = ap length h.is ∙ length-append a h.new in
    omega arith
  where
    go : (x : Notification) → In x g.new → In x a ⊎ In x h.new → In x h.new
    go x i (inl j) = absurd (g.apart x i j)
    go x i (inr j) = j

module _ (m : Model) (ts : List Thread) (l : List Notification) where
  -- one step, by whether thread k is running
  running-case : (P : List Notification → Type 0) (k : ℕ)
      → (is_running (thread_at ts k).state ≡ true → P (with_pairs (with_running m ts l k) (cycle_of (thread_at ts k).state) (listed_in m k (thread_at ts k).segment)))
      → (is_running (thread_at ts k).state ≡ false → P (with_running m ts l k)) → P (with_running m ts l (suc k))
  unfolding with_running
  running-case P k run rest =
      cond-case P (is_running (thread_at ts k).state) (λ t. run (T→true (is_running (thread_at ts k).state) t)) (λ t. rest (T→false (is_running (thread_at ts k).state) t))

  pub with_running-grown : (a : List Notification) (k : ℕ) → Grown a l → Grown a (with_running m ts l k)
  unfolding with_running
  with_running-grown a zero g = g
  with_running-grown a (suc k) g =
      let ih = with_running-grown a k g in
      running-case (Grown a) k
      (λ r. grown-pairs a (with_running m ts l k) (cycle_of (thread_at ts k).state) (listed_in m k (thread_at ts k).segment) ih)
      (λ r. ih)

  pub with_running-once : (k : ℕ) → Once l → Once (with_running m ts l k)
  unfolding with_running
  with_running-once zero o = o
  with_running-once (suc k) o =
      let ih = with_running-once k o in
      running-case Once k (λ r. with_pairs-once (with_running m ts l k) (cycle_of (thread_at ts k).state) (listed_in m k (thread_at ts k).segment) ih) (λ r. ih)

  pub with_running-kept : (k : ℕ) {x : Notification} → In x l → In x (with_running m ts l k)
  unfolding with_running
  with_running-kept zero h = h
  with_running-kept (suc k) {x} h =
      let ih = with_running-kept k h in
      running-case (In x) k (λ r. with_pairs-kept (with_running m ts l k) (cycle_of (thread_at ts k).state) (listed_in m k (thread_at ts k).segment) ih) (λ r. ih)

  -- what a running thread lists is counted
  pub with_running-new : (k j e : ℕ) → j < k → is_running (thread_at ts j).state ≡ true → T (has (listed_in m j (thread_at ts j).segment) e)
      → In (pair_of e (cycle_of (thread_at ts j).state)) (with_running m ts l k)
  with_running-new zero j e h r t = absurd (omega arith)
  with_running-new (suc k) j e h r t = go (ℕ_discrete j k) (λ b. with_running-new k j e b r t)
    where
      y : Notification
      y = pair_of e (cycle_of (thread_at ts j).state)

      go : Dec (j ≡ k) → (j < k → In y (with_running m ts l k)) → In y (with_running m ts l (suc k))
      go (no n) ih =
          let i = ih (omega arith) in
          running-case (In y) k (λ r. with_pairs-kept (with_running m ts l k) (cycle_of (thread_at ts k).state) (listed_in m k (thread_at ts k).segment) i) (λ r. i)
      go (yes p) ih =
          subst (λ (z : ℕ). In y (with_running m ts l (suc z))) p
          (running-case (In y) j (λ _. with_pairs-new (with_running m ts l j) (cycle_of (thread_at ts j).state) (listed_in m j (thread_at ts j).segment) e t)
          (λ f. absurd (subst T (sym r ∙ f) tt)))

  -- and nothing else is
  pub with_running-only : (k : ℕ) {x : Notification} → In x (with_running m ts l k)
      → In x l ⊎ ((j : ℕ) × (j < k) × (is_running (thread_at ts j).state ≡ true) × (x.cycle ≡ cycle_of (thread_at ts j).state) × T (has (listed_in m j (thread_at ts j).segment) x.event))
  unfolding with_running
  with_running-only zero h = inl h
  with_running-only (suc k) {x} h =
      running-case (λ (y : List Notification). In x y → Found (suc k)) k
      (λ r i. told r (with_pairs-only (with_running m ts l k) (cycle_of (thread_at ts k).state) (listed_in m k (thread_at ts k).segment) i) (λ j. with_running-only k j))
      (λ r i. wider (with_running-only k i))
      h
    where
      Found : ℕ → Type 0
      Found n = In x l ⊎ ((j : ℕ) × (j < n) × (is_running (thread_at ts j).state ≡ true) × (x.cycle ≡ cycle_of (thread_at ts j).state) × T (has (listed_in m j (thread_at ts j).segment) x.event))

      wider : Found k → Found (suc k)
      wider (inl i) = inl i
      wider (inr (j, b, r, c, t)) = inr (j, omega arith, r, c, t)

      told : is_running (thread_at ts k).state ≡ true → In x (with_running m ts l k) ⊎ ((x.cycle ≡ cycle_of (thread_at ts k).state) × T (has (listed_in m k (thread_at ts k).segment) x.event))
          → (In x (with_running m ts l k) → Found k) → Found (suc k)
      told r (inl i) ih = wider (ih i)
      told r (inr (c, t)) ih = inr (k, omega arith, r, c, t)

  -- where nothing runs nothing is counted
  pub with_running-none : (k : ℕ) → ((j : ℕ) → j < k → is_running (thread_at ts j).state ≡ false) → with_running m ts l k ≡ l
  unfolding with_running
  with_running-none zero idle = refl
  with_running-none (suc k) idle = rw (idle k (omega arith)) (with_running-none k (λ j h. idle j (omega arith)))

-- by the records below k alone, and what their segments list
pub with_running-same : (m m' : Model) (ts ts' : List Thread) (l : List Notification) (k : ℕ)
    → ((j : ℕ) → j < k → thread_at ts j ≡ thread_at ts' j)
    → ((j : ℕ) → j < k → listed_in m j (thread_at ts j).segment ≡ listed_in m' j (thread_at ts j).segment)
    → with_running m ts l k ≡ with_running m' ts' l k
unfolding with_running
with_running-same m m' ts ts' l zero same listed = refl
with_running-same m m' ts ts' l (suc k) same listed =
    let ih = with_running-same m m' ts ts' l k (λ j h. same j (omega arith)) (λ j h. listed j (omega arith)) in
    rw (← same k (omega arith), ← ih, listed k (omega arith)) refl

-- pairs over a log take no more places than more pairs over the log with what is counted
pub places_with-counted : (m : Model) (ts : List Thread) (l : List Notification) (c : Cycle) (es fs : List ℕ)
    → ((e : ℕ) → T (has es e) → T (has fs e)) → places_with l c es ≤ places_with (counted_log m ts l) c fs
places_with-counted m ts l c es fs within =
    grown-length l (with_pairs l c es) (with_pairs counted c fs) (grown-pairs l l c es (grown-none l)) (grown-pairs l counted c fs (with_running-grown m ts l l m.t (grown-none l)))
    (λ x h. go x (with_pairs-only l c es h))
  where
    counted : List Notification
    counted = counted_log m ts l

    go : (x : Notification) → In x l ⊎ ((x.cycle ≡ c) × T (has es x.event)) → In x (with_pairs counted c fs)
    go x (inl h) = with_pairs-kept counted c fs (with_running-kept m ts l m.t h)
    go x (inr (p, t)) = subst (λ (d : Cycle). In (pair_of x.event d) (with_pairs counted c fs)) (sym p) (with_pairs-new counted c fs x.event (within x.event t))

-- those of a running thread are counted already
pub running-counted : (m : Model) (ts : List Thread) (l : List Notification) (k : ℕ) (es : List ℕ) → k < m.t → is_running (thread_at ts k).state ≡ true
    → ((e : ℕ) → T (has es e) → T (has (listed_in m k (thread_at ts k).segment) e)) → places_with l (cycle_of (thread_at ts k).state) es ≤ length (counted_log m ts l)
running-counted m ts l k es below runs within =
    grown-length l (with_pairs l c es) (counted_log m ts l) (grown-pairs l l c es (grown-none l)) (with_running-grown m ts l l m.t (grown-none l))
    (λ x h. go x (with_pairs-only l c es h))
  where
    c : Cycle
    c = cycle_of (thread_at ts k).state

    go : (x : Notification) → In x l ⊎ ((x.cycle ≡ c) × T (has es x.event)) → In x (counted_log m ts l)
    go x (inl h) = with_running-kept m ts l m.t h
    go x (inr (p, t)) = subst (λ (d : Cycle). In (pair_of x.event d) (counted_log m ts l)) (sym p) (with_running-new m ts l m.t k x.event below runs (within x.event t))

-- What is logged and counted after the pairs es are logged at c and a drop at f, where us are running: no more than a log takes that has grown from l
-- and holds those pairs and the pairs of what runs. No running thread is before f, so that a drop takes away no pair of it.
pub dropped-shorter : (m : Model) (us : List Thread) (l b : List Notification) (c : Cycle) (es : List ℕ) (f : Bound) → Grown l b
    → ((e : ℕ) → T (has es e) → In (pair_of e c) b)
    → ((j e : ℕ) → j < m.t → is_running (thread_at us j).state ≡ true → T (has (listed_in m j (thread_at us j).segment) e) → In (pair_of e (cycle_of (thread_at us j).state)) b)
    → ((j : ℕ) → j < m.t → is_running (thread_at us j).state ≡ true → f ≼ At (cycle_of (thread_at us j).state))
    → length (counted_log m us (drop_before f (with_pairs l c es))) ≤ length b
dropped-shorter m us l b c es f grown logged running late =
    let g = with_running-grown m us (drop_before f w) (drop_before f l) m.t (grown-dropped f l w (grown-pairs l l c es (grown-none l))) in
    let k = once-length g.once grown.new (λ x i. new x (after x g i) (λ h. g.apart x i h)) in
    let p = ap length g.is ∙ length-append (drop_before f l) g.new in
    let q = ap length grown.is ∙ length-append l grown.new in
    let d = drop_before-length f l in
    omega arith
  where
    w : List Notification
    w = with_pairs l c es

    counted : List Notification
    counted = counted_log m us (drop_before f w)

    after : (x : Notification) (g : Grown (drop_before f l) counted) → In x g.new → In x counted
    after x g i = subst (In x) (sym g.is) (Memᴰ.append_right (drop_before f l) i)

    -- it stands in b, and is not dropped
    held : (x : Notification) → In x l ⊎ ((x.cycle ≡ c) × T (has es x.event)) → In x b
    held x (inl i) = subst (In x) (sym grown.is) (Memᴰ.append_left grown.new i)
    held x (inr (p, t)) = subst (λ (d : Cycle). In (pair_of x.event d) b) (sym p) (logged x.event t)

    found : (x : Notification)
        → In x (drop_before f w) ⊎ ((j : ℕ) × (j < m.t) × (is_running (thread_at us j).state ≡ true) × (x.cycle ≡ cycle_of (thread_at us j).state) × T (has (listed_in m j (thread_at us j).segment) x.event))
        → In x b × (f ≼ At x.cycle)
    found x (inl i) = let (h, n) = drop_before-only f w i in (held x (with_pairs-only l c es h), n)
    found x (inr (j, below, r, p, t)) = (
      subst (λ (d : Cycle). In (pair_of x.event d) b) (sym p) (running j x.event below r t),
      subst (λ (d : Cycle). f ≼ At d) (sym p) (late j below r),
    )

    kept : (g : Bound) (x : Notification) → In x l → g ≼ At x.cycle → In x (drop_before g l)
    kept Never x i h = absurd h
    kept (At g) x i h = drop_before-kept g l i h

    new : (x : Notification) → In x counted → (In x (drop_before f l) → ⊥) → In x grown.new
    new x i apart =
        let (h, n) = found x (with_running-only m us (drop_before f w) m.t i) in
        go (Memᴰ.append_cases l (subst (In x) grown.is h)) n
      where
        go : In x l ⊎ In x grown.new → f ≼ At x.cycle → In x grown.new
        go (inl j) n = absurd (apart (kept f x j n))
        go (inr j) n = j
