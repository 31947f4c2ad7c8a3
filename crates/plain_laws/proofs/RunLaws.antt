-- The run with a budget: it follows the plain run step by step, and stops at a place that is done, or where the next segment has no place
-- in the budget. Given last_step steps it stops at one of the two.
--     run_for-none, run_for-stop, run_for-more     the definition opened
--     Stopped, run_for-place     the place where it stops, and that it stops at no earlier one
--     is_out-parts, is_out-made, is_out-mono     the budget is out
--     n_within, n-most     segments run: at most the budget, at most one a step
use Prim.Native.Nat.{ℕ, zero, suc, ◌+◌, ◌<◌, ◌≤◌}
use mathlib.Core.Path.{◌≡◌, refl, ◌∙◌}
use mathlib.Core.Logic.{◌⊎◌, inl, inr}
use mathlib.Core.Bool.{true, false, not, ◌&&◌, ◌||◌}
use native.Mathlib.Omega.{arith}
use native.Mathlib.Decide.{ℕ_discrete}
use lib.Dec.{T, ltb, leb, ltb→lt, lt→ltb, leb→le, le→leb, T_not}
use Rattle.base.proofs.BoolLaws.{T-case, T→true, T→false, true→T, and→both, both→and, either→or}
use Rattle.model.specs.declared.Model.{Model}
use Rattle.model.specs.Record as view
use Rattle.model.specs.Record.{view_of}
use Rattle.plain.specs.Start.{Place}
use Rattle.plain.specs.Step.{is_due, stepped, place_at}
use Rattle.plain.specs.Run.{is_done, is_out, run_for}
use Rattle.plain_laws.proofs.StepLaws.{state_of, is_due→ready, ready→is_due, Sees, sees, sees_ran, sees_passed, sees_begun, sees_rested, place_at-more}
use Rattle.plain_laws.proofs.StartLaws.{start_of-n}

module _ (m : Model) (budget : ℕ) (p : Place) where
  pub run_for-none : run_for m budget 0 p ≡ p
  unfolding run_for
  run_for-none = refl

  pub run_for-stop : (steps : ℕ) → is_done m p || is_out m budget p ≡ true → run_for m budget (suc steps) p ≡ p
  unfolding run_for
  run_for-stop steps e = rw e refl

  pub run_for-more : (steps : ℕ) → is_done m p || is_out m budget p ≡ false → run_for m budget (suc steps) p ≡ run_for m budget steps (stepped m p)
  unfolding run_for
  run_for-more steps e = rw e refl

  -- the next segment has no place in the budget
  pub record Out : Type 0 where
    pub turn : p.turn < m.t
    pub due : view_of (state_of p p.turn) ≡ view.ready p.now
    pub spent : budget ≤ p.n

  pub is_out-parts : is_out m budget p ≡ true → Out
  unfolding is_out
  is_out-parts e =
      let (a, n) = and→both (ltb p.turn m.t && is_due p) (leb budget p.n) (true→T (is_out m budget p) e) in
      let (h, d) = and→both (ltb p.turn m.t) (is_due p) a in
      record { turn = ltb→lt p.turn m.t h; due = is_due→ready p d; spent = leb→le budget p.n n }

  pub is_out-made : Out → is_out m budget p ≡ true
  unfolding is_out
  is_out-made o =
      T→true (is_out m budget p)
      (both→and (ltb p.turn m.t && is_due p) (leb budget p.n)
      (both→and (ltb p.turn m.t) (is_due p) (lt→ltb p.turn m.t o.turn) (ready→is_due p o.due))
      (le→leb budget p.n o.spent))

-- a larger budget is not out sooner
pub is_out-mono : (m : Model) (a b : ℕ) (p : Place) → a ≤ b → is_out m b p ≡ true → is_out m a p ≡ true
is_out-mono m a b p h e =
    let o = is_out-parts m b p e in
    is_out-made m a p (record { turn = o.turn; due = o.due; spent = omega (arith, o.spent) })

-- the run goes on from a place
abbrev pub GoesOn : Model → ℕ → Place → Type 0
GoesOn m budget p = T (not (is_done m p)) × T (not (is_out m budget p))

-- the run for so many steps from step i on
pub record Stopped (m : Model) (budget steps i : ℕ) : Type 0 where
  pub place : ℕ
  pub from : i ≤ place
  pub within : place ≤ i + steps
  pub result : run_for m budget steps (place_at m i) ≡ place_at m place
  pub goes_on : (q : ℕ) → i ≤ q → q < place → GoesOn m budget (place_at m q)
  pub stops : (place ≡ i + steps) ⊎ ((is_done m (place_at m place) ≡ true) ⊎ (is_out m budget (place_at m place) ≡ true))

module _ (m : Model) (budget : ℕ) where
  stopped_more : (steps i : ℕ) → GoesOn m budget (place_at m i) → Stopped m budget steps (suc i) → Stopped m budget (suc steps) i
  stopped_more steps i (d, o) s =
      record {
        place = s.place;
        from = omega (arith, s.from);
        within = omega (arith, s.within);
        result = run_for-more m budget (place_at m i) steps none ∙ rw (← place_at-more m i) s.result;
        goes_on = λ q a b. earlier q a b (ℕ_discrete q i);
        stops = stops s.stops;
      }
    where
      none : is_done m (place_at m i) || is_out m budget (place_at m i) ≡ false
      none = rw (T→false (is_done m (place_at m i)) d, T→false (is_out m budget (place_at m i)) o) refl

      earlier : (q : ℕ) → i ≤ q → q < s.place → Dec (q ≡ i) → GoesOn m budget (place_at m q)
      earlier q a b (yes e) = rw e (d, o)
      earlier q a b (no e) = s.goes_on q (omega arith) b

      stops : (s.place ≡ suc i + steps) ⊎ ((is_done m (place_at m s.place) ≡ true) ⊎ (is_out m budget (place_at m s.place) ≡ true))
          → (s.place ≡ i + suc steps) ⊎ ((is_done m (place_at m s.place) ≡ true) ⊎ (is_out m budget (place_at m s.place) ≡ true))
      stops (inl e) = inl (omega arith)
      stops (inr e) = inr e

  stopped-here : (steps i : ℕ) → (is_done m (place_at m i) ≡ true) ⊎ (is_out m budget (place_at m i) ≡ true) → Stopped m budget (suc steps) i
  stopped-here steps i s =
      record {
        place = i;
        from = omega arith;
        within = omega arith;
        result = run_for-stop m budget (place_at m i) steps (T→true _ (either→or (is_done m (place_at m i)) (is_out m budget (place_at m i)) (one s)));
        goes_on = λ q a b. absurd (omega arith);
        stops = inr s;
      }
    where
      one : (is_done m (place_at m i) ≡ true) ⊎ (is_out m budget (place_at m i) ≡ true) → T (is_done m (place_at m i)) ⊎ T (is_out m budget (place_at m i))
      one (inl e) = inl (true→T (is_done m (place_at m i)) e)
      one (inr e) = inr (true→T (is_out m budget (place_at m i)) e)

  -- a run with a budget stands at some place of the plain run
  pub run_for-place : (steps i : ℕ) → Stopped m budget steps i
  run_for-place zero i =
      record { place = i; from = omega arith; within = omega arith; result = run_for-none m budget (place_at m i); goes_on = λ q a b. absurd (omega arith); stops = inl (omega arith) }
  run_for-place (suc steps) i = go (T-case (is_done m (place_at m i))) (T-case (is_out m budget (place_at m i))) (run_for-place steps (suc i))
    where
      go : T (is_done m (place_at m i)) ⊎ T (not (is_done m (place_at m i))) → T (is_out m budget (place_at m i)) ⊎ T (not (is_out m budget (place_at m i)))
          → Stopped m budget steps (suc i) → Stopped m budget (suc steps) i
      go (inl d) o on = stopped-here steps i (inl (T→true (is_done m (place_at m i)) d))
      go (inr d) (inl o) on = stopped-here steps i (inr (T→true (is_out m budget (place_at m i)) o))
      go (inr d) (inr o) on = stopped_more steps i (d, o) on

  -- it runs at most that many segments
  n-step : (p : Place) → p.n ≤ budget → GoesOn m budget p → (stepped m p).n ≤ budget
  n-step p h (d, o) = go (sees m p)
    where
      less : p.turn < m.t → view_of (state_of p p.turn) ≡ view.ready p.now → Dec (p.n ≡ budget) → p.n < budget
      less l r (no e) = omega arith
      less l r (yes e) = absurd (T_not (is_out m budget p) o (true→T (is_out m budget p) (is_out-made m budget p (record { turn = l; due = r; spent = omega arith }))))

      go : Sees m p → (stepped m p).n ≤ budget
      go (sees_ran q l r s) = rw s (omega (arith, less l r (ℕ_discrete p.n budget)))
      go (sees_passed q l r s) = rw s h
      go (sees_begun q l c f b s) = rw s h
      go (sees_rested q l f s) = rw s h

  pub n_within : (j : ℕ) → ((q : ℕ) → q < j → GoesOn m budget (place_at m q)) → (place_at m j).n ≤ budget
  unfolding place_at
  n_within zero on = omega (arith, start_of-n m)
  n_within (suc j) on = n-step (place_at m j) (n_within j (λ q l. on q (omega arith))) (on j (omega arith))

-- at most one segment a step
pub n-most : (m : Model) (j : ℕ) → (place_at m j).n ≤ j
unfolding place_at
n-most m zero = omega (arith, start_of-n m)
n-most m (suc j) = go (n-most m j) (sees m (place_at m j))
  where
    go : (place_at m j).n ≤ j → Sees m (place_at m j) → (stepped m (place_at m j)).n ≤ suc j
    go h (sees_ran q l r s) = rw s (omega arith)
    go h (sees_passed q l r s) = rw s (omega arith)
    go h (sees_begun q l c f b s) = rw s (omega arith)
    go h (sees_rested q l f s) = rw s (omega arith)
