-- One step of the plain run: which of the three kinds it is, and what each leaves of the place.
-- A step looks at one thread, which runs or is passed over, or it closes the cycle; a close begins the next cycle or rests.
--     kind_of, Sees, sees     the kind, and what it tells
--     closed→turned, turned→closed, ready→ran     the kind told by turn and state
--     stepped-variables-ran, stepped-variables-other     the variables after it
--     stepped-threads-length     the number of records is kept
use Prim.Native.Nat.{ℕ, suc, ◌+◌, ◌<◌, ◌≤◌}
use mathlib.Core.Path.{◌≡◌, refl, ap, sym, ◌∙◌, subst}
use mathlib.Core.Logic.{◌⊎◌, inl, inr}
use mathlib.Core.Bool.{not, cond}
use mathlib.Core.List.{List, [], ◌++◌}
use native.Mathlib.Omega.{arith}
use lib.Dec.{T, ltb, ltb→lt, nltb→le, T_not}
use lib.ListN.{length, set, length-set}
use Rattle.base.proofs.BoolLaws.{T-case, T→true, T→false}
use Rattle.clock.specs.declared.Cycle.{Cycle}
use Rattle.clock.specs.declared.Bound.{Bound}
use Rattle.clock.specs.declared.Bound.TheVariants.{Never, At}
use Rattle.clock.proofs.CycleLaws.{is_same→≡, ≡→is_same}
use Rattle.model.specs.declared.Model.{Model}
use Rattle.model.specs.declared.State.{State}
use Rattle.model.specs.declared.Thread.{Thread}
use Rattle.model.specs.Limits.{is_up_to_horizon}
use Rattle.model.specs.Record as view
use Rattle.model.specs.Record.{thread_at, View, view_of, ready_cycle_of}
use Rattle.model.specs.Effect.{Effect, effect_of}
use Rattle.plain.specs.Start.{Place}
use Rattle.plain.specs.Wake.{woken, floor_of}
use Rattle.plain.specs.Step.{is_at, is_due, ran_on, passed_on, begun, closed_on, stepped, place_at}
use Rattle.plain_laws.proofs.WakeLaws.{woken-length}

-- the record of thread k at a place, and its state
abbrev pub record_of : Place → ℕ → Thread
record_of p k = thread_at p.threads k

abbrev pub state_of : Place → ℕ → State
state_of p k = (record_of p k).state

-- the records after the wakes of a place
abbrev pub woken_at : Place → List Thread
woken_at p = woken p.notified p.now p.threads

-- what the thread whose turn it is does, if it runs
abbrev pub effect_at : Model → Place → Effect
effect_at m p = effect_of m p.turn (record_of p p.turn).segment p.now p.variables

pub data Kind : Type 0 where
  ran passed closed : Kind

unfoldable pub kind_of : Model → Place → Kind
kind_of m p = cond (ltb p.turn m.t) (cond (is_due p) ran passed) closed

-- what a step leaves: a thread has run; it was passed over; the next cycle begins at c; the run rests
abbrev pub ran_at : Model → Place → Place
ran_at m p =
    record {
      variables = (effect_at m p).variables;
      threads = set p.threads p.turn (effect_at m p).thread;
      now = p.now;
      turn = p.turn + 1;
      notified = p.notified ++ (effect_at m p).notified;
      n = p.n + 1;
    }

abbrev pub passed_at : Place → Place
passed_at p = record { variables = p.variables; threads = p.threads; now = p.now; turn = p.turn + 1; notified = p.notified; n = p.n }

abbrev pub begun_at : Place → Cycle → Place
begun_at p c = record { variables = p.variables; threads = woken_at p; now = c; turn = 0; notified = []; n = p.n }

abbrev pub rested_at : Place → Place
rested_at p = record { variables = p.variables; threads = woken_at p; now = p.now; turn = p.turn; notified = []; n = p.n }

-- a bound that is past the horizon
pub data Late (m : Model) (f : Bound) : Type 0 where
  never : f ≡ Never → Late m f
  late : (c : Cycle) → f ≡ At c → T (not (is_up_to_horizon m c)) → Late m f

-- the kind of a step, and what it tells; a close begins the next cycle, or rests
pub data Sees (m : Model) (p : Place) : Type 0 where
  sees_ran : kind_of m p ≡ ran → p.turn < m.t → view_of (state_of p p.turn) ≡ view.ready p.now → stepped m p ≡ ran_at m p → Sees m p
  sees_passed : kind_of m p ≡ passed → p.turn < m.t → (view_of (state_of p p.turn) ≡ view.ready p.now → ⊥) → stepped m p ≡ passed_at p → Sees m p
  sees_begun : kind_of m p ≡ closed → m.t ≤ p.turn → (c : Cycle) → floor_of m (woken_at p) ≡ At c → T (is_up_to_horizon m c) → stepped m p ≡ begun_at p c → Sees m p
  sees_rested : kind_of m p ≡ closed → m.t ≤ p.turn → Late m (floor_of m (woken_at p)) → stepped m p ≡ rested_at p → Sees m p

is_at→ready : (c : Cycle) (v : View) → T (is_at c (ready_cycle_of v)) → v ≡ view.ready c
unfolding is_at
is_at→ready c view.idle t = absurd t
is_at→ready c (view.ready d) t = ap view.ready (is_same→≡ d c t)
is_at→ready c (view.waits e d) t = absurd t

ready→is_at : (c : Cycle) (v : View) → v ≡ view.ready c → T (is_at c (ready_cycle_of v))
unfolding is_at
ready→is_at c v e = subst (λ (x : View). T (is_at c (ready_cycle_of x))) (sym e) (≡→is_same refl)

pub is_due→ready : (p : Place) → T (is_due p) → view_of (state_of p p.turn) ≡ view.ready p.now
unfolding is_due
is_due→ready p t = is_at→ready p.now (view_of (state_of p p.turn)) t

pub ready→is_due : (p : Place) → view_of (state_of p p.turn) ≡ view.ready p.now → T (is_due p)
unfolding is_due
ready→is_due p e = ready→is_at p.now (view_of (state_of p p.turn)) e

closes : (m : Model) (p : Place) → kind_of m p ≡ closed → m.t ≤ p.turn → stepped m p ≡ closed_on m p → Sees m p
unfolding closed_on begun
closes m p k h s = go (floor_of m (woken_at p)) refl
  where
    go : (f : Bound) → floor_of m (woken_at p) ≡ f → Sees m p
    go Never e = sees_rested k h (never e) (s ∙ rw e refl)
    go (At c) e = test (T-case (is_up_to_horizon m c))
      where
        test : T (is_up_to_horizon m c) ⊎ T (not (is_up_to_horizon m c)) → Sees m p
        test (inl b) = sees_begun k h c e b (s ∙ rw (e, T→true (is_up_to_horizon m c) b) refl)
        test (inr b) = sees_rested k h (late c e b) (s ∙ rw (e, T→false (is_up_to_horizon m c) b) refl)

pub sees : (m : Model) (p : Place) → Sees m p
unfolding kind_of stepped ran_on passed_on
sees m p = go (T-case (ltb p.turn m.t)) (T-case (is_due p))
  where
    go : T (ltb p.turn m.t) ⊎ T (not (ltb p.turn m.t)) → T (is_due p) ⊎ T (not (is_due p)) → Sees m p
    go (inl h) (inl d) =
        let q = T→true (ltb p.turn m.t) h in
        let r = T→true (is_due p) d in
        sees_ran (rw (q, r) refl) (ltb→lt p.turn m.t h) (is_due→ready p d) (rw (q, r) refl)
    go (inl h) (inr d) =
        let q = T→true (ltb p.turn m.t) h in
        let r = T→false (is_due p) d in
        sees_passed (rw (q, r) refl) (ltb→lt p.turn m.t h) (λ e. T_not (is_due p) d (ready→is_due p e)) (rw (q, r) refl)
    go (inr h) d =
        let q = T→false (ltb p.turn m.t) h in
        closes m p (rw q refl) (nltb→le p.turn m.t h) (rw q refl)

-- the next place
pub place_at-more : (m : Model) (i : ℕ) → place_at m (suc i) ≡ stepped m (place_at m i)
unfolding place_at
place_at-more m i = refl

-- kinds differ
pub ran-not-passed : {x : Kind} → x ≡ ran → x ≡ passed → ⊥
ran-not-passed p q = let z : ◌≡◌ {A = ℕ} 0 1 = cc in omega arith

pub ran-not-closed : {x : Kind} → x ≡ ran → x ≡ closed → ⊥
ran-not-closed p q = let z : ◌≡◌ {A = ℕ} 0 1 = cc in omega arith

pub passed-not-closed : {x : Kind} → x ≡ passed → x ≡ closed → ⊥
passed-not-closed p q = let z : ◌≡◌ {A = ℕ} 0 1 = cc in omega arith

-- the kind told by turn and state
module _ (m : Model) (p : Place) where
  pub closed→turned : kind_of m p ≡ closed → m.t ≤ p.turn
  closed→turned k = go (sees m p)
    where
      go : Sees m p → m.t ≤ p.turn
      go (sees_ran q h r s) = absurd (ran-not-closed q k)
      go (sees_passed q h r s) = absurd (passed-not-closed q k)
      go (sees_begun q h c f b s) = h
      go (sees_rested q h l s) = h

  pub turned→closed : m.t ≤ p.turn → kind_of m p ≡ closed
  turned→closed l = go (sees m p)
    where
      go : Sees m p → kind_of m p ≡ closed
      go (sees_ran q h r s) = absurd (omega arith)
      go (sees_passed q h r s) = absurd (omega arith)
      go (sees_begun q h c f b s) = q
      go (sees_rested q h l s) = q

  pub ready→ran : p.turn < m.t → view_of (state_of p p.turn) ≡ view.ready p.now → kind_of m p ≡ ran
  ready→ran l e = go (sees m p)
    where
      go : Sees m p → kind_of m p ≡ ran
      go (sees_ran q h r s) = q
      go (sees_passed q h r s) = absurd (r e)
      go (sees_begun q h c f b s) = absurd (omega arith)
      go (sees_rested q h f s) = absurd (omega arith)

-- what each kind leaves of the variables
pub stepped-variables-ran : (m : Model) (p : Place) → kind_of m p ≡ ran → (stepped m p).variables ≡ (effect_at m p).variables
stepped-variables-ran m p k = go (sees m p)
  where
    go : Sees m p → (stepped m p).variables ≡ (effect_at m p).variables
    go (sees_ran q h r s) = ap (λ (x : Place). x.variables) s
    go (sees_passed q h r s) = absurd (ran-not-passed k q)
    go (sees_begun q h c f b s) = absurd (ran-not-closed k q)
    go (sees_rested q h l s) = absurd (ran-not-closed k q)

pub stepped-variables-other : (m : Model) (p : Place) → (kind_of m p ≡ ran → ⊥) → (stepped m p).variables ≡ p.variables
stepped-variables-other m p other = go (sees m p)
  where
    go : Sees m p → (stepped m p).variables ≡ p.variables
    go (sees_ran q h r s) = absurd (other q)
    go (sees_passed q h r s) = ap (λ (x : Place). x.variables) s
    go (sees_begun q h c f b s) = ap (λ (x : Place). x.variables) s
    go (sees_rested q h l s) = ap (λ (x : Place). x.variables) s

-- the number of records is kept
pub stepped-threads-length : (m : Model) (p : Place) → length (stepped m p).threads ≡ length p.threads
stepped-threads-length m p = go (sees m p)
  where
    go : Sees m p → length (stepped m p).threads ≡ length p.threads
    go (sees_ran q h r s) = rw s (length-set p.threads p.turn (effect_at m p).thread)
    go (sees_passed q h r s) = rw s refl
    go (sees_begun q h c f b s) = rw s (woken-length p.notified p.now p.threads)
    go (sees_rested q h l s) = rw s (woken-length p.notified p.now p.threads)
