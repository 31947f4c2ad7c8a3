-- The next cycle, and a run that is done.
--     floor_of-one, some_ready-rest     some thread is ready up to the horizon only where the floor is
--     begun-rest     where the floor is past the horizon no cycle begins
--     stepped-done, run_for-done, run_for-out, run_for-on     a run that is done stands still; else it goes on by one step
use Prim.Native.Nat.{ℕ, zero, suc, ◌<◌, ◌≤◌}
use mathlib.Core.Path.{◌≡◌, refl, ap, sym, ◌∙◌}
use mathlib.Core.Logic.{◌⊎◌, inl, inr}
use mathlib.Core.Bool.{Bool, true, false, cond, not, ◌||◌}
use mathlib.Core.List.{List}
use lib.Dec.{T, T_not}
use borrow.Author.Tests.{le-ltb}
use Rattle.base.proofs.BoolLaws.{T-case, T→true, T→false}
use Rattle.base.proofs.IndexLaws.{any_below-some}
use Rattle.clock.specs.declared.Bound.{Bound}
use Rattle.clock.specs.declared.Bound.TheVariants.{Never, At}
use Rattle.clock.specs.Order.{◌≼◌}
use Rattle.clock.proofs.LeastLaws.{least_below-one}
use Rattle.model.specs.declared.Model.{Model}
use Rattle.model.specs.declared.Thread.{Thread}
use Rattle.model.specs.Limits.{is_up_to_horizon, is_bound_up_to_horizon}
use Rattle.model.specs.Record.{thread_at, ready_cycle}
use Rattle.plain.specs.Start.{Place}
use Rattle.plain.specs.Wake.{floor_below, floor_of, some_ready}
use Rattle.plain.specs.Step.{begun, closed_on, stepped}
use Rattle.plain.specs.Run.{is_done, is_out, run_for}
use Rattle.plain_laws.proofs.RecordLaws.{horizon-mono}
use Rattle.plain_laws.proofs.WakeLaws.{floor_of-≼}
use Rattle.plain_laws.proofs.DoneLaws.{is_done-stands}

is_bound_up_to_horizon-mono : (m : Model) (a b : Bound) → a ≼ b → T (is_bound_up_to_horizon m b) → T (is_bound_up_to_horizon m a)
unfolding is_bound_up_to_horizon
is_bound_up_to_horizon-mono m a Never h t = absurd t
is_bound_up_to_horizon-mono m Never (At b) h t = absurd h
is_bound_up_to_horizon-mono m (At a) (At b) h t = horizon-mono m h t

module _ (m : Model) (ts : List Thread) where
  pub floor_of-one : (floor_of m ts ≡ Never) ⊎ ((k : ℕ) × (k < m.t) × (floor_of m ts ≡ ready_cycle (thread_at ts k).state))
  unfolding floor_below
  floor_of-one = least_below-one m.t _

  -- the floor is past the horizon, so no thread is ready up to it
  pub some_ready-rest : T (not (is_bound_up_to_horizon m (floor_of m ts))) → some_ready m ts ≡ false
  unfolding some_ready
  some_ready-rest n = go (T-case (some_ready m ts))
    where
      go : T (some_ready m ts) ⊎ T (not (some_ready m ts)) → some_ready m ts ≡ false
      go (inr t) = T→false (some_ready m ts) t
      go (inl t) = let (k, h, u) = any_below-some m.t _ t in
          absurd (T_not (is_bound_up_to_horizon m (floor_of m ts)) n (is_bound_up_to_horizon-mono m (floor_of m ts) (ready_cycle (thread_at ts k).state) (floor_of-≼ m ts k h) u))

pub begun-rest : (m : Model) (f : Bound) (p : Place) → T (not (is_bound_up_to_horizon m f)) → begun m f p ≡ p
unfolding begun is_bound_up_to_horizon
begun-rest m Never p n = refl
begun-rest m (At c) p n = rw (T→false (is_up_to_horizon m c) n) refl

module _ (m : Model) (p : Place) where
  pub stepped-close : m.t ≤ p.turn → stepped m p ≡ closed_on m p
  unfolding stepped
  stepped-close h = rw (le-ltb p.turn m.t h) refl

  stepped-done : T (is_done m p) → stepped m p ≡ p
  stepped-done t = is_done-stands m p (T→true (is_done m p) t)

  module _ (budget : ℕ) where
    pub run_for-done : (s : ℕ) → T (is_done m p) → run_for m budget s p ≡ p
    unfolding run_for
    run_for-done zero t = refl
    run_for-done (suc s) t = rw (T→true (is_done m p) t) refl

    pub run_for-out : (s : ℕ) → T (is_out m budget p) → run_for m budget s p ≡ p
    unfolding run_for
    run_for-out zero t = refl
    run_for-out (suc s) t = go (is_done m p)
      where
        go : (b : Bool) → cond (b || is_out m budget p) p (run_for m budget s (stepped m p)) ≡ p
        go true = refl
        go false = rw (T→true (is_out m budget p) t) refl

run_for-more : (m : Model) (budget s : ℕ) (p : Place) → is_done m p ≡ false → is_out m budget p ≡ false → run_for m budget (suc s) p ≡ run_for m budget s (stepped m p)
unfolding run_for
run_for-more m budget s p d o = rw (d, o) refl

-- a run that has a place for its next segment goes on by one step, done or not
pub run_for-on : (m : Model) (budget s : ℕ) (p : Place) → T (not (is_out m budget p)) → run_for m budget (suc s) p ≡ run_for m budget s (stepped m p)
run_for-on m budget s p o = go (T-case (is_done m p))
  where
    go : T (is_done m p) ⊎ T (not (is_done m p)) → run_for m budget (suc s) p ≡ run_for m budget s (stepped m p)
    go (inl t) = run_for-done m p budget (suc s) t ∙ (sym (run_for-done m p budget s t) ∙ ap (run_for m budget s) (sym (stepped-done m p t)))
    go (inr t) = run_for-more m budget s p (T→false (is_done m p) t) (T→false (is_out m budget p) o)
