-- The plain run goes by stamps: of two steps that run threads, the earlier has the smaller stamp. So a stamp is run once.
--     turn_on     within a cycle each step moves the turn on by one
--     run-stamps     the earlier step has the smaller stamp
--     run-once     one cycle and one thread: one step
use Prim.Native.Nat.{ℕ, zero, suc, ◌+◌, ◌-◌, ◌<◌, ◌≤◌}
use mathlib.Core.Path.{◌≡◌, ap, sym, ◌∙◌, subst}
use mathlib.Core.Logic.{inl, inr}
use native.Mathlib.Nat.{add-zero, add-suc}
use native.Mathlib.Omega.{arith}
use native.Mathlib.Decide.{dec_lt}
use Rattle.clock.specs.declared.Cycle.{Cycle}
use Rattle.clock.specs.Cycle.{stamp_at}
use Rattle.clock.specs.Order.{Before}
use Rattle.clock.proofs.OrderLaws.{Three, before, same, after, Before-total, Before-irrefl, Before→not-⊑, ⊑-Before-trans}
use Rattle.clock.proofs.CycleLaws.{StampBefore}
use Rattle.model.specs.declared.Model.{Model}
use Rattle.plain.specs.Step.{stepped, place_at}
use Rattle.plain_laws.proofs.StepLaws.{ran, closed, kind_of, place_at-more}
use Rattle.plain_laws.proofs.HappenLaws.{Runs}
use Rattle.plain_laws.proofs.SteadyLaws.{Moves, turns, begins, rests, moves-at, now_mono}
use Rattle.plain_laws.proofs.DoneLaws.{closed-then-ran}

module _ (m : Model) where
  -- within a cycle each step moves the turn on by one
  pub turn_on : (i d : ℕ) → ((r : ℕ) → i ≤ r → r < i + d → kind_of m (place_at m r) ≡ closed → ⊥) → (place_at m (i + d)).turn ≡ (place_at m i).turn + d
  turn_on i zero same-cycle = rw (add-zero i) (omega arith)
  turn_on i (suc d) same-cycle = rw (add-suc i d, place_at-more m (i + d)) (go (moves-at m (i + d)) (turn_on i d (λ r a b. same-cycle r a (omega arith))))
    where
      closing : kind_of m (place_at m (i + d)) ≡ closed → ⊥
      closing = same-cycle (i + d) (omega arith) (omega arith)

      go : Moves m (place_at m (i + d)) → (place_at m (i + d)).turn ≡ (place_at m i).turn + d → (stepped m (place_at m (i + d))).turn ≡ (place_at m i).turn + suc d
      go (turns q h n t) e = omega arith
      go (begins q h b f t n) e = absurd (closing q)
      go (rests q h f s) e = absurd (closing q)

  -- a close before a step that runs, not before step i: the cycle of i is past
  closed-between : (i r j : ℕ) → i ≤ r → r < j → kind_of m (place_at m r) ≡ closed → kind_of m (place_at m j) ≡ ran → Before (place_at m i).now (place_at m j).now
  closed-between i r j h l q k = ⊑-Before-trans (now_mono m i r h) (closed-then-ran m r j l q k)

  pub run-stamps : (i j k l : ℕ) → i < j → Runs m (place_at m i) k → Runs m (place_at m j) l → StampBefore (stamp_at (place_at m i).now k) (stamp_at (place_at m j).now l)
  run-stamps i j k l h (p, e) (q, f) = go (Before-total (place_at m i).now (place_at m j).now)
    where
      go : Three (place_at m i).now (place_at m j).now → StampBefore (stamp_at (place_at m i).now k) (stamp_at (place_at m j).now l)
      go (before b) = inl b
      go (same n) =
          let on = turn_on i (j - i) (λ r a b c. Before-irrefl (subst (λ (x : Cycle). Before x (place_at m j).now) n (closed-between i r j a (omega arith) c q))) in
          let there : i + (j - i) ≡ j = omega arith in
          let turn : (place_at m j).turn ≡ (place_at m i).turn + (j - i) = ap (λ (x : ℕ). (place_at m x).turn) (sym there) ∙ on in
          inr (n, omega arith)
      go (after b) = absurd (Before→not-⊑ b (now_mono m i j (omega arith)))

  -- one cycle and one thread: one step
  pub run-once : (i j k : ℕ) → Runs m (place_at m i) k → Runs m (place_at m j) k → (place_at m i).now ≡ (place_at m j).now → i ≡ j
  run-once i j k p q n = go (dec_lt i j) (dec_lt j i)
    where
      never : (a b : ℕ) → a < b → Runs m (place_at m a) k → Runs m (place_at m b) k → (place_at m a).now ≡ (place_at m b).now → ⊥
      never a b h x y e = stamp (run-stamps a b k k h x y)
        where
          stamp : StampBefore (stamp_at (place_at m a).now k) (stamp_at (place_at m b).now k) → ⊥
          stamp (inl c) = Before-irrefl (subst (λ (z : Cycle). Before z (place_at m b).now) e c)
          stamp (inr (_, c)) = omega arith

      go : Dec (i < j) → Dec (j < i) → i ≡ j
      go (yes h) d = absurd (never i j h p q n)
      go (no h) (yes l) = absurd (never j i l q p (sym n))
      go (no h) (no l) = omega arith
