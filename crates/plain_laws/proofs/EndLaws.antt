-- The plain run ends: a model that keeps the file rules is done after last_step steps.
-- Every step but the last close of all moves the turn on, or begins a later cycle; a cycle is one of 1,024 deltas of a time before
-- the horizon, and has T + 1 steps. So a thread that is ready up to the horizon does run.
--     key_of, key_of-mono     a cycle as one number
--     ends, done_at     the run is done at last_step, and from then on
--     Running, will-run     a thread ready up to the horizon runs, and nothing happens to it until then
use Prim.Native.Nat.{ℕ, zero, suc, ◌+◌, ◌*◌, ◌<◌, ◌≤◌}
use mathlib.Core.Path.{◌≡◌, ap, sym, ◌∙◌, subst}
use mathlib.Core.Logic.{◌⊎◌, inl, inr}
use mathlib.Core.Bool.{true}
use native.Mathlib.Nat.{add-zero, mul-le-mul_right}
use native.Mathlib.Omega.{arith}
use lib.Dec.{T}
use Rattle.clock.specs.declared.Cycle.{Cycle}
use Rattle.clock.specs.Order.{Before, sooner, same_time}
use Rattle.clock.specs.Wait.{last_delta}
use Rattle.model.specs.declared.Model.{Model}
use Rattle.model.specs.declared.Thread.{Thread}
use Rattle.model.specs.Limits.{end_time, is_up_to_horizon}
use Rattle.model.specs.Record as view
use Rattle.model.specs.Record.{view_of}
use Rattle.plain.specs.Step.{stepped, place_at}
use Rattle.plain.specs.Run.{is_done, last_step}
use Rattle.plain_laws.proofs.RecordLaws.{ready-same, ready-not-waits}
use Rattle.plain_laws.proofs.StepLaws.{state_of, place_at-more}
use Rattle.plain_laws.proofs.StartLaws.{shape}
use Rattle.plain_laws.proofs.HappenLaws.{Runs, Happens, idle, runs, hears, happens-at}
use Rattle.plain_laws.proofs.QuietLaws.{Quiet, quiet_none, quiet-more}
use Rattle.plain_laws.proofs.SteadyLaws.{Moves, turns, begins, rests, moves-at}
use Rattle.plain_laws.proofs.DoneLaws.{is_done-ready, is_done-later, rested-done}
use Rattle.plain_laws.proofs.RangeLaws.{Keeps, in-range}

abbrev pub key_of : Cycle → ℕ
key_of c = c.time.0 * 1024 + c.delta.0

pub key_of-mono : (a b : Cycle) → a.delta.0 ≤ last_delta → Before a b → key_of a < key_of b
key_of-mono a b h (sooner p) = omega arith
key_of-mono a b h (same_time p q) = omega arith

-- a cycle of t + 1 steps is over, and a later one begins
next-cycle : (a b t u i : ℕ) → a < b → u ≤ t → i ≤ a * (t + 1) + u → suc i ≤ b * (t + 1)
next-cycle a b t u i h l g = let more : suc a * (t + 1) ≤ b * (t + 1) = mul-le-mul_right (t + 1) h in omega arith

-- no cycle up to the horizon is left
last-cycle : (a h t u : ℕ) → a < 1024 * h → u ≤ t → 1024 * h * (t + 1) ≤ a * (t + 1) + u → ⊥
last-cycle a h t u l m g = let more : suc a * (t + 1) ≤ 1024 * h * (t + 1) = mul-le-mul_right (t + 1) l in omega arith

module _ (m : Model) (kept : Keeps m) where
  -- the run is done, or it has come as far as its steps
  abbrev Going : ℕ → Type 0
  Going i = (is_done m (place_at m i) ≡ true) ⊎ (i ≤ key_of (place_at m i).now * (m.t + 1) + (place_at m i).turn)

  going_step : (i : ℕ) → Going i → Going (suc i)
  going_step i (inl d) = inl (is_done-later m i d (suc i) (omega arith))
  going_step i (inr l) = go (moves-at m i)
    where
      go : Moves m (place_at m i) → Going (suc i)
      go (turns q h n t) = inr (rw (place_at-more m i, n, t) (omega arith))
      go (begins q h b f t n) =
          inr (rw (place_at-more m i, t, add-zero)
          (next-cycle (key_of (place_at m i).now) (key_of (stepped m (place_at m i)).now) m.t (place_at m i).turn i
          (key_of-mono (place_at m i).now (stepped m (place_at m i)).now (in-range m kept i).now_delta b)
          (shape m i).turns
          l))
      go (rests q h f s) = inl (rw (place_at-more m i) (rested-done m (place_at m i) h f s))

  going : (i : ℕ) → Going i
  going zero = inr (omega arith)
  going (suc i) = going_step i (going i)

  -- the run is done after last_step steps
  pub ends : is_done m (place_at m (last_step m)) ≡ true
  ends = go (going (last_step m))
    where
      go : Going (last_step m) → is_done m (place_at m (last_step m)) ≡ true
      go (inl d) = d
      go (inr l) =
          let r = in-range m kept (last_step m) in
          absurd (last-cycle (key_of (place_at m (last_step m)).now) (end_time m) m.t (place_at m (last_step m)).turn
          (omega (arith, r.now_time, r.now_delta)) (shape m (last_step m)).turns l)

  pub done_at : (i : ℕ) → last_step m ≤ i → is_done m (place_at m i) ≡ true
  done_at i h = is_done-later m (last_step m) ends i h

-- thread k, ready at cycle c at place n, runs at a later place
pub record Running (m : Model) (k n : ℕ) (c : Cycle) : Type 0 where
  pub place : ℕ
  pub quiet : Quiet m k n place
  pub runs : Runs m (place_at m place) k
  pub now : (place_at m place).now ≡ c

module _ (m : Model) (k n : ℕ) (c : Cycle) where
  -- it runs within d steps if it is not ready at c after them
  runs-within : (d j : ℕ) → Quiet m k n j → view_of (state_of (place_at m n) k) ≡ view.ready c → (view_of (state_of (place_at m (j + d)) k) ≡ view.ready c → ⊥) → Running m k n c
  runs-within zero j g r stop = absurd (stop (rw add-zero (ap (λ (t : Thread). view_of t.state) (g.still j g.forth (omega arith)) ∙ r)))
  runs-within (suc d) j g r stop = go (runs-within d (suc j)) (happens-at m j k)
    where
      here : view_of (state_of (place_at m j) k) ≡ view.ready c
      here = ap (λ (t : Thread). view_of t.state) (g.still j g.forth (omega arith)) ∙ r

      go : (Quiet m k n (suc j) → view_of (state_of (place_at m n) k) ≡ view.ready c → (view_of (state_of (place_at m (suc j + d)) k) ≡ view.ready c → ⊥) → Running m k n c) → Happens m (place_at m j) k → Running m k n c
      go ih (idle s x h i) = let e : suc j + d ≡ j + suc d = omega arith in ih (quiet-more m k n j g s x h i) r (λ f. stop (subst (λ (y : ℕ). view_of (state_of (place_at m y) k) ≡ view.ready c) e f))
      go ih (runs x y s i) = record { place = j; quiet = g; runs = x; now = ready-same (sym y ∙ here) }
      go ih (hears e h s i) = absurd (ready-not-waits here h.waiting)

  pub will-run : Keeps m → k < m.t → view_of (state_of (place_at m n) k) ≡ view.ready c → T (is_up_to_horizon m c) → Running m k n c
  will-run kept h r b =
      runs-within (last_step m) n (quiet_none m k n) r
      (λ q. is_done-ready m (place_at m (n + last_step m)) (done_at m kept (n + last_step m) (omega arith)) k c h q b)
