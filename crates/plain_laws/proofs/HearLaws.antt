-- A waiting thread in the plain run: its wait has begun, and what it could hear is still to come.
-- For if a cycle in which its event was notified closes after the wait began, it hears there and waits no more.
--     begun     the wait began now or before
--     unheard     a notification of its event came before the wait began, or is still to be heard
--     Hearing, will-hear     a notification not before the wait is heard, or one before it is
use Prim.Native.Nat.{ℕ, zero, suc, ◌+◌, ◌<◌, ◌≤◌}
use mathlib.Core.Path.{◌≡◌, ap, sym, ◌∙◌, subst}
use mathlib.Core.Logic.{◌⊎◌, inl, inr}
use native.Mathlib.Omega.{arith}
use native.Mathlib.Decide.{dec_lt, ℕ_discrete}
use lib.Dec.{T}
use Rattle.clock.specs.declared.Cycle.{Cycle}
use Rattle.clock.specs.declared.Wait.TheVariants as wait
use Rattle.clock.specs.Order.{Before, ◌⊑◌}
use Rattle.clock.specs.Wait.{wait_ends}
use Rattle.clock.proofs.OrderLaws.{⊑_refl, ⊑_trans, ≡→⊑, Before-irrefl, Before→not-⊑}
use Rattle.model.specs.declared.Model.{Model}
use Rattle.model.specs.declared.Thread.{Thread}
use Rattle.model.specs.Footprint.{has}
use Rattle.model.specs.Record as view
use Rattle.model.specs.Record.{view_of}
use Rattle.plain.specs.Start.{start_of}
use Rattle.plain.specs.Step.{place_at}
use Rattle.plain_laws.proofs.RecordLaws.{ready-not-waits, waits-event, state_after-not-waits, effect_of-waits}
use Rattle.plain_laws.proofs.StepLaws.{record_of, state_of, closed, kind_of, ran-not-closed, place_at-more}
use Rattle.plain_laws.proofs.StartLaws.{start_of-ready, start_of-past}
use Rattle.plain_laws.proofs.HappenLaws.{Runs, Hears, Happens, idle, runs, hears, happens-at}
use Rattle.plain_laws.proofs.SteadyLaws.{Moves, turns, begins, rests, moves-at, now_mono}
use Rattle.plain_laws.proofs.DoneLaws.{closed-then-ran}
use Rattle.plain_laws.proofs.QuietLaws.{Quiet, quiet_none, quiet-more}
use Rattle.plain_laws.proofs.NotifyLaws.{notified-kept, Says, Pending, still, over, pending, Source, source}

module _ (m : Model) where
  -- nobody waits at the start
  start-waits : (k e : ℕ) (c : Cycle) → view_of (state_of (start_of m) k) ≡ view.waits e c → ⊥
  start-waits k e c w = go (dec_lt k m.t)
    where
      go : Dec (k < m.t) → ⊥
      go (yes h) = let r = start_of-ready m k h in let z : ◌≡◌ {A = ℕ} 0 1 = cc in omega arith
      go (no h) = let r = ap (λ (t : Thread). view_of t.state) (start_of-past m k (omega arith)) in let z : ◌≡◌ {A = ℕ} 0 1 = cc in omega arith

  -- a thread that waits after a step: it did so before, or it ran and waits since this cycle
  data Waited (t k e : ℕ) (c : Cycle) : Type 0 where
    waited : view_of (state_of (place_at m t) k) ≡ view.waits e c → (Hears m (place_at m t) k e → ⊥) → Waited t k e c
    began : Runs m (place_at m t) k → c ≡ (place_at m t).now → Waited t k e c

  waits : (t k e : ℕ) (c : Cycle) → view_of (state_of (place_at m (suc t)) k) ≡ view.waits e c → Waited t k e c
  unfolding place_at
  waits t k e c w = go (happens-at m t k)
    where
      go : Happens m (place_at m t) k → Waited t k e c
      go (idle s r h i) = waited (ap (λ (x : Thread). view_of x.state) (sym s) ∙ w) (h e)
      go (runs r d s i) =
          began r
          (effect_of-waits m k (record_of (place_at m t) k).segment (place_at m t).now (place_at m t).variables e c (ap (λ (x : Thread). view_of x.state) (sym s) ∙ w))
      go (hears v h s i) = absurd (state_after-not-waits (wait_ends wait.Event (place_at m t).now) e c (ap (λ (x : Thread). view_of x.state) (sym s) ∙ w))

  pub begun : (t k e : ℕ) (c : Cycle) → view_of (state_of (place_at m t) k) ≡ view.waits e c → c ⊑ (place_at m t).now
  unfolding place_at
  begun zero k e c w = absurd (start-waits k e c w)
  begun (suc t) k e c w = go (begun t k e c) (waits t k e c w)
    where
      go : (view_of (state_of (place_at m t) k) ≡ view.waits e c → c ⊑ (place_at m t).now) → Waited t k e c → c ⊑ (place_at m (suc t)).now
      go ih (waited v n) = ⊑_trans (ih v) (now_mono m t (suc t) (omega arith))
      go ih (began r f) = ⊑_trans (≡→⊑ f) (now_mono m t (suc t) (omega arith))

  -- a notification of event e by step q, for who waits since c at place t
  abbrev pub Unheard : ℕ → ℕ → Cycle → ℕ → Type 0
  Unheard q e c t = Before (place_at m q).now c ⊎ (((place_at m q).now ≡ (place_at m t).now) × T (has (place_at m t).notified e))

  -- After the step that began the wait, the cycle of q is before this one, or it is this one; then it has not closed.
  unheard-began : (t k q e : ℕ) (c : Cycle) → Runs m (place_at m t) k → c ≡ (place_at m t).now → q < suc t → Says m q e → Unheard q e c (suc t)
  unheard-began t k q e c r f h s = go (pending m (suc t) q e h s)
    where
      go : Pending m q e (suc t) → Unheard q e c (suc t)
      go (still n l) = inr (n, l)
      go (over x a b k n l) = inl (rw (n, f) (closed-then-ran m x t (earlier (ℕ_discrete x t)) k r.0))
        where
          earlier : Dec (x ≡ t) → x < t
          earlier (yes y) = absurd (ran-not-closed r.0 (subst (λ (i : ℕ). kind_of m (place_at m i) ≡ closed) y k))
          earlier (no y) = omega arith

  -- what is to be heard at place t was not notified before a close of the same cycle
  closed-source : (x t e : ℕ) → x < t → kind_of m (place_at m x) ≡ closed → (place_at m x).now ≡ (place_at m t).now → Source m e t → ⊥
  closed-source x t e h y i z = go (dec_lt x z.place)
    where
      go : Dec (x < z.place) → ⊥
      go (yes l) = Before-irrefl (subst (λ (c : Cycle). Before c (place_at m z.place).now) (i ∙ sym z.now) (closed-then-ran m x z.place l y z.says.0))
      go (no l) = z.unclosed x (omega arith) h y

  -- A wait that lasts over the step: had the cycle of q closed in it, the thread would have heard.
  unheard-waited : (t k q e : ℕ) (c : Cycle) → view_of (state_of (place_at m t) k) ≡ view.waits e c → (Hears m (place_at m t) k e → ⊥)
      → (q < t → Unheard q e c t) → q < suc t → Says m q e → Unheard q e c (suc t)
  unheard-waited t k q e c w n old h s = go (pending m (suc t) q e h s)
    where
      go : Pending m q e (suc t) → Unheard q e c (suc t)
      go (still i l) = inr (i, l)
      go (over x a b y i l) = last (ℕ_discrete x t)
        where
          last : Dec (x ≡ t) → Unheard q e c (suc t)
          last (yes f) =
              let k' = subst (λ (j : ℕ). kind_of m (place_at m j) ≡ closed) f y in
              let l' = subst (λ (j : ℕ). T (has (place_at m j).notified e)) f l in
              absurd (n (record { closing = k'; since = c; waiting = w; notified = l'; begun = begun t k e c w }))
          last (no f) = before-t (old (omega arith))
            where
              before-t : Unheard q e c t → Unheard q e c (suc t)
              before-t (inl b) = inl b
              before-t (inr (j, v)) = absurd (closed-source x t e (omega arith) y (sym i ∙ j) (source m t e v))

  pub unheard : (t k e : ℕ) (c : Cycle) → view_of (state_of (place_at m t) k) ≡ view.waits e c → (q : ℕ) → q < t → Says m q e → Unheard q e c t
  unheard zero k e c w q h s = absurd (omega arith)
  unheard (suc t) k e c w q h s = go (unheard t k e c) (waits t k e c w)
    where
      go : (view_of (state_of (place_at m t) k) ≡ view.waits e c → (q : ℕ) → q < t → Says m q e → Unheard q e c t) → Waited t k e c → Unheard q e c (suc t)
      go ih (waited v n) = unheard-waited t k q e c v n (λ l. ih v q l s) h s
      go ih (began r f) = unheard-began t k q e c r f h s

-- thread k, waiting on event e at place n, hears it at a later place, not after the cycle c
pub record Hearing (m : Model) (k n e : ℕ) (c : Cycle) : Type 0 where
  pub place : ℕ
  pub quiet : Quiet m k n place
  pub hears : Hears m (place_at m place) k e
  pub not_after : (place_at m place).now ⊑ c

module _ (m : Model) (k n e : ℕ) (since : Cycle) (waits : view_of (state_of (place_at m n) k) ≡ view.waits e since) where
  here : (j : ℕ) → Quiet m k n j → view_of (state_of (place_at m j) k) ≡ view.waits e since
  here j g = ap (λ (t : Thread). view_of t.state) (g.still j g.forth (omega arith)) ∙ waits

  -- whoever hears hears the event that he waits on
  same-event : (j v : ℕ) → Quiet m k n j → Hears m (place_at m j) k v → Hears m (place_at m j) k e
  same-event j v g h = subst (Hears m (place_at m j) k) (waits-event h.waiting (here j g)) h

  -- the next place, where it still waits and the event is still to be heard
  record Waits-on (j : ℕ) : Type 0 where
    turn : (place_at m j).turn < m.t
    quiet : Quiet m k n (suc j)
    now : (place_at m (suc j)).now ≡ (place_at m j).now
    turned : (place_at m (suc j)).turn ≡ (place_at m j).turn + 1
    notified : T (has (place_at m (suc j)).notified e)

  -- a place where the event is to be heard: it is heard there, at the close, or the turn moves on
  hears-or : (j : ℕ) → Quiet m k n j → T (has (place_at m j).notified e) → Hearing m k n e (place_at m j).now ⊎ Waits-on j
  hears-or j g t = go (happens-at m j k)
    where
      go : Happens m (place_at m j) k → Hearing m k n e (place_at m j).now ⊎ Waits-on j
      go (hears v h s i) = inl (record { place = j; quiet = g; hears = same-event j v g h; not_after = ⊑_refl })
      go (runs x r s i) = absurd (ready-not-waits r (here j g))
      go (idle s x h i) = on (moves-at m j)
        where
          closing : kind_of m (place_at m j) ≡ closed → ⊥
          closing q = h e (record { closing = q; since = since; waiting = here j g; notified = t; begun = begun m j k e since (here j g) })

          on : Moves m (place_at m j) → Hearing m k n e (place_at m j).now ⊎ Waits-on j
          on (begins q a b f y z) = absurd (closing q)
          on (rests q a f y) = absurd (closing q)
          on (turns q a b y) =
              inr (record {
                turn = a;
                quiet = quiet-more m k n j g s x h i;
                now = rw (place_at-more m j) b;
                turned = rw (place_at-more m j) y;
                notified = rw (place_at-more m j) (notified-kept m (place_at m j) e q t);
              })

  -- it is heard at the close of the cycle, d turns later
  hears-in : (d j : ℕ) → Quiet m k n j → m.t ≤ (place_at m j).turn + d → T (has (place_at m j).notified e) → Hearing m k n e (place_at m j).now
  hears-in zero j g l t = go (hears-or j g t)
    where
      go : Hearing m k n e (place_at m j).now ⊎ Waits-on j → Hearing m k n e (place_at m j).now
      go (inl h) = h
      go (inr w) = absurd (omega (arith, w.turn))
  hears-in (suc d) j g l t = go (hears-or j g t) (hears-in d (suc j))
    where
      go : Hearing m k n e (place_at m j).now ⊎ Waits-on j
          → (Quiet m k n (suc j) → m.t ≤ (place_at m (suc j)).turn + d → T (has (place_at m (suc j)).notified e) → Hearing m k n e (place_at m (suc j)).now)
          → Hearing m k n e (place_at m j).now
      go (inl h) on = h
      go (inr w) on = rw w.now at (on w.quiet (omega (arith, w.turned)) w.notified)

  -- the notification has been made: it is still to be heard
  heard-after : (q j : ℕ) → q < j → Says m q e → since ⊑ (place_at m q).now → Quiet m k n j → Hearing m k n e (place_at m q).now
  heard-after q j h s b g = go (unheard m j k e since (here j g) q h s)
    where
      go : Unheard m q e since j → Hearing m k n e (place_at m q).now
      go (inl c) = absurd (Before→not-⊑ c b)
      go (inr (i, t)) = rw (← i) at (hears-in m.t j g (omega arith) t)

  -- d steps before it is made
  heard-within : (d q j : ℕ) → q < j + d → j ≤ suc q → Says m q e → since ⊑ (place_at m q).now → Quiet m k n j → Hearing m k n e (place_at m q).now
  heard-within zero q j h l s b g = heard-after q j (omega arith) s b g
  heard-within (suc d) q j h l s b g = go (dec_lt q j) (happens-at m j k) (heard-within d q (suc j))
    where
      go : Dec (q < j) → Happens m (place_at m j) k
          → (q < suc j + d → suc j ≤ suc q → Says m q e → since ⊑ (place_at m q).now → Quiet m k n (suc j) → Hearing m k n e (place_at m q).now)
          → Hearing m k n e (place_at m q).now
      go (yes a) x on = heard-after q j a s b g
      go (no a) (hears v h y i) on = record { place = j; quiet = g; hears = same-event j v g h; not_after = now_mono m j q (omega arith) }
      go (no a) (runs x r y i) on = absurd (ready-not-waits r (here j g))
      go (no a) (idle y x z i) on = on (omega arith) (omega arith) s b (quiet-more m k n j g y x z i)

  -- A notification of the event, made before place n or after it, in a cycle not before the wait: the thread hears by then.
  pub will-hear : (q : ℕ) → Says m q e → since ⊑ (place_at m q).now → Hearing m k n e (place_at m q).now
  will-hear q s b = go (dec_lt q n)
    where
      go : Dec (q < n) → Hearing m k n e (place_at m q).now
      go (yes h) = heard-after q n h s b (quiet_none m k n)
      go (no h) = heard-within (suc q) q n (omega arith) (omega arith) s b (quiet_none m k n)
