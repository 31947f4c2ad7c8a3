-- Deliveries as the code makes them, exit by exit.
--     heard_by-..     what a state hears
--     outlook-..     what the code holds of records
--     look-.., sweep-more, settle-..     one look, and the loops
use Prim.Native.Nat.{ℕ, ◌+◌, ◌<◌, ◌≤◌, ◌-◌}
use mathlib.Core.Path.{◌≡◌, refl, ap, sym, ◌∙◌}
use mathlib.Core.Bool.{Bool, true, false, cond}
use mathlib.Core.List.{List}
use native.Mathlib.Omega.{arith}
use lib.Dec.{ltb}
use lib.ListN.{get_or}
use borrow.Author.Tests.{lt-ltb, le-ltb}
use Rattle.clock.specs.declared.Cycle.{Cycle}
use Rattle.clock.specs.declared.Bound.{Bound}
use Rattle.clock.specs.declared.Bound.TheVariants.{Never, At}
use Rattle.model.specs.declared.State.{State}
use Rattle.model.specs.declared.Thread.{Thread}
use Rattle.model.specs.declared.Threads.{Threads}
use Rattle.model.specs.Record as view
use Rattle.model.specs.Record.{no_thread, thread_at, nothing, awaited_by, view_of}
use Rattle.early.specs.declared.Notification.{Notification}
use Rattle.early.specs.Log.{least_heard}
use Rattle.early.specs.Deliver.{heard_by, looked_by, swept_by, sweeps_by}
use Rattle.early_laws.proofs.LookLaws.{looked_by-none, looked_by-heard}
use Rattle.early_laws.proofs.SettleLaws.{swept_by-more, sweeps_by-next, sweeps_by-still}
use Rattle.early_limits.specs.declared.Crew.{Crew}
use Rattle.early_limits.specs.declared.Limits.{Limits}
use Rattle.early_limits.specs.Limit.{limit_of_cycle}
use Rattle.early_limits.specs.Ahead.{forecast_at, earliest_limits, segments_of, crew_of}
use Rattle.early_deliver.specs.declared.Outlook.{Outlook}
use Rattle.early_deliver.specs.Awake.{first_limits, ahead_of, sooner_at, sooner_on, outlook_of, with_woken}

true-not-false : true ≡ false → ⊥
true-not-false e = let z : ◌≡◌ {A = ℕ} 0 1 = cc in omega arith

module _ (reach : List ℕ) (t : ℕ) (l : List Notification) where
  module _ (segments xs : List ℕ) (s : State) where
    pub heard_by-other : awaited_by s ≡ nothing → Never ≡ heard_by (sooner_at reach t segments xs) l (awaited_by s)
    unfolding heard_by
    heard_by-other h = rw h refl

    module _ (e : ℕ) (since : Cycle) (waits : view_of s ≡ view.waits e since) where
      pub heard_by-none : least_heard l e since ≡ Never → Never ≡ heard_by (sooner_at reach t segments xs) l (awaited_by s)
      unfolding heard_by sooner_at
      heard_by-none h = rw (waits, h) (go (ltb (forecast_at reach segments xs t e) 18446744073709551615))
        where
          go : (b : Bool) → Never ≡ cond b Never Never
          go true = refl
          go false = refl

      pub heard_by-sooner : (c : Cycle) → least_heard l e since ≡ At c → forecast_at reach segments xs t e < limit_of_cycle c → Never ≡ heard_by (sooner_at reach t segments xs) l (awaited_by s)
      unfolding heard_by sooner_at
      heard_by-sooner c h k = rw (waits, h, lt-ltb (forecast_at reach segments xs t e) (limit_of_cycle c) k) refl

      pub heard_by-now : (c : Cycle) → least_heard l e since ≡ At c → limit_of_cycle c ≤ forecast_at reach segments xs t e → At c ≡ heard_by (sooner_at reach t segments xs) l (awaited_by s)
      unfolding heard_by sooner_at
      heard_by-now c h k = rw (waits, h, le-ltb (forecast_at reach segments xs t e) (limit_of_cycle c) k) refl

  -- what the code holds of records
  pub outlook-made : (ts : Threads) (crew : Crew) (first limits : Limits) (heard : Bool) → crew ≡ crew_of t ts.at → first.at ≡ first_limits t l ts.at
      → limits.at ≡ earliest_limits reach crew t first.at
      → record { threads = ts; segments = crew.segments; limits = limits; heard = heard } ≡ outlook_of reach t l ts.at heard
  unfolding outlook_of ahead_of crew_of
  outlook-made ts crew first limits heard p q r =
      let e : limits ≡ record { at = earliest_limits reach (crew_of t ts.at) t (first_limits t l ts.at) } =
      ap (λ (xs : List ℕ). record { at = xs }) (r ∙ rw (p, q) refl) in
      rw (p, e) refl

  -- one look, by what is heard on the limits that are held
  module _ (o : Outlook) (kept : o ≡ outlook_of reach t l o.threads.at o.heard) (k : ℕ) (b : Bound)
      (hears : b ≡ heard_by (sooner_at reach t o.segments o.limits.at) l (awaited_by (get_or o.threads.at k no_thread).state))
    where
      held-sooner : sooner_at reach t o.segments o.limits.at ≡ sooner_on reach t l o.threads.at
      unfolding outlook_of sooner_on
      held-sooner = ap (λ (p : Outlook). sooner_at reach t p.segments p.limits.at) kept

      heard-now : heard_by (sooner_on reach t l o.threads.at) l (awaited_by (thread_at o.threads.at k).state) ≡ b
      unfolding thread_at
      heard-now = rw (← held-sooner) (sym hears)

      pub look_none : b ≡ Never → o ≡ outlook_of reach t l (looked_by (sooner_on reach t l) l o.threads.at k) o.heard
      look_none h = rw (looked_by-none (sooner_on reach t l) l o.threads.at k (heard-now ∙ h)) kept

      pub look-woken : (c : Cycle) → b ≡ At c → with_woken o.threads.at k c ≡ looked_by (sooner_on reach t l) l o.threads.at k
      look-woken c h = sym (looked_by-heard (sooner_on reach t l) l o.threads.at k c (heard-now ∙ h))

  -- an outlook says what its records are
  module _ (o : Outlook) (ts : List Thread) (heard : Bool) (e : o ≡ outlook_of reach t l ts heard) where
    pub outlook-threads : o.threads.at ≡ ts
    unfolding outlook_of
    outlook-threads = ap (λ (p : Outlook). p.threads.at) e

    pub outlook-heard : o.heard ≡ heard
    unfolding outlook_of
    outlook-heard = ap (λ (p : Outlook). p.heard) e

    pub outlook-own : o ≡ outlook_of reach t l o.threads.at o.heard
    outlook-own =
        e ∙ (ap (λ (us : List Thread). outlook_of reach t l us heard) (sym outlook-threads) ∙ ap (outlook_of reach t l o.threads.at) (sym outlook-heard))

  -- nothing heard so far
  pub outlook-begun : (o : Outlook) → o ≡ outlook_of reach t l o.threads.at o.heard
      → record { threads = o.threads; segments = o.segments; limits = o.limits; heard = false } ≡ outlook_of reach t l o.threads.at false
  unfolding outlook_of
  outlook-begun o e =
      let p : o.segments ≡ segments_of t o.threads.at = ap (λ (q : Outlook). q.segments) e in
      let q : o.limits ≡ record { at = ahead_of reach t l o.threads.at } = ap (λ (r : Outlook). r.limits) e in
      rw (p, q) refl

  -- for the code: a look that hears, and a turn of the sweep
  pub look-heard : (w : Outlook) (us vs : List Thread) {Q : Type 0} → w ≡ outlook_of reach t l us true → us ≡ vs → (w ≡ outlook_of reach t l vs w.heard) × (w.heard ≡ false → Q)
  look-heard w us vs e f =
      let heard = outlook-heard w us true e in
      (e ∙ (ap (λ (ws : List Thread). outlook_of reach t l ws true) f ∙ ap (outlook_of reach t l vs) (sym heard)), λ g. absurd (true-not-false (sym heard ∙ g)))

  pub sweep-more : (o w : Outlook) (ts : List Thread) (k : ℕ) → o ≡ outlook_of reach t l (swept_by (sooner_on reach t l) l ts k) o.heard
      → w ≡ outlook_of reach t l (looked_by (sooner_on reach t l) l o.threads.at k) w.heard → w ≡ outlook_of reach t l (swept_by (sooner_on reach t l) l ts (k + 1)) w.heard
  sweep-more o w ts k e f =
      f
      ∙ ap
      (λ (us : List Thread). outlook_of reach t l us w.heard)
      (ap (λ (us : List Thread). looked_by (sooner_on reach t l) l us k) (outlook-threads o (swept_by (sooner_on reach t l) l ts k) o.heard e)
      ∙ swept_by-more (sooner_on reach t l) l ts k)

  -- for the code: a turn of the sweeps, and the last
  module _ (o w : Outlook) (swept : w ≡ outlook_of reach t l (swept_by (sooner_on reach t l) l o.threads.at t) w.heard) (us : List Thread) (i : ℕ)
      (left : sweeps_by (sooner_on reach t l) l t (t - i) o.threads.at ≡ us)
    where
      after : w.threads.at ≡ swept_by (sooner_on reach t l) l o.threads.at t
      after = outlook-threads w (swept_by (sooner_on reach t l) l o.threads.at t) w.heard swept

      pub settle-more : i < t → sweeps_by (sooner_on reach t l) l t (t - (i + 1)) w.threads.at ≡ us
      settle-more h = ap (sweeps_by (sooner_on reach t l) l t (t - (i + 1))) after ∙ (sweeps_by-next (sooner_on reach t l) l o.threads.at t t i h ∙ left)

      pub settle-still : w.threads.at ≡ o.threads.at → w.threads.at ≡ us
      settle-still h = h ∙ (sym (sweeps_by-still (sooner_on reach t l) l o.threads.at t (t - i) (sym after ∙ h)) ∙ left)
