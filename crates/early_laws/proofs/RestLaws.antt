-- "Every thread is looked at, again and again until none hears anything": T sweeps are enough, since each sweep but the last leaves fewer
-- threads waiting. After them nobody hears anything.
use Prim.Native.Nat.{ℕ, zero, suc, ◌+◌, ◌<◌, ◌≤◌}
use mathlib.Core.Path.{◌≡◌, refl, ap, sym, ◌∙◌, subst}
use mathlib.Core.Logic.{◌⊎◌, inl, inr}
use mathlib.Core.List.{List}
use native.Mathlib.Omega.{arith}
use native.Mathlib.Decide.{ℕ_discrete}
use Rattle.clock.specs.declared.Cycle.{Cycle}
use Rattle.clock.specs.declared.Bound.TheVariants.{Never, At}
use Rattle.model.specs.declared.Model.{Model}
use Rattle.model.specs.declared.Thread.{Thread}
use Rattle.model.specs.Record as view
use Rattle.model.specs.Record.{thread_at, Awaited, nothing, awaits, awaited_by, view_of, awaited_of}
use Rattle.early.specs.declared.Notification.{Notification}
use Rattle.early.specs.Deliver.{Sooner, forecast_sooner, swept_by, sweeps_by, looked_at, swept, settled}
use Rattle.early_laws.proofs.LookLaws.{heard_at, heard_at-waits, looked_at-none, looked_at-other, looked_at-deaf, Looked, unheard, hears, looked}
use Rattle.early_laws.proofs.SettleLaws.{sweeps_by-still}

-- how many of the threads below n wait
abbrev pub waits_of : Awaited → ℕ
waits_of nothing = 0
waits_of (awaits e since) = 1

unfoldable pub waiting_below : ℕ → List Thread → ℕ
waiting_below zero ts = 0
waiting_below (suc n) ts = waiting_below n ts + waits_of (awaited_by (thread_at ts n).state)

waits_of-≤ : (a : Awaited) → waits_of a ≤ 1
waits_of-≤ nothing = omega arith
waits_of-≤ (awaits e since) = omega arith

pub waiting_below-≤ : (n : ℕ) (ts : List Thread) → waiting_below n ts ≤ n
unfolding waiting_below
waiting_below-≤ zero ts = omega arith
waiting_below-≤ (suc n) ts =
    let h = waiting_below-≤ n ts in
    let k = waits_of-≤ (awaited_by (thread_at ts n).state) in
    omega arith

module _ (m : Model) (ws : List ℕ) (l : List Notification) where
  abbrev sooner : Sooner
  sooner = forecast_sooner m ws l

  -- nobody hears anything
  abbrev pub Rest : List Thread → Type 0
  Rest ts = (k : ℕ) → k < m.t → heard_at m ws l ts k ≡ Never

  -- a hearing leaves one fewer waiting
  waiting-past : (ts : List Thread) (k n : ℕ) → n ≤ k → waiting_below n (looked_at m ws l ts k) ≡ waiting_below n ts
  unfolding waiting_below
  waiting-past ts k zero h = refl
  waiting-past ts k (suc n) h =
      rw
      (waiting-past ts k n (omega arith), looked_at-other m ws l ts k n (λ e. omega arith))
      refl

  waiting-fewer : (ts : List Thread) (k n : ℕ) (x : Cycle) → heard_at m ws l ts k ≡ At x → k < n → waiting_below n (looked_at m ws l ts k) < waiting_below n ts
  unfolding waiting_below
  waiting-fewer ts k zero x p h = absurd (omega arith)
  waiting-fewer ts k (suc n) x p h = go (ℕ_discrete k n) (λ q. waiting-fewer ts k n x p q)
    where
      us : List Thread
      us = looked_at m ws l ts k

      go : Dec (k ≡ n) → (k < n → waiting_below n us < waiting_below n ts) → waiting_below n us + waits_of (awaited_by (thread_at us n).state) < waiting_below n ts + waits_of (awaited_by (thread_at ts n).state)
      go (no other) ih =
          let less = ih (omega arith) in
          rw (looked_at-other m ws l ts k n (λ e. other (sym e))) (omega arith)
      go (yes same) ih =
          let (e, since, w, q) = heard_at-waits m ws l ts k x p in
          let past = waiting-past ts k n (omega arith) in
          let after : waits_of (awaited_by (thread_at us n).state) ≡ 0 = ap waits_of (subst (λ (i : ℕ). awaited_by (thread_at us i).state ≡ nothing) same (looked_at-deaf m ws l ts k x p)) in
          let before : waits_of (awaited_by (thread_at ts n).state) ≡ 1 = ap (λ v. waits_of (awaited_of v)) (subst (λ (i : ℕ). view_of (thread_at ts i).state ≡ view.waits e since) same w) in
          omega arith

  -- a sweep finds nobody that hears, or leaves fewer waiting
  sweep-either : (ts : List Thread) (n : ℕ) → n ≤ m.t
      → (((k : ℕ) → k < n → heard_at m ws l ts k ≡ Never) × (swept m ws l ts n ≡ ts)) ⊎ (waiting_below m.t (swept m ws l ts n) < waiting_below m.t ts)
  unfolding swept_by
  sweep-either ts zero h = inl ((λ k p. absurd (omega arith)), refl)
  sweep-either ts (suc n) h = go (sweep-either ts n (omega arith)) (looked m ws l us n)
    where
      us : List Thread
      us = swept m ws l ts n

      vs : List Thread
      vs = looked_at m ws l us n

      go :
          (((k : ℕ) → k < n → heard_at m ws l ts k ≡ Never) × (us ≡ ts)) ⊎ (waiting_below m.t us < waiting_below m.t ts) →
          Looked m ws l us n →
          (((k : ℕ) → k < suc n → heard_at m ws l ts k ≡ Never) × (vs ≡ ts)) ⊎ (waiting_below m.t vs < waiting_below m.t ts)
      go (inl (rest, same)) (unheard e) = inl ((λ k p. each k p (ℕ_discrete k n)), looked_at-none m ws l us n e ∙ same)
        where
          each : (k : ℕ) → k < suc n → Dec (k ≡ n) → heard_at m ws l ts k ≡ Never
          each k p (yes f) = rw (f, ← same) e
          each k p (no f) = rest k (omega arith)
      go (inl (rest, same)) (hears x e) = inr (let less = waiting-fewer us n m.t x e (omega arith) in let f = ap (waiting_below m.t) same in omega arith)
      go (inr less) (unheard e) = inr (let f = ap (waiting_below m.t) (looked_at-none m ws l us n e) in omega arith)
      go (inr less) (hears x e) = inr (let fewer = waiting-fewer us n m.t x e (omega arith) in omega arith)

  sweeps-rest : (ts : List Thread) (n : ℕ) → waiting_below m.t ts ≤ n → Rest (sweeps_by sooner l m.t n ts)
  unfolding sweeps_by
  sweeps-rest ts zero h = go (sweep-either ts m.t (omega arith))
    where
      go : (Rest ts × (swept m ws l ts m.t ≡ ts)) ⊎ (waiting_below m.t (swept m ws l ts m.t) < waiting_below m.t ts) → Rest ts
      go (inl (rest, same)) = rest
      go (inr less) = absurd (omega arith)
  sweeps-rest ts (suc n) h = go (sweep-either ts m.t (omega arith)) (λ p. sweeps-rest us n p)
    where
      us : List Thread
      us = swept m ws l ts m.t

      go : (Rest ts × (us ≡ ts)) ⊎ (waiting_below m.t us < waiting_below m.t ts) → (waiting_below m.t us ≤ n → Rest (sweeps_by sooner l m.t n us)) → Rest (sweeps_by sooner l m.t n us)
      go (inl (rest, same)) ih = subst Rest (sym (ap (sweeps_by sooner l m.t n) same ∙ sweeps_by-still sooner l ts m.t n same)) rest
      go (inr less) ih = ih (omega arith)

  -- "until none hears anything"
  pub settled-rest : (ts : List Thread) → Rest (settled m ws l ts)
  settled-rest ts = sweeps-rest ts m.t (waiting_below-≤ m.t ts)
