-- One look at a thread: what it hears, what that makes of its record, and that every other record, every segment and every state
-- that does not wait is kept.
use Prim.Native.Nat.{ℕ, ◌<◌}
use mathlib.Core.Path.{◌≡◌, refl, ap, sym, ◌∙◌, subst, subst₂}
use mathlib.Core.Bool.{true}
use mathlib.Core.List.Memᴰ
use mathlib.Core.List.{List, [], ◌∷◌, Memᴰ}
use native.Mathlib.Omega.{arith}
use native.Mathlib.Decide.{dec_lt, ℕ_discrete}
use lib.Dec.{T, eqb}
use lib.ListN.{length, set, length-set}
use lib.Seq.{set-get_or}
use borrow.Author.Tests.{eq-eqb, ne_eqb}
use Rattle.base.proofs.BoolLaws.{cond-case, T→false}
use Rattle.clock.specs.declared.Cycle.{Cycle}
use Rattle.clock.specs.declared.Wait.TheVariants as wait
use Rattle.clock.specs.declared.Step.{Step}
use Rattle.clock.specs.declared.Step.TheVariants as step
use Rattle.clock.specs.declared.Bound.{Bound}
use Rattle.clock.specs.declared.Bound.TheVariants.{Never, At}
use Rattle.clock.specs.Wait.{wait_ends}
use Rattle.clock.specs.Advance.{is_bound_before}
use Rattle.clock.specs.Order.{◌≼◌}
use Rattle.clock.proofs.LeastLaws.{not-is_bound_before→≼, ≼→not-is_bound_before}
use Rattle.model.specs.declared.Model.{Model}
use Rattle.model.specs.declared.Thread.{Thread}
use Rattle.model.specs.Record as view
use Rattle.model.specs.Record.{no_thread, thread_at, is_live, is_running, Awaited, nothing, awaits, awaited_by, state_after, view_of}
use Rattle.plain.specs.History.{Item, heard, heard_item}
use Rattle.plain_laws.proofs.RecordLaws.{thread_at-set, thread_at-other, thread_at-past, awaits→waits, state_after-unbegun}
use Rattle.early.specs.declared.Notification.{Notification}
use Rattle.early.specs.Log.{least_heard}
use Rattle.early.specs.Forecast.{forecast_of}
use Rattle.early.specs.Deliver.{Sooner, forecast_sooner, heard_by, after_hearing, heard_items, looked_by, look_items_by, heard_now, looked_at, look_items}

-- what thread k hears now, or never
abbrev pub heard_at : Model → List ℕ → List Notification → List Thread → ℕ → Bound
heard_at m ws l ts k = heard_now m ws l ts (awaited_by (thread_at ts k).state)

-- a record after it has heard a notification at x: "ready or overrun as in the plain run"
abbrev pub heard_thread : Cycle → Thread → Thread
heard_thread x t = record { segment = t.segment; state = state_after (wait_ends wait.Event x) }

-- whoever has heard waits no more
pub state_after-unawaited : (s : Step) → awaited_by (state_after s) ≡ nothing
state_after-unawaited (step.Ready c) = refl
state_after-unawaited (step.Overrun c) = refl

-- by any test: a look that hears nothing changes nothing, and one that hears changes one record
module _ (sooner : Sooner) (l : List Notification) (ts : List Thread) (k : ℕ) where
  pub looked_by-none : heard_by (sooner ts) l (awaited_by (thread_at ts k).state) ≡ Never → looked_by sooner l ts k ≡ ts
  unfolding looked_by after_hearing thread_at
  looked_by-none e = rw e (set-get_or ts k no_thread)

  pub looked_by-heard : (x : Cycle) → heard_by (sooner ts) l (awaited_by (thread_at ts k).state) ≡ At x → looked_by sooner l ts k ≡ set ts k (heard_thread x (thread_at ts k))
  unfolding looked_by after_hearing
  looked_by-heard x e = rw e refl

module _ (m : Model) (ws : List ℕ) (l : List Notification) (ts : List Thread) where
  -- "it hears the least logged notification not before its wait, if the forecast of the event is not smaller"

  pub heard_now-at : (e : ℕ) (since x : Cycle) → heard_now m ws l ts (awaits e since) ≡ At x → (least_heard l e since ≡ At x) × (At x ≼ forecast_of m ws l ts e)
  unfolding heard_by forecast_sooner
  heard_now-at e since x =
      cond-case
      (λ (b : Bound). b ≡ At x → (least_heard l e since ≡ At x) × (At x ≼ forecast_of m ws l ts e))
      (is_bound_before (forecast_of m ws l ts e) (least_heard l e since))
      (λ t p. let z : ◌≡◌ {A = ℕ} 0 1 = cc in absurd (omega arith))
      (λ t p. (p, subst (λ (b : Bound). b ≼ forecast_of m ws l ts e) p (not-is_bound_before→≼ (forecast_of m ws l ts e) (least_heard l e since) t)))

  pub heard_now-some : (e : ℕ) (since x : Cycle) → least_heard l e since ≡ At x → At x ≼ forecast_of m ws l ts e → heard_now m ws l ts (awaits e since) ≡ At x
  unfolding heard_by forecast_sooner
  heard_now-some e since x p h =
      let t = ≼→not-is_bound_before (forecast_of m ws l ts e) (least_heard l e since) (subst (λ (b : Bound). b ≼ forecast_of m ws l ts e) (sym p) h) in
      rw (T→false (is_bound_before (forecast_of m ws l ts e) (least_heard l e since)) t) p

  -- what is logged and not heard, has a smaller forecast
  pub heard_now-none : (e : ℕ) (since x : Cycle) → heard_now m ws l ts (awaits e since) ≡ Never → least_heard l e since ≡ At x → At x ≼ forecast_of m ws l ts e → ⊥
  heard_now-none e since x none p h = let q = heard_now-some e since x p h in let z : ◌≡◌ {A = ℕ} 0 1 = cc in omega arith

  -- who hears, waits, and its record stands among those lent
  pub heard_at-waits : (k : ℕ) (x : Cycle) → heard_at m ws l ts k ≡ At x → (e : ℕ) × (since : Cycle) × (view_of (thread_at ts k).state ≡ view.waits e since) × (heard_now m ws l ts (awaits e since) ≡ At x)
  unfolding heard_by
  heard_at-waits k x p = go (awaited_by (thread_at ts k).state) refl p
    where
      go : (a : Awaited) → awaited_by (thread_at ts k).state ≡ a → heard_now m ws l ts a ≡ At x → (e : ℕ) × (since : Cycle) × (view_of (thread_at ts k).state ≡ view.waits e since) × (heard_now m ws l ts (awaits e since) ≡ At x)
      go nothing w q = let z : ◌≡◌ {A = ℕ} 0 1 = cc in absurd (omega arith)
      go (awaits e since) w q = (e, since, awaits→waits (view_of (thread_at ts k).state) e since w, q)

  pub heard_at-lent : (k : ℕ) (x : Cycle) → heard_at m ws l ts k ≡ At x → k < length ts
  unfolding heard_by
  heard_at-lent k x p = go (dec_lt k (length ts))
    where
      go : Dec (k < length ts) → k < length ts
      go (yes h) = h
      go (no h) =
          let none : heard_at m ws l ts k ≡ Never = rw (thread_at-past ts k (omega arith)) refl in
          let z : ◌≡◌ {A = ℕ} 0 1 = cc in
          absurd (omega arith)

  -- "A delivery is looked for only if the thread waits"
  pub heard_at-other : (k : ℕ) → awaited_by (thread_at ts k).state ≡ nothing → heard_at m ws l ts k ≡ Never
  unfolding heard_by
  heard_at-other k e = rw e refl

  -- what the look makes of the records

  pub looked_at-none : (k : ℕ) → heard_at m ws l ts k ≡ Never → looked_at m ws l ts k ≡ ts
  looked_at-none k e = looked_by-none (forecast_sooner m ws l) l ts k e

  pub looked_at-heard : (k : ℕ) (x : Cycle) → heard_at m ws l ts k ≡ At x → looked_at m ws l ts k ≡ set ts k (heard_thread x (thread_at ts k))
  looked_at-heard k x e = looked_by-heard (forecast_sooner m ws l) l ts k x e

  pub looked_at-length : (k : ℕ) → length (looked_at m ws l ts k) ≡ length ts
  unfolding looked_by
  looked_at-length k = simp length-set

  pub looked_at-other : (k j : ℕ) → (j ≡ k → ⊥) → thread_at (looked_at m ws l ts k) j ≡ thread_at ts j
  unfolding looked_by
  looked_at-other k j other =
      thread_at-other ts k j (record { segment = (thread_at ts k).segment; state = after_hearing (heard_at m ws l ts k) (thread_at ts k).state }) other

  pub looked_at-self : (k : ℕ) (x : Cycle) → heard_at m ws l ts k ≡ At x → thread_at (looked_at m ws l ts k) k ≡ heard_thread x (thread_at ts k)
  looked_at-self k x e = rw (looked_at-heard k x e) (thread_at-set ts k (heard_thread x (thread_at ts k)) (heard_at-lent k x e))

  -- by cases: a look changes nothing, or its thread alone
  pub data Looked (k : ℕ) : Type 0 where
    unheard : heard_at m ws l ts k ≡ Never → Looked k
    hears : (x : Cycle) → heard_at m ws l ts k ≡ At x → Looked k

  pub looked : (k : ℕ) → Looked k
  looked k = go (heard_at m ws l ts k) refl
    where
      go : (b : Bound) → heard_at m ws l ts k ≡ b → Looked k
      go Never e = unheard e
      go (At x) e = hears x e

  -- every segment is kept
  pub looked_at-segment : (k j : ℕ) → (thread_at (looked_at m ws l ts k) j).segment ≡ (thread_at ts j).segment
  looked_at-segment k j = go (looked k) (ℕ_discrete j k)
    where
      go : Looked k → Dec (j ≡ k) → (thread_at (looked_at m ws l ts k) j).segment ≡ (thread_at ts j).segment
      go (unheard e) d = rw (looked_at-none k e) refl
      go (hears x e) (no other) = ap (λ (t : Thread). t.segment) (looked_at-other k j other)
      go (hears x e) (yes same) = rw same (ap (λ (t : Thread). t.segment) (looked_at-self k x e))

  -- and every record that does not wait
  pub looked_at-kept : (k j : ℕ) → awaited_by (thread_at ts j).state ≡ nothing → thread_at (looked_at m ws l ts k) j ≡ thread_at ts j
  looked_at-kept k j w = go (ℕ_discrete j k)
    where
      go : Dec (j ≡ k) → thread_at (looked_at m ws l ts k) j ≡ thread_at ts j
      go (no other) = looked_at-other k j other
      go (yes same) =
          let none = heard_at-other j w in
          ap (λ (us : List Thread). thread_at us j) (looked_at-none k (subst (λ (i : ℕ). heard_at m ws l ts i ≡ Never) same none))

  -- who is running after a look was so before it
  pub looked_at-running : (k j : ℕ) → is_running (thread_at (looked_at m ws l ts k) j).state ≡ true → thread_at (looked_at m ws l ts k) j ≡ thread_at ts j
  looked_at-running k j r = go (looked k) (ℕ_discrete j k)
    where
      go : Looked k → Dec (j ≡ k) → thread_at (looked_at m ws l ts k) j ≡ thread_at ts j
      go (unheard e) d = ap (λ (us : List Thread). thread_at us j) (looked_at-none k e)
      go (hears x e) (no other) = looked_at-other k j other
      go (hears x e) (yes same) =
          let here = ap (λ (i : ℕ). is_running (thread_at (looked_at m ws l ts k) i).state) same ∙ ap (λ (t : Thread). is_running t.state) (looked_at-self k x e) in
          absurd (subst T (sym r ∙ here ∙ state_after-unbegun (wait_ends wait.Event x)) tt)

  -- who is live after a look was live before it
  pub looked_at-live : (k j : ℕ) → T (is_live (thread_at (looked_at m ws l ts k) j).state) → T (is_live (thread_at ts j).state)
  looked_at-live k j t = go (looked k) (ℕ_discrete j k)
    where
      go : Looked k → Dec (j ≡ k) → T (is_live (thread_at ts j).state)
      go (unheard e) d = subst (λ (us : List Thread). T (is_live (thread_at us j).state)) (looked_at-none k e) t
      go (hears x e) (no other) = subst (λ (u : Thread). T (is_live u.state)) (looked_at-other k j other) t
      go (hears x e) (yes same) =
          let (v, since, w, p) = heard_at-waits k x e in
          subst (λ (i : ℕ). T (is_live (thread_at ts i).state)) (sym same) (rw w tt)

  -- whoever has heard hears nothing more
  pub looked_at-deaf : (k : ℕ) (x : Cycle) → heard_at m ws l ts k ≡ At x → awaited_by (thread_at (looked_at m ws l ts k) k).state ≡ nothing
  looked_at-deaf k x e = ap (λ (t : Thread). awaited_by t.state) (looked_at-self k x e) ∙ state_after-unawaited (wait_ends wait.Event x)

  -- "and the event counts as heard"

  pub look_items-other : (k j : ℕ) → (j ≡ k → ⊥) → look_items m ws l ts k j ≡ []
  unfolding look_items_by
  look_items-other k j other = rw (ne_eqb j k other) refl

  pub look_items-none : (k j : ℕ) → heard_at m ws l ts k ≡ Never → look_items m ws l ts k j ≡ []
  unfolding look_items_by heard_items
  look_items-none k j e = rw e (cond-case (λ (is : List Item). is ≡ []) (eqb j k) (λ t. refl) (λ t. refl))

  pub look_items-heard : (k e : ℕ) (since x : Cycle) → view_of (thread_at ts k).state ≡ view.waits e since → heard_at m ws l ts k ≡ At x → look_items m ws l ts k k ≡ heard e x ∷ []
  unfolding look_items_by heard_items heard_item
  look_items-heard k e since x w p = rw (eq-eqb k k refl, p, w) refl

  -- what a look adds to a history, its thread hears
  pub look_items-only : (k j e : ℕ) (x : Cycle) → Memᴰ (heard e x) (look_items m ws l ts k j)
      → (since : Cycle) × (view_of (thread_at ts k).state ≡ view.waits e since) × (heard_now m ws l ts (awaits e since) ≡ At x)
  look_items-only k j e x i = go (looked k) (ℕ_discrete j k)
    where
      Heard : Type 0
      Heard = (since : Cycle) × (view_of (thread_at ts k).state ≡ view.waits e since) × (heard_now m ws l ts (awaits e since) ≡ At x)

      none : look_items m ws l ts k j ≡ [] → Heard
      none p = absurd (Memᴰ.not-nil (subst (λ (is : List Item). Memᴰ (heard e x) is) p i))

      go : Looked k → Dec (j ≡ k) → Heard
      go (unheard p) d = none (look_items-none k j p)
      go (hears y p) (no other) = none (look_items-other k j other)
      go (hears y p) (yes same) =
          let (f, since, w, q) = heard_at-waits k y p in
          let is : look_items m ws l ts k j ≡ heard f y ∷ [] = rw same (look_items-heard k f since y w p) in
          let one : heard e x ≡ heard f y = Memᴰ.eq_of_singleton (subst (λ (a : List Item). Memᴰ (heard e x) a) is i) in
          let event : f ≡ e = cc in
          let cycle : y ≡ x = cc in
          (since, w ∙ ap (λ (a : ℕ). view.waits a since) event, subst₂ (λ (a : ℕ) (c : Cycle). heard_now m ws l ts (awaits a since) ≡ At c) event cycle q)
