-- The sweeps are looks, one after the other: what is kept by every look holds after them.
--     swept_by-none, swept_by-more, sweeps_by-next, sweeps_by-done, sweeps_by-still     one look and one sweep more; the last that counts
--     settled_by-both, settled_by-same     by two tests: what holds of both; the same, where the tests agree
--     settled-carries, settled-length, settled-segment, settled-kept, settled-running, settled-past     of the records and of what was heard so far
use Prim.Native.Nat.{ℕ, zero, suc, ◌+◌, ◌<◌, ◌≤◌, ◌-◌}
use mathlib.Core.Path.{◌≡◌, refl, ap, sym, ◌∙◌, subst₂, fun_ext}
use mathlib.Core.Bool.{Bool, true, cond}
use mathlib.Core.List.{List, [], ◌++◌, append_assoc, append-nil}
use native.Mathlib.Omega.{arith}
use native.Mathlib.Numerals.{add-one}
use lib.ListN.{length}
use Rattle.clock.specs.declared.Cycle.{Cycle}
use Rattle.clock.specs.declared.Bound.TheVariants.{Never}
use Rattle.model.specs.declared.Model.{Model}
use Rattle.model.specs.declared.Thread.{Thread}
use Rattle.model.specs.Record as view
use Rattle.model.specs.Record.{thread_at, is_running, View, view_of, nothing, awaited_of, awaited_by}
use Rattle.plain.specs.History.{Item}
use Rattle.early.specs.declared.Notification.{Notification}
use Rattle.early.specs.Log.{least_heard}
use Rattle.early.specs.Deliver.{Sooner, forecast_sooner, heard_by, looked_by, look_items_by, swept_by, swept_items_by, sweeps_by, sweep_items_by, settled_by, settled_items_by, looked_at, look_items, settled, settled_items}
use Rattle.early_laws.proofs.LookLaws.{looked_at-length, looked_at-other, looked_at-segment, looked_at-kept, looked_at-running}

-- The sweeps, as the code makes them.
module _ (sooner : Sooner) (l : List Notification) (ts : List Thread) where
  pub swept_by-none : swept_by sooner l ts 0 ≡ ts
  unfolding swept_by
  swept_by-none = refl

  pub swept_by-more : (k : ℕ) → looked_by sooner l (swept_by sooner l ts k) k ≡ swept_by sooner l ts (k + 1)
  unfolding swept_by
  swept_by-more k = rw add-one refl

  -- the sweeps that are left
  pub sweeps_by-next : (t n i : ℕ) → i < n → sweeps_by sooner l t (n - (i + 1)) (swept_by sooner l ts t) ≡ sweeps_by sooner l t (n - i) ts
  unfolding sweeps_by
  sweeps_by-next t n i h = let e : n - i ≡ suc (n - (i + 1)) = omega arith in rw e refl

  pub sweeps_by-done : (t n i : ℕ) → n ≤ i → sweeps_by sooner l t (n - i) ts ≡ ts
  unfolding sweeps_by
  sweeps_by-done t n i h = let e : n - i ≡ 0 = omega arith in rw e refl

  -- a sweep in which nobody hears is the last
  pub sweeps_by-still : (t n : ℕ) → swept_by sooner l ts t ≡ ts → sweeps_by sooner l t n ts ≡ ts
  unfolding sweeps_by
  sweeps_by-still t zero h = refl
  sweeps_by-still t (suc n) h = rw h (sweeps_by-still t n h)

-- What holds of two lists of records and of nothing heard, and is kept by a look at both, each by its own test, holds after the sweeps of both.
module _ (p q : Sooner) (l : List Notification) (t : ℕ) (R : List Thread → List Thread → (ℕ → List Item) → (ℕ → List Item) → Type 0)
    (each : (us vs : List Thread) (is js : ℕ → List Item) (k : ℕ) → k < t → R us vs is js
    → R (looked_by p l us k) (looked_by q l vs k) (λ j. is j ++ look_items_by p l us k j) (λ j. js j ++ look_items_by q l vs k j))
  where
    swept-both : (us vs : List Thread) (is js : ℕ → List Item) (n : ℕ) → n ≤ t → R us vs is js
        → R (swept_by p l us n) (swept_by q l vs n) (λ j. is j ++ swept_items_by p l us n j) (λ j. js j ++ swept_items_by q l vs n j)
    unfolding swept_by swept_items_by
    swept-both us vs is js zero h r = subst₂ (R us vs) (fun_ext (λ j. sym (append-nil (is j)))) (fun_ext (λ j. sym (append-nil (js j)))) r
    swept-both us vs is js (suc n) h r =
        subst₂
        (R (looked_by p l (swept_by p l us n) n) (looked_by q l (swept_by q l vs n) n))
        (fun_ext (λ j. append_assoc (is j) (swept_items_by p l us n j) (look_items_by p l (swept_by p l us n) n j)))
        (fun_ext (λ j. append_assoc (js j) (swept_items_by q l vs n j) (look_items_by q l (swept_by q l vs n) n j)))
        (each (swept_by p l us n) (swept_by q l vs n) (λ j. is j ++ swept_items_by p l us n j) (λ j. js j ++ swept_items_by q l vs n j) n h (swept-both us vs is js n (omega arith) r))

    sweeps-both : (n : ℕ) (us vs : List Thread) (is js : ℕ → List Item) → R us vs is js
        → R (sweeps_by p l t n us) (sweeps_by q l t n vs) (λ j. is j ++ sweep_items_by p l t n us j) (λ j. js j ++ sweep_items_by q l t n vs j)
    unfolding sweeps_by sweep_items_by
    sweeps-both zero us vs is js r = subst₂ (R us vs) (fun_ext (λ j. sym (append-nil (is j)))) (fun_ext (λ j. sym (append-nil (js j)))) r
    sweeps-both (suc n) us vs is js r =
        let us₁ = swept_by p l us t in
        let vs₁ = swept_by q l vs t in
        subst₂
        (R (sweeps_by p l t n us₁) (sweeps_by q l t n vs₁))
        (fun_ext (λ j. append_assoc (is j) (swept_items_by p l us t j) (sweep_items_by p l t n us₁ j)))
        (fun_ext (λ j. append_assoc (js j) (swept_items_by q l vs t j) (sweep_items_by q l t n vs₁ j)))
        (sweeps-both n us₁ vs₁ (λ j. is j ++ swept_items_by p l us t j) (λ j. js j ++ swept_items_by q l vs t j) (swept-both us vs is js t (omega arith) r))

    pub settled_by-both : (us vs : List Thread) → R us vs (λ j. []) (λ j. []) → R (settled_by p l t us) (settled_by q l t vs) (settled_items_by p l t us) (settled_items_by q l t vs)
    settled_by-both us vs r = sweeps-both t us vs (λ j. []) (λ j. []) r

-- Two tests that agree on what threads wait for, wherever the looks lead, settle alike.
module _ (p q : Sooner) (l : List Notification) (t : ℕ) (Inv : List Thread → Type 0) (kept : (us : List Thread) (k : ℕ) → Inv us → Inv (looked_by q l us k))
    (agree : (us : List Thread) (k e : ℕ) (since : Cycle) → k < t → Inv us → view_of (thread_at us k).state ≡ view.waits e since
    → p us e (least_heard l e since) ≡ q us e (least_heard l e since))
  where
    heard-same : (us : List Thread) (k : ℕ) → k < t → Inv us → (v : View) → view_of (thread_at us k).state ≡ v → heard_by (p us) l (awaited_of v) ≡ heard_by (q us) l (awaited_of v)
    unfolding heard_by
    heard-same us k h i view.idle w = refl
    heard-same us k h i (view.ready c) w = refl
    heard-same us k h i (view.waits e since) w = ap (λ (b : Bool). cond b Never (least_heard l e since)) (agree us k e since h i w)

    looked-same : (us : List Thread) (k : ℕ) → k < t → Inv us → looked_by p l us k ≡ looked_by q l us k
    unfolding looked_by
    looked-same us k h i = rw (heard-same us k h i (view_of (thread_at us k).state) refl) refl

    pub settled_by-same : (ts : List Thread) → Inv ts → settled_by p l t ts ≡ settled_by q l t ts
    settled_by-same ts inv =
        (settled_by-both
        p
        q
        l
        t
        (λ us vs is js. (us ≡ vs) × Inv vs)
        (λ us vs is js k h r. (ap (λ (x : List Thread). looked_by p l x k) r.0 ∙ looked-same vs k h r.1, kept vs k r.1))
        ts
        ts
        (refl, inv)).0

module _ (m : Model) (ws : List ℕ) (l : List Notification) where
  -- What holds of the records and of nothing heard, and is kept by every look, holds after the sweeps.
  pub settled-carries : (P : List Thread → (ℕ → List Item) → Type 0)
      → ((us : List Thread) (is : ℕ → List Item) (k : ℕ) → k < m.t → P us is → P (looked_at m ws l us k) (λ j. is j ++ look_items m ws l us k j))
      → (ts : List Thread) → P ts (λ j. []) → P (settled m ws l ts) (settled_items m ws l ts)
  settled-carries P each ts h =
      let sooner = forecast_sooner m ws l in
      settled_by-both sooner sooner l m.t (λ us vs is js. P us is) (λ us vs is js. each us is) ts ts h

  -- segments, the number of records, and every record that does not wait are kept

  pub settled-length : (ts : List Thread) → length (settled m ws l ts) ≡ length ts
  settled-length ts = settled-carries (λ us is. length us ≡ length ts) (λ us is k h e. looked_at-length m ws l us k ∙ e) ts refl

  pub settled-segment : (ts : List Thread) (j : ℕ) → (thread_at (settled m ws l ts) j).segment ≡ (thread_at ts j).segment
  settled-segment ts j =
      settled-carries
      (λ us is. (thread_at us j).segment ≡ (thread_at ts j).segment)
      (λ us is k h e. looked_at-segment m ws l us k j ∙ e)
      ts
      refl

  pub settled-kept : (ts : List Thread) (j : ℕ) → awaited_by (thread_at ts j).state ≡ nothing → thread_at (settled m ws l ts) j ≡ thread_at ts j
  settled-kept ts j w =
      settled-carries
      (λ us is. thread_at us j ≡ thread_at ts j)
      (λ us is k h e. looked_at-kept m ws l us k j (ap (λ (t : Thread). awaited_by t.state) e ∙ w) ∙ e)
      ts
      refl

  -- who is running after them was so before
  pub settled-running : (ts : List Thread) (j : ℕ) → is_running (thread_at (settled m ws l ts) j).state ≡ true → thread_at (settled m ws l ts) j ≡ thread_at ts j
  settled-running ts j =
      settled-carries
      (λ us is. is_running (thread_at us j).state ≡ true → thread_at us j ≡ thread_at ts j)
      (λ us is k h e r.
      let same = looked_at-running m ws l us k j r in
      same ∙ e (ap (λ (t : Thread). is_running t.state) (sym same) ∙ r))
      ts
      (λ r. refl)

  -- "records past those are neither read nor written"
  pub settled-past : (ts : List Thread) (j : ℕ) → m.t ≤ j → thread_at (settled m ws l ts) j ≡ thread_at ts j
  settled-past ts j past =
      settled-carries
      (λ us is. thread_at us j ≡ thread_at ts j)
      (λ us is k h e. looked_at-other m ws l us k j (λ same. omega arith) ∙ e)
      ts
      refl
