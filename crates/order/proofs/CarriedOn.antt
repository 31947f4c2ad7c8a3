-- Any list can be carried on to an end: a history so far is a beginning of the plain run's, so that all of them together
-- grow only so far, and as long as a thread is ready up to the horizon some request is granted and makes one longer.
-- Takes as given the facts of the plain run (PlainFacts) and the laws of the kit (KitLaws).
use Prim.Native.Nat.{ℕ, zero, suc, ◌+◌, ◌-◌, ◌≤◌, ◌<◌}
use mathlib.Core.Path.{◌≡◌, refl, ap, sym, ◌∙◌, subst}
use mathlib.Core.Bool.{Bool, true, false}
use mathlib.Core.List.{List, [], ◌∷◌, ◌++◌, append_assoc, append-nil}
use native.Mathlib.Omega.{arith}
use native.Mathlib.Decide.{dec_le, ℕ_discrete}
use lib.ListN.{length, length-append}
use Rattle.clock.specs.declared.Cycle.{Cycle}
use Rattle.model.specs.declared.Model.{Model}
use Rattle.model.specs.declared.Thread.{Thread}
use Rattle.plain.specs.Step.{place_at}
use Rattle.plain.specs.Wake.{some_ready}
use Rattle.plain.specs.History.{Item, history_at, items_at}
use Rattle.plain_laws.proofs.HappenLaws.{history_at-more}
use Rattle.early.specs.declared.Site.{Site}
use Rattle.early.specs.Request.{Requested, granted_to, request_of, listed_by, requests_of}
use Rattle.early_laws.proofs.GrantLaws.{items_after-self}
use Rattle.order.proofs.Seen.{Unbegun}
use Rattle.order.proofs.PlainFacts.{PlainFacts}
use Rattle.order.proofs.KitLaws.{Begins, KitLaws}
use Rattle.order.proofs.Reached.{Reached}
use Rattle.order.proofs.Progress.{some-granted}
use Rattle.order.proofs.End.{history-past}
use Rattle.order.proofs.Lists.{request-reached, request-unbegun}

-- a history only grows
history-grows : (m : Model) (k i d : ℕ) → Begins (history_at m k i) (history_at m k (i + d))
history-grows m k i zero = let e : i + 0 ≡ i = omega arith in ([], ap (history_at m k) e ∙ sym (append-nil (history_at m k i)))
history-grows m k i (suc d) =
    let (rest, p) = history-grows m k i d in
    let e : i + suc d ≡ suc (i + d) = omega arith in
    let items = items_at m (place_at m (i + d)) k in
    (rest ++ items, ap (history_at m k) e ∙ history_at-more m k (i + d) ∙ ap (λ (a : List Item). a ++ items) p ∙ append_assoc (history_at m k i) rest items)

-- a history up to any place is a beginning of the whole
pub history-begins : (m : Model) (pf : PlainFacts m) (k i : ℕ) → k < m.t → Begins (history_at m k i) (history_at m k pf.ending.place)
history-begins m pf k i below = go (dec_le i end)
  where
    end : ℕ
    end = pf.ending.place

    go : Dec (i ≤ end) → Begins (history_at m k i) (history_at m k end)
    go (yes h) =
        let e : i + (end - i) ≡ end = omega arith in
        subst (λ (j : ℕ). Begins (history_at m k i) (history_at m k j)) e (history-grows m k i (end - i))
    go (no h) = ([], sym (history-past m pf k i below (omega arith)) ∙ sym (append-nil (history_at m k i)))

pub reached-begins : (m : Model) (pf : PlainFacts m) {site : Site} {ts : List Thread} {h : ℕ → List Item} → Reached m site ts h → (k : ℕ)
    → k < m.t → Begins (h k) (history_at m k pf.ending.place)
reached-begins m pf r k below =
    subst (λ (a : List Item). Begins a (history_at m k pf.ending.place)) (sym (r.is_cut.history k below)) (history-begins m pf k (r.cut k) below)

-- how long the histories of the threads below n are together
unfoldable pub total : ℕ → (ℕ → List Item) → ℕ
total zero h = 0
total (suc n) h = total n h + length (h n)

total-≤ : (n : ℕ) (g h : ℕ → List Item) → ((k : ℕ) → k < n → length (g k) ≤ length (h k)) → total n g ≤ total n h
unfolding total
total-≤ zero g h le = omega arith
total-≤ (suc n) g h le = let a = total-≤ n g h (λ k b. le k (omega arith)) in let b = le n (omega arith) in omega arith

longer : (a b : List Item) → length a ≤ length (a ++ b)
longer a b = let e = length-append a b in omega arith

total-more : (n : ℕ) (h g : ℕ → List Item) (k : ℕ) → k < n → 0 < length (g k) → total n h < total n (λ j. h j ++ g j)
unfolding total
total-more zero h g k below some = absurd (omega arith)
total-more (suc n) h g k below some = go (λ b. total-more n h g k b some) (ℕ_discrete k n)
  where
    go : (k < n → total n h < total n (λ j. h j ++ g j)) → Dec (k ≡ n)
        → total n h + length (h n) < total n (λ j. h j ++ g j) + length (h n ++ g n)
    go ih (no other) = let a = ih (omega arith) in let b = longer (h n) (g n) in omega arith
    go ih (yes e) =
        let a = total-≤ n h (λ j. h j ++ g j) (λ j b. longer (h j) (g j)) in
        let b = length-append (h n) (g n) in
        let c : 0 < length (g n) = subst (λ (i : ℕ). 0 < length (g i)) e some in
        omega arith

-- no reached histories are longer than the plain run's
reached-total : (m : Model) (pf : PlainFacts m) {site : Site} {ts : List Thread} {h : ℕ → List Item} → Reached m site ts h
    → total m.t h ≤ total m.t (λ k. history_at m k pf.ending.place)
reached-total m pf {site} {ts} {h} r = total-≤ m.t h (λ k. history_at m k pf.ending.place) (λ k b. within k (reached-begins m pf r k b))
  where
    within : (k : ℕ) → Begins (h k) (history_at m k pf.ending.place) → length (h k) ≤ length (history_at m k pf.ending.place)
    within k (rest, p) = let e = ap length p in let l = longer (h k) rest in omega arith

-- a granted request has an item for its thread
granted-item : (m : Model) (ws : List ℕ) (site : Site) (ts : List Thread) (k : ℕ) (c : Cycle)
    → 0 < length ((granted_to m ws site ts k c).items k)
unfolding granted_to
granted-item m ws site ts k c = rw (items_after-self m site ts k c ws) (omega arith)

module _ (m : Model) (pf : PlainFacts m) {marks : List (List Bool)} {ws : List ℕ} (kl : KitLaws m marks ws) where
  abbrev whole : ℕ
  whole = total m.t (λ k. history_at m k pf.ending.place)

  -- a granted request makes the histories longer
  longer-by-grant : (site : Site) (ts : List Thread) (h : ℕ → List Item) → Reached m site ts h → Unbegun m ts → some_ready m ts ≡ true
      → (k : ℕ) × (total m.t h < total m.t (λ j. h j ++ (request_of m marks ws site ts k).items j))
  longer-by-grant site ts h r idle e =
      let (k, c, below, p) = some-granted m pf kl site ts h r idle e in
      let some = subst (λ (a : Requested). 0 < length (a.items k)) (sym p) (granted-item m ws site ts k c) in
      (k, total-more m.t h (request_of m marks ws site ts k).items k below some)

  -- from a reached state whose histories can grow by at most n
  carried : (n : ℕ) (site : Site) (ts : List Thread) (h : ℕ → List Item) → Reached m site ts h → Unbegun m ts → whole ≤ total m.t h + n
      → (more : List ℕ) × (some_ready m (requests_of m marks ws site ts more).threads ≡ false)
  unfolding listed_by
  carried zero site ts h r idle enough = go (some_ready m ts) refl
    where
      go : (b : Bool) → some_ready m ts ≡ b → (more : List ℕ) × (some_ready m (requests_of m marks ws site ts more).threads ≡ false)
      go false e = ([], e)
      go true e =
          let (k, grown) = longer-by-grant site ts h r idle e in
          let bound = reached-total m pf (request-reached m pf kl site ts h r k) in
          absurd (omega arith)
  carried (suc n) site ts h r idle enough = go (some_ready m ts) refl (λ site ts h r i e. carried n site ts h r i e)
    where
      go : (b : Bool) → some_ready m ts ≡ b
          → ((site : Site) (ts : List Thread) (h : ℕ → List Item) → Reached m site ts h → Unbegun m ts → whole ≤ total m.t h + n → (more : List ℕ) × (some_ready m (requests_of m marks ws site ts more).threads ≡ false))
          → (more : List ℕ) × (some_ready m (requests_of m marks ws site ts more).threads ≡ false)
      go false e ih = ([], e)
      go true e ih = on (longer-by-grant site ts h r idle e)
        where
          on : (k : ℕ) × (total m.t h < total m.t (λ j. h j ++ (request_of m marks ws site ts k).items j))
              → (more : List ℕ) × (some_ready m (requests_of m marks ws site ts more).threads ≡ false)
          on (k, grown) =
              let (more, p) = ih a.site a.threads (λ j. h j ++ a.items j) (request-reached m pf kl site ts h r k) (request-unbegun m pf kl site ts h r idle k) (omega arith) in
              (k ∷ more, p)
            where
              a : Requested
              a = request_of m marks ws site ts k

  -- any reached state in which nothing is running can be carried on to an end
  pub reached-carried : (site : Site) (ts : List Thread) (h : ℕ → List Item) → Reached m site ts h → Unbegun m ts
      → (more : List ℕ) × (some_ready m (requests_of m marks ws site ts more).threads ≡ false)
  reached-carried site ts h r idle = carried whole site ts h r idle (omega arith)
