-- The log as a set of pairs: what a grant's pairs add to it, the least that a wait hears, what a drop leaves; and the places that hold it.
-- `In x l` says that a pair stands in a log. Lengths and pairs held once are in `OnceLaws` and `RoomLaws`.
use Prim.Native.Nat.{ℕ, ◌-◌, ◌≤◌}
use mathlib.Core.Path.{◌≡◌, refl, ap, sym, ◌∙◌, subst}
use mathlib.Core.Logic.{◌⊎◌, inl, inr}
use mathlib.Core.Bool.{cond, not, ◌||◌}
use mathlib.Core.List.Memᴰ
use mathlib.Core.List.{List, [], ◌∷◌, Memᴰ}
use native.Mathlib.Omega.{arith}
use lib.Dec.{T, eqb, eqb→eq, T_not}
use lib.ListN.{length, replicate, length-append, length-replicate}
use lib.Seq.{take-append_seam}
use Rattle.base.proofs.BoolLaws.{cond-case, and→both, both→and, or→either, either→or, eq→eqb}
use Rattle.clock.specs.declared.Cycle.{Cycle}
use Rattle.clock.specs.declared.Bound.{Bound}
use Rattle.clock.specs.declared.Bound.TheVariants.{Never, At}
use Rattle.clock.specs.Cycle.{cycle_at, is_before, is_same}
use Rattle.clock.specs.Advance.{least}
use Rattle.clock.specs.Order.{◌⊑◌, ◌≼◌}
use Rattle.clock.proofs.OrderLaws.{⊑_refl, ≼_trans, Before→not-⊑}
use Rattle.clock.proofs.CycleLaws.{is_before→Before, not-is_before→⊑, ⊑→not-is_before, is_same→≡, ≡→is_same}
use Rattle.clock.proofs.LeastLaws.{least-left, least-right, least-one}
use Rattle.model.specs.Footprint.{has}
use Rattle.early.specs.declared.Notification.{Notification}
use Rattle.early.specs.Log.{places, pair_of, log_of, site_of, is_same_pair, holds, with_pair, with_pairs, is_heard, least_heard, is_dropped, drop_before}

abbrev pub In : Notification → List Notification → Type 0
In x l = Memᴰ x l

pub pair_path : {a b : Notification} → a.event ≡ b.event → a.cycle ≡ b.cycle → a ≡ b
pair_path p q = λ i. record { event = p i; cycle = q i }

pub is_same_pair→≡ : (a b : Notification) → T (is_same_pair a b) → a ≡ b
unfolding is_same_pair
is_same_pair→≡ a b t =
    let (p, q) = and→both (eqb a.event b.event) (is_same a.cycle b.cycle) t in
    pair_path (eqb→eq a.event b.event p) (is_same→≡ a.cycle b.cycle q)

pub ≡→is_same_pair : {a b : Notification} → a ≡ b → T (is_same_pair a b)
unfolding is_same_pair
≡→is_same_pair {a} {b} e =
    both→and
    (eqb a.event b.event)
    (is_same a.cycle b.cycle)
    (eq→eqb a.event b.event (ap (λ (x : Notification). x.event) e))
    (≡→is_same (ap (λ (x : Notification). x.cycle) e))

pub holds→In : (l : List Notification) (x : Notification) → T (holds l x) → In x l
unfolding holds
holds→In [] x t = absurd t
holds→In (y ∷ l) x t = go (λ s. holds→In l x s) (or→either (is_same_pair y x) (holds l x) t)
  where
    go : (T (holds l x) → In x l) → T (is_same_pair y x) ⊎ T (holds l x) → In x (y ∷ l)
    go ih (inl s) = Memᴰ.head (sym (is_same_pair→≡ y x s))
    go ih (inr s) = Memᴰ.tail (ih s)

pub In→holds : {x : Notification} {l : List Notification} → In x l → T (holds l x)
unfolding holds
In→holds {x} (Memᴰ.head {x = y} {xs = l} e) = either→or (is_same_pair y x) (holds l x) (inl (≡→is_same_pair (sym e)))
In→holds {x} (Memᴰ.tail {x = y} {xs = l} h) = either→or (is_same_pair y x) (holds l x) (inr (In→holds h))

-- "an equal pair held once. New pairs go to its end": one pair more

pub with_pair-new : (l : List Notification) (x : Notification) → In x (with_pair l x)
unfolding with_pair
with_pair-new l x =
    cond-case (λ y. In x y) (holds l x) (λ t. holds→In l x t) (λ t. Memᴰ.append_right l (Memᴰ.head refl))

pub with_pair-kept : (l : List Notification) (x : Notification) {y : Notification} → In y l → In y (with_pair l x)
unfolding with_pair
with_pair-kept l x {y} h = cond-case (λ z. In y z) (holds l x) (λ t. h) (λ t. Memᴰ.append_left (x ∷ []) h)

pub with_pair-only : (l : List Notification) (x : Notification) {y : Notification} → In y (with_pair l x) → In y l ⊎ (y ≡ x)
unfolding with_pair
with_pair-only l x {y} h = cond-case (λ z. In y z → In y l ⊎ (y ≡ x)) (holds l x) (λ t k. inl k) (λ t k. go (Memᴰ.append_cases l k)) h
  where
    go : In y l ⊎ In y (x ∷ []) → In y l ⊎ (y ≡ x)
    go (inl k) = inl k
    go (inr k) = inr (Memᴰ.eq_of_singleton k)

-- the pairs of events es, notified at c

pub with_pairs-kept : (l : List Notification) (c : Cycle) (es : List ℕ) {y : Notification} → In y l → In y (with_pairs l c es)
unfolding with_pairs
with_pairs-kept l c [] h = h
with_pairs-kept l c (e ∷ es) h = with_pairs-kept (with_pair l (pair_of e c)) c es (with_pair-kept l (pair_of e c) h)

pub with_pairs-new : (l : List Notification) (c : Cycle) (es : List ℕ) (e : ℕ) → T (has es e) → In (pair_of e c) (with_pairs l c es)
unfolding with_pairs has
with_pairs-new l c [] e t = absurd t
with_pairs-new l c (d ∷ es) e t = go (λ s. with_pairs-new (with_pair l (pair_of d c)) c es e s) (or→either (eqb d e) (has es e) t)
  where
    here : List Notification
    here = with_pair l (pair_of d c)

    go : (T (has es e) → In (pair_of e c) (with_pairs here c es)) → T (eqb d e) ⊎ T (has es e) → In (pair_of e c) (with_pairs here c es)
    go ih (inl s) =
        with_pairs-kept here c es (subst (λ (x : ℕ). In (pair_of x c) here) (eqb→eq d e s) (with_pair-new l (pair_of d c)))
    go ih (inr s) = ih s

-- what is held after was held before, or is a new pair
pub with_pairs-only : (l : List Notification) (c : Cycle) (es : List ℕ) {y : Notification} → In y (with_pairs l c es) → In y l ⊎ ((y.cycle ≡ c) × T (has es y.event))
unfolding with_pairs has
with_pairs-only l c [] h = inl h
with_pairs-only l c (e ∷ es) {y} h = go (with_pairs-only (with_pair l (pair_of e c)) c es h)
  where
    mine : In y l ⊎ (y ≡ pair_of e c) → In y l ⊎ ((y.cycle ≡ c) × T (eqb e y.event || has es y.event))
    mine (inl k) = inl k
    mine (inr p) =
        inr (
          ap (λ (x : Notification). x.cycle) p,
          either→or
              (eqb e y.event)
              (has es y.event)
              (inl (eq→eqb e y.event (sym (ap (λ (x : Notification). x.event) p)))),
        )

    go :
        In y (with_pair l (pair_of e c)) ⊎ ((y.cycle ≡ c) × T (has es y.event)) →
        In y l ⊎ ((y.cycle ≡ c) × T (eqb e y.event || has es y.event))
    go (inl k) = mine (with_pair-only l (pair_of e c) k)
    go (inr (p, t)) = inr (p, either→or (eqb e y.event) (has es y.event) (inr t))

-- "the least logged notification not before its wait"

pub is_heard→ : (e : ℕ) (since : Cycle) (x : Notification) → T (is_heard e since x) → (x.event ≡ e) × (since ⊑ x.cycle)
unfolding is_heard
is_heard→ e since x t =
    let (p, q) = and→both (eqb x.event e) (not (is_before x.cycle since)) t in
    (eqb→eq x.event e p, not-is_before→⊑ x.cycle since q)

pub →is_heard : (e : ℕ) (since : Cycle) (x : Notification) → x.event ≡ e → since ⊑ x.cycle → T (is_heard e since x)
unfolding is_heard
→is_heard e since x p q =
    both→and (eqb x.event e) (not (is_before x.cycle since)) (eq→eqb x.event e p) (⊑→not-is_before q)

-- what one place of the log gives to hear
heard_of : ℕ → Cycle → Notification → Bound
heard_of e since x = cond (is_heard e since x) (At x.cycle) Never

pub least_heard-≼ : (l : List Notification) (e : ℕ) (since : Cycle) (x : Notification) → In x l → x.event ≡ e → since ⊑ x.cycle → least_heard l e since ≼ At x.cycle
unfolding least_heard heard_of
least_heard-≼ [] e since x h q r = absurd (Memᴰ.not-nil h)
least_heard-≼ (y ∷ l) e since x (Memᴰ.head p) q r =
    ≼_trans
    (least_heard (y ∷ l) e since)
    (heard_of e since y)
    (At x.cycle)
    (least-left (heard_of e since y) (least_heard l e since))
    (subst
    (λ (z : Notification). heard_of e since z ≼ At x.cycle)
    p
    (cond-case
    (λ (b : Bound). b ≼ At x.cycle)
    (is_heard e since x)
    (λ t. ⊑_refl)
    (λ t. absurd (T_not (is_heard e since x) t (→is_heard e since x q r)))))
least_heard-≼ (y ∷ l) e since x (Memᴰ.tail h) q r =
    ≼_trans
    (least_heard (y ∷ l) e since)
    (least_heard l e since)
    (At x.cycle)
    (least-right (heard_of e since y) (least_heard l e since))
    (least_heard-≼ l e since x h q r)

pub least_heard-at : (l : List Notification) (e : ℕ) (since c : Cycle) → least_heard l e since ≡ At c → In (pair_of e c) l × (since ⊑ c)
unfolding least_heard heard_of
least_heard-at [] e since c p = let z : ◌≡◌ {A = ℕ} 0 1 = cc in absurd (omega arith)
least_heard-at (y ∷ l) e since c p = go (λ q. least_heard-at l e since c q) (least-one (heard_of e since y) (least_heard l e since))
  where
    mine : heard_of e since y ≡ At c → In (pair_of e c) (y ∷ l) × (since ⊑ c)
    mine =
        cond-case
        (λ (b : Bound). b ≡ At c → In (pair_of e c) (y ∷ l) × (since ⊑ c))
        (is_heard e since y)
        (λ t q.
        let (f, g) = is_heard→ e since y t in
        let d : y.cycle ≡ c = cc in
        (Memᴰ.head (pair_path (sym f) (sym d)), subst (λ (x : Cycle). since ⊑ x) d g))
        (λ t q. let z : ◌≡◌ {A = ℕ} 0 1 = cc in absurd (omega arith))

    go :
        (least_heard l e since ≡ At c → In (pair_of e c) l × (since ⊑ c)) →
        (least (heard_of e since y) (least_heard l e since) ≡ heard_of e since y) ⊎ (least (heard_of e since y) (least_heard l e since) ≡ least_heard l e since) →
        In (pair_of e c) (y ∷ l) × (since ⊑ c)
    go ih (inl q) = mine (sym q ∙ p)
    go ih (inr q) = let (a, b) = ih (sym q ∙ p) in (Memᴰ.tail a, b)

-- it is not before the wait
pub least_heard-since : (l : List Notification) (e : ℕ) (since : Cycle) → At since ≼ least_heard l e since
least_heard-since l e since = go (least_heard l e since) refl
  where
    go : (b : Bound) → least_heard l e since ≡ b → At since ≼ b
    go Never p = tt
    go (At c) p = (least_heard-at l e since c p).1

-- a log of which no less can be heard
pub least_heard-more : (l l' : List Notification) (e : ℕ) (since : Cycle) → ((c : Cycle) → In (pair_of e c) l → since ⊑ c → In (pair_of e c) l') → least_heard l' e since ≼ least_heard l e since
least_heard-more l l' e since more = go (least_heard l e since) refl
  where
    go : (b : Bound) → least_heard l e since ≡ b → least_heard l' e since ≼ b
    go Never p = tt
    go (At c) p = let (i, r) = least_heard-at l e since c p in least_heard-≼ l' e since (pair_of e c) (more c i r) refl r

-- "notifications before the floor .. are dropped, all of them if none is ready"

pub drop_before-kept : (f : Cycle) (l : List Notification) {x : Notification} → In x l → f ⊑ x.cycle → In x (drop_before (At f) l)
unfolding drop_before is_dropped
drop_before-kept f [] k h = absurd (Memᴰ.not-nil k)
drop_before-kept f (y ∷ l) {x} (Memᴰ.head p) h =
    cond-case
    (λ (z : List Notification). In x z)
    (is_before y.cycle f)
    (λ t. absurd (Before→not-⊑ (is_before→Before y.cycle f t) (subst (λ (z : Notification). f ⊑ z.cycle) p h)))
    (λ t. Memᴰ.head p)
drop_before-kept f (y ∷ l) {x} (Memᴰ.tail k) h =
    cond-case
    (λ (z : List Notification). In x z)
    (is_before y.cycle f)
    (λ t. drop_before-kept f l k h)
    (λ t. Memᴰ.tail (drop_before-kept f l k h))

pub drop_before-only : (f : Bound) (l : List Notification) {x : Notification} → In x (drop_before f l) → In x l × (f ≼ At x.cycle)
unfolding drop_before is_dropped
drop_before-only f [] h = absurd (Memᴰ.not-nil h)
drop_before-only f (y ∷ l) {x} h =
    cond-case
    (λ (z : List Notification). In x z → In x (y ∷ l) × (f ≼ At x.cycle))
    (is_dropped f y)
    (λ t k. let (a, b) = drop_before-only f l k in (Memᴰ.tail a, b))
    (λ t k. here t (Memᴰ.cases_cons k) (λ j. drop_before-only f l j))
    h
  where
    stays : (g : Bound) → T (not (is_dropped g y)) → g ≼ At y.cycle
    stays Never t = absurd t
    stays (At g) t = not-is_before→⊑ y.cycle g t

    here : T (not (is_dropped f y)) → (x ≡ y) ⊎ In x (drop_before f l) → (In x (drop_before f l) → In x l × (f ≼ At x.cycle)) → In x (y ∷ l) × (f ≼ At x.cycle)
    here t (inl p) ih = (Memᴰ.head p, subst (λ (z : Notification). f ≼ At z.cycle) (sym p) (stays f t))
    here t (inr k) ih = let (a, b) = ih k in (Memᴰ.tail a, b)

pub drop_before-none : (l : List Notification) → drop_before Never l ≡ []
unfolding drop_before is_dropped
drop_before-none [] = refl
drop_before-none (x ∷ l) = drop_before-none l

-- "after a grant the places past its count are 0": the log of a state that holds l is l

pub log_of-site_of : (v : List ℕ) (l : List Notification) → log_of (site_of v l) ≡ l
unfolding log_of site_of
log_of-site_of v l = take-append_seam l (replicate (places - length l) (pair_of 0 (cycle_at 0 0)))

pub site_of-count : (v : List ℕ) (l : List Notification) → (site_of v l).count ≡ length l
unfolding site_of
site_of-count v l = refl

pub site_of-variables : (v : List ℕ) (l : List Notification) → (site_of v l).variables.at ≡ v
unfolding site_of
site_of-variables v l = refl

pub site_of-length : (v : List ℕ) (l : List Notification) → length l ≤ places → length (site_of v l).log ≡ places
unfolding site_of
site_of-length v l h = simp (length-append, length-replicate) (omega arith)
