-- "An equal pair held once": a log that holds no pair twice stays so, through new pairs and drops.
-- So at one cycle it holds at most as many pairs as there are events, and it is no longer than a log in which all its pairs stand.
use Prim.Native.Nat.{ℕ, zero, suc, ◌+◌, ◌≤◌, ◌<◌}
use mathlib.Core.Path.{◌≡◌, refl, ap, sym, ◌∙◌, subst}
use mathlib.Core.Logic.{◌⊎◌, inl, inr}
use mathlib.Core.List.Memᴰ
use mathlib.Core.List.{List, [], ◌∷◌, ◌++◌}
use native.Mathlib.Nat.{le_of_suc-le-suc}
use native.Mathlib.Omega.{arith}
use native.Mathlib.Decide.{dec_le}
use lib.Dec.{T, T_not}
use lib.ListN.{length, get_or, length-append}
use Rattle.base.proofs.BoolLaws.{cond-case}
use Rattle.base.proofs.PigeonLaws.{Twice, pigeon}
use Rattle.clock.specs.declared.Cycle.{Cycle}
use Rattle.clock.specs.declared.Bound.{Bound}
use Rattle.clock.specs.Cycle.{cycle_at}
use Rattle.model.specs.Footprint.{has}
use Rattle.early.specs.declared.Notification.{Notification}
use Rattle.early.specs.Log.{pair_of, holds, with_pair, with_pairs, places_with, is_dropped, drop_before}
use Rattle.early_laws.proofs.LogLaws.{In, pair_path, In→holds, with_pairs-kept, with_pairs-new, with_pairs-only, drop_before-only}

-- no pair is held twice
pub data Once : List Notification → Type 0 where
  none : Once []
  more : {x : Notification} {l : List Notification} → (In x l → ⊥) → Once l → Once (x ∷ l)

pub once-end : {l : List Notification} (x : Notification) → Once l → (In x l → ⊥) → Once (l ++ (x ∷ []))
once-end x none other = more (λ h. Memᴰ.not-nil h) none
once-end x (more {x = y} {l = l} apart rest) other =
    more (λ h. go (Memᴰ.append_cases l h)) (once-end x rest (λ h. other (Memᴰ.tail h)))
  where
    go : In y l ⊎ In y (x ∷ []) → ⊥
    go (inl h) = apart h
    go (inr h) = other (Memᴰ.head (sym (Memᴰ.eq_of_singleton h)))

pub with_pair-once : (l : List Notification) (x : Notification) → Once l → Once (with_pair l x)
unfolding with_pair
with_pair-once l x once = cond-case Once (holds l x) (λ t. once) (λ t. once-end x once (λ h. T_not (holds l x) t (In→holds h)))

pub with_pairs-once : (l : List Notification) (c : Cycle) (es : List ℕ) → Once l → Once (with_pairs l c es)
unfolding with_pairs
with_pairs-once l c [] once = once
with_pairs-once l c (e ∷ es) once = with_pairs-once (with_pair l (pair_of e c)) c es (with_pair-once l (pair_of e c) once)

pub drop_before-once : (f : Bound) {l : List Notification} → Once l → Once (drop_before f l)
unfolding drop_before
drop_before-once f none = none
drop_before-once f (more {x = x} {l = l} apart rest) =
    cond-case
    Once
    (is_dropped f x)
    (λ t. drop_before-once f rest)
    (λ t. more (λ h. apart (drop_before-only f l h).0) (drop_before-once f rest))

-- how long a log grows and shrinks

pub with_pair-length : (l : List Notification) (x : Notification) → (length l ≤ length (with_pair l x)) × (length (with_pair l x) ≤ length l + 1)
unfolding with_pair
with_pair-length l x =
    cond-case
    (λ (y : List Notification). (length l ≤ length y) × (length y ≤ length l + 1))
    (holds l x)
    (λ t. omega arith)
    (λ t. simp length-append (omega arith))

pub with_pairs-length : (l : List Notification) (c : Cycle) (es : List ℕ) → (length l ≤ length (with_pairs l c es)) × (length (with_pairs l c es) ≤ length l + length es)
unfolding with_pairs
with_pairs-length l c [] = omega arith
with_pairs-length l c (e ∷ es) =
    let h = with_pair-length l (pair_of e c) in
    let k = with_pairs-length (with_pair l (pair_of e c)) c es in
    omega arith

-- more events take more places
pub with_pairs-append : (l : List Notification) (c : Cycle) (es fs : List ℕ) → with_pairs l c (es ++ fs) ≡ with_pairs (with_pairs l c es) c fs
unfolding with_pairs
with_pairs-append l c [] fs = refl
with_pairs-append l c (e ∷ es) fs = with_pairs-append (with_pair l (pair_of e c)) c es fs

pub places_with-begins : (l : List Notification) (c : Cycle) (es fs : List ℕ) → places_with l c es ≤ places_with l c (es ++ fs)
places_with-begins l c es fs = rw (with_pairs-append l c es fs) (with_pairs-length (with_pairs l c es) c fs).0

pub drop_before-length : (f : Bound) (l : List Notification) → length (drop_before f l) ≤ length l
unfolding drop_before
drop_before-length f [] = omega arith
drop_before-length f (x ∷ l) =
    let h = drop_before-length f l in
    cond-case (λ (y : List Notification). length y ≤ suc (length l)) (is_dropped f x) (λ t. omega arith) (λ t. omega arith)

-- places of a log

pub get_d-In : (l : List Notification) (i : ℕ) (d : Notification) → i < length l → In (get_or l i d) l
get_d-In [] i d h = absurd (omega arith)
get_d-In (x ∷ l) zero d h = Memᴰ.head refl
get_d-In (x ∷ l) (suc i) d h = Memᴰ.tail (get_d-In l i d (le_of_suc-le-suc h))

pub In-get_d : {x : Notification} {l : List Notification} (d : Notification) → In x l → (i : ℕ) × (i < length l) × (get_or l i d ≡ x)
In-get_d d (Memᴰ.head e) = (0, omega arith, sym e)
In-get_d d (Memᴰ.tail h) = let (i, k, e) = In-get_d d h in (suc i, omega arith, e)

pub once-apart : {l : List Notification} → Once l → (i j : ℕ) (d : Notification) → i < j → j < length l → get_or l i d ≡ get_or l j d → ⊥
once-apart none i j d h k e = omega arith
once-apart (more apart rest) zero zero d h k e = omega arith
once-apart (more {l = l} apart rest) zero (suc j) d h k e =
    apart (subst (λ (x : Notification). In x l) (sym e) (get_d-In l j d (le_of_suc-le-suc k)))
once-apart (more apart rest) (suc i) zero d h k e = omega arith
once-apart (more apart rest) (suc i) (suc j) d h k e =
    once-apart rest i j d (le_of_suc-le-suc h) (le_of_suc-le-suc k) e

-- At one cycle there is a pair at most for each event: of more than n two would have the same event, and so be equal.
pub once-at-cycle : (n : ℕ) (c : Cycle) (l : List Notification) → Once l → ((x : Notification) → In x l → (x.event < n) × (x.cycle ≡ c)) → length l ≤ n
once-at-cycle n c l once all = go (dec_le (length l) n)
  where
    d : Notification
    d = pair_of 0 (cycle_at 0 0)

    at : (i : ℕ) → i < length l → ((get_or l i d).event < n) × ((get_or l i d).cycle ≡ c)
    at i h = all (get_or l i d) (get_d-In l i d h)

    two : n < length l → Twice (suc n) (λ i. (get_or l i d).event) → ⊥
    two h (i, j, p, q, e) =
        once-apart once i j d p (omega arith) (pair_path e ((at i (omega arith)).1 ∙ sym (at j (omega arith)).1))

    go : Dec (length l ≤ n) → length l ≤ n
    go (yes h) = h
    go (no h) = absurd (two (omega arith) (pigeon n (λ i. (get_or l i d).event) (λ i k. (at i (omega arith)).0)))

-- a log with one of its pairs taken out

taken : {x : Notification} {l : List Notification} → In x l → List Notification
taken (Memᴰ.head {xs = l} e) = l
taken (Memᴰ.tail {x = y} h) = y ∷ taken h

taken-length : {x : Notification} {l : List Notification} (h : In x l) → suc (length (taken h)) ≡ length l
unfolding taken
taken-length (Memᴰ.head e) = refl
taken-length (Memᴰ.tail h) = ap suc (taken-length h)

taken-other : {x : Notification} {l : List Notification} (h : In x l) (y : Notification) → (y ≡ x → ⊥) → In y l → In y (taken h)
unfolding taken
taken-other (Memᴰ.head {x = z} {xs = l} e) y other k = go (Memᴰ.cases_cons k)
  where
    go : (y ≡ z) ⊎ In y l → In y l
    go (inl p) = absurd (other (p ∙ sym e))
    go (inr q) = q
taken-other (Memᴰ.tail {x = z} {xs = l} h) y other k = go (λ q. taken-other h y other q) (Memᴰ.cases_cons k)
  where
    go : (In y l → In y (taken h)) → (y ≡ z) ⊎ In y l → In y (z ∷ taken h)
    go ih (inl p) = Memᴰ.head p
    go ih (inr q) = Memᴰ.tail (ih q)

-- By induction: the first pair stands in l, and the others, none of which is it, stand in l without it.
pub once-length : {a : List Notification} → Once a → (l : List Notification) → ((x : Notification) → In x a → In x l) → length a ≤ length l
once-length none l within = omega arith
once-length (more {x = x} {l = a} apart rest) l within =
    let h : In x l = within x (Memᴰ.head refl) in
    let k =
    once-length rest (taken h) (λ y j. taken-other h y (λ p. apart (subst (λ (z : Notification). In z a) p j)) (within y (Memᴰ.tail j)))
    in
    let e = taken-length h in
    omega arith

-- fewer events take fewer places
pub with_pairs-shorter : (l : List Notification) (c : Cycle) (es fs : List ℕ) → Once l → ((e : ℕ) → T (has es e) → T (has fs e)) → length (with_pairs l c es) ≤ length (with_pairs l c fs)
with_pairs-shorter l c es fs once within =
    once-length (with_pairs-once l c es once) (with_pairs l c fs) (λ x h. go x (with_pairs-only l c es h))
  where
    go : (x : Notification) → In x l ⊎ ((x.cycle ≡ c) × T (has es x.event)) → In x (with_pairs l c fs)
    go x (inl h) = with_pairs-kept l c fs h
    go x (inr (p, t)) =
        subst
        (λ (d : Cycle). In (pair_of x.event d) (with_pairs l c fs))
        (sym p)
        (with_pairs-new l c fs x.event (within x.event t))
