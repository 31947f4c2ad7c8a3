-- Room in the log: the pairs at a cycle are at most as many as the events, so that only those after it have to be counted.
-- A grant at the floor adds none after the floor, a drop takes none away that matters, and so 96 and 32 places are 128.
use Prim.Native.Nat.{ℕ, suc, ◌+◌, ◌≤◌, ◌<◌}
use mathlib.Core.Path.{◌≡◌, refl, sym, ◌∙◌, subst}
use mathlib.Core.Logic.{◌⊎◌, inl, inr}
use mathlib.Core.Bool.{Bool, true, false, cond, not}
use mathlib.Core.List.Memᴰ
use mathlib.Core.List.{List, [], ◌∷◌, ◌++◌}
use native.Mathlib.Omega.{arith}
use lib.Dec.{T}
use lib.ListN.{length}
use Rattle.base.proofs.BoolLaws.{T-case, cond-case, T→true, T→false}
use Rattle.clock.specs.declared.Cycle.{Cycle}
use Rattle.clock.specs.declared.Bound.{Bound}
use Rattle.clock.specs.Cycle.{is_before}
use Rattle.clock.specs.Order.{◌⊑◌}
use Rattle.clock.proofs.OrderLaws.{⊑-antisym, ⊑_refl, ≡→⊑, ⊑-Before-trans}
use Rattle.clock.proofs.CycleLaws.{is_before→Before, Before→is_before, not-is_before→⊑, ⊑→not-is_before}
use Rattle.model.specs.Footprint.{has}
use Rattle.early.specs.declared.Notification.{Notification}
use Rattle.early.specs.Log.{pair_of, holds, with_pair, with_pairs, is_dropped, drop_before}
use Rattle.early_laws.proofs.LogLaws.{In, with_pairs-only}
use Rattle.early_laws.proofs.OnceLaws.{Once, none, more, with_pairs-once, once-at-cycle}

-- the pairs after cycle f, and the others
unfoldable pub later : Cycle → List Notification → List Notification
later f [] = []
later f (x ∷ l) = cond (is_before f x.cycle) (x ∷ later f l) (later f l)

unfoldable pub not_later : Cycle → List Notification → List Notification
not_later f [] = []
not_later f (x ∷ l) = cond (is_before f x.cycle) (not_later f l) (x ∷ not_later f l)

pub later-length : (f : Cycle) (l : List Notification) → length l ≡ length (not_later f l) + length (later f l)
unfolding later not_later
later-length f [] = refl
later-length f (x ∷ l) = go (is_before f x.cycle) (later-length f l)
  where
    go :
        (b : Bool) →
        length l ≡ length (not_later f l) + length (later f l) →
        suc (length l) ≡ length (cond b (not_later f l) (x ∷ not_later f l)) + length (cond b (x ∷ later f l) (later f l))
    go true h = omega arith
    go false h = omega arith

-- what is not later than f, in a log of pairs none of which is before it, stands at f
pub not_later-only : (f : Cycle) (l : List Notification) {x : Notification} → In x (not_later f l) → In x l × (x.cycle ⊑ f)
unfolding not_later
not_later-only f [] h = absurd (Memᴰ.not-nil h)
not_later-only f (y ∷ l) {x} h =
    cond-case
    (λ (z : List Notification). In x z → In x (y ∷ l) × (x.cycle ⊑ f))
    (is_before f y.cycle)
    (λ t k. let (a, b) = not_later-only f l k in (Memᴰ.tail a, b))
    (λ t k. here t (Memᴰ.cases_cons k) (λ j. not_later-only f l j))
    h
  where
    here : T (not (is_before f y.cycle)) → (x ≡ y) ⊎ In x (not_later f l) → (In x (not_later f l) → In x l × (x.cycle ⊑ f)) → In x (y ∷ l) × (x.cycle ⊑ f)
    here t (inl p) ih = (Memᴰ.head p, subst (λ (z : Notification). z.cycle ⊑ f) (sym p) (not-is_before→⊑ f y.cycle t))
    here t (inr k) ih = let (a, b) = ih k in (Memᴰ.tail a, b)

pub not_later-once : (f : Cycle) {l : List Notification} → Once l → Once (not_later f l)
unfolding not_later
not_later-once f none = none
not_later-once f (more {x = x} {l = l} apart rest) =
    cond-case
    Once
    (is_before f x.cycle)
    (λ t. not_later-once f rest)
    (λ t. more (λ h. apart (not_later-only f l h).0) (not_later-once f rest))

-- n events, no pair before f, none twice: n places for those at f
pub once-room : (n : ℕ) (f : Cycle) (l : List Notification) → Once l → ((x : Notification) → In x l → (x.event < n) × (f ⊑ x.cycle)) → length l ≤ n + length (later f l)
once-room n f l once all =
    let h = later-length f l in
    let k =
    once-at-cycle
    n
    f
    (not_later f l)
    (not_later-once f once)
    (λ x j.
    let (a, b) = not_later-only f l j in
    let (p, q) = all x a in
    (p, ⊑-antisym b q))
    in
    omega arith

-- pairs that are logged at f or before it add none after f

later-end : (f : Cycle) (l : List Notification) (x : Notification) → x.cycle ⊑ f → later f (l ++ (x ∷ [])) ≡ later f l
unfolding later
later-end f [] x h = rw (T→false (is_before f x.cycle) (⊑→not-is_before h)) refl
later-end f (y ∷ l) x h = rw (later-end f l x h) refl

pub later-with_pair : (f : Cycle) (l : List Notification) (x : Notification) → x.cycle ⊑ f → later f (with_pair l x) ≡ later f l
unfolding with_pair
later-with_pair f l x h =
    cond-case (λ (y : List Notification). later f y ≡ later f l) (holds l x) (λ t. refl) (λ t. later-end f l x h)

pub later-with_pairs : (f : Cycle) (l : List Notification) (c : Cycle) (es : List ℕ) → c ⊑ f → later f (with_pairs l c es) ≡ later f l
unfolding with_pairs
later-with_pairs f l c [] h = refl
later-with_pairs f l c (e ∷ es) h = later-with_pairs f (with_pair l (pair_of e c)) c es h ∙ later-with_pair f l (pair_of e c) h

-- a later cycle, and a drop, leave no more

pub later-≤ : (f : Cycle) (l : List Notification) → length (later f l) ≤ length l
later-≤ f l = let h = later-length f l in omega arith

pub later-mono : (f g : Cycle) (l : List Notification) → f ⊑ g → length (later g l) ≤ length (later f l)
unfolding later
later-mono f g [] h = omega arith
later-mono f g (x ∷ l) h = go (T-case (is_before g x.cycle)) (later-mono f g l h)
  where
    Goal : Bool → Bool → Type 0
    Goal a b = length (cond a (x ∷ later g l) (later g l)) ≤ length (cond b (x ∷ later f l) (later f l))

    both : (b : Bool) → length (later g l) ≤ length (later f l) → Goal false b
    both true ih = omega arith
    both false ih = omega arith

    go : T (is_before g x.cycle) ⊎ T (not (is_before g x.cycle)) → length (later g l) ≤ length (later f l) → Goal (is_before g x.cycle) (is_before f x.cycle)
    go (inl t) ih =
        let sooner = Before→is_before (⊑-Before-trans h (is_before→Before g x.cycle t)) in
        rw (T→true (is_before g x.cycle) t, T→true (is_before f x.cycle) sooner) (omega arith)
    go (inr t) ih = rw (T→false (is_before g x.cycle) t) (both (is_before f x.cycle) ih)

pub later-drop_before : (f : Cycle) (b : Bound) (l : List Notification) → length (later f (drop_before b l)) ≤ length (later f l)
unfolding drop_before later
later-drop_before f b [] = omega arith
later-drop_before f b (x ∷ l) =
    cond-case
    (λ (y : List Notification). length (later f y) ≤ length (later f (x ∷ l)))
    (is_dropped b x)
    (λ t. gone (is_before f x.cycle) (later-drop_before f b l))
    (λ t. stays (is_before f x.cycle) (later-drop_before f b l))
  where
    rest : List Notification
    rest = later f (drop_before b l)

    gone : (s : Bool) → length rest ≤ length (later f l) → length rest ≤ length (cond s (x ∷ later f l) (later f l))
    gone true h = omega arith
    gone false h = h

    stays : (s : Bool) → length rest ≤ length (later f l) → length (cond s (x ∷ rest) rest) ≤ length (cond s (x ∷ later f l) (later f l))
    stays true h = omega arith
    stays false h = h

-- "log plus new pairs" of a thread at the floor c: where at most so many are after c, n events have n places more
pub with_pairs-room : (n : ℕ) (l : List Notification) (c : Cycle) (es : List ℕ) → Once l
    → ((x : Notification) → In x l → (x.event < n) × (c ⊑ x.cycle))
    → ((e : ℕ) → T (has es e) → e < n)
    → length (with_pairs l c es) ≤ n + length (later c l)
with_pairs-room n l c es once all listed =
    subst
    (λ (y : List Notification). length (with_pairs l c es) ≤ n + length y)
    (later-with_pairs c l c es ⊑_refl)
    (once-room n c (with_pairs l c es) (with_pairs-once l c es once) (λ x h. go x (with_pairs-only l c es h)))
  where
    go : (x : Notification) → In x l ⊎ ((x.cycle ≡ c) × T (has es x.event)) → (x.event < n) × (c ⊑ x.cycle)
    go x (inl h) = all x h
    go x (inr (p, t)) = (listed x.event t, ≡→⊑ (sym p))
