-- The log never fills up for good (section 6 of the argument), counted with the pairs of what is running. After every call at most 96 pairs are
-- later than the floor, since a grant later than the floor leaves at most 96 in all and a grant at the floor adds none after it; none is
-- before the floor; and at the floor there is at most one pair for each of 32 events. 96 + 32 = 128. A finish, the deliveries and
-- the drop add no pair that was not counted.
-- Assumes nothing.
use Prim.Native.Nat.{ℕ, ◌≤◌, ◌<◌}
use mathlib.Core.Path.{◌≡◌, ap, subst}
use mathlib.Core.Logic.{◌⊎◌, inl, inr}
use mathlib.Core.Bool.{not}
use mathlib.Core.List.Memᴰ
use mathlib.Core.List.{List, [], ◌∷◌, Memᴰ}
use native.Mathlib.Omega.{arith}
use lib.Dec.{T, T_not}
use lib.ListN.{length}
use Rattle.base.proofs.BoolLaws.{T-case, cond-case}
use Rattle.clock.specs.declared.Cycle.{Cycle}
use Rattle.clock.specs.declared.Bound.{Bound}
use Rattle.clock.specs.declared.Bound.TheVariants.{Never, At}
use Rattle.clock.specs.Cycle.{is_before}
use Rattle.clock.specs.Advance.{is_bound_before}
use Rattle.clock.specs.Order.{Before, ◌⊑◌, ◌≼◌}
use Rattle.clock.proofs.OrderLaws.{⊑-Before-trans}
use Rattle.clock.proofs.CycleLaws.{is_before→Before, Before→is_before}
use Rattle.clock.proofs.LeastLaws.{not-is_bound_before→≼}
use Rattle.model.specs.Footprint.{has}
use Rattle.early.specs.declared.Notification.{Notification}
use Rattle.early.specs.Log.{places, pair_of, with_pairs}
use Rattle.early.specs.Request.{early_places}
use Rattle.early_laws.proofs.OnceLaws.{Once, none, more, once-length}
use Rattle.early_laws.proofs.RoomLaws.{later, later-≤, later-with_pairs, with_pairs-room}

-- at most 96 pairs are later than a bound
abbrev pub Roomy : Bound → List Notification → Type 0
Roomy Never l = Unit {0}
Roomy (At f) l = length (later f l) ≤ early_places

-- a log of at most 96 pairs is roomy
pub roomy-short : (f : Bound) (l : List Notification) → length l ≤ early_places → Roomy f l
roomy-short Never l h = tt
roomy-short (At f) l h = let k = later-≤ f l in omega arith

-- what is later than f
later-only : (f : Cycle) (l : List Notification) {y : Notification} → Memᴰ y (later f l) → Memᴰ y l × Before f y.cycle
unfolding later
later-only f [] i = absurd (Memᴰ.not-nil i)
later-only f (x ∷ l) {y} i =
    cond-case (λ (z : List Notification). Memᴰ y z → Memᴰ y (x ∷ l) × Before f y.cycle) (is_before f x.cycle)
    (λ t j. here t (Memᴰ.cases_cons j) (λ k. later-only f l k)) (λ t j. let (a, b) = later-only f l j in (Memᴰ.tail a, b)) i
  where
    here : T (is_before f x.cycle) → (y ≡ x) ⊎ Memᴰ y (later f l) → (Memᴰ y (later f l) → Memᴰ y l × Before f y.cycle)
        → Memᴰ y (x ∷ l) × Before f y.cycle
    here t (inl e) ih = (Memᴰ.head e, rw e (is_before→Before f x.cycle t))
    here t (inr j) ih = let (a, b) = ih j in (Memᴰ.tail a, b)

later-kept : (f : Cycle) (l : List Notification) {y : Notification} → Memᴰ y l → Before f y.cycle → Memᴰ y (later f l)
unfolding later
later-kept f [] i h = absurd (Memᴰ.not-nil i)
later-kept f (x ∷ l) {y} i h = go (Memᴰ.cases_cons i) (λ j. later-kept f l j h)
  where
    go : (y ≡ x) ⊎ Memᴰ y l → (Memᴰ y l → Memᴰ y (later f l)) → Memᴰ y (later f (x ∷ l))
    go (inl e) ih =
        cond-case (λ (z : List Notification). Memᴰ y z) (is_before f x.cycle) (λ t. Memᴰ.head e)
        (λ t. absurd (T_not (is_before f x.cycle) t (Before→is_before (subst (λ (z : Notification). Before f z.cycle) e h))))
    go (inr j) ih = cond-case (λ (z : List Notification). Memᴰ y z) (is_before f x.cycle) (λ t. Memᴰ.tail (ih j)) (λ t. ih j)

later-once : (f : Cycle) {l : List Notification} → Once l → Once (later f l)
unfolding later
later-once f none = none
later-once f (more {x = x} {l = l} apart rest) =
    cond-case Once (is_before f x.cycle) (λ t. more (λ i. apart (later-only f l i).0) (later-once f rest)) (λ t. later-once f rest)

-- a log that holds nothing but pairs of a roomy one is roomy, at that bound or a later one
pub roomy-within : (f g : Bound) (a b : List Notification) → Once a → ((y : Notification) → Memᴰ y a → Memᴰ y b) → f ≼ g → Roomy f b → Roomy g a
roomy-within f Never a b once within fg room = tt
roomy-within Never (At g) a b once within fg room = absurd fg
roomy-within (At f) (At g) a b once within fg room =
    let h = once-length (later-once g once) (later f b) (λ y i. let (j, k) = later-only g a i in later-kept f b (within y j) (⊑-Before-trans fg k)) in
    omega arith

-- With the pairs of a grant at c: if c is later than the floor f, at most 96 pairs are counted; if not, what is new is not later than f.
pub roomy-pairs : (f : Bound) (l : List Notification) (c : Cycle) (es : List ℕ)
    → (T (is_bound_before f (At c)) → length (with_pairs l c es) ≤ early_places) → Roomy f l → Roomy f (with_pairs l c es)
roomy-pairs Never l c es early room = tt
roomy-pairs (At f) l c es early room = go (T-case (is_bound_before (At f) (At c)))
  where
    go : T (is_bound_before (At f) (At c)) ⊎ T (not (is_bound_before (At f) (At c))) → length (later f (with_pairs l c es)) ≤ early_places
    go (inl t) = let a = early t in let b = later-≤ f (with_pairs l c es) in omega arith
    go (inr t) = let a = ap length (later-with_pairs f l c es (not-is_bound_before→≼ (At f) (At c) t)) in omega arith

-- A grant at the floor has places: what is later than the floor, and one place for each event at the floor.
pub floor-places : (n : ℕ) (l : List Notification) (c : Cycle) (es : List ℕ) → Once l → n ≤ 32 → Roomy (At c) l
    → ((y : Notification) → Memᴰ y l → (y.event < n) × (c ⊑ y.cycle)) → ((e : ℕ) → T (has es e) → e < n) → length (with_pairs l c es) ≤ places
floor-places n l c es o small room old new = let h = with_pairs-room n l c es o old new in omega arith

-- Places for what is run at c and lists es: a log with those pairs and all of l, short and roomy at a bound.
pub record Room (floor : Bound) (l : List Notification) (c : Cycle) (es : List ℕ) : Type 0 where
  pub log : List Notification
  pub kept : (y : Notification) → Memᴰ y l → Memᴰ y log
  pub listed : (e : ℕ) → T (has es e) → Memᴰ (pair_of e c) log
  pub roomy : Roomy floor log
  pub short : length log ≤ places
