-- How a Boolean test is used: by its two cases, and part by part.
use Prim.Native.Nat.{ℕ}
use mathlib.Core.Path.{◌≡◌, refl, subst}
use mathlib.Core.Logic.{◌⊎◌, inl, inr}
use mathlib.Core.Bool.{Bool, true, false, not, cond, ◌&&◌, ◌||◌}
use lib.Dec.{T, eqb, eqb_refl}

pub T-case : (b : Bool) → T b ⊎ T (not b)
T-case true = inl tt
T-case false = inr tt

-- what holds of both values of a choice, each where it is taken, holds of the choice
pub cond-case : {A : Type 0} {x y : A} (Q : A → Type 0) (b : Bool) → (T b → Q x) → (T (not b) → Q y) → Q (cond b x y)
cond-case Q true f g = f tt
cond-case Q false f g = g tt

pub T→true : (b : Bool) → T b → b ≡ true
T→true true t = refl
T→true false t = absurd t

pub T→false : (b : Bool) → T (not b) → b ≡ false
T→false true t = absurd t
T→false false t = refl

pub true→T : (b : Bool) → b ≡ true → T b
true→T true e = tt
true→T false e = absurd (subst (λ (x : Bool). T (not x)) e tt)

pub false→T : (b : Bool) → b ≡ false → T (not b)
false→T true e = absurd (subst T e tt)
false→T false e = tt

pub not-not : (b : Bool) → T (not (not b)) → T b
not-not true t = tt
not-not false t = absurd t

-- two tests that imply each other are one
pub T-same : (a b : Bool) → (T a → T b) → (T b → T a) → a ≡ b
T-same true true f g = refl
T-same true false f g = absurd (f tt)
T-same false true f g = absurd (g tt)
T-same false false f g = refl

pub and→both : (a b : Bool) → T (a && b) → T a × T b
and→both true b t = (tt, t)
and→both false b t = absurd t

pub and→true : (a b : Bool) → a && b ≡ true → (a ≡ true) × (b ≡ true)
and→true true b e = (refl, e)
and→true false b e = absurd (true→T false e)

pub both→and : (a b : Bool) → T a → T b → T (a && b)
both→and true b s t = t
both→and false b s t = absurd s

pub or→either : (a b : Bool) → T (a || b) → T a ⊎ T b
or→either true b t = inl tt
or→either false b t = inr t

pub either→or : (a b : Bool) → T a ⊎ T b → T (a || b)
either→or true b s = tt
either→or false b (inl s) = absurd s
either→or false b (inr s) = s

pub not-or→both : (a b : Bool) → T (not (a || b)) → T (not a) × T (not b)
not-or→both true b t = absurd t
not-or→both false b t = (tt, t)

pub not-and→either : (a b : Bool) → T (not (a && b)) → T (not a) ⊎ T (not b)
not-and→either true b t = inr t
not-and→either false b t = inl tt

pub eq→eqb : (m n : ℕ) → m ≡ n → T (eqb m n)
eq→eqb m n e = subst (λ (k : ℕ). T (eqb m k)) e (eqb_refl m)
