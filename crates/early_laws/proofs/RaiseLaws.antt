-- A bound raised to the cycle in which a wait began is the least that is sooner than neither, and never where the bound is; raising keeps the order
-- of bounds and their least. What is heard from the log is not before the wait, so that it needs no raise.
use Prim.Native.Nat.{ℕ, zero, suc}
use mathlib.Core.Path.{◌≡◌, refl, ◌∙◌}
use mathlib.Core.List.{List}
use Rattle.base.proofs.BoolLaws.{cond-case, T→false}
use Rattle.clock.specs.declared.Cycle.{Cycle}
use Rattle.clock.specs.declared.Bound.{Bound}
use Rattle.clock.specs.declared.Bound.TheVariants.{Never, At}
use Rattle.clock.specs.Advance.{is_bound_before, least, least_below}
use Rattle.clock.specs.Order.{◌≼◌}
use Rattle.clock.proofs.OrderLaws.{≼_refl, ≼_trans, ≼-antisym}
use Rattle.clock.proofs.LeastLaws.{is_bound_before→≼, not-is_bound_before→≼, ≼→not-is_bound_before, least-left, least-right, least-case, least-glb}
use Rattle.early.specs.declared.Notification.{Notification}
use Rattle.early.specs.Log.{least_heard}
use Rattle.early.specs.Earliest.{raised}
use Rattle.early_laws.proofs.LogLaws.{least_heard-since}

module _ (since : Cycle) where
  pub raised-case : (Q : Bound → Type 0) (x : Bound) → Q (At since) → Q x → Q (raised since x)
  unfolding raised
  raised-case Q x p q = cond-case Q (is_bound_before x (At since)) (λ t. p) (λ t. q)

  -- "Raise each bound .. to at least that cycle"
  pub raised-since : (x : Bound) → At since ≼ raised since x
  unfolding raised
  raised-since x = cond-case (λ (y : Bound). At since ≼ y) (is_bound_before x (At since)) (λ t. ≼_refl (At since)) (λ t. not-is_bound_before→≼ x (At since) t)

  pub raised-inflate : (x : Bound) → x ≼ raised since x
  unfolding raised
  raised-inflate x = cond-case (λ (y : Bound). x ≼ y) (is_bound_before x (At since)) (λ t. is_bound_before→≼ x (At since) t) (λ t. ≼_refl x)

  pub raised-lub : (x y : Bound) → At since ≼ y → x ≼ y → raised since x ≼ y
  raised-lub x y p q = raised-case (λ (z : Bound). z ≼ y) x p q

  pub raised-Never : raised since Never ≡ Never
  unfolding raised is_bound_before
  raised-Never = refl

  pub raised-mono : (x y : Bound) → x ≼ y → raised since x ≼ raised since y
  raised-mono x y h = raised-lub x (raised since y) (raised-since y) (≼_trans x y (raised since y) h (raised-inflate y))

  -- a bound that is not before the wait stays
  pub raised-same : (x : Bound) → At since ≼ x → raised since x ≡ x
  unfolding raised
  raised-same x h = rw (T→false (is_bound_before x (At since)) (≼→not-is_bound_before x (At since) h)) refl

  -- the least of two, raised, is the least of the two raised; and so of many
  pub raised-least : (x y : Bound) → raised since (least x y) ≡ least (raised since x) (raised since y)
  raised-least x y =
      ≼-antisym
      (raised since (least x y))
      (least (raised since x) (raised since y))
      (least-glb
      (raised since (least x y))
      (raised since x)
      (raised since y)
      (raised-mono (least x y) x (least-left x y))
      (raised-mono (least x y) y (least-right x y)))
      (least-case
      (λ (z : Bound). least (raised since x) (raised since y) ≼ raised since z)
      x
      y
      (least-left (raised since x) (raised since y))
      (least-right (raised since x) (raised since y)))

  pub raised-least_below : (n : ℕ) (f : ℕ → Bound) → raised since (least_below n f) ≡ least_below n (λ i. raised since (f i))
  unfolding least_below
  raised-least_below zero f = raised-Never
  raised-least_below (suc n) f = raised-least (least_below n f) (f n) ∙ rw (raised-least_below n f) refl

  -- "a logged notification of its event not before its wait began"
  pub raised-heard : (l : List Notification) (e : ℕ) → raised since (least_heard l e since) ≡ least_heard l e since
  raised-heard l e = raised-same (least_heard l e since) (least_heard-since l e since)
