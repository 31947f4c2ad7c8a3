-- The deliveries after a run keep a cut: they are looks, one after the other, and what they hear goes to the histories.
-- Takes as given the facts of the plain run (PlainFacts) and the laws of the kit (KitLaws).
use Prim.Native.Nat.{ℕ, ◌<◌}
use mathlib.Core.Path.{refl, sym}
use mathlib.Core.Bool.{Bool}
use mathlib.Core.List.{List, ◌++◌, append_assoc, append-nil}
use Rattle.clock.specs.declared.Bound.{Bound}
use Rattle.model.specs.declared.Model.{Model}
use Rattle.model.specs.declared.Thread.{Thread}
use Rattle.plain.specs.History.{Item}
use Rattle.early.specs.declared.Notification.{Notification}
use Rattle.early.specs.Deliver.{looked_at, look_items, settled, settled_items}
use Rattle.early_laws.proofs.SettleLaws.{settled-carries}
use Rattle.order.proofs.PlainFacts.{PlainFacts}
use Rattle.order.proofs.KitLaws.{KitLaws}
use Rattle.order.proofs.Invariant.{SomeCut}
use Rattle.order.proofs.LowerBound.{bounded}
use Rattle.order.proofs.HeardCut.{cut-same, looked-cut}

module _ (m : Model) (pf : PlainFacts m) {marks : List (List Bool)} {ws : List ℕ} (kl : KitLaws m marks ws) (x : List ℕ) (l : List Notification) (h : ℕ → List Item) (low : Bound) where
  -- a cut of these variables and this log, where so much was heard since h
  abbrev Cut : List Thread → (ℕ → List Item) → Type 0
  Cut ts is = SomeCut m x l ts (λ j. h j ++ is j) low

  -- one look more
  looked-on : (ts : List Thread) (is : ℕ → List Item) (k : ℕ) → k < m.t → Cut ts is
      → Cut (looked_at m ws l ts k) (λ j. is j ++ look_items m ws l ts k j)
  looked-on ts is k below (cut, ic) =
      let (cut', ic') = looked-cut m pf kl ic (bounded m pf kl ic (kl.forecasts l ts)) k below in
      (cut', cut-same ic' refl (λ j. append_assoc (h j) (is j) (look_items m ws l ts k j)))

  pub settled-cut : (ts : List Thread) → SomeCut m x l ts h low → SomeCut m x l (settled m ws l ts) (λ j. h j ++ settled_items m ws l ts j) low
  settled-cut ts (cut, ic) = settled-carries m ws l Cut looked-on ts (cut, cut-same ic refl (λ j. sym (append-nil (h j))))
