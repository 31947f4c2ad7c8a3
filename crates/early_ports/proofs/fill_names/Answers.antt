-- `early_ports::fill_names` meets its contract: too short, no port used, or stretch by stretch.
use Prim.Native.Nat.{ℕ, min}
use mathlib.Core.Path.{ap, sym, ◌∙◌}
use native.Mathlib.Omega.{arith}
use borrow.Author.Tests.{not-true, not-false}
use Rattle.early_ports.proofs.NameLaws.{stretches-none, stretches-more, names_for-short, names_for-none, names_for-some}
use mathlib.Core.Bool.{not}
use Rattle.early_ports.proofs.fill_names.Goals.{then-names-lt256-via-then-names-lt256, then-names-lt256-via-else-names-lt256+then-not-any_ports}
use Rattle.early_ports.proofs.fill_names.Goals as goal

pub returns-then-names-lt256 : goal.returns-then-names-lt256
returns-then-names-lt256 c = elim c.then-names-lt256.branch [
  | then-names-lt256-via-then-names-lt256 w ↦ names_for-short _ _ w.if-names-lt256.true
  | then-names-lt256-via-else-names-lt256+then-not-any_ports w ↦ names_for-none _ _ w.if-names-lt256.false (sym w.any_ports.ensures ∙ not-true _ (ap not w.if-not-any_ports.true))
]

pub loop-q-init : goal.loop-q-init
loop-q-init c = stretches-none _ _ _

pub loop-q-preserved : goal.loop-q-preserved
loop-q-preserved c =
    let l = c.loop-q in
    stretches-more _ _ _ l.q _ _ l.invariant c.fill_stretch.ensures

pub returns : goal.returns
returns c =
    let l = c.loop-q in
    names_for-some _ _ _ _ l.q (omega arith) (sym c.any_ports.ensures ∙ not-false _ (ap not c.if-not-any_ports.false)) (c.min-n.ensures ∙ ap (λ (n : ℕ). min n 64) c.from.ensures) (omega arith) l.invariant
