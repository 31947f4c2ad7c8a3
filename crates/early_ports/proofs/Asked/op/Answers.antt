-- `early_ports::Asked::op` meets its contract, operation by operation.
use mathlib.Core.Path.{refl, ap, ap₂, ◌∙◌}
use mathlib.Core.Logic.{⊎_elim}
use lib.Bits.{bit_or}
use Rattle.early_ports.specs.Names.{bit_from, op_names}
use Rattle.early_ports.proofs.Asked.op.Goals as goal

pub returns-in-Notify : goal.returns-in-Notify
unfolding op_names
returns-in-Notify c = rw c.in-Notify.is refl

pub returns-in-Copy : goal.returns-in-Copy
unfolding op_names
returns-in-Copy c = ap₂ bit_or (c.bit.ensures ∙ ap (bit_from c.args.self.from) c.from.ensures) c.read.ensures ∙ ⊎_elim (λ w. rw w refl)
    (⊎_elim (λ w. rw w refl) (λ w. rw w refl)) c.in-Copy.is

pub returns-in-Set : goal.returns-in-Set
unfolding op_names
returns-in-Set c = c.bit-in-Set.ensures ∙ ap (bit_from c.args.self.from) c.from-in-Set.ensures ∙ ⊎_elim (λ w. rw w.1 refl) (λ w. rw w.1 refl) c.in-Set.is
