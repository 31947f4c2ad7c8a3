-- `model_reach::op_ports` meets its contract, operation by operation.
use mathlib.Core.Path.{refl, ap₂, ◌∙◌}
use mathlib.Core.Logic.{⊎_elim}
use lib.Bits.{bit_or}
use Rattle.model_reach.specs.Store.{op_ports}
use Rattle.model_reach.proofs.op_ports.Goals as goal

pub returns-in-Notify : goal.returns-in-Notify
unfolding op_ports
returns-in-Notify c = rw c.in-Notify.is refl

pub returns-in-Copy : goal.returns-in-Copy
unfolding op_ports
returns-in-Copy c = ap₂ bit_or (rw c.from.ensures at c.port_bit.ensures) c.port_bit-in-Copy.ensures ∙ ⊎_elim (λ w. rw w refl) (⊎_elim (λ w. rw w refl) (λ w. rw w refl)) c.in-Copy.is

pub returns-in-Set : goal.returns-in-Set
unfolding op_ports
returns-in-Set c = (rw c.from-in-Set.ensures at c.port_bit-in-Set.ensures) ∙ ⊎_elim (λ w. rw w.1 refl) (λ w. rw w.1 refl) c.in-Set.is
