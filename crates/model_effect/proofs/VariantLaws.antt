-- What an arm over several variants answers.
--     with_op-other     an operation that notifies nothing
use Rattle.std.proofs.Common.{◌≡◌, ℕ, refl}
use Rattle.model.specs.declared.Op.{Op}
use Rattle.model.specs.declared.Op.TheVariants.{Set, Add, Copy, AddVariable, SubVariable, Notify}
use Rattle.model.specs.declared.Events.{Events}
use Rattle.model.specs.Effect.{with_op}

pub with_op-other : (es : Events) (o : Op) → ((x : ℕ) → o ≡ Notify x → ⊥) → es ≡ with_op es o
with_op-other es (Set a b) h = refl
with_op-other es (Add a b) h = refl
with_op-other es (Copy a b) h = refl
with_op-other es (AddVariable a b) h = refl
with_op-other es (SubVariable a b) h = refl
with_op-other es (Notify w) h = absurd (h w refl)
