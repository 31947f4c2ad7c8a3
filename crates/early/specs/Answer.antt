-- Document 01, "Early issue": "A request answers either the segment run with its cycle, or one refusal number." Its number and
-- its values, for each case.
use Rattle.std.specs.Prelude.{ℕ, List, [], ◌∷◌}
use Rattle.early.specs.declared.Answer.{Answer}
use Rattle.early.specs.declared.Answer.TheVariants.{Granted, Refused}

abbrev pub number_of : Answer → ℕ
number_of (Granted s c) = 0
number_of (Refused n) = n

-- the segment, the time and the delta of a grant
abbrev pub values_of : Answer → List ℕ
values_of (Granted s c) = s ∷ c.time.0 ∷ c.delta.0 ∷ []
values_of (Refused n) = []
