-- Document 01, "Cases": the program.
use Rattle.std.specs.Prelude.{ℕ}

-- "The program's budget is 1,000,000"
abbrev pub budget : ℕ
budget = 1000000
