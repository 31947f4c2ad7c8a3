-- What is printed of a file, accepted or refused.
use Prim.Native.Nat.{ℕ}
use mathlib.Core.Path.{◌≡◌, refl}
use mathlib.Core.List.{List}
use borrow.Author.Tests.{eq-eqb, ne_eqb}
use Rattle.reader.specs.Read.{Read}
use Rattle.reader.specs.File.{read_file}
use Rattle.plain.specs.declared.PlainRun.{PlainRun}
use Rattle.plain.specs.Run.{plain_run}
use Rattle.sheet.specs.Sheet.{refused_line, sheet_of}
use Rattle.sheet_file.specs.Report.{printed_of, printed}

module _ (budget : ℕ) (file : List ℕ) (r : Read) (e : r ≡ read_file file) where
  pub printed-run : (run : PlainRun) → r.number ≡ 0 → run ≡ plain_run r.model budget → sheet_of r.model.v r.model.t run ≡ printed budget file
  unfolding printed printed_of
  printed-run run h p = rw (← e, eq-eqb r.number 0 h, p) refl

  pub printed-refused : (r.number ≡ 0 → ⊥) → refused_line r.number ≡ printed budget file
  unfolding printed printed_of
  printed-refused h = rw (← e, ne_eqb r.number 0 h) refl
