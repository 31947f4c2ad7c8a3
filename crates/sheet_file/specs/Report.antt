-- Document 01, "Cases": what is printed of a file's plain run.
use Rattle.std.specs.Prelude.{ℕ, cond, List, eqb}
use Rattle.model.specs.Refusal.{accepted}
use Rattle.reader.specs.Read.{Read}
use Rattle.reader.specs.File.{read_file}
use Rattle.plain.specs.Run.{plain_run}
use Rattle.sheet.specs.Sheet.{refused_line, sheet_of}

-- "A refused file prints only `refused` and its number", any other the sheet of its plain run
unfoldable pub printed_of : ℕ → Read → List ℕ
printed_of budget r =
    let run = sheet_of r.model.v r.model.t (plain_run r.model budget) in
    cond (eqb r.number accepted) run (refused_line r.number)

unfoldable pub printed : ℕ → List ℕ → List ℕ
printed budget file = printed_of budget (read_file file)
