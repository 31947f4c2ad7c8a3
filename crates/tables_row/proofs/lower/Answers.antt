-- `tables_row::lower` meets its contract: past the row, not less, less.
use mathlib.Core.Path.{◌≡◌}
use mathlib.Core.Bool.{false}
use native.Mathlib.Omega.{arith}
use lib.ListN.{length}
use Rattle.tables_row.proofs.LowerLaws.{is_lower-past, is_lower-none, is_lower-some, lowered_at-left, lowered_at-set}
use Rattle.tables_row.specs.Lower.{is_lower}
use Rattle.tables_row.proofs.lower.Goals.{then-t-row-via-then-t-row, then-t-row-via-else-t-row+then-c-row}
use Rattle.tables_row.proofs.lower.Goals as goal

pub returns-then-t-row : goal.returns-then-t-row
returns-then-t-row c =
    let x = c.args in
    let e : false ≡ is_lower (length x.row.now) x.t x.c x.row.now = elim c.then-t-row.branch [
      | then-t-row-via-then-t-row w ↦ is_lower-past (length x.row.now) x.t x.c x.row.now (omega arith)
      | then-t-row-via-else-t-row+then-c-row w ↦ is_lower-none (length x.row.now) x.t x.c x.row.now (omega arith) (omega arith)
    ] in
    record { told = e; after = lowered_at-left (length x.row.now) x.t x.c x.row.now e }

pub returns : goal.returns
returns c =
    let x = c.args in
    let e = is_lower-some (length x.row.now) x.t x.c x.row.now (omega arith) (omega arith) in
    record { told = e; after = lowered_at-set (length x.row.now) x.t x.c x.row.now e }
