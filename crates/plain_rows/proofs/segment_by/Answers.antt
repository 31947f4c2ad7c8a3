-- `plain_rows::segment_by` meets its contract.
use Rattle.plain_words.proofs.RowLaws.{segment_by-row, segment_by-own}
use Rattle.plain_rows.proofs.segment_by.Goals as goal

pub returns-then-row-lt64 : goal.returns-then-row-lt64
returns-then-row-lt64 c = segment_by-row c.args.held c.args.row c.if-row-lt64.true

pub returns-else-row-lt64 : goal.returns-else-row-lt64
returns-else-row-lt64 c = segment_by-own c.args.held c.args.row c.if-row-lt64.false
