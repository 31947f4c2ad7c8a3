-- `writer_segment::put_statements` meets its contract. The invariant: the first j statements are put.
use mathlib.Core.Path.{◌≡◌, ap}
use native.Mathlib.Omega.{arith}
use Rattle.buffers.proofs.PutLaws.{puts_none}
use Rattle.writer_segment.proofs.JoinLaws.{joined-none, puts-joined}
use Rattle.writer_segment.proofs.SegmentLaws.{statement_at}
use borrow.Author.Rules.{rules}
use lib.ListN.{get_or}
use Rattle.model.specs.declared.Statement.{Statement}
use Rattle.model.specs.Values.{no_statement}
use Rattle.writer.specs.Bytes.{op_bytes}
use Rattle.writer_segment.proofs.put_statements.Goals as goal

pub loop-j-init : goal.loop-j-init
loop-j-init c =
    let x = c.args.g in
    rw (joined-none 0 (statement_at x)) (puts_none _ _ _ c.min-to.ensures)

pub loop-j-preserved : goal.loop-j-preserved
loop-j-preserved c =
    let is : c.unwrap_or-x.result ≡ get_or c.args.g.statements c.loop-j.j no_statement = search rules in
    puts-joined (statement_at c.args.g) c.loop-j.j c.loop-j.invariant c.put_op-to.ensures (ap (λ (s : Statement). op_bytes s.op) is)

pub returns : goal.returns
returns c =
    let l = c.loop-j in
    let e : l.j ≡ c.args.g.n = omega arith in
    rw e at l.invariant
