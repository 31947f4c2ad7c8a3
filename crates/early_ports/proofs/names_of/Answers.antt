-- `early_ports::names_of` meets its contract: the statements, one after the other, and the test variable.
use native.Mathlib.Omega.{arith}
use lib.ListN.{length-take}
use Rattle.model_reach.proofs.ReadLaws.{statements-length}
use Rattle.early_ports.proofs.NameLaws.{names_in-none, names_in-more, names_of-made}
use Rattle.early_ports.proofs.names_of.Goals as goal

pub loop-x-init : goal.loop-x-init
loop-x-init c = names_in-none _ _ c.args.g.statements

pub loop-x-preserved : goal.loop-x-preserved
loop-x-preserved c =
    let l = c.loop-x in
    names_in-more _ _ c.args.g.statements _ l.x-index _ _ _ c.loop-x-test.true l.invariant c.op-w.ensures

pub returns : goal.returns
returns c =
    let g = c.args.g in
    let l = c.loop-x in
    let size = statements-length g _ c.well_formed.0 in
    let front = length-take c.min.result g.statements in
    names_of-made _ _ g l.x-index _ _ size (omega arith) l.invariant c.test.ensures
