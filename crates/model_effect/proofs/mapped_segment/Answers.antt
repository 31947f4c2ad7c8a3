-- `model_effect::mapped_segment` meets its contract. The invariant: the first statements, below the index, are mapped.
use Rattle.std.proofs.Common.{List, get_or, ap, ◌∙◌, inr, arith}
use Rattle.base.proofs.IndexLaws.{store_to-none, store_to-more, store_to-other}
use Rattle.model.specs.declared.Op.{Op}
use Rattle.model.specs.declared.Statement.{Statement}
use Rattle.model.specs.Port.{map_op}
use Rattle.model.specs.Values.{no_statement}
use Rattle.model_effect.proofs.LengthLaws.{statements-length}
use Rattle.model_effect.proofs.PortLaws.{statement_for, map_segment-stored}
use Rattle.model_effect.proofs.mapped_segment.Goals as goal

pub loop-x-init : goal.loop-x-init
loop-x-init c =
    let a = c.args in
    store_to-none (statement_for a.ports a.g.statements) 0 a.g.statements

pub loop-x-preserved : goal.loop-x-preserved
loop-x-preserved c =
    let l = c.loop-x in
    let a = c.args in
    let f = statement_for a.ports a.g.statements in
    let here = ap (λ (xs : List Statement). get_or xs l.x-index no_statement) l.invariant ∙ store_to-other f 0 a.g.statements no_statement l.x-index l.x-index (inr (omega arith)) in
    store_to-more f 0 a.g.statements l.x-index l.x-index l.x-items _ l.invariant (omega arith)
    (ap (λ (o : Op). record { op = o }) c.mapped_op-x.ensures ∙ ap (λ (x : Statement). record { op = map_op a.ports x.op }) here)

pub returns : goal.returns
returns c =
    let l = c.loop-x in
    let a = c.args in
    map_segment-stored a.ports a.g _ _ l.x-index (statements-length a.g _ c.well_formed.1.0) (omega arith) c.mapped_closer.ensures l.invariant
