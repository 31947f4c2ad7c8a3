-- `model_effect::listed` meets its contract. The invariant: what the first statements, below the index, notify stands at the front.
use Rattle.std.proofs.Common.{[], ◌<◌, length, take, ap, ◌∙◌, add-one, arith}
use Rattle.model.specs.Statement.{notified_by}
use Rattle.model.specs.Values.{no_statement}
use Rattle.model.specs.declared.Events.{Events}
use Rattle.model_effect.proofs.EffectLaws.{held_events-none, held_events-count, held_events-more}
use Rattle.model_effect.proofs.LengthLaws.{statements-length}
use Rattle.model_effect.proofs.StatementLaws.{notified_by-none, notified_by-more, notified_by-first, body_of-length}
use Rattle.model_effect.proofs.listed.Goals as goal

pub loop-x-init : goal.loop-x-init
loop-x-init c = rw (notified_by-none []) held_events-none

pub with_op-es-requires : goal.with_op-es-requires
with_op-es-requires c =
    let xs = c.body_of-x-items.result.now in
    let j = c.loop-x.x-index in
    let e = ap (λ (es : Events). es.n) c.loop-x.invariant ∙ held_events-count (notified_by (take j xs)) in
    omega (arith, notified_by-first xs j, ap length c.body_of-x-items.ensures, body_of-length c.args.g, statements-length c.args.g _ c.well_formed.0)

pub loop-x-preserved : goal.loop-x-preserved
loop-x-preserved c =
    let xs = c.body_of-x-items.result.now in
    let j = c.loop-x.x-index in
    let few : length (notified_by (take j xs)) < 32 = omega (arith, notified_by-first xs j, ap length c.body_of-x-items.ensures, body_of-length c.args.g, statements-length c.args.g _ c.well_formed.0) in
    rw (
      add-one,
      notified_by-more xs j no_statement c.loop-x-test.true,
      ← held_events-more (notified_by (take j xs)) _ few,
      ← c.loop-x.invariant,
    )
    c.with_op-es.ensures
