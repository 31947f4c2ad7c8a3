-- `early_answer::ran_by` meets its contract. A finish with what it stores, or a request as it ran.
use Rattle.early.specs.Call.{held_at}
use Rattle.early_answer.proofs.AnsweredLaws.{ran-once, ran-stored}
use Rattle.early_answer.proofs.ran_by.Goals as goal

pub returns-then-finishes : goal.returns-then-finishes
returns-then-finishes c =
    let x = c.args in
    record { effect = ran-stored x.finishes x.g x.s x.c x.v.at (held_at x.held.now x.k) c.values_for-read.result.at c.effect_in-ran.result c.values_for-read.ensures c.effect_in-ran.ensures c.store_written-variables.result.at c.if-finishes.true c.store_written-variables.ensures }

pub returns : goal.returns
returns c =
    let x = c.args in
    record { effect = ran-once x.finishes x.g x.s x.c x.v.at (held_at x.held.now x.k) c.values_for-read.result.at c.effect_in-ran.result c.values_for-read.ensures c.effect_in-ran.ensures c.if-finishes.false }
