-- `early_fit::is_fit_thread` meets its contract: a segment not below N, one that leads to a port left unused, or the state.
use Rattle.std.proofs.Common.{◌∙◌, ap, sym, arith}
use borrow.Author.Tests.{not-true, not-false, ltb-true}
use Rattle.masks.specs.Mask.{bit_at}
use Rattle.early_fit.proofs.FitnessLaws.{is_fit_thread-below, is_fit_thread-lacks, is_fit_thread-above}
use Rattle.early_fit.proofs.is_fit_thread.Goals as goal
use Rattle.early_fit.proofs.is_fit_thread.Goals.{then-x-m, else-x-m}

pub returns-then-not-has : goal.returns-then-not-has
returns-then-not-has c = λ k bits.
    let x = c.args.x in
    elim c.if-x-m.branch [
      | then-x-m w ↦
          let free = not-true w.has.result (sym w.value-is ∙ c.if-not-has.true) in
          is_fit_thread-below c.args.m.now k x _ w.if-x-m.true (sym (bits x.segment w.if-x-m.true) ∙ (ap (bit_at c.args.lacking) (sym w.from.ensures) ∙ (sym w.has.ensures ∙ free))) c.is_fit_state.ensures
      | else-x-m w ↦ absurd (omega (arith, w.if-x-m.false, ltb-true x.segment c.args.m.now.n (sym w.value-is ∙ c.if-not-has.true)))
    ]

pub returns-else-not-has : goal.returns-else-not-has
returns-else-not-has c = λ k bits.
    let x = c.args.x in
    c.if-not-has.false
    ∙ (elim c.if-x-m.branch [
      | then-x-m w ↦
          let lacks = not-false w.has.result (sym w.value-is ∙ c.if-not-has.false) in
          is_fit_thread-lacks c.args.m.now k x (sym (bits x.segment w.if-x-m.true) ∙ (ap (bit_at c.args.lacking) (sym w.from.ensures) ∙ (sym w.has.ensures ∙ lacks)))
      | else-x-m w ↦ is_fit_thread-above c.args.m.now k x w.if-x-m.false
    ])
