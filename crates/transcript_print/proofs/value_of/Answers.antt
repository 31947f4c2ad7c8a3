-- `transcript_print::value_of` meets its contract. The invariant: the rest of the argument, with the number so far, says what the whole says.
use mathlib.Core.Path.{sym, ◌∙◌}
use mathlib.Core.Logic.{⊎_elim}
use native.Mathlib.Omega.{arith}
use borrow.Author.Tests.{eqb-true, eqb-false}
use Rattle.transcript_print.proofs.LabelLaws.{left-none, left-more, left_below, left-above, left-fits, value-empty, value-long, value-whole}
use Rattle.transcript_print.proofs.value_of.Goals as goal
use Rattle.transcript_print.proofs.value_of.Goals.{then-is_empty-via-then-is_empty, then-is_empty-via-else-is_empty+then-arg-gt19}

pub returns-then-is_empty : goal.returns-then-is_empty
returns-then-is_empty c =
    elim c.then-is_empty.branch [
      | then-is_empty-via-then-is_empty w ↦ value-empty c.args.arg.now (eqb-true _ _ (sym c.is_empty.ensures ∙ w.if-is_empty.true))
      | then-is_empty-via-else-is_empty+then-arg-gt19 w ↦ value-long c.args.arg.now w.if-arg-gt19.true
    ]

pub loop-b-init : goal.loop-b-init
loop-b-init c = left-none _

pub returns-then-not-is_ascii_digit : goal.returns-then-not-is_ascii_digit
returns-then-not-is_ascii_digit c =
    let l = c.loop-b in
    ⊎_elim
    (λ a. left_below c.args.arg.now l.b-index l.x c.loop-b-test.true l.invariant a)
    (λ a. left-above c.args.arg.now l.b-index l.x c.loop-b-test.true l.invariant a)
    c.if-not-is_ascii_digit.ensures.cases

pub overflow_mul-x : goal.overflow_mul-x
overflow_mul-x c =
    let l = c.loop-b in
    omega (arith, left-fits c.args.arg.now l.b-index l.x (omega arith) l.invariant)

pub overflow_add-x : goal.overflow_add-x
overflow_add-x c =
    let l = c.loop-b in
    omega (arith, left-fits c.args.arg.now l.b-index l.x (omega arith) l.invariant)

pub loop-b-preserved : goal.loop-b-preserved
loop-b-preserved c =
    let l = c.loop-b in
    rw c.from.ensures (left-more c.args.arg.now l.b-index l.x c.loop-b-test.true l.invariant (omega (arith, c.if-not-is_ascii_digit.ensures.cases)) (omega (arith, c.if-not-is_ascii_digit.ensures.cases)))

pub returns : goal.returns
returns c =
    value-whole c.args.arg.now c.loop-b.b-index c.loop-b.x (omega (arith, eqb-false _ _ (sym c.is_empty.ensures ∙ c.if-is_empty.false))) c.if-arg-gt19.false c.loop-b-test.false c.loop-b.invariant
