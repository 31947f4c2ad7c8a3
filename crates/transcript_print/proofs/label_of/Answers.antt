-- `transcript_print::label_of` meets its contract. The whole argument, or what follows its letter.
use mathlib.Core.Path.{sym, ◌∙◌}
use native.Mathlib.Omega.{arith}
use Rattle.transcript_print.proofs.LabelLaws.{kind-long, label-request, label-apart}
use Rattle.transcript_print.proofs.label_of.Goals as goal

pub returns-then-kind_of-eq114 : goal.returns-then-kind_of-eq114
returns-then-kind_of-eq114 c =
    let k = c.kind_of in
    c.value_of.ensures ∙ label-request c.args.arg.now (sym k.ensures ∙ c.if-kind_of-eq114.true)

pub slice_bounds-value_of-count : goal.slice_bounds-value_of-count
slice_bounds-value_of-count c = let k = c.kind_of in omega (arith, kind-long c.args.arg.now (λ z. c.if-kind_of-eq114.false (k.ensures ∙ z)))

pub slice_bounds-value_of-start : goal.slice_bounds-value_of-start
slice_bounds-value_of-start c = let k = c.kind_of in omega (arith, kind-long c.args.arg.now (λ z. c.if-kind_of-eq114.false (k.ensures ∙ z)))

pub returns-else-kind_of-eq114 : goal.returns-else-kind_of-eq114
returns-else-kind_of-eq114 c =
    let k = c.kind_of in
    c.value_of-else-kind_of-eq114.ensures ∙ label-apart c.args.arg.now (λ z. c.if-kind_of-eq114.false (k.ensures ∙ z))
