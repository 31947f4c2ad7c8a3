-- `early_reach::lower_all` meets its contract: row after row.
use mathlib.Core.Path.{◌≡◌, refl, ap, ◌∙◌}
use native.Mathlib.Omega.{arith}
use borrow.Author.Rules.{rules}
use lib.ListN.{length, get_or}
use Rattle.early_limits.specs.Limit.{at_most}
use Rattle.early_reach.proofs.StoreLaws.{rows_lowered-none, rows_lowered-more, row_lowered-row}
use Rattle.early_ahead.proofs.LimitLaws.{at_most-min}
use Rattle.early_reach.proofs.lower_all.Goals as goal

pub loop-r-init : goal.loop-r-init
loop-r-init c = (refl, refl, λ ws knows. rows_lowered-none _ _ ws _ _)

pub loop-r-preserved : goal.loop-r-preserved
loop-r-preserved c =
    let x = c.args in
    let l = c.loop-r in (
      search rules,
      c.lower_row.ensures.same_length ∙ l.invariant.1,
      λ ws knows.
          let worked = c.work_out.ensures.row ws (rw l.invariant.0 knows) (omega (arith, c.min-r-end.ensures, c.from.ensures)) in
          rows_lowered-more _ _ ws _ _ l.r _ _ (l.invariant.2 ws knows) (row_lowered-row x.notes.now ws _ (length x.notes.now) x.count l.r _ _ c.requires.0 (λ s h. ap (λ row. get_or row s 0) c.part-row.ensures ∙ worked s h) c.lower_row.ensures),
    )

pub returns-clause-lowered : goal.returns-clause-lowered
returns-clause-lowered c = λ ws knows.
    let l = c.loop-r in
    let end : l.r ≡ c.min-r-end.result = omega arith in
    let e : l.r ≡ at_most 64 c.args.count = end ∙ (c.min-r-end.ensures ∙ rw c.from.ensures (at_most-min 64 c.args.count)) in
    rw e at (l.invariant.2 ws knows)
