-- `early_hazard::row_threatens` meets its contract: a search over the segments.
use mathlib.Core.Path.{◌≡◌, ap, sym, ◌∙◌}
use native.Mathlib.Omega.{arith}
use native.Mathlib.Nat.{zero-add}
use lib.ListN.{get_or}
use Rattle.base.proofs.IndexLaws.{any_below-start}
use Rattle.early_limits.specs.Limit.{limit_of_word, at_most}
use Rattle.early_hazard.specs.Store.{conflicts_by}
use Rattle.early_hazard.proofs.HazardLaws.{any_below-more, threat_by-apart, threat_by-late, threatens_limit-found, threatens_limit-none}
use Rattle.early_hazard.proofs.row_threatens.Goals.{then-conflicts_at+else-is_sooner_limit, else-conflicts_at}
use Rattle.early_ahead.proofs.LimitLaws.{at_most-min}
use Rattle.early_hazard.proofs.row_threatens.Goals as goal

pub loop-s-init : goal.loop-s-init
loop-s-init c = any_below-start _

pub returns-then-is_sooner_limit : goal.returns-then-is_sooner_limit
returns-then-is_sooner_limit c =
    let x = c.args in
    let a = x.asker.now in
    let s = c.loop-s.s in
    let end : c.min-s-end.result ≡ at_most 64 x.count = c.min-s-end.ensures ∙ rw c.from.ensures (at_most-min 64 x.count) in
    threatens_limit-found (conflicts_by a.marked a.own a.names.now x.ports) x.row.now x.count 0 x.b x.j a.c a.i s _ _ (omega arith)
    (sym c.conflicts_at.ensures ∙ c.if-conflicts_at.true)
    (c.limit_of_word-way.ensures ∙ ap limit_of_word (c.word_at.ensures ∙ ap (λ i. get_or x.row.now i 0) (sym (zero-add s))))
    c.sum_of.ensures (sym c.is_sooner_limit.ensures ∙ c.if-is_sooner_limit.true)

pub loop-s-preserved : goal.loop-s-preserved
loop-s-preserved c =
    let l = c.loop-s in
    let x = c.args in
    let a = x.asker.now in
    any_below-more l.s _ l.invariant (
    elim c.if-conflicts_at.branch [
      | then-conflicts_at+else-is_sooner_limit w ↦ threat_by-late (conflicts_by a.marked a.own a.names.now x.ports) x.row.now x.count 0 x.b x.j a.c a.i l.s _ _
          (w.limit_of_word-way.ensures ∙ ap limit_of_word (w.word_at.ensures ∙ ap (λ i. get_or x.row.now i 0) (sym (zero-add l.s)))) w.sum_of.ensures (sym w.is_sooner_limit.ensures ∙ w.if-is_sooner_limit.false)
      | else-conflicts_at w ↦ threat_by-apart (conflicts_by a.marked a.own a.names.now x.ports) x.row.now x.count 0 x.b x.j a.c a.i l.s
          (sym c.conflicts_at.ensures ∙ w.if-conflicts_at.false)
    ])

pub returns : goal.returns
returns c =
    let x = c.args in
    let end : c.loop-s.s ≡ c.min-s-end.result = omega arith in
    let e : c.loop-s.s ≡ at_most 64 x.count = end ∙ (c.min-s-end.ensures ∙ rw c.from.ensures (at_most-min 64 x.count)) in
    threatens_limit-none _ _ _ _ _ _ _ _ c.loop-s.s e c.loop-s.invariant
