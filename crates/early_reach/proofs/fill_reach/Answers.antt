-- `early_reach::fill_reach` meets its contract: a short buffer, the places made never, the notes of all segments, the rows.
use mathlib.Core.Path.{◌≡◌, refl, ◌∙◌}
use native.Mathlib.Omega.{arith}
use Rattle.std.proofs.lemmas.List.{length-take, get_or-take}
use Rattle.model_effect.proofs.LengthLaws.{segments-length}
use Rattle.model_rules.proofs.FaultLaws.{segment_at-read}
use Rattle.early_limits.specs.Limit.{at_most}
use Rattle.early_reach.proofs.NoteLaws.{all_notes-none, all_notes-more, all_notes-taken}
use Rattle.early_reach.proofs.StoreLaws.{cleared-all, reached-rows, reached-all, reach_in-short, reach_in-filled}
use Rattle.early_ahead.proofs.LimitLaws.{at_most-min}
use Rattle.early_reach.proofs.fill_reach.Goals as goal

pub returns-then-reach-lt2048-clause-reach : goal.returns-then-reach-lt2048-clause-reach
returns-then-reach-lt2048-clause-reach c = λ ws knows. reach_in-short _ ws _ c.if-reach-lt2048.true

pub loop-s-init : goal.loop-s-init
loop-s-init c = (refl, all_notes-none _ _)

pub loop-s-preserved : goal.loop-s-preserved
loop-s-preserved c =
    let m = c.args.m in
    let l = c.loop-s in
    let size = length-take c.min-n.result m.segments in (
      c.note_segment-k.ensures.same_length ∙ l.invariant.0,
      all_notes-more m l.s _ _ _ _ _ l.invariant.1 (get_or-take c.min-n.result m.segments l.s _ (omega arith) ∙ segment_at-read m l.s _ (omega arith)) c.note_segment-k.ensures,
    )

pub returns-clause-reach : goal.returns-clause-reach
returns-clause-reach c = λ ws knows.
    let m = c.args.m in
    let l = c.loop-s in
    let many = segments-length m _ c.well_formed.0 in
    let size = length-take c.min-n.result m.segments in
    let end : l.s ≡ c.min-n.result = omega (arith, c.min-n.ensures) in
    let e : l.s ≡ at_most 64 m.n = end ∙ (c.min-n.ensures ∙ rw c.from.ensures (at_most-min 64 m.n)) in
    let noted = all_notes-taken m l.s l.k _ (omega (arith, l.invariant.1.most)) l.invariant.1 in
    let rows = reached-rows m ws _ l.s _ _ _ noted (cleared-all _ _ c.clear.ensures) (c.lower_all.ensures.lowered ws knows) in
    let all = reached-all m ws _ l.s _ many e rows in
    reach_in-filled m ws _ _ _ c.if-reach-lt2048.false c.clear.ensures all
