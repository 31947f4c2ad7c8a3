-- `early_reach::note_segment` meets its contract: the statements, one after the other.
use Prim.Native.Nat.{◌≤◌}
use mathlib.Core.Path.{◌≡◌, sym, ◌∙◌}
use native.Mathlib.Omega.{arith}
use Rattle.std.proofs.lemmas.List.{length-take}
use Rattle.model_effect.proofs.LengthLaws.{statements-length}
use Rattle.early_limits.specs.Limit.{at_most}
use Rattle.early_reach.proofs.NoteLaws.{notes_of-none, notes_of-event, notes_of-other, notes_of-body, event_of-event, event_of-other, statement-read}
use Rattle.early_reach.proofs.note_segment.Goals.{in-Notify+then-e-lt32, in-Notify+else-e-lt32, in_default}
use Rattle.early_ahead.proofs.LimitLaws.{at_most-min}
use Rattle.early_reach.proofs.note_segment.Goals as goal

pub loop-x-init : goal.loop-x-init
loop-x-init c = notes_of-none _ _ _ c.args.g.statements

pub loop-x-preserved : goal.loop-x-preserved
loop-x-preserved c =
    let l = c.loop-x in
    let x = c.args in
    let ss = x.g.statements in
    let size = length-take c.min-n.result ss in
    let read = statement-read ss c.min-n.result l.x-index _ c.loop-x-test.true in
    elim c.match-x.branch [
      | in-Notify+then-e-lt32 w ↦ rw (w.notes-is, w.k-is)
          (notes_of-event x.s x.from x.notes.now ss l.x-index l.k _ _ _ _ l.invariant (omega arith) read (event_of-event _ _ w.in-Notify.is) w.if-e-lt32.true (omega (arith, l.invariant.most, l.invariant.same_length))
          (omega (arith, w.from-then-e-lt32.ensures)))
      | in-Notify+else-e-lt32 w ↦ rw (w.notes-is, w.k-is)
          (notes_of-other x.s x.from x.notes.now ss l.x-index l.k _ _ _ l.invariant (omega arith) read (event_of-event _ _ w.in-Notify.is) w.if-e-lt32.false)
      | in_default w ↦ rw (w.notes-is, w.k-is)
          (notes_of-other x.s x.from x.notes.now ss l.x-index l.k _ _ _ l.invariant (omega arith) read (sym (event_of-other _ w.in_default.not-Notify)) (omega arith))
    ]

pub returns : goal.returns
returns c =
    let x = c.args in
    let many = statements-length x.g _ c.well_formed.0 in
    let size = length-take c.min-n.result x.g.statements in
    let few : c.min-n.result ≤ 32 = omega (arith, c.min-n.ensures) in
    let end : c.loop-x.x-index ≡ c.min-n.result = omega arith in
    let e : c.loop-x.x-index ≡ at_most 32 x.g.n = end ∙ (c.min-n.ensures ∙ rw c.from.ensures (at_most-min 32 x.g.n)) in
    notes_of-body x.s x.from x.notes.now x.g c.loop-x.x-index _ _ many e c.loop-x.invariant (omega arith)
