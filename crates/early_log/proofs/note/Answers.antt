-- `early_log::note` meets its contract. The invariant: the places hold the log with the pairs of the first events, as far as there is room.
use Rattle.std.proofs.Common.{◌≡◌, ◌∙◌, sym, take, arith}
use lib.Seq.{take_all}
use Rattle.model_effect.proofs.LengthLaws.{events-length}
use Rattle.early_log.proofs.LengthLaws.{log-length, take_within}
use Rattle.early_log.proofs.HeldLaws.{log_of-length, with_pairs-none, with_pairs-more}
use Rattle.early_log.proofs.NotedLaws.{cleared-log, cleared-variables, cleared-start, holding-held, holding-new, holding-full, holding-noted}
use Rattle.early_log.proofs.note.Goals as goal
use Rattle.early_log.proofs.note.Goals.{then-k-lt128+then-not-is_held, else-k-lt128, else-k-lt128-via-then-k-lt128+else-not-is_held, else-k-lt128-via-else-k-lt128}

pub loop-e-init : goal.loop-e-init
loop-e-init c =
    let x = c.args in
    let t = c.cleared-tidy in
    let few = log_of-length x.site (log-length x.site _ c.well_formed.0) in
    rw (with_pairs-none (take t.result.count t.result.log) x.c x.events.at) (cleared-start t.result _ _ t.ensures (omega arith))

pub loop-e-preserved : goal.loop-e-preserved
loop-e-preserved c =
    let x = c.args in
    let t = c.cleared-tidy.result in
    let l = c.loop-e in
    let es = take c.within-n.result x.events.at in
    let log = take t.count t.log in
    let more = with_pairs-more log x.c es l.e-index c.loop-e-test.true in
    elim c.if-k-lt128.branch [
      | then-k-lt128+then-not-is_held w ↦ rw (w.log-is, w.count-is, more) (holding-new _ l.log l.count l.invariant _ _ c.from-k.ensures (sym w.if-not-is_held.true ∙ w.is_held.ensures) w.if-k-lt128.true)
      | else-k-lt128 w ↦
          rw (w.log-is, w.count-is, more)
          (elim w.else-k-lt128.branch [
            | else-k-lt128-via-then-k-lt128+else-not-is_held v ↦ holding-held _ l.log l.count l.invariant _ _ c.from-k.ensures (sym v.if-not-is_held.false ∙ v.is_held.ensures)
            | else-k-lt128-via-else-k-lt128 v ↦ holding-full _ l.log l.count l.invariant _ _ c.from-k.ensures v.if-k-lt128.false
          ])
    ]

pub returns : goal.returns
returns c =
    let x = c.args in
    let t = c.cleared-tidy in
    let l = c.loop-e in
    let n = c.within-n.result in
    let all : take l.e-index (take n x.events.at) ≡ take x.events.n x.events.at =
    take_all l.e-index (take n x.events.at) c.loop-e-test.false ∙ (rw c.within-n.ensures (take_within x.events.at x.events.n 32 (events-length x.events _ c.well_formed.1.1.0))) in
    holding-noted x.site x.c _ t.result.variables l.log l.count (cleared-variables t.result _ _ t.ensures) (rw (cleared-log t.result _ _ t.ensures, all) at l.invariant)
