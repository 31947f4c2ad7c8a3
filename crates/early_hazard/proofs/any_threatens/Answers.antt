-- `early_hazard::any_threatens` meets its contract: a search over the threads.
use mathlib.Core.Path.{◌≡◌, refl, sym, ◌∙◌}
use native.Mathlib.Omega.{arith}
use Rattle.base.proofs.IndexLaws.{any_below-start, any_below-here}
use Rattle.early_limits.specs.Limit.{at_most}
use Rattle.early_ahead.proofs.LengthLaws.{limits-length}
use Rattle.early_ahead.proofs.LimitLaws.{at_most-≤, at_most-min}
use Rattle.early_hazard.proofs.HazardLaws.{knows-kept, any_below-more, threat_at-self, threat_at-other}
use Rattle.early_hazard.proofs.any_threatens.Goals.{then-j-asker+else-threatens, else-j-asker}
use Rattle.early_hazard.proofs.any_threatens.Goals as goal

pub loop-j-init : goal.loop-j-init
loop-j-init c = (refl, λ ws knows below. any_below-start _)

pub returns-then-threatens-clause-threatens : goal.returns-then-threatens-clause-threatens
returns-then-threatens-clause-threatens c = λ ws knows below.
    let x = c.args in
    let a = x.asker.now in
    let j = c.loop-j.j in
    let size = limits-length x.xs _ c.well_formed.1.1.1.1.1.1.1.0 in
    let end : c.min-j-end.result ≡ at_most 32 x.t = c.min-j-end.ensures ∙ rw c.from.ensures (at_most-min 32 x.t) in
    let h = below j (omega (arith, (at_most-≤ 32 x.t).1)) in
    let e =
    threat_at-other a.marked a.own a.names.now x.starts ws x.n x.segments x.xs.at a.i a.c j _ _ _ (λ e. omega arith) (omega arith)
    c.segment_of-q.ensures.0 c.ports_of-ports.ensures (c.threatens.ensures.threatens ws (knows-kept _ _ _ _ _ _ c.loop-j.invariant.0 knows) (omega (arith, c.segment_of-q.ensures.0))) in
    sym (any_below-here _ _ j (omega arith) (e ∙ c.if-threatens.true))

pub loop-j-preserved : goal.loop-j-preserved
loop-j-preserved c =
    let x = c.args in
    let a = x.asker.now in
    let j = c.loop-j.j in
    let size = limits-length x.xs _ c.well_formed.1.1.1.1.1.1.1.0 in
    let end : c.min-j-end.result ≡ at_most 32 x.t = c.min-j-end.ensures ∙ rw c.from.ensures (at_most-min 32 x.t) in (
      elim c.if-j-asker.branch [
        | then-j-asker+else-threatens w ↦ rw w.room-is (w.threatens.ensures.kept ∙ c.loop-j.invariant.0)
        | else-j-asker w ↦ rw w.room-is c.loop-j.invariant.0
      ],
      λ ws knows below.
          let h = below j (omega (arith, (at_most-≤ 32 x.t).1)) in
          let e : _ ≡ _ =
          elim c.if-j-asker.branch [
            | then-j-asker+else-threatens w ↦ threat_at-other a.marked a.own a.names.now x.starts ws x.n x.segments x.xs.at a.i a.c j _ _ _ (λ e. omega arith) (omega arith)
                w.segment_of-q.ensures.0 w.ports_of-ports.ensures (w.threatens.ensures.threatens ws (knows-kept _ _ _ _ _ _ c.loop-j.invariant.0 knows) (omega (arith, w.segment_of-q.ensures.0))) ∙ w.if-threatens.false
            | else-j-asker w ↦ threat_at-self a.marked a.own a.names.now x.starts ws x.n x.segments x.xs.at a.i a.c j (omega arith)
          ] in
          any_below-more j _ (c.loop-j.invariant.1 ws knows below) e,
    )

pub returns-clause-threatens : goal.returns-clause-threatens
returns-clause-threatens c = λ ws knows below.
    let x = c.args in
    let end : c.loop-j.j ≡ c.min-j-end.result = omega arith in
    let e : c.loop-j.j ≡ at_most 32 x.t = end ∙ (c.min-j-end.ensures ∙ rw c.from.ensures (at_most-min 32 x.t)) in
    rw e at (sym (c.loop-j.invariant.1 ws knows below))
