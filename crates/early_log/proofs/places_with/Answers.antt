-- `early_log::places_with` meets its contract. The invariant: the places with the pairs of the first j events are counted.
use Rattle.std.proofs.Common.{◌≡◌, ◌∙◌, ap, sym, ◌+◌, ◌<◌, min, take, arith, length-take}
use Rattle.std.proofs.lemmas.List.{get_or-take, length-take-le}
use mathlib.Core.Logic.{inl, inr}
use Rattle.base.proofs.BoolLaws.{true→T}
use Rattle.model_effect.proofs.LengthLaws.{events-length}
use Rattle.model.specs.Footprint.{has}
use Rattle.early.specs.Log.{pair_of, holds}
use Rattle.early_log.proofs.LengthLaws.{log-length, take_within}
use Rattle.early_log.proofs.AnyLaws.{list_any-has}
use Rattle.early_log.proofs.HeldLaws.{log_of-first}
use Rattle.early_log.proofs.NotedLaws.{places_with-none, places_with-held, places_with-new}
use Rattle.early_log.proofs.places_with.Goals as goal
use Rattle.early_log.proofs.places_with.Goals.{then-not-contains+then-not-is_held, else-not-contains, else-not-contains-via-then-not-contains+else-not-is_held, else-not-contains-via-else-not-contains}

pub loop-j-init : goal.loop-j-init
loop-j-init c =
    let x = c.args in
    let log = x.site.log in
    let used = c.within-used.result in
    let size = log-length x.site _ c.well_formed.0 in
    (omega arith, sym (places_with-none (take used log) x.c x.events.at ∙ length-take-le used log (omega arith)))

pub loop-j-preserved : goal.loop-j-preserved
loop-j-preserved c =
    let x = c.args in
    let l = c.loop-j in
    let size = events-length x.events _ c.well_formed.1.1.0 in
    let below : l.j < c.within-n.result = omega (arith, length-take c.within-n.result x.events.at) in
    let event = get_or-take c.within-n.result x.events.at l.j 0 below in
    let es = x.events.at in
    let log = take c.within-used.result x.site.log in
    let listed = c.contains.ensures.value ∙ (list_any-has (take l.j es) _ ∙ ap (has (take l.j es)) event) in
    let logged = ap (λ e. holds log (pair_of e x.c)) event in
    elim c.if-not-contains.branch [
      | then-not-contains+then-not-is_held w ↦
          rw w.total-is
          (omega arith, ap (λ i. i + 1) l.invariant.1 ∙ places_with-new log x.c es l.j (omega arith) (sym listed ∙ w.if-not-contains.true) (sym (w.is_held.ensures ∙ logged) ∙ w.if-not-is_held.true))
      | else-not-contains w ↦
          rw w.total-is (
            omega arith,
            l.invariant.1 ∙ places_with-held log x.c es l.j (omega arith)
                (elim w.else-not-contains.branch [
                  | else-not-contains-via-then-not-contains+else-not-is_held v ↦ inr (true→T _ (sym (v.is_held.ensures ∙ logged) ∙ v.if-not-is_held.false))
                  | else-not-contains-via-else-not-contains v ↦ inl (true→T _ (sym listed ∙ v.if-not-contains.false))
                ]),
          )
    ]

pub returns : goal.returns
returns c =
    let x = c.args in
    let l = c.loop-j in
    let n = c.within-n.result in
    let size = events-length x.events _ c.well_formed.1.1.0 in
    let logged = log_of-first x.site (log-length x.site _ c.well_formed.0) _ c.within-used.ensures in
    let j : l.j ≡ min x.events.n 32 = omega (arith, length-take n x.events.at) in
    rw (logged, j, take_within x.events.at x.events.n 32 size) at l.invariant.1
