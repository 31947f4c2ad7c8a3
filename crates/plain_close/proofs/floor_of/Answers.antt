-- `plain_close::floor_of` meets its contract.
use Rattle.std.proofs.Common.{◌≡◌, ◌-◌, ◌+◌, ◌∙◌, take, drop, get_or, length, arith, length-take, length-drop}
use Rattle.std.proofs.lemmas.List.{get_or-drop, get_or-take}
use Rattle.plain_execute.proofs.OrderLaws.{min-lesser-other}
use Rattle.plain_state.proofs.DueLaws.{least-none, least_more}
use Rattle.plain_close.proofs.floor_of.Goals as goal

pub loop-w-init : goal.loop-w-init
loop-w-init c = let a = c.args in
    let same : a.from + 0 ≡ a.from = omega arith in
    rw same (least-none a.state.now a.from a.start)

pub loop-w-preserved : goal.loop-w-preserved
loop-w-preserved c = let a = c.args in
    let here = c.loop-w in
    let size : length (take (a.to - a.from) (drop a.from a.state.now)) ≡ a.to - a.from = simp (length-take, length-drop) (omega arith) in
    let next : a.from + (here.w-index + 1) ≡ a.from + here.w-index + 1 = omega arith in
    let word = get_or-take (a.to - a.from) (drop a.from a.state.now) here.w-index 0 (omega (arith, size, c.loop-w-test.true)) ∙ get_or-drop a.from a.state.now here.w-index 0 in
    rw next (least_more a.state.now a.from (a.from + here.w-index) a.start here.least (omega arith) here.invariant _ (c.min-least.ensures ∙ rw word (min-lesser-other here.least (get_or a.state.now (a.from + here.w-index) 0))))

pub returns : goal.returns
returns c = let a = c.args in
    let here = c.loop-w in
    let size : length (take (a.to - a.from) (drop a.from a.state.now)) ≡ a.to - a.from = simp (length-take, length-drop) (omega arith) in
    let same : a.from + here.w-index ≡ a.to = omega (arith, size, here.auto.w-index-end, c.loop-w-test.false) in
    rw same at here.invariant
