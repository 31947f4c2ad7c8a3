-- `plain_execute::execute` meets its contract.
use Rattle.std.proofs.Common.{◌≡◌, ◌≤◌, ◌+◌, ◌*◌, ◌%◌, get_or, length, arith}
use Rattle.plain_words.specs.Shared.{shared}
use Rattle.plain_words.proofs.ExitLaws.{size_by-<, execute_to-none, execute_to-next}
use Rattle.plain_execute.proofs.ItemsLaws.{items-length, execute_by-items}
use Rattle.plain_execute.proofs.execute.Goals as goal

pub overflow_add-w-items-3 : goal.overflow_add-w-items-3
overflow_add-w-items-3 c = omega (arith, c.size_of-n.ensures, size_by-< (get_or c.args.code.now (34 * (c.from.result % 128)) 0))

pub slice_bounds-w-items-end : goal.slice_bounds-w-items-end
slice_bounds-w-items-end c = omega (arith, c.size_of-n.ensures, size_by-< (get_or c.args.code.now (34 * (c.from.result % 128)) 0))

pub loop-w-init : goal.loop-w-init
loop-w-init c = let a = c.args in execute_to-none _ (shared a.v.now a.told.now a.ranges.now) 0

pub loop-w-preserved : goal.loop-w-preserved
loop-w-preserved c =
    let same : 0 + c.loop-w.w-index ≡ c.loop-w.w-index = omega arith in
    execute_to-next _ _ 0 c.loop-w.w-index _ _ c.loop-w.invariant (rw same c.execute_word.ensures)

pub returns : goal.returns
returns c =
    let a = c.args in
    let i = c.from.result in
    let base = 34 * (i % 128) + 2 in
    let n = c.size_of-n.result in
    let room : base + n ≤ length a.code.now = omega (arith, c.size_of-n.ensures, size_by-< (get_or a.code.now (34 * (i % 128)) 0)) in
    let size = items-length a.code.now base n room in
    execute_by-items a.code.now a.s i n c.loop-w.w-index _ _ c.from.ensures c.size_of-n.ensures room (omega (arith, size, c.loop-w.auto.w-index-end)) (omega (arith, size, c.loop-w-test.false)) c.loop-w.invariant
