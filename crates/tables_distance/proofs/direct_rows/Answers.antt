-- `tables_distance::direct_rows` meets its contract: a row for each segment.
use Prim.Native.Nat.{◌+◌, ◌-◌, ◌*◌}
use mathlib.Core.Path.{◌≡◌, ap, ◌∙◌}
use native.Mathlib.Omega.{arith}
use lib.ListN.{length, length-take}
use borrow.Rule.Slice.PartMut.{put_mid, mid_of, mid_len}
use Rattle.tables_laws.proofs.WordLaws.{row_within}
use Rattle.tables_distance.specs.Store.{direct_word, direct_to}
use Rattle.tables_distance.proofs.PartLaws.{part-stores}
use Rattle.tables_distance.proofs.StoreLaws.{direct_rows-none, direct_rows-more}
use Rattle.tables_distance.proofs.direct_rows.Goals as goal

pub loop-r-init : goal.loop-r-init
loop-r-init c = direct_rows-none _ _

pub loop-r-preserved : goal.loop-r-preserved
loop-r-preserved c =
    let x = c.args in
    let l = c.loop-r in
    let p = l.r * x.n in
    let k = p + x.n - p in
    let front = length-take x.n x.m.segments in
    let room = row_within x.n l.r (omega arith) in
    let size : length (mid_of p k l.words) ≡ x.n = mid_len p (p + x.n) l.words (omega arith) ∙ omega arith in
    let made =
    ap (put_mid p k l.words) (c.direct_row.ensures ∙ ap (direct_to c.steps_of.result l.r 0 (mid_of p k l.words)) size)
    ∙ part-stores (direct_word c.steps_of.result l.r) p k l.words x.n (omega arith) (omega arith) in
    direct_rows-more x.m x.words.now l.r x.n _ _ _ _ (omega arith) c.loop-r-test.true l.invariant c.steps_of.ensures made
