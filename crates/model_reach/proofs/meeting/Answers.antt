-- `model_reach::meeting` meets its contract: a bit for each word.
use mathlib.Core.Path.{◌≡◌, refl}
use native.Mathlib.Omega.{arith}
use lib.ListN.{length}
use Rattle.masks.proofs.MaskLaws.{mask_of-start, mask_of-more}
use Rattle.model_reach.specs.Store.{meets}
use Rattle.model_reach.proofs.meeting.Goals as goal

pub loop-i-init : goal.loop-i-init
loop-i-init c = mask_of-start _

pub loop-i-preserved : goal.loop-i-preserved
unfolding meets
loop-i-preserved c =
    let x = c.args in
    let l = c.loop-i in
    mask_of-more (meets x.words.now x.w) l.i _ _ _ l.invariant refl c.with_if-out.ensures

pub returns : goal.returns
returns c =
    let e : c.loop-i.i ≡ length c.args.words.now = omega arith in
    rw e at c.loop-i.invariant
