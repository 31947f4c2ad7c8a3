-- `early_deliver::Board::sweep` meets its contract. The invariant: the outlook is that of the records after k looks, which are the first ones where nobody has heard.
use Rattle.std.proofs.Common.{◌≡◌, ◌∙◌, refl, ap, sym, false, arith}
use Rattle.early.specs.Deliver.{swept_by}
use Rattle.early_laws.proofs.SettleLaws.{swept_by-none}
use Rattle.early_deliver.specs.Awake.{log_on, sooner_on, outlook_of}
use Rattle.early_deliver.proofs.SweepLaws.{outlook-own, outlook-begun, look_none, look-woken, look-heard, sweep-more}
use Rattle.early_deliver.proofs.Board.sweep.Goals as goal

pub loop-k-init : goal.loop-k-init
loop-k-init c =
    let x = c.args in
    let b = x.self.now in
    let l = log_on b.rows.now in
    (outlook-begun b.reach.now b.t l x.o c.requires ∙ ap (λ us. outlook_of b.reach.now b.t l us false) (sym (swept_by-none (sooner_on b.reach.now b.t l) l x.o.threads.at)), λ h. refl)

-- nothing heard
pub loop-k-preserved-in_default : goal.loop-k-preserved-in_default
loop-k-preserved-in_default c =
    let x = c.args in
    let b = x.self.now in
    let l = log_on b.rows.now in
    let here = c.loop-k in
    let own = outlook-own b.reach.now b.t l here.seen _ _ here.invariant.0 in
    let look = look_none b.reach.now b.t l here.seen own here.k _ c.heard_by.ensures c.in_default.is in
    (sweep-more b.reach.now b.t l here.seen here.seen _ here.k here.invariant.0 look, here.invariant.1)

-- heard
pub loop-k-preserved : goal.loop-k-preserved
loop-k-preserved c =
    let x = c.args in
    let b = x.self.now in
    let l = log_on b.rows.now in
    let here = c.loop-k in
    let own = outlook-own b.reach.now b.t l here.seen _ _ here.invariant.0 in
    let w = c.wake-seen in
    let woken = look-woken b.reach.now b.t l here.seen own here.k _ c.heard_by.ensures _ c.in-At.is in
    let (look, still) = look-heard b.reach.now b.t l w.result _ _ w.ensures woken in
    (sweep-more b.reach.now b.t l here.seen w.result _ here.k here.invariant.0 look, still)

pub returns : goal.returns
returns c =
    let x = c.args in
    let b = x.self.now in
    let l = log_on b.rows.now in
    let here = c.loop-k in
    let e : here.k ≡ b.t = omega arith in
    record { seen = here.invariant.0 ∙ ap (λ n. outlook_of b.reach.now b.t l (swept_by (sooner_on b.reach.now b.t l) l x.o.threads.at n) here.seen.heard) e; still = here.invariant.1 }
