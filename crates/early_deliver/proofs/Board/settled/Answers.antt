-- `early_deliver::Board::settled` meets its contract. The invariant: the sweeps that are left lead to the same records. A sweep in which nobody hears is the last.
use Rattle.std.proofs.Common.{◌≡◌, ◌∙◌, ap, sym, ◌-◌, arith}
use borrow.Author.Tests.{not-true}
use Rattle.early.specs.Deliver.{sweeps_by}
use Rattle.early_laws.proofs.SettleLaws.{sweeps_by-done}
use Rattle.early_deliver.specs.Awake.{log_on, sooner_on}
use Rattle.early_deliver.proofs.SweepLaws.{outlook-threads, outlook-own, settle-more, settle-still}
use Rattle.early_deliver.proofs.Board.settled.Goals as goal

pub loop-init : goal.loop-init
loop-init c =
    let x = c.args in
    let b = x.self.now in
    let l = log_on b.rows.now in
    let e : b.t - 0 ≡ b.t = omega arith in
    (outlook-own b.reach.now b.t l _ _ _ c.outlook-o.ensures, ap (λ n. sweeps_by (sooner_on b.reach.now b.t l) l b.t n c.outlook-o.result.threads.at) e)

pub sweep-o-requires : goal.sweep-o-requires
sweep-o-requires c = c.loop.invariant.0

pub returns-then-not-o : goal.returns-then-not-o
returns-then-not-o c =
    let x = c.args in
    let b = x.self.now in
    let l = log_on b.rows.now in
    let here = c.loop in
    let swept = c.sweep-o in
    settle-still b.reach.now b.t l here.o swept.result swept.ensures.seen _ here.counter here.invariant.1 (swept.ensures.still (not-true swept.result.heard c.if-not-o.true))
    ∙ ap (sweeps_by (sooner_on b.reach.now b.t l) l b.t b.t) (outlook-threads b.reach.now b.t l _ _ _ c.outlook-o.ensures)

pub loop-preserved : goal.loop-preserved
loop-preserved c =
    let x = c.args in
    let b = x.self.now in
    let l = log_on b.rows.now in
    let here = c.loop in
    let swept = c.sweep-o in
    (outlook-own b.reach.now b.t l _ _ _ swept.ensures.seen, settle-more b.reach.now b.t l here.o swept.result swept.ensures.seen _ here.counter here.invariant.1 (omega arith))

pub returns : goal.returns
returns c =
    let x = c.args in
    let b = x.self.now in
    let l = log_on b.rows.now in
    let here = c.loop in
    sym (sweeps_by-done (sooner_on b.reach.now b.t l) l here.o.threads.at b.t b.t here.counter (omega arith))
    ∙ (here.invariant.1 ∙ ap (sweeps_by (sooner_on b.reach.now b.t l) l b.t b.t) (outlook-threads b.reach.now b.t l _ _ _ c.outlook-o.ensures))
