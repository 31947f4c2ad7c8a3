-- `early_deliver::Board::first_limits` meets its contract. The invariant: the first k limits are filled.
use Rattle.std.proofs.Common.{◌≡◌, ◌∙◌, ap, ◌<◌, arith, length-take}
use Rattle.std.proofs.lemmas.List.{get_or-take}
use Rattle.model.specs.declared.Thread.{Thread}
use Rattle.model.specs.Record.{no_thread}
use Rattle.model_effect.proofs.LengthLaws.{threads-length}
use Rattle.early_deliver.specs.Awake.{log_on, first_limit}
use Rattle.early_deliver.proofs.CrewLaws.{limits-none, limits-more}
use Rattle.early_deliver.proofs.Board.first_limits.Goals as goal

pub loop-k-init : goal.loop-k-init
loop-k-init c = limits-none c.args.threads.at (log_on c.args.self.now.rows.now)

pub loop-k-preserved : goal.loop-k-preserved
loop-k-preserved c =
    let l = c.loop-k in
    let ts = c.args.threads.at in
    let log = log_on c.args.self.now.rows.now in
    let below : l.k < c.from-n.result = omega (arith, length-take c.from-n.result ts) in
    limits-more ts log l.at l.k _ (omega arith) l.invariant (c.first_limit.ensures ∙ ap (λ (x : Thread). first_limit log x.state) (get_or-take c.from-n.result ts l.k no_thread below))

pub returns : goal.returns
returns c =
    let ts = c.args.threads in
    let size = threads-length ts _ c.well_formed.1.0 in
    let e : c.loop-k.k ≡ c.args.self.now.t = omega (arith, length-take c.from-n.result ts.at) in
    rw (← e) c.loop-k.invariant
