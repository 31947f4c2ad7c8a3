-- `early_deliver::Board::crew` meets its contract. The invariant: the first k places are filled.
use Rattle.std.proofs.Common.{◌<◌, arith, length-take}
use Rattle.std.proofs.lemmas.List.{get_or-take}
use Rattle.model.specs.Record.{no_thread}
use Rattle.model_effect.proofs.LengthLaws.{threads-length}
use Rattle.early_deliver.proofs.CrewLaws.{crew-none, crew-more, crew-all}
use Rattle.early_deliver.proofs.Board.crew.Goals as goal

pub loop-k-init : goal.loop-k-init
loop-k-init c = crew-none c.args.threads.at

pub loop-k-preserved : goal.loop-k-preserved
loop-k-preserved c =
    let l = c.loop-k in
    let ts = c.args.threads.at in
    let below : l.k < c.from-n.result = omega (arith, length-take c.from-n.result ts) in
    crew-more ts l.segments l.events l.since l.k _ _ _ (omega arith) l.invariant (get_or-take c.from-n.result ts l.k no_thread below) c.event_awaited.ensures c.since_awaited.ensures

pub returns : goal.returns
returns c =
    let l = c.loop-k in
    let x = c.args in
    let b = x.self.now in
    let size = threads-length x.threads _ c.well_formed.1.0 in
    crew-all x.threads.at l.segments l.events l.since l.k b.t (omega (arith, length-take c.from-n.result x.threads.at)) l.invariant
