-- `plain_close::least_of` meets its contract.
use Rattle.plain_state.proofs.DueLaws.{least-all, least-near}
use Rattle.plain_close.proofs.least_of.Goals as goal

pub returns-then-near-key : goal.returns-then-near-key
returns-then-near-key c = let p = c.requires in let a = c.args in least-near a.state.now a.from a.to a.t a.near p.from_le_to p.to_le_t p.least a.key p.key_bound p.by_index c.if-near-key.true

pub returns : goal.returns
returns c = let p = c.requires in let a = c.args in least-all a.state.now a.from a.to a.t a.near p.from_le_to p.to_le_t p.least _ _ c.floor_of-before.ensures c.floor_of.ensures
