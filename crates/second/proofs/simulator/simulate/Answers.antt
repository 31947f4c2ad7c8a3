-- `second::simulator::simulate` meets its contract.
use Rattle.second.proofs.DeskLaws.{ran-done, ran-spent}
use Rattle.second.proofs.simulator.simulate.Goals as goal

pub returns-in-Some : goal.returns-in-Some
returns-in-Some c = ran-done _ _ _ _ c.in-Some.ensures c.put.ensures

pub returns-in-None : goal.returns-in-None
returns-in-None c = ran-spent _ _ _ _ c.put-in-None.ensures c.put-in-None-2.ensures
