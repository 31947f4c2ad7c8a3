-- A name that opens every definition of this crate and those below, for closed examples.
-- Assumes nothing.

unfoldable pub computed : Unit {0}
unfolding Rattle.model.proofs.Computed.computed Rattle.masks.proofs.Computed.computed Rattle.model_reach.specs.Store.port_bit Rattle.model_reach.specs.Store.op_ports Rattle.model_reach.specs.Store.test_port Rattle.model_reach.specs.Store.ports_in Rattle.model_reach.specs.Store.ports_of Rattle.model_reach.specs.Store.ports_to Rattle.model_reach.specs.Store.first_row Rattle.model_reach.specs.Store.first_rows Rattle.model_reach.specs.Store.joined Rattle.model_reach.specs.Store.round_to Rattle.model_reach.specs.Store.rounds_to Rattle.model_reach.specs.Store.reach_rows Rattle.model_reach.specs.Store.meets Rattle.model_reach.specs.Store.unused_of Rattle.model_reach.specs.Store.lack_of Rattle.model_reach.specs.Store.lacks_to Rattle.model_reach.specs.Store.lacks_by
computed = tt
