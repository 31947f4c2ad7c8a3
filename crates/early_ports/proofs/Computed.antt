-- A name that opens every definition of this crate and those below, for closed examples.
-- Assumes nothing.

unfoldable pub computed : Unit {0}
unfolding Rattle.masks.proofs.Computed.computed Rattle.early.proofs.Computed.computed Rattle.early_ports.specs.Names.bit_from Rattle.early_ports.specs.Names.read_from Rattle.early_ports.specs.Names.op_names Rattle.early_ports.specs.Names.test_name Rattle.early_ports.specs.Names.names_in Rattle.early_ports.specs.Names.names_of Rattle.early_ports.specs.Names.name_word Rattle.early_ports.specs.Names.stretch Rattle.early_ports.specs.Names.stretches Rattle.early_ports.specs.Names.any_ports Rattle.early_ports.specs.Names.names_for Rattle.early_ports.specs.Cross.ports_in Rattle.early_ports.specs.Cross.segment_with Rattle.early_ports.specs.Cross.map_bits Rattle.early_ports.specs.Cross.footprint_of Rattle.early_ports.specs.Cross.crosses Rattle.early_ports.specs.Cross.conflicts_on
computed = tt
