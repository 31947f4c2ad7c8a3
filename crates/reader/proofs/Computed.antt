-- A name that opens every definition of this crate and those below, for closed examples.
-- Assumes nothing.

unfoldable pub computed : Unit {0}
unfolding Rattle.model.proofs.Computed.computed Rattle.reader.specs.Closer.closer_from Rattle.reader.specs.Closer.rest_is_zero Rattle.reader.specs.Closer.closer_shape_fault Rattle.reader.specs.Closer.closer_bytes_fault Rattle.reader.specs.Statement.op_from Rattle.reader.specs.Statement.op_shape_fault Rattle.reader.specs.Statement.op_bytes_fault Rattle.reader.specs.Record.follows Rattle.reader.specs.Record.length_fits Rattle.reader.specs.Record.framing_fault Rattle.reader.specs.Record.segment_from Rattle.reader.specs.Record.segment_bytes_fault Rattle.reader.specs.Record.ports_from Rattle.reader.specs.Record.ports_bytes_fault Rattle.reader.specs.Record.body_fault Rattle.reader.specs.Record.with_record Rattle.reader.specs.File.read_end Rattle.reader.specs.File.read_from Rattle.reader.specs.File.read_file
computed = tt
