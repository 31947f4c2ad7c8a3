-- A name that opens every definition of this crate and those below, for closed examples.
-- Assumes nothing.

unfoldable pub computed : Unit {0}
unfolding Rattle.reader.proofs.Computed.computed Rattle.writer.specs.Bytes.bytes_of Rattle.writer.specs.Bytes.joined Rattle.writer.specs.Bytes.next_bytes Rattle.writer.specs.Bytes.closer_bytes Rattle.writer.specs.Bytes.statement_of Rattle.writer.specs.Bytes.op_bytes Rattle.writer.specs.File.record_bytes Rattle.writer.specs.File.head_bytes Rattle.writer.specs.File.segment_bytes Rattle.writer.specs.File.ports_bytes Rattle.writer.specs.File.start_bytes Rattle.writer.specs.File.trimmed_start Rattle.writer.specs.File.end_bytes Rattle.writer.specs.File.file_of Rattle.writer.specs.File.trimmed_segment Rattle.writer.specs.File.trimmed
computed = tt
