-- A name that opens every definition of this crate and those below, for closed examples.
-- Assumes nothing.

unfoldable pub computed : Unit {0}
unfolding Rattle.model.proofs.Computed.computed Rattle.writer.specs.Bytes.joined Rattle.export_model.specs.Numbers.next_numbers Rattle.export_model.specs.Numbers.closer_numbers Rattle.export_model.specs.Numbers.op_numbers Rattle.export_model.specs.Numbers.segment_numbers Rattle.export_model.specs.Numbers.start_numbers Rattle.export_model.specs.Numbers.numbers_of Rattle.export_model.specs.Judged.closer_numbers_fault Rattle.export_model.specs.Judged.op_numbers_fault Rattle.export_model.specs.Judged.segment_numbers_fault Rattle.export_model.specs.Judged.start_numbers_fault Rattle.export_model.specs.Judged.count_numbers_fault Rattle.export_model.specs.Judged.target_numbers_fault Rattle.export_model.specs.Judged.parts_fault Rattle.export_model.specs.Judged.numbers_fault Rattle.export_model.specs.Judged.numbers_number Rattle.export_model.specs.Judged.segment_held Rattle.export_model.specs.Judged.model_held Rattle.export_model.specs.Judged.held_or
computed = tt
