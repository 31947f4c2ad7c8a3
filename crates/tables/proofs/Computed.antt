-- A name that opens every definition of this crate and those below, for closed examples.
-- Assumes nothing.

unfoldable pub computed : Unit {0}
unfolding Rattle.model.proofs.Computed.computed Rattle.tables.specs.Conflict.conflict Rattle.tables.specs.Conflict.mark Rattle.tables.specs.Conflict.marks_of Rattle.tables.specs.Conflict.mark_at Rattle.tables.specs.Distance.step_of Rattle.tables.specs.Distance.edge Rattle.tables.specs.Distance.cut Rattle.tables.specs.Distance.cell Rattle.tables.specs.Distance.square Rattle.tables.specs.Distance.direct Rattle.tables.specs.Distance.through_place Rattle.tables.specs.Distance.rounds Rattle.tables.specs.Distance.distance_table Rattle.tables.specs.Distance.distance_of Rattle.tables.specs.Word.word_of Rattle.tables.specs.Word.bound_of Rattle.tables.specs.Word.joined Rattle.tables.specs.Word.words_of Rattle.tables.specs.Word.stored Rattle.tables.specs.Word.distance_in Rattle.tables.specs.Outcome.if_held Rattle.tables.specs.Outcome.conflict_number Rattle.tables.specs.Outcome.conflict_marks Rattle.tables.specs.Outcome.is_short Rattle.tables.specs.Outcome.distances_number Rattle.tables.specs.Outcome.distances_buffer Rattle.tables.specs.Outcome.rows_number
computed = tt
