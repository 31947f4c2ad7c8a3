-- A name that opens the definitions of this crate and those below, for closed examples.
-- Assumes nothing.

unfoldable pub computed : Unit {0}
unfolding Rattle.tables.proofs.Computed.computed Rattle.tables_distance.specs.Store.held_word Rattle.tables_distance.specs.Store.sum_word Rattle.tables_distance.specs.Store.steps_of Rattle.tables_distance.specs.Store.cut_word Rattle.tables_row.specs.Row.step_word Rattle.tables_row.specs.Row.step_words Rattle.tables_row.specs.Row.steps_in
computed = tt
