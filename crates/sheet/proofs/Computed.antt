-- A name that opens every definition of this crate and those below, for closed examples.
-- Assumes nothing.

unfoldable pub computed : Unit {0}
unfolding Rattle.plain.proofs.Computed.computed Rattle.buffers.proofs.Computed.computed Rattle.sheet.specs.Sheet.cycle_words Rattle.sheet.specs.Sheet.state_words Rattle.sheet.specs.Sheet.v_line Rattle.sheet.specs.Sheet.t_line Rattle.sheet.specs.Sheet.n_line Rattle.sheet.specs.Sheet.spent_line Rattle.sheet.specs.Sheet.refused_line Rattle.sheet.specs.Sheet.v_lines Rattle.sheet.specs.Sheet.t_lines Rattle.sheet.specs.Sheet.run_sheet Rattle.sheet.specs.Sheet.sheet_of
computed = tt
