-- A name that opens every definition of this crate and those below, for closed examples.
-- Assumes nothing.

unfoldable pub computed : Unit {0}
unfolding Rattle.base.proofs.Computed.computed Rattle.clock.specs.Cycle.is_before Rattle.clock.specs.Cycle.is_same Rattle.clock.specs.Cycle.is_stamp_before Rattle.clock.specs.Wait.next_delta Rattle.clock.specs.Passage.passage_of Rattle.clock.specs.Wait.step_over Rattle.clock.specs.Wait.wait_ends Rattle.clock.specs.Wait.held_step Rattle.clock.specs.Advance.is_bound_before Rattle.clock.specs.Advance.least Rattle.clock.specs.Advance.least_below Rattle.clock.specs.Advance.delta_after Rattle.clock.specs.Advance.plus_of Rattle.clock.specs.Advance.◌⊕◌ Rattle.clock.specs.Advance.advance_over Rattle.clock.specs.Advance.advance_of
computed = tt
