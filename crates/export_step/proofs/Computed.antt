-- A name that opens every definition of this crate and those below, for closed examples.
-- Assumes nothing.

unfoldable pub computed : Unit {0}
unfolding Rattle.export_state.proofs.Computed.computed Rattle.export_step.specs.Step.has_room Rattle.export_step.specs.Step.holding Rattle.export_step.specs.Step.fresh_number Rattle.export_step.specs.Step.fresh_kept Rattle.export_step.specs.Step.asked_number Rattle.export_step.specs.Step.request_by Rattle.export_step.specs.Step.rows_by Rattle.export_step.specs.Step.call_by Rattle.export_step.specs.Step.call_rows_by Rattle.export_step.specs.Step.call_kept Rattle.export_step.specs.Step.call_held Rattle.export_step.specs.Step.request_number Rattle.export_step.specs.Step.request_kept Rattle.export_step.specs.Step.request_answer Rattle.export_step.specs.Step.replay_number Rattle.export_step.specs.Step.replay_kept Rattle.export_step.specs.Step.replay_buffer
computed = tt
