-- A name that opens every definition of this crate and those below, for closed examples.
-- Assumes nothing.

unfoldable pub computed : Unit {0}
unfolding Rattle.buffers.proofs.Computed.computed Rattle.early.proofs.Computed.computed Rattle.export_state.specs.Numbers.in_turn Rattle.export_state.specs.Numbers.log_words Rattle.export_state.specs.Numbers.pair_at Rattle.export_state.specs.Numbers.state_from Rattle.export_state.specs.Numbers.thread_from Rattle.export_state.specs.Numbers.variables_from Rattle.export_state.specs.Numbers.place_from Rattle.export_state.specs.Numbers.site_from Rattle.export_state.specs.Numbers.threads_from Rattle.export_state.specs.Numbers.held_threads Rattle.export_state.specs.Numbers.is_pair_held Rattle.export_state.specs.Numbers.is_event_held Rattle.export_state.specs.Numbers.is_record_held Rattle.export_state.specs.Numbers.is_log_held Rattle.export_state.specs.Numbers.are_records_held Rattle.export_state.specs.Numbers.are_held
computed = tt
