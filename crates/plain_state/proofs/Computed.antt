-- A name that opens every definition of this crate and those below, for closed examples.
-- Assumes nothing.

unfoldable pub computed : Unit {0}
unfolding Rattle.plain_words.proofs.Computed.computed Rattle.plain_state.specs.Words.state_from Rattle.plain_state.specs.Words.threads_to Rattle.plain_state.specs.Words.next_word Rattle.plain_state.specs.Words.ended_by Rattle.plain_state.specs.Words.close_word Rattle.plain_state.specs.Words.is_told Rattle.plain_state.specs.Words.wake_word Rattle.plain_state.specs.Words.least_word Rattle.plain_state.specs.Turn.waited_by Rattle.plain_state.specs.Turn.turn_on Rattle.plain_state.specs.Turn.turns_to
computed = tt
