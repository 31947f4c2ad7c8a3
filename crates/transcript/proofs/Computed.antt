-- A name that opens every definition of this crate and those below, for closed examples.
-- Assumes nothing.

unfoldable pub computed : Unit {0}
unfolding Rattle.early.proofs.Computed.computed Rattle.sheet.proofs.Computed.computed Rattle.transcript.specs.Label.is_digit Rattle.transcript.specs.Label.are_digits Rattle.transcript.specs.Label.value_from Rattle.transcript.specs.Label.is_number Rattle.transcript.specs.Label.value_of Rattle.transcript.specs.Label.kind_of Rattle.transcript.specs.Label.label_of Rattle.transcript.specs.Label.thread_of Rattle.transcript.specs.Label.word_of Rattle.transcript.specs.Transcript.label_word Rattle.transcript.specs.Transcript.letter_of Rattle.transcript.specs.Transcript.done_word Rattle.transcript.specs.Transcript.printed_answer Rattle.transcript.specs.Transcript.call_line Rattle.transcript.specs.Transcript.call_line_at Rattle.transcript.specs.Transcript.call_lines Rattle.transcript.specs.Transcript.l_line Rattle.transcript.specs.Transcript.l_lines Rattle.transcript.specs.Transcript.closing_of Rattle.transcript.specs.Transcript.is_unfit_list Rattle.transcript.specs.Transcript.transcript_of
computed = tt
