-- A name that opens every definition of this crate and those below, for closed examples.
-- Assumes nothing.

unfoldable pub computed : Unit {0}
unfolding Rattle.model.proofs.Computed.computed Rattle.plain_words.specs.Pack.few Rattle.plain_words.specs.Pack.segment_names Rattle.plain_words.specs.Pack.segment_word Rattle.plain_words.specs.Pack.model_word Rattle.plain_words.specs.Ports.ports_by Rattle.plain_words.specs.Ports.map_word Rattle.plain_words.specs.Ports.map_choice Rattle.plain_words.specs.Ports.map_at Rattle.plain_words.specs.Ports.code_for Rattle.plain_words.specs.Ports.word_names Rattle.plain_words.specs.Ports.names_from Rattle.plain_words.specs.Ports.any_marked Rattle.plain_words.specs.Rows.segment_by Rattle.plain_words.specs.Rows.segments_by Rattle.plain_words.specs.Unpack.op_of Rattle.plain_words.specs.Unpack.size_by Rattle.plain_words.specs.Unpack.next_by Rattle.plain_words.specs.Unpack.follow_by Rattle.plain_words.specs.Reach.widened Rattle.plain_words.specs.Shared.marked Rattle.plain_words.specs.Shared.reached Rattle.plain_words.specs.Shared.execute_word Rattle.plain_words.specs.Shared.execute_to Rattle.plain_words.specs.Shared.execute_by
computed = tt
