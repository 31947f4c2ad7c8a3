-- `export_state::grant_into` meets its contract: three words, if there is room.
use mathlib.Core.Path.{◌∙◌}
use mathlib.Core.List.{[], ◌∷◌}
use Rattle.buffers.proofs.WriteLaws.{placed_in-stored, placed_in-short}
use Rattle.export_state.proofs.grant_into.Goals as goal

pub returns-then-answer-lt3 : goal.returns-then-answer-lt3
returns-then-answer-lt3 c = let x = c.args in placed_in-short (x.s ∷ x.c.time.0 ∷ x.c.delta.0 ∷ []) x.answer.now c.if-answer-lt3.true

pub returns : goal.returns
returns c =
    let x = c.args in
    (rw c.cycle_words.ensures at c.put.ensures) ∙ placed_in-stored (x.s ∷ x.c.time.0 ∷ x.c.delta.0 ∷ []) x.answer.now c.if-answer-lt3.false
