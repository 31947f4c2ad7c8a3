-- Every comparison and limit of `specs/Words` and `specs/Turn` at, below and above its edge: closed examples.
use Prim.Native.Nat.{ℕ, ◌+◌, ◌*◌}
use mathlib.Core.Path.{◌≡◌, refl}
use mathlib.Core.Bool.{Bool, true, false}
use mathlib.Core.List.{List, [], ◌∷◌}
use Rattle.clock.specs.Cycle.{cycle_at}
use Rattle.model.specs.declared.Op.TheVariants.{Set}
use Rattle.model.specs.declared.Closer.TheVariants.{End}
use Rattle.model.specs.declared.State.TheVariants.{Ended, Overrun, Ready, Waiting}
use Rattle.plain_words.specs.Ports.{marked_if}
use Rattle.plain_words.specs.Pack.{pack_op, pack_end}
use Rattle.plain_state.specs.Words.{waiting, ended, overrun, span, word_of, state_from, next_word, close_word, wake_word, least_word}
use Rattle.plain_state.specs.Turn.{Locals, locals, turn_on, turns_to}
use Rattle.plain_state.proofs.Computed.{computed}

-- the least and the last word of each kind of state
pub state_from-edge :
    (state_from 0 ≡ Ready (cycle_at 0 0)) ×
    (state_from (word_of (Ready (cycle_at 2000000000 1023))) ≡ Ready (cycle_at 2000000000 1023)) ×
    (state_from waiting ≡ Waiting 0 (cycle_at 0 0)) ×
    (state_from (word_of (Waiting 31 (cycle_at 2000000000 1023))) ≡ Waiting 31 (cycle_at 2000000000 1023)) ×
    (state_from ended ≡ Ended (cycle_at 0 0)) ×
    (state_from (word_of (Ended (cycle_at 2000000000 1023))) ≡ Ended (cycle_at 2000000000 1023)) ×
    (state_from overrun ≡ Overrun (cycle_at 0 0)) ×
    (state_from (word_of (Overrun (cycle_at 2000000000 1023))) ≡ Overrun (cycle_at 2000000000 1023))
unfolding computed
state_from-edge = (refl, refl, refl, refl, refl, refl, refl, refl)

-- "A thread whose next delta would be 1,024 is overrun"
pub next_word-edge : (next_word 1022 ≡ 1023) × (next_word 1023 ≡ overrun + 1023) × (next_word 1024 ≡ 1025)
unfolding computed
next_word-edge = (refl, refl, refl)

-- an end, waits for events 0 and 31, waits for 0 and 1 units
pub close_word-edge :
    (close_word 0 7 ≡ ended + 7) ×
    (close_word 2 7 ≡ waiting + 7) ×
    (close_word (2 + 1024 * 31) 7 ≡ waiting + span * 31 + 7) ×
    (close_word 1 7 ≡ 8) ×
    (close_word (1 + 1024 * 1) 7 ≡ 1024)
unfolding computed
close_word-edge = (refl, refl, refl, refl, refl)

-- the same with the mark of a segment that names a port
pub marked-edge :
    (close_word (marked_if true 0) 7 ≡ ended + 7) ×
    (close_word (marked_if true (2 + 1024 * 31)) 7 ≡ waiting + span * 31 + 7) ×
    (close_word (marked_if true 1) 7 ≡ 8) ×
    (close_word (marked_if true (1 + 1024 * 4294967295)) 7 ≡ 1024 * 4294967295)
unfolding computed
marked-edge = (refl, refl, refl, refl)

-- each thread runs the words that are given for it: threads 0 and 1, in segment 0, set variables 0 and 1 to 5 and end
abbrev setting : ℕ → List ℕ
setting k = pack_end 1 End ∷ 0 ∷ pack_op (Set k 5) ∷ []

abbrev ready : ℕ → Locals
ready n = locals (0 ∷ 0 ∷ []) (7 ∷ 7 ∷ []) (0 ∷ 0 ∷ []) [] [] n

-- not due, due, the budget out; one thread, and both
pub turn_on-edge :
    (turn_on setting 6 9 1 (ready 0) ≡ ready 0) ×
    ((turn_on setting 7 9 1 (ready 8)).shared.variables ≡ 0 ∷ 5 ∷ []) ×
    (turn_on setting 7 9 1 (ready 9) ≡ ready 9) ×
    ((turns_to setting 7 9 1 (ready 0)).shared.variables ≡ 5 ∷ 0 ∷ []) ×
    ((turns_to setting 7 9 2 (ready 0)).shared.variables ≡ 5 ∷ 5 ∷ [])
unfolding computed
turn_on-edge = (refl, refl, refl, refl, refl)

abbrev told : List Bool
told = false ∷ true ∷ []

-- "its wait begun in that cycle or before"; another event; a thread that does not wait
pub wake_word-edge :
    (wake_word told 9 (waiting + span * 1 + 8) ≡ 10) ×
    (wake_word told 9 (waiting + span * 1 + 9) ≡ 10) ×
    (wake_word told 9 (waiting + span * 1 + 10) ≡ waiting + span * 1 + 10) ×
    (wake_word told 9 (waiting + span * 0 + 8) ≡ waiting + span * 0 + 8) ×
    (wake_word told 9 8 ≡ 8) ×
    (wake_word told 9 (ended + 8) ≡ ended + 8) ×
    (wake_word told 9 (overrun + 8) ≡ overrun + 8)
unfolding computed
wake_word-edge = (refl, refl, refl, refl, refl, refl, refl)

-- no word, and no word past the last
pub least_word-edge : (least_word 0 (3 ∷ []) ≡ 18446744073709551615) × (least_word 2 (5 ∷ 4 ∷ 3 ∷ []) ≡ 4) × (least_word 3 (3 ∷ 4 ∷ 3 ∷ []) ≡ 3)
unfolding computed
least_word-edge = (refl, refl, refl)
