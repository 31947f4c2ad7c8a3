-- How many records are moved, which they are, and 11, at, below and above their edges: closed examples, worked out from documents 01 and 02.
use Prim.Native.Nat.{ℕ}
use mathlib.Core.Path.{◌≡◌, refl}
use mathlib.Core.List.{List, [], ◌∷◌}
use lib.ListN.{get_or, replicate}
use Rattle.clock.specs.Cycle.{cycle_at}
use Rattle.model.specs.declared.Thread.{Thread}
use Rattle.model.specs.Record.{no_thread}
use Rattle.early.specs.declared.Answer.{Answer}
use Rattle.early.specs.declared.Answer.TheVariants.{Granted, Refused}
use Rattle.early.specs.declared.Call.{Call}
use Rattle.early.specs.declared.Call.TheVariants.{Both, Grant, Finish}
use Rattle.early.specs.Call.{Called}
use Rattle.early.proofs.Computed.{computed}
use Rattle.early.proofs.EdgeModels.{ready_in, ended_in, segment_of, with_starts, doers, no_mark, apart_words, site_with}
use Rattle.early_lent.specs.Moved.{taken_at, loaded, stored, no_threads, moved_of, unless_short, request_lent, rows_lent, call_lent, call_rows_lent}

-- of two threads one record lent, two, and three; of 31, 32 and 33 threads, where 32 are held by value
pub moved_of-edges : (moved_of 1 2 ≡ 1) × (moved_of 2 2 ≡ 2) × (moved_of 3 2 ≡ 2) × (moved_of 40 31 ≡ 31) × (moved_of 40 32 ≡ 32) × (moved_of 40 33 ≡ 32)
moved_of-edges = (refl, refl, refl, refl, refl, refl)

abbrev three : List Thread
three = ready_in 0 7 0 ∷ ready_in 1 6 0 ∷ ready_in 1 3 0 ∷ []

-- two of three: the last one moved, and the first one left
pub loaded-edges : (taken_at (loaded three 2 no_threads) 1 ≡ ready_in 1 6 0) × (taken_at (loaded three 2 no_threads) 2 ≡ no_thread)
loaded-edges = (refl, refl)

pub stored-edges : stored three 2 (record { at = ended_in 0 7 0 ∷ ended_in 1 6 0 ∷ ended_in 1 3 0 ∷ [] }) ≡ ended_in 0 7 0 ∷ ended_in 1 6 0 ∷ ready_in 1 3 0 ∷ []
stored-edges = refl

-- 11, "records below T", which is 2 here
pub request_lent-edges :
    ((request_lent doers no_mark apart_words (site_with []) (record { at = three }) 1 1).answer ≡ Refused 11) ×
    ((request_lent doers no_mark apart_words (site_with []) (record { at = three }) 2 1).answer ≡ Granted 1 (cycle_at 6 0)) ×
    ((request_lent doers no_mark apart_words (site_with []) (record { at = three }) 3 1).answer ≡ Granted 1 (cycle_at 6 0))
unfolding computed doers with_starts segment_of unless_short
request_lent-edges = (refl, refl, refl)

-- 11 first, then 16, "below 64 words"
pub rows_lent-edges :
    ((rows_lent doers no_mark 63 (site_with []) (record { at = three }) 1 1).answer ≡ Refused 11) ×
    ((rows_lent doers no_mark 64 (site_with []) (record { at = three }) 1 1).answer ≡ Refused 11) ×
    ((rows_lent doers no_mark 63 (site_with []) (record { at = three }) 2 1).answer ≡ Refused 16) ×
    ((rows_lent doers no_mark 64 (site_with []) (record { at = three }) 2 1).answer ≡ Granted 1 (cycle_at 6 0)) ×
    ((rows_lent doers no_mark 65 (site_with []) (record { at = three }) 3 1).answer ≡ Granted 1 (cycle_at 6 0))
unfolding computed doers with_starts segment_of unless_short
rows_lent-edges = (refl, refl, refl, refl, refl)

-- with so many values held, all 9
abbrev call_with : ℕ → ℕ → Call → Called
call_with lent held call = call_lent doers no_mark apart_words (site_with []) (record { at = three }) lent (replicate held 9) call

-- 11, "records below T", or fewer values than 64 for each of the two threads
pub call_lent-edges :
    ((call_with 1 128 (Grant 1)).left.answer ≡ Refused 11) ×
    ((call_with 2 127 (Grant 1)).left.answer ≡ Refused 11) ×
    ((call_with 2 128 (Grant 1)).left.answer ≡ Granted 1 (cycle_at 6 0)) ×
    ((call_with 3 129 (Both 1)).left.answer ≡ Granted 1 (cycle_at 6 0)) ×
    ((call_with 2 128 (Finish 1)).left.answer ≡ Refused 19)
unfolding computed doers with_starts segment_of unless_short
call_lent-edges = (refl, refl, refl, refl, refl)

-- what a grant fixes stands in its thread's 64 places and in no other, and where it is refused the values stay
pub held-edges :
    (get_or (call_with 2 129 (Grant 1)).held 63 0 ≡ 9) ×
    (get_or (call_with 2 129 (Grant 1)).held 64 9 ≡ 0) ×
    (get_or (call_with 2 129 (Grant 1)).held 127 9 ≡ 0) ×
    (get_or (call_with 2 129 (Grant 1)).held 128 0 ≡ 9) ×
    (get_or (call_with 1 129 (Grant 1)).held 64 0 ≡ 9)
unfolding computed doers with_starts segment_of unless_short
held-edges = (refl, refl, refl, refl, refl)

-- by rows 11 first, then 16, then 10
abbrev rows_with : ℕ → ℕ → ℕ → Call → Answer
rows_with words lent held call = (call_rows_lent doers no_mark words (site_with []) (record { at = three }) lent (replicate held 9) call).left.answer

pub call_rows_lent-edges :
    (rows_with 63 1 128 (Grant 1) ≡ Refused 11) ×
    (rows_with 63 2 127 (Grant 1) ≡ Refused 11) ×
    (rows_with 63 2 128 (Grant 2) ≡ Refused 16) ×
    (rows_with 64 2 128 (Grant 2) ≡ Refused 10) ×
    (rows_with 64 2 128 (Grant 1) ≡ Granted 1 (cycle_at 6 0))
unfolding computed doers with_starts segment_of unless_short
call_rows_lent-edges = (refl, refl, refl, refl, refl)
