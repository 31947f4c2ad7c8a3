-- The cases marked P hold, by computation.
-- Assumes nothing.
use mathlib.Core.Path.{◌≡◌, refl}
use lib.Dec.{T}
use Rattle.reader.proofs.Computed as reader
use Rattle.early.proofs.Computed as early
use Rattle.order.specs.Claim.{after_list}
use Rattle.cases.specs.Models.{file1, file_m, segment_of, with_segments, with_starts, model_of, setters, notifiers, waits, subtracts, zero_wait}
use Rattle.cases.specs.Cases.{last_answer, cases, marked, numbers_from, all_hold}

pub cases-hold : T (all_hold cases)
unfolding reader.computed early.computed after_list file1 file_m segment_of with_segments with_starts model_of setters notifiers waits subtracts zero_wait last_answer cases all_hold
cases-hold = tt

-- the table has every case that is marked P
pub cases-complete : numbers_from 0 cases ≡ marked
unfolding cases numbers_from
cases-complete = refl
