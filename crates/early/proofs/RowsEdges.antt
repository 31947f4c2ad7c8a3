-- A request by rows at, below and above 64 words, and where 16 stands among the numbers: closed examples, worked out from document 02, slip 6.
use mathlib.Core.Path.{◌≡◌, refl}
use mathlib.Core.List.{List, [], ◌∷◌}
use Rattle.clock.specs.Cycle.{cycle_at}
use Rattle.model.specs.declared.Thread.{Thread}
use Rattle.early.specs.declared.Answer.TheVariants.{Granted, Refused}
use Rattle.early.specs.ByRows.{request_by_rows, requests_by_rows}
use Rattle.early.proofs.Computed.{computed}
use Rattle.early.proofs.EdgeModels.{ready_in, segment_of, with_starts, doers, no_mark, site_with}

-- two threads, ready in segments 0 and 1
abbrev two : List Thread
two = ready_in 0 7 0 ∷ ready_in 1 6 0 ∷ []

-- "16 applies below 64 words"
pub words-edges :
    ((request_by_rows doers no_mark 63 (site_with []) two 1).answer ≡ Refused 16) ×
    ((request_by_rows doers no_mark 64 (site_with []) two 1).answer ≡ Granted 1 (cycle_at 6 0)) ×
    ((request_by_rows doers no_mark 65 (site_with []) two 1).answer ≡ Granted 1 (cycle_at 6 0))
unfolding computed doers with_starts segment_of
words-edges = (refl, refl, refl)

-- "straight after 11": no records with 63 words are 11, a thread not below T is 16 with 63 and 10 with 64
pub order-edges :
    ((request_by_rows doers no_mark 63 (site_with []) [] 9).answer ≡ Refused 11) ×
    ((request_by_rows doers no_mark 63 (site_with []) two 9).answer ≡ Refused 16) ×
    ((request_by_rows doers no_mark 64 (site_with []) two 9).answer ≡ Refused 10)
unfolding computed doers with_starts segment_of
order-edges = (refl, refl, refl)

-- a refused request leaves what was handed in
pub kept-edges : ((request_by_rows doers no_mark 63 (site_with []) two 1).threads ≡ two) × ((request_by_rows doers no_mark 64 (site_with []) two 9).threads ≡ two)
unfolding computed doers with_starts segment_of
kept-edges = (refl, refl)

-- a list: the second request gets what the first left
pub list-edges :
    ((requests_by_rows doers no_mark 64 (site_with []) two (1 ∷ 1 ∷ [])).answers ≡ Granted 1 (cycle_at 6 0) ∷ Refused 12 ∷ []) ×
    ((requests_by_rows doers no_mark 63 (site_with []) two (1 ∷ 9 ∷ [])).answers ≡ Refused 16 ∷ Refused 16 ∷ [])
unfolding computed doers with_starts segment_of
list-edges = (refl, refl)
