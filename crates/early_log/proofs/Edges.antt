-- The places that are counted and those that are held, at, below and above 128: closed examples, worked out from document 01.
use mathlib.Core.Path.{◌≡◌, refl}
use mathlib.Core.List.{[], ◌∷◌}
use lib.ListN.{length}
use Rattle.base.specs.Index.{tabulate}
use Rattle.clock.specs.Cycle.{cycle_at}
use Rattle.early.specs.Log.{places_with}
use Rattle.early.proofs.Computed.{computed}
use Rattle.early.proofs.EdgeModels.{note, site_with, many_pairs}
use Rattle.early_log.specs.Noted.{noted_of}
use Rattle.early_log.specs.Spread.{log_in}

-- a new pair at the end, an equal one once; nothing past the count
pub noted_of-order :
    noted_of (site_with (note 0 9 0 ∷ [])) (cycle_at 5 0) (1 ∷ 0 ∷ 1 ∷ []) ≡
    site_with (note 0 9 0 ∷ note 1 5 0 ∷ note 0 5 0 ∷ [])
unfolding computed noted_of
noted_of-order = refl

-- 126 pairs and one more, two more, three more: 127, 128, 129; a pair that they hold needs no place
pub places_with-edges :
    (places_with (many_pairs 126) (cycle_at 5 7) (0 ∷ []) ≡ 127) ×
    (places_with (many_pairs 126) (cycle_at 5 7) (0 ∷ 1 ∷ []) ≡ 128) ×
    (places_with (many_pairs 126) (cycle_at 5 7) (0 ∷ 1 ∷ 2 ∷ []) ≡ 129) ×
    (places_with (many_pairs 126) (cycle_at 5 7) (0 ∷ 1 ∷ 0 ∷ []) ≡ 128)
unfolding computed many_pairs
places_with-edges = (refl, refl, refl, refl)

-- the places stay 128, and so does the count
pub noted_of-full :
    ((noted_of (site_with (many_pairs 126)) (cycle_at 5 7) (0 ∷ [])).count ≡ 127) ×
    ((noted_of (site_with (many_pairs 126)) (cycle_at 5 7) (0 ∷ 1 ∷ 2 ∷ [])).count ≡ 128)
unfolding computed noted_of many_pairs
noted_of-full = (refl, refl)

-- the first places of the rows, as many as are said: event, time, delta; no more than 128
pub log_in-edges :
    (log_in (1 ∷ 0 ∷ 7 ∷ []) (5 ∷ 9 ∷ 7 ∷ []) (3 ∷ 0 ∷ 7 ∷ []) 2 ≡ note 1 5 3 ∷ note 0 9 0 ∷ []) ×
    (log_in (1 ∷ []) (5 ∷ []) (3 ∷ []) 0 ≡ []) ×
    (length (log_in [] [] [] 127) ≡ 127) ×
    (length (log_in [] [] [] 128) ≡ 128) ×
    (length (log_in [] [] [] 129) ≡ 128)
unfolding computed log_in tabulate
log_in-edges = (refl, refl, refl, refl, refl)
