-- Closed examples: the forecast below, at and above a notification; the threads below, at and past the count.
-- The other comparisons are those of `early` and of `early_limits`.
use mathlib.Core.Path.{◌≡◌, refl}
use mathlib.Core.List.{[], ◌∷◌}
use lib.ListN.{get_or}
use Rattle.clock.specs.declared.Bound.TheVariants.{Never}
use Rattle.clock.specs.Cycle.{cycle_at}
use Rattle.model.specs.Record.{nothing, awaits}
use Rattle.tables.specs.Word.{all_ones}
use Rattle.early.specs.Deliver.{heard_by}
use Rattle.early.proofs.EdgeModels.{bound_at, note, ready_in, waiting_in, ended_in}
use Rattle.early_limits.proofs.Computed.{computed}
use Rattle.early_deliver.specs.Awake.{first_limits, sooner_at}

-- one thread, whose limit is the forecast; a notification at (2, 0)
pub sooner_at-edges :
    (heard_by (sooner_at (0 ∷ []) 1 (0 ∷ []) (131071 ∷ [])) (note 0 2 0 ∷ []) (awaits 0 (cycle_at 0 0)) ≡ Never) ×
    (heard_by (sooner_at (0 ∷ []) 1 (0 ∷ []) (131072 ∷ [])) (note 0 2 0 ∷ []) (awaits 0 (cycle_at 0 0)) ≡ bound_at 2 0) ×
    (heard_by (sooner_at (0 ∷ []) 1 (0 ∷ []) (131073 ∷ [])) (note 0 2 0 ∷ []) (awaits 0 (cycle_at 0 0)) ≡ bound_at 2 0) ×
    (heard_by (sooner_at (0 ∷ []) 1 (0 ∷ []) (131073 ∷ [])) (note 0 2 0 ∷ []) nothing ≡ Never)
unfolding computed sooner_at
sooner_at-edges = (refl, refl, refl, refl)

-- ready at (1, 0); waiting, with a notification at (2, 0); ready, but past the count
pub first_limits-edges :
    (get_or (first_limits 2 (note 0 2 0 ∷ []) (ready_in 0 1 0 ∷ waiting_in 0 0 0 0 ∷ ready_in 0 0 0 ∷ [])) 0 7 ≡ 65536) ×
    (get_or (first_limits 2 (note 0 2 0 ∷ []) (ready_in 0 1 0 ∷ waiting_in 0 0 0 0 ∷ ready_in 0 0 0 ∷ [])) 1 7 ≡ 131073) ×
    (get_or (first_limits 2 (note 0 2 0 ∷ []) (ready_in 0 1 0 ∷ waiting_in 0 0 0 0 ∷ ready_in 0 0 0 ∷ [])) 2 7 ≡ all_ones) ×
    (get_or (first_limits 1 [] (ended_in 0 1 0 ∷ [])) 0 7 ≡ all_ones) ×
    (get_or (first_limits 1 [] (waiting_in 0 0 0 0 ∷ [])) 0 7 ≡ all_ones)
unfolding computed first_limits
first_limits-edges = (refl, refl, refl, refl, refl)
