-- The number of places of each declared array, as owning its record tells it.
use mathlib.Core.Path.{◌≡◌}
use mathlib.Core.List.{List}
use mir.Val.{Val}
use denote.Laws.{Is}
use denote.Struct.Laws as LL
use lib.ListN.{length}
use Rattle.early_limits.specs.declared.Limits.{Limits}
use Rattle.early_limits.specs.declared.Crew.{Crew}
use Rattle.early_limits.specs.contracts.Limits as limits
use Rattle.early_limits.proofs.Limits.TheLaws as limits'
use Rattle.early_limits.specs.contracts.Crew as crew
use Rattle.early_limits.proofs.Crew.TheLaws as crew'

pub limits-length : (xs : Limits) (vs : List Val) → Is limits.the_row xs vs → length xs.at ≡ 32
limits-length xs vs g = (LL.owed limits.the_type limits'.the_laws xs vs g).0.1.0.1

pub events-length : (x : Crew) (vs : List Val) → Is crew.the_row x vs → length x.events ≡ 32
events-length x vs g = (LL.owed crew.the_type crew'.the_laws x vs g).1.0.1.0.1
