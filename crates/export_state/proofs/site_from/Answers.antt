-- `export_state::site_from` meets its contract: variables, places, count.
use mathlib.Core.Path.{refl}
use Rattle.export_state.specs.Numbers.{site_from}
use Rattle.export_state.proofs.site_from.Goals as goal

pub returns : goal.returns
unfolding site_from
returns c = rw (c.variables_from.ensures, c.places_from.ensures, c.byte_at.ensures) refl
