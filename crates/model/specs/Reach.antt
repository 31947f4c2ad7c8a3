-- Document 02, "Modules with ports": the segments that "a thread can reach", by next segments, whatever tests, limits and distances are.
-- First what it is, by paths; then the form that computes it, which is proved to be that.
use Rattle.std.specs.Prelude.{ℕ, zero, suc, ◌<◌, Bool, false, ◌&&◌, ◌||◌, T, eqb}
use Rattle.base.specs.Index.{any_below}
use Rattle.model.specs.declared.Next.{Next}
use Rattle.model.specs.declared.Closer.{Closer}
use Rattle.model.specs.declared.Closer.TheVariants.{End, Time, Event}
use Rattle.model.specs.declared.Model.{Model}
use Rattle.model.specs.Port.{unused, port_of}
use Rattle.model.specs.Values.{segment_at, ports_at}
use Rattle.model.specs.Footprint.{names_port}

-- both next segments are steps of the graph, whatever the limit
unfoldable pub goes_to : Next → ℕ → Bool
goes_to x s = eqb x.a s || eqb x.b s

unfoldable pub steps_to : Closer → ℕ → Bool
steps_to End s = false
steps_to (Time k x) s = goes_to x s
steps_to (Event e x) s = goes_to x s

-- a path from r to s
pub data Reaches (m : Model) : ℕ → ℕ → Type 0 where
  here : {r : ℕ} → Reaches m r r
  step : {r s t : ℕ} → s < m.n → T (steps_to (segment_at m r).closer s) → Reaches m s t → Reaches m r t

-- a path with only the segments below k between
unfoldable pub reaches_below : Model → ℕ → ℕ → ℕ → Bool
reaches_below m zero r s = eqb r s || steps_to (segment_at m r).closer s
reaches_below m (suc k) r s = reaches_below m k r s || (reaches_below m k r k && reaches_below m k k s)

unfoldable pub reaches : Model → ℕ → ℕ → Bool
reaches m r s = reaches_below m m.n r s

-- "a segment naming a port it leaves unused": segment s, thread k
unfoldable pub lacks_port : Model → ℕ → ℕ → Bool
lacks_port m k s = any_below 8 (λ p. names_port m s p && eqb (port_of (ports_at m k) p) unused)

-- "from whose segment its thread could reach such a port": thread k, from segment r on
unfoldable pub lacks_from : Model → ℕ → ℕ → Bool
lacks_from m k r = any_below m.n (λ s. lacks_port m k s && reaches m r s)
