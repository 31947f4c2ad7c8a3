-- Document 01, "Tables": distance. "the least advance over all paths in the segment graph, 0 to itself".
-- First what it is, by paths; then the form that computes it, which is proved to be that.
use Rattle.std.specs.Prelude.{ℕ, zero, suc, ◌<◌, ◌≡◌, cond, List, [], ltb, eqb, get_or}
use Rattle.base.specs.Index.{tabulate}
use Rattle.clock.specs.declared.Wait.TheVariants as wait
use Rattle.clock.specs.declared.Bound.{Bound}
use Rattle.clock.specs.declared.Bound.TheVariants.{Never, At}
use Rattle.clock.specs.Advance.{least, ◌⊕◌, no_advance, advance_of}
use Rattle.clock.specs.Order.{◌≼◌}
use Rattle.model.specs.declared.Closer.{Closer}
use Rattle.model.specs.declared.Closer.TheVariants.{End, Time, Event}
use Rattle.model.specs.declared.Model.{Model}
use Rattle.model.specs.Limits.{cut_time}
use Rattle.model.specs.Values.{segment_at}
use Rattle.model.specs.Reach.{goes_to}

-- the advance of the step from a segment with this closer to s; never, where there is no such step
unfoldable pub step_of : Closer → ℕ → Bound
step_of End s = Never
step_of (Time k x) s = cond (goes_to x s) (advance_of (wait.Time k)) Never
step_of (Event e x) s = cond (goes_to x s) (advance_of wait.Event) Never

unfoldable pub edge : Model → ℕ → ℕ → Bound
edge m r s = step_of (segment_at m r).closer s

-- a path from r to s over places below n, where E is the advance of a step, and its advance
pub data GraphPath (n : ℕ) (E : ℕ → ℕ → Bound) : ℕ → ℕ → Bound → Type 0 where
  here : {r : ℕ} → GraphPath n E r r no_advance
  step : {r s t : ℕ} {w : Bound} → s < n → GraphPath n E s t w → GraphPath n E r t (E r s ⊕ w)

-- b is the least advance over all paths from r to s
pub record IsLeast (n : ℕ) (E : ℕ → ℕ → Bound) (r s : ℕ) (b : Bound) : Type 0 where
  pub below : {w : Bound} → GraphPath n E r s w → b ≼ w
  pub attained : (b ≡ Never → ⊥) → GraphPath n E r s b

-- "It is 'never' with no path"; "'Never' begins above 1,000,000,000 units"
unfoldable pub cut : Bound → Bound
cut Never = Never
cut (At c) = cond (ltb c.time.0 cut_time) (At c) Never

-- b is the distance from r to s in the segment graph of m
pub record IsDistance (m : Model) (r s : ℕ) (b : Bound) : Type 0 where
  pub uncut : Bound
  pub is_least : IsLeast m.n (edge m) r s uncut
  pub is_cut : b ≡ cut uncut

-- the least over paths with only the places below k between: a table of n rows, one k after the other
unfoldable pub cell : List (List Bound) → ℕ → ℕ → Bound
cell t r s = get_or (get_or t r []) s Never

unfoldable pub square : ℕ → (ℕ → ℕ → Bound) → List (List Bound)
square n f = tabulate n 0 (λ r. tabulate n 0 (λ s. f r s))

unfoldable pub direct : (ℕ → ℕ → Bound) → ℕ → ℕ → Bound
direct E r s = cond (eqb r s) no_advance (E r s)

unfoldable pub through_place : List (List Bound) → ℕ → ℕ → ℕ → Bound
through_place t k r s = least (cell t r s) (cell t r k ⊕ cell t k s)

unfoldable pub rounds : ℕ → (ℕ → ℕ → Bound) → ℕ → List (List Bound)
rounds n E zero = square n (direct E)
rounds n E (suc k) = let t = rounds n E k in square n (through_place t k)

unfoldable pub distance_table : Model → List (List Bound)
distance_table m = rounds m.n (edge m) m.n

-- the distance from r to s, for r and s below N
unfoldable pub distance_of : Model → ℕ → ℕ → Bound
distance_of m r s = cut (cell (distance_table m) r s)
