-- Document 01, "Plain run": "A thread's history is, in order, its segments with their cycles and each event heard
-- with the notifying cycle".
use Rattle.std.specs.Prelude.{ℕ, zero, suc, cond, ◌&&◌, List, [], ◌∷◌, ◌++◌, ltb, eqb}
use Rattle.clock.specs.declared.Cycle.{Cycle}
use Rattle.model.specs.declared.Model.{Model}
use Rattle.model.specs.Record.{thread_at, Awaited, nothing, awaits, awaited_by}
use Rattle.plain.specs.Start.{Place}
use Rattle.plain.specs.Wake.{is_woken}
use Rattle.plain.specs.Step.{is_due, place_at}

pub data Item : Type 0 where
  ran : ℕ → Cycle → Item
  heard : ℕ → Cycle → Item

-- an event that is heard
unfoldable pub heard_item : Cycle → Awaited → List Item
heard_item c nothing = []
heard_item c (awaits e since) = heard e c ∷ []

-- what the step from p adds to the history of thread k: its run, or what it hears at the cycle's end
unfoldable pub items_at : Model → Place → ℕ → List Item
items_at m p k =
    let t = thread_at p.threads k in
    cond (ltb p.turn m.t)
    (cond (eqb p.turn k && is_due p) (ran t.segment p.now ∷ []) [])
    (cond (is_woken p.notified p.now (awaited_by t.state)) (heard_item p.now (awaited_by t.state)) [])

-- the history of thread k up to step i
unfoldable pub history_at : Model → ℕ → ℕ → List Item
history_at m k zero = []
history_at m k (suc i) = history_at m k i ++ items_at m (place_at m i) k
