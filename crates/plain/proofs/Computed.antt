-- A name that opens every definition of this crate and those below, for closed examples.
-- Assumes nothing.

unfoldable pub computed : Unit {0}
unfolding Rattle.model.proofs.Computed.computed Rattle.plain.specs.Start.started Rattle.plain.specs.Start.fresh_threads Rattle.plain.specs.Start.start_of Rattle.plain.specs.Wake.is_woken Rattle.plain.specs.Wake.woken_state Rattle.plain.specs.Wake.woken_thread Rattle.plain.specs.Wake.woken Rattle.plain.specs.Wake.floor_below Rattle.plain.specs.Wake.some_ready Rattle.plain.specs.Step.is_at Rattle.plain.specs.Step.is_due Rattle.plain.specs.Step.ran_on Rattle.plain.specs.Step.passed_on Rattle.plain.specs.Step.begun Rattle.plain.specs.Step.closed_on Rattle.plain.specs.Step.stepped Rattle.plain.specs.Step.place_at Rattle.plain.specs.Run.is_done Rattle.plain.specs.Run.is_out Rattle.plain.specs.Run.run_for Rattle.plain.specs.Run.reported Rattle.plain.specs.Run.plain_run Rattle.plain.specs.History.heard_item Rattle.plain.specs.History.items_at Rattle.plain.specs.History.history_at
computed = tt
