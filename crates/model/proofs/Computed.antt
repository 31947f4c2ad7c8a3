-- A name that opens every definition of this crate and those below, for closed examples.
-- Assumes nothing.

unfoldable pub computed : Unit {0}
unfolding Rattle.base.proofs.Computed.computed Rattle.clock.proofs.Computed.computed Rattle.model.specs.Limits.is_up_to_horizon Rattle.model.specs.Limits.is_bound_up_to_horizon Rattle.model.specs.Port.is_port Rattle.model.specs.Port.uses_ports Rattle.model.specs.Port.mapped Rattle.model.specs.Port.map_statements Rattle.model.specs.Port.map_segment Rattle.model.specs.Values.ports_at Rattle.model.specs.Values.with_ports Rattle.model.specs.Footprint.names_port Rattle.model.specs.Footprint.uses_by_port Rattle.model.specs.Reach.goes_to Rattle.model.specs.Reach.steps_to Rattle.model.specs.Reach.reaches_below Rattle.model.specs.Reach.reaches Rattle.model.specs.Reach.lacks_port Rattle.model.specs.Reach.lacks_from Rattle.model.specs.Rules.is_name Rattle.model.specs.Rules.ports_fault Rattle.model.specs.Rules.starts_fault Rattle.model.specs.Rules.lack_fault Rattle.model.specs.Rules.links_fault Rattle.model.specs.Values.segment_at Rattle.model.specs.Values.segment_for Rattle.model.specs.Values.start_at Rattle.model.specs.Values.body_of Rattle.model.specs.Values.with_head Rattle.model.specs.Values.with_segment Rattle.model.specs.Values.with_start Rattle.model.specs.Statement.execute Rattle.model.specs.Statement.notified_by Rattle.model.specs.Record.thread_at Rattle.model.specs.Effect.next_of Rattle.model.specs.Effect.closed_at Rattle.model.specs.Effect.effect_in Rattle.model.specs.Effect.effect_of Rattle.model.specs.Effect.held_thread Rattle.model.specs.Effect.held_events Rattle.model.specs.Effect.held_effect Rattle.model.specs.Footprint.writes Rattle.model.specs.Footprint.reads Rattle.model.specs.Footprint.tests_next Rattle.model.specs.Footprint.tests Rattle.model.specs.Footprint.writes_of Rattle.model.specs.Footprint.uses_of Rattle.model.specs.Footprint.writes_in Rattle.model.specs.Footprint.uses_in Rattle.model.specs.Footprint.listed_in Rattle.model.specs.Footprint.has Rattle.model.specs.Footprint.notifies_in Rattle.model.specs.Rules.head_fault Rattle.model.specs.Rules.choice_fault Rattle.model.specs.Rules.test_fault Rattle.model.specs.Rules.closer_fault Rattle.model.specs.Rules.op_fault Rattle.model.specs.Rules.statements_fault Rattle.model.specs.Rules.segment_fault Rattle.model.specs.Rules.segments_fault Rattle.model.specs.Rules.counts_fault Rattle.model.specs.Rules.leaves_model Rattle.model.specs.Rules.any_segment_leaves Rattle.model.specs.Rules.any_start_leaves Rattle.model.specs.Rules.targets_fault Rattle.model.specs.Rules.model_fault
computed = tt
