-- A name that opens every definition of this crate and those below, for closed examples.
-- Assumes nothing.

unfoldable pub computed : Unit {0}
unfolding Rattle.early.proofs.Computed.computed Rattle.early_limits.specs.Limit.limit_of Rattle.early_limits.specs.Limit.limit_of_cycle Rattle.early_limits.specs.Limit.limit_of_word Rattle.early_limits.specs.Limit.lesser Rattle.early_limits.specs.Limit.lesser_below Rattle.early_limits.specs.Limit.sum_of Rattle.early_limits.specs.Limit.raised_limit Rattle.early_limits.specs.Limit.is_sooner_limit Rattle.early_limits.specs.Limit.at_most Rattle.early_limits.specs.Ahead.nearest Rattle.early_limits.specs.Ahead.reach_of Rattle.early_limits.specs.Ahead.reach_in Rattle.early_limits.specs.Ahead.forecast_at Rattle.early_limits.specs.Ahead.relaxed_by Rattle.early_limits.specs.Ahead.relaxed_at Rattle.early_limits.specs.Ahead.relaxed_limits Rattle.early_limits.specs.Ahead.after_rounds Rattle.early_limits.specs.Ahead.earliest_limits Rattle.early_limits.specs.Ahead.threatens_limit Rattle.early_limits.specs.Ahead.hazard_at Rattle.early_limits.specs.Ahead.event_awaited Rattle.early_limits.specs.Ahead.segments_of Rattle.early_limits.specs.Ahead.events_of Rattle.early_limits.specs.Ahead.since_awaited Rattle.early_limits.specs.Ahead.since_of Rattle.early_limits.specs.Ahead.crew_of Rattle.early_limits.specs.Ahead.source_limits
computed = tt
