-- A name that opens every definition of this crate and those below, for closed examples.
-- Assumes nothing.

unfoldable pub computed : Unit {0}
unfolding Rattle.tables.proofs.Computed.computed Rattle.plain.proofs.Computed.computed Rattle.early.specs.Log.log_of Rattle.early.specs.Log.site_of Rattle.early.specs.Log.is_same_pair Rattle.early.specs.Log.holds Rattle.early.specs.Log.with_pair Rattle.early.specs.Log.with_pairs Rattle.early.specs.Log.with_running Rattle.early.specs.Log.counted_places Rattle.early.specs.Log.is_heard Rattle.early.specs.Log.least_heard Rattle.early.specs.Log.is_dropped Rattle.early.specs.Log.drop_before Rattle.early.specs.Earliest.after_heard Rattle.early.specs.Earliest.source_of Rattle.early.specs.Earliest.soonest_notify Rattle.early.specs.Earliest.raised Rattle.early.specs.Earliest.after_notify Rattle.early.specs.Earliest.link_to Rattle.early.specs.Earliest.sources Rattle.early.specs.Earliest.relaxed Rattle.early.specs.Earliest.with_links Rattle.early.specs.Earliest.earliest_of Rattle.early.specs.Forecast.forecast_of Rattle.early.specs.Hazard.ports_conflict Rattle.early.specs.Hazard.threads_conflict Rattle.early.specs.Hazard.is_sooner Rattle.early.specs.Hazard.threatens Rattle.early.specs.Hazard.hazard Rattle.early.specs.Deliver.forecast_sooner Rattle.early.specs.Deliver.heard_by Rattle.early.specs.Deliver.after_hearing Rattle.early.specs.Deliver.heard_items Rattle.early.specs.Deliver.looked_by Rattle.early.specs.Deliver.look_items_by Rattle.early.specs.Deliver.swept_by Rattle.early.specs.Deliver.swept_items_by Rattle.early.specs.Deliver.sweeps_by Rattle.early.specs.Deliver.sweep_items_by Rattle.early.specs.Fit.is_fit_cycle Rattle.early.specs.Fit.is_fit_wait Rattle.early.specs.Fit.is_fit_run Rattle.early.specs.Fit.is_fit_thread Rattle.early.specs.Fit.is_fit_pair Rattle.early.specs.Fit.is_fit_word Rattle.early.specs.Fit.is_unfit_threads Rattle.early.specs.Fit.is_unfit_log Rattle.early.specs.Fit.is_unfit_places Rattle.early.specs.Fit.is_unfit_words Rattle.early.specs.Fit.is_unfit_state Rattle.early.specs.Fit.is_unfit Rattle.early.specs.Grant.effect_at Rattle.early.specs.Grant.log_after Rattle.early.specs.Grant.closed_threads Rattle.early.specs.Grant.threads_after Rattle.early.specs.Grant.site_after Rattle.early.specs.Grant.items_after Rattle.early.specs.Request.is_full Rattle.early.specs.Request.granted_to Rattle.early.specs.Request.number_ready Rattle.early.specs.Request.number_at Rattle.early.specs.Request.number_for Rattle.early.specs.Request.number_in Rattle.early.specs.Request.answered_by Rattle.early.specs.Request.request_fit Rattle.early.specs.Request.request_of Rattle.early.specs.Request.fresh_site Rattle.early.specs.Request.listed_by Rattle.early.specs.ByRows.request_by_rows Rattle.early.specs.Call.is_unfit_held Rattle.early.specs.Call.running_from Rattle.early.specs.Call.stored_over Rattle.early.specs.Call.effect_held Rattle.early.specs.Call.finished_from Rattle.early.specs.Call.finish_number Rattle.early.specs.Call.call_fit Rattle.early.specs.Call.call_of Rattle.early.specs.Call.call_by_rows Rattle.early.specs.Call.served_by Rattle.early.specs.Call.call_at
computed = tt
