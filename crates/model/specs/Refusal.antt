-- Document 01, "Numbers of refusal": each number by its name.
pub use Rattle.refusal.specs.Number.{accepted, short_file, wrong_kind, wrong_length, wrong_count, wrong_closer, wrong_statement, wrong_name, wrong_target, extra_bytes, wrong_thread, unfit, not_ready, past_horizon, hazard_stands, log_full, short_table, wrong_port, lacked_port, out_of_turn}
