-- `export_step::replay_by_rows_into` meets its contract.
use mathlib.Core.Path.{ap, ◌∙◌}
use lib.ListN.{length}
use Rattle.reader.specs.Read.{Read}
use Rattle.reader.specs.File.{read_file}
use Rattle.early_laws.proofs.ByRowsLaws.{free-same}
use Rattle.refusal.proofs.NumberLaws.{number_of-not_0}
use Rattle.replay.specs.Replay.{replayed_by_rows, held_by_rows, answers_by_rows}
use Rattle.export_step.specs.Step.{keeps}
use Rattle.export_step.proofs.StepLaws.{replay-unopened, buffer-left, buffer-made, replay-refused, replay-done}
use Rattle.export_step.proofs.replay_by_rows_into.Goals as goal

pub returns-then-done-eq0 : goal.returns-then-done-eq0
returns-then-done-eq0 c =
    let x = c.args in
    let o = c.in-Ok.ensures in
    let d = c.replay_by_rows-done in
    let same = d.ensures.outcome ∙ ap (λ (y : Read). replayed_by_rows y.model (length x.row.now) x.held.now x.calls.now x.answers.now) o.read in
    let z = c.if-done-eq0.true in
    record {
      free = d.ensures.free;
      listed = replay-done x.file.now x.held.now x.calls.now (replayed_by_rows (read_file x.file.now).model (length x.row.now) x.held.now x.calls.now x.answers.now) (keeps x.variables.now x.log.now x.records.now) o.number d.result same _ o.read z _ (d.ensures.keeps z) _ c.put_state.ensures;
      holds = buffer-made x.file.now x.held.now x.calls.now (replayed_by_rows (read_file x.file.now).model (length x.row.now) x.held.now x.calls.now x.answers.now) (keeps x.variables.now x.log.now x.records.now) o.number _ (held_by_rows (read_file x.file.now).model (length x.row.now) x.held.now x.calls.now x.answers.now) _ (d.ensures.holds ∙ ap (λ (y : Read). held_by_rows y.model (length x.row.now) x.held.now x.calls.now x.answers.now) o.read);
      written = buffer-made x.file.now x.held.now x.calls.now (replayed_by_rows (read_file x.file.now).model (length x.row.now) x.held.now x.calls.now x.answers.now) (keeps x.variables.now x.log.now x.records.now) o.number _ (answers_by_rows (read_file x.file.now).model (length x.row.now) x.held.now x.calls.now x.answers.now) _ (d.ensures.written ∙ ap (λ (y : Read). answers_by_rows y.model (length x.row.now) x.held.now x.calls.now x.answers.now) o.read);
    }

pub returns-else-done-eq0 : goal.returns-else-done-eq0
returns-else-done-eq0 c =
    let x = c.args in
    let o = c.in-Ok.ensures in
    let d = c.replay_by_rows-done in
    let same = d.ensures.outcome ∙ ap (λ (y : Read). replayed_by_rows y.model (length x.row.now) x.held.now x.calls.now x.answers.now) o.read in
    record {
      free = d.ensures.free;
      listed = replay-refused x.file.now x.held.now x.calls.now (replayed_by_rows (read_file x.file.now).model (length x.row.now) x.held.now x.calls.now x.answers.now) (keeps x.variables.now x.log.now x.records.now) o.number d.result same c.if-done-eq0.false _;
      holds = buffer-made x.file.now x.held.now x.calls.now (replayed_by_rows (read_file x.file.now).model (length x.row.now) x.held.now x.calls.now x.answers.now) (keeps x.variables.now x.log.now x.records.now) o.number _ (held_by_rows (read_file x.file.now).model (length x.row.now) x.held.now x.calls.now x.answers.now) _ (d.ensures.holds ∙ ap (λ (y : Read). held_by_rows y.model (length x.row.now) x.held.now x.calls.now x.answers.now) o.read);
      written = buffer-made x.file.now x.held.now x.calls.now (replayed_by_rows (read_file x.file.now).model (length x.row.now) x.held.now x.calls.now x.answers.now) (keeps x.variables.now x.log.now x.records.now) o.number _ (answers_by_rows (read_file x.file.now).model (length x.row.now) x.held.now x.calls.now x.answers.now) _ (d.ensures.written ∙ ap (λ (y : Read). answers_by_rows y.model (length x.row.now) x.held.now x.calls.now x.answers.now) o.read);
    }

pub returns-in-Err : goal.returns-in-Err
returns-in-Err c =
    let x = c.args in
    let o = c.in-Err.ensures in
    let h = number_of-not_0 c.in-Err.r in
    record {
      free = free-same x.row.now;
      listed = replay-unopened x.file.now x.held.now x.calls.now (replayed_by_rows (read_file x.file.now).model (length x.row.now) x.held.now x.calls.now x.answers.now) (keeps x.variables.now x.log.now x.records.now) _ o.number h _ c.from.ensures;
      holds = buffer-left x.file.now x.held.now x.calls.now (replayed_by_rows (read_file x.file.now).model (length x.row.now) x.held.now x.calls.now x.answers.now) (keeps x.variables.now x.log.now x.records.now) _ o.number h _ _;
      written = buffer-left x.file.now x.held.now x.calls.now (replayed_by_rows (read_file x.file.now).model (length x.row.now) x.held.now x.calls.now x.answers.now) (keeps x.variables.now x.log.now x.records.now) _ o.number h _ _;
    }
