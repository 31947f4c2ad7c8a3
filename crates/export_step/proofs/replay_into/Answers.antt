-- `export_step::replay_into` meets its contract.
use mathlib.Core.Path.{ap, ◌∙◌}
use Rattle.reader.specs.Read.{Read}
use Rattle.reader.specs.File.{read_file}
use Rattle.refusal.proofs.NumberLaws.{number_of-not_0}
use Rattle.replay.specs.Replay.{replayed_on, words_on, held_on, answers_on}
use Rattle.export_step.specs.Step.{keeps}
use Rattle.export_step.proofs.StepLaws.{replay-unopened, buffer-left, buffer-made, replay-refused, replay-done}
use Rattle.export_step.proofs.replay_into.Goals as goal

pub returns-then-done-eq0 : goal.returns-then-done-eq0
returns-then-done-eq0 c =
    let x = c.args in
    let o = c.in-Ok.ensures in
    let d = c.replay_on-done in
    let same = d.ensures.outcome ∙ ap (λ (y : Read). replayed_on y.model x.words.now x.held.now x.calls.now x.answers.now) o.read in
    let z = c.if-done-eq0.true in
    record {
      listed = replay-done x.file.now x.held.now x.calls.now (replayed_on (read_file x.file.now).model x.words.now x.held.now x.calls.now x.answers.now) (keeps x.variables.now x.log.now x.records.now) o.number d.result same _ o.read z _ (d.ensures.keeps z) _ c.put_state.ensures;
      tables = buffer-made x.file.now x.held.now x.calls.now (replayed_on (read_file x.file.now).model x.words.now x.held.now x.calls.now x.answers.now) (keeps x.variables.now x.log.now x.records.now) o.number _ (words_on (read_file x.file.now).model x.words.now x.held.now x.calls.now x.answers.now) _ (d.ensures.tables ∙ ap (λ (y : Read). words_on y.model x.words.now x.held.now x.calls.now x.answers.now) o.read);
      holds = buffer-made x.file.now x.held.now x.calls.now (replayed_on (read_file x.file.now).model x.words.now x.held.now x.calls.now x.answers.now) (keeps x.variables.now x.log.now x.records.now) o.number _ (held_on (read_file x.file.now).model x.words.now x.held.now x.calls.now x.answers.now) _ (d.ensures.holds ∙ ap (λ (y : Read). held_on y.model x.words.now x.held.now x.calls.now x.answers.now) o.read);
      written = buffer-made x.file.now x.held.now x.calls.now (replayed_on (read_file x.file.now).model x.words.now x.held.now x.calls.now x.answers.now) (keeps x.variables.now x.log.now x.records.now) o.number _ (answers_on (read_file x.file.now).model x.words.now x.held.now x.calls.now x.answers.now) _ (d.ensures.written ∙ ap (λ (y : Read). answers_on y.model x.words.now x.held.now x.calls.now x.answers.now) o.read);
    }

pub returns-else-done-eq0 : goal.returns-else-done-eq0
returns-else-done-eq0 c =
    let x = c.args in
    let o = c.in-Ok.ensures in
    let d = c.replay_on-done in
    let same = d.ensures.outcome ∙ ap (λ (y : Read). replayed_on y.model x.words.now x.held.now x.calls.now x.answers.now) o.read in
    record {
      listed = replay-refused x.file.now x.held.now x.calls.now (replayed_on (read_file x.file.now).model x.words.now x.held.now x.calls.now x.answers.now) (keeps x.variables.now x.log.now x.records.now) o.number d.result same c.if-done-eq0.false _;
      tables = buffer-made x.file.now x.held.now x.calls.now (replayed_on (read_file x.file.now).model x.words.now x.held.now x.calls.now x.answers.now) (keeps x.variables.now x.log.now x.records.now) o.number _ (words_on (read_file x.file.now).model x.words.now x.held.now x.calls.now x.answers.now) _ (d.ensures.tables ∙ ap (λ (y : Read). words_on y.model x.words.now x.held.now x.calls.now x.answers.now) o.read);
      holds = buffer-made x.file.now x.held.now x.calls.now (replayed_on (read_file x.file.now).model x.words.now x.held.now x.calls.now x.answers.now) (keeps x.variables.now x.log.now x.records.now) o.number _ (held_on (read_file x.file.now).model x.words.now x.held.now x.calls.now x.answers.now) _ (d.ensures.holds ∙ ap (λ (y : Read). held_on y.model x.words.now x.held.now x.calls.now x.answers.now) o.read);
      written = buffer-made x.file.now x.held.now x.calls.now (replayed_on (read_file x.file.now).model x.words.now x.held.now x.calls.now x.answers.now) (keeps x.variables.now x.log.now x.records.now) o.number _ (answers_on (read_file x.file.now).model x.words.now x.held.now x.calls.now x.answers.now) _ (d.ensures.written ∙ ap (λ (y : Read). answers_on y.model x.words.now x.held.now x.calls.now x.answers.now) o.read);
    }

pub returns-in-Err : goal.returns-in-Err
returns-in-Err c =
    let x = c.args in
    let o = c.in-Err.ensures in
    let h = number_of-not_0 c.in-Err.r in
    record {
      listed = replay-unopened x.file.now x.held.now x.calls.now (replayed_on (read_file x.file.now).model x.words.now x.held.now x.calls.now x.answers.now) (keeps x.variables.now x.log.now x.records.now) _ o.number h _ c.from.ensures;
      tables = buffer-left x.file.now x.held.now x.calls.now (replayed_on (read_file x.file.now).model x.words.now x.held.now x.calls.now x.answers.now) (keeps x.variables.now x.log.now x.records.now) _ o.number h _ _;
      holds = buffer-left x.file.now x.held.now x.calls.now (replayed_on (read_file x.file.now).model x.words.now x.held.now x.calls.now x.answers.now) (keeps x.variables.now x.log.now x.records.now) _ o.number h _ _;
      written = buffer-left x.file.now x.held.now x.calls.now (replayed_on (read_file x.file.now).model x.words.now x.held.now x.calls.now x.answers.now) (keeps x.variables.now x.log.now x.records.now) _ o.number h _ _;
    }
