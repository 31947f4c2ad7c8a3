-- `reader_record::framing_fault` meets its contract: 1, then 2, then 3.
use mathlib.Core.Path.{◌∙◌, ◌≡◌, sym, ap}
use mathlib.Core.Bool.{true}
use Rattle.std.proofs.lemmas.Result.{err_from_is_err_and}
use Rattle.refusal.specs.Number.{number_of}
use Rattle.reader.specs.Word.{word_at}
use Rattle.reader.specs.Record.{follows}
use Rattle.reader_record.specs.Kinds.{kind_number, last_number}
use Rattle.reader_record.specs.Parts.{is_whole}
use Rattle.reader_record.proofs.RecordLaws.{follows-no_kind, framing_fault-short, framing_fault-kind, framing_fault-length, framing_fault-none}
use Rattle.reader_record.proofs.framing_fault.Goals.{Else-not-is_whole, Else-not-comes_after}
use Rattle.reader_record.proofs.framing_fault.Goals as goal

whole : (c : Else-not-is_whole) → is_whole c.args.b.now ≡ true
whole c = sym c.is_whole.ensures ∙ c.if-not-is_whole.false

kind : (c : Else-not-comes_after) → kind_number c.in_ok-kind.kind ≡ word_at c.args.b.now 2
kind c = c.in_ok-kind.ensures ∙ c.word_at.ensures.0

after : (c : Else-not-comes_after) → follows (last_number c.args.last) (kind_number c.in_ok-kind.kind) ≡ true
after c = sym c.comes_after.ensures ∙ c.if-not-comes_after.false

pub returns-then-not-is_whole-clause-fault : goal.returns-then-not-is_whole-clause-fault
returns-then-not-is_whole-clause-fault c = framing_fault-short _ _ (sym c.is_whole.ensures ∙ c.if-not-is_whole.true)

pub returns-in_err-kind-clause-fault : goal.returns-in_err-kind-clause-fault
returns-in_err-kind-clause-fault c =
    let p = err_from_is_err_and c.from_residual.result c.from_residual.ensures.1 in
    let e = c.in_err-kind.ensures in
    rw (p.1, p.2) (ap number_of e.0 ∙ framing_fault-kind _ _ _ c.word_at.ensures.0 (sym c.is_whole.ensures ∙ c.if-not-is_whole.false) (follows-no_kind _ _ e.1))

pub returns-then-not-comes_after-clause-fault : goal.returns-then-not-comes_after-clause-fault
returns-then-not-comes_after-clause-fault c =
    framing_fault-kind _ _ _ (c.in_ok-kind.ensures ∙ c.word_at.ensures.0) (sym c.is_whole.ensures ∙ c.if-not-is_whole.false) (sym c.comes_after.ensures ∙ c.if-not-comes_after.true)

pub returns-then-not-length_fits-clause-fault : goal.returns-then-not-length_fits-clause-fault
returns-then-not-length_fits-clause-fault c =
    framing_fault-length _ _ _ (kind (goal.at.returns-then-not-length_fits-clause-fault c).Else-not-comes_after) _ c.word_at-size.ensures.0 (whole (goal.at.returns-then-not-length_fits-clause-fault c).Else-not-is_whole) (after (goal.at.returns-then-not-length_fits-clause-fault c).Else-not-comes_after) (sym c.length_fits.ensures ∙ c.if-not-length_fits.true)

pub returns-clause-fault : goal.returns-clause-fault
returns-clause-fault c = framing_fault-none _ _ _ (kind (goal.at.returns-clause-fault c).Else-not-comes_after) _ c.word_at-size.ensures.0 (whole (goal.at.returns-clause-fault c).Else-not-is_whole) (after (goal.at.returns-clause-fault c).Else-not-comes_after) (sym c.length_fits.ensures ∙ c.if-not-length_fits.false)

pub returns-clause-frame : goal.returns-clause-frame
returns-clause-frame c = record { kind = kind (goal.at.returns-clause-frame c).Else-not-comes_after; size = c.word_at-size.ensures.0 }
