-- `reader_file::judge` meets its contract. The invariant: what is left of the bytes, read on from a model that the counts are of, gives what
-- the file gives. The measure is what is left of the bytes.
use Prim.Native.Nat.{◌+◌, ◌≤◌}
use mathlib.Core.Path.{◌≡◌, refl, sym, ◌∙◌}
use native.Mathlib.Omega.{arith}
use lib.ListN.{length}
use Rattle.std.proofs.lemmas.Result.{err_from_is_err_and}
use Rattle.refusal.proofs.NumberLaws.{number_of-not_0}
use Rattle.reader_record.specs.Kinds.{kind_number, last_number}
use Rattle.reader_record.specs.Parts.{record_fault}
use Rattle.reader_record.proofs.RecordLaws.{Opened, opened-least, opened-left, opened-length, opened-head, opened-thread}
use Rattle.reader_record.proofs.FaultLaws.{record_fault-framed, record_fault-counts, count-segment, count-thread}
use Rattle.reader_file.proofs.FileLaws.{rest_of, rest_of-length, judged-none, judged-short, judged-refused, judged-end, judged-unnamed, judged-more}
use Rattle.reader_file.proofs.KindLaws.{err-not_ok, ok-same, kind-end, kind-inside}
use Rattle.reader_file.proofs.judge.Goals.{In_ok-frame}
use Rattle.reader_file.proofs.judge.Goals as goal

-- the record that begins what is left has no fault
kept : (c : In_ok-frame) → record_fault (last_number c.loop-at.last) c.loop-at.c (rest_of c.args.bytes.now c.loop-at.at) ≡ 0
kept c = sym c.in_ok-frame.ensures.fault

opened : (c : In_ok-frame) → let f = c.in_ok-frame.frame in Opened (last_number c.loop-at.last) (rest_of c.args.bytes.now c.loop-at.at) f.size (kind_number f.kind)
opened c = let e = c.in_ok-frame.ensures in record { none = record_fault-framed _ _ _ (kept c); is_size = e.frame.size; is_kind = e.frame.kind }

-- the next record begins within the bytes
next-within : (c : In_ok-frame) → c.loop-at.at + c.in_ok-frame.frame.size ≤ length c.args.bytes.now
next-within c = omega (arith, opened-left (opened c), rest_of-length c.args.bytes.now c.loop-at.at, c.loop-at.invariant.0)

pub loop-at-init : goal.loop-at-init
loop-at-init c = (omega arith, rw c.no_counts-c.ensures (judged-none _))

pub returns-in_err-frame : goal.returns-in_err-frame
returns-in_err-frame c =
    let p = err_from_is_err_and c.from_residual.result c.from_residual.ensures.1 in
    rw (p.1, p.2)
    (record {
      number = judged-refused _ _ _ _ c.loop-at.invariant.1 _ c.loop-at-test.true c.in_err-frame.ensures.fault (number_of-not_0 c.in_err-frame.field-0.0);
      unnamed = λ z. absurd (err-not_ok z);
    })

pub overflow_sub-b : goal.overflow_sub-b
overflow_sub-b c = opened-left (opened (goal.at.overflow_sub-b c).In_ok-frame)

pub returns-in_err-end_fault : goal.returns-in_err-end_fault
returns-in_err-end_fault c =
    let p = err_from_is_err_and c.from_residual-in_err-end_fault.result c.from_residual-in_err-end_fault.ensures.1 in
    let o = opened (goal.at.returns-in_err-end_fault c).In_ok-frame in
    let k = kind-end _ (sym c.eq.ensures ∙ c.if-eq.true) in
    rw (p.1, p.2)
    (record {
      number = judged-end _ _ _ _ c.loop-at.invariant.1 o (kept (goal.at.returns-in_err-end_fault c).In_ok-frame) _ _ k refl c.in_err-end_fault.ensures;
      unnamed = λ z. absurd (err-not_ok z);
    })

pub returns-then-eq : goal.returns-then-eq
returns-then-eq c =
    let o = opened (goal.at.returns-then-eq c).In_ok-frame in
    let none = kept (goal.at.returns-then-eq c).In_ok-frame in
    let k = kind-end _ (sym c.eq.ensures ∙ c.if-eq.true) in
    let number = judged-end _ _ _ _ c.loop-at.invariant.1 o none _ 0 k refl c.in_ok-end_fault.ensures in
    record { number = number; unnamed = λ z. judged-unnamed _ _ _ _ c.loop-at.invariant.1 o none k (sym number) (ok-same z) }

pub slice_bounds-counts_after-end : goal.slice_bounds-counts_after-end
slice_bounds-counts_after-end c = sym (opened-length (opened (goal.at.slice_bounds-counts_after-end c).In_ok-frame))

pub counts_after-c-requires : goal.counts_after-c-requires
counts_after-c-requires c = let o = opened (goal.at.counts_after-c-requires c).In_ok-frame in
    let none = record_fault-counts o _ (kept (goal.at.counts_after-c-requires c).In_ok-frame) in
    record { head = λ e. opened-head o e; segment = λ e. count-segment _ _ _ none e; thread = λ e. (opened-thread o e, count-thread _ _ _ none e) }

pub loop-at-smaller : goal.loop-at-smaller
loop-at-smaller c = omega (arith, next-within (goal.at.loop-at-smaller c).In_ok-frame, opened-least (opened (goal.at.loop-at-smaller c).In_ok-frame))

pub loop-at-preserved : goal.loop-at-preserved
loop-at-preserved c =
    let w = (goal.at.loop-at-preserved c).In_ok-frame in
    (next-within w, rw c.counts_after-c.ensures (judged-more _ _ _ _ c.loop-at.invariant.1 (opened w) (kept w) (kind-inside _ (sym c.eq.ensures ∙ c.if-eq.false))))

pub returns : goal.returns
returns c = record { number = judged-short _ _ _ _ c.loop-at.invariant.1 (omega arith); unnamed = λ z. absurd (err-not_ok z) }
