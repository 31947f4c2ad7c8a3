-- `reader_file::model_from` meets its contract. The invariant: what is left of the bytes, read on from the model so far, gives what the file gives.
-- The measure is what is left of the bytes.
use Prim.Native.Nat.{ℕ, ◌+◌, ◌≤◌, ◌<◌, ◌-◌}
use mathlib.Core.Path.{◌≡◌, refl, sym, ap, ◌∙◌}
use mathlib.Core.List.{List}
use native.Mathlib.Omega.{arith}
use lib.ListN.{length, take}
use lib.Seq.{length-take-le}
use Rattle.model.specs.declared.Model.{Model}
use Rattle.reader.specs.Word.{byte_at, word_at}
use Rattle.reader_record.proofs.RecordLaws.{Opened, opened-least, opened-left, opened-length, opened-thread, opened-ports}
use Rattle.reader_record.specs.declared.Kind.TheVariants.{Segment, Thread}
use Rattle.reader_record.specs.Kinds.{kind_number}
use Rattle.reader_file.proofs.KindLaws.{no-kind}
use Rattle.reader_file.proofs.FileLaws.{rest_of, rest_of-length, Filled, filled-head, filled-left, filled-all, filled-opened, filled-ports, filled-last, filled-segments, filled-threads, filled-with-segment, filled-with-thread, filled-with-ports}
use Rattle.reader_file.proofs.model_from.Goals.{After-word_at-size, After-word_at, in-Ok-Segment, in-Ok-Thread, in_default, in_default-via-in-Ok+in_default, in_default-via-in_default}
use Rattle.reader_file.proofs.model_from.Goals as goal

pub slice_bounds-head-end : goal.slice_bounds-head-end
slice_bounds-head-end c = sym (length-take-le 10 c.args.bytes.now (filled-left _ c.requires))

pub horizon_at-horizon-requires : goal.horizon_at-horizon-requires
horizon_at-horizon-requires c = omega (arith, length-take-le 10 c.args.bytes.now (filled-left _ c.requires))

pub bounds-head-8 : goal.bounds-head-8
bounds-head-8 c = omega (arith, length-take-le 10 c.args.bytes.now (filled-left _ c.requires))

pub bounds-head-9 : goal.bounds-head-9
bounds-head-9 c = omega (arith, length-take-le 10 c.args.bytes.now (filled-left _ c.requires))

pub loop-at-init : goal.loop-at-init
loop-at-init c =
    rw (c.no_start-starts.ensures, c.no_segment-segments.ensures) (filled-left _ c.requires, filled-head _ c.requires _ c.horizon_at-horizon.ensures)

-- what is left of the bytes at a turn
abbrev left-at : After-word_at-size → List ℕ
left-at c = rest_of c.args.bytes.now c.loop-at.at

-- the model so far
abbrev model_of : After-word_at-size → Model
model_of c =
    let h = take 10 c.args.bytes.now in
    record { horizon = c.horizon_at-horizon.result; v = byte_at h 8; e = byte_at h 9; n = c.loop-at.n; t = c.loop-at.t; segments = c.loop-at.segments; starts = c.loop-at.starts }

-- more than the end is left
more : (c : After-word_at-size) → 4 < length (left-at c)
more c = rw (rest_of-length c.args.bytes.now c.loop-at.at) c.loop-at-test.true

abbrev so_far : (c : After-word_at-size) → Filled c.args.bytes.now c.loop-at.at (model_of c)
so_far c = c.loop-at.invariant.1

opened : (c : After-word_at-size) → Opened (so_far c).last (left-at c) c.word_at-size.result (word_at (left-at c) 2)
opened c = filled-opened c.requires (so_far c) c.word_at-size.ensures.0 refl (more c)

-- the next record begins within the bytes
next-within : (c : After-word_at-size) → c.loop-at.at + c.word_at-size.result ≤ length c.args.bytes.now
next-within c = omega (arith, opened-left (opened c), rest_of-length c.args.bytes.now c.loop-at.at, c.loop-at.invariant.0)

-- what is known of its kind
opened' : (c : After-word_at) → Opened c.loop-at.invariant.1.last (rest_of c.args.bytes.now c.loop-at.at) c.word_at-size.result c.word_at.result
opened' c = filled-opened c.requires c.loop-at.invariant.1 c.word_at-size.ensures.0 c.word_at.ensures.0 (more (goal.at.After-word_at c).After-word_at-size)

-- neither a segment nor a thread
ports : (c : After-word_at) → (c.word_at.result ≡ 2 → ⊥) → (c.word_at.result ≡ 3 → ⊥) → c.word_at.result ≡ 5
ports c n t = filled-ports c.requires c.loop-at.invariant.1 c.word_at-size.ensures.0 c.word_at.ensures.0 (more (goal.at.After-word_at c).After-word_at-size) n t

-- room for one more
segments-left : (c : After-word_at) → c.word_at.result ≡ 2 → c.loop-at.n < 64
segments-left c e = filled-segments c.requires c.loop-at.invariant.1 c.word_at-size.ensures.0 c.word_at.ensures.0 (more (goal.at.After-word_at c).After-word_at-size) e

threads-left : (c : After-word_at) → c.word_at.result ≡ 3 → c.loop-at.t < 32
threads-left c e = filled-threads c.requires c.loop-at.invariant.1 c.word_at-size.ensures.0 c.word_at.ensures.0 (more (goal.at.After-word_at c).After-word_at-size) e

-- the thread whose ports these are
last-thread : (c : After-word_at) → (c.word_at.result ≡ 2 → ⊥) → (c.word_at.result ≡ 3 → ⊥) → (1 ≤ c.loop-at.t) × (c.loop-at.t ≤ 32)
last-thread c n t = filled-last c.requires c.loop-at.invariant.1 c.word_at-size.ensures.0 c.word_at.ensures.0 (more (goal.at.After-word_at c).After-word_at-size) (ports c n t)

pub slice_bounds-r-end : goal.slice_bounds-r-end
slice_bounds-r-end c = sym (opened-length (opened c))

pub bounds-segments-from : goal.bounds-segments-from
bounds-segments-from c = let e : c.word_at.result ≡ 2 = sym c.in-Ok-Segment.ensures ∙ ap kind_number c.in-Ok-Segment.field-0-is in omega (arith, c.from.ensures, segments-left (goal.at.bounds-segments-from c).After-word_at e)

pub thread_from-requires : goal.thread_from-requires
thread_from-requires c = let e : c.word_at.result ≡ 3 = sym c.in-Ok-Thread.ensures ∙ ap kind_number c.in-Ok-Thread.field-0-is in omega (arith, opened-thread (opened' (goal.at.thread_from-requires c).After-word_at) e)

pub bounds-starts-from : goal.bounds-starts-from
bounds-starts-from c = let e : c.word_at.result ≡ 3 = sym c.in-Ok-Thread.ensures ∙ ap kind_number c.in-Ok-Thread.field-0-is in omega (arith, c.from-in-Ok-Thread.ensures, threads-left (goal.at.bounds-starts-from c).After-word_at e)

pub overflow_sub-k : goal.overflow_sub-k
overflow_sub-k c =
    let no-segment : c.word_at.result ≡ 2 → ⊥ = elim c.in_default.branch [ in_default-via-in-Ok+in_default w ↦ (λ z. grind (arith, w.in_default.ensures, w.in_default.is, z)) | in_default-via-in_default w ↦ (λ z. no-kind _ _ _ c.try_from.ensures w.in_default.is Segment (sym z)) ] in
    let no-thread : c.word_at.result ≡ 3 → ⊥ = elim c.in_default.branch [ in_default-via-in-Ok+in_default w ↦ (λ z. grind (arith, w.in_default.ensures, w.in_default.is, z)) | in_default-via-in_default w ↦ (λ z. no-kind _ _ _ c.try_from.ensures w.in_default.is Thread (sym z)) ] in
    omega (arith, c.from-k.ensures, last-thread (goal.at.overflow_sub-k c).After-word_at no-segment no-thread)

pub with_ports-requires : goal.with_ports-requires
with_ports-requires c =
    let no-segment : c.word_at.result ≡ 2 → ⊥ = elim c.in_default.branch [ in_default-via-in-Ok+in_default w ↦ (λ z. grind (arith, w.in_default.ensures, w.in_default.is, z)) | in_default-via-in_default w ↦ (λ z. no-kind _ _ _ c.try_from.ensures w.in_default.is Segment (sym z)) ] in
    let no-thread : c.word_at.result ≡ 3 → ⊥ = elim c.in_default.branch [ in_default-via-in-Ok+in_default w ↦ (λ z. grind (arith, w.in_default.ensures, w.in_default.is, z)) | in_default-via-in_default w ↦ (λ z. no-kind _ _ _ c.try_from.ensures w.in_default.is Thread (sym z)) ] in
    omega (arith, opened-ports (opened' (goal.at.with_ports-requires c).After-word_at) (ports (goal.at.with_ports-requires c).After-word_at no-segment no-thread))

pub loop-at-smaller : goal.loop-at-smaller
loop-at-smaller c = omega (arith, next-within (goal.at.loop-at-smaller c).After-word_at-size, opened-least (opened (goal.at.loop-at-smaller c).After-word_at-size))

pub loop-at-preserved : goal.loop-at-preserved
loop-at-preserved c =
    let b = (goal.at.loop-at-preserved c).After-word_at-size in
    let w0 = (goal.at.loop-at-preserved c).After-word_at in
    let f = so_far b in
    let size = c.word_at-size.ensures.0 in
    let kind = c.word_at.ensures.0 in (
      next-within b,
      elim c.match-try_from.branch [
        | in-Ok-Segment b' ↦ let e : c.word_at.result ≡ 2 = sym b'.in-Ok-Segment.ensures ∙ ap kind_number b'.in-Ok-Segment.field-0-is in
            filled-with-segment c.requires f size kind (more b) _ _ _ _ _ _ e b'.from.ensures b'.segment_from.ensures b'.n-is b'.t-is b'.segments-is b'.starts-is
        | in-Ok-Thread b' ↦ let e : c.word_at.result ≡ 3 = sym b'.in-Ok-Thread.ensures ∙ ap kind_number b'.in-Ok-Thread.field-0-is in
            filled-with-thread c.requires f size kind (more b) _ _ _ _ _ _ e b'.from-in-Ok-Thread.ensures b'.thread_from.ensures b'.n-is b'.t-is b'.segments-is b'.starts-is
        | in_default b' ↦
            let no-segment : c.word_at.result ≡ 2 → ⊥ = elim b'.in_default.branch [ in_default-via-in-Ok+in_default w ↦ (λ z. grind (arith, w.in_default.ensures, w.in_default.is, z)) | in_default-via-in_default w ↦ (λ z. no-kind _ _ _ c.try_from.ensures w.in_default.is Segment (sym z)) ] in
            let no-thread : c.word_at.result ≡ 3 → ⊥ = elim b'.in_default.branch [ in_default-via-in-Ok+in_default w ↦ (λ z. grind (arith, w.in_default.ensures, w.in_default.is, z)) | in_default-via-in_default w ↦ (λ z. no-kind _ _ _ c.try_from.ensures w.in_default.is Thread (sym z)) ] in
            filled-with-ports c.requires f size kind (more b) _ _ _ _ _ _ _ (ports w0 no-segment no-thread) (ap (λ (t : ℕ). t - 1) b'.from-k.ensures) b'.with_ports.ensures b'.n-is b'.t-is b'.segments-is b'.starts-is
      ],
    )

pub returns : goal.returns
returns c = filled-all c.requires c.loop-at.invariant.1 (omega (arith, rest_of-length c.args.bytes.now c.loop-at.at))
