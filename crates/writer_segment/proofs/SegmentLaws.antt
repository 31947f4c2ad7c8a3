-- The record of a segment as the code puts it.
--     segment_bytes-parts     the frame and the closer, then the statements
--     closer_bytes-end     a closer that ends
-- Assumes nothing.
use Prim.Native.Nat.{ℕ, ◌+◌, ◌*◌}
use mathlib.Core.Path.{◌≡◌, refl, ap, ◌∙◌}
use mathlib.Core.List.{List, ◌++◌, append_assoc}
use native.Mathlib.Omega.{arith}
use lib.ListN.{length, get_or}
use Rattle.model.specs.declared.Closer.{Closer}
use Rattle.model.specs.declared.Closer.TheVariants.{End}
use Rattle.model.specs.declared.Segment.{Segment}
use Rattle.model.specs.Values.{no_statement}
use Rattle.reader.specs.Record.{segment_kind}
use Rattle.writer.specs.Bytes.{bytes_of, joined, next_bytes, closer_bytes, op_bytes}
use Rattle.writer.specs.File.{record_bytes, segment_bytes}
use Rattle.writer_laws.proofs.SegmentLaws.{body-length}

-- statement j of a segment
abbrev pub statement_at : Segment → ℕ → List ℕ
statement_at g j = op_bytes (get_or g.statements j no_statement).op

-- a segment's frame and closer, then its statements
pub segment_bytes-parts :
    (g : Segment) →
    ((bytes_of 2 (17 + 6 * g.n) ++ bytes_of 2 segment_kind) ++ closer_bytes g.closer) ++ joined g.n 0 (statement_at g) ≡ segment_bytes g
unfolding segment_bytes record_bytes
segment_bytes-parts g =
    let e : 17 + 6 * g.n ≡ 4 + length (closer_bytes g.closer ++ joined g.n 0 (statement_at g)) = omega (arith, body-length g) in
    let a = bytes_of 2 (17 + 6 * g.n) in
    let b = bytes_of 2 segment_kind in
    let x = closer_bytes g.closer in
    let y = joined g.n 0 (statement_at g) in
    append_assoc (a ++ b) x y ∙ (append_assoc a b (x ++ y) ∙ ap (λ (n : ℕ). bytes_of 2 n ++ (b ++ (x ++ y))) e)

-- the `End` arm: thirteen bytes of 0
pub closer_bytes-end :
    (z : Closer) → z ≡ End →
    bytes_of 1 0 ++ (bytes_of 1 0 ++ (bytes_of 4 0 ++ next_bytes (record { a = 0; b = 0; test = 0; limit = 0 }))) ≡ closer_bytes z
unfolding bytes_of next_bytes closer_bytes
closer_bytes-end z e = rw e refl
