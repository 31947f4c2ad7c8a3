-- A segment's record, read and written.
--     segment_bytes-length, segment_bytes-below     17 + 6n bytes
--     segment_bytes-count, segment_bytes-closer, segment_bytes-statement     its parts
--     segment_from-written, segment_bytes_fault-written     bytes of a segment that fits say that segment, zero past its count
--     segment_from-op, segment_from-trimmed     the segment that bytes say, and nothing past its count
--     segment_bytes-again     bytes that are a segment's record are written again
use Prim.Native.Nat.{ℕ, suc, ◌+◌, ◌-◌, ◌*◌, ◌%◌, ◌≤◌, ◌<◌}
use mathlib.Core.Path.{◌≡◌, refl, sym, ap, ap₂, ◌∙◌}
use mathlib.Core.List.{List, ◌++◌}
use native.Mathlib.Omega.{arith}
use native.Mathlib.Nat.{zero-add, mul_comm}
use lib.ListN.{length, get_or, take, drop, replicate, length-append, length-drop, take-append-drop}
use lib.Seq.{drop-drop, drop-append-add}
use Rattle.base.specs.Index.{or_else, first_below}
use Rattle.base.proofs.IndexLaws.{or_else-zero, first_below-same, first_below-zero, tabulate-same}
use Rattle.model.specs.declared.Op.{Op}
use Rattle.model.specs.declared.Statement.{Statement}
use Rattle.model.specs.declared.Segment.{Segment}
use Rattle.model.specs.Values.{no_statement}
use Rattle.model.specs.Rules.{op_fault, closer_fault, statements_fault}
use Rattle.reader.specs.Word.{word_at}
use Rattle.reader.specs.Closer.{closer_from, closer_shape_fault, closer_bytes_fault}
use Rattle.reader.specs.Statement.{op_from, op_shape_fault, op_bytes_fault}
use Rattle.reader.specs.Record.{statement_count, statement_bytes, segment_from, segment_bytes_fault}
use Rattle.writer.specs.Bytes.{bytes_of, joined, closer_bytes, op_bytes}
use Rattle.writer.specs.File.{record_bytes, segment_bytes, trimmed_segment}
use Rattle.writer.specs.Fields.{FitsSegment}
use Rattle.writer_laws.proofs.ByteLaws.{AllBytes, append-below, drop-below}
use Rattle.writer_laws.proofs.JoinLaws.{joined_length, joined-part, joined-below, joined-again}
use Rattle.writer_laws.proofs.StatementLaws.{op_bytes-length, op_bytes-below, op_from-written, op_bytes_fault-written, op_bytes-again}
use Rattle.writer_laws.proofs.CloserLaws.{closer_bytes-length, closer_bytes-below, closer_from-written, closer_bytes_fault-written, closer_bytes-again}
use Rattle.writer_laws.proofs.RecordLaws.{record_bytes-length, record_bytes-below, record-again}
use Rattle.writer_laws.proofs.TrimLaws.{filled, filled_at}

-- statement j of a record
abbrev told : List ℕ → ℕ → Statement
told r j = record { op = op_from (statement_bytes r j) }

module _ (g : Segment) where
  -- the operation of statement j
  abbrev op_at : ℕ → Op
  op_at j = (get_or g.statements j no_statement).op

  abbrev statements_of : List ℕ
  statements_of = joined g.n 0 (λ j. op_bytes (op_at j))

  pub body-length : length (closer_bytes g.closer ++ statements_of) ≡ 13 + 6 * g.n
  body-length =
      length-append (closer_bytes g.closer) statements_of
      ∙ ap₂ ◌+◌ (closer_bytes-length g.closer)
      (joined_length 6 (λ j. op_bytes (op_at j)) (λ j. op_bytes-length (op_at j)) g.n 0 ∙ mul_comm g.n 6)

  pub segment_bytes-length : length (segment_bytes g) ≡ 17 + 6 * g.n
  unfolding segment_bytes
  segment_bytes-length = omega (arith, record_bytes-length 2 (closer_bytes g.closer ++ statements_of), body-length)

  pub segment_bytes-below : AllBytes (segment_bytes g)
  unfolding segment_bytes
  segment_bytes-below =
      record_bytes-below 2 (closer_bytes g.closer ++ statements_of)
      (append-below (closer_bytes g.closer) statements_of (closer_bytes-below g.closer)
      (joined-below g.n 0 (λ j. op_bytes (op_at j)) (λ j. op_bytes-below (op_at j))))

  pub segment_bytes-count : statement_count (segment_bytes g) ≡ g.n
  segment_bytes-count = omega (arith, segment_bytes-length)

  pub segment_bytes-closer : drop 4 (segment_bytes g) ≡ closer_bytes g.closer ++ statements_of
  unfolding segment_bytes record_bytes bytes_of
  segment_bytes-closer = refl

  -- what stands after statement j
  abbrev later_than : ℕ → List ℕ
  later_than j = joined (g.n - suc j) (0 + suc j) (λ j. op_bytes (op_at j))

  pub segment_bytes-statement : (j : ℕ) → j < g.n → statement_bytes (segment_bytes g) j ≡ op_bytes (op_at j) ++ later_than j
  segment_bytes-statement j h =
      let f : ℕ → List ℕ = λ j. op_bytes (op_at j) in
      let e : 17 + 6 * j ≡ 4 + (length (closer_bytes g.closer) + j * 6) = omega (arith, closer_bytes-length g.closer) in
      ap (λ (k : ℕ). drop k (segment_bytes g)) e
      ∙ sym (drop-drop (length (closer_bytes g.closer) + j * 6) 4 (segment_bytes g))
      ∙ ap (drop (length (closer_bytes g.closer) + j * 6)) segment_bytes-closer
      ∙ drop-append-add (closer_bytes g.closer) statements_of (j * 6)
      ∙ joined-part 6 f (λ j. op_bytes-length (op_at j)) g.n 0 j h
      ∙ ap (λ (k : ℕ). f k ++ later_than j) (zero-add j)

  -- of a segment that fits
  module _ (fits : FitsSegment g) where
    statement-written : (j : ℕ) → j < g.n → op_from (statement_bytes (segment_bytes g) j) ≡ op_at j
    statement-written j h = ap op_from (segment_bytes-statement j h) ∙ op_from-written (later_than j) (op_at j) (fits.statements j h)

    statements-written :
        filled no_statement 32 (told (segment_bytes g)) (statement_count (segment_bytes g))
        ≡ filled no_statement 32 (λ j. get_or g.statements j no_statement) g.n
    statements-written =
        ap (filled no_statement 32 (told (segment_bytes g))) segment_bytes-count
        ∙ ap (λ (l : List Statement). l ++ replicate (32 - g.n) no_statement)
        (tabulate-same g.n 0 (told (segment_bytes g)) (λ j. get_or g.statements j no_statement)
        (λ j h. ap (λ (o : Op). record { op = o }) (statement-written j (omega arith))))

    pub segment_from-written : segment_from (segment_bytes g) ≡ trimmed_segment g
    unfolding segment_from trimmed_segment
    segment_from-written =
        let c : closer_from (drop 4 (segment_bytes g)) ≡ g.closer =
        ap closer_from segment_bytes-closer ∙ closer_from-written statements_of g.closer fits.closer in
        λ i. record { closer = c i; n = segment_bytes-count i; statements = statements-written i }

    pub segment_bytes_fault-written : (v e : ℕ)
        → segment_bytes_fault v e (segment_bytes g) ≡ or_else (closer_fault v e g.closer) (statements_fault v e g)
    unfolding segment_bytes_fault statements_fault
    segment_bytes_fault-written v e =
        ap₂ or_else
        (ap (closer_bytes_fault v e) segment_bytes-closer ∙ closer_bytes_fault-written statements_of v e g.closer fits.closer)
        (ap (λ (n : ℕ). first_below n (λ j. op_bytes_fault v e (statement_bytes (segment_bytes g) j))) segment_bytes-count
        ∙ first_below-same g.n _ _
        (λ j h.
        ap (op_bytes_fault v e) (segment_bytes-statement j h)
        ∙ op_bytes_fault-written (later_than j) v e (op_at j) (fits.statements j h)))

-- the segment that a record says
module _ (r : List ℕ) where
  pub segment_from-op : (j : ℕ) → j < statement_count r → get_or (segment_from r).statements j no_statement ≡ told r j
  unfolding segment_from
  segment_from-op j h = filled_at no_statement 32 (told r) (statement_count r) j h

  pub segment_from-trimmed : trimmed_segment (segment_from r) ≡ segment_from r
  unfolding segment_from trimmed_segment
  segment_from-trimmed =
      let s =
      tabulate-same (statement_count r) 0 (λ j. get_or (segment_from r).statements j no_statement) (told r)
      (λ j h. segment_from-op j (omega arith)) in
      λ i. record {
        closer = closer_from (drop 4 r);
        n = statement_count r;
        statements = s i ++ replicate (32 - statement_count r) no_statement;
      }

  -- of 17 + 6n bytes without fault
  module _ (below : AllBytes r) (v e : ℕ) (least : 17 ≤ length r) (even : (length r - 17) % 6 ≡ 0)
      (none : segment_bytes_fault v e r ≡ 0) where
    closer-again : closer_bytes (closer_from (drop 4 r)) ≡ take 13 (drop 4 r)
    unfolding segment_bytes_fault closer_bytes_fault
    closer-again =
        closer_bytes-again (drop 4 r) (drop-below 4 r below) (omega (arith, length-drop 4 r))
        (or_else-zero (closer_shape_fault (drop 4 r)) _ (or_else-zero _ _ none).0).0

    op-again : (j : ℕ) → j < statement_count r → op_bytes (op_from (statement_bytes r j)) ≡ take 6 (statement_bytes r j)
    unfolding segment_bytes_fault op_bytes_fault
    op-again j h =
        op_bytes-again (statement_bytes r j) (drop-below (17 + 6 * j) r below) (omega (arith, length-drop (17 + 6 * j) r))
        (or_else-zero (op_shape_fault (statement_bytes r j)) (op_fault v e (op_from (statement_bytes r j)))
        (first_below-zero (statement_count r) (λ j. op_bytes_fault v e (statement_bytes r j))
        (or_else-zero (closer_bytes_fault v e (drop 4 r)) _ none).1 j h)).0

    body : List ℕ
    body = drop 13 (drop 4 r)

    statements-again : joined (statement_count r) 0 (λ j. op_bytes (get_or (segment_from r).statements j no_statement).op) ≡ body
    unfolding body
    statements-again =
        joined-again 6 (statement_count r) _ body (omega (arith, length-drop 4 r, length-drop 13 (drop 4 r)))
        (λ j h. ap (λ (s : Statement). op_bytes s.op) (segment_from-op j h) ∙ op-again j h ∙ ap (take 6) (place j))
      where
        place : (j : ℕ) → statement_bytes r j ≡ drop (j * 6) body
        place j =
            let p : 17 + 6 * j ≡ 17 + j * 6 = omega arith in
            ap (λ (k : ℕ). drop k r) p ∙ sym (drop-drop (j * 6) 17 r) ∙ ap (drop (j * 6)) (sym (drop-drop 13 4 r))

    pub segment_bytes-again : word_at r 0 ≡ length r → word_at r 2 ≡ 2 → segment_bytes (segment_from r) ≡ r
    unfolding segment_bytes segment_from body
    segment_bytes-again whole kind =
        ap (record_bytes 2) (ap₂ ◌++◌ closer-again statements-again ∙ take-append-drop 13 (drop 4 r))
        ∙ record-again 2 r below (omega arith) whole kind
