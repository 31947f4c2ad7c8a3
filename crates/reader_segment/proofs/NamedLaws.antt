-- Ports: where a record's bytes can name none, its segment names none.
--     op_names-found, test_names-found     what names a port can
--     op_names_at-.., record_names-..     the loop over the statements
--     segment-unnamed     the segment
use Prim.Native.Nat.{ℕ, ◌+◌, ◌*◌, ◌<◌, ◌≤◌}
use mathlib.Core.Path.{◌≡◌, refl, subst}
use mathlib.Core.Logic.{◌⊎◌, inl, inr}
use mathlib.Core.Bool.{Bool, true, false, not, ◌&&◌, ◌||◌}
use mathlib.Core.List.{List}
use native.Mathlib.Omega.{arith}
use lib.Dec.{T, T_not, leb, eqb, eqb→eq, le→leb}
use lib.ListN.{length, get_or, drop, length-take}
use lib.Seq.{get_or-take}
use Rattle.base.specs.Index.{any_below}
use Rattle.base.proofs.BoolLaws.{T-case, T→false, false→T, and→both, both→and, or→either, either→or, not-or→both, cond-case}
use Rattle.base.proofs.IndexLaws.{any_below-none, any_below-here, any_below-empty}
use Rattle.model.specs.declared.Op.{Op}
use Rattle.model.specs.declared.Op.TheVariants.{Set, Add, Copy, AddVariable, SubVariable, Notify}
use Rattle.model.specs.declared.Next.{Next}
use Rattle.model.specs.declared.Closer.{Closer}
use Rattle.model.specs.declared.Closer.TheVariants.{End, Time, Event}
use Rattle.model.specs.Values.{no_statement, body_of}
use Rattle.model.specs.Footprint.{writes_op, reads_op, reads, tests_next, tests, writes_of, uses_of}
use Rattle.model_effect.proofs.FootprintLaws.{asks_at, writes-asks, reads-asks}
use Rattle.reader.specs.Word.{byte_at, long_at}
use Rattle.reader.specs.Closer.{closer_from}
use Rattle.reader.specs.Statement.{op_of, op_from}
use Rattle.reader.specs.Record.{statement_count, statement_bytes, segment_from}
use Rattle.reader_laws.proofs.ReadSoFar.{segment-statement}
use Rattle.reader_segment.specs.Parts.{fits, count_in, closer_in, op_names, next_names, test_names, record_names}
use Rattle.reader_segment.proofs.SegmentLaws.{part-rest, statement_part, count_in-fits}

-- a variable that an operation writes or reads is its a, or its b from operation 3 on
module _ (o a b x : ℕ) where
  abbrev Names : Op → Type 0
  Names p = T (writes_op p x) ⊎ T (reads_op p x) → (a ≡ x) ⊎ ((3 ≤ o) × (b ≡ x))

  set-names : Names (Set a b)
  set-names (inl t) = inl (eqb→eq a x t)
  set-names (inr t) = absurd t

  add-names : Names (Add a b)
  add-names (inl t) = inl (eqb→eq a x t)
  add-names (inr t) = inl (eqb→eq a x t)

  copy-names : 3 ≤ o → Names (Copy a b)
  copy-names h (inl t) = inl (eqb→eq a x t)
  copy-names h (inr t) = inr (h, eqb→eq b x t)

  both-names : 3 ≤ o → T (eqb a x) ⊎ T (eqb b x) → (a ≡ x) ⊎ ((3 ≤ o) × (b ≡ x))
  both-names h (inl t) = inl (eqb→eq a x t)
  both-names h (inr t) = inr (h, eqb→eq b x t)

  add_variable-names : 3 ≤ o → Names (AddVariable a b)
  add_variable-names h (inl t) = inl (eqb→eq a x t)
  add_variable-names h (inr t) = both-names h (or→either (eqb a x) (eqb b x) t)

  sub_variable-names : 3 ≤ o → Names (SubVariable a b)
  sub_variable-names h (inl t) = inl (eqb→eq a x t)
  sub_variable-names h (inr t) = both-names h (or→either (eqb a x) (eqb b x) t)

  notify-names : Names (Notify a)
  notify-names (inl t) = absurd t
  notify-names (inr t) = absurd t

  op_of-names : Names (op_of o a b)
  op_of-names =
      cond-case Names (eqb o 1) (λ _. set-names) (λ _.
      cond-case Names (eqb o 2) (λ _. add-names) (λ _.
      cond-case Names (eqb o 3) (λ t. copy-names (omega (arith, eqb→eq o 3 t))) (λ _.
      cond-case Names (eqb o 4) (λ t. add_variable-names (omega (arith, eqb→eq o 4 t))) (λ _.
      cond-case Names (eqb o 5) (λ t. sub_variable-names (omega (arith, eqb→eq o 5 t))) (λ _. notify-names)))))

module _ (p : ℕ) (l : p < 8) where
  pub op_names-found : (s : List ℕ) → T (writes_op (op_from s) (128 + p)) ⊎ T (reads_op (op_from s) (128 + p)) → T (op_names s)
  unfolding op_from op_names
  op_names-found s t = go (op_of-names (byte_at s 0) (byte_at s 1) (long_at s 2) (128 + p) t)
    where
      go : (byte_at s 1 ≡ 128 + p) ⊎ ((3 ≤ byte_at s 0) × (long_at s 2 ≡ 128 + p)) → T (leb 128 (byte_at s 1) || (leb 3 (byte_at s 0) && leb 128 (byte_at s 2)))
      go (inl e) = either→or (leb 128 (byte_at s 1)) _ (inl (le→leb 128 (byte_at s 1) (omega arith)))
      go (inr (h, e)) = either→or (leb 128 (byte_at s 1)) _ (inr (both→and (leb 3 (byte_at s 0)) (leb 128 (byte_at s 2)) (le→leb 3 (byte_at s 0) h) (le→leb 128 (byte_at s 2) (omega arith))))

  next_names-found : (x : Next) → T (tests_next x (128 + p)) → T (next_names x)
  unfolding tests_next
  next_names-found x t =
      let (n, e) = and→both (not (eqb x.test 255)) (eqb x.test (128 + p)) t in
      both→and (leb 128 x.test) (not (eqb x.test 255)) (le→leb 128 x.test (omega (arith, eqb→eq x.test (128 + p) e))) n

  pub test_names-found : (c : Closer) → T (tests c (128 + p)) → T (test_names c)
  unfolding tests test_names
  test_names-found End t = absurd t
  test_names-found (Time k x) t = next_names-found x t
  test_names-found (Event w x) t = next_names-found x t

-- the loop over the statements, and the closer after it
module _ (r : List ℕ) where
  unfoldable pub op_names_at : ℕ → Bool
  op_names_at j = op_names (statement_bytes r j)

  pub op_names_at-is : (j : ℕ) (t : Bool) → op_names (statement_part r j) ≡ t → op_names_at j ≡ t
  unfolding op_names_at
  op_names_at-is j t e = rw (part-rest r (17 + 6 * j)) at e

  pub record_names-here : (j : ℕ) → j < count_in r → op_names_at j ≡ true → true ≡ record_names r
  unfolding record_names op_names_at
  record_names-here j l e = rw (any_below-here (count_in r) op_names_at j l e) refl

  pub record_names-none : ((j : ℕ) → j < count_in r → op_names_at j ≡ false) → test_names (closer_in r) ≡ record_names r
  unfolding record_names op_names_at
  record_names-none each = rw (any_below-empty (count_in r) op_names_at each) refl

-- where no statement and no test can name a port, the segment names none
module _ (r : List ℕ) (fit : fits r ≡ true) (none : record_names r ≡ false) (p : ℕ) (l : p < 8) where
  parts : T (not (any_below (count_in r) (λ j. op_names (statement_bytes r j)))) × T (not (test_names (closer_in r)))
  unfolding record_names
  parts = not-or→both (any_below (count_in r) (λ j. op_names (statement_bytes r j))) (test_names (closer_in r)) (false→T (record_names r) none)

  -- statement j of its body
  body-statement : (j : ℕ) → j < length (body_of (segment_from r)) → (j < statement_count r) × ((get_or (body_of (segment_from r)) j no_statement).op ≡ op_from (statement_bytes r j))
  unfolding body_of segment_from
  body-statement j h =
      let b : j < statement_count r = omega (arith, length-take (statement_count r) (segment_from r).statements) in
      (b, rw (get_or-take (statement_count r) (segment_from r).statements j no_statement b) (segment-statement r j b))

  unnamed-op : (j : ℕ) → j < length (body_of (segment_from r)) → T (writes_op (get_or (body_of (segment_from r)) j no_statement).op (128 + p)) ⊎ T (reads_op (get_or (body_of (segment_from r)) j no_statement).op (128 + p)) → ⊥
  unnamed-op j h t =
      let (b, is) = body-statement j h in
      T_not (op_names (statement_bytes r j)) (any_below-none (count_in r) (λ j. op_names (statement_bytes r j)) parts.0 j (rw (← count_in-fits r fit) b))
      (op_names-found p l (statement_bytes r j) (subst (λ (o : Op). T (writes_op o (128 + p)) ⊎ T (reads_op o (128 + p))) is t))

  unnamed-test : T (tests (segment_from r).closer (128 + p)) → ⊥
  unfolding segment_from closer_in
  unnamed-test t = T_not (test_names (closer_in r)) parts.1 (rw fit (test_names-found p l (closer_from (drop 4 r)) t))

  pub segment-unnamed : uses_of (segment_from r) (128 + p) ≡ false
  unfolding uses_of writes_of
  segment-unnamed = go (T-case (uses_of (segment_from r) (128 + p)))
    where
      body : T (writes_of (segment_from r) (128 + p)) ⊎ T (reads (body_of (segment_from r)) (128 + p)) → ⊥
      body (inl t) = let (j, h, u) = asks_at (writes-asks (128 + p)) (body_of (segment_from r)) t in unnamed-op j h (inl u)
      body (inr t) = let (j, h, u) = asks_at (reads-asks (128 + p)) (body_of (segment_from r)) t in unnamed-op j h (inr u)

      named : T (writes_of (segment_from r) (128 + p) || reads (body_of (segment_from r)) (128 + p)) ⊎ T (tests (segment_from r).closer (128 + p)) → ⊥
      named (inl t) = body (or→either (writes_of (segment_from r) (128 + p)) (reads (body_of (segment_from r)) (128 + p)) t)
      named (inr t) = unnamed-test t

      go : T (uses_of (segment_from r) (128 + p)) ⊎ T (not (uses_of (segment_from r) (128 + p))) → uses_of (segment_from r) (128 + p) ≡ false
      go (inl t) = absurd (named (or→either (writes_of (segment_from r) (128 + p) || reads (body_of (segment_from r)) (128 + p)) (tests (segment_from r).closer (128 + p)) t))
      go (inr t) = T→false (uses_of (segment_from r) (128 + p)) t
