-- A statement's 6 bytes, read and written.
--     op_bytes-length, op_bytes-below     6 bytes
--     op_from-written, op_shape_fault-written, op_bytes_fault-written     bytes of a statement that fits say that statement
--     op_bytes-again     bytes that are a statement are written again
use Prim.Native.Nat.{ℕ, ◌≤◌, ◌<◌, ◌^◌}
use mathlib.Core.Path.{◌≡◌, refl, sym, ap, ap₂, ◌∙◌}
use mathlib.Core.Bool.{not, ◌&&◌, ◌||◌}
use mathlib.Core.List.{List, ◌++◌}
use native.Mathlib.Omega.{arith}
use lib.Dec.{T, T_not, leb, eqb, eqb→eq}
use lib.ListN.{length, take}
use borrow.Author.Tests.{leb-true, eqb-true, eq-eqb}
use Rattle.base.proofs.BoolLaws.{and→true, cond-case, eq→eqb}
use Rattle.base.proofs.IndexLaws.{or_else-none}
use Rattle.model.specs.declared.Op.{Op}
use Rattle.model.specs.declared.Op.TheVariants.{Set, Add, Copy, AddVariable, SubVariable, Notify}
use Rattle.model.specs.Rules.{op_fault}
use Rattle.model_rules.proofs.FaultLaws.{unless-zero}
use Rattle.reader.specs.Word.{byte_at, long_at}
use Rattle.reader.specs.Statement.{op_from, op_shape_fault, op_bytes_fault}
use Rattle.writer.specs.Bytes.{bytes_of, statement_of, op_bytes}
use Rattle.writer.specs.Fields.{FitsOp}
use Rattle.writer_laws.proofs.ByteLaws.{AllBytes, bytes_of-below, append-below, byte_at-written, long_at-written, byte_at-again, long_at-again, part_then}

pub op_bytes-length : (o : Op) → length (op_bytes o) ≡ 6
unfolding op_bytes statement_of bytes_of
op_bytes-length (Set a b) = refl
op_bytes-length (Add a b) = refl
op_bytes-length (Copy a b) = refl
op_bytes-length (AddVariable a b) = refl
op_bytes-length (SubVariable a b) = refl
op_bytes-length (Notify e) = refl

statement-below : (o a b : ℕ) → AllBytes (statement_of o a b)
unfolding statement_of
statement-below o a b =
    append-below (bytes_of 1 o) (bytes_of 1 a ++ bytes_of 4 b) (bytes_of-below 1 o)
    (append-below (bytes_of 1 a) (bytes_of 4 b) (bytes_of-below 1 a) (bytes_of-below 4 b))

pub op_bytes-below : (o : Op) → AllBytes (op_bytes o)
unfolding op_bytes
op_bytes-below (Set a b) = statement-below 1 a b
op_bytes-below (Add a b) = statement-below 2 a b
op_bytes-below (Copy a b) = statement-below 3 a b
op_bytes-below (AddVariable a b) = statement-below 4 a b
op_bytes-below (SubVariable a b) = statement-below 5 a b
op_bytes-below (Notify e) = statement-below 6 e 0

-- the fields of a statement, with anything after it
module _ (rest : List ℕ) where
  field-a : (o a b : ℕ) → a < 256 → byte_at (statement_of o a b ++ rest) 1 ≡ a
  unfolding statement_of bytes_of
  field-a o a b h = byte_at-written a (statement_of o a b ++ rest) (bytes_of 4 b ++ rest) 1 refl h

  field-b : (o a b : ℕ) → b < 2 ^ 32 → long_at (statement_of o a b ++ rest) 2 ≡ b
  unfolding statement_of bytes_of
  field-b o a b h = long_at-written b (statement_of o a b ++ rest) rest 2 refl h

  pub op_from-written : (o : Op) → FitsOp o → op_from (op_bytes o ++ rest) ≡ o
  unfolding op_from op_bytes statement_of bytes_of
  op_from-written (Set a b) (h, k) = ap₂ Set (field-a 1 a b h) (field-b 1 a b k)
  op_from-written (Add a b) (h, k) = ap₂ Add (field-a 2 a b h) (field-b 2 a b k)
  op_from-written (Copy a b) (h, k) = ap₂ Copy (field-a 3 a b h) (field-b 3 a b k)
  op_from-written (AddVariable a b) (h, k) = ap₂ AddVariable (field-a 4 a b h) (field-b 4 a b k)
  op_from-written (SubVariable a b) (h, k) = ap₂ SubVariable (field-a 5 a b h) (field-b 5 a b k)
  op_from-written (Notify e) h = ap Notify (field-a 6 e 0 h)

  pub op_shape_fault-written : (o : Op) → op_shape_fault (op_bytes o ++ rest) ≡ 0
  unfolding op_shape_fault op_bytes statement_of bytes_of
  op_shape_fault-written (Set a b) = refl
  op_shape_fault-written (Add a b) = refl
  op_shape_fault-written (Copy a b) = refl
  op_shape_fault-written (AddVariable a b) = refl
  op_shape_fault-written (SubVariable a b) = refl
  op_shape_fault-written (Notify e) = refl

  pub op_bytes_fault-written : (v e : ℕ) (o : Op) → FitsOp o → op_bytes_fault v e (op_bytes o ++ rest) ≡ op_fault v e o
  unfolding op_bytes_fault
  op_bytes_fault-written v e o h = or_else-none _ _ (op_shape_fault-written o) ∙ ap (op_fault v e) (op_from-written o h)

-- 6 bytes or more that are a statement
module _ (b : List ℕ) (below : AllBytes b) (size : 6 ≤ length b) where
  statement-again : statement_of (byte_at b 0) (byte_at b 1) (long_at b 2) ≡ take 6 b
  unfolding statement_of
  statement-again =
      part_then b 1 5 0 _ _ (byte_at-again b 0 below (omega arith))
      (part_then b 1 4 1 _ _ (byte_at-again b 1 below (omega arith)) (long_at-again b 2 below (omega arith)))

  -- by its operation, and by the number that may stand in its place
  as_written : (o a v : ℕ) → o ≡ byte_at b 0 → a ≡ byte_at b 1 → v ≡ long_at b 2 → statement_of o a v ≡ take 6 b
  as_written o a v p q r = (λ i. statement_of (p i) (q i) (r i)) ∙ statement-again

  abbrev Again : Op → Type 0
  Again o = op_bytes o ≡ take 6 b

  differs : (n : ℕ) → T (not (eqb (byte_at b 0) n)) → byte_at b 0 ≡ n → ⊥
  differs n t e = T_not (eqb (byte_at b 0) n) t (eq→eqb (byte_at b 0) n e)

  -- what is left of operations 1 to 6
  notify-again : op_shape_fault b ≡ 0 → (byte_at b 0 ≡ 1 → ⊥) → (byte_at b 0 ≡ 2 → ⊥) → (byte_at b 0 ≡ 3 → ⊥) → (byte_at b 0 ≡ 4 → ⊥)
      → (byte_at b 0 ≡ 5 → ⊥) → Again (Notify (byte_at b 1))
  unfolding op_shape_fault op_bytes
  notify-again none n1 n2 n3 n4 n5 =
      let x = byte_at b 0 in
      let (range, notify) =
      and→true (leb 1 x && leb x 6) (not (eqb x 6) || eqb (long_at b 2) 0) (unless-zero _ 6 (λ e. omega arith) none) in
      let (from, to) = and→true (leb 1 x) (leb x 6) range in
      let l : 1 ≤ byte_at b 0 = leb-true 1 x from in
      let h : byte_at b 0 ≤ 6 = leb-true x 6 to in
      let six : byte_at b 0 ≡ 6 = omega arith in
      as_written 6 (byte_at b 1) 0 (sym six) refl (sym (eqb-true (long_at b 2) 0 (rw (eq-eqb (byte_at b 0) 6 six) at notify)))

  pub op_bytes-again : op_shape_fault b ≡ 0 → op_bytes (op_from b) ≡ take 6 b
  unfolding op_from op_bytes
  op_bytes-again none =
      let x = byte_at b 0 in
      cond-case Again (eqb x 1) (λ t. as_written 1 (byte_at b 1) (long_at b 2) (sym (eqb→eq x 1 t)) refl refl) (λ n1.
      cond-case Again (eqb x 2) (λ t. as_written 2 (byte_at b 1) (long_at b 2) (sym (eqb→eq x 2 t)) refl refl) (λ n2.
      cond-case Again (eqb x 3) (λ t. as_written 3 (byte_at b 1) (long_at b 2) (sym (eqb→eq x 3 t)) refl refl) (λ n3.
      cond-case Again (eqb x 4) (λ t. as_written 4 (byte_at b 1) (long_at b 2) (sym (eqb→eq x 4 t)) refl refl) (λ n4.
      cond-case Again (eqb x 5) (λ t. as_written 5 (byte_at b 1) (long_at b 2) (sym (eqb→eq x 5 t)) refl refl) (λ n5.
      notify-again none (differs 1 n1) (differs 2 n2) (differs 3 n3) (differs 4 n4) (differs 5 n5))))))
