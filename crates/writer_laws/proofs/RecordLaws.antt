-- A record, with anything after it.
--     record_bytes-length, record_bytes-below     its bytes
--     record-whole, record-length, record-kind     its length and its kind are read
--     record-taken, record-left     it is taken off whole
--     record-again     it is written again from its body
use Prim.Native.Nat.{ℕ, ◌+◌, ◌-◌, ◌≤◌, ◌<◌}
use mathlib.Core.Path.{◌≡◌, refl, sym, ap, ◌∙◌}
use mathlib.Core.List.{List, ◌++◌}
use native.Mathlib.Omega.{arith}
use lib.ListN.{length, take, drop, length-append, length-drop}
use lib.Seq.{take_at, take_all, drop_at}
use Rattle.reader.specs.Word.{word_at}
use Rattle.writer.specs.Bytes.{bytes_of}
use Rattle.writer.specs.File.{record_bytes}
use Rattle.writer_laws.proofs.ByteLaws.{AllBytes, bytes_of-below, append-below, word_at-written, word_at-again, part_then}

pub record_bytes-below : (k : ℕ) (body : List ℕ) → AllBytes body → AllBytes (record_bytes k body)
unfolding record_bytes
record_bytes-below k body h =
    append-below (bytes_of 2 (4 + length body)) _ (bytes_of-below 2 (4 + length body))
    (append-below (bytes_of 2 k) body (bytes_of-below 2 k) h)

module _ (k : ℕ) (body : List ℕ) where
  pub record_bytes-length : length (record_bytes k body) ≡ 4 + length body
  unfolding record_bytes bytes_of
  record_bytes-length = omega arith

  -- a record whose length and kind fit their two bytes
  module _ (rest : List ℕ) where
    pub record-whole : length (record_bytes k body ++ rest) ≡ 4 + length body + length rest
    record-whole = length-append (record_bytes k body) rest ∙ ap (λ (l : ℕ). l + length rest) record_bytes-length

    pub record-length : 4 + length body < 65536 → word_at (record_bytes k body ++ rest) 0 ≡ 4 + length body
    unfolding record_bytes bytes_of
    record-length small = let b = record_bytes k body ++ rest in word_at-written (4 + length body) b (drop 2 b) 0 refl small

    pub record-kind : k < 65536 → word_at (record_bytes k body ++ rest) 2 ≡ k
    unfolding record_bytes bytes_of
    record-kind small = let b = record_bytes k body ++ rest in word_at-written k b (body ++ rest) 2 refl small

    pub record-taken : take (4 + length body) (record_bytes k body ++ rest) ≡ record_bytes k body
    record-taken = take_at (record_bytes k body) rest (4 + length body) record_bytes-length

    pub record-left : drop (4 + length body) (record_bytes k body ++ rest) ≡ rest
    record-left = drop_at (record_bytes k body) rest (4 + length body) record_bytes-length

-- a whole record, with its kind, is written again from its body
pub record-again : (k : ℕ) (r : List ℕ) → AllBytes r → 4 ≤ length r → word_at r 0 ≡ length r → word_at r 2 ≡ k
    → record_bytes k (drop 4 r) ≡ r
unfolding record_bytes
record-again k r below size whole kind =
    let l : 4 + length (drop 4 r) ≡ word_at r 0 = omega (arith, length-drop 4 r) in
    let rest : take (length r - 4) (drop 4 r) ≡ drop 4 r = take_all (length r - 4) (drop 4 r) (omega (arith, length-drop 4 r)) in
    part_then r 2 (2 + (length r - 4)) 0 _ _ (ap (bytes_of 2) l ∙ word_at-again r 0 below (omega arith))
    (part_then r 2 (length r - 4) 2 _ _ (ap (bytes_of 2) (sym kind) ∙ word_at-again r 2 below (omega arith)) (sym rest))
    ∙ take_all (2 + (2 + (length r - 4))) r (omega arith)
