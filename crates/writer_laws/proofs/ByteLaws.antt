-- Numbers as bytes, the lowest first.
--     bytes_of-length, bytes_of-below     n bytes, each below 256
--     value_of-bytes, bytes-value_of     a number that fits is that of its bytes; bytes are those of their number
--     byte_at-value, word_at-value, long_at-value     the reader's numbers at a place
--     byte_at-written, word_at-written, long_at-written     what is written at a place is read there
--     byte_at-again, word_at-again, long_at-again     what is read at a place is written there again
--     part_then     parts that stand one after the other
use Prim.Native.Nat.{ℕ, zero, suc, ◌+◌, ◌*◌, ◌/◌, ◌^◌, ◌≤◌, ◌<◌}
use mathlib.Core.Path.{◌≡◌, refl, sym, ap, ap₂, ◌∙◌}
use mathlib.Core.List.{List, [], ◌∷◌, ◌++◌}
use native.Mathlib.Omega.{arith}
use native.Mathlib.Nat.{pow-suc, pow-zero}
use lib.ListN.{length, take, drop, length-drop}
use lib.Seq.{get_or-drop, take_at, take-add, drop-drop, length-take-le}
use Rattle.reader.specs.Word.{byte_at, word_at, long_at}
use Rattle.writer.specs.Bytes.{bytes_of}

pub bytes_of-length : (n x : ℕ) → length (bytes_of n x) ≡ n
unfolding bytes_of
bytes_of-length zero x = refl
bytes_of-length (suc n) x = ap suc (bytes_of-length n (x / 256))

-- every byte of b is below 256
abbrev pub AllBytes : List ℕ → Type 0
AllBytes b = (i : ℕ) → byte_at b i < 256

pub bytes_of-below : (n x : ℕ) → AllBytes (bytes_of n x)
unfolding bytes_of
bytes_of-below zero x i = omega arith
bytes_of-below (suc n) x zero = omega arith
bytes_of-below (suc n) x (suc i) = bytes_of-below n (x / 256) i

-- "Little-endian.": the number that bytes stand for
unfoldable pub value_of : List ℕ → ℕ
value_of [] = 0
value_of (x ∷ b) = x + value_of b * 256

pub value_of-bytes : (n x : ℕ) → x < 256 ^ n → value_of (bytes_of n x) ≡ x
unfolding bytes_of value_of
value_of-bytes zero x h = omega (arith, pow-zero 256)
value_of-bytes (suc n) x h =
    let e : 256 ^ suc n ≡ 256 ^ n * 256 = pow-suc 256 n in
    let ih = value_of-bytes n (x / 256) (omega arith) in
    omega arith

pub bytes-value_of : (b : List ℕ) → AllBytes b → bytes_of (length b) (value_of b) ≡ b
unfolding bytes_of value_of
bytes-value_of [] h = refl
bytes-value_of (x ∷ b) h =
    let l : x < 256 = h 0 in
    ap₂ ◌∷◌ (omega arith) (ap (bytes_of (length b)) (omega arith) ∙ bytes-value_of b (λ i. h (suc i)))

-- the numbers at a place of longer bytes
at_drop : (b : List ℕ) (i j : ℕ) → byte_at b (i + j) ≡ byte_at (drop i b) j
at_drop b i j = sym (get_or-drop i b j 0)

front-byte : (b : List ℕ) → byte_at b 0 ≡ value_of (take 1 b)
unfolding value_of
front-byte [] = refl
front-byte (x ∷ b) = omega arith

front_long : (b : List ℕ) → long_at b 0 ≡ value_of (take 4 b)
unfolding value_of
front_long [] = refl
front_long (x ∷ []) = omega arith
front_long (x ∷ (y ∷ [])) = omega arith
front_long (x ∷ (y ∷ (z ∷ []))) = omega arith
front_long (x ∷ (y ∷ (z ∷ (w ∷ b)))) = omega arith

front-word : (b : List ℕ) → word_at b 0 ≡ value_of (take 2 b)
unfolding value_of
front-word [] = refl
front-word (x ∷ []) = omega arith
front-word (x ∷ (y ∷ b)) = omega arith

module _ (b : List ℕ) (i : ℕ) where
  pub byte_at-value : byte_at b i ≡ value_of (take 1 (drop i b))
  byte_at-value = ap (byte_at b) (omega arith) ∙ at_drop b i 0 ∙ front-byte (drop i b)

  word-drop : word_at b i ≡ word_at (drop i b) 0
  word-drop = ap₂ (λ (x y : ℕ). x + y * 256) (ap (byte_at b) (omega arith) ∙ at_drop b i 0) (at_drop b i 1)

  pub word_at-value : word_at b i ≡ value_of (take 2 (drop i b))
  word_at-value = word-drop ∙ front-word (drop i b)

  pub long_at-value : long_at b i ≡ value_of (take 4 (drop i b))
  long_at-value =
      ap₂ (λ (x y : ℕ). x + y * 65536) word-drop
      (ap₂ (λ (x y : ℕ). x + y * 256) (at_drop b i 2) (ap (byte_at b) (omega arith) ∙ at_drop b i 3))
      ∙ front_long (drop i b)

-- what is written at a place, with anything after it, is read there
value_written : (n x : ℕ) (b rest : List ℕ) (i : ℕ) → drop i b ≡ bytes_of n x ++ rest → x < 256 ^ n → value_of (take n (drop i b)) ≡ x
value_written n x b rest i e h =
    ap (λ (c : List ℕ). value_of (take n c)) e
    ∙ ap value_of (take_at (bytes_of n x) rest n (bytes_of-length n x))
    ∙ value_of-bytes n x h

module _ (x : ℕ) (b rest : List ℕ) (i : ℕ) where
  pub byte_at-written : drop i b ≡ bytes_of 1 x ++ rest → x < 256 → byte_at b i ≡ x
  byte_at-written e h = byte_at-value b i ∙ value_written 1 x b rest i e h

  pub word_at-written : drop i b ≡ bytes_of 2 x ++ rest → x < 65536 → word_at b i ≡ x
  word_at-written e h = word_at-value b i ∙ value_written 2 x b rest i e h

  pub long_at-written : drop i b ≡ bytes_of 4 x ++ rest → x < 2 ^ 32 → long_at b i ≡ x
  long_at-written e h = long_at-value b i ∙ value_written 4 x b rest i e h

-- what is read at a place is written there again
pub take_below : (n : ℕ) (b : List ℕ) → AllBytes b → AllBytes (take n b)
take_below zero b h i = omega arith
take_below (suc n) [] h i = omega arith
take_below (suc n) (x ∷ b) h zero = h 0
take_below (suc n) (x ∷ b) h (suc i) = take_below n b (λ j. h (suc j)) i

pub drop-below : (n : ℕ) (b : List ℕ) → AllBytes b → AllBytes (drop n b)
drop-below n b h i = rw (get_or-drop n b i 0) (h (n + i))

pub append-below : (b c : List ℕ) → AllBytes b → AllBytes c → AllBytes (b ++ c)
append-below [] c h k i = k i
append-below (x ∷ b) c h k zero = h 0
append-below (x ∷ b) c h k (suc i) = append-below b c (λ j. h (suc j)) k i

value-again : (n : ℕ) (b : List ℕ) (i : ℕ) → AllBytes b → i + n ≤ length b → bytes_of n (value_of (take n (drop i b))) ≡ take n (drop i b)
value-again n b i h l =
    let c = take n (drop i b) in
    let size : length c ≡ n = length-take-le n (drop i b) (omega (arith, length-drop i b)) in
    ap (λ (k : ℕ). bytes_of k (value_of c)) (sym size) ∙ bytes-value_of c (take_below n (drop i b) (drop-below i b h))

module _ (b : List ℕ) (i : ℕ) (h : AllBytes b) where
  pub byte_at-again : i + 1 ≤ length b → bytes_of 1 (byte_at b i) ≡ take 1 (drop i b)
  byte_at-again l = ap (bytes_of 1) (byte_at-value b i) ∙ value-again 1 b i h l

  pub word_at-again : i + 2 ≤ length b → bytes_of 2 (word_at b i) ≡ take 2 (drop i b)
  word_at-again l = ap (bytes_of 2) (word_at-value b i) ∙ value-again 2 b i h l

  pub long_at-again : i + 4 ≤ length b → bytes_of 4 (long_at b i) ≡ take 4 (drop i b)
  long_at-again l = ap (bytes_of 4) (long_at-value b i) ∙ value-again 4 b i h l

-- two parts of bytes that stand one after the other
pub part_then : (b : List ℕ) (n m i : ℕ) (x y : List ℕ) → x ≡ take n (drop i b) → y ≡ take m (drop (i + n) b)
    → x ++ y ≡ take (n + m) (drop i b)
part_then b n m i x y e f =
    ap₂ ◌++◌ e (f ∙ ap (take m) (sym (drop-drop n i b)))
    ∙ sym (take-add n m (drop i b))
