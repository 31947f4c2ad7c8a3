-- A closer's 13 bytes, read and written.
--     closer_bytes-length, closer_bytes-below     13 bytes
--     closer_from-written, closer_shape_fault-written, closer_bytes_fault-written     bytes of a closer that fits say that closer
--     closer_bytes-again     bytes that are a closer are written again
use Prim.Native.Nat.{ℕ, zero, suc, ◌+◌, ◌≤◌, ◌<◌}
use mathlib.Core.Path.{◌≡◌, refl, sym, ap, ap₂, ◌∙◌}
use mathlib.Core.Bool.{true, not}
use mathlib.Core.List.{List, ◌++◌}
use native.Mathlib.Omega.{arith}
use native.Mathlib.Numerals.{add-one}
use native.Mathlib.Decide.{ℕ_discrete}
use lib.Dec.{eqb, eqb→eq}
use lib.ListN.{length, take, drop, replicate, get_or-replicate}
use lib.Seq.{get_or-take, length-take-le, ext_get_or}
use borrow.Author.Tests.{eqb-true, eq-eqb, ne_eqb}
use Rattle.base.specs.Index.{any_below}
use Rattle.base.proofs.BoolLaws.{true→T, not-not}
use Rattle.base.proofs.IndexLaws.{any_below-none, or_else-none}
use Rattle.model.specs.declared.Next.{Next}
use Rattle.model.specs.declared.Closer.{Closer}
use Rattle.model.specs.declared.Closer.TheVariants.{End, Time, Event}
use Rattle.model.specs.Rules.{closer_fault}
use Rattle.model_rules.proofs.FaultLaws.{unless-zero}
use Rattle.reader.specs.Word.{byte_at, long_at}
use Rattle.reader.specs.Closer.{next_from, closer_from, rest_is_zero, closer_shape_fault, closer_bytes_fault}
use Rattle.writer.specs.Bytes.{bytes_of, next_bytes, closer_bytes}
use Rattle.writer.specs.Fields.{FitsNext, FitsCloser}
use Rattle.writer_laws.proofs.ByteLaws.{AllBytes, bytes_of-below, append-below, byte_at-written, long_at-written, byte_at-again, long_at-again, part_then}

pub closer_bytes-length : (c : Closer) → length (closer_bytes c) ≡ 13
unfolding closer_bytes next_bytes bytes_of
closer_bytes-length End = refl
closer_bytes-length (Time k x) = refl
closer_bytes-length (Event e x) = refl

-- kind, event, delay, next
head-below : (o e d : ℕ) (x : Next) → AllBytes (bytes_of 1 o ++ (bytes_of 1 e ++ (bytes_of 4 d ++ next_bytes x)))
unfolding next_bytes
head-below o e d x =
    append-below (bytes_of 1 o) _ (bytes_of-below 1 o)
    (append-below (bytes_of 1 e) _ (bytes_of-below 1 e)
    (append-below (bytes_of 4 d) _ (bytes_of-below 4 d)
    (append-below (bytes_of 1 x.a) _ (bytes_of-below 1 x.a)
    (append-below (bytes_of 1 x.b) _ (bytes_of-below 1 x.b)
    (append-below (bytes_of 1 x.test) _ (bytes_of-below 1 x.test) (bytes_of-below 4 x.limit))))))

zero-below : (n : ℕ) → AllBytes (replicate n 0)
zero-below zero i = omega arith
zero-below (suc n) zero = omega arith
zero-below (suc n) (suc i) = zero-below n i

pub closer_bytes-below : (c : Closer) → AllBytes (closer_bytes c)
unfolding closer_bytes
closer_bytes-below End = zero-below 13
closer_bytes-below (Time k x) = head-below 1 0 k.0 x
closer_bytes-below (Event e x) = head-below 2 e 0 x

-- the fields, with anything after the closer
module _ (rest : List ℕ) where
  next-written : (o e d : ℕ) (x : Next) → FitsNext x
      → next_from ((bytes_of 1 o ++ (bytes_of 1 e ++ (bytes_of 4 d ++ next_bytes x))) ++ rest) ≡ x
  unfolding next_bytes bytes_of
  next-written o e d x (a, b, t, l) =
      let c = (bytes_of 1 o ++ (bytes_of 1 e ++ (bytes_of 4 d ++ next_bytes x))) ++ rest in
      let p : byte_at c 6 ≡ x.a = byte_at-written x.a c (drop 7 c) 6 refl a in
      let q : byte_at c 7 ≡ x.b = byte_at-written x.b c (drop 8 c) 7 refl b in
      let r : byte_at c 8 ≡ x.test = byte_at-written x.test c (drop 9 c) 8 refl t in
      let s : long_at c 9 ≡ x.limit = long_at-written x.limit c rest 9 refl l in
      λ i. record { a = p i; b = q i; test = r i; limit = s i }

  pub closer_from-written : (c : Closer) → FitsCloser c → closer_from (closer_bytes c ++ rest) ≡ c
  unfolding closer_from closer_bytes next_bytes bytes_of
  closer_from-written End h = refl
  closer_from-written (Time k x) (h, g) =
      let b = closer_bytes (Time k x) ++ rest in
      let p : long_at b 2 ≡ k.0 = long_at-written k.0 b (drop 6 b) 2 refl h in
      let q : next_from b ≡ x = next-written 1 0 k.0 x g in
      λ i. Time (record { 0 = p i }) (q i)
  closer_from-written (Event e x) (h, g) =
      let b = closer_bytes (Event e x) ++ rest in
      ap₂ Event (byte_at-written e b (drop 2 b) 1 refl h) (next-written 2 e 0 x g)

  pub closer_shape_fault-written : (c : Closer) → closer_shape_fault (closer_bytes c ++ rest) ≡ 0
  unfolding closer_shape_fault rest_is_zero closer_bytes next_bytes bytes_of any_below
  closer_shape_fault-written End = refl
  closer_shape_fault-written (Time k x) = refl
  closer_shape_fault-written (Event e x) = refl

  pub closer_bytes_fault-written : (v e : ℕ) (c : Closer) → FitsCloser c → closer_bytes_fault v e (closer_bytes c ++ rest) ≡ closer_fault v e c
  unfolding closer_bytes_fault
  closer_bytes_fault-written v e c h = or_else-none _ _ (closer_shape_fault-written c) ∙ ap (closer_fault v e) (closer_from-written c h)

-- 13 bytes or more that are a closer
module _ (b : List ℕ) (below : AllBytes b) (size : 13 ≤ length b) where
  next-again : next_bytes (next_from b) ≡ take 7 (drop 6 b)
  unfolding next_bytes
  next-again =
      part_then b 1 6 6 _ _ (byte_at-again b 6 below (omega arith))
      (part_then b 1 5 7 _ _ (byte_at-again b 7 below (omega arith))
      (part_then b 1 4 8 _ _ (byte_at-again b 8 below (omega arith)) (long_at-again b 9 below (omega arith))))

  fields-again : bytes_of 1 (byte_at b 0) ++ (bytes_of 1 (byte_at b 1) ++ (bytes_of 4 (long_at b 2) ++ next_bytes (next_from b))) ≡ take 13 b
  fields-again =
      part_then b 1 12 0 _ _ (byte_at-again b 0 below (omega arith))
      (part_then b 1 11 1 _ _ (byte_at-again b 1 below (omega arith))
      (part_then b 4 7 2 _ _ (long_at-again b 2 below (omega arith)) next-again))

  as_written : (o e d : ℕ) → o ≡ byte_at b 0 → e ≡ byte_at b 1 → d ≡ long_at b 2
      → bytes_of 1 o ++ (bytes_of 1 e ++ (bytes_of 4 d ++ next_bytes (next_from b))) ≡ take 13 b
  as_written o e d p q r = (λ i. bytes_of 1 (p i) ++ (bytes_of 1 (q i) ++ (bytes_of 4 (r i) ++ next_bytes (next_from b)))) ∙ fields-again

  end-again : byte_at b 0 ≡ 0 → rest_is_zero b ≡ true → replicate 13 0 ≡ take 13 b
  unfolding rest_is_zero
  end-again first rest =
      let size13 : length (take 13 b) ≡ 13 = length-take-le 13 b size in
      ext_get_or 0 (replicate 13 0) (take 13 b) (sym size13) (λ i l. get_or-replicate 13 i 0 0 l ∙ sym (get_or-take 13 b i 0 l ∙ zero-at i l))
    where
      zero-at : (i : ℕ) → i < 13 → byte_at b i ≡ 0
      zero-at zero l = first
      zero-at (suc i) l =
          let t =
          any_below-none 12 (λ i. not (eqb (byte_at b (i + 1)) 0))
          (true→T (not (any_below 12 (λ i. not (eqb (byte_at b (i + 1)) 0)))) rest) i (omega arith) in
          ap (byte_at b) (sym (add-one i)) ∙ eqb→eq (byte_at b (i + 1)) 0 (not-not (eqb (byte_at b (i + 1)) 0) t)

  pub closer_bytes-again : closer_shape_fault b ≡ 0 → closer_bytes (closer_from b) ≡ take 13 b
  unfolding closer_shape_fault closer_from closer_bytes
  closer_bytes-again none = go (ℕ_discrete (byte_at b 0) 0) (ℕ_discrete (byte_at b 0) 1) (ℕ_discrete (byte_at b 0) 2)
    where
      go : Dec (byte_at b 0 ≡ 0) → Dec (byte_at b 0 ≡ 1) → Dec (byte_at b 0 ≡ 2) → closer_bytes (closer_from b) ≡ take 13 b
      go (yes z) _ _ =
          let shape = unless-zero (rest_is_zero b) 5 (λ e. omega arith) (rw (eq-eqb (byte_at b 0) 0 z) at none) in
          rw (ne_eqb (byte_at b 0) 1 (λ e. omega arith), ne_eqb (byte_at b 0) 2 (λ e. omega arith)) (end-again z shape)
      go (no z) (yes o) _ =
          let shape =
          unless-zero (eqb (byte_at b 1) 0) 5 (λ e. omega arith) (rw (ne_eqb (byte_at b 0) 0 z, eq-eqb (byte_at b 0) 1 o) at none) in
          rw (eq-eqb (byte_at b 0) 1 o) (as_written 1 0 (long_at b 2) (sym o) (sym (eqb-true (byte_at b 1) 0 shape)) refl)
      go (no z) (no o) (yes w) =
          let shape =
          unless-zero (eqb (long_at b 2) 0) 5 (λ e. omega arith)
          (rw (ne_eqb (byte_at b 0) 0 z, ne_eqb (byte_at b 0) 1 o, eq-eqb (byte_at b 0) 2 w) at none) in
          rw (ne_eqb (byte_at b 0) 1 o, eq-eqb (byte_at b 0) 2 w)
          (as_written 2 (byte_at b 1) 0 (sym w) refl (sym (eqb-true (long_at b 2) 0 shape)))
      go (no z) (no o) (no w) =
          let five : ◌≡◌ {A = ℕ} 5 0 = rw (ne_eqb (byte_at b 0) 0 z, ne_eqb (byte_at b 0) 1 o, ne_eqb (byte_at b 0) 2 w) at none in
          absurd (omega arith)
