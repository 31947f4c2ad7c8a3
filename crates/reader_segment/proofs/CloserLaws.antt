-- A closer's bytes: its twelve bytes under kind 0.
use Prim.Native.Nat.{ℕ, ◌+◌, ◌<◌, ◌≤◌}
use mathlib.Core.Path.{◌≡◌, refl, sym, ap, ◌∙◌}
use mathlib.Core.Logic.{◌⊎◌, inl, inr, ◌↔◌}
use mathlib.Core.Bool.{Bool, true, false, not}
use mathlib.Core.List.{List}
use native.Mathlib.Omega.{arith}
use lib.Dec.{T, eqb, eqb→eq}
use lib.ListN.{length, get_or, take, drop, length-take, length-drop}
use lib.Seq.{get_or-take, get_or-drop}
use borrow.Author.Tests.{eq-eqb}
use Rattle.base.proofs.BoolLaws.{T-case, T→true, T→false, not-not}
use Rattle.base.proofs.IndexLaws.{any_below-none, any_below-empty}
use Rattle.reader.specs.Word.{byte_at}
use Rattle.reader.specs.Closer.{rest_is_zero}

module _ (b : List ℕ) where
  stray : ℕ → Bool
  stray i = not (eqb (byte_at b (i + 1)) 0)

  zero-each : ((i : ℕ) → i < 12 → byte_at b (i + 1) ≡ 0) → rest_is_zero b ≡ true
  unfolding rest_is_zero stray
  zero-each h = ap not (any_below-empty 12 stray (λ i l. ap not (eq-eqb _ 0 (h i l))))

  each-zero : T (rest_is_zero b) → (i : ℕ) → i < 12 → byte_at b (i + 1) ≡ 0
  unfolding rest_is_zero stray
  each-zero t i l = eqb→eq _ 0 (not-not _ (any_below-none 12 stray t i l))

  abbrev rest : List ℕ
  rest = take 12 (drop 1 b)

  byte-of_rest : (i : ℕ) → i < 12 → get_or rest i 0 ≡ byte_at b (i + 1)
  byte-of_rest i l = get_or-take 12 (drop 1 b) i 0 l ∙ (get_or-drop 1 b i 0 ∙ ap (λ (k : ℕ). byte_at b k) (omega arith))

  -- a test that each byte of the rest is 0
  pub rest_is_zero-all : 13 ≤ length b → (x : Bool) → (x ≡ true) ↔ ((i : ℕ) → i < length rest → get_or rest i 0 ≡ 0) → x ≡ rest_is_zero b
  rest_is_zero-all h true (to, from) = sym (zero-each (λ i l. sym (byte-of_rest i l) ∙ to refl i (simp (length-take, length-drop) (omega arith))))
  rest_is_zero-all h false (to, from) = go (T-case (rest_is_zero b))
    where
      go : T (rest_is_zero b) ⊎ T (not (rest_is_zero b)) → false ≡ rest_is_zero b
      go (inl t) = from (λ i l. byte-of_rest i (omega (arith, length-take 12 (drop 1 b))) ∙ each-zero t i (omega (arith, length-take 12 (drop 1 b)))) ∙ sym (T→true _ t)
      go (inr t) = sym (T→false _ t)
