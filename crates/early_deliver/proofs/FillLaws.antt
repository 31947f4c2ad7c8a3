-- Arrays of 32 places that a loop fills from the front, one store a turn.
--     fill_none, fill_more     the places below k are filled, the rest is as it was
--     fill-all     the filled places, and then the rest
use Prim.Native.Nat.{ℕ, ◌+◌, ◌<◌, ◌≤◌, ◌-◌}
use mathlib.Core.Path.{◌≡◌, refl, ap, sym, ◌∙◌}
use mathlib.Core.Bool.{cond}
use mathlib.Core.List.{List, ◌++◌}
use native.Mathlib.Omega.{arith}
use native.Mathlib.Decide.{ℕ_discrete, dec_lt}
use lib.Dec.{ltb}
use lib.ListN.{length, get_or, set, replicate, length-set, length-append, length-replicate, get_or-replicate, get_or-append}
use lib.Seq.{get_or-set_same, get_or-set_other, get_or-append-add, ext_get_or}
use borrow.Author.Tests.{lt-ltb, le-ltb}
use Rattle.base.specs.Index.{tabulate}
use Rattle.base.proofs.IndexLaws.{tabulate-length, tabulate-at}

module _ {A : Type 0} where
  -- the first k of f, and d past them
  abbrev pub filled_to : (ℕ → A) → A → ℕ → ℕ → A
  filled_to f d k i = cond (ltb i k) (f i) d

  pub fill_none : (f : ℕ → A) (d : A) → replicate 32 d ≡ tabulate 32 0 (filled_to f d 0)
  unfolding tabulate
  fill_none f d = refl

  pub fill_more : (f : ℕ → A) (d : A) (k : ℕ) → k < 32 → set (tabulate 32 0 (filled_to f d k)) k (f k) ≡ tabulate 32 0 (filled_to f d (k + 1))
  fill_more f d k h =
      ext_get_or
      d
      (set xs k (f k))
      (tabulate 32 0 (filled_to f d (k + 1)))
      (length-set xs k (f k) ∙ size ∙ sym (tabulate-length 32 0 (filled_to f d (k + 1))))
      (λ i p. at i (omega (arith, length-set xs k (f k), size)) (ℕ_discrete i k))
    where
      xs : List A
      xs = tabulate 32 0 (filled_to f d k)

      size : length xs ≡ 32
      size = tabulate-length 32 0 (filled_to f d k)

      whole : (i j : ℕ) → i < 32 → get_or (tabulate 32 0 (filled_to f d j)) i d ≡ filled_to f d j i
      whole i j p = let z : 0 + i ≡ i = omega arith in tabulate-at 32 0 i (filled_to f d j) d p ∙ ap (filled_to f d j) z

      other : (i : ℕ) → (i ≡ k → ⊥) → Dec (i < k) → filled_to f d k i ≡ filled_to f d (k + 1) i
      other i q (yes p) = rw (lt-ltb i k p, lt-ltb i (k + 1) (omega arith)) refl
      other i q (no p) =
          let past : k + 1 ≤ i = omega arith in
          rw (le-ltb i k (omega arith), le-ltb i (k + 1) past) refl

      at : (i : ℕ) → i < 32 → Dec (i ≡ k) → get_or (set xs k (f k)) i d ≡ get_or (tabulate 32 0 (filled_to f d (k + 1))) i d
      at i p (yes e) =
          rw (e)
          (get_or-set_same xs k (f k) d (omega (arith, size)) ∙
          sym (whole k (k + 1) h ∙ ap (λ b. cond b (f k) d) (lt-ltb k (k + 1) (omega arith))))
      at i p (no e) = get_or-set_other xs k i (f k) d e ∙ whole i k p ∙ other i e (dec_lt i k) ∙ sym (whole i (k + 1) p)

  -- what is filled, and then what was there
  pub fill-all : (f : ℕ → A) (d : A) (t : ℕ) → t ≤ 32 → tabulate 32 0 (filled_to f d t) ≡ tabulate t 0 f ++ replicate (32 - t) d
  fill-all f d t h =
      ext_get_or
      d
      (tabulate 32 0 (filled_to f d t))
      (tabulate t 0 f ++ replicate (32 - t) d)
      (tabulate-length 32 0 (filled_to f d t) ∙ sym size)
      (λ i p. at i (omega (arith, tabulate-length 32 0 (filled_to f d t))) (dec_lt i t))
    where
      size : length (tabulate t 0 f ++ replicate (32 - t) d) ≡ 32
      size = simp (length-append, tabulate-length, length-replicate) (omega arith)

      at : (i : ℕ) → i < 32 → Dec (i < t) → get_or (tabulate 32 0 (filled_to f d t)) i d ≡ get_or (tabulate t 0 f ++ replicate (32 - t) d) i d
      at i p (yes q) =
          let z : 0 + i ≡ i = omega arith in
          tabulate-at 32 0 i (filled_to f d t) d p ∙ (rw (z, lt-ltb i t q) (sym (get_or-append (tabulate t 0 f) (replicate (32 - t) d) d i (omega (arith, tabulate-length t 0 f)) ∙ (tabulate-at t 0 i f d q ∙ ap f z))))
      at i p (no q) =
          let z : 0 + i ≡ i = omega arith in
          let j : i ≡ length (tabulate t 0 f) + (i - t) = omega (arith, tabulate-length t 0 f) in
          tabulate-at 32 0 i (filled_to f d t) d p
          ∙ (rw (z, le-ltb i t (omega arith))
          (sym (ap (λ (n : ℕ). get_or (tabulate t 0 f ++ replicate (32 - t) d) n d) j ∙ (get_or-append-add (tabulate t 0 f) (replicate (32 - t) d) (i - t) d ∙ get_or-replicate (32 - t) (i - t) d d (omega arith)))))
