-- The head of a record: what follows where 1, 2 and 3 do not apply.
--     framed     the length and the kind of such a record
--     head-length, segment-length, thread-length, ports-length     its length by its kind
use Prim.Native.Nat.{ℕ, ◌≤◌}
use mathlib.Core.Path.{◌≡◌, refl}
use mathlib.Core.Bool.{Bool, true, false, cond, ◌&&◌, ◌||◌}
use mathlib.Core.List.{List}
use native.Mathlib.Omega.{arith}
use lib.Dec.{leb, eqb}
use lib.ListN.{length}
use borrow.Author.Tests.{leb-true, eqb-true, ne_eqb}
use Rattle.base.proofs.BoolLaws.{true→T, and→true}
use Rattle.base.proofs.IndexLaws.{or_else-zero}
use Rattle.model_rules.proofs.FaultLaws.{unless-zero}
use Rattle.reader.specs.Word.{word_at}
use Rattle.reader.specs.Record.{follows, length_fits, framing_fault}

-- a head, and a length that is there
pub record Whole (b : List ℕ) : Type 0 where
  pub head : 4 ≤ length b
  pub least : 4 ≤ word_at b 0
  pub left : word_at b 0 ≤ length b

pub whole→ : (b : List ℕ) → leb 4 (length b) && (leb 4 (word_at b 0) && leb (word_at b 0) (length b)) ≡ true → Whole b
whole→ b e =
    let (h, k) = and→true _ _ e in
    let (l, m) = and→true _ _ k in
    record { head = leb-true _ _ h; least = leb-true _ _ l; left = leb-true _ _ m }

-- a head with no fault
pub record Framed (last : ℕ) (b : List ℕ) : Type 0 where
  pub whole : Whole b
  pub after : follows last (word_at b 2) ≡ true
  pub fits : length_fits (word_at b 2) (word_at b 0) ≡ true

pub framed : (last : ℕ) (b : List ℕ) → framing_fault last b ≡ 0 → Framed last b
unfolding framing_fault
framed last b e =
    let (w, k) = or_else-zero _ _ e in
    let (f, l) = or_else-zero _ _ k in
    record { whole = whole→ b (unless-zero _ 1 (λ z. omega arith) w); after = unless-zero _ 2 (λ z. omega arith) f; fits = unless-zero _ 3 (λ z. omega arith) l }

module _ (l : ℕ) where
  pub head-length : (k : ℕ) → length_fits k l ≡ true → k ≡ 1 → l ≡ 10
  unfolding length_fits
  head-length k h e = eqb-true l 10 (rw e at h)

  pub segment-length : (k : ℕ) → length_fits k l ≡ true → k ≡ 2 → (17 ≤ l) × (l ≤ 209)
  unfolding length_fits
  segment-length k h e =
      let (p, q) = and→true _ _ (rw e at h) in
      let (x, y) = and→true _ _ p in
      (leb-true _ _ x, leb-true _ _ y)

  pub thread-length : (k : ℕ) → length_fits k l ≡ true → k ≡ 3 → l ≡ 5
  unfolding length_fits
  thread-length k h e = eqb-true l 5 (rw e at h)

  pub ports-length : (k : ℕ) → length_fits k l ≡ true → k ≡ 5 → l ≡ 12
  unfolding length_fits
  ports-length k h e = eqb-true l 12 (rw e at h)

-- a kind that may come and is not 1, 2, 3 or 5
pub follows-end : (last k : ℕ) → follows last k ≡ true → (k ≡ 1 → ⊥) → (k ≡ 2 → ⊥) → (k ≡ 3 → ⊥) → (k ≡ 5 → ⊥) → k ≡ 4
unfolding follows
follows-end last k h n1 n2 n3 n5 =
    eqb-true k 4 (go (eqb last 0) (eqb last 1) (eqb last 2) (eqb last 3) (eqb last 5) (eqb k 4) (rw (ne_eqb k 1 n1, ne_eqb k 2 n2, ne_eqb k 3 n3, ne_eqb k 5 n5) at h))
  where
    go : (s t u w p x : Bool) → cond s false (cond t false (cond u false (cond w (x || false) (cond p x false)))) ≡ true → x ≡ true
    go true t u w p x e = absurd (true→T false e)
    go false true u w p x e = absurd (true→T false e)
    go false false true w p x e = absurd (true→T false e)
    go false false false true p true e = refl
    go false false false true p false e = e
    go false false false false true x e = e
    go false false false false false x e = absurd (true→T false e)
