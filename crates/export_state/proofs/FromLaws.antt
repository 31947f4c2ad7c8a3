-- What is read: a place of the log by the count, a record by the number of threads; lists that are made of their indices.
use Prim.Native.Nat.{ℕ, zero, suc, ◌+◌, ◌≤◌, ◌<◌, min}
use mathlib.Core.Path.{◌≡◌, refl, sym, ap, ◌∙◌}
use mathlib.Core.List.{List}
use denote.Param.Members.{Mut}
use native.Mathlib.Omega.{arith}
use native.Mathlib.Decide.{dec_le, ℕ_discrete}
use lib.ListN.{length, get_or, take}
use lib.Seq.{take_all, length-take-le}
use borrow.Author.Tests.{lt-ltb, le-ltb}
use Rattle.std.specs.Fn.{Called}
use Rattle.std.specs.Array.{IsFromFnResult, IsFromFnResultFrom}
use Rattle.base.specs.Index.{tabulate}
use Rattle.base.proofs.IndexLaws.{tabulate-is}
use Rattle.clock.specs.Cycle.{cycle_at}
use Rattle.model.specs.declared.Thread.{Thread}
use Rattle.early.specs.declared.Notification.{Notification}
use Rattle.early.specs.Log.{pair_of}
use Rattle.export_state.specs.Numbers.{pair_at, place_from}

module _ (ws : List ℕ) (i n : ℕ) (e : n ≡ get_or ws 0 0) where
  pub place_from-below : (x : Notification) → i < n → x ≡ pair_at ws i → x ≡ place_from ws i
  unfolding place_from
  place_from-below x h p = rw (← e, lt-ltb i n h) p

  pub place_from-past : n ≤ i → pair_of 0 (cycle_at 0 0) ≡ place_from ws i
  unfolding place_from
  place_from-past h = rw (← e, le-ltb i n h) refl

-- a list that `from_fn` makes, where the closure answers h at each number
module _ {F B : Type 0} (g : Mut F (ℕ × Unit {0}) B) (f : F) (h : ℕ → B) (keeps : (i : ℕ) (y : B) (q : F) → Called g f (i, tt) y q → (q ≡ f) × (y ≡ h i)) (ys : List B) (d : B) where
  made-each : (n i : ℕ) → IsFromFnResultFrom g f ys i n → (j : ℕ) → i ≤ j → j < i + n → get_or ys j d ≡ h j
  made-each zero i r j l m = absurd (omega arith)
  made-each (suc n) i (q, y, at, k, r) j l m = go (ℕ_discrete j i) (λ a b. made-each n (i + 1) (rw (keeps i y q k).0 at r) j a b)
    where
      go : Dec (j ≡ i) → (i + 1 ≤ j → j < i + 1 + n → get_or ys j d ≡ h j) → get_or ys j d ≡ h j
      go (yes z) ih = rw z (at.1 d ∙ (keeps i y q k).1)
      go (no z) ih = ih (omega arith) (omega arith)

  pub from_fn-is : (n : ℕ) → IsFromFnResult g f ys n → ys ≡ tabulate n 0 h
  from_fn-is n made = tabulate-is d ys n h made.long (λ i l. made-each n 0 made.each i (omega arith) (omega arith))

-- the first t of n records, or all
pub take-least : (t n k : ℕ) (xs : List Thread) → length xs ≡ n → k ≡ min t n → take k xs ≡ take t xs
take-least t n k xs size e = go (dec_le t n)
  where
    go : Dec (t ≤ n) → take k xs ≡ take t xs
    go (yes h) = let same : k ≡ t = omega arith in rw same refl
    go (no h) = take_all k xs (omega arith) ∙ sym (take_all t xs (omega arith))

pub take-least-length : (t n : ℕ) (xs : List Thread) → length xs ≡ n → length (take t xs) ≡ min t n
take-least-length t n xs size = ap length (sym (take-least t n (min t n) xs size refl)) ∙ length-take-le (min t n) xs (omega arith)
