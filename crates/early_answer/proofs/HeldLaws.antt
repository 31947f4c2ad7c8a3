-- The values that are held for a thread, and those that a finish stores.
--     held-read     64 numbers from the set of a thread
--     held_whole     64 numbers stored in it
--     emptied-none, emptied-set     a set that is emptied
--     stored-none, stored_more, stored-all     what a segment writes, stored place by place
use Prim.Native.Nat.{ℕ, ◌+◌, ◌*◌, ◌<◌, ◌≤◌}
use mathlib.Core.Path.{◌≡◌, refl, ap, sym, ◌∙◌}
use mathlib.Core.Bool.{Bool, true, false, cond}
use mathlib.Core.List.{List}
use native.Mathlib.Omega.{arith}
use native.Mathlib.Nat.{zero-add}
use lib.ListN.{length, get_or, set, take, drop, replicate}
use lib.Seq.{take_all}
use borrow.Rule.Slice.PartMut.{put_mid}
use Rattle.std.proofs.lemmas.List.Edits.{sets-eq}
use Rattle.std.proofs.lemmas.Slice.{put_mid-paste}
use Rattle.base.specs.Index.{store_to}
use Rattle.base.proofs.IndexLaws.{tabulate-is, store_to-none, store_to-more, store_to-length, store_to-at}
use Rattle.masks.specs.Mask.{bit_at}
use Rattle.model.specs.declared.Segment.{Segment}
use Rattle.model.specs.Footprint.{writes_of}
use Rattle.early.specs.Call.{held_at, with_held}
use Rattle.early_ports.specs.Names.{names_of}
use Rattle.early_ports.proofs.NameLaws.{names_of-writes}
use Rattle.early_answer.specs.Answered.{stored_in, emptied_by}

-- all 64 are read
pub held-read : (held : List ℕ) (from k n : ℕ) → from ≡ 64 * k → n ≡ 64 → take n (drop from held) ≡ held_at held k
held-read held from k n p e = rw (p, e) refl

-- all 64 are stored
pub held_whole : (held v ys : List ℕ) (from k n : ℕ) → from ≡ 64 * k → n ≡ 64 → length v ≡ 64 → ys ≡ v → 64 * k + 64 ≤ length held → put_mid from n held ys ≡ with_held held k v
held_whole held v ys from k n p e size f fits =
    put_mid-paste from n held ys v n f refl (e ∙ sym size)
    ∙ rw (p, e, take_all 64 v (omega arith)) (sym (sets-eq v held (64 * k) (omega arith) ∙ rw size refl))

-- a set that is emptied at a finish
module _ (finishes : Bool) (held : List ℕ) (k : ℕ) where
  pub emptied-none : finishes ≡ false → held ≡ emptied_by finishes held k
  unfolding emptied_by
  emptied-none e = rw e refl

  pub emptied-set : finishes ≡ true → with_held held k (replicate 64 0) ≡ emptied_by finishes held k
  unfolding emptied_by
  emptied-set e = rw e refl

-- by a word of 64 bits, w or v, stored over v one place after the other
module _ (word : ℕ) (v w : List ℕ) where
  abbrev pub chosen : ℕ → ℕ
  chosen i = cond (bit_at word i) (get_or w i 0) (get_or v i 0)

  abbrev pub stored_to : ℕ → List ℕ
  stored_to j = store_to (λ i xs. chosen i) 0 v j

  pub stored-none : v ≡ stored_to 0
  stored-none = store_to-none (λ i xs. chosen i) 0 v

  pub stored_more : (j x : ℕ) (out : List ℕ) → x ≡ chosen j → out ≡ stored_to j → set out j x ≡ stored_to (j + 1)
  stored_more j x out p e = store_to-more (λ i xs. chosen i) 0 v j j out x e (omega arith) p

  -- the word of what segment g writes
  pub stored-all : (g : Segment) (out : List ℕ) (j : ℕ) → word ≡ names_of 0 true g → length v ≡ 64 → j ≡ 64 → out ≡ stored_to j → out ≡ stored_in g v w
  unfolding stored_in
  stored-all g out j is size p e =
      let whole : out ≡ stored_to 64 = e ∙ ap stored_to p in
      tabulate-is 0 out (length v) (λ i. cond (writes_of g i) (get_or w i 0) (get_or v i 0)) (ap length whole ∙ store_to-length (λ i xs. chosen i) 0 v 64)
      (λ i h.
      ap (λ (xs : List ℕ). get_or xs i 0) whole
      ∙ (store_to-at (λ i xs. chosen i) 0 v 0 chosen 64 i i (omega arith) (λ j l. refl) (omega arith) (omega arith)
      ∙ ap (λ (b : Bool). cond b (get_or w i 0) (get_or v i 0)) (written i (omega arith))))
    where
      written : (i : ℕ) → i < 64 → bit_at word i ≡ writes_of g i
      written i h = rw is (names_of-writes 0 i h (omega arith) g ∙ ap (writes_of g) (zero-add i))
