-- The words of answers, as the loops of the code write them.
--     words-put     words that are copied in
--     words-next, words-done     one answer, and then the rest; none
--     refuse-none, refuse-more     every answer the same
--     answers_words-length     how many they are
--     call_at-both, call_at-grant, call_at-finish     a call as a word
use Prim.Native.Nat.{ℕ, suc, ◌+◌, ◌*◌, ◌<◌, ◌≤◌, ◌-◌, min}
use mathlib.Core.Path.{◌≡◌, refl, sym, ◌∙◌}
use mathlib.Core.List.{List, [], ◌∷◌}
use native.Mathlib.Omega.{arith}
use native.Mathlib.Numerals.{add-one}
use lib.ListN.{length, get_or, drop, replicate, drop_of_length-le}
use lib.Seq.{sets, drop-cons, take_all}
use borrow.Rule.Slice.PartMut.{put_mid}
use Rattle.std.proofs.lemmas.List.Edits.{sets-eq}
use Rattle.std.proofs.lemmas.Slice.{put_mid-paste}
use borrow.Author.Tests.{lt-ltb, le-ltb}
use Rattle.early.specs.declared.Answer.{Answer}
use Rattle.early.specs.declared.Call.TheVariants.{Both, Grant, Finish}
use Rattle.early.specs.Call.{call_at}
use Rattle.early_list.specs.Answers.{answer_words, answers_words}

-- words that are copied in from a place on
pub words-put : (b vs ys : List ℕ) (at n : ℕ) → ys ≡ vs → n ≡ length vs → at + n ≤ length b → put_mid at n b ys ≡ sets b at vs
words-put b vs ys at n e f h =
    put_mid-paste at n b ys vs n e refl f ∙ rw (f, take_all (length vs) vs (omega arith)) (sym (sets-eq vs b at (omega arith)))

-- one answer, and then the rest from the next five words on
words_more : (b : List ℕ) (at w : ℕ) (a : Answer) (calls : List ℕ) (rest : List Answer)
    → sets (sets b at (answer_words w a)) (at + 5) (answers_words calls rest) ≡ sets b at (answers_words (w ∷ calls) (a ∷ rest))
unfolding answers_words
words_more b at w a calls rest = let e : at + 5 ≡ suc (suc (suc (suc (suc at)))) = omega arith in rw e refl

pub words-next : (b bs calls : List ℕ) (i : ℕ) (a : Answer) (rest : List Answer) → i < length calls → bs ≡ sets b (5 * i) (answer_words (get_or calls i 0) a)
    → sets bs (5 * (i + 1)) (answers_words (drop (i + 1) calls) rest) ≡ sets b (5 * i) (answers_words (drop i calls) (a ∷ rest))
words-next b bs calls i a rest h e =
    let f : 5 * (i + 1) ≡ 5 * i + 5 = omega arith in
    rw (e, f, add-one, drop-cons calls i 0 h) (words_more b (5 * i) (get_or calls i 0) a (drop (suc i) calls) rest)

-- nothing is left to write
pub words-done : (b calls : List ℕ) (i : ℕ) (rest : List Answer) → length calls ≤ i → sets b (5 * i) (answers_words (drop i calls) rest) ≡ b
unfolding answers_words
words-done b calls i rest h = rw (drop_of_length-le calls h) refl

-- every answer the same: those that are left
module _ (calls : List ℕ) (a : Answer) where
  pub refuse-none : (b : List ℕ) → sets b (5 * 0) (answers_words (drop 0 calls) (replicate (length calls - 0) a)) ≡ sets b 0 (answers_words calls (replicate (length calls) a))
  refuse-none b =
      let e : length calls - 0 ≡ length calls = omega arith in
      rw e refl

  pub refuse-more : (b bs : List ℕ) (i : ℕ) → i < length calls → bs ≡ sets b (5 * i) (answer_words (get_or calls i 0) a)
      → sets bs (5 * (i + 1)) (answers_words (drop (i + 1) calls) (replicate (length calls - (i + 1)) a)) ≡ sets b (5 * i) (answers_words (drop i calls) (replicate (length calls - i) a))
  refuse-more b bs i h e =
      let f : length calls - i ≡ suc (length calls - (i + 1)) = omega arith in
      rw f (words-next b bs calls i a (replicate (length calls - (i + 1)) a) h e)

-- five for each
pub answers_words-length : (calls : List ℕ) (answers : List Answer) → length answers ≡ length calls → length (answers_words calls answers) ≡ 5 * length calls
unfolding answers_words
answers_words-length [] answers e = refl
answers_words-length (w ∷ calls) [] e = absurd (omega arith)
answers_words-length (w ∷ calls) (a ∷ rest) e = let h = answers_words-length calls rest (omega arith) in omega arith

-- a call as a word
module _ (w : ℕ) where
  pub call_at-both : w < 256 → Both w ≡ call_at w
  unfolding call_at
  call_at-both h = rw (lt-ltb w 256 h) refl

  pub call_at-grant : 256 ≤ w → w < 512 → Grant (w - 256) ≡ call_at w
  unfolding call_at
  call_at-grant h l = rw (le-ltb w 256 h, lt-ltb w 512 l) refl

  pub call_at-finish : (k : ℕ) → 512 ≤ w → k ≡ min (w - 512) 255 → Finish k ≡ call_at w
  unfolding call_at
  call_at-finish k h e = rw (le-ltb w 256 (omega arith), le-ltb w 512 h, e) refl
