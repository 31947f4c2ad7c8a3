-- Document 02, slip 6: "the same distances, answers and states after as the full table that the reader makes".
--     is_unfit-own     the words that the reader makes are never what 11 is for
--     by_rows-unfit, by_rows-short     11, then 16, each changes nothing
--     by_rows-fit, by_rows-enough     with 64 words a request by rows is the request with the reader's words
--     all_by_rows-enough     so is a list of them
--     free-same, free-front     the words are left free
use Prim.Native.Nat.{ℕ, ◌+◌, ◌<◌, ◌≤◌}
use mathlib.Core.Path.{◌≡◌, refl, sym, ap, ◌∙◌}
use mathlib.Core.Bool.{Bool, true, false, ◌||◌}
use mathlib.Core.List.{List, [], ◌∷◌, ◌++◌}
use native.Mathlib.Decide.{dec_le}
use native.Mathlib.Omega.{arith}
use lib.ListN.{length, take, drop, length-append, take-append-drop, drop_of_length-le}
use lib.Seq.{length-take-le, drop_at}
use borrow.Author.Tests.{lt-ltb, le-ltb}
use Rattle.model.specs.declared.Model.{Model}
use Rattle.model.specs.declared.Thread.{Thread}
use Rattle.model.specs.Refusal.{accepted, unfit, short_table}
use Rattle.model.specs.Rules.{model_fault}
use Rattle.tables.specs.Word.{words_of}
use Rattle.tables_laws.proofs.WordLaws.{words_of-length, words_of-fit}
use Rattle.early.specs.declared.Site.{Site}
use Rattle.early.specs.Fit.{is_fit_word, is_unfit_words, is_unfit_state, is_unfit}
use Rattle.early.specs.Request.{refused_with, request_fit, request_of, listed_by, requests_of}
use Rattle.early.specs.ByRows.{request_by_rows, LeftFree, requests_by_rows}
use Rattle.early_laws.proofs.FitLaws.{→is_unfit_words, state-fit}

module _ (m : Model) (kept : model_fault m ≡ accepted) where
  pub own-words : is_unfit_words m (words_of m) ≡ false
  unfolding is_fit_word
  own-words = →is_unfit_words m (words_of m) (omega (arith, words_of-length m)) (λ i h. words_of-fit m kept i h)

module _ (m : Model) (site : Site) (ts : List Thread) where
  pub is_unfit-own : is_unfit m (words_of m) site ts ≡ is_unfit_state m site ts
  unfolding is_unfit
  is_unfit-own = go (is_unfit_state m site ts) refl
    where
      go : (u : Bool) → is_unfit_state m site ts ≡ u → (u || is_unfit_words m (words_of m)) ≡ u
      go true e = refl
      go false e = own-words m (state-fit m site ts e).0

  module _ (marks : List (List Bool)) (lent k : ℕ) where
    pub by_rows-unfit : is_unfit_state m site ts ≡ true → request_by_rows m marks lent site ts k ≡ refused_with unfit site ts
    unfolding request_by_rows
    by_rows-unfit e = rw e refl

    pub by_rows-short : is_unfit_state m site ts ≡ false → lent < 64 → request_by_rows m marks lent site ts k ≡ refused_with short_table site ts
    unfolding request_by_rows
    by_rows-short e h = rw (e, lt-ltb lent 64 h) refl

    pub by_rows-fit : is_unfit_state m site ts ≡ false → 64 ≤ lent → request_by_rows m marks lent site ts k ≡ request_fit m marks (words_of m) site ts k
    unfolding request_by_rows
    by_rows-fit e h = rw (e, le-ltb lent 64 h) refl

    pub by_rows-enough : 64 ≤ lent → request_by_rows m marks lent site ts k ≡ request_of m marks (words_of m) site ts k
    unfolding request_by_rows request_of
    by_rows-enough h = rw (le-ltb lent 64 h, is_unfit-own) refl

module _ (m : Model) (marks : List (List Bool)) (lent : ℕ) where
  pub all_by_rows-enough : 64 ≤ lent → (ks : List ℕ) (site : Site) (ts : List Thread) → requests_by_rows m marks lent site ts ks ≡ requests_of m marks (words_of m) site ts ks
  unfolding listed_by
  all_by_rows-enough h [] site ts = refl
  all_by_rows-enough h (k ∷ ks) site ts =
      rw (by_rows-enough m site ts marks lent k h, all_by_rows-enough h ks (request_of m marks (words_of m) site ts k).site (request_of m marks (words_of m) site ts k).threads) refl

-- the words: none is touched, or the first 64 are
pub free-same : (row : List ℕ) → LeftFree row row
free-same row = record { as_many = refl; past = refl }

pub free-front : (row front : List ℕ) → length front ≡ length (take 64 row) → LeftFree row (front ++ drop 64 row)
free-front row front e = go (dec_le 64 (length row))
  where
    whole : take 64 row ++ drop 64 row ≡ row
    whole = take-append-drop 64 row

    size : length (front ++ drop 64 row) ≡ length row
    size = length-append front (drop 64 row) ∙ (ap (λ (n : ℕ). n + length (drop 64 row)) e ∙ (sym (length-append (take 64 row) (drop 64 row)) ∙ ap length whole))

    go : Dec (64 ≤ length row) → LeftFree row (front ++ drop 64 row)
    go (yes h) = record { as_many = size; past = drop_at front (drop 64 row) 64 (e ∙ length-take-le 64 row h) }
    go (no h) =
        record {
          as_many = size;
          past = drop_of_length-le (front ++ drop 64 row) {i = 64} (omega (arith, size)) ∙ sym (drop_of_length-le row {i = 64} (omega arith));
        }
