-- The exits of the functions that make the words, one law for each.
use Prim.Native.Nat.{ℕ, zero, suc, min, ◌+◌, ◌*◌, ◌/◌, ◌≤◌, ◌<◌}
use mathlib.Core.Path.{◌≡◌, refl, ◌∙◌}
use mathlib.Core.List.{List}
use native.Mathlib.Omega.{arith}
use native.Mathlib.Nat.{mul-le-mul}
use native.Mathlib.Numerals.{add-one}
use lib.Dec.{ltb}
use lib.ListN.{length, get_or, set, take, length-take}
use lib.Seq.{get_or-take}
use borrow.Author.Tests.{lt-ltb, le-ltb, eq-eqb, ne_eqb}
use Rattle.base.proofs.BoolLaws.{cond-case}
use Rattle.base.proofs.ListLaws.{get_d_any}
use Rattle.base.proofs.IndexLaws.{store_to-more, store_to-left, store_to-length}
use Rattle.clock.specs.declared.Delay.{Delay}
use Rattle.clock.specs.declared.Wait.{Wait}
use Rattle.clock.specs.declared.Wait.TheVariants as wait
use Rattle.clock.specs.declared.Passage.TheVariants.{DeltaNotification, ZeroWait, TimedWait}
use Rattle.clock.specs.Passage.{passage_of}
use Rattle.clock.specs.Advance.{advance_of}
use Rattle.clock.proofs.PassageLaws.{passage-none, passage-units}
use Rattle.clock.proofs.AdvanceLaws.{advance-delta-notification, advance-zero-wait, advance-timed-wait}
use Rattle.model.specs.declared.Next.{Next}
use Rattle.model.specs.declared.Closer.{Closer}
use Rattle.model.specs.declared.Closer.TheVariants.{End, Time, Event}
use Rattle.model.specs.declared.Segment.{Segment}
use Rattle.model.specs.declared.Model.{Model}
use Rattle.model.specs.Values.{no_segment, segment_at}
use Rattle.model.specs.Rules.{model_fault}
use Rattle.model_rules.proofs.RuleLaws.{model_fault-counts}
use Rattle.tables_distance.specs.declared.Steps.{Steps}
use Rattle.tables.specs.Word.{all_ones, word_of}
use Rattle.tables_distance.specs.Store.{far, held_word, sum_word, steps_of, direct_word, direct_to, direct_rows, relaxed_to, round_to, rounds_to, cut_word, cut_to}

module _ (a b : ℕ) where
  pub sum_word-far : far ≤ b → far ≡ sum_word a b
  unfolding sum_word
  sum_word-far h = rw (le-ltb b far h) refl

  pub sum_word-none : b < 1024 → a + b ≡ sum_word a b
  unfolding sum_word
  sum_word-none h = rw (lt-ltb b far (omega arith), lt-ltb b 1024 h) refl

  pub sum_word-more : b < far → 1024 ≤ b → a / 1024 * 1024 + b ≡ sum_word a b
  unfolding sum_word
  sum_word-more h l = rw (lt-ltb b far h, le-ltb b 1024 l) refl

-- the word of a step, by the cases of the clock
module _ (w : Wait) where
  pub word-delta-notification : passage_of w ≡ DeltaNotification → 1 ≡ held_word (advance_of w)
  unfolding held_word word_of
  word-delta-notification e = rw (advance-delta-notification w e) refl

  pub word-zero-wait : passage_of w ≡ ZeroWait → 1 ≡ held_word (advance_of w)
  unfolding held_word word_of
  word-zero-wait e = rw (advance-zero-wait w e) refl

  pub word-timed-wait : (k : Delay) → passage_of w ≡ TimedWait k → min far (k.0 * 1024) ≡ held_word (advance_of w)
  unfolding held_word word_of
  word-timed-wait k e = rw (advance-timed-wait w k e) (omega arith)

module _ (k : Delay) where
  pub units_word-none : k.0 ≡ 0 → 1 ≡ held_word (advance_of (wait.Time k))
  units_word-none e = word-zero-wait (wait.Time k) (passage-none k e)

  pub units_word-more : 0 < k.0 → min far (k.0 * 1024) ≡ held_word (advance_of (wait.Time k))
  units_word-more other = word-timed-wait (wait.Time k) k (passage-units k other)

module _ (x : Closer) where
  pub steps_of-end : x ≡ End → record { a = 0; b = 0; word = far } ≡ steps_of x
  unfolding steps_of
  steps_of-end e = rw e refl

  pub steps_of-time : (k : Delay) (y : Next) (w : ℕ) → x ≡ Time k y → w ≡ held_word (advance_of (wait.Time k)) → record { a = y.a; b = y.b; word = w } ≡ steps_of x
  unfolding steps_of
  steps_of-time k y w e f = rw (e, f) refl

  pub steps_of-event : (w v : ℕ) (y : Next) → x ≡ Event w y → v ≡ held_word (advance_of wait.Event) → record { a = y.a; b = y.b; word = v } ≡ steps_of x
  unfolding steps_of
  steps_of-event w v y e f = rw (e, f) refl

module _ (g : Steps) (r s : ℕ) where
  pub direct_word-self : r ≡ s → 0 ≡ direct_word g r s
  unfolding direct_word
  direct_word-self e = rw (eq-eqb r s e) refl

  pub direct_word-first : (r ≡ s → ⊥) → g.a ≡ s → g.word ≡ direct_word g r s
  unfolding direct_word
  direct_word-first other e = rw (ne_eqb r s other, eq-eqb g.a s e) refl

  pub direct_word-second : (r ≡ s → ⊥) → (g.a ≡ s → ⊥) → g.b ≡ s → g.word ≡ direct_word g r s
  unfolding direct_word
  direct_word-second other f e = rw (ne_eqb r s other, ne_eqb g.a s f, eq-eqb g.b s e) refl

  pub direct_word-none : (r ≡ s → ⊥) → (g.a ≡ s → ⊥) → (g.b ≡ s → ⊥) → far ≡ direct_word g r s
  unfolding direct_word
  direct_word-none other f e = rw (ne_eqb r s other, ne_eqb g.a s f, ne_eqb g.b s e) refl

-- the stores, one more: a lesser sum is stored, any other leaves the word

module _ (a p q : ℕ) (ws : List ℕ) (j : ℕ) (vs : List ℕ) (c : ℕ) (e : vs ≡ relaxed_to a p q ws j) (f : c ≡ sum_word a (get_or vs (q + j) 0)) where
  pub relaxed_to-stored : c < get_or vs (p + j) 0 → set vs (p + j) c ≡ relaxed_to a p q ws (j + 1)
  relaxed_to-stored h = store_to-more _ p ws j (p + j) vs c e refl (omega arith)

  pub relaxed_to-left : get_or vs (p + j) 0 ≤ c → vs ≡ relaxed_to a p q ws (j + 1)
  relaxed_to-left h = store_to-left _ p ws 0 j (p + j) vs e refl (omega arith)

module _ (n k : ℕ) (ws : List ℕ) where
  pub round_to-length : (i : ℕ) → length (round_to n k ws i) ≡ length ws
  unfolding round_to
  round_to-length zero = refl
  round_to-length (suc i) =
      cond-case (λ (vs : List ℕ). length vs ≡ length ws) (ltb (get_or (round_to n k ws i) (i * n + k) 0) far)
      (λ t. store_to-length _ (i * n) (round_to n k ws i) n ∙ round_to-length i)
      (λ t. round_to-length i)

  pub round_to-none : ws ≡ round_to n k ws 0
  unfolding round_to
  round_to-none = refl

  pub round_to-relaxed : (i p q a : ℕ) (vs us : List ℕ) → vs ≡ round_to n k ws i → p ≡ i * n → q ≡ k * n → a ≡ get_or vs (p + k) 0 → a < far → us ≡ relaxed_to a p q vs n → us ≡ round_to n k ws (i + 1)
  unfolding round_to
  round_to-relaxed i p q a vs us e f g d h l = rw (add-one, ← e, ← f, ← g, ← d, lt-ltb a far h) l

  pub round_to-left : (i p a : ℕ) (vs : List ℕ) → vs ≡ round_to n k ws i → p ≡ i * n → a ≡ get_or vs (p + k) 0 → far ≤ a → vs ≡ round_to n k ws (i + 1)
  unfolding round_to
  round_to-left i p a vs e f d h = rw (add-one, ← e, ← f, ← d, le-ltb a far h) refl

module _ (n : ℕ) (ws : List ℕ) where
  pub rounds_to-length : (k : ℕ) → length (rounds_to n ws k) ≡ length ws
  unfolding rounds_to
  rounds_to-length zero = refl
  rounds_to-length (suc k) = round_to-length n k (rounds_to n ws k) n ∙ rounds_to-length k

  pub rounds_to-none : ws ≡ rounds_to n ws 0
  unfolding rounds_to
  rounds_to-none = refl

  pub rounds_to-more : (k : ℕ) (vs us : List ℕ) → vs ≡ rounds_to n ws k → us ≡ round_to n k vs n → us ≡ rounds_to n ws (k + 1)
  unfolding rounds_to
  rounds_to-more k vs us e f = rw (add-one, ← e) f

module _ (ws : List ℕ) (i : ℕ) (vs : List ℕ) (e : vs ≡ cut_to ws i) where
  pub cut_to-stored : far ≤ get_or vs i 0 → set vs i all_ones ≡ cut_to ws (i + 1)
  unfolding cut_word
  cut_to-stored h = store_to-more _ 0 ws i i vs all_ones e (omega arith) (rw (le-ltb (get_or vs i 0) far h) refl)

  pub cut_to-left : get_or vs i 0 < far → vs ≡ cut_to ws (i + 1)
  unfolding cut_word
  cut_to-left h = store_to-left _ 0 ws 0 i i vs e (omega arith) (rw (lt-ltb (get_or vs i 0) far h) refl)

module _ (m : Model) (ws : List ℕ) where
  pub direct_rows-length : (r : ℕ) → length (direct_rows m ws r) ≡ length ws
  unfolding direct_rows
  direct_rows-length zero = refl
  direct_rows-length (suc r) = store_to-length _ (r * m.n) (direct_rows m ws r) m.n ∙ direct_rows-length r

  pub direct_rows-none : ws ≡ direct_rows m ws 0
  unfolding direct_rows
  direct_rows-none = refl

  pub direct_rows-more : (r n : ℕ) (g : Steps) (d : Segment) (vs us : List ℕ) → n ≡ m.n → r < length (take n m.segments) → vs ≡ direct_rows m ws r → g ≡ steps_of (get_or (take n m.segments) r d).closer → us ≡ direct_to g r (r * n) vs n → us ≡ direct_rows m ws (r + 1)
  unfolding direct_rows segment_at
  direct_rows-more r n g d vs us e h f z l =
      let size = length-take n m.segments in
      let read : get_or (take n m.segments) r d ≡ get_or m.segments r no_segment = get_or-take n m.segments r d (omega arith) ∙ get_d_any m.segments r d no_segment (omega arith) in
      rw add-one (cc)

-- N × N is small
pub square-small : (m : Model) → model_fault m ≡ 0 → m.n * m.n ≤ 4096
square-small m e = let h = (model_fault-counts m e).segments in mul-le-mul {n₁ = m.n} {m₁ = m.n} {n₂ = 64} {m₂ = 64} h h
