-- The threads of a cycle, each in its row: what they do is what they do in their segments after mapping.
--     in_segments     the same locals, with the segments that stand in the rows
--     ran-mapped, turn-mapped, turns-mapped, cycle-mapped     one thread that runs, one that is looked at, and the threads of a cycle
use Prim.Native.Nat.{ℕ, zero, suc, ◌+◌, ◌<◌, ◌≤◌}
use mathlib.Core.Path.{◌≡◌, refl, ap, sym, ◌∙◌, subst}
use mathlib.Core.Logic.{◌⊎◌, inl, inr}
use mathlib.Core.List.{List}
use native.Mathlib.Omega.{arith}
use native.Mathlib.Decide.{ℕ_discrete, dec_lt}
use lib.ListN.{get_or, set}
use lib.Seq.{get_or-set_other}
use Rattle.plain_words.specs.Unpack.{end_by, follow_by}
use Rattle.plain_words.specs.Ports.{words_for}
use Rattle.plain_words.specs.Shared.{execute_by}
use Rattle.plain_words.specs.Rows.{Rowed, InRows, segment_by, segments_by, IsPlain}
use Rattle.plain_words.proofs.RowLaws.{segments_by-at, segments_by-set, acts-here, acts-follow, rows-follow}
use Rattle.plain_state.specs.Words.{close_word}
use Rattle.plain_state.specs.Turn.{Locals, locals, waited_by, ran_by, turn_on, turns_to}
use Rattle.plain_state.proofs.ExitLaws.{turn_on-passed, turn_on-full, turn_on-ran, ran-as}
use Rattle.plain_state.proofs.DueLaws.{turn_on-or, turns_to-state}

-- the same locals, with the segments that stand in the rows
abbrev pub in_segments : List ℕ → Locals → Locals
in_segments held x = record { shared = x.shared; state = x.state; segments = segments_by held x.segments; n = x.n }

module _ (code held : List ℕ) (rowed : Rowed code held) (now budget : ℕ) where
  -- every thread runs the words of its row
  abbrev rows : ℕ → List ℕ
  rows k = code

  abbrev words : ℕ → List ℕ
  words = words_for code

  module _ (k : ℕ) (h : k < 32) (x : Locals) (placed : InRows held x.segments) where
    abbrev row : ℕ
    row = get_or x.segments k 0

    ran-mapped : IsPlain code row → in_segments held (ran_by rows now k x) ≡ ran_by words now k (in_segments held x)
    ran-mapped plain =
        let s = segment_by (get_or held k 0) row in
        let at : get_or (segments_by held x.segments) k 0 ≡ s = segments_by-at held x.segments k h in
        let acts = acts-here code held x.segments rowed placed k h plain in
        let y = execute_by code row x.shared in
        let run : y ≡ execute_by (words k) (get_or (segments_by held x.segments) k 0) x.shared = rw at (acts.execute x.shared) in
        let end : end_by code row ≡ end_by (words k) (get_or (segments_by held x.segments) k 0) = rw at acts.end in
        let next : segment_by (get_or held k 0) (follow_by code row y.variables) ≡ follow_by (words k) (get_or (segments_by held x.segments) k 0) y.variables = rw at (acts-follow code k row s acts (get_or held k 0) refl y.variables) in
        ap (λ (ss : List ℕ). locals y.variables (set x.state k (close_word (end_by code row) now)) ss y.told (waited_by (end_by code row) k y.ranges) (x.n + 1)) (segments_by-set held x.segments k (follow_by code row y.variables) placed.threads h) ∙
        ran-as words now k (in_segments held x) y.variables y.told y.ranges (waited_by (end_by code row) k y.ranges) (end_by code row) (close_word (end_by code row) now) (segment_by (get_or held k 0) (follow_by code row y.variables)) run end refl refl next

    pub turn-mapped : (get_or x.state k 0 ≡ now → IsPlain code row) → in_segments held (turn_on rows now budget k x) ≡ turn_on words now budget k (in_segments held x)
    turn-mapped plain = go (ℕ_discrete (get_or x.state k 0) now) (dec_lt x.n budget)
      where
        go : Dec (get_or x.state k 0 ≡ now) → Dec (x.n < budget) → in_segments held (turn_on rows now budget k x) ≡ turn_on words now budget k (in_segments held x)
        go (no d) r = ap (in_segments held) (sym (turn_on-passed rows now budget k x d)) ∙ turn_on-passed words now budget k (in_segments held x) d
        go (yes d) (no r) = ap (in_segments held) (sym (turn_on-full rows now budget k x (omega arith))) ∙ turn_on-full words now budget k (in_segments held x) (omega arith)
        go (yes d) (yes r) = ap (in_segments held) (sym (turn_on-ran rows now budget k x d r)) ∙ (ran-mapped (plain d) ∙ turn_on-ran words now budget k (in_segments held x) d r)

    turn-placed : InRows held (turn_on rows now budget k x).segments
    turn-placed = go (turn_on-or rows now budget k x)
      where
        go : (x ≡ turn_on rows now budget k x) ⊎ ((get_or x.state k 0 ≡ now) × (ran_by rows now k x ≡ turn_on rows now budget k x)) → InRows held (turn_on rows now budget k x).segments
        go (inl e) = subst (λ (y : Locals). InRows held y.segments) e placed
        go (inr (d, e)) = subst (λ (y : Locals). InRows held y.segments) e (rows-follow code held x.segments k h placed (execute_by code row x.shared).variables)

  turn_on-others : (k : ℕ) (x : Locals) (j : ℕ) → (j ≡ k → ⊥) → get_or (turn_on rows now budget k x).segments j 0 ≡ get_or x.segments j 0
  turn_on-others k x j n = go (turn_on-or rows now budget k x)
    where
      go : (x ≡ turn_on rows now budget k x) ⊎ ((get_or x.state k 0 ≡ now) × (ran_by rows now k x ≡ turn_on rows now budget k x)) → get_or (turn_on rows now budget k x).segments j 0 ≡ get_or x.segments j 0
      go (inl e) = ap (λ (y : Locals). get_or y.segments j 0) (sym e)
      go (inr (d, e)) = ap (λ (y : Locals). get_or y.segments j 0) (sym e) ∙ get_or-set_other x.segments k j _ 0 n

  -- the threads of a cycle, those that are due in rows that can be run
  module _ (x : Locals) (placed : InRows held x.segments) where
    others : (j i : ℕ) → j ≤ i → get_or (turns_to rows now budget j x).segments i 0 ≡ get_or x.segments i 0
    unfolding turns_to
    others zero i h = refl
    others (suc j) i h = turn_on-others j (turns_to rows now budget j x) i (λ q. omega arith) ∙ others j i (omega arith)

    pub turns-placed : (j : ℕ) → j ≤ 32 → InRows held (turns_to rows now budget j x).segments
    unfolding turns_to
    turns-placed zero h = placed
    turns-placed (suc j) h = turn-placed j (omega arith) (turns_to rows now budget j x) (turns-placed j (omega arith))

    pub turns-mapped : (j : ℕ) → j ≤ 32 → ((k : ℕ) → k < j → get_or x.state k 0 ≡ now → IsPlain code (get_or x.segments k 0)) → in_segments held (turns_to rows now budget j x) ≡ turns_to words now budget j (in_segments held x)
    unfolding turns_to
    turns-mapped zero h plain = refl
    turns-mapped (suc j) h plain =
        let y = turns_to rows now budget j x in
        turn-mapped j (omega arith) y (turns-placed j (omega arith)) (λ d. rw (others j j (omega arith)) (plain j (omega arith) (sym (turns_to-state rows now budget x j j (omega arith)) ∙ d))) ∙
        ap (turn_on words now budget j) (turns-mapped j (omega arith) (λ k l. plain k (omega arith)))

    -- a cycle that looks at the threads from one on and before another
    module _ (from to : ℕ) (h : to ≤ 32) (idle : (k : ℕ) → k < from → get_or x.state k 0 ≡ now → ⊥) (plain : (k : ℕ) → from ≤ k → k < to → IsPlain code (get_or x.segments k 0)) (y : Locals) (ran : y ≡ turns_to rows now budget to x) where
      pub cycle-mapped : in_segments held y ≡ turns_to words now budget to (in_segments held x)
      cycle-mapped = ap (in_segments held) ran ∙ turns-mapped to h (λ k l d. at k l d (dec_lt k from))
        where
          at : (k : ℕ) → k < to → get_or x.state k 0 ≡ now → Dec (k < from) → IsPlain code (get_or x.segments k 0)
          at k l d (yes b) = absurd (idle k b d)
          at k l d (no b) = plain k (omega arith) l

      pub cycle-placed : InRows held y.segments
      cycle-placed = rw ran (turns-placed to h)
