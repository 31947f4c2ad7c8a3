-- The words hold the distances: each at its place, none lost in the packing, all of them fit.
--     words_of-length, words_of-at, distance_in-words_of, words_of-fit     the words that the reader makes
--     stored-length, stored_at, stored_past     a buffer after they are stored
use Prim.Native.Nat.{ℕ, zero, suc, ◌+◌, ◌*◌, ◌-◌, ◌/◌, ◌%◌, ◌^◌, ◌≤◌, ◌<◌}
use mathlib.Core.Path.{◌≡◌, refl, ap, sym, ◌∙◌}
use mathlib.Core.Bool.{◌||◌}
use mathlib.Core.Logic.{inr}
use mathlib.Core.List.{List, ◌++◌}
use native.Mathlib.Omega.{arith}
use native.Mathlib.Nat.{zero-add, suc-mul, mul-le-mul_right, div-add-mod', div-lt_iff_lt-mul, mod-lt}
use lib.Dec.{T, ltb, eqb, eqb→eq, lt→ltb, not_T}
use lib.ListN.{length, get_or, drop, length-append, length-drop, get_or-append}
use lib.Seq.{get_or-append-add, get_or-drop}
use Rattle.base.specs.Index.{tabulate}
use Rattle.base.proofs.BoolLaws.{T→false, either→or}
use Rattle.base.proofs.IndexLaws.{tabulate-length, tabulate-at}
use Rattle.clock.specs.declared.Cycle.{Cycle}
use Rattle.clock.specs.declared.Bound.{Bound}
use Rattle.clock.specs.declared.Bound.TheVariants.{Never, At}
use Rattle.clock.proofs.OrderLaws.{cycle-path}
use Rattle.model.specs.declared.Model.{Model}
use Rattle.model.specs.Limits.{cut_time}
use Rattle.model.specs.Rules.{model_fault}
use Rattle.model_rules.proofs.RuleLaws.{model_fault-counts}
use Rattle.tables.specs.Distance.{distance_table, distance_of, cell, cut}
use Rattle.tables.specs.Word.{all_ones, word_of, bound_of, joined, words_of, stored, distance_in, HoldsDistances}
use Rattle.tables_laws.proofs.DistanceLaws.{distance_of-is, distance_of-time, distance_of-delta}

-- a packed cycle, taken apart again
packed-time : (t d : ℕ) → d < 1024 → (t * 1024 + d) / 1024 ≡ t
packed-time t d h = omega arith

packed-delta : (t d : ℕ) → d < 1024 → (t * 1024 + d) % 1024 ≡ d
packed-delta t d h = omega arith

-- what a word can hold: never, or a time and a delta in range
pub data IsPacked : Bound → Type 0 where
  never : IsPacked Never
  at : {c : Cycle} → c.time.0 < cut_time → c.delta.0 < 1024 → IsPacked (At c)

pub word_of-below : {b : Bound} → IsPacked b → word_of b < 2 ^ 64
unfolding word_of
word_of-below never = omega arith
word_of-below (at h l) = omega arith

pub bound_of-word_of : {b : Bound} → IsPacked b → bound_of (word_of b) ≡ b
unfolding word_of bound_of
bound_of-word_of never = refl
bound_of-word_of (at {c = c} h l) =
    rw (T→false (eqb (c.time.0 * 1024 + c.delta.0) all_ones) (not_T (eqb (c.time.0 * 1024 + c.delta.0) all_ones) (λ t. let e = eqb→eq (c.time.0 * 1024 + c.delta.0) all_ones t in omega arith)))
    (ap At (cycle-path (packed-time c.time.0 c.delta.0 l) (packed-delta c.time.0 c.delta.0 l)))

-- all ones, or a time below the cut
pub word_of-fit : {b : Bound} → IsPacked b → T (eqb (word_of b) all_ones || ltb (word_of b / 1024) cut_time)
unfolding word_of
word_of-fit never = tt
word_of-fit (at {c = c} h l) =
    either→or (eqb (c.time.0 * 1024 + c.delta.0) all_ones) (ltb ((c.time.0 * 1024 + c.delta.0) / 1024) cut_time)
    (inr (lt→ltb ((c.time.0 * 1024 + c.delta.0) / 1024) cut_time (omega arith)))

-- rows of n, one after the other

module _ (n : ℕ) (f : ℕ → ℕ → ℕ) where
  abbrev row_of : ℕ → List ℕ
  row_of r = tabulate n 0 (λ s. f r s)

  pub joined_length : (k i : ℕ) → length (joined (tabulate k i row_of)) ≡ k * n
  unfolding joined tabulate
  joined_length zero i = omega arith
  joined_length (suc k) i =
      length-append (row_of i) (joined (tabulate k (i + 1) row_of)) ∙ omega (arith, tabulate-length n 0 (λ s. f i s), joined_length k (i + 1), suc-mul k n)

  pub joined_at : (k i r s : ℕ) → r < k → s < n → get_or (joined (tabulate k i row_of)) (r * n + s) 0 ≡ f (i + r) s
  unfolding joined tabulate
  joined_at zero i r s h l = absurd (omega arith)
  joined_at (suc k) i zero s h l =
      let e : 0 * n + s ≡ s = omega arith in
      let g : i ≡ i + 0 = omega arith in
      ap (λ (x : ℕ). get_or (row_of i ++ joined (tabulate k (i + 1) row_of)) x 0) e
      ∙ (get_or-append (row_of i) (joined (tabulate k (i + 1) row_of)) 0 s (omega (arith, tabulate-length n 0 (λ s. f i s)))
      ∙ (tabulate-at n 0 s (λ s. f i s) 0 l ∙ (ap (λ (x : ℕ). f i x) (zero-add s) ∙ ap (λ (x : ℕ). f x s) g)))
  joined_at (suc k) i (suc r) s h l =
      let e : suc r * n + s ≡ length (row_of i) + (r * n + s) = omega (arith, tabulate-length n 0 (λ s. f i s), suc-mul r n) in
      let g : i + 1 + r ≡ i + suc r = omega arith in
      ap (λ (x : ℕ). get_or (row_of i ++ joined (tabulate k (i + 1) row_of)) x 0) e
      ∙ (get_or-append-add (row_of i) (joined (tabulate k (i + 1) row_of)) (r * n + s) 0
      ∙ (joined_at k (i + 1) r s (omega arith) l ∙ ap (λ (x : ℕ). f x s) g))

-- row r of n places ends before row i begins
pub row_before : (n r i : ℕ) → r < i → r * n + n ≤ i * n
row_before n r i h = omega (arith, mul-le-mul_right {m = suc r} {n = i} n h, suc-mul r n)

-- row i lies within N × N
pub row_within : (n i : ℕ) → i < n → i * n + n ≤ n * n
row_within n i h = row_before n i n h

-- "The word from r to s stands at place r × N + s": below N × N, and each such place is one
pub place-below : (n r s : ℕ) → r < n → s < n → r * n + s < n * n
place-below n r s h l = omega (arith, row_within n r h)

pub place-row : (n i : ℕ) → i < n * n → i / n < n
place-row n i h = (div-lt_iff_lt-mul {k = n} {x = i} {y = n} (positive n h)).1 h
  where
    positive : (n : ℕ) → i < n * n → 0 < n
    positive zero l = omega arith
    positive (suc k) l = omega arith

pub place-column : (n i : ℕ) → i < n * n → i % n < n
place-column zero i h = absurd (omega arith)
place-column (suc k) i h = mod-lt i (omega arith)

pub place-split : (n i : ℕ) → i ≡ i / n * n + i % n
place-split n i = sym (div-add-mod' i n)

module _ (m : Model) where
  pub words_of-length : length (words_of m) ≡ m.n * m.n
  unfolding words_of
  words_of-length = joined_length m.n (λ r s. word_of (cut (cell (distance_table m) r s))) m.n 0

  pub words_of-at : (r s : ℕ) → r < m.n → s < m.n → get_or (words_of m) (r * m.n + s) 0 ≡ word_of (distance_of m r s)
  unfolding words_of distance_of
  words_of-at r s h l =
      joined_at m.n (λ r s. word_of (cut (cell (distance_table m) r s))) m.n 0 r s h l
      ∙ ap (λ (x : ℕ). word_of (cut (cell (distance_table m) x s))) (zero-add r)

  module _ (fit : model_fault m ≡ 0) where
    pub distance_of-packed : (r s : ℕ) → r < m.n → s < m.n → IsPacked (distance_of m r s)
    distance_of-packed r s h l = go (distance_of m r s) (λ c e. distance_of-time m r s h l e) (λ c e. distance_of-delta m r s h l e)
      where
        go : (b : Bound) → ((c : Cycle) → b ≡ At c → c.time.0 < cut_time) → ((c : Cycle) → b ≡ At c → c.delta.0 < m.n) → IsPacked b
        go Never t d = never
        go (At c) t d = at {c = c} (t c refl) (omega (arith, d c refl, (model_fault-counts m fit).segments))

    pub distance_in-words_of : (r s : ℕ) → r < m.n → s < m.n → distance_in m (words_of m) r s ≡ distance_of m r s
    unfolding distance_in
    distance_in-words_of r s h l = rw (words_of-at r s h l) (bound_of-word_of (distance_of-packed r s h l))

    -- and so does a buffer that begins with them
    pub stored-holds : (ws : List ℕ) → HoldsDistances m (stored m ws)
    unfolding stored distance_in
    stored-holds ws =
        record {
          each = λ r s h l.
              let inside : r * m.n + s < length (words_of m) = (let below : suc r * m.n ≤ m.n * m.n = mul-le-mul_right m.n h in omega (arith, words_of-length, suc-mul r m.n)) in
              let same : get_or (words_of m ++ drop (m.n * m.n) ws) (r * m.n + s) 0 ≡ get_or (words_of m) (r * m.n + s) 0 = get_or-append (words_of m) (drop (m.n * m.n) ws) 0 (r * m.n + s) inside in
              rw (same, distance_in-words_of r s h l) (distance_of-is m r s h l);
        }

    pub words_of-word : (i : ℕ) → i < m.n * m.n → get_or (words_of m) i 0 ≡ word_of (distance_of m (i / m.n) (i % m.n))
    words_of-word i h =
        ap (λ (x : ℕ). get_or (words_of m) x 0) (place-split m.n i)
        ∙ words_of-at (i / m.n) (i % m.n) (place-row m.n i h) (place-column m.n i h)

    pub words_of-fit : (i : ℕ) → i < m.n * m.n → T (eqb (get_or (words_of m) i 0) all_ones || ltb (get_or (words_of m) i 0 / 1024) cut_time)
    words_of-fit i h = rw (words_of-word i h) (word_of-fit (distance_of-packed (i / m.n) (i % m.n) (place-row m.n i h) (place-column m.n i h)))

    pub words_of-below : (i : ℕ) → i < m.n * m.n → get_or (words_of m) i 0 < 2 ^ 64
    words_of-below i h = rw (words_of-word i h) (word_of-below (distance_of-packed (i / m.n) (i % m.n) (place-row m.n i h) (place-column m.n i h)))

  module _ (buffer : List ℕ) (room : m.n * m.n ≤ length buffer) where
    pub stored-length : length (stored m buffer) ≡ length buffer
    unfolding stored
    stored-length = length-append (words_of m) (drop (m.n * m.n) buffer) ∙ omega (arith, words_of-length, length-drop (m.n * m.n) buffer)

    pub stored_at : (i : ℕ) → i < m.n * m.n → get_or (stored m buffer) i 0 ≡ get_or (words_of m) i 0
    unfolding stored
    stored_at i h = get_or-append (words_of m) (drop (m.n * m.n) buffer) 0 i (omega (arith, words_of-length))

    pub stored_past : (i : ℕ) → m.n * m.n ≤ i → get_or (stored m buffer) i 0 ≡ get_or buffer i 0
    unfolding stored
    stored_past i h =
        let e : i ≡ length (words_of m) + (i - m.n * m.n) = omega (arith, words_of-length) in
        let g : m.n * m.n + (i - m.n * m.n) ≡ i = omega arith in
        ap (λ (x : ℕ). get_or (words_of m ++ drop (m.n * m.n) buffer) x 0) e
        ∙ (get_or-append-add (words_of m) (drop (m.n * m.n) buffer) (i - m.n * m.n) 0
        ∙ (get_or-drop (m.n * m.n) buffer (i - m.n * m.n) 0 ∙ ap (λ (x : ℕ). get_or buffer x 0) g))
