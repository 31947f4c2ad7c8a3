-- What the code stores is what `stored` says: row by row the first words, round by round the least over ways with places below k between, then the cut.
use Prim.Native.Nat.{ℕ, zero, suc, min, ◌+◌, ◌*◌, ◌/◌, ◌%◌, ◌≤◌, ◌<◌}
use mathlib.Core.Path.{◌≡◌, refl, ap, ap₂, sym, ◌∙◌}
use mathlib.Core.Logic.{◌⊎◌, inl, inr}
use mathlib.Core.Bool.{cond}
use mathlib.Core.List.{List}
use native.Mathlib.Omega.{arith}
use native.Mathlib.Decide.{dec_lt, ℕ_discrete}
use lib.Dec.{ltb, nltb→le}
use lib.ListN.{length, get_or}
use lib.Seq.{ext_get_or}
use Rattle.base.proofs.BoolLaws.{cond-case}
use Rattle.base.proofs.IndexLaws.{store_to-length, store_to-other, store_to-at}
use Rattle.clock.specs.declared.Bound.{Bound}
use Rattle.model.specs.declared.Model.{Model}
use Rattle.model.specs.Values.{segment_at}
use Rattle.model.specs.Rules.{model_fault}
use Rattle.model_rules.proofs.RuleLaws.{model_fault-counts}
use Rattle.tables.specs.Distance.{edge, direct, cut, distance_table, distance_of}
use Rattle.tables.specs.Word.{word_of, stored}
use Rattle.tables_distance.specs.Store.{far, held_word, sum_word, steps_of, direct_word, direct_to, direct_rows, relaxed_to, round_to, rounds_to, cut_word, cut_to}
use Rattle.tables_laws.proofs.PathLaws.{least_via, least_via-row, rounds-least_via}
use Rattle.tables_laws.proofs.DeltaLaws.{StepsOnly, least_via-delta}
use Rattle.tables_laws.proofs.DistanceLaws.{edge-step}
use Rattle.tables_laws.proofs.WordLaws.{row_before, row_within, place-row, place-column, place-split, words_of-word, stored-length, stored_at, stored_past}
use Rattle.tables_distance.proofs.HeldLaws.{SmallDelta, held_word-≤, held_word-relaxed, held_word-left, ⊕-delta, cut_word-held_word, direct_word-held_word}
use Rattle.tables_distance.proofs.StoreLaws.{direct_rows-length, round_to-length, rounds_to-length}

-- a place of another row
other_row : (n r i s : ℕ) → (r ≡ i → ⊥) → s < n → (r * n + s < i * n) ⊎ (i * n + n ≤ r * n + s)
other_row n r i s other l = go (dec_lt r i)
  where
    go : Dec (r < i) → (r * n + s < i * n) ⊎ (i * n + n ≤ r * n + s)
    go (yes h) = inl (omega (arith, row_before n r i h))
    go (no h) = let h' : i < r = omega arith in inr (omega (arith, row_before n i r h'))

-- the stores of one row

module _ (a p q : ℕ) (ws : List ℕ) where
  -- the row that is read is the one that is written, or does not Meet it
  data Rows (n : ℕ) : Type 0 where
    same : q ≡ p → Rows n
    below : q + n ≤ p → Rows n
    above : p + n ≤ q → Rows n

  -- what is read at column j is as it was
  relaxed_to-read : (n j : ℕ) → j < n → Rows n → get_or (relaxed_to a p q ws j) (q + j) 0 ≡ get_or ws (q + j) 0
  relaxed_to-read n j h (same e) = store_to-other _ p ws 0 j (q + j) (inr (omega arith))
  relaxed_to-read n j h (below l) = store_to-other _ p ws 0 j (q + j) (inl (omega arith))
  relaxed_to-read n j h (above l) = store_to-other _ p ws 0 j (q + j) (inr (omega arith))

  relaxed_to-at : (n t : ℕ) → t < n → p + n ≤ length ws → Rows n → get_or (relaxed_to a p q ws n) (p + t) 0 ≡ min (get_or ws (p + t) 0) (sum_word a (get_or ws (q + t) 0))
  relaxed_to-at n t h l rows =
      store_to-at _ p ws 0 (λ t. min (get_or ws (p + t) 0) (sum_word a (get_or ws (q + t) 0))) n t (p + t) refl
      (λ j b. ap₂ (λ (x y : ℕ). min x (sum_word a y)) (store_to-other _ p ws 0 j (p + j) (inr (omega arith))) (relaxed_to-read n j b rows)) h l

-- the first words of all rows

module _ (m : Model) (ws : List ℕ) (room : m.n * m.n ≤ length ws) where
  direct_rows-past : (k i : ℕ) → k ≤ m.n → m.n * m.n ≤ i → get_or (direct_rows m ws k) i 0 ≡ get_or ws i 0
  unfolding direct_rows
  direct_rows-past zero i h l = refl
  direct_rows-past (suc k) i h l =
      store_to-other _ (k * m.n) (direct_rows m ws k) 0 m.n i (inr (omega (arith, row_within m.n k h)))
      ∙ direct_rows-past k i (omega arith) l

  direct_rows-at : (k r s : ℕ) → k ≤ m.n → r < k → s < m.n → get_or (direct_rows m ws k) (r * m.n + s) 0 ≡ direct_word (steps_of (segment_at m r).closer) r s
  unfolding direct_rows
  direct_rows-at zero r s h l b = absurd (omega arith)
  direct_rows-at (suc k) r s h l b = go (λ l. direct_rows-at k r s (omega arith) l b) (ℕ_discrete r k)
    where
      vs : List ℕ
      vs = direct_rows m ws k

      go :
          (r < k → get_or vs (r * m.n + s) 0 ≡ direct_word (steps_of (segment_at m r).closer) r s) → Dec (r ≡ k) →
          get_or (direct_to (steps_of (segment_at m k).closer) k (k * m.n) vs m.n) (r * m.n + s) 0 ≡ direct_word (steps_of (segment_at m r).closer) r s
      go ih (yes e) =
          rw e
          (store_to-at _ (k * m.n) vs 0 (λ s. direct_word (steps_of (segment_at m k).closer) k s) m.n s (k * m.n + s) refl (λ j b. refl) b
          (omega (arith, row_within m.n k h, direct_rows-length m ws k)))
      go ih (no e) =
          store_to-other _ (k * m.n) vs 0 m.n (r * m.n + s) (other_row m.n r k s e b) ∙ ih (omega arith)

-- one round: rows that are still to come, and places past the table

module _ (n k : ℕ) (ws : List ℕ) where
  round_to-later : (i r s : ℕ) → i ≤ r → s < n → get_or (round_to n k ws i) (r * n + s) 0 ≡ get_or ws (r * n + s) 0
  unfolding round_to
  round_to-later zero r s h l = refl
  round_to-later (suc i) r s h l =
      cond-case (λ (vs : List ℕ). get_or vs (r * n + s) 0 ≡ get_or ws (r * n + s) 0) (ltb (get_or (round_to n k ws i) (i * n + k) 0) far)
      (λ t.
      store_to-other _ (i * n) (round_to n k ws i) 0 n (r * n + s) (other_row n r i s (λ e. omega arith) l)
      ∙ round_to-later i r s (omega arith) l)
      (λ t. round_to-later i r s (omega arith) l)

  round_to-past : (i j : ℕ) → i ≤ n → n * n ≤ j → get_or (round_to n k ws i) j 0 ≡ get_or ws j 0
  unfolding round_to
  round_to-past zero j h l = refl
  round_to-past (suc i) j h l =
      cond-case (λ (vs : List ℕ). get_or vs j 0 ≡ get_or ws j 0) (ltb (get_or (round_to n k ws i) (i * n + k) 0) far)
      (λ t.
      store_to-other _ (i * n) (round_to n k ws i) 0 n j (inr (omega (arith, row_within n i h)))
      ∙ round_to-past i j (omega arith) l)
      (λ t. round_to-past i j (omega arith) l)

-- the row of place k is row i, or one before it or after it
rows_of : (n k i : ℕ) (a : ℕ) (vs : List ℕ) → Rows a (i * n) (k * n) vs n
rows_of n k i a vs = go (dec_lt k i) (dec_lt i k)
  where
    go : Dec (k < i) → Dec (i < k) → Rows a (i * n) (k * n) vs n
    go (yes h) _ = below (row_before n k i h)
    go (no h) (yes l) = above (row_before n i k l)
    go (no h) (no l) = let e : k ≡ i = omega arith in same (ap (λ (x : ℕ). x * n) e)

-- the words hold f
abbrev Holds : ℕ → (ℕ → ℕ → Bound) → List ℕ → Type 0
Holds n f ws = (r s : ℕ) → r < n → s < n → get_or ws (r * n + s) 0 ≡ held_word (f r s)

module _ (E : ℕ → ℕ → Bound) (steps : StepsOnly E) (n : ℕ) (few : n ≤ 64) where
  small : (k r s : ℕ) → k ≤ n → SmallDelta 65 (least_via E k r s)
  small k r s h c e = let d = least_via-delta E steps k r s e in omega arith

  smaller : {d : ℕ} {b : Bound} → d ≤ 1023 → SmallDelta d b → SmallDelta 1023 b
  smaller h p c e = let q = p c e in omega arith

  -- By induction on the rows. Row i is relaxed by the word from i to k, as it was before the round, and by row k, which the round does not change.
  round_to-done :
      (k : ℕ) (ws : List ℕ) → k < n → n * n ≤ length ws → Holds n (least_via E k) ws →
      (i r s : ℕ) → i ≤ n → r < i → s < n → get_or (round_to n k ws i) (r * n + s) 0 ≡ held_word (least_via E (suc k) r s)
  unfolding round_to least_via
  round_to-done k ws kn room holds zero r s h l b = absurd (omega arith)
  round_to-done k ws kn room holds (suc i) r s h l b = go (λ r s l b. round_to-done k ws kn room holds i r s (omega arith) l b) (ℕ_discrete r i)
    where
      vs : List ℕ
      vs = round_to n k ws i

      a : ℕ
      a = get_or vs (i * n + k) 0

      F : ℕ → ℕ → Bound
      F x y = least_via E k x y

      to-k : a ≡ held_word (F i k)
      to-k = round_to-later n k ws i i k (omega arith) kn ∙ holds i k h kn

      here : get_or vs (i * n + s) 0 ≡ held_word (F i s)
      here = round_to-later n k ws i i s (omega arith) b ∙ holds i s h b

      from-k : ((r s : ℕ) → r < i → s < n → get_or vs (r * n + s) 0 ≡ held_word (least_via E (suc k) r s)) → Dec (k < i) → get_or vs (k * n + s) 0 ≡ held_word (F k s)
      from-k ih (yes g) = ih k s g b ∙ ap held_word (least_via-row E k s)
      from-k ih (no g) = round_to-later n k ws i k s (omega arith) b ∙ holds k s kn b

      relaxed : get_or vs (k * n + s) 0 ≡ held_word (F k s) → min (get_or vs (i * n + s) 0) (sum_word a (get_or vs (k * n + s) 0)) ≡ held_word (least_via E (suc k) i s)
      relaxed e =
          rw (here, to-k, e)
          (held_word-relaxed (F i s) (F i k) (F k s) (smaller (omega arith) (small k i s (omega arith))) (smaller (omega arith) (small k i k (omega arith)))
          (smaller (omega arith) (small k k s (omega arith))) (smaller (omega arith) (⊕-delta 65 65 (F i k) (F k s) (small k i k (omega arith)) (small k k s (omega arith)))))

      go :
          ((r s : ℕ) → r < i → s < n → get_or vs (r * n + s) 0 ≡ held_word (least_via E (suc k) r s)) → Dec (r ≡ i) →
          get_or (cond (ltb a far) (relaxed_to a (i * n) (k * n) vs n) vs) (r * n + s) 0 ≡ held_word (least_via E (suc k) r s)
      go ih (yes e) =
          rw e
          (cond-case (λ (us : List ℕ). get_or us (i * n + s) 0 ≡ held_word (least_via E (suc k) i s)) (ltb a far)
          (λ t.
          relaxed_to-at a (i * n) (k * n) vs n s b (omega (arith, row_within n i h, round_to-length n k ws i)) (rows_of n k i a vs)
          ∙ relaxed (from-k ih (dec_lt k i)))
          (λ t.
          sym (held_word-left (get_or vs (i * n + s) 0) a (get_or vs (k * n + s) 0) (rw here (held_word-≤ (F i s))) (nltb→le a far t))
          ∙ relaxed (from-k ih (dec_lt k i))))
      go ih (no e) =
          cond-case (λ (us : List ℕ). get_or us (r * n + s) 0 ≡ held_word (least_via E (suc k) r s)) (ltb a far)
          (λ t. store_to-other _ (i * n) vs 0 n (r * n + s) (other_row n r i s e b) ∙ ih r s (omega arith) b)
          (λ t. ih r s (omega arith) b)

  rounds_to-holds : (ws : List ℕ) → n * n ≤ length ws → Holds n (least_via E 0) ws → (k : ℕ) → k ≤ n → Holds n (least_via E k) (rounds_to n ws k)
  unfolding rounds_to
  rounds_to-holds ws room holds zero h r s l b = holds r s l b
  rounds_to-holds ws room holds (suc k) h r s l b =
      round_to-done k (rounds_to n ws k) h (omega (arith, rounds_to-length n ws k)) (rounds_to-holds ws room holds k (omega arith)) n r s (omega arith) l b

rounds_to-past : (n : ℕ) (ws : List ℕ) (k j : ℕ) → n * n ≤ j → get_or (rounds_to n ws k) j 0 ≡ get_or ws j 0
unfolding rounds_to
rounds_to-past n ws zero j h = refl
rounds_to-past n ws (suc k) j h = round_to-past n k (rounds_to n ws k) n j (omega arith) h ∙ rounds_to-past n ws k j h

module _ (ws : List ℕ) where
  cut_to-past : (n i : ℕ) → n ≤ i → get_or (cut_to ws n) i 0 ≡ get_or ws i 0
  cut_to-past n i h = store_to-other _ 0 ws 0 n i (inr (omega arith))

  pub cut_to-at : (n i : ℕ) → i < n → n ≤ length ws → get_or (cut_to ws n) i 0 ≡ cut_word (get_or ws i 0)
  cut_to-at n i h l = store_to-at _ 0 ws 0 (λ i. cut_word (get_or ws i 0)) n i i (omega arith) (λ j b. ap cut_word (cut_to-past j j (omega arith))) h (omega arith)

-- all of it, for a model that keeps the file rules

module _ (m : Model) (ws : List ℕ) (fit : model_fault m ≡ 0) (room : m.n * m.n ≤ length ws) where
  first : List ℕ
  first = direct_rows m ws m.n

  last : List ℕ
  last = rounds_to m.n first m.n

  first_holds : Holds m.n (least_via (edge m) 0) first
  unfolding first least_via direct edge
  first_holds r s h l = direct_rows-at m ws room m.n r s (omega arith) h l ∙ direct_word-held_word (segment_at m r).closer r s

  last-holds : Holds m.n (least_via (edge m) m.n) last
  unfolding last first
  last-holds =
      rounds_to-holds (edge m) (edge-step m) m.n (model_fault-counts m fit).segments first (omega (arith, direct_rows-length m ws m.n)) first_holds m.n
      (omega arith)

  last-length : length last ≡ length ws
  unfolding last first
  last-length = rounds_to-length m.n first m.n ∙ direct_rows-length m ws m.n

  last-past : (i : ℕ) → m.n * m.n ≤ i → get_or last i 0 ≡ get_or ws i 0
  unfolding last first
  last-past i h = rounds_to-past m.n first m.n i h ∙ direct_rows-past m ws room m.n i (omega arith) h

  -- the word from r to s
  last_word : (r s : ℕ) → r < m.n → s < m.n → cut_word (get_or last (r * m.n + s) 0) ≡ word_of (distance_of m r s)
  unfolding distance_of distance_table
  last_word r s h l =
      ap cut_word (last-holds r s h l)
      ∙ (cut_word-held_word (least_via (edge m) m.n r s)
      (smaller (edge m) (edge-step m) m.n few {d = 65} {b = least_via (edge m) m.n r s} (omega arith) (small (edge m) (edge-step m) m.n few m.n r s (omega arith)))
      ∙ ap (λ (b : Bound). word_of (cut b)) (sym (rounds-least_via m.n (edge m) m.n r s (omega arith) h l)))
    where
      few : m.n ≤ 64
      few = (model_fault-counts m fit).segments

  pub filled-stored : cut_to (rounds_to m.n (direct_rows m ws m.n) m.n) (m.n * m.n) ≡ stored m ws
  unfolding last first
  filled-stored =
      ext_get_or 0 (cut_to last (m.n * m.n)) (stored m ws) (store_to-length _ 0 last (m.n * m.n) ∙ (last-length ∙ sym (stored-length m ws room)))
      (λ i h. go i (dec_lt i (m.n * m.n)))
    where
      go : (i : ℕ) → Dec (i < m.n * m.n) → get_or (cut_to last (m.n * m.n)) i 0 ≡ get_or (stored m ws) i 0
      go i (yes h) =
          cut_to-at last (m.n * m.n) i h (omega (arith, last-length))
          ∙ (ap (λ (x : ℕ). cut_word (get_or last x 0)) (place-split m.n i)
          ∙ (last_word (i / m.n) (i % m.n) (place-row m.n i h) (place-column m.n i h)
          ∙ (sym (words_of-word m fit i h) ∙ sym (stored_at m ws room i h))))
      go i (no h) =
          let h' : m.n * m.n ≤ i = omega arith in
          cut_to-past last (m.n * m.n) i h' ∙ (last-past i h' ∙ sym (stored_past m ws room i h'))

  -- for the code: the three passes
  pub filled-passes :
      (n : ℕ) (vs us ts : List ℕ) → n ≡ m.n → vs ≡ direct_rows m ws n → us ≡ rounds_to n vs n → ts ≡ cut_to us (n * n) → ts ≡ stored m ws
  filled-passes n vs us ts d e f g = rw (f, e, d) at g ∙ filled-stored
