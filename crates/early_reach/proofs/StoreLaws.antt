-- What the code stores is what `reach_in` says, place by place: row after row, each lowered by all notes.
--     places-..     no store, one more, one pass after the other, the same in other words
--     row_lowered-..     a row, note after note; a row worked out is that of the table
--     rows_lowered-.., reached-..     the rows; they are those of all segments
use Prim.Native.Nat.{ℕ, ◌+◌, ◌*◌, ◌/◌, ◌%◌, ◌≤◌, ◌<◌, ◌-◌}
use mathlib.Core.Path.{◌≡◌, refl, ap, sym, ◌∙◌}
use mathlib.Core.Bool.{Bool, true, false, cond}
use mathlib.Core.List.{List, ◌++◌}
use native.Mathlib.Omega.{arith}
use native.Mathlib.Decide.{dec_lt, ℕ_discrete}
use native.Mathlib.Numerals.{add-one}
use native.Mathlib.Nat.{zero-add}
use lib.Dec.{ltb, eqb}
use lib.ListN.{length, get_or, set, drop, replicate, length-set, length-append, length-drop, get_or-append}
use lib.Seq.{get_or-set_same, get_or-set_other, get_or-append-add, get_or-drop, ext_get_or}
use borrow.Author.Tests.{lt-ltb, le-ltb, eq-eqb, ne_eqb}
use Rattle.std.proofs.lemmas.List.{length-replicate, get_or-replicate}
use Rattle.base.specs.Index.{tabulate}
use Rattle.base.proofs.IndexLaws.{tabulate-at, tabulate-length}
use Rattle.model.specs.declared.Model.{Model}
use Rattle.model.specs.Values.{segment_at, body_of}
use Rattle.model.specs.Statement.{notified_by}
use Rattle.model.specs.Footprint.{has}
use Rattle.model_rules.proofs.FaultLaws.{segment_at-past}
use Rattle.tables.specs.Word.{all_ones}
use Rattle.early_limits.specs.Limit.{limit_of_word, lesser, lesser_below, at_most}
use Rattle.early_limits.specs.Ahead.{nearest, reach_of, reach_in}
use Rattle.early_ahead.proofs.LimitLaws.{lesser-never, lesser_below-past, at_most-less, at_most-full, at_most-≤, at_most-below}
use Rattle.early_reach.specs.Store.{Places, cleared, lowered_by, NotesBelow, way_in, row_lowered, rows_lowered}
use Rattle.early_reach.proofs.NoteLaws.{lowered_by-here, lowered_by-other, lowered_by-most, lowered_by-ways, AllNotes}

module _ (f : ℕ → ℕ → ℕ) (xs : List ℕ) where
  pub places-none : ((k : ℕ) → k < 2048 → f k (get_or xs k 0) ≡ get_or xs k 0) → Places f xs xs
  places-none h = record { same_length = refl; at = λ k l. sym (h k l); past = λ k l. refl }

  pub places-as : (g : ℕ → ℕ → ℕ) (ys : List ℕ) → Places f xs ys → ((k : ℕ) → k < 2048 → f k (get_or xs k 0) ≡ g k (get_or xs k 0)) → Places g xs ys
  places-as g ys p h = record { same_length = p.same_length; at = λ k l. p.at k l ∙ h k l; past = p.past }

  pub places_then : (g h : ℕ → ℕ → ℕ) (ys zs : List ℕ) → Places f xs ys → Places g ys zs → ((k : ℕ) → k < 2048 → g k (f k (get_or xs k 0)) ≡ h k (get_or xs k 0)) → Places h xs zs
  places_then g h ys zs p q e =
      record {
        same_length = q.same_length ∙ p.same_length;
        at = λ k l. q.at k l ∙ (ap (g k) (p.at k l) ∙ e k l);
        past = λ k l. q.past k l ∙ p.past k l;
      }

  pub places-more :
      (g : ℕ → ℕ → ℕ) (ys : List ℕ) (i w : ℕ) → Places f xs ys → 2048 ≤ length xs → i < 2048 → w ≡ g i (get_or xs i 0) →
      ((k : ℕ) → k < 2048 → (k ≡ i → ⊥) → f k (get_or xs k 0) ≡ g k (get_or xs k 0)) → Places g xs (set ys i w)
  places-more g ys i w p size h e other =
      record {
        same_length = length-set ys i w ∙ p.same_length;
        at = λ k l. go k l (ℕ_discrete k i);
        past = λ k l. get_or-set_other ys i k w 0 (λ z. omega arith) ∙ p.past k l;
      }
    where
      go : (k : ℕ) → k < 2048 → Dec (k ≡ i) → get_or (set ys i w) k 0 ≡ g k (get_or xs k 0)
      go k l (yes z) = rw z (get_or-set_same ys i w 0 (omega (arith, p.same_length)) ∙ e)
      go k l (no z) = get_or-set_other ys i k w 0 z ∙ (p.at k l ∙ other k l z)

-- all places made never
abbrev pub AllNever : List ℕ → Type 0
AllNever ws = (k : ℕ) → k < 2048 → get_or ws k 0 ≡ all_ones

module _ (xs : List ℕ) where
  pub cleared-filled : (ys : List ℕ) (n : ℕ) → 2048 ≤ length xs → n ≡ 2048 → ys ≡ replicate n all_ones → Places (cleared 2048) xs (ys ++ drop 2048 xs)
  unfolding cleared
  cleared-filled ys n size e f =
      let many : length ys ≡ 2048 = ap length f ∙ (length-replicate n all_ones ∙ e) in
      record {
        same_length = length-append ys (drop 2048 xs) ∙ rw (many, length-drop 2048 xs) (omega arith);
        at = λ k l. get_or-append ys (drop 2048 xs) 0 k (omega arith) ∙ rw (f, lt-ltb k 2048 l) (get_or-replicate n k all_ones 0 (omega arith));
        past = λ k l.
            let d : k ≡ length ys + (k - 2048) = omega arith in
            let b : 2048 + (k - 2048) ≡ k = omega arith in
            ap (λ (i : ℕ). get_or (ys ++ drop 2048 xs) i 0) d ∙ (get_or-append-add ys (drop 2048 xs) (k - 2048) 0 ∙ (get_or-drop 2048 xs (k - 2048) 0 ∙ ap (λ (i : ℕ). get_or xs i 0) b));
      }

  pub cleared-all : (ys : List ℕ) → Places (cleared 2048) xs ys → AllNever ys
  unfolding cleared
  cleared-all ys p k l = p.at k l ∙ rw (lt-ltb k 2048 l) refl

-- one row

cond_same : (l : Bool) (x : ℕ) → cond l x x ≡ x
cond_same true x = refl
cond_same false x = refl

module _ (notes ws : List ℕ) (p r : ℕ) (xs : List ℕ) where
  pub row_lowered-none : Places (row_lowered notes 0 ws p r) xs xs
  unfolding row_lowered lowered_by
  row_lowered-none = places-none (row_lowered notes 0 ws p r) xs (λ i l. cond_same (eqb (i / 32) r) (get_or xs i 0))

  -- the place of note q, before it and after; any other place
  row_lowered-at : (q i w : ℕ) → i / 32 ≡ r → row_lowered notes q ws p r i w ≡ lowered_by notes q (way_in ws p) (i % 32) w
  unfolding row_lowered
  row_lowered-at q i w h = rw (eq-eqb (i / 32) r h) refl

  row_lowered-here : (q i w : ℕ) → i / 32 ≡ r → i % 32 ≡ get_or notes q 0 % 32
      → row_lowered notes (q + 1) ws p r i w ≡ lesser (row_lowered notes q ws p r i w) (way_in ws p (get_or notes q 0 / 32))
  row_lowered-here q i w h e =
      rw (row_lowered-at (q + 1) i w h, row_lowered-at q i w h, add-one q) (lowered_by-here notes (way_in ws p) (i % 32) w q (sym e))

  row_lowered-other : (q i k w : ℕ) → i / 32 ≡ r → i % 32 ≡ get_or notes q 0 % 32 → (k ≡ i → ⊥) → row_lowered notes q ws p r k w ≡ row_lowered notes (q + 1) ws p r k w
  unfolding row_lowered
  row_lowered-other q i k w h e z = go (ℕ_discrete (k / 32) r)
    where
      go : Dec (k / 32 ≡ r) → row_lowered notes q ws p r k w ≡ row_lowered notes (q + 1) ws p r k w
      go (yes d) = rw (add-one q, lowered_by-other notes (way_in ws p) (k % 32) w q (λ y. omega arith)) refl
      go (no d) = rw (ne_eqb (k / 32) r d) refl

  pub row_lowered-more :
      (ys : List ℕ) (q x i v w : ℕ) → Places (row_lowered notes q ws p r) xs ys → 2048 ≤ length xs → r < 64 → x ≡ get_or notes q 0 → i ≡ r * 32 + x % 32 →
      v ≡ limit_of_word (get_or ws (p + x / 32) 0) → w ≡ lesser (get_or ys i 0) v → Places (row_lowered notes (q + 1) ws p r) xs (set ys i w)
  unfolding way_in
  row_lowered-more ys q x i v w had size h read e d f =
      let row : i / 32 ≡ r = omega arith in
      let column : i % 32 ≡ get_or notes q 0 % 32 = omega arith in
      let way : v ≡ way_in ws p (get_or notes q 0 / 32) = rw read at d in
      places-more (row_lowered notes q ws p r) xs (row_lowered notes (q + 1) ws p r) ys i w had size (omega arith)
      ((rw (way, had.at i (omega arith)) at f) ∙ sym (row_lowered-here q i (get_or xs i 0) row column))
      (λ k l z. row_lowered-other q i k (get_or xs k 0) row column z)

  -- a way that is never
  pub row_lowered-never :
      (ys : List ℕ) (q x v : ℕ) → Places (row_lowered notes q ws p r) xs ys → ((k : ℕ) → get_or xs k 0 ≤ all_ones) → x ≡ get_or notes q 0 →
      v ≡ limit_of_word (get_or ws (p + x / 32) 0) → v ≡ all_ones → Places (row_lowered notes (q + 1) ws p r) xs ys
  unfolding row_lowered way_in
  row_lowered-never ys q x v had most read d never =
      places-as (row_lowered notes q ws p r) xs (row_lowered notes (q + 1) ws p r) ys had (λ k l. rw (same k (ℕ_discrete (get_or notes q 0 % 32) (k % 32))) refl)
    where
      way : way_in ws p (get_or notes q 0 / 32) ≡ all_ones
      way = sym (rw read at d) ∙ never

      same : (k : ℕ) → Dec (get_or notes q 0 % 32 ≡ k % 32) → lowered_by notes (q + 1) (way_in ws p) (k % 32) (get_or xs k 0) ≡ lowered_by notes q (way_in ws p) (k % 32) (get_or xs k 0)
      same k (yes e) =
          rw (add-one q, lowered_by-here notes (way_in ws p) (k % 32) (get_or xs k 0) q e, way)
          (lesser-never (lowered_by notes q (way_in ws p) (k % 32) (get_or xs k 0)) (omega (arith, lowered_by-most notes (way_in ws p) (k % 32) (get_or xs k 0) q, most k)))
      same k (no e) = rw (add-one q) (lowered_by-other notes (way_in ws p) (k % 32) (get_or xs k 0) q e)

-- by a row that says, of each segment below n, what the table says from place r × n on
pub row_lowered-row :
    (notes ws row : List ℕ) (k n r : ℕ) (xs ys : List ℕ) → NotesBelow n notes k → ((s : ℕ) → s < n → get_or row s 0 ≡ get_or ws (r * n + s) 0) → Places (row_lowered notes k row 0 r) xs ys →
    Places (row_lowered notes k ws (r * n) r) xs ys
unfolding row_lowered way_in
row_lowered-row notes ws row k n r xs ys below same had =
    places-as (row_lowered notes k row 0 r) xs (row_lowered notes k ws (r * n) r) ys had
    (λ i l. rw (lowered_by-ways notes (way_in ws (r * n)) (i % 32) (get_or xs i 0) (way_in row 0) k (λ q b. way (get_or notes q 0 / 32) (below q b))) refl)
  where
    way : (s : ℕ) → s < n → way_in row 0 s ≡ way_in ws (r * n) s
    way s b = ap limit_of_word (rw (zero-add s) (same s b))

-- the rows

module _ (notes : List ℕ) (k : ℕ) (ws : List ℕ) (n : ℕ) (xs : List ℕ) where
  pub rows_lowered-none : Places (rows_lowered notes k ws n 0) xs xs
  unfolding rows_lowered
  rows_lowered-none = places-none (rows_lowered notes k ws n 0) xs (λ i l. rw (le-ltb (i / 32) 0 (omega arith)) refl)

  pub rows_lowered-more :
      (r : ℕ) (ys zs : List ℕ) → Places (rows_lowered notes k ws n r) xs ys → Places (row_lowered notes k ws (r * n) r) ys zs → Places (rows_lowered notes k ws n (r + 1)) xs zs
  unfolding rows_lowered row_lowered
  rows_lowered-more r ys zs had next =
      places_then (rows_lowered notes k ws n r) xs (row_lowered notes k ws (r * n) r) (rows_lowered notes k ws n (r + 1)) ys zs had next
      (λ i l. go i (get_or xs i 0) (dec_lt (i / 32) r) (ℕ_discrete (i / 32) r))
    where
      go : (i w : ℕ) → Dec (i / 32 < r) → Dec (i / 32 ≡ r) → row_lowered notes k ws (r * n) r i (rows_lowered notes k ws n r i w) ≡ rows_lowered notes k ws n (r + 1) i w
      go i w (yes h) _ = rw (lt-ltb (i / 32) r h, ne_eqb (i / 32) r (λ z. omega arith), lt-ltb (i / 32) (r + 1) (omega arith)) refl
      go i w (no h) (yes e) = rw (le-ltb (i / 32) r (omega arith), eq-eqb (i / 32) r e, lt-ltb (i / 32) (r + 1) (omega arith), e) refl
      go i w (no h) (no z) = rw (le-ltb (i / 32) r (omega arith), ne_eqb (i / 32) r z, le-ltb (i / 32) (r + 1) (omega arith)) refl

-- the segments

-- in the rows below N, all of them by the first segments
unfoldable pub reached : Model → List ℕ → ℕ → ℕ → ℕ → ℕ
reached m ws s k w =
    cond (ltb (k / 32) m.n)
    (lesser_below s (λ i. cond (has (notified_by (body_of (segment_at m i))) (k % 32)) (limit_of_word (get_or ws (k / 32 * m.n + i) 0)) all_ones))
    all_ones

module _ (m : Model) (ws xs : List ℕ) where
  -- all rows lowered by all notes, from never
  pub reached-rows :
      (s k : ℕ) (notes ys : List ℕ) → AllNotes m s k notes → AllNever xs → Places (rows_lowered notes k ws m.n (at_most 64 m.n)) xs ys → Places (reached m ws s) xs ys
  unfolding reached rows_lowered way_in
  reached-rows s k notes ys noted never had =
      places-as (rows_lowered notes k ws m.n (at_most 64 m.n)) xs (reached m ws s) ys had
      (λ i l. rw (never i l, same i l (dec_lt (i / 32) m.n), noted.lowers (way_in ws (i / 32 * m.n)) (i % 32) (omega arith)) refl)
    where
      same : (i : ℕ) → i < 2048 → Dec (i / 32 < m.n) → ltb (i / 32) (at_most 64 m.n) ≡ ltb (i / 32) m.n
      same i l (yes b) = lt-ltb (i / 32) (at_most 64 m.n) (at_most-below 64 m.n (i / 32) (omega arith) b) ∙ sym (lt-ltb (i / 32) m.n b)
      same i l (no b) = le-ltb (i / 32) (at_most 64 m.n) (omega (arith, (at_most-≤ 64 m.n).1)) ∙ sym (le-ltb (i / 32) m.n (omega arith))

  -- no segment past 64 notifies
  segments-past : (i e : ℕ) → length m.segments ≤ i → has (notified_by (body_of (segment_at m i))) e ≡ false
  unfolding has notified_by body_of
  segments-past i e h = rw (segment_at-past m i h) refl

  pub reached-all : (s : ℕ) (ys : List ℕ) → length m.segments ≡ 64 → s ≡ at_most 64 m.n → Places (reached m ws s) xs ys → Places (reached m ws m.n) xs ys
  unfolding reached
  reached-all s ys size e p = go (dec_lt m.n 64)
    where
      f : ℕ → ℕ → ℕ
      f k i = cond (has (notified_by (body_of (segment_at m i))) (k % 32)) (limit_of_word (get_or ws (k / 32 * m.n + i) 0)) all_ones

      same : 64 ≤ m.n → s ≡ 64 → (k : ℕ) → lesser_below s (f k) ≡ lesser_below m.n (f k)
      same h d k = sym (lesser_below-past (f k) s m.n (omega arith) (λ i l. rw (segments-past i (k % 32) (omega arith)) refl))

      go : Dec (m.n < 64) → Places (reached m ws m.n) xs ys
      go (yes h) = rw (e ∙ sym (at_most-less 64 m.n h)) at p
      go (no h) =
          let h' : 64 ≤ m.n = omega arith in
          places-as (reached m ws s) xs (reached m ws m.n) ys p (λ k l. rw (same h' (e ∙ sym (at_most-full 64 m.n h')) k) refl)

-- the buffer at the end

pub reach_in-short : (m : Model) (ws xs : List ℕ) → length xs < 2048 → xs ≡ reach_in m ws xs
unfolding reach_in
reach_in-short m ws xs h = rw (lt-ltb (length xs) 2048 h) refl

module _ (m : Model) (ws xs ys zs : List ℕ) (size : 2048 ≤ length xs) (p : Places (cleared 2048) xs ys) (q : Places (reached m ws m.n) ys zs) where
  f : ℕ → ℕ
  f i = cond (ltb (i / 32) m.n) (nearest m ws (i / 32) (i % 32)) all_ones

  rows-length : length (tabulate 2048 0 f) ≡ 2048
  rows-length = tabulate-length 2048 0 f

  reach-at : (i : ℕ) → Dec (i < 2048) → get_or zs i 0 ≡ get_or (tabulate 2048 0 f ++ drop 2048 xs) i 0
  unfolding f reached nearest
  reach-at i (yes h) =
      q.at i h
      ∙ sym (get_or-append (tabulate 2048 0 f) (drop 2048 xs) 0 i (omega (arith, rows-length)) ∙ (tabulate-at 2048 0 i f 0 h ∙ ap f (zero-add i)))
  reach-at i (no h) =
      let e : i ≡ length (tabulate 2048 0 f) + (i - 2048) = omega (arith, rows-length) in
      let d : 2048 + (i - 2048) ≡ i = omega arith in
      (q.past i (omega arith) ∙ p.past i (omega arith))
      ∙ sym (ap (λ (k : ℕ). get_or (tabulate 2048 0 f ++ drop 2048 xs) k 0) e
      ∙ (get_or-append-add (tabulate 2048 0 f) (drop 2048 xs) (i - 2048) 0 ∙ (get_or-drop 2048 xs (i - 2048) 0 ∙ ap (λ (k : ℕ). get_or xs k 0) d)))

  pub reach_in-filled : zs ≡ reach_in m ws xs
  unfolding reach_in reach_of f
  reach_in-filled =
      rw (le-ltb (length xs) 2048 size)
      (ext_get_or 0 zs (tabulate 2048 0 f ++ drop 2048 xs)
      (q.same_length ∙ (p.same_length ∙ sym (length-append (tabulate 2048 0 f) (drop 2048 xs) ∙ rw (rows-length, length-drop 2048 xs) (omega arith))))
      (λ i h. reach-at i (dec_lt i 2048)))
