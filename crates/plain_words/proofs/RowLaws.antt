-- The rows in which threads are: what runs there is the segment after mapping.
--     other→kept, marks-kept, plain-kept, own-kept     what a row's words hang on
--     mapped-none, mapped-more, mapped-others, mapped-own     a row that gets the words of a segment
--     segment_by-row, segment_by-own, segments_by-at, segments_by-same, segment-more, segments-is, segments_by-set     the segments that stand in rows
--     rowed-held, rowed-none, rows-first, rows-set     a row gets a segment; at first; a thread in another row
--     own-placed, own_same, own-plain, own-others     a thread goes to its own row
--     prepared-none, prepared-start, prepared-more     before a cycle
--     Acts, acts-own, acts-plain     a row acts as a segment that a thread runs
--     acts-follow, rows-follow     the row after it
use Prim.Native.Nat.{ℕ, zero, suc, ◌+◌, ◌*◌, ◌/◌, ◌%◌, ◌<◌, ◌≤◌}
use mathlib.Core.Path.{◌≡◌, refl, ap, sym, ◌∙◌}
use mathlib.Core.Logic.{◌⊎◌, inl, inr}
use mathlib.Core.Bool.{Bool, true, false, cond}
use mathlib.Core.List.{List}
use native.Mathlib.Omega.{arith}
use native.Mathlib.Nat.{mod-eq_of_lt}
use native.Mathlib.Decide.{ℕ_discrete, dec_lt}
use lib.Dec.{ltb, leb, eqb}
use lib.ListN.{length, get_or, set, replicate, length-set, get_or-replicate}
use lib.Seq.{get_or-set_same, get_or-set_other, ext_get_or}
use borrow.Author.Tests.{lt-ltb, le-ltb, le-leb}
use Rattle.base.proofs.BoolLaws.{T→false}
use Rattle.base.proofs.IndexLaws.{tabulate-at, tabulate-length, tabulate-same, tabulate-is}
use Rattle.plain_words.specs.Unpack.{end_by, size_by, next_by, follow_by}
use Rattle.plain_words.specs.Ports.{ports_by, map_word, map_choice, map_at, code_for, words_for, names_from, port_mark, Marks, any_marked}
use Rattle.plain_words.specs.Shared.{Shared, execute_to, execute_by}
use Rattle.plain_words.specs.Rows.{Own, OtherRows, Mapped, Kept, Rowed, InRows, segment_by, segments_by, IsPlain, Prepared}
use Rattle.plain_words.proofs.SetLaws.{set-case}
use Rattle.plain_words.proofs.ExitLaws.{follow_by-over, follow_by-on}
use Rattle.plain_words.proofs.PackLaws.{part-more}
use Rattle.plain_words.proofs.MapLaws.{ports_by-kept, code_for-at, any_marked-here, map_word-unnamed, map_choice-unnamed, names_from-test-not, names_from-word-not, names_from-same, code_for-end, code_for-next, code_for-word, words_for-kept, execute_to-moved}

-- WHAT A ROW'S WORDS HANG ON

pub other→kept : (k : ℕ) (xs ys : List ℕ) → OtherRows k xs ys → Kept xs ys
other→kept k xs ys h i l = h i (inl (omega arith))

module _ (xs ys : List ℕ) (kept : Kept xs ys) where
  end_kept : (s : ℕ) → s < 64 → get_or ys (34 * s) 0 ≡ get_or xs (34 * s) 0
  end_kept s h = kept (34 * s) (omega arith)

  pub marks-kept : Marks xs → Marks ys
  marks-kept marks =
      record {
        few = λ s h. rw (end_kept s h) (marks.few s h);
        unnamed = λ s h l.
            let e = end_kept s h in
            let few = marks.few s h in
            let below : get_or xs (34 * s) 0 < port_mark = omega arith in
            ap (λ (w : ℕ). names_from ys (34 * s) (size_by w)) e ∙
            (names_from-same xs (34 * s) (size_by (get_or xs (34 * s) 0)) ys (λ j g. kept (34 * s + 1 + j) (omega arith)) ∙ marks.unnamed s h below);
      }

  pub plain-kept : (r : ℕ) → IsPlain xs r → IsPlain ys r
  plain-kept r p h = let e = kept (34 * (r % 128)) (omega arith) in omega (arith, p h)

  -- a thread's row that stays too
  pub own-kept : (k s : ℕ) → k < 32 → ((j : ℕ) → j < 34 → get_or ys (2448 + 34 * k + j) 0 ≡ get_or xs (2448 + 34 * k + j) 0) → Own xs k s → Own ys k s
  own-kept k s h same own j l = same j l ∙ (own j l ∙ ap (λ (w : List ℕ). get_or w (34 * s + j) 0) (sym (words_for-kept xs ys kept k h)))

-- no segment has the mark
pub plain-all : (code : List ℕ) → any_marked code ≡ false → (r : ℕ) → IsPlain code r
plain-all code e r h = go (dec_lt (get_or code (34 * (r % 128)) 0) port_mark)
  where
    place : r % 128 ≡ r
    place = mod-eq_of_lt (omega arith)

    go : Dec (get_or code (34 * (r % 128)) 0 < port_mark) → end_by code r < port_mark
    go (yes l) = l
    go (no l) =
        let f : true ≡ false = any_marked-here code r h (rw (← place) (omega arith)) ∙ e in
        let z : ◌≡◌ {A = ℕ} 0 1 = cc in
        absurd (omega arith)

-- THE SEGMENTS THAT STAND IN ROWS

pub segment_by-row : (h r : ℕ) → r < 64 → r ≡ segment_by h r
unfolding segment_by
segment_by-row h r l = rw (lt-ltb r 64 l) refl

pub segment_by-own : (h r : ℕ) → 64 ≤ r → h ≡ segment_by h r
unfolding segment_by
segment_by-own h r l = rw (le-ltb r 64 l) refl

module _ (held rows : List ℕ) where
  pub segments_by-at : (k : ℕ) → k < 32 → get_or (segments_by held rows) k 0 ≡ segment_by (get_or held k 0) (get_or rows k 0)
  unfolding segments_by
  segments_by-at k h = tabulate-at 32 0 k (λ i. segment_by (get_or held i 0) (get_or rows i 0)) 0 h ∙ ap (λ (i : ℕ). segment_by (get_or held i 0) (get_or rows i 0)) (omega arith)

  pub segments_by-length : length (segments_by held rows) ≡ 32
  unfolding segments_by
  segments_by-length = tabulate-length 32 0 (λ i. segment_by (get_or held i 0) (get_or rows i 0))

  pub segments_by-same : (held' rows' : List ℕ) → ((k : ℕ) → k < 32 → segment_by (get_or held' k 0) (get_or rows' k 0) ≡ segment_by (get_or held k 0) (get_or rows k 0)) → segments_by held' rows' ≡ segments_by held rows
  unfolding segments_by
  segments_by-same held' rows' h = tabulate-same 32 0 (λ i. segment_by (get_or held' i 0) (get_or rows' i 0)) (λ i. segment_by (get_or held i 0) (get_or rows i 0)) (λ k l. h k (omega arith))

-- for the code: one thread more, and all of them
module _ (held rows : List ℕ) where
  pub segment-more : (xs : List ℕ) (k x : ℕ) → k < length xs → x ≡ segment_by (get_or held k 0) (get_or rows k 0) → ((i : ℕ) → i < k → get_or xs i 0 ≡ segment_by (get_or held i 0) (get_or rows i 0)) →
      (i : ℕ) → i < k + 1 → get_or (set xs k x) i 0 ≡ segment_by (get_or held i 0) (get_or rows i 0)
  segment-more xs k x h e f i l = set-case xs k i x 0 h (λ (y : ℕ). y ≡ segment_by (get_or held i 0) (get_or rows i 0)) (λ q. rw q e) (λ n. f i (less n))
    where
      less : (i ≡ k → ⊥) → i < k
      less n = go (dec_lt i k)
        where
          go : Dec (i < k) → i < k
          go (yes b) = b
          go (no b) = absurd (n (omega arith))

  pub segments-is : (xs : List ℕ) → length xs ≡ 32 → ((i : ℕ) → i < 32 → get_or xs i 0 ≡ segment_by (get_or held i 0) (get_or rows i 0)) → xs ≡ segments_by held rows
  unfolding segments_by
  segments-is xs size f = tabulate-is 0 xs 32 (λ i. segment_by (get_or held i 0) (get_or rows i 0)) size f

pub segments_by-set : (held rows : List ℕ) (k r : ℕ) → length rows ≡ 32 → k < 32 → segments_by held (set rows k r) ≡ set (segments_by held rows) k (segment_by (get_or held k 0) r)
segments_by-set held rows k r size h =
    ext_get_or 0 (segments_by held (set rows k r)) (set (segments_by held rows) k (segment_by (get_or held k 0) r))
    (segments_by-length held (set rows k r) ∙ sym (length-set (segments_by held rows) k (segment_by (get_or held k 0) r) ∙ segments_by-length held rows))
    (λ i l. at i (rw (segments_by-length held (set rows k r)) at l) (ℕ_discrete i k))
  where
    at : (i : ℕ) → i < 32 → Dec (i ≡ k) → get_or (segments_by held (set rows k r)) i 0 ≡ get_or (set (segments_by held rows) k (segment_by (get_or held k 0) r)) i 0
    at i l (yes e) =
        rw e
        (segments_by-at held (set rows k r) k h ∙
        (ap (segment_by (get_or held k 0)) (get_or-set_same rows k r 0 (omega arith)) ∙
        sym (get_or-set_same (segments_by held rows) k (segment_by (get_or held k 0) r) 0 (rw (segments_by-length held rows) h))))
    at i l (no n) =
        segments_by-at held (set rows k r) i l ∙
        (ap (segment_by (get_or held i 0)) (get_or-set_other rows k i r 0 n) ∙
        (sym (segments_by-at held rows i l) ∙ sym (get_or-set_other (segments_by held rows) k i (segment_by (get_or held k 0) r) 0 n)))

-- WORDS ARE MAPPED

module _ (xs : List ℕ) (k s : ℕ) (h : k < 32) (l : s < 64) where
  pub mapped-none : length xs ≡ 4384 → Mapped xs xs k s 0
  mapped-none size = record { size = size; here = λ i b. absurd (omega arith); others = λ i b. refl }

  pub mapped-more : (ys : List ℕ) (j w : ℕ) → j < 32 → Mapped xs ys k s j → w ≡ map_word (ports_by ys k) (get_or ys (34 * s + 2 + j) 0) → Mapped xs (set ys (2450 + 34 * k + j) w) k s (j + 1)
  mapped-more ys j w b m e =
      let size = m.size in
      record {
        size = length-set ys (2450 + 34 * k + j) w ∙ size;
        here = part-more (λ (i x : ℕ). x ≡ map_word (ports_by xs k) (get_or xs (34 * s + 2 + i) 0)) ys (2450 + 34 * k) j w (omega arith) now m.here;
        others = λ i o. get_or-set_other ys (2450 + 34 * k + j) i w 0 (not_there i o) ∙ m.others i o;
      }
    where
      ports : ports_by ys k ≡ ports_by xs k
      ports = ports_by-kept xs ys (λ i g. m.others i (inl (omega arith))) k h

      now : w ≡ map_word (ports_by xs k) (get_or xs (34 * s + 2 + j) 0)
      now = e ∙ rw (ports, m.others (34 * s + 2 + j) (inl (omega arith))) refl

      not_there : (i : ℕ) → (i < 2450 + 34 * k) ⊎ (2482 + 34 * k ≤ i) → i ≡ 2450 + 34 * k + j → ⊥
      not_there i (inl g) q = omega arith
      not_there i (inr g) q = omega arith

  -- how the segment closes and its next segments, then its statements
  module _ (size : length xs ≡ 4384) (x : ℕ) (choice : x ≡ map_choice (ports_by xs k) (get_or xs (34 * s + 1) 0)) where
    abbrev begun : List ℕ
    begun = set (set xs (2448 + 34 * k) (get_or xs (34 * s) 0)) (2448 + 34 * k + 1) x

    pub begun-places : length begun ≡ 4384
    begun-places = length-set (set xs (2448 + 34 * k) (get_or xs (34 * s) 0)) (2448 + 34 * k + 1) x ∙ (length-set xs (2448 + 34 * k) (get_or xs (34 * s) 0) ∙ size)

    begun-other : (i : ℕ) → (i < 2448 + 34 * k) ⊎ (2450 + 34 * k ≤ i) → get_or begun i 0 ≡ get_or xs i 0
    begun-other i o =
        get_or-set_other (set xs (2448 + 34 * k) (get_or xs (34 * s) 0)) (2448 + 34 * k + 1) i x 0 (second i o) ∙
        get_or-set_other xs (2448 + 34 * k) i (get_or xs (34 * s) 0) 0 (first i o)
      where
        first : (i : ℕ) → (i < 2448 + 34 * k) ⊎ (2450 + 34 * k ≤ i) → i ≡ 2448 + 34 * k → ⊥
        first i (inl g) q = omega arith
        first i (inr g) q = omega arith

        second : (i : ℕ) → (i < 2448 + 34 * k) ⊎ (2450 + 34 * k ≤ i) → i ≡ 2448 + 34 * k + 1 → ⊥
        second i (inl g) q = omega arith
        second i (inr g) q = omega arith

    module _ (ys : List ℕ) (m : Mapped begun ys k s 32) where
      pub mapped-others : OtherRows k xs ys
      mapped-others i (inl g) = m.others i (inl (omega arith)) ∙ begun-other i (inl g)
      mapped-others i (inr g) = m.others i (inr g) ∙ begun-other i (inr (omega arith))

      own-word : (j : ℕ) → j < 34 → get_or ys (2448 + 34 * k + j) 0 ≡ map_at (ports_by xs k) j (get_or xs (34 * s + j) 0)
      unfolding map_at
      own-word zero g =
          let z : 2448 + 34 * k + 0 ≡ 2448 + 34 * k = omega arith in
          let o : 34 * s + 0 ≡ 34 * s = omega arith in
          rw (z, o)
          (m.others (2448 + 34 * k) (inl (omega arith)) ∙
          (get_or-set_other (set xs (2448 + 34 * k) (get_or xs (34 * s) 0)) (2448 + 34 * k + 1) (2448 + 34 * k) x 0 (λ q. omega arith) ∙ get_or-set_same xs (2448 + 34 * k) (get_or xs (34 * s) 0) 0 (omega arith)))
      own-word (suc zero) g =
          m.others (2448 + 34 * k + 1) (inl (omega arith)) ∙
          (get_or-set_same (set xs (2448 + 34 * k) (get_or xs (34 * s) 0)) (2448 + 34 * k + 1) x 0 (rw (length-set xs (2448 + 34 * k) (get_or xs (34 * s) 0)) (omega arith)) ∙ choice)
      own-word (suc (suc j)) g =
          let a : 2448 + 34 * k + suc (suc j) ≡ 2450 + 34 * k + j = omega arith in
          let b : 34 * s + suc (suc j) ≡ 34 * s + 2 + j = omega arith in
          let ports : ports_by begun k ≡ ports_by xs k = ports_by-kept xs begun (λ i o. begun-other i (inl (omega arith))) k h in
          rw (a, b) (m.here j (omega arith) ∙ rw (ports, begun-other (34 * s + 2 + j) (inl (omega arith))) refl)

      pub mapped-own : Own ys k s
      mapped-own j g =
          own-word j g ∙
          (sym (code_for-at (ports_by xs k) xs s l j g) ∙ ap (λ (w : List ℕ). get_or w (34 * s + j) 0) (sym (words_for-kept xs ys (other→kept k xs ys mapped-others) k h)))

-- THREADS IN THEIR ROWS

-- a thread's row gets the words of segment s
pub rowed-held : (code code' held : List ℕ) (k s : ℕ) → k < 32 → Rowed code held → length code' ≡ 4384 → Own code' k s → OtherRows k code code' → Rowed code' (set held k s)
rowed-held code code' held k s h rowed size own others =
    record {
      size = size;
      threads = length-set held k s ∙ rowed.threads;
      marks = marks-kept code code' (other→kept k code code' others) rowed.marks;
      own = λ i l g. at i l g (ℕ_discrete i k);
    }
  where
    at : (i : ℕ) → i < 32 → get_or (set held k s) i 0 < 64 → Dec (i ≡ k) → Own code' i (get_or (set held k s) i 0)
    at i l g (yes e) = rw (e, get_or-set_same held k s 0 (omega (arith, rowed.threads))) own
    at i l g (no n) =
        let e = get_or-set_other held k i s 0 n in
        rw e
        (own-kept code code' (other→kept k code code' others) i (get_or held i 0) l (λ j m. others (2448 + 34 * i + j) (side j m (dec_lt i k))) (rowed.own i l (omega arith)))
      where
        side : (j : ℕ) → j < 34 → Dec (i < k) → (2448 + 34 * i + j < 2448 + 34 * k) ⊎ (2482 + 34 * k ≤ 2448 + 34 * i + j)
        side j m (yes q) = inl (omega arith)
        side j m (no q) = let q' : i ≡ k → ⊥ = n in inr (past (dec_lt k i))
          where
            past : Dec (k < i) → 2482 + 34 * k ≤ 2448 + 34 * i + j
            past (yes p) = omega arith
            past (no p) = absurd (n (omega arith))

-- at first no row is held, and every thread is in a segment's
pub rowed-none : (code : List ℕ) → length code ≡ 4384 → Marks code → Rowed code (replicate 32 255)
rowed-none code size marks = record { size = size; threads = refl; marks = marks; own = λ k h l. absurd (let e : ◌≡◌ {A = ℕ} (get_or (replicate 32 255) k 0) 255 = get_or-replicate 32 k 255 0 h in omega arith) }

pub rows-first : (held rows : List ℕ) → length rows ≡ 32 → ((k : ℕ) → k < 32 → get_or rows k 0 < 64) → InRows held rows
rows-first held rows size small = record { threads = size; own = λ k h l. absurd (let s = small k h in omega arith) }

-- thread k in row r: where it was, a segment's row, or its own
pub rows-set : (held rows : List ℕ) (k r : ℕ) → k < 32 → InRows held rows → ((64 ≤ r) → (r ≡ 72 + k) × (get_or held k 0 < 64)) → InRows held (set rows k r)
rows-set held rows k r h in_rows own =
    record {
      threads = length-set rows k r ∙ in_rows.threads;
      own = λ i l g. set-case rows k i r 0 (omega (arith, in_rows.threads)) (λ (x : ℕ). 64 ≤ x → (x ≡ 72 + i) × (get_or held i 0 < 64)) (λ e. rw e own) (λ n. in_rows.own i l) g;
    }

-- thread k goes to its own row, which has its segment
module _ (held held' rows : List ℕ) (k s : ℕ) (h : k < 32) (in_rows : InRows held rows) (at-s : get_or rows k 0 ≡ s) (l : s < 64) (here : get_or held' k 0 ≡ s) (others : (i : ℕ) → (i ≡ k → ⊥) → get_or held' i 0 ≡ get_or held i 0) where
  own-rows : InRows held' rows
  own-rows = record { threads = in_rows.threads; own = λ i b g. at i b g (ℕ_discrete i k) }
    where
      at : (i : ℕ) → i < 32 → 64 ≤ get_or rows i 0 → Dec (i ≡ k) → (get_or rows i 0 ≡ 72 + i) × (get_or held' i 0 < 64)
      at i b g (yes e) = let f : 64 ≤ get_or rows k 0 = rw e at g in absurd (omega arith)
      at i b g (no n) = rw (others i n) (in_rows.own i b g)

  pub own-placed : InRows held' (set rows k (72 + k))
  own-placed = rows-set held' rows k (72 + k) h own-rows (λ g. (refl, omega arith))

  row_here : get_or (set rows k (72 + k)) k 0 ≡ 72 + k
  row_here = get_or-set_same rows k (72 + k) 0 (omega (arith, in_rows.threads))

  pub own_same : segments_by held' (set rows k (72 + k)) ≡ segments_by held rows
  own_same = segments_by-same held rows held' (set rows k (72 + k)) (λ i b. at i (ℕ_discrete i k))
    where
      at : (i : ℕ) → Dec (i ≡ k) → segment_by (get_or held' i 0) (get_or (set rows k (72 + k)) i 0) ≡ segment_by (get_or held i 0) (get_or rows i 0)
      at i (yes e) =
          rw (e, row_here, at-s, ← segment_by-own (get_or held' k 0) (72 + k) (omega arith), ← segment_by-row (get_or held k 0) s l) here
      at i (no n) = rw (others i n, get_or-set_other rows k i (72 + k) 0 n) refl

  pub own-plain : (code : List ℕ) → IsPlain code (get_or (set rows k (72 + k)) k 0)
  own-plain code g = let e = row_here in absurd (omega arith)

  pub own-others : (i : ℕ) → (i ≡ k → ⊥) → get_or (set rows k (72 + k)) i 0 ≡ get_or rows i 0
  own-others i n = get_or-set_other rows k i (72 + k) 0 n

-- BEFORE A CYCLE

module _ (code held rows : List ℕ) (rowed : Rowed code held) (in_rows : InRows held rows) (from to : ℕ) where
  pub prepared-none : ((r : ℕ) → IsPlain code r) → Prepared code held rows code held rows from to
  prepared-none plain = record { rowed = rowed; placed = in_rows; same = refl; plain = λ k h l. plain (get_or rows k 0); kept = λ i h. refl }

  pub prepared-start : Prepared code held rows code held rows from from
  prepared-start = record { rowed = rowed; placed = in_rows; same = refl; plain = λ k h l. absurd (omega arith); kept = λ i h. refl }

-- one thread more
pub prepared-more : {code held rows xs hs rs ys gs ps : List ℕ} {from k : ℕ} → Prepared code held rows xs hs rs from k → Rowed ys gs → InRows gs ps → segments_by gs ps ≡ segments_by hs rs → IsPlain ys (get_or ps k 0) →
    ((i : ℕ) → (i ≡ k → ⊥) → get_or ps i 0 ≡ get_or rs i 0) → Kept xs ys → Prepared code held rows ys gs ps from (k + 1)
prepared-more {xs = xs} {rs = rs} {ys = ys} {ps = ps} {from = from} {k = k} p rowed in_rows same plain others kept =
    record {
      rowed = rowed;
      placed = in_rows;
      same = same ∙ p.same;
      plain = λ i h l. at i h l (ℕ_discrete i k);
      kept = λ i h. kept i h ∙ p.kept i h;
    }
  where
    at : (i : ℕ) → from ≤ i → i < k + 1 → Dec (i ≡ k) → IsPlain ys (get_or ps i 0)
    at i h l (yes e) = rw e plain
    at i h l (no n) = rw (others i n) (plain-kept xs ys kept (get_or rs i 0) (p.plain i h (omega arith)))

-- WHAT RUNS IN A ROW

-- row r acts as segment s does in thread k
pub record Acts (code : List ℕ) (k r s : ℕ) : Type 0 where
  pub end : end_by code r ≡ end_by (words_for code k) s
  pub next : get_or code (34 * (r % 128) + 1) 0 ≡ get_or (words_for code k) (34 * (s % 128) + 1) 0
  pub execute : (x : Shared) → execute_by code r x ≡ execute_by (words_for code k) s x

module _ (code : List ℕ) (k r s : ℕ) (l : r < 128) (h : s < 64) where
  abbrev words : List ℕ
  words = words_for code k

  acts-by : get_or code (34 * r) 0 ≡ get_or words (34 * s) 0 → get_or code (34 * r + 1) 0 ≡ get_or words (34 * s + 1) 0 →
      ((j : ℕ) → j < size_by (get_or code (34 * r) 0) → get_or code (34 * r + 2 + j) 0 ≡ get_or words (34 * s + 2 + j) 0) → Acts code k r s
  unfolding execute_by
  acts-by end next held =
      let a : r % 128 ≡ r = mod-eq_of_lt l in
      let b : s % 128 ≡ s = mod-eq_of_lt (omega arith) in
      record {
        end = rw (a, b) end;
        next = rw (a, b) next;
        execute = λ x. rw (a, b, ← end) (execute_to-moved code words (34 * r + 2) (34 * s + 2) x (size_by (get_or code (34 * r) 0)) held);
      }

pub acts-own : (code held : List ℕ) → Rowed code held → (k : ℕ) → k < 32 → get_or held k 0 < 64 → Acts code k (72 + k) (get_or held k 0)
acts-own code held rowed k h l =
    let s = get_or held k 0 in
    let own = rowed.own k h l in
    let at : (j : ℕ) → j < 34 → get_or code (34 * (72 + k) + j) 0 ≡ get_or (words_for code k) (34 * s + j) 0 = λ j g. ap (λ (i : ℕ). get_or code i 0) (omega arith) ∙ own j g in
    let first : get_or code (34 * (72 + k)) 0 ≡ get_or (words_for code k) (34 * s) 0 = ap (λ (i : ℕ). get_or code i 0) (omega arith) ∙ (at 0 (omega arith) ∙ ap (λ (i : ℕ). get_or (words_for code k) i 0) (omega arith)) in
    let few : size_by (get_or code (34 * (72 + k)) 0) ≤ 32 = rw (first, code_for-end (ports_by code k) code s l) (rowed.marks.few s l) in
    acts-by code k (72 + k) s (omega arith) l first (at 1 (omega arith))
    (λ j g. ap (λ (i : ℕ). get_or code i 0) (omega arith) ∙ (at (2 + j) (omega arith) ∙ ap (λ (i : ℕ). get_or (words_for code k) i 0) (omega arith)))

pub acts-plain : (code : List ℕ) → Marks code → (k s : ℕ) → s < 64 → IsPlain code s → Acts code k s s
acts-plain code marks k s h plain =
    let place : s % 128 ≡ s = mod-eq_of_lt (omega arith) in
    let below : get_or code (34 * s) 0 < port_mark = rw place at (plain h) in
    let none = marks.unnamed s h below in
    let few = marks.few s h in
    let ps = ports_by code k in
    let n = size_by (get_or code (34 * s) 0) in
    acts-by code k s s (omega arith) h (sym (code_for-end ps code s h))
    (sym (code_for-next ps code s h ∙ map_choice-unnamed ps _ (names_from-test-not code (34 * s) n none)))
    (λ j g. sym (code_for-word ps code s h j (omega arith) ∙ map_word-unnamed ps _ (names_from-word-not code (34 * s) n none j g)))

-- where a thread is, in a row that can be run
pub acts-here : (code held rows : List ℕ) → Rowed code held → InRows held rows → (k : ℕ) → k < 32 → IsPlain code (get_or rows k 0) → Acts code k (get_or rows k 0) (segment_by (get_or held k 0) (get_or rows k 0))
acts-here code held rows rowed in_rows k h plain = go (dec_lt (get_or rows k 0) 64)
  where
    go : Dec (get_or rows k 0 < 64) → Acts code k (get_or rows k 0) (segment_by (get_or held k 0) (get_or rows k 0))
    go (yes l) = rw (← segment_by-row (get_or held k 0) (get_or rows k 0) l) (acts-plain code rowed.marks k (get_or rows k 0) l plain)
    go (no l) =
        let (e, held-here) = in_rows.own k h (omega arith) in
        rw (← segment_by-own (get_or held k 0) (get_or rows k 0) (omega arith), e) (acts-own code held rowed k h held-here)

next_by-small : (w : ℕ) (v : List ℕ) → next_by w v < 64
unfolding next_by
next_by-small w v = go (eqb (w / 65536 % 256) 255) (ltb (get_or v (w / 65536 % 256 % 64) 0) (w / 16777216))
  where
    go : (a b : Bool) → cond a (w % 64) (cond b (w % 64) (w / 256 % 64)) < 64
    go true b = omega arith
    go false true = omega arith
    go false false = omega arith

-- the segment in the row after it is the one that the thread goes to
module _ (code : List ℕ) (k r s : ℕ) (acts : Acts code k r s) (h : ℕ) (stands : segment_by h r ≡ s) (v : List ℕ) where
  pub acts-follow : segment_by h (follow_by code r v) ≡ follow_by (words_for code k) s v
  acts-follow = go (ℕ_discrete (end_by code r % 4) 0)
    where
      go : Dec (end_by code r % 4 ≡ 0) → segment_by h (follow_by code r v) ≡ follow_by (words_for code k) s v
      go (yes e) =
          let f : end_by (words_for code k) s % 4 ≡ 0 = rw (← acts.end) e in
          ap (segment_by h) (sym (follow_by-over code r v e)) ∙ (stands ∙ follow_by-over (words_for code k) s v f)
      go (no n) =
          let f : end_by (words_for code k) s % 4 ≡ 0 → ⊥ = rw (← acts.end) n in
          let w = get_or code (34 * (r % 128) + 1) 0 in
          ap (segment_by h) (sym (follow_by-on code r v n)) ∙
          (sym (segment_by-row h (next_by w v) (next_by-small w v)) ∙ (ap (λ (x : ℕ). next_by x v) acts.next ∙ follow_by-on (words_for code k) s v f))

pub rows-follow : (code held rows : List ℕ) (k : ℕ) → k < 32 → InRows held rows → (v : List ℕ) → InRows held (set rows k (follow_by code (get_or rows k 0) v))
rows-follow code held rows k h in_rows v = rows-set held rows k (follow_by code r v) h in_rows (go (ℕ_discrete (end_by code r % 4) 0))
  where
    r : ℕ
    r = get_or rows k 0

    go : Dec (end_by code r % 4 ≡ 0) → 64 ≤ follow_by code r v → (follow_by code r v ≡ 72 + k) × (get_or held k 0 < 64)
    go (yes e) = rw (← follow_by-over code r v e) (in_rows.own k h)
    go (no n) = λ l. absurd (let e = follow_by-on code r v n in let s = next_by-small (get_or code (34 * (r % 128) + 1) 0) v in omega arith)
