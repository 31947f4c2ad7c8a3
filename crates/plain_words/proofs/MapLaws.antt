-- Words that name ports: one law for each way out of the code, and what is mapped.
--     ports_by-at     the ports of one thread
--     is_port-below, is_port-from, name_below, name-above, name-port     a number that is a port, and one that is not
--     word_names-.., names_from-..     whether a statement, and a segment, names a port
--     map_word-.., map_word-unnamed, map_choice-as, map_choice-unnamed     a word after mapping
--     code_for-same, code_for-end, code_for-next, code_for-word     the words of a model as a thread runs them
--     ports_by-kept, code_for-kept     they hang on the segments and the ports alone
--     execute_to-moved     statements that stand at another place
--     any_marked-.., plain-all     whether some segment has the mark
use Prim.Native.Nat.{ℕ, zero, suc, ◌+◌, ◌-◌, ◌*◌, ◌/◌, ◌%◌, ◌<◌, ◌≤◌}
use mathlib.Core.Path.{◌≡◌, refl, ap, sym, ◌∙◌}
use mathlib.Core.Logic.{◌⊎◌, inl, inr}
use mathlib.Core.Bool.{Bool, true, false, cond, ◌&&◌, ◌||◌}
use mathlib.Core.List.{List}
use native.Mathlib.Omega.{arith}
use native.Mathlib.Decide.{dec_lt}
use native.Mathlib.Nat.{mod-eq_of_lt}
use lib.Dec.{T, leb, ltb}
use lib.ListN.{length, get_or}
use borrow.Author.Tests.{lt-ltb, le-ltb, le-leb, lt-leb}
use Rattle.base.specs.Index.{any_below, tabulate}
use Rattle.base.proofs.BoolLaws.{T→false, false→T, not-or→both}
use Rattle.base.proofs.IndexLaws.{any_below-here, any_below-empty, any_below-none, any_below-same, tabulate-at, tabulate-same}
use Rattle.model.specs.Port.{is_port, mapped}
use Rattle.model_effect.proofs.PortLaws.{mapped-below, mapped-above, mapped-port}
use Rattle.plain_words.specs.Unpack.{size_by}
use Rattle.plain_words.specs.Ports.{ports_by, map_word, map_choice, map_at, code_for, words_for, word_names, names_from, marked_if, port_mark, any_marked}
use Rattle.plain_words.specs.Rows.{Kept}
use Rattle.plain_words.specs.Shared.{Shared, execute_to}

-- THE PORTS OF A THREAD

pub ports_by-at : (code : List ℕ) (k p : ℕ) → p < 8 → get_or (ports_by code k) p 0 ≡ get_or code (2176 + 8 * k + p) 0 % 256
unfolding ports_by
ports_by-at code k p h = tabulate-at 8 0 p (λ (i : ℕ). get_or code (2176 + 8 * k + i) 0 % 256) 0 h ∙ ap (λ (i : ℕ). get_or code (2176 + 8 * k + i) 0 % 256) (omega arith)

pub is_port-below : (x : ℕ) → x < 128 → false ≡ is_port x
unfolding is_port
is_port-below x h = rw (lt-leb 128 x h) refl

pub is_port-from : (x : ℕ) → 128 ≤ x → ltb x 136 ≡ is_port x
unfolding is_port
is_port-from x h = rw (le-leb 128 x h) refl

mapped-not : (ps : List ℕ) (x : ℕ) → is_port x ≡ false → mapped ps x ≡ x
unfolding mapped
mapped-not ps x e = rw e refl

-- for the code
module _ (code : List ℕ) (k x : ℕ) where
  pub name_below : x < 128 → x ≡ mapped (ports_by code k) x
  name_below h = sym (mapped-below (ports_by code k) x h)

  pub name-above : 136 ≤ x → x ≡ mapped (ports_by code k) x
  name-above h = sym (mapped-above (ports_by code k) x h)

  pub name-port : 128 ≤ x → x < 136 → (r : ℕ) → r ≡ get_or code (2176 + 8 * k + (x - 128)) 0 % 256 → r ≡ mapped (ports_by code k) x
  name-port h l r e = e ∙ (sym (ports_by-at code k (x - 128) (omega arith)) ∙ sym (mapped-port (ports_by code k) x h l))

-- WHETHER A PORT IS NAMED

module _ (w : ℕ) where
  pub word_names-event : 4 < w % 8 → false ≡ word_names w
  unfolding word_names
  word_names-event h = rw (lt-leb (w % 8) 4 h) refl

  module _ (h : w % 8 ≤ 4) where
    pub word_names-first : is_port (w / 8 % 256) ≡ true → true ≡ word_names w
    unfolding word_names
    word_names-first e = rw (le-leb (w % 8) 4 h, e) refl

    pub word_names-constant : is_port (w / 8 % 256) ≡ false → w % 8 < 2 → false ≡ word_names w
    unfolding word_names
    word_names-constant e l = rw (le-leb (w % 8) 4 h, e, lt-leb 2 (w % 8) l) refl

    pub word_names-second : is_port (w / 8 % 256) ≡ false → 2 ≤ w % 8 → is_port (w / 2048) ≡ word_names w
    unfolding word_names
    word_names-second e l = rw (le-leb (w % 8) 4 h, e, le-leb 2 (w % 8) l) refl

module _ (code : List ℕ) (base n : ℕ) where
  pub names_from-test : is_port (get_or code (base + 1) 0 / 65536 % 256) ≡ true → true ≡ names_from code base n
  unfolding names_from
  names_from-test e = rw e refl

  pub names_from-here : is_port (get_or code (base + 1) 0 / 65536 % 256) ≡ false → (j : ℕ) → j < n → word_names (get_or code (base + 2 + j) 0) ≡ true → true ≡ names_from code base n
  unfolding names_from
  names_from-here e j h f = rw (e, any_below-here n (λ i. word_names (get_or code (base + 2 + i) 0)) j h f) refl

  pub names_from-none : is_port (get_or code (base + 1) 0 / 65536 % 256) ≡ false → ((j : ℕ) → j < n → word_names (get_or code (base + 2 + j) 0) ≡ false) → false ≡ names_from code base n
  unfolding names_from
  names_from-none e f = rw (e, any_below-empty n (λ i. word_names (get_or code (base + 2 + i) 0)) f) refl

  -- where none is named
  pub names_from-test-not : names_from code base n ≡ false → is_port (get_or code (base + 1) 0 / 65536 % 256) ≡ false
  unfolding names_from
  names_from-test-not e =
      let test = is_port (get_or code (base + 1) 0 / 65536 % 256) in
      let some = any_below n (λ i. word_names (get_or code (base + 2 + i) 0)) in
      T→false test (not-or→both test some (false→T (test || some) e)).0

  pub names_from-word-not : names_from code base n ≡ false → (j : ℕ) → j < n → word_names (get_or code (base + 2 + j) 0) ≡ false
  unfolding names_from
  names_from-word-not e j h =
      let test = is_port (get_or code (base + 1) 0 / 65536 % 256) in
      let some = any_below n (λ i. word_names (get_or code (base + 2 + i) 0)) in
      T→false (word_names (get_or code (base + 2 + j) 0)) (any_below-none n (λ i. word_names (get_or code (base + 2 + i) 0)) (not-or→both test some (false→T (test || some) e)).1 j h)

  -- words that are the same past the first
  pub names_from-same : (xs : List ℕ) → ((j : ℕ) → j < n + 1 → get_or xs (base + 1 + j) 0 ≡ get_or code (base + 1 + j) 0) → names_from xs base n ≡ names_from code base n
  unfolding names_from
  names_from-same xs h =
      let z : base + 1 + 0 ≡ base + 1 = omega arith in
      let first : get_or xs (base + 1) 0 ≡ get_or code (base + 1) 0 = rw z at (h 0 (omega arith)) in
      rw (first, any_below-same n (λ i. word_names (get_or xs (base + 2 + i) 0)) (λ i. word_names (get_or code (base + 2 + i) 0)) (λ i l. ap word_names (at i l))) refl
    where
      at : (i : ℕ) → i < n → get_or xs (base + 2 + i) 0 ≡ get_or code (base + 2 + i) 0
      at i l = let e : base + 2 + i ≡ base + 1 + (i + 1) = omega arith in rw e (h (i + 1) (omega arith))

-- what holds below j and of j
pub below_more : (P : ℕ → Type 0) (j : ℕ) → ((i : ℕ) → i < j → P i) → P j → (i : ℕ) → i < j + 1 → P i
below_more P j h e i l = go (dec_lt i j)
  where
    go : Dec (i < j) → P i
    go (yes k) = h i k
    go (no k) = let q : i ≡ j = omega arith in rw q e

-- for the code: the mark
module _ (code : List ℕ) (base e n : ℕ) (same : n ≡ size_by e) where
  pub marked-some : names_from code base n ≡ true → e + port_mark ≡ marked_if (names_from code base (size_by e)) e
  marked-some h = let g : names_from code base (size_by e) ≡ true = rw same at h in rw g refl

  pub marked-none : names_from code base n ≡ false → e ≡ marked_if (names_from code base (size_by e)) e
  marked-none h = let g : names_from code base (size_by e) ≡ false = rw same at h in rw g (omega arith)

-- WORDS AFTER MAPPING

module _ (ps : List ℕ) (w : ℕ) where
  pub map_word-event : 4 < w % 8 → w ≡ map_word ps w
  unfolding map_word
  map_word-event h = rw (lt-ltb 4 (w % 8) h) refl

  pub map_word-constant : w % 8 ≤ 4 → w % 8 < 2 → (a : ℕ) → a ≡ mapped ps (w / 8 % 256) → w % 8 + 8 * a + 2048 * (w / 2048) ≡ map_word ps w
  unfolding map_word
  map_word-constant h l a e = rw (le-ltb 4 (w % 8) h, lt-ltb (w % 8) 2 l, e) refl

  pub map_word-names : w % 8 ≤ 4 → 2 ≤ w % 8 → (a b : ℕ) → a ≡ mapped ps (w / 8 % 256) → b ≡ mapped ps (w / 2048) → w % 8 + 8 * a + 2048 * b ≡ map_word ps w
  unfolding map_word
  map_word-names h l a b e f = rw (le-ltb 4 (w % 8) h, le-ltb (w % 8) 2 l, e, f) refl

  pub map_choice-as : (a : ℕ) → a ≡ mapped ps (w / 65536 % 256) → w % 65536 + 65536 * a + 16777216 * (w / 16777216) ≡ map_choice ps w
  unfolding map_choice
  map_choice-as a e = rw e refl

  pub map_choice-unnamed : is_port (w / 65536 % 256) ≡ false → map_choice ps w ≡ w
  map_choice-unnamed e = sym (map_choice-as (w / 65536 % 256) (sym (mapped-not ps (w / 65536 % 256) e))) ∙ omega arith

  whole : w % 8 + 8 * (w / 8 % 256) + 2048 * (w / 2048) ≡ w
  whole = omega arith

  pub map_word-unnamed : word_names w ≡ false → map_word ps w ≡ w
  unfolding word_names
  map_word-unnamed e = go (dec_lt 4 (w % 8)) (dec_lt (w % 8) 2)
    where
      first-not : w % 8 ≤ 4 → is_port (w / 8 % 256) ≡ false
      first-not h =
          let first = is_port (w / 8 % 256) in
          let second = leb 2 (w % 8) && is_port (w / 2048) in
          let f : first || second ≡ false = rw (le-leb (w % 8) 4 h) at e in
          T→false first (not-or→both first second (false→T (first || second) f)).0

      second-not : w % 8 ≤ 4 → 2 ≤ w % 8 → is_port (w / 2048) ≡ false
      second-not h l =
          let first = is_port (w / 8 % 256) in
          let second = is_port (w / 2048) in
          let f : first || second ≡ false = rw (le-leb (w % 8) 4 h, le-leb 2 (w % 8) l) at e in
          T→false second (not-or→both first second (false→T (first || second) f)).1

      go : Dec (4 < w % 8) → Dec (w % 8 < 2) → map_word ps w ≡ w
      go (yes h) d = sym (map_word-event h)
      go (no h) (yes l) = sym (map_word-constant (omega arith) l (w / 8 % 256) (sym (mapped-not ps (w / 8 % 256) (first-not (omega arith))))) ∙ whole
      go (no h) (no l) =
          sym (map_word-names (omega arith) (omega arith) (w / 8 % 256) (w / 2048) (sym (mapped-not ps (w / 8 % 256) (first-not (omega arith)))) (sym (mapped-not ps (w / 2048) (second-not (omega arith) (omega arith))))) ∙
          whole

-- ports that are the same
module _ (ps qs : List ℕ) (same : (p : ℕ) → p < 8 → get_or ps p 0 ≡ get_or qs p 0) where
  mapped-same : (x : ℕ) → mapped ps x ≡ mapped qs x
  mapped-same x = go (dec_lt x 128) (dec_lt x 136)
    where
      go : Dec (x < 128) → Dec (x < 136) → mapped ps x ≡ mapped qs x
      go (yes h) d = mapped-below ps x h ∙ sym (mapped-below qs x h)
      go (no h) (yes l) = mapped-port ps x (omega arith) l ∙ (same (x - 128) (omega arith) ∙ sym (mapped-port qs x (omega arith) l))
      go (no h) (no l) = mapped-above ps x (omega arith) ∙ sym (mapped-above qs x (omega arith))

  map_at-same : (j w : ℕ) → map_at ps j w ≡ map_at qs j w
  unfolding map_at map_choice map_word
  map_at-same zero w = refl
  map_at-same (suc zero) w = rw (mapped-same (w / 65536 % 256)) refl
  map_at-same (suc (suc j)) w = rw (mapped-same (w / 8 % 256), mapped-same (w / 2048)) refl

  pub code_for-same : (code : List ℕ) → code_for ps code ≡ code_for qs code
  unfolding code_for
  code_for-same code = tabulate-same 2176 0 (λ i. map_at ps (i % 34) (get_or code i 0)) (λ i. map_at qs (i % 34) (get_or code i 0)) (λ i h. map_at-same (i % 34) (get_or code i 0))

-- THE WORDS OF A MODEL AS A THREAD RUNS THEM

-- they hang on the segments and the ports alone
module _ (xs ys : List ℕ) (kept : Kept xs ys) where
  pub ports_by-kept : (k : ℕ) → k < 32 → ports_by ys k ≡ ports_by xs k
  unfolding ports_by
  ports_by-kept k h =
      tabulate-same 8 0 (λ p. get_or ys (2176 + 8 * k + p) 0 % 256) (λ p. get_or xs (2176 + 8 * k + p) 0 % 256)
      (λ p l. ap (λ (w : ℕ). w % 256) (kept (2176 + 8 * k + p) (omega arith)))

  code_for-kept : (ps : List ℕ) → code_for ps ys ≡ code_for ps xs
  unfolding code_for
  code_for-kept ps = tabulate-same 2176 0 (λ i. map_at ps (i % 34) (get_or ys i 0)) (λ i. map_at ps (i % 34) (get_or xs i 0)) (λ i h. ap (map_at ps (i % 34)) (kept i (omega arith)))

  pub words_for-kept : (k : ℕ) → k < 32 → words_for ys k ≡ words_for xs k
  words_for-kept k h = ap (λ (ps : List ℕ). code_for ps ys) (ports_by-kept k h) ∙ code_for-kept (ports_by xs k)

module _ (ps code : List ℕ) (s : ℕ) (h : s < 64) where
  pub code_for-at : (j : ℕ) → j < 34 → get_or (code_for ps code) (34 * s + j) 0 ≡ map_at ps j (get_or code (34 * s + j) 0)
  unfolding code_for
  code_for-at j l =
      let f : ℕ → ℕ = λ i. map_at ps (i % 34) (get_or code i 0) in
      let z : 0 + (34 * s + j) ≡ 34 * s + j = omega arith in
      let e : (34 * s + j) % 34 ≡ j = omega arith in
      tabulate-at 2176 0 (34 * s + j) f 0 (omega arith) ∙ (ap f z ∙ ap (λ (k : ℕ). map_at ps k (get_or code (34 * s + j) 0)) e)

  pub code_for-end : get_or (code_for ps code) (34 * s) 0 ≡ get_or code (34 * s) 0
  unfolding map_at
  code_for-end = let z : 34 * s + 0 ≡ 34 * s = omega arith in rw (← z) (code_for-at 0 (omega arith))

  pub code_for-next : get_or (code_for ps code) (34 * s + 1) 0 ≡ map_choice ps (get_or code (34 * s + 1) 0)
  unfolding map_at
  code_for-next = code_for-at 1 (omega arith)

  pub code_for-word : (j : ℕ) → j < 32 → get_or (code_for ps code) (34 * s + 2 + j) 0 ≡ map_word ps (get_or code (34 * s + 2 + j) 0)
  unfolding map_at
  code_for-word j l = let z : 34 * s + 2 + j ≡ 34 * s + suc (suc j) = omega arith in rw z (code_for-at (suc (suc j)) (omega arith))

-- statements that stand at another place
pub execute_to-moved : (xs ys : List ℕ) (a b : ℕ) (x : Shared) (j : ℕ) → ((i : ℕ) → i < j → get_or xs (a + i) 0 ≡ get_or ys (b + i) 0) → execute_to xs a j x ≡ execute_to ys b j x
unfolding execute_to
execute_to-moved xs ys a b x zero h = refl
execute_to-moved xs ys a b x (suc j) h = rw (execute_to-moved xs ys a b x j (λ i l. h i (omega arith)), h j (omega arith)) refl

-- whether some segment has the mark
module _ (code : List ℕ) where
  pub any_marked-here : (s : ℕ) → s < 64 → port_mark ≤ get_or code (34 * s) 0 → true ≡ any_marked code
  unfolding any_marked
  any_marked-here s h l = sym (any_below-here 64 (λ i. leb port_mark (get_or code (34 * i) 0)) s h (le-leb port_mark (get_or code (34 * s) 0) l))

  pub any_marked-none : ((s : ℕ) → s < 64 → get_or code (34 * s) 0 < port_mark) → false ≡ any_marked code
  unfolding any_marked
  any_marked-none h = sym (any_below-empty 64 (λ i. leb port_mark (get_or code (34 * i) 0)) (λ s l. lt-leb port_mark (get_or code (34 * s) 0) (h s l)))
