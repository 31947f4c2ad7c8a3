-- A model's words, packed from the front, one segment a turn.
--     part_none, part-more, part-before, part-behind     what a loop stores from a place on; what stands before it, and behind, is kept
--     segment-read     a segment is read past no end
--     is_code-none, is_code-more     no segment, and one segment more
--     is_code-marks     a segment without the mark names no port
--     is_code-kept     the ports are stored behind
--     is_code-code_of     all 64 segments and the ports: the model's words, and no others
--     ports-more     the ports of one thread more
--     is_code_for-by     the words as a thread runs them
use Prim.Native.Nat.{ℕ, zero, suc, ◌+◌, ◌-◌, ◌*◌, ◌/◌, ◌%◌, ◌<◌, ◌≤◌}
use mathlib.Core.Path.{◌≡◌, refl, ap, sym, ◌∙◌}
use mathlib.Core.Bool.{Bool, true, false}
use mathlib.Core.List.{List, []}
use native.Mathlib.Omega.{arith}
use native.Mathlib.Nat.{mod-eq_of_lt}
use native.Mathlib.Decide.{ℕ_discrete, dec_lt}
use lib.ListN.{length, get_or, set, replicate, length-set}
use lib.Seq.{get_or-set_same, get_or-set_other}
use borrow.Author.Tests.{lt-ltb, le-ltb}
use Rattle.base.proofs.ListLaws.{get_d_any}
use Rattle.base.proofs.IndexLaws.{any_below-same, tabulate-is}
use Rattle.model.specs.declared.Model.{Model}
use Rattle.model.specs.declared.Closer.{Closer}
use Rattle.model.specs.declared.Closer.TheVariants.{End}
use Rattle.model.specs.declared.Segment.{Segment}
use Rattle.model.specs.declared.Start.{Start}
use Rattle.model.specs.Port.{port_of}
use Rattle.model.specs.Values.{no_statement, no_segment, segment_at, start_at, ports_at}
use Rattle.model_rules.proofs.FaultLaws.{start_at-read}
use Rattle.plain_words.proofs.SetLaws.{set-case}
use Rattle.plain_words.specs.Unpack.{size_by}
use Rattle.plain_words.specs.Ports.{ports_by, code_for, words_for, word_names, names_from, port_mark, marked_if, Marks}
use Rattle.plain_words.specs.Pack.{Held, pack_op, pack_end, pack_choice, segment_names, segment_word, model_word, code_of, IsCode, IsPort, IsPorts, IsCodeFor}
use Rattle.plain_words.proofs.ExitLaws.{few-≤}
use Rattle.plain_words.proofs.CodeLaws.{size_by-few, end-size, pack_end-size}
use Rattle.plain_words.proofs.MapLaws.{ports_by-at, names_from-same, code_for-same}

module _ (P : ℕ → ℕ → Type 0) where
  pub part_none : (xs : List ℕ) (base i : ℕ) → i < 0 → P i (get_or xs (base + i) 0)
  part_none xs base i h = absurd (omega arith)

  pub part-more : (xs : List ℕ) (base k x : ℕ) → base + k < length xs → P k x → ((i : ℕ) → i < k → P i (get_or xs (base + i) 0)) →
      (i : ℕ) → i < k + 1 → P i (get_or (set xs (base + k) x) (base + i) 0)
  part-more xs base k x h p f i l =
      set-case xs (base + k) (base + i) x 0 h (P i) (λ e. let q : i ≡ k = omega arith in rw q p) (λ e. f i (omega arith))

pub part-before : (xs ys : List ℕ) (base k x : ℕ) → ((i : ℕ) → i < base → get_or xs i 0 ≡ get_or ys i 0) → (i : ℕ) → i < base → get_or (set xs (base + k) x) i 0 ≡ get_or ys i 0
part-before xs ys base k x f i l = get_or-set_other xs (base + k) i x 0 (λ q. omega arith) ∙ f i l

pub part-behind : (xs ys : List ℕ) (base k x past : ℕ) → base + k < past → ((i : ℕ) → past ≤ i → get_or xs i 0 ≡ get_or ys i 0) → (i : ℕ) → past ≤ i → get_or (set xs (base + k) x) i 0 ≡ get_or ys i 0
part-behind xs ys base k x past h f i l = get_or-set_other xs (base + k) i x 0 (λ q. omega arith) ∙ f i l

pub segment-read : (m : Model) (s : ℕ) → s < length m.segments → get_or m.segments s (record { closer = End; n = 0; statements = [] }) ≡ segment_at m s
unfolding segment_at
segment-read m s h = get_d_any m.segments s (record { closer = End; n = 0; statements = [] }) no_segment h

zeros : (n i : ℕ) → ◌≡◌ {A = ℕ} (get_or (replicate n 0) i 0) 0
zeros zero i = refl
zeros (suc n) zero = refl
zeros (suc n) (suc i) = zeros n i

-- a segment has few statements
few-end : (n : ℕ) (z : Closer) → size_by (pack_end n z) ≤ 32
few-end n z = omega (arith, pack_end-size n z, few-≤ n)

pub end-few : (i n k : ℕ) → n ≤ 32 → i < 4 → size_by (i + 4 * n + 1024 * k) ≤ 32
unfolding size_by
end-few i n k h l = omega (arith, end-size i n k l h)

pub few-packed : (n : ℕ) (z : Closer) (e : ℕ) → e ≡ pack_end n z → size_by e ≤ 32
few-packed n z e h = rw h (few-end n z)

pub is_code-none : (m : Model) → IsCode m 0 (replicate 4384 0)
is_code-none m =
    record {
      size = refl;
      places = λ s h. absurd (omega arith);
      end = λ s h. absurd (omega arith);
      next = λ s h. absurd (omega arith);
      held = λ s j h. absurd (omega arith);
      rest = λ i h. zeros 4384 i;
    }

-- one segment more: its next segments and its statements are stored behind the words, and then how it closes
module _ (m : Model) (code ys : List ℕ) (s : ℕ) (room : s < 64) (is : IsCode m s code) (g : Segment) (same : g ≡ segment_at m s) (e x r : ℕ)
    (end : e ≡ pack_end g.n g.closer) (next : x ≡ pack_choice g.closer) (mark : r ≡ marked_if (names_from ys (34 * s) (size_by e)) e)
    (before : (k : ℕ) → k < 34 * s + 2 → get_or ys k 0 ≡ get_or (set code (34 * s + 1) x) k 0) (size : length ys ≡ 4384)
    (rest : (k : ℕ) → 2432 ≤ k → get_or ys k 0 ≡ get_or (set code (34 * s + 1) x) k 0) where
  abbrev xs : List ℕ
  xs = set ys (34 * s) r

  -- how segment i closes, without its mark
  abbrev end_of : ℕ → ℕ
  end_of i = pack_end (segment_at m i).n (segment_at m i).closer

  other : (k : ℕ) → (k ≡ 34 * s → ⊥) → get_or xs k 0 ≡ get_or ys k 0
  other k n = get_or-set_other ys (34 * s) k r 0 n

  kept : (k : ℕ) → k < 34 * s → get_or xs k 0 ≡ get_or code k 0
  kept k h = other k (λ q. omega arith) ∙ (before k (omega arith) ∙ get_or-set_other code (34 * s + 1) k x 0 (λ q. omega arith))

  names-here : names_from xs (34 * s) (size_by (end_of s)) ≡ names_from ys (34 * s) (size_by (end_of s))
  names-here = names_from-same ys (34 * s) (size_by (end_of s)) xs (λ j l. other (34 * s + 1 + j) (λ q. omega arith))

  names-kept : (i : ℕ) → i < s → names_from xs (34 * i) (size_by (end_of i)) ≡ names_from code (34 * i) (size_by (end_of i))
  names-kept i h = names_from-same code (34 * i) (size_by (end_of i)) xs (λ j l. kept (34 * i + 1 + j) (omega (arith, few-end (segment_at m i).n (segment_at m i).closer)))

  end-here : get_or xs (34 * s) 0 ≡ marked_if (names_from xs (34 * s) (size_by (end_of s))) (end_of s)
  end-here =
      let f : e ≡ end_of s = rw (← same) end in
      get_or-set_same ys (34 * s) r 0 (omega arith) ∙ (mark ∙ rw (f, names-here) refl)

  next_here : get_or xs (34 * s + 1) 0 ≡ pack_choice (segment_at m s).closer
  next_here =
      other (34 * s + 1) (λ q. omega arith) ∙
      (before (34 * s + 1) (omega arith) ∙ (get_or-set_same code (34 * s + 1) x 0 (omega (arith, is.size)) ∙ rw (← same) next))

  pub is_code-more : length g.statements ≡ 32 → ((j : ℕ) → j < 32 → Held (get_or g.statements j no_statement).op (get_or ys (34 * s + 2 + j) 0)) →
      IsCode m (s + 1) xs
  is_code-more places held =
      record {
        size = length-set ys (34 * s) r ∙ size;
        places = λ i h. places-at i h (ℕ_discrete i s);
        end = λ i h. end-at i h (ℕ_discrete i s);
        next = λ i h. next-at i h (ℕ_discrete i s);
        held = λ i j h l. held_at i j h l (ℕ_discrete i s);
        rest = λ i h. other i (λ q. omega arith) ∙ (rest i h ∙ (get_or-set_other code (34 * s + 1) i x 0 (λ q. omega arith) ∙ is.rest i h));
      }
    where
      places-at : (i : ℕ) → i < s + 1 → Dec (i ≡ s) → length (segment_at m i).statements ≡ 32
      places-at i h (yes q) = rw (q, ← same) places
      places-at i h (no q) = is.places i (omega arith)

      end-at : (i : ℕ) → i < s + 1 → Dec (i ≡ s) → get_or xs (34 * i) 0 ≡ marked_if (names_from xs (34 * i) (size_by (end_of i))) (end_of i)
      end-at i h (yes q) = rw q end-here
      end-at i h (no q) =
          kept (34 * i) (omega arith) ∙
          (is.end i (omega arith) ∙ ap (λ (b : Bool). marked_if b (end_of i)) (sym (names-kept i (omega arith))))

      next-at : (i : ℕ) → i < s + 1 → Dec (i ≡ s) → get_or xs (34 * i + 1) 0 ≡ pack_choice (segment_at m i).closer
      next-at i h (yes q) = rw q next_here
      next-at i h (no q) = kept (34 * i + 1) (omega arith) ∙ is.next i (omega arith)

      held_at : (i j : ℕ) → i < s + 1 → j < 32 → Dec (i ≡ s) → Held (get_or (segment_at m i).statements j no_statement).op (get_or xs (34 * i + 2 + j) 0)
      held_at i j h l (yes q) = rw (q, ← same, other (34 * s + 2 + j) (λ p. omega arith)) (held j l)
      held_at i j h l (no q) = rw (kept (34 * i + 2 + j) (omega arith)) (is.held i j (omega arith) l)

-- a segment has few statements, and without the mark it names no port
pub is_code-marks : (m : Model) (code : List ℕ) → IsCode m 64 code → Marks code
is_code-marks m code is = record { few = λ s h. few-at s h; unnamed = λ s h l. go s h l (names_from code (34 * s) (size_by (end_of s))) refl }
  where
    end_of : ℕ → ℕ
    end_of s = pack_end (segment_at m s).n (segment_at m s).closer

    few-at : (s : ℕ) → s < 64 → size_by (get_or code (34 * s) 0) ≤ 32
    few-at s h =
        let e = is.end s h in
        rw e (omega (arith, size_by-few (names_from code (34 * s) (size_by (end_of s))) (segment_at m s).n (segment_at m s).closer, few-≤ (segment_at m s).n))

    go : (s : ℕ) → s < 64 → get_or code (34 * s) 0 < port_mark → (b : Bool) → names_from code (34 * s) (size_by (end_of s)) ≡ b → names_from code (34 * s) (size_by (get_or code (34 * s) 0)) ≡ false
    go s h l true f =
        let g : get_or code (34 * s) 0 ≡ end_of s + port_mark = is.end s h ∙ ap (λ (b : Bool). marked_if b (end_of s)) f in
        absurd (omega arith)
    go s h l false f =
        let g : get_or code (34 * s) 0 ≡ end_of s = is.end s h ∙ (ap (λ (b : Bool). marked_if b (end_of s)) f ∙ omega arith) in
        rw g f

-- the ports are stored behind
pub is_code-kept : (m : Model) (code xs : List ℕ) → IsCode m 64 code → length xs ≡ 4384 → ((i : ℕ) → i < 2176 → get_or xs i 0 ≡ get_or code i 0) →
    ((i : ℕ) → 2432 ≤ i → get_or xs i 0 ≡ get_or code i 0) → IsCode m 64 xs
is_code-kept m code xs is size same rest =
    record {
      size = size;
      places = is.places;
      end = λ s h. same (34 * s) (omega arith) ∙ (is.end s h ∙ ap (λ (b : Bool). marked_if b (end_of s)) (sym (names s h)));
      next = λ s h. same (34 * s + 1) (omega arith) ∙ is.next s h;
      held = λ s j h l. rw (same (34 * s + 2 + j) (omega arith)) (is.held s j h l);
      rest = λ i h. rest i h ∙ is.rest i h;
    }
  where
    end_of : ℕ → ℕ
    end_of s = pack_end (segment_at m s).n (segment_at m s).closer

    names : (s : ℕ) → s < 64 → names_from xs (34 * s) (size_by (end_of s)) ≡ names_from code (34 * s) (size_by (end_of s))
    names s h = names_from-same code (34 * s) (size_by (end_of s)) xs (λ j l. same (34 * s + 1 + j) (omega (arith, few-end (segment_at m s).n (segment_at m s).closer)))

pub is_code-code_of : (m : Model) (code : List ℕ) → IsCode m 64 code → IsPorts m code → code ≡ code_of m
unfolding model_word segment_word segment_names names_from
is_code-code_of m code is ports = tabulate-is 0 code 4384 (model_word m) is.size (λ i h. word i h (dec_lt i 2176) (dec_lt i 2432))
  where
    names : (s : ℕ) → s < 64 → names_from code (34 * s) (size_by (pack_end (segment_at m s).n (segment_at m s).closer)) ≡ segment_names (segment_at m s)
    names s h =
        let g = segment_at m s in
        let n = size_by (pack_end g.n g.closer) in
        rw
        (is.next s h, any_below-same n (λ j. word_names (get_or code (34 * s + 2 + j) 0)) (λ j. word_names (pack_op (get_or g.statements j no_statement).op)) (λ j l. ap word_names (is.held s j h (omega (arith, few-end g.n g.closer))).word))
        refl

    at : (s j : ℕ) → s < 64 → j < 34 → get_or code (34 * s + j) 0 ≡ segment_word (segment_at m s) j
    at s zero h l =
        let e = pack_end (segment_at m s).n (segment_at m s).closer in
        ap (λ (k : ℕ). get_or code k 0) (omega arith) ∙ (is.end s h ∙ ap (λ (b : Bool). marked_if b e) (names s h))
    at s (suc zero) h l = is.next s h
    at s (suc (suc j)) h l = ap (λ (k : ℕ). get_or code k 0) (omega arith) ∙ (is.held s j h (omega arith)).word

    word : (i : ℕ) → i < 4384 → Dec (i < 2176) → Dec (i < 2432) → get_or code i 0 ≡ model_word m i
    word i h (yes l) d =
        let e : i ≡ 34 * (i / 34) + i % 34 = omega arith in
        rw (lt-ltb i 2176 l) (ap (λ (k : ℕ). get_or code k 0) e ∙ at (i / 34) (i % 34) (omega arith) (omega arith))
    word i h (no l) (yes k) =
        let e : i ≡ 2176 + 8 * ((i - 2176) / 8) + (i - 2176) % 8 = omega arith in
        rw (le-ltb i 2176 (omega arith), lt-ltb i 2432 k)
        (ap (λ (k : ℕ). get_or code k 0) e ∙ (ports ((i - 2176) / 8) ((i - 2176) % 8) (omega arith) (omega arith)).word)
    word i h (no l) (no k) = rw (le-ltb i 2176 (omega arith), le-ltb i 2432 (omega arith)) (is.rest i (omega arith))

-- the ports of a model's threads, one thread a turn
pub ports-more : (m : Model) (xs ys : List ℕ) (k : ℕ) (x : Start) → k < length m.starts → ((i p : ℕ) → i < k → p < 8 → IsPort (port_of (ports_at m i) p) (get_or xs (2176 + 8 * i + p) 0)) →
    ((p : ℕ) → p < 8 → IsPort (get_or (get_or m.starts k x).ports p 0) (get_or ys (2176 + 8 * k + p) 0)) → ((i : ℕ) → i < 2176 + 8 * k → get_or ys i 0 ≡ get_or xs i 0) →
    (i p : ℕ) → i < k + 1 → p < 8 → IsPort (port_of (ports_at m i) p) (get_or ys (2176 + 8 * i + p) 0)
unfolding ports_at
ports-more m xs ys k x room old new before i p h l = go (ℕ_discrete i k)
  where
    go : Dec (i ≡ k) → IsPort (get_or (start_at m i).ports p 0) (get_or ys (2176 + 8 * i + p) 0)
    go (yes q) = rw (q, ← start_at-read m k x room) (new p l)
    go (no q) = rw (before (2176 + 8 * i + p) (omega arith)) (old i p (omega arith) l)

pub is_code_for-by : (m : Model) (code : List ℕ) → IsCode m 64 code → IsPorts m code → (k : ℕ) → k < 32 → IsCodeFor m k (words_for code k)
is_code_for-by m code is ports k h =
    record {
      code = code;
      is = is;
      mapped = code_for-same (ports_by code k) (ports_at m k) (λ p l. let held = ports k p h l in ports_by-at code k p l ∙ (mod-eq_of_lt held.range ∙ held.word)) code;
    }
