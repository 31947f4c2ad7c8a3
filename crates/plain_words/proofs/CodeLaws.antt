-- A model's segments as words: what is read from them, as a thread runs them, is what the model says after mapping.
--     held_mapped, closer-choice     a word after mapping holds the statement, and the next segments, after mapping
--     end-kind, end-load     how a segment closes: its kind, and its delay or its event
--     mark-kind, mark-delay, mark-event     the mark of a segment that names a port is not seen there
--     code-end, code-execute, code-follow     a segment's closer, its statements and the next segment
use Prim.Native.Nat.{ℕ, zero, suc, ◌+◌, ◌*◌, ◌/◌, ◌%◌, ◌<◌, ◌≤◌, ◌^◌}
use mathlib.Core.Path.{◌≡◌, refl, ap, sym, ◌∙◌, subst}
use mathlib.Core.Logic.{◌⊎◌, inl, inr}
use mathlib.Core.Bool.{Bool, true, false, cond, not}
use mathlib.Core.List.{List, []}
use native.Mathlib.Nat.{add-mul-mod_self_left, mul-mod_right, mod-eq_of_lt}
use native.Mathlib.Omega.{arith}
use native.Mathlib.Decide.{ℕ_discrete, dec_lt}
use lib.Dec.{T, ltb, eqb, eqb_refl}
use lib.ListN.{length, get_or, take, length-take}
use lib.Seq.{get_or-take}
use borrow.Author.Tests.{lt-ltb, le-ltb, eq-eqb, ne_eqb}
use Rattle.base.proofs.BoolLaws.{false→T, both→and, either→or}
use Rattle.clock.specs.declared.Cycle.{Cycle}
use Rattle.model.specs.declared.Op.{Op}
use Rattle.model.specs.declared.Op.TheVariants.{Set, Add, Copy, AddVariable, SubVariable, Notify}
use Rattle.model.specs.declared.Next.{Next}
use Rattle.model.specs.declared.Closer.{Closer}
use Rattle.model.specs.declared.Closer.TheVariants.{End, Time, Event}
use Rattle.model.specs.declared.Model.{Model}
use Rattle.model.specs.declared.Statement.{Statement}
use Rattle.model.specs.Port.{is_port, mapped, map_op, map_next, map_closer, map_segment}
use Rattle.model.specs.Values.{no_statement, segment_at, ports_at, segment_for, body_of}
use Rattle.model.specs.Statement.{execute, notified_by_op, notified_by}
use Rattle.model.specs.Effect.{next_of, closed_at}
use Rattle.model.specs.Footprint.{writes_op, reads_op, tests_next, tests, writes_of, uses_of, uses_in, listed_in, has, notifies_in}
use Rattle.model.specs.Reach.{lacks_port}
use Rattle.model.specs.Rules.{op_fault, closer_fault, leaves_model, model_fault}
use Rattle.model_effect.proofs.StatementLaws.{execute-none, execute-more, notified_by-none, notified_by-more}
use Rattle.model_effect.proofs.FootprintLaws.{asks-found, writes-asks, reads-asks, notifies-asks}
use Rattle.model_effect.proofs.FrameLaws.{writes_of→uses_of, reads_of→uses_of, tests_of→uses_of}
use Rattle.model_effect.proofs.PortLaws.{map_statements-length, map_statements-at}
use Rattle.model_rules.proofs.RuleLaws.{Name, op_fault-writes, closer_fault-time-test, closer_fault-event-test, leaves_model-time, leaves_model-event, model_fault-counts, model_fault-statements, model_fault-closer, model_fault-next, model_fault-op, model_fault-uses, model_fault-notifies, segment_for-next}
use Rattle.plain_words.specs.Pack.{Held, few, pack_end, pack_next, pack_choice, IsCode, IsCodeFor}
use Rattle.plain_words.specs.Unpack.{op_of, end_by, size_by, next_by, follow_by}
use Rattle.plain_words.specs.Ports.{map_word, map_choice, code_for, names_from, marked_if}
use Rattle.plain_words.specs.Shared.{Shared, shared, marked, reached, execute_word, execute_to, execute_by}
use Rattle.plain_words.proofs.ExitLaws.{few-some, few-full, few-≤}
use Rattle.plain_words.proofs.MarkLaws.{marked_append}
use Rattle.plain_words.proofs.ReachLaws.{reached-append}
use Rattle.plain_words.proofs.MapLaws.{map_word-event, map_word-constant, map_word-names, map_choice-as, map_choice-unnamed, code_for-end, code_for-next, code_for-word}

-- a word taken apart
module _ (i a b : ℕ) where
  word-code : i < 8 → (i + 8 * a + 2048 * b) % 8 ≡ i
  word-code h =
      let e : i + 8 * a + 2048 * b ≡ i + 8 * (a + 256 * b) = omega arith in
      ap (λ (x : ℕ). x % 8) e ∙ (add-mul-mod_self_left i 8 (a + 256 * b) ∙ mod-eq_of_lt h)

  word-name : i < 8 → a < 256 → (i + 8 * a + 2048 * b) / 8 % 256 ≡ a
  word-name h l = omega arith

  word-rest : i < 8 → a < 256 → (i + 8 * a + 2048 * b) / 2048 ≡ b
  word-rest h l = omega arith

  word_first : i < 8 → a < 64 → (i + 8 * a + 2048 * b) / 8 % 64 ≡ a
  word_first h l = omega arith

  word-event : i < 8 → a < 32 → (i + 8 * a + 2048 * b) / 8 % 32 ≡ a
  word-event h l = omega arith

  word-second : i < 8 → a < 64 → b < 64 → (i + 8 * a + 2048 * b) / 2048 % 64 ≡ b
  word-second h l k = omega arith

  word_value : i < 8 → a < 64 → b < 2 ^ 32 → (i + 8 * a + 2048 * b) / 2048 % 4294967296 ≡ b
  word_value h l k = omega arith

-- a word is read as o where its variables are below 64 and its event below 32
pub record Small (o : Op) : Type 0 where
  pub writes : (i : ℕ) → T (writes_op o i) → i < 64
  pub reads : (i : ℕ) → T (reads_op o i) → i < 64
  pub notifies : (i : ℕ) → T (has (notified_by_op o []) i) → i < 32

module _ (a b w : ℕ) where
  holds-set : b < 2 ^ 32 → w ≡ 0 + 8 * a + 2048 * b → Small (Set a b) → op_of w ≡ Set a b
  unfolding op_of
  holds-set k e small =
      let l = small.writes a (eqb_refl a) in
      rw (e, word-code 0 a b (omega arith), word_first 0 a b (omega arith) l, word_value 0 a b (omega arith) l k) refl

  holds-add : b < 2 ^ 32 → w ≡ 1 + 8 * a + 2048 * b → Small (Add a b) → op_of w ≡ Add a b
  unfolding op_of
  holds-add k e small =
      let l = small.writes a (eqb_refl a) in
      rw (e, word-code 1 a b (omega arith), word_first 1 a b (omega arith) l, word_value 1 a b (omega arith) l k) refl

  holds-copy : w ≡ 2 + 8 * a + 2048 * b → Small (Copy a b) → op_of w ≡ Copy a b
  unfolding op_of
  holds-copy e small =
      let l = small.writes a (eqb_refl a) in
      let k = small.reads b (eqb_refl b) in
      rw (e, word-code 2 a b (omega arith), word_first 2 a b (omega arith) l, word-second 2 a b (omega arith) l k) refl

  holds-add-variable : w ≡ 3 + 8 * a + 2048 * b → Small (AddVariable a b) → op_of w ≡ AddVariable a b
  unfolding op_of
  holds-add-variable e small =
      let l = small.writes a (eqb_refl a) in
      let k = small.reads b (either→or (eqb a b) (eqb b b) (inr (eqb_refl b))) in
      rw (e, word-code 3 a b (omega arith), word_first 3 a b (omega arith) l, word-second 3 a b (omega arith) l k) refl

  holds-sub-variable : w ≡ 4 + 8 * a + 2048 * b → Small (SubVariable a b) → op_of w ≡ SubVariable a b
  unfolding op_of
  holds-sub-variable e small =
      let l = small.writes a (eqb_refl a) in
      let k = small.reads b (either→or (eqb a b) (eqb b b) (inr (eqb_refl b))) in
      rw (e, word-code 4 a b (omega arith), word_first 4 a b (omega arith) l, word-second 4 a b (omega arith) l k) refl

holds-notify : (a w : ℕ) → w ≡ 5 + 8 * a + 2048 * 0 → Small (Notify a) → op_of w ≡ Notify a
unfolding op_of has
holds-notify a w e small =
    let l = small.notifies a (either→or (eqb a a) false (inl (eqb_refl a))) in
    rw (e, word-code 5 a 0 (omega arith), word-event 5 a 0 (omega arith) l) refl

held_small : (o : Op) (w : ℕ) → Held o w → Small o → op_of w ≡ o
held_small (Set a b) w h = holds-set a b w h.constant h.word
held_small (Add a b) w h = holds-add a b w h.constant h.word
held_small (Copy a b) w h = holds-copy a b w h.word
held_small (AddVariable a b) w h = holds-add-variable a b w h.word
held_small (SubVariable a b) w h = holds-sub-variable a b w h.word
held_small (Notify a) w h = holds-notify a w h.word

-- a name is a variable's or a port's, so that it fits its place
name-fits : (v i : ℕ) → v ≤ 64 → Name v i → i < 256
name-fits v i h (inl l) = omega arith
name-fits v i h (inr l) = omega (arith, l.1)

-- a statement after mapping
module _ (ps : List ℕ) (a b w : ℕ) (fits : a < 256) where
  mapped-one : (i : ℕ) → i < 2 → w ≡ i + 8 * a + 2048 * b → map_word ps w ≡ i + 8 * mapped ps a + 2048 * b
  mapped-one i h e =
      let c : w % 8 ≡ i = rw e (word-code i a b (omega arith)) in
      let n : w / 8 % 256 ≡ a = rw e (word-name i a b (omega arith) fits) in
      let r : w / 2048 ≡ b = rw e (word-rest i a b (omega arith) fits) in
      sym (map_word-constant ps w (omega arith) (omega arith) (mapped ps a) (rw n refl)) ∙ rw (c, r) refl

  mapped-two : (i : ℕ) → 2 ≤ i → i ≤ 4 → w ≡ i + 8 * a + 2048 * b → map_word ps w ≡ i + 8 * mapped ps a + 2048 * mapped ps b
  mapped-two i h l e =
      let c : w % 8 ≡ i = rw e (word-code i a b (omega arith)) in
      let n : w / 8 % 256 ≡ a = rw e (word-name i a b (omega arith) fits) in
      let r : w / 2048 ≡ b = rw e (word-rest i a b (omega arith) fits) in
      sym (map_word-names ps w (omega arith) (omega arith) (mapped ps a) (mapped ps b) (rw n refl) (rw r refl)) ∙ rw c refl

held_mapped : (v n : ℕ) (ps : List ℕ) (o : Op) (w : ℕ) → v ≤ 64 → op_fault v n o ≡ 0 → Held o w → Held (map_op ps o) (map_word ps w)
held_mapped v n ps (Set a b) w few f h =
    record { word = mapped-one ps a b w (name-fits v a few (op_fault-writes v n (Set a b) a f (eqb_refl a))) 0 (omega arith) h.word; constant = h.constant }
held_mapped v n ps (Add a b) w few f h =
    record { word = mapped-one ps a b w (name-fits v a few (op_fault-writes v n (Add a b) a f (eqb_refl a))) 1 (omega arith) h.word; constant = h.constant }
held_mapped v n ps (Copy a b) w few f h =
    record { word = mapped-two ps a b w (name-fits v a few (op_fault-writes v n (Copy a b) a f (eqb_refl a))) 2 (omega arith) (omega arith) h.word; constant = h.constant }
held_mapped v n ps (AddVariable a b) w few f h =
    record { word = mapped-two ps a b w (name-fits v a few (op_fault-writes v n (AddVariable a b) a f (eqb_refl a))) 3 (omega arith) (omega arith) h.word; constant = h.constant }
held_mapped v n ps (SubVariable a b) w few f h =
    record { word = mapped-two ps a b w (name-fits v a few (op_fault-writes v n (SubVariable a b) a f (eqb_refl a))) 4 (omega arith) (omega arith) h.word; constant = h.constant }
held_mapped v n ps (Notify a) w few f h =
    let c : w % 8 ≡ 5 = rw h.word (word-code 5 a 0 (omega arith)) in
    record { word = sym (map_word-event ps w (omega arith)) ∙ h.word; constant = h.constant }

-- how a segment of n statements closes: its kind, and its delay or its event
pub end-kind : (i n k : ℕ) → i < 4 → (i + 4 * n + 1024 * k) % 4 ≡ i
end-kind i n k h =
    let e : i + 4 * n + 1024 * k ≡ i + 4 * (n + 256 * k) = omega arith in
    ap (λ (x : ℕ). x % 4) e ∙ (add-mul-mod_self_left i 4 (n + 256 * k) ∙ mod-eq_of_lt h)

pub end-load : (i n k : ℕ) → i < 4 → n < 256 → (i + 4 * n + 1024 * k) / 1024 ≡ k
end-load i n k h l = omega arith

pub end-size : (i n k : ℕ) → i < 4 → n ≤ 32 → (i + 4 * n + 1024 * k) / 4 % 64 ≡ n
end-size i n k h l = omega arith

-- the mark is not seen in a segment's kind, its size, its delay and its event
module _ (e : ℕ) where
  pub mark-kind : (b : Bool) → marked_if b e % 4 ≡ e % 4
  mark-kind true = omega arith
  mark-kind false = omega arith

  mark-size : (b : Bool) → marked_if b e / 4 % 64 ≡ e / 4 % 64
  mark-size true = omega arith
  mark-size false = omega arith

  pub mark-delay : (b : Bool) → marked_if b e / 1024 % 4294967296 ≡ e / 1024 % 4294967296
  mark-delay true = omega arith
  mark-delay false = omega arith

  pub mark-event : (b : Bool) → marked_if b e / 1024 % 32 ≡ e / 1024 % 32
  mark-event true = omega arith
  mark-event false = omega arith

pub pack_end-size : (n : ℕ) (z : Closer) → size_by (pack_end n z) ≡ few n
unfolding size_by
pack_end-size n End = let l = few-≤ n in omega arith
pack_end-size n (Time k x) = end-size 1 (few n) k.0 (omega arith) (few-≤ n)
pack_end-size n (Event e x) = end-size 2 (few n) e (omega arith) (few-≤ n)

pub size_by-few : (b : Bool) (n : ℕ) (z : Closer) → size_by (marked_if b (pack_end n z)) ≡ few n
unfolding size_by
size_by-few b n z = mark-size (pack_end n z) b ∙ pack_end-size n z

size_by-pack : (b : Bool) (n : ℕ) (z : Closer) → n ≤ 32 → size_by (marked_if b (pack_end n z)) ≡ n
size_by-pack b n z h = size_by-few b n z ∙ go (dec_lt n 32)
  where
    go : Dec (n < 32) → few n ≡ n
    go (yes k) = sym (few-some n k)
    go (no k) = omega (arith, few-full n (omega arith))

module _ (x : Next) (a : x.a < 64) (b : x.b < 64) where
  next-parts : x.test < 256 → (pack_next x % 64 ≡ x.a) × (pack_next x / 256 % 64 ≡ x.b) × (pack_next x / 65536 % 256 ≡ x.test) × (pack_next x / 16777216 ≡ x.limit)
  next-parts t = (omega arith, omega arith, omega arith, omega arith)

  next_by-as : (v : List ℕ) → (x.test ≡ 255) ⊎ (x.test < 64) → next_by (pack_next x) v ≡ next_of x v
  unfolding next_by next_of
  next_by-as v (inl e) =
      let (p, q, r, s) = next-parts (omega arith) in
      rw (r, eq-eqb x.test 255 e) p
  next_by-as v (inr l) =
      let (p, q, r, s) = next-parts (omega arith) in
      let i : x.test % 64 ≡ x.test = mod-eq_of_lt l in
      rw (r, ne_eqb x.test 255 (λ e. omega arith), i, s, p, q) refl

  -- after mapping
  choice-mapped : (ps : List ℕ) → x.test < 256 → map_choice ps (pack_next x) ≡ pack_next (map_next ps x)
  choice-mapped ps t =
      let (p, q, r, s) = next-parts t in
      let low : pack_next x % 65536 ≡ x.a + 256 * x.b = omega arith in
      sym (map_choice-as ps (pack_next x) (mapped ps x.test) (rw r refl)) ∙ rw (low, s) (omega arith)

test_fits : (v t : ℕ) → v ≤ 64 → (t ≡ 255) ⊎ Name v t → t < 256
test_fits v t h (inl e) = omega arith
test_fits v t h (inr l) = name-fits v t h l

-- the next segments of a closer, after mapping
closer-choice : (v e c : ℕ) (ps : List ℕ) (z : Closer) → v ≤ 64 → c ≤ 64 → closer_fault v e z ≡ 0 → leaves_model c z ≡ false → map_choice ps (pack_choice z) ≡ pack_choice (map_closer ps z)
unfolding is_port
closer-choice v e c ps End hv hc f g = map_choice-unnamed ps 0 refl
closer-choice v e c ps (Time k y) hv hc f g =
    let (a, b) = leaves_model-time c k y g in
    choice-mapped y (omega arith) (omega arith) ps (test_fits v y.test hv (closer_fault-time-test v e k y f))
closer-choice v e c ps (Event w y) hv hc f g =
    let (a, b) = leaves_model-event c w y g in
    choice-mapped y (omega arith) (omega arith) ps (test_fits v y.test hv (closer_fault-event-test v e w y f))

-- a test that is none, or of a variable
tested : (x : Next) → ((i : ℕ) → T (tests_next x i) → i < 64) → (x.test ≡ 255) ⊎ (x.test < 64)
unfolding tests_next
tested x h = go (ℕ_discrete x.test 255)
  where
    go : Dec (x.test ≡ 255) → (x.test ≡ 255) ⊎ (x.test < 64)
    go (yes e) = inl e
    go (no n) = inr (h x.test (both→and (not (eqb x.test 255)) (eqb x.test x.test) (false→T (eqb x.test 255) (ne_eqb x.test 255 n)) (eqb_refl x.test)))

follow-as : (c s n : ℕ) (b : Bool) (z : Closer) (d : Cycle) (x : List ℕ) → c ≤ 64 → ((i : ℕ) → T (tests z i) → i < 64) → leaves_model c z ≡ false →
    cond (eqb (marked_if b (pack_end n z) % 4) 0) s (next_by (pack_choice z) x) ≡ (closed_at s z d x).segment
unfolding closed_at tests
follow-as c s n b End d x hc f g = rw (mark-kind (pack_end n End) b, mul-mod_right 4 (few n)) refl
follow-as c s n b (Time k y) d x hc f g =
    let (p, q) = leaves_model-time c k y g in
    rw (mark-kind (pack_end n (Time k y)) b, end-kind 1 (few n) k.0 (omega arith)) (next_by-as y (omega arith) (omega arith) x (tested y f))
follow-as c s n b (Event w y) d x hc f g =
    let (p, q) = leaves_model-event c w y g in
    rw (mark-kind (pack_end n (Event w y)) b, end-kind 2 (few n) w (omega arith)) (next_by-as y (omega arith) (omega arith) x (tested y f))

-- a closer's delay and event have no ports
pack_end-mapped : (ps : List ℕ) (n : ℕ) (z : Closer) → pack_end n z ≡ pack_end n (map_closer ps z)
pack_end-mapped ps n End = refl
pack_end-mapped ps n (Time k x) = refl
pack_end-mapped ps n (Event e x) = refl

-- segment s as thread k runs it, where it uses every port that the segment names
module _ (m : Model) (fit : model_fault m ≡ 0) (k : ℕ) (words : List ℕ) (for : IsCodeFor m k words) (s : ℕ) (l : s < m.n) where
  below : s < 64
  below = omega (arith, (model_fault-counts m fit).segments)

  place : s % 128 ≡ s
  place = mod-eq_of_lt (omega (arith, below))

  -- whether it has the mark
  pub mark : Bool
  mark = names_from for.code (34 * s) (size_by (pack_end (segment_at m s).n (segment_at m s).closer))

  word_read : (j : ℕ) → get_or words j 0 ≡ get_or (code_for (ports_at m k) for.code) j 0
  word_read j = ap (λ (c : List ℕ). get_or c j 0) for.mapped

  pub code-end : end_by words s ≡ marked_if mark (pack_end (segment_for m k s).n (segment_for m k s).closer)
  unfolding mark segment_for map_segment
  code-end =
      word_read (34 * (s % 128)) ∙
      (ap (λ (i : ℕ). get_or (code_for (ports_at m k) for.code) (34 * i) 0) place ∙
      (code_for-end (ports_at m k) for.code s below ∙ (for.is.end s below ∙ ap (marked_if mark) (pack_end-mapped (ports_at m k) (segment_at m s).n (segment_at m s).closer))))

  code-next : get_or words (34 * (s % 128) + 1) 0 ≡ pack_choice (segment_for m k s).closer
  unfolding segment_for map_segment
  code-next =
      let counts = model_fault-counts m fit in
      word_read (34 * (s % 128) + 1) ∙
      (ap (λ (i : ℕ). get_or (code_for (ports_at m k) for.code) (34 * i + 1) 0) place ∙
      (code_for-next (ports_at m k) for.code s below ∙
      (ap (map_choice (ports_at m k)) (for.is.next s below) ∙
      closer-choice m.v m.e m.n (ports_at m k) (segment_at m s).closer counts.variables counts.segments (model_fault-closer m fit s l) (model_fault-next m fit s l))))

  pub size_few : (segment_for m k s).n ≤ 32
  unfolding segment_for map_segment
  size_few = model_fault-statements m fit s l

  code-size : size_by (end_by words s) ≡ (segment_for m k s).n
  unfolding segment_for map_segment
  code-size =
      let few = model_fault-statements m fit s l in
      ap size_by code-end ∙ size_by-pack mark (segment_at m s).n (segment_for m k s).closer few

  module _ (present : k < m.t) (has-ports : lacks_port m k s ≡ false) where
    uses-small : (i : ℕ) → T (uses_of (segment_for m k s) i) → i < 64
    unfolding uses_in
    uses-small i t = omega (arith, model_fault-uses m fit k s l present has-ports i t, (model_fault-counts m fit).variables)

    -- statement j
    abbrev op-at : ℕ → Op
    op-at j = (get_or (segment_for m k s).statements j no_statement).op

    places : length (segment_for m k s).statements ≡ 32
    unfolding segment_for map_segment
    places = map_statements-length (ports_at m k) (segment_at m s).statements ∙ for.is.places s below

    op-small : (j : ℕ) → j < (segment_for m k s).n → Small (op-at j)
    unfolding body_of writes_of notifies_in listed_in
    op-small j h =
        let g = segment_for m k s in
        let few : g.n ≤ 32 = size_few in
        let in_body : j < length (body_of g) = omega (arith, length-take g.n g.statements, places) in
        let same : get_or (body_of g) j no_statement ≡ get_or g.statements j no_statement = get_or-take g.n g.statements j no_statement h in
        record {
          writes = λ i t. uses-small i (writes_of→uses_of g i (asks-found (writes-asks i) (body_of g) j in_body (rw same t)));
          reads = λ i t. uses-small i (reads_of→uses_of g i (asks-found (reads-asks i) (body_of g) j in_body (rw same t)));
          notifies = λ i t. omega (arith, model_fault-notifies m fit k s l i (asks-found (notifies-asks i) (body_of g) j in_body (rw same t)), (model_fault-counts m fit).events);
        }

    op-held : (j : ℕ) → j < (segment_for m k s).n → Held (op-at j) (map_word (ports_at m k) (get_or for.code (34 * s + 2 + j) 0))
    unfolding segment_for map_segment
    op-held j h =
        let few = model_fault-statements m fit s l in
        let room : j < length (segment_at m s).statements = omega (arith, for.is.places s below) in
        subst (λ (x : Statement). Held x.op (map_word (ports_at m k) (get_or for.code (34 * s + 2 + j) 0))) (sym (map_statements-at (ports_at m k) (segment_at m s).statements j room))
        (held_mapped m.v m.e (ports_at m k) _ _ (model_fault-counts m fit).variables (model_fault-op m fit s j l h) (for.is.held s j below (omega arith)))

    op-read : (j : ℕ) → j < (segment_for m k s).n → op_of (get_or words (34 * s + 2 + j) 0) ≡ op-at j
    op-read j h =
        ap op_of (word_read (34 * s + 2 + j) ∙ code_for-word (ports_at m k) for.code s below j (omega (arith, size_few))) ∙
        held_small (op-at j) _ (op-held j h) (op-small j h)

    -- a segment whose statements are xs
    after : List Statement → List ℕ → List Bool → List ℕ → Shared
    after xs v fs rs = shared (execute xs v) (marked fs (notified_by xs)) (reached rs (notified_by xs))

    execute-to : (j : ℕ) → j ≤ (segment_for m k s).n → (v : List ℕ) (fs : List Bool) (rs : List ℕ) → execute_to words (34 * s + 2) j (shared v fs rs) ≡ after (take j (segment_for m k s).statements) v fs rs
    unfolding execute_to execute_word after marked reached
    execute-to zero h v fs rs = rw (← execute-none (segment_for m k s).statements v, notified_by-none (segment_for m k s).statements) refl
    execute-to (suc j) h v fs rs =
        let ss = (segment_for m k s).statements in
        let o = (get_or ss j no_statement).op in
        let room : j < length ss = omega (arith, places, size_few) in
        rw (execute-to j (omega arith) v fs rs, op-read j (omega arith), execute-more ss j no_statement v room, notified_by-more ss j no_statement room, marked_append fs (notified_by (take j ss)) (notified_by_op o []), reached-append rs (notified_by (take j ss)) (notified_by_op o [])) refl

    pub code-execute : (v : List ℕ) (fs : List Bool) (rs : List ℕ) → let body = body_of (segment_for m k s) in
        execute_by words s (shared v fs rs) ≡ shared (execute body v) (marked fs (notified_by body)) (reached rs (notified_by body))
    unfolding execute_by body_of after
    code-execute v fs rs =
        ap (λ (i : ℕ). execute_to words (34 * i + 2) (size_by (end_by words s)) (shared v fs rs)) place ∙
        (ap (λ (i : ℕ). execute_to words (34 * s + 2) i (shared v fs rs)) code-size ∙ execute-to (segment_for m k s).n (omega arith) v fs rs)

    pub code-follow : (c : Cycle) (x : List ℕ) → follow_by words s x ≡ (closed_at s (segment_for m k s).closer c x).segment
    unfolding follow_by
    code-follow c x =
        rw (code-end, code-next)
        (follow-as m.n s (segment_for m k s).n mark (segment_for m k s).closer c x (model_fault-counts m fit).segments (λ i t. uses-small i (tests_of→uses_of (segment_for m k s) i t)) (segment_for-next m fit k s l))
