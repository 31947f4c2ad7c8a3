-- A model up to its counts, and a model up to some of its segments and threads.
--     filled_at, filled_more, filled-set     a list filled up to a place
--     part_of-segment, part_of-start     one segment, one thread more
--     segment_at-trimmed, start_at-trimmed     below the counts nothing is changed
--     uses_of-trimmed, reaches_below-trimmed, lacks_port-trimmed     nor what a segment names, what it leads to, what a thread lacks
--     targets_fault-trimmed, links_fault-trimmed, model_fault-trimmed     the file rules do not look past the counts
--     segment_bytes-trimmed, file_of-trimmed     nor is anything past them written
use Prim.Native.Nat.{ℕ, zero, suc, ◌+◌, ◌-◌, ◌<◌, ◌≤◌}
use mathlib.Core.Path.{◌≡◌, refl, sym, ap, ap₂, ◌∙◌}
use mathlib.Core.Bool.{Bool, false, not, ◌&&◌, ◌||◌}
use mathlib.Core.List.{List, [], ◌∷◌, ◌++◌}
use native.Mathlib.Omega.{arith}
use native.Mathlib.Nat.{zero-add}
use native.Mathlib.Numerals.{add-one}
use native.Mathlib.Decide.{ℕ_discrete, dec_lt}
use lib.Dec.{T, ltb, leb, eqb}
use lib.ListN.{length, get_or, set, take, replicate, length-take, get_or-append, get_or-eq_default}
use lib.Seq.{set_at, append_snoc, get_or-set_same, get_or-set_other, get_or-take, take_at}
use borrow.Author.Tests.{ne_eqb}
use Rattle.base.specs.Index.{or_else, tabulate}
use Rattle.base.proofs.BoolLaws.{T-same}
use Rattle.base.proofs.IndexLaws.{any_below-same, or_else-some, first_below-same, tabulate-length, tabulate-at, tabulate-same, tabulate-more}
use Rattle.model.specs.declared.Op.{Op}
use Rattle.model.specs.declared.Op.TheVariants.{Set}
use Rattle.model.specs.declared.Statement.{Statement}
use Rattle.model.specs.declared.Segment.{Segment}
use Rattle.model.specs.declared.Start.{Start}
use Rattle.model.specs.declared.Model.{Model}
use Rattle.model.specs.Port.{unused, first_port, port_of}
use Rattle.model.specs.Values.{no_statement, no_segment, no_start, segment_at, start_at, ports_at, body_of, with_segment, with_start}
use Rattle.model.specs.Footprint.{writes, reads, tests, writes_of, uses_of, names_port}
use Rattle.model.specs.Reach.{steps_to, reaches_below, reaches, lacks_port, lacks_from}
use Rattle.model.specs.Rules.{unless, head_fault, closer_fault, op_fault, statements_fault, segment_fault, segments_fault, ports_fault, starts_fault, counts_fault, leaves_model, any_segment_leaves, any_start_leaves, targets_fault, lack_fault, links_fault, model_fault}
use Rattle.model_effect.proofs.FootprintLaws.{Asks, asks_at, asks-found, writes-asks, reads-asks}
use Rattle.model_rules.proofs.RuleLaws.{targets_fault-first}
use Rattle.writer.specs.Bytes.{bytes_of, closer_bytes, op_bytes}
use Rattle.writer.specs.File.{record_bytes, head_bytes, segment_bytes, start_bytes, end_bytes, file_of, trimmed_segment, trimmed_start, trimmed}
use Rattle.writer_laws.proofs.JoinLaws.{joined_same}
use Rattle.writer_laws.proofs.PortLaws.{eight_of, port_of-trimmed, ports_fault-trimmed, ports_bytes-trimmed}

-- n elements in p places, the others zero
module _ {A : Type 0} (d : A) (p : ℕ) (f : ℕ → A) where
  abbrev pub filled : ℕ → List A
  filled n = tabulate n 0 f ++ replicate (p - n) d

  pub filled_at : (n i : ℕ) → i < n → get_or (filled n) i d ≡ f i
  filled_at n i h =
      let front : i < length (tabulate n 0 f) = rw (tabulate-length n 0 f) h in
      get_or-append (tabulate n 0 f) (replicate (p - n) d) d i front ∙ tabulate-at n 0 i f d h ∙ ap f (zero-add i)

  pub filled_more : (n : ℕ) → n < p → set (filled n) n (f n) ≡ filled (suc n)
  filled_more n h =
      let e : p - n ≡ suc (p - suc n) = omega arith in
      let zeros = replicate (p - suc n) d in
      ap (λ (k : ℕ). set (tabulate n 0 f ++ replicate k d) n (f n)) e
      ∙ set_at (tabulate n 0 f) d zeros (f n) n (tabulate-length n 0 f)
      ∙ sym (append_snoc (tabulate n 0 f) (f n) zeros)
      ∙ ap (λ (l : List A). l ++ zeros) (sym (tabulate-more n 0 f ∙ ap (λ (k : ℕ). tabulate n 0 f ++ (f k ∷ [])) (zero-add n)))

-- one element more is set
pub filled-set : {A : Type 0} (d : A) (p : ℕ) (f : A → A) (l : List A) (n : ℕ) (a : A) → n < p → n < length l
    → filled d p (λ i. f (get_or (set l n a) i d)) (n + 1) ≡ set (filled d p (λ i. f (get_or l i d)) n) n (f a)
filled-set {A} d p f l n a h k =
    let new : ℕ → A = λ i. f (get_or (set l n a) i d) in
    let old : ℕ → A = λ i. f (get_or l i d) in
    let same : tabulate n 0 new ≡ tabulate n 0 old =
    tabulate-same n 0 new old (λ i below. ap f (get_or-set_other l n i a d (λ e. omega arith))) in
    ap (filled d p new) (add-one n)
    ∙ sym (filled_more d p new n h)
    ∙ ap₂ (λ (t : List A) (x : A). set (t ++ replicate (p - n) d) n x) same (ap f (get_or-set_same l n a d k))

-- the model up to i segments and k threads
abbrev pub part_of : Model → ℕ → ℕ → Model
part_of m i k =
    record {
      horizon = m.horizon;
      v = m.v;
      e = m.e;
      n = i;
      t = k;
      segments = filled no_segment 64 (λ i. trimmed_segment (segment_at m i)) i;
      starts = filled no_start 32 (λ k. trimmed_start (start_at m k)) k;
    }

module _ (m : Model) where
  pub part_of-all : trimmed m ≡ part_of m m.n m.t
  unfolding trimmed
  part_of-all = refl

  pub part_of-segment : (i k : ℕ) → i < 64 → with_segment (part_of m i k) (trimmed_segment (segment_at m i)) ≡ part_of m (suc i) k
  unfolding with_segment
  part_of-segment i k h =
      let s = filled_more no_segment 64 (λ i. trimmed_segment (segment_at m i)) i h in
      let e = add-one i in
      λ j. record {
        horizon = m.horizon;
        v = m.v;
        e = m.e;
        n = e j;
        t = k;
        segments = s j;
        starts = filled no_start 32 (λ k. trimmed_start (start_at m k)) k;
      }

  pub part_of-start : (i k : ℕ) → k < 32 → with_start (part_of m i k) (trimmed_start (start_at m k)) ≡ part_of m i (suc k)
  unfolding with_start
  part_of-start i k h =
      let s = filled_more no_start 32 (λ k. trimmed_start (start_at m k)) k h in
      let e = add-one k in
      λ j. record {
        horizon = m.horizon;
        v = m.v;
        e = m.e;
        n = i;
        t = e j;
        segments = filled no_segment 64 (λ i. trimmed_segment (segment_at m i)) i;
        starts = s j;
      }

  pub segment_at-trimmed : (i : ℕ) → i < m.n → segment_at (trimmed m) i ≡ trimmed_segment (segment_at m i)
  unfolding segment_at trimmed
  segment_at-trimmed i h = filled_at no_segment 64 (λ i. trimmed_segment (segment_at m i)) m.n i h

  pub start_at-trimmed : (k : ℕ) → k < m.t → start_at (trimmed m) k ≡ trimmed_start (start_at m k)
  unfolding start_at trimmed
  start_at-trimmed k h = filled_at no_start 32 (λ k. trimmed_start (start_at m k)) m.t k h

  pub first_at-trimmed : (k : ℕ) → k < m.t → (start_at (trimmed m) k).first ≡ (start_at m k).first
  unfolding trimmed_start
  first_at-trimmed k h = ap (λ (s : Start). s.first) (start_at-trimmed k h)

  pub ports_at-trimmed : (k : ℕ) → k < m.t → ports_at (trimmed m) k ≡ eight_of (ports_at m k)
  unfolding ports_at trimmed_start
  ports_at-trimmed k h = ap (λ (s : Start). s.ports) (start_at-trimmed k h)

  pub targets_fault-trimmed : targets_fault (trimmed m) ≡ targets_fault m
  unfolding targets_fault any_segment_leaves any_start_leaves trimmed trimmed_segment
  targets_fault-trimmed =
      ap₂ (λ (a b : Bool). unless (not (a || b)) 8)
      (any_below-same m.n (λ i. leaves_model m.n (segment_at (trimmed m) i).closer) (λ i. leaves_model m.n (segment_at m i).closer)
      (λ i h. ap (λ (g : Segment). leaves_model m.n g.closer) (segment_at-trimmed i h)))
      (any_below-same m.t (λ k. not (ltb (start_at (trimmed m) k).first m.n)) (λ k. not (ltb (start_at m k).first m.n))
      (λ k h. ap (λ (x : ℕ). not (ltb x m.n)) (first_at-trimmed k h)))

-- a segment
module _ (g : Segment) where
  pub statement_at-trimmed : (j : ℕ) → j < g.n → get_or (trimmed_segment g).statements j no_statement ≡ get_or g.statements j no_statement
  unfolding trimmed_segment
  statement_at-trimmed j h = filled_at no_statement 32 (λ j. get_or g.statements j no_statement) g.n j h

  pub segment_fault-trimmed : (v e : ℕ) → segment_fault v e (trimmed_segment g) ≡ segment_fault v e g
  unfolding segment_fault statements_fault trimmed_segment
  segment_fault-trimmed v e =
      ap (λ (x : ℕ). or_else (unless (leb g.n 32) 3) (or_else (closer_fault v e g.closer) x))
      (first_below-same g.n (λ j. op_fault v e (get_or (trimmed_segment g).statements j no_statement).op)
      (λ j. op_fault v e (get_or g.statements j no_statement).op)
      (λ j h. ap (λ (s : Statement). op_fault v e s.op) (statement_at-trimmed j h)))

-- what is asked of the statements is asked of those that are there: past them each sets variable 0
asks-trimmed : {f : List Statement → Bool} {g : Op → Bool} → Asks f g → (g (Set 0 0) ≡ false) → (n : ℕ) (xs : List Statement)
    → f (tabulate n 0 (λ j. get_or xs j no_statement)) ≡ f (take n xs)
asks-trimmed {f} {g} asks none n xs = T-same (f ys) (f (take n xs)) there back
  where
    ys : List Statement
    ys = tabulate n 0 (λ j. get_or xs j no_statement)

    at : (j : ℕ) → j < n → get_or ys j no_statement ≡ get_or xs j no_statement
    at j h = tabulate-at n 0 j (λ j. get_or xs j no_statement) no_statement h ∙ ap (λ (k : ℕ). get_or xs k no_statement) (zero-add j)

    there : T (f ys) → T (f (take n xs))
    there t =
        let (j, l, w) = asks_at asks ys t in
        let h : j < n = omega (arith, tabulate-length n 0 (λ j. get_or xs j no_statement)) in
        go j h (rw (at j h) at w) (dec_lt j (length xs))
      where
        go : (j : ℕ) → j < n → T (g (get_or xs j no_statement).op) → Dec (j < length xs) → T (f (take n xs))
        go j h w (yes l) = asks-found asks (take n xs) j (omega (arith, length-take n xs)) (rw (get_or-take n xs j no_statement h) w)
        go j h w (no l) = absurd (rw (get_or-eq_default xs no_statement {n = j} (omega arith), none) at w)

    back : T (f (take n xs)) → T (f ys)
    back t =
        let (j, l, w) = asks_at asks (take n xs) t in
        let h : j < n = omega (arith, length-take n xs) in
        asks-found asks ys j (omega (arith, tabulate-length n 0 (λ j. get_or xs j no_statement))) (rw (at j h) (rw (get_or-take n xs j no_statement h) at w))

module _ (g : Segment) where
  body-trimmed : body_of (trimmed_segment g) ≡ tabulate g.n 0 (λ j. get_or g.statements j no_statement)
  unfolding body_of trimmed_segment
  body-trimmed =
      take_at (tabulate g.n 0 (λ j. get_or g.statements j no_statement)) (replicate (32 - g.n) no_statement) g.n
      (tabulate-length g.n 0 (λ j. get_or g.statements j no_statement))

  -- whether a name other than 0 is used
  pub uses_of-trimmed : (x : ℕ) → (0 ≡ x → ⊥) → uses_of (trimmed_segment g) x ≡ uses_of g x
  unfolding uses_of writes_of body_of trimmed_segment
  uses_of-trimmed x h =
      ap₂ (λ (a b : Bool). (a || b) || tests g.closer x)
      (ap (λ (l : List Statement). writes l x) body-trimmed ∙ asks-trimmed (writes-asks x) (ne_eqb 0 x h) g.n g.statements)
      (ap (λ (l : List Statement). reads l x) body-trimmed ∙ asks-trimmed (reads-asks x) refl g.n g.statements)

module _ (m : Model) where
  pub names_port-trimmed : (s p : ℕ) → s < m.n → names_port (trimmed m) s p ≡ names_port m s p
  unfolding names_port
  names_port-trimmed s p h =
      ap (λ (g : Segment). uses_of g (first_port + p)) (segment_at-trimmed m s h) ∙ uses_of-trimmed (segment_at m s) (first_port + p) (λ e. omega arith)

  pub lacks_port-trimmed : (k s : ℕ) → k < m.t → s < m.n → lacks_port (trimmed m) k s ≡ lacks_port m k s
  unfolding lacks_port
  lacks_port-trimmed k s h l =
      any_below-same 8 (λ p. names_port (trimmed m) s p && eqb (port_of (ports_at (trimmed m) k) p) unused)
      (λ p. names_port m s p && eqb (port_of (ports_at m k) p) unused)
      (λ p below.
      ap₂ (λ (a : Bool) (x : ℕ). a && eqb x unused) (names_port-trimmed s p l)
      (ap (λ (ps : List ℕ). port_of ps p) (ports_at-trimmed m k h) ∙ port_of-trimmed (ports_at m k) p below))

  steps-trimmed : (r s : ℕ) → r < m.n → steps_to (segment_at (trimmed m) r).closer s ≡ steps_to (segment_at m r).closer s
  unfolding trimmed_segment
  steps-trimmed r s h = ap (λ (g : Segment). steps_to g.closer s) (segment_at-trimmed m r h)

  -- from a segment of the model, by segments of the model
  pub reaches_below-trimmed : (k r s : ℕ) → k ≤ m.n → r < m.n → reaches_below (trimmed m) k r s ≡ reaches_below m k r s
  unfolding reaches_below
  reaches_below-trimmed zero r s h l = ap (λ (b : Bool). eqb r s || b) (steps-trimmed r s l)
  reaches_below-trimmed (suc k) r s h l =
      ap₂ ◌||◌ (reaches_below-trimmed k r s (omega arith) l)
      (ap₂ ◌&&◌ (reaches_below-trimmed k r k (omega arith) l) (reaches_below-trimmed k k s (omega arith) (omega arith)))

  lacks_from-trimmed : (k r : ℕ) → k < m.t → r < m.n → lacks_from (trimmed m) k r ≡ lacks_from m k r
  unfolding lacks_from reaches trimmed
  lacks_from-trimmed k r h l =
      any_below-same m.n (λ s. lacks_port (trimmed m) k s && reaches_below (trimmed m) m.n r s)
      (λ s. lacks_port m k s && reaches_below m m.n r s)
      (λ s below. ap₂ ◌&&◌ (lacks_port-trimmed k s h below) (reaches_below-trimmed m.n r s (omega arith) l))

  lack_fault-trimmed : targets_fault m ≡ 0 → lack_fault (trimmed m) ≡ lack_fault m
  unfolding lack_fault trimmed
  lack_fault-trimmed none =
      ap (λ (b : Bool). unless (not b) 18)
      (any_below-same m.t (λ k. lacks_from (trimmed m) k (start_at (trimmed m) k).first) (λ k. lacks_from m k (start_at m k).first)
      (λ k h. ap (lacks_from (trimmed m) k) (first_at-trimmed m k h) ∙ lacks_from-trimmed k (start_at m k).first h (targets_fault-first m none k h)))

  pub links_fault-trimmed : links_fault (trimmed m) ≡ links_fault m
  unfolding links_fault
  links_fault-trimmed = ap (λ (x : ℕ). or_else x (lack_fault (trimmed m))) (targets_fault-trimmed m) ∙ go (ℕ_discrete (targets_fault m) 0)
    where
      go : Dec (targets_fault m ≡ 0) → or_else (targets_fault m) (lack_fault (trimmed m)) ≡ or_else (targets_fault m) (lack_fault m)
      go (yes z) = ap (or_else (targets_fault m)) (lack_fault-trimmed z)
      go (no z) = or_else-some (targets_fault m) (lack_fault (trimmed m)) z ∙ sym (or_else-some (targets_fault m) (lack_fault m) z)

  segments_fault-trimmed : segments_fault (trimmed m) ≡ segments_fault m
  unfolding segments_fault trimmed
  segments_fault-trimmed =
      first_below-same m.n (λ i. or_else (unless (ltb i 64) 4) (segment_fault m.v m.e (segment_at (trimmed m) i)))
      (λ i. or_else (unless (ltb i 64) 4) (segment_fault m.v m.e (segment_at m i)))
      (λ i h.
      ap (or_else (unless (ltb i 64) 4))
      (ap (segment_fault m.v m.e) (segment_at-trimmed m i h) ∙ segment_fault-trimmed (segment_at m i) m.v m.e))

  starts_fault-trimmed : starts_fault (trimmed m) ≡ starts_fault m
  unfolding starts_fault trimmed
  starts_fault-trimmed =
      first_below-same m.t (λ k. or_else (unless (ltb k 32) 4) (ports_fault m.v (ports_at (trimmed m) k)))
      (λ k. or_else (unless (ltb k 32) 4) (ports_fault m.v (ports_at m k)))
      (λ k h.
      ap (or_else (unless (ltb k 32) 4))
      (ap (ports_fault m.v) (ports_at-trimmed m k h) ∙ ports_fault-trimmed (ports_at m k) m.v))

  counts_fault-trimmed : counts_fault (trimmed m) ≡ counts_fault m
  unfolding counts_fault trimmed
  counts_fault-trimmed = ap (λ (x : ℕ). or_else (unless (leb 1 m.n) 2) (or_else (unless (leb 1 m.t) 2) x)) starts_fault-trimmed

  pub model_fault-trimmed : model_fault (trimmed m) ≡ model_fault m
  unfolding model_fault trimmed
  model_fault-trimmed =
      ap₂ (λ (a b : ℕ). or_else (head_fault m.horizon.0 m.v m.e) (or_else a b)) segments_fault-trimmed
      (ap₂ or_else counts_fault-trimmed links_fault-trimmed)

pub segment_bytes-trimmed : (g : Segment) → segment_bytes (trimmed_segment g) ≡ segment_bytes g
unfolding segment_bytes trimmed_segment
segment_bytes-trimmed g =
    ap (λ (b : List ℕ). record_bytes 2 (closer_bytes g.closer ++ b))
    (joined_same g.n 0 (λ j. op_bytes (get_or (trimmed_segment g).statements j no_statement).op) (λ j. op_bytes (get_or g.statements j no_statement).op)
    (λ j _ h. ap (λ (s : Statement). op_bytes s.op) (statement_at-trimmed g j (omega arith))))

pub start_bytes-trimmed : (s : Start) → start_bytes (trimmed_start s) ≡ start_bytes s
unfolding start_bytes trimmed_start
start_bytes-trimmed s = ap (λ (b : List ℕ). record_bytes 3 (bytes_of 1 s.first) ++ b) (ports_bytes-trimmed s.ports)

pub file_of-trimmed : (m : Model) → file_of (trimmed m) ≡ file_of m
unfolding file_of head_bytes trimmed
file_of-trimmed m =
    ap₂ (λ (s t : List ℕ). head_bytes m ++ (s ++ (t ++ end_bytes)))
    (joined_same m.n 0 (λ i. segment_bytes (segment_at (trimmed m) i)) (λ i. segment_bytes (segment_at m i))
    (λ i _ h. ap segment_bytes (segment_at-trimmed m i (omega arith)) ∙ segment_bytes-trimmed (segment_at m i)))
    (joined_same m.t 0 (λ k. start_bytes (start_at (trimmed m) k)) (λ k. start_bytes (start_at m k))
    (λ k _ h. ap start_bytes (start_at-trimmed m k (omega arith)) ∙ start_bytes-trimmed (start_at m k)))
