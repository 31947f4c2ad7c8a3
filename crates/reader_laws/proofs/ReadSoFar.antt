-- One record of a file after the other: what has been read so far keeps the file rules, since each record was judged by the rules
-- on values as it was read. (That a file ends only after its threads, and what is judged then, is the matter of `Accepted`.)
-- Assumes nothing.
use Prim.Native.Nat.{ℕ, ◌+◌, ◌-◌, ◌≤◌, ◌<◌}
use mathlib.Core.Path.{◌≡◌, refl, sym, ap, ◌∙◌, subst}
use mathlib.Core.Logic.{◌⊎◌, inl, inr}
use mathlib.Core.Bool.{Bool, true, false, not, ◌||◌}
use mathlib.Core.List.{List}
use native.Mathlib.Omega.{arith}
use native.Mathlib.Nat.{zero-add}
use native.Mathlib.Decide.{ℕ_discrete}
use borrow.Author.Tests.{ltb-true}
use lib.Dec.{T, ltb, leb, eqb, eqb→eq, le→leb}
use lib.ListN.{length, get_or, set, drop, replicate, length-set, get_or-append, length-replicate, get_or-replicate}
use lib.Seq.{get_or-set_same, get_or-set_other}
use Rattle.base.specs.Index.{tabulate, any_below}
use Rattle.base.proofs.BoolLaws.{T→true, or→either, cond-case}
use Rattle.base.proofs.IndexLaws.{any_below-empty, or_else-zero, or_else-none, first_below-zero, first_below-all, tabulate-length, tabulate-at}
use Rattle.model.specs.declared.Model.{Model}
use Rattle.model.specs.declared.Statement.{Statement}
use Rattle.model.specs.declared.Start.{Start}
use Rattle.model.specs.Port.{unused, no_ports, port_of, uses_ports}
use Rattle.model.specs.Values.{no_statement, no_segment, no_start, no_model, segment_at, start_at, ports_at, with_head, with_segment, with_start, with_ports}
use Rattle.model.specs.Rules.{unless, head_fault, closer_fault, op_fault, statements_fault, segment_fault, ports_fault}
use Rattle.model_rules.proofs.FaultLaws.{unless-kept, unless-zero}
use Rattle.reader.specs.Word.{byte_at}
use Rattle.reader.specs.Closer.{closer_from, closer_shape_fault, closer_bytes_fault}
use Rattle.reader.specs.Statement.{op_from, op_shape_fault, op_bytes_fault}
use Rattle.reader.specs.Record.{follows, length_fits, statement_count, statement_bytes, segment_from, segment_bytes_fault, ports_from, ports_bytes_fault, body_fault, with_record}
use Rattle.reader_laws.proofs.FrameLaws.{segment-length}

-- statement j of a segment's record
module _ (r : List ℕ) where
  said : ℕ → Statement
  said j = record { op = op_from (statement_bytes r j) }

  pub segment-statement : (j : ℕ) → j < statement_count r → (get_or (segment_from r).statements j no_statement).op ≡ op_from (statement_bytes r j)
  unfolding segment_from said
  segment-statement j h =
      let front : j < length (tabulate (statement_count r) 0 said) = rw (tabulate-length (statement_count r) 0 said) h in
      ap (λ (x : Statement). x.op) (get_or-append (tabulate (statement_count r) 0 said) (replicate (32 - statement_count r) no_statement) no_statement j front ∙ tabulate-at (statement_count r) 0 j said no_statement h)
      ∙ ap (λ (i : ℕ). op_from (statement_bytes r i)) (zero-add j)

-- a segment's record without fault gives a segment without fault
module _ (v e : ℕ) (r : List ℕ) (short : statement_count r ≤ 32) (none : segment_bytes_fault v e r ≡ 0) where
  segment-closer : closer_fault v e (closer_from (drop 4 r)) ≡ 0
  unfolding segment_bytes_fault closer_bytes_fault
  segment-closer = (or_else-zero (closer_shape_fault (drop 4 r)) (closer_fault v e (closer_from (drop 4 r))) (or_else-zero _ _ none).0).1

  segment-op : (j : ℕ) → j < statement_count r → op_fault v e (op_from (statement_bytes r j)) ≡ 0
  unfolding segment_bytes_fault op_bytes_fault
  segment-op j h =
      (or_else-zero (op_shape_fault (statement_bytes r j)) (op_fault v e (op_from (statement_bytes r j)))
      (first_below-zero (statement_count r) (λ j. op_bytes_fault v e (statement_bytes r j)) (or_else-zero (closer_bytes_fault v e (drop 4 r)) _ none).1 j h)).1

  segment-kept : segment_fault v e (segment_from r) ≡ 0
  unfolding segment_fault statements_fault segment_from
  segment-kept =
      or_else-none _ _ (unless-kept (leb (statement_count r) 32) 3 (T→true (leb (statement_count r) 32) (le→leb (statement_count r) 32 short)))
      ∙ or_else-none _ _ segment-closer
      ∙ first_below-all (statement_count r) _ (λ j h. ap (op_fault v e) (segment-statement r j h) ∙ segment-op j h)

-- what has been read so far, after a record of kind last
pub record SoFar (last : ℕ) (m : Model) : Type 0 where
  pub segment_places : length m.segments ≡ 64
  pub start_places : length m.starts ≡ 32
  pub head : 1 ≤ last → head_fault m.horizon.0 m.v m.e ≡ 0
  pub segments : (i : ℕ) → i < m.n → segment_fault m.v m.e (segment_at m i) ≡ 0
  pub no_segment : last ≤ 1 → m.n ≡ 0
  pub some_segment : 2 ≤ last → 1 ≤ m.n
  pub few_segments : m.n ≤ 64
  pub no_thread : last ≤ 2 → m.t ≡ 0
  pub some_thread : 3 ≤ last → 1 ≤ m.t
  pub few_threads : m.t ≤ 32
  pub ports : (k : ℕ) → k < m.t → ports_fault m.v (ports_at m k) ≡ 0
  pub no_ports : last ≡ 3 → ports_at m (m.t - 1) ≡ no_ports

pub nothing_read : SoFar 0 no_model
nothing_read =
    record {
      segment_places = length-replicate 64 no_segment;
      start_places = length-replicate 32 no_start;
      head = λ h. absurd (omega arith);
      segments = λ i h. absurd (omega arith);
      no_segment = λ h. refl;
      some_segment = λ h. absurd (omega arith);
      few_segments = omega arith;
      no_thread = λ h. refl;
      some_thread = λ h. absurd (omega arith);
      few_threads = omega arith;
      ports = λ k h. absurd (omega arith);
      no_ports = λ e. absurd (omega arith);
    }

-- which record may follow which
pub data Follows (last k : ℕ) : Type 0 where
  head : last ≡ 0 → k ≡ 1 → Follows last k
  segment : 1 ≤ last → last ≤ 2 → k ≡ 2 → Follows last k
  thread : 2 ≤ last → k ≡ 3 → Follows last k
  ports : last ≡ 3 → k ≡ 5 → Follows last k
  ending : 3 ≤ last → k ≡ 4 → Follows last k

pub follows→ : (last k : ℕ) → T (follows last k) → Follows last k
unfolding follows
follows→ last k =
    cond-case (λ b. T b → Follows last k) (eqb last 0) (λ p t. head (eqb→eq last 0 p) (eqb→eq k 1 t)) (λ _.
    cond-case (λ b. T b → Follows last k) (eqb last 1) (λ p t. let q = eqb→eq last 1 p in segment (omega arith) (omega arith) (eqb→eq k 2 t)) (λ _.
    cond-case (λ b. T b → Follows last k) (eqb last 2) (λ p t. let q = eqb→eq last 2 p in after-segment q (or→either (eqb k 2) (eqb k 3) t)) (λ _.
    cond-case (λ b. T b → Follows last k) (eqb last 3) (λ p t. after-thread (eqb→eq last 3 p) (or→either (eqb k 3 || eqb k 4) (eqb k 5) t)) (λ _.
    cond-case (λ b. T b → Follows last k) (eqb last 5) (λ p t. let q = eqb→eq last 5 p in after-ports (omega arith) (or→either (eqb k 3) (eqb k 4) t)) (λ _ t. absurd t)))))
  where
    after-segment : last ≡ 2 → T (eqb k 2) ⊎ T (eqb k 3) → Follows last k
    after-segment q (inl t) = segment (omega arith) (omega arith) (eqb→eq k 2 t)
    after-segment q (inr t) = thread (omega arith) (eqb→eq k 3 t)

    after-ports : 3 ≤ last → T (eqb k 3) ⊎ T (eqb k 4) → Follows last k
    after-ports q (inl t) = thread (omega arith) (eqb→eq k 3 t)
    after-ports q (inr t) = ending q (eqb→eq k 4 t)

    after-thread : last ≡ 3 → T (eqb k 3 || eqb k 4) ⊎ T (eqb k 5) → Follows last k
    after-thread q (inl t) = after-ports (omega arith) (or→either (eqb k 3) (eqb k 4) t)
    after-thread q (inr t) = ports q (eqb→eq k 5 t)

-- a thread that uses no port
no_ports-kept : (v : ℕ) → ports_fault v no_ports ≡ 0
unfolding ports_fault
no_ports-kept v = unless-kept (not (any_below 8 wrong)) 17 (ap not (any_below-empty 8 wrong each))
  where
    wrong : ℕ → Bool
    wrong p = not (eqb (port_of no_ports p) unused || ltb (port_of no_ports p) v)

    each : (p : ℕ) → p < 8 → wrong p ≡ false
    each p h = rw (get_or-replicate 8 p unused 0 h) refl

-- a head, a segment, a thread and its ports without fault
module _ (last : ℕ) (m : Model) (r : List ℕ) (g : SoFar last m) where
  head-kept : last ≡ 0 → body_fault 1 m r ≡ 0 → SoFar 1 (with_record 1 m r)
  unfolding body_fault with_record with_head
  head-kept z none =
      record {
        segment_places = g.segment_places;
        start_places = g.start_places;
        head = λ _. none;
        segments = λ i h. absurd (omega (arith, g.no_segment (omega arith)));
        no_segment = λ _. g.no_segment (omega arith);
        some_segment = λ h. absurd (omega arith);
        few_segments = g.few_segments;
        no_thread = λ _. g.no_thread (omega arith);
        some_thread = λ h. absurd (omega arith);
        few_threads = g.few_threads;
        ports = λ k h. absurd (omega (arith, g.no_thread (omega arith)));
        no_ports = λ e. absurd (omega arith);
      }

  segment-added : 1 ≤ last → last ≤ 2 → statement_count r ≤ 32 → body_fault 2 m r ≡ 0 → SoFar 2 (with_record 2 m r)
  unfolding body_fault with_record with_segment segment_at
  segment-added from to short none =
      record {
        segment_places = length-set m.segments m.n (segment_from r) ∙ g.segment_places;
        start_places = g.start_places;
        head = λ _. g.head from;
        segments = each;
        no_segment = λ h. absurd (omega arith);
        some_segment = λ _. omega arith;
        few_segments = omega (arith, room);
        no_thread = λ _. g.no_thread to;
        some_thread = λ h. absurd (omega arith);
        few_threads = g.few_threads;
        ports = λ k h. absurd (omega (arith, g.no_thread to));
        no_ports = λ e. absurd (omega arith);
      }
    where
      parts : (unless (ltb m.n 64) 4 ≡ 0) × (segment_bytes_fault m.v m.e r ≡ 0)
      parts = or_else-zero (unless (ltb m.n 64) 4) (segment_bytes_fault m.v m.e r) none

      room : m.n < 64
      room = ltb-true m.n 64 (unless-zero (ltb m.n 64) 4 (λ e. omega arith) parts.0)

      each : (i : ℕ) → i < m.n + 1 → segment_fault m.v m.e (segment_at (with_segment m (segment_from r)) i) ≡ 0
      each i h = go (ℕ_discrete i m.n)
        where
          go : Dec (i ≡ m.n) → segment_fault m.v m.e (get_or (set m.segments m.n (segment_from r)) i no_segment) ≡ 0
          go (yes e) = rw (e, get_or-set_same m.segments m.n (segment_from r) no_segment (omega (arith, room, g.segment_places))) (segment-kept m.v m.e r short parts.1)
          go (no e) = rw (get_or-set_other m.segments m.n i (segment_from r) no_segment e) (g.segments i (omega arith))

  thread-added : 2 ≤ last → body_fault 3 m r ≡ 0 → SoFar 3 (with_record 3 m r)
  unfolding body_fault with_record with_start segment_at start_at ports_at
  thread-added from none =
      record {
        segment_places = g.segment_places;
        start_places = length-set m.starts m.t added ∙ g.start_places;
        head = λ _. g.head (omega arith);
        segments = g.segments;
        no_segment = λ h. absurd (omega arith);
        some_segment = λ _. g.some_segment from;
        few_segments = g.few_segments;
        no_thread = λ h. absurd (omega arith);
        some_thread = λ _. omega arith;
        few_threads = omega (arith, room);
        ports = each;
        no_ports = λ _. ap (λ (s : Start). s.ports) last-is;
      }
    where
      added : Start
      added = record { first = byte_at r 4; ports = no_ports }

      room : m.t < 32
      room = ltb-true m.t 32 (unless-zero (ltb m.t 32) 4 (λ e. omega arith) none)

      here : get_or (set m.starts m.t added) m.t no_start ≡ added
      here = get_or-set_same m.starts m.t added no_start (omega (arith, room, g.start_places))

      last-is : get_or (set m.starts m.t added) (m.t + 1 - 1) no_start ≡ added
      last-is = let l : m.t + 1 - 1 ≡ m.t = omega arith in rw l here

      each : (k : ℕ) → k < m.t + 1 → ports_fault m.v (get_or (set m.starts m.t added) k no_start).ports ≡ 0
      each k h = go (ℕ_discrete k m.t)
        where
          go : Dec (k ≡ m.t) → ports_fault m.v (get_or (set m.starts m.t added) k no_start).ports ≡ 0
          go (yes e) = rw (e, here) (no_ports-kept m.v)
          go (no e) = rw (get_or-set_other m.starts m.t k added no_start e) (g.ports k (omega arith))

  ports-added : last ≡ 3 → body_fault 5 m r ≡ 0 → SoFar 5 (with_record 5 m r)
  unfolding body_fault with_record with_ports ports_bytes_fault segment_at start_at ports_at
  ports-added is none =
      record {
        segment_places = g.segment_places;
        start_places = length-set m.starts (m.t - 1) added ∙ g.start_places;
        head = λ _. g.head (omega arith);
        segments = g.segments;
        no_segment = λ h. absurd (omega arith);
        some_segment = λ _. g.some_segment (omega arith);
        few_segments = g.few_segments;
        no_thread = λ h. absurd (omega arith);
        some_thread = λ _. some;
        few_threads = g.few_threads;
        ports = each;
        no_ports = λ e. absurd (omega arith);
      }
    where
      added : Start
      added = record { first = (get_or m.starts (m.t - 1) no_start).first; ports = ports_from r }

      some : 1 ≤ m.t
      some = g.some_thread (omega arith)

      kept : ports_fault m.v (ports_from r) ≡ 0
      kept = (or_else-zero (unless (uses_ports (ports_from r)) 17) (ports_fault m.v (ports_from r)) none).1

      each : (k : ℕ) → k < m.t → ports_fault m.v (get_or (set m.starts (m.t - 1) added) k no_start).ports ≡ 0
      each k h = go (ℕ_discrete k (m.t - 1))
        where
          go : Dec (k ≡ m.t - 1) → ports_fault m.v (get_or (set m.starts (m.t - 1) added) k no_start).ports ≡ 0
          go (yes e) = rw (e, get_or-set_same m.starts (m.t - 1) added no_start (omega (arith, some, g.few_threads, g.start_places))) kept
          go (no e) = rw (get_or-set_other m.starts (m.t - 1) k added no_start e) (g.ports k h)

pub record-kept : (last k : ℕ) (m : Model) (r : List ℕ) → SoFar last m → Follows last k → length_fits k (length r) ≡ true → body_fault k m r ≡ 0 → (k ≡ 4 → ⊥) → SoFar k (with_record k m r)
record-kept last k m r g (head z e) fits none more = subst (λ (k : ℕ). body_fault k m r ≡ 0 → SoFar k (with_record k m r)) (sym e) (head-kept last m r g z) none
record-kept last k m r g (segment a b e) fits none more =
    let short : statement_count r ≤ 32 = omega (arith, (segment-length (length r) k fits e).1) in
    subst (λ (k : ℕ). body_fault k m r ≡ 0 → SoFar k (with_record k m r)) (sym e) (segment-added last m r g a b short) none
record-kept last k m r g (thread a e) fits none more = subst (λ (k : ℕ). body_fault k m r ≡ 0 → SoFar k (with_record k m r)) (sym e) (thread-added last m r g a) none
record-kept last k m r g (ports z e) fits none more = subst (λ (k : ℕ). body_fault k m r ≡ 0 → SoFar k (with_record k m r)) (sym e) (ports-added last m r g z) none
record-kept last k m r g (ending a e) fits none more = absurd (more e)
