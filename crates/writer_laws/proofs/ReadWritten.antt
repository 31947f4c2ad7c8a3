-- A model that is written is read back: the number is that of the model's first fault in file order, and where there is none the model is
-- the one that was written, zero past its counts.
-- By induction over the segments left, then the threads left. What was read so far is `part_of m i k`: a record either has the fault that
-- the rules over values give to its segment or its thread, or adds it; a thread's record gives unused ports, which its ports' record then
-- sets. Each record takes at least 4 bytes, so the reader's steps suffice.
-- Assumes values that fit their fields, and at most 64 places for segments: at a 65th the reader judges the length (3) before the count
-- (4), the rules over values the other way round, and without a 65th place there is no length to judge.
use Prim.Native.Nat.{ℕ, zero, suc, ◌+◌, ◌-◌, ◌*◌, ◌%◌, ◌≤◌, ◌<◌}
use mathlib.Core.Path.{◌≡◌, refl, sym, ap, ap₂, ◌∙◌, subst}
use mathlib.Core.Bool.{Bool, true, false, ◌&&◌}
use mathlib.Core.List.{List, [], ◌++◌, append_assoc, append-nil}
use native.Mathlib.Omega.{arith}
use native.Mathlib.Decide.{ℕ_discrete, dec_lt}
use lib.Dec.{ltb, leb, leb→le, le→leb}
use lib.ListN.{length, get_or, drop, replicate, length-append, length-replicate, get_or-eq_default}
use borrow.Author.Tests.{ltb-true, ltb-false, lt-ltb, le-ltb, le-leb, lt-leb, eq-eqb}
use Rattle.base.specs.Index.{or_else, first_below, tabulate}
use Rattle.base.proofs.BoolLaws.{T-same, true→T}
use Rattle.base.proofs.IndexLaws.{or_else-none, or_else-some, or_else-zero, or_else-last, first_below-none, first_below-more, first_below-here, tabulate-length}
use Rattle.model.specs.declared.Segment.{Segment}
use Rattle.model.specs.declared.Model.{Model}
use Rattle.model.specs.Port.{no_ports, uses_ports}
use Rattle.model.specs.Values.{no_statement, no_segment, no_start, no_model, segment_at, start_at, ports_at, with_head, with_segment, with_start, with_ports}
use Rattle.model.specs.Rules.{unless, head_fault, segment_fault, segments_fault, ports_fault, starts_fault, counts_fault, links_fault, model_fault, closer_fault, statements_fault}
use Rattle.model_rules.proofs.FaultLaws.{unless-zero}
use Rattle.reader.specs.Read.{Read}
use Rattle.reader.specs.Word.{byte_at, long_at}
use Rattle.reader.specs.Record.{follows, length_fits, body_fault, with_record}
use Rattle.reader.specs.File.{read_or, read_end, read_from, read_file}
use Rattle.writer.specs.Bytes.{bytes_of, joined, closer_bytes, op_bytes}
use Rattle.writer.specs.File.{record_bytes, head_bytes, segment_bytes, ports_bytes, start_bytes, end_bytes, file_of, trimmed_start, trimmed}
use Rattle.writer.specs.Fields.{Fields}
use Rattle.writer_laws.proofs.ByteLaws.{bytes_of-length, byte_at-written, long_at-written}
use Rattle.writer_laws.proofs.JoinLaws.{joined-first}
use Rattle.writer_laws.proofs.RecordLaws.{record-whole}
use Rattle.writer_laws.proofs.SegmentLaws.{body-length, segment_from-written, segment_bytes_fault-written}
use Rattle.writer_laws.proofs.PortLaws.{eight_of, ports_body, ports_body-length, unused-trimmed, unused-fault, ports_bytes-unused, ports_bytes-used, ports_from-written, ports_bytes_fault-written, with_ports-last}
use Rattle.writer_laws.proofs.TrimLaws.{filled, part_of, part_of-all, part_of-segment, part_of-start, links_fault-trimmed}
use Rattle.writer_laws.proofs.StepLaws.{read_or-other, record_fault, read-refused, read_more, read-ended}

-- the bytes of a record after its head
abbrev head_body : Model → List ℕ
head_body m = bytes_of 4 m.horizon.0 ++ (bytes_of 1 m.v ++ bytes_of 1 m.e)

abbrev segment_body : Segment → List ℕ
segment_body g = closer_bytes g.closer ++ joined g.n 0 (λ j. op_bytes (get_or g.statements j no_statement).op)

-- the kind of the record before, after i of a kind
abbrev last_after : ℕ → ℕ → ℕ → ℕ
last_after first more zero = first
last_after first more (suc i) = more

-- "segment, length 17 + 6n, n from 0 to 32"
segment-fits : (l n : ℕ) → l ≡ 17 + 6 * n → length_fits 2 l ≡ leb n 32
unfolding length_fits
segment-fits l n e =
    let most : leb l 209 ≡ leb n 32 =
    T-same (leb l 209) (leb n 32) (λ t. let h = leb→le l 209 t in le→leb n 32 (omega arith))
    (λ t. let h = leb→le n 32 t in le→leb l 209 (omega arith)) in
    rw (le-leb 17 l (omega arith), most, eq-eqb ((l - 17) % 6) 0 (omega arith)) (and-true (leb n 32))
  where
    and-true : (b : Bool) → b && true ≡ b
    and-true true = refl
    and-true false = refl

-- 3 and 4 stand in either order where a 65th segment has no statement
length-count : (a b : Bool) (x : ℕ) → (b ≡ false → a ≡ true)
    → or_else (unless a 3) (or_else (unless b 4) x) ≡ or_else (unless b 4) (or_else (unless a 3) x)
unfolding or_else
length-count true true x h = refl
length-count true false x h = refl
length-count false true x h = refl
length-count false false x h = absurd (true→T false (h refl))

module _ (m : Model) (fits : Fields m) (places : length m.segments ≤ 64) where
  abbrev segment_fault_at : ℕ → ℕ
  segment_fault_at i = or_else (unless (ltb i 64) 4) (segment_fault m.v m.e (segment_at m i))

  -- a segment's record, after i segments
  module _ (i : ℕ) (l : i < m.n) where
    abbrev g : Segment
    g = segment_at m i

    small : 4 + length (segment_body g) < 65536
    small = omega (arith, body-length g, (fits.segments i l).few)

    past : ltb i 64 ≡ false → leb g.n 32 ≡ true
    unfolding segment_at
    past h =
        ap (λ (g : Segment). leb g.n 32)
        (get_or-eq_default m.segments no_segment {n = i} (omega (arith, ltb-false i 64 h, places)))

    segment-fault : (last : ℕ) → follows last 2 ≡ true → record_fault last 2 (segment_body g) (part_of m i 0) ≡ segment_fault_at i
    unfolding body_fault segment_fault segment_bytes
    segment-fault last f =
        ap₂ or_else
        (ap₂ (λ (a b : Bool). or_else (unless a 2) (unless b 3)) f
        (segment-fits (4 + length (segment_body g)) g.n (omega (arith, body-length g)))
        ∙ or_else-none 0 (unless (leb g.n 32) 3) refl)
        (ap (or_else (unless (ltb i 64) 4)) (segment_bytes_fault-written g (fits.segments i l) m.v m.e))
        ∙ length-count (leb g.n 32) (ltb i 64) (or_else (closer_fault m.v m.e g.closer) (statements_fault m.v m.e g)) past

    segment-added : segment_fault_at i ≡ 0 → with_record 2 (part_of m i 0) (record_bytes 2 (segment_body g)) ≡ part_of m (suc i) 0
    unfolding with_record segment_bytes
    segment-added none =
        let room : i < 64 = ltb-true i 64 (unless-zero (ltb i 64) 4 (λ e. omega arith) (or_else-zero _ _ none).0) in
        ap (with_segment (part_of m i 0)) (segment_from-written g (fits.segments i l)) ∙ part_of-segment m i 0 room

  abbrev start_body : ℕ → List ℕ
  start_body k = bytes_of 1 (start_at m k).first

  abbrev segments : ℕ → List ℕ
  segments i = record_bytes 2 (segment_body (segment_at m i))

  -- a thread's record, then that of its ports
  abbrev starts : ℕ → List ℕ
  starts k = record_bytes 3 (start_body k) ++ ports_bytes (start_at m k).ports

  -- what is left after k threads where there are j more
  abbrev threads_left : ℕ → ℕ → List ℕ
  threads_left j k = joined j k starts ++ record_bytes 4 []

  -- what is read is what is to be shown
  abbrev Told : Read → Type 0
  Told x = x ≡ read_or (model_fault m) (trimmed m)

  told-refused : (x : ℕ) (n : Model) → model_fault m ≡ x → (x ≡ 0 → ⊥) → Told (read_or x n)
  told-refused x n e h = read_or-other x n (trimmed m) h ∙ ap (λ (y : ℕ). read_or y (trimmed m)) (sym e)

  abbrev start_fault_at : ℕ → ℕ
  start_fault_at k = or_else (unless (ltb k 32) 4) (ports_fault m.v (ports_at m k))

  -- the number of the counts
  module _ (clear : model_fault m ≡ or_else (counts_fault m) (links_fault m)) where
    counts-segments : m.n ≡ 0 → model_fault m ≡ 2
    unfolding counts_fault or_else
    counts-segments e = clear ∙ rw (lt-leb 1 m.n (omega arith)) refl

    counts-threads : 1 ≤ m.n → m.t ≡ 0 → model_fault m ≡ 2
    unfolding counts_fault or_else
    counts-threads l e = clear ∙ rw (le-leb 1 m.n l, lt-leb 1 m.t (omega arith)) refl

    -- with a segment and a thread
    counts_some : 1 ≤ m.n → 1 ≤ m.t → model_fault m ≡ or_else (first_below m.t start_fault_at) (links_fault m)
    unfolding counts_fault starts_fault
    counts_some l k =
        clear
        ∙ ap (λ (x : ℕ). or_else x (links_fault m))
        (or_else-none _ _ (rw (le-leb 1 m.n l) refl) ∙ or_else-none _ _ (rw (le-leb 1 m.t k) refl))

    -- the first thread with a fault
    at-start : 1 ≤ m.n → (k : ℕ) → k < m.t → first_below k start_fault_at ≡ 0 → (start_fault_at k ≡ 0 → ⊥) → model_fault m ≡ start_fault_at k
    at-start some k l none here =
        let e : first_below m.t start_fault_at ≡ start_fault_at k = first_below-here k m.t start_fault_at l none here in
        counts_some some (omega arith) ∙ ap (λ (x : ℕ). or_else x (links_fault m)) e ∙ or_else-some (start_fault_at k) (links_fault m) here

    counts-kept : 1 ≤ m.n → 1 ≤ m.t → first_below m.t start_fault_at ≡ 0 → model_fault m ≡ links_fault m
    counts-kept l k none = counts_some l k ∙ or_else-none (first_below m.t start_fault_at) (links_fault m) none

  -- a kind that does not follow
  kind-refused : (last k most : ℕ) (body rest : List ℕ) (n : Model) → 4 + length body < 65536 → k < 65536 → follows last k ≡ false
      → length (record_bytes k body ++ rest) ≤ most → read_from most last (record_bytes k body ++ rest) n ≡ read_or 2 n
  unfolding or_else
  kind-refused last k zero body rest n small kind f h = absurd (omega (arith, record-whole k body rest))
  kind-refused last k (suc most) body rest n small kind f h = read-refused last k body rest small kind most n 2 two (λ e. omega arith)
    where
      two : record_fault last k body n ≡ 2
      two = rw f refl

  -- no segment: the first thread or the end follows the head
  none_read : (t most : ℕ) (n : Model) → model_fault m ≡ 2 → length (threads_left t 0) ≤ most → Told (read_from most 1 (threads_left t 0) n)
  unfolding follows joined
  none_read zero most n e h =
      let b : record_bytes 4 [] ++ [] ≡ record_bytes 4 [] = append-nil (record_bytes 4 []) in
      ap (λ (b : List ℕ). read_from most 1 b n) (sym b)
      ∙ kind-refused 1 4 most [] [] n (omega arith) (omega arith) refl (rw b h)
      ∙ told-refused 2 n e (λ z. omega arith)
  none_read (suc t) most n e h =
      let rest = ports_bytes (start_at m 0).ports ++ threads_left t 1 in
      let b : threads_left (suc t) 0 ≡ record_bytes 3 (start_body 0) ++ rest =
      joined-first t 0 starts (record_bytes 4 [])
      ∙ append_assoc (record_bytes 3 (start_body 0)) (ports_bytes (start_at m 0).ports) (threads_left t 1) in
      ap (λ (b : List ℕ). read_from most 1 b n) b
      ∙ kind-refused 1 3 most (start_body 0) rest n (omega (arith, bytes_of-length 1 (start_at m 0).first)) (omega arith) refl (rw b at h)
      ∙ told-refused 2 n e (λ z. omega arith)

  -- a thread's two records, after k threads
  abbrev so_far : ℕ → Model
  so_far k = part_of m m.n k

  -- with thread k, of which the ports are not yet read
  abbrev bare : ℕ → Model
  bare k = with_start (so_far k) (record { first = (start_at m k).first; ports = no_ports })

  module _ (k : ℕ) (l : k < m.t) where
    abbrev ports : List ℕ
    ports = (start_at m k).ports

    small-start : 4 + length (start_body k) < 65536
    small-start = omega (arith, bytes_of-length 1 (start_at m k).first)

    small-ports : 4 + length (ports_body ports) < 65536
    small-ports = omega (arith, ports_body-length ports)

    thread-fault : (last : ℕ) → follows last 3 ≡ true → record_fault last 3 (start_body k) (so_far k) ≡ unless (ltb k 32) 4
    unfolding length_fits body_fault bytes_of or_else
    thread-fault last f = rw f refl

    start-added : with_record 3 (so_far k) (record_bytes 3 (start_body k)) ≡ bare k
    unfolding with_record record_bytes bytes_of
    start-added =
        let r = record_bytes 3 (start_body k) in
        let e : byte_at r 4 ≡ (start_at m k).first = byte_at-written (start_at m k).first r [] 4 refl (fits.starts k l) in
        ap (λ (x : ℕ). with_start (so_far k) (record { first = x; ports = no_ports })) e

    -- no port is used: there is no second record
    unused-added : uses_ports ports ≡ false → k < 32 → bare k ≡ so_far (suc k)
    unfolding trimmed_start
    unused-added none h =
        ap (λ (ps : List ℕ). with_start (so_far k) (record { first = (start_at m k).first; ports = ps })) (sym (unused-trimmed ports none))
        ∙ part_of-start m m.n k h

    module _ (some : uses_ports ports ≡ true) where
      ports-fault : record_fault 3 5 (ports_body ports) (bare k) ≡ ports_fault m.v ports
      unfolding follows length_fits body_fault with_start
      ports-fault =
          ap (λ (n : ℕ). or_else (or_else 0 (unless (length_fits 5 (4 + n)) 3)) (body_fault 5 (bare k) (record_bytes 5 (ports_body ports)))) (ports_body-length ports)
          ∙ or_else-none _ _ (or_else-none 0 0 refl)
          ∙ ports_bytes_fault-written ports some (λ p h. fits.ports k p l h) m.v

      ports-added : k < 32 → with_record 5 (bare k) (record_bytes 5 (ports_body ports)) ≡ so_far (suc k)
      unfolding with_record trimmed_start
      ports-added h =
          let places : length (filled no_start 32 (λ k. trimmed_start (start_at m k)) k) ≡ 32 =
          length-append (tabulate k 0 (λ k. trimmed_start (start_at m k))) (replicate (32 - k) no_start)
          ∙ ap₂ ◌+◌ (tabulate-length k 0 (λ k. trimmed_start (start_at m k))) (length-replicate (32 - k) no_start)
          ∙ omega arith in
          ap (with_ports (bare k)) (ports_from-written ports some (λ p h. fits.ports k p l h))
          ∙ with_ports-last (so_far k) (start_at m k).first no_ports (eight_of ports) (omega arith)
          ∙ part_of-start m m.n k h

  -- j threads left, after k
  module _ (some : 1 ≤ m.n) (clear : model_fault m ≡ or_else (counts_fault m) (links_fault m)) where
    -- what follows thread k, after the record of its ports or none
    abbrev More : ℕ → List ℕ → Type 0
    More k rest = (last most : ℕ) → follows last 3 ≡ true → follows last 4 ≡ true → length rest ≤ most → start_fault_at k ≡ 0
        → Told (read_from most last rest (so_far (suc k)))

    few-fault : (k : ℕ) → k < 32 → start_fault_at k ≡ ports_fault m.v (start_at m k).ports
    unfolding ports_at
    few-fault k h = or_else-none _ _ (rw (lt-ltb k 32 h) refl)

    many-fault : (k : ℕ) → 32 ≤ k → start_fault_at k ≡ 4
    many-fault k h = rw (le-ltb k 32 h) (or_else-some 4 _ (λ e. omega arith))

    ports-step : (k most : ℕ) (rest : List ℕ) → k < m.t → k < 32 → first_below k start_fault_at ≡ 0
        → length (ports_bytes (start_at m k).ports ++ rest) ≤ most → More k rest
        → Told (read_from most 3 (ports_bytes (start_at m k).ports ++ rest) (bare k))
    unfolding follows
    ports-step k most rest l p none h more = go (uses_ports ps) refl
      where
        ps : List ℕ
        ps = (start_at m k).ports

        fault : ℕ
        fault = ports_fault m.v ps

        Left : List ℕ → Type 0
        Left b = length (b ++ rest) ≤ most → Told (read_from most 3 (b ++ rest) (bare k))

        judged : uses_ports ps ≡ true → (most : ℕ) → length (record_bytes 5 (ports_body ps) ++ rest) ≤ most → Dec (fault ≡ 0)
            → Told (read_from most 3 (record_bytes 5 (ports_body ps) ++ rest) (bare k))
        judged e zero h d = absurd (omega (arith, record-whole 5 (ports_body ps) rest))
        judged e (suc most) h (yes z) =
            read_more 3 5 (ports_body ps) rest (small-ports k l) (omega arith) most (bare k) (ports-fault k l e ∙ z) (λ e. omega arith)
            ∙ ap (read_from most 5 rest) (ports-added k l e p)
            ∙ more 5 most refl refl (omega (arith, record-whole 5 (ports_body ps) rest)) (few-fault k p ∙ z)
        judged e (suc most) h (no z) =
            read-refused 3 5 (ports_body ps) rest (small-ports k l) (omega arith) most (bare k) fault (ports-fault k l e) z
            ∙ told-refused fault (bare k) (at-start clear some k l none (λ y. z (sym (few-fault k p) ∙ y)) ∙ few-fault k p) z

        go : (b : Bool) → uses_ports ps ≡ b → Told (read_from most 3 (ports_bytes ps ++ rest) (bare k))
        go false e =
            subst Left (sym (ports_bytes-unused ps e))
            (λ h. ap (read_from most 3 rest) (unused-added k l e p) ∙ more 3 most refl refl h (few-fault k p ∙ unused-fault ps e m.v))
            h
        go true e = subst Left (sym (ports_bytes-used ps e)) (λ h. judged e most h (ℕ_discrete fault 0)) h

    thread-step : (last k most : ℕ) (rest : List ℕ) → follows last 3 ≡ true → k < m.t → first_below k start_fault_at ≡ 0
        → length (starts k ++ rest) ≤ most → More k rest → Told (read_from most last (starts k ++ rest) (so_far k))
    thread-step last k most rest f l none h more =
        let b : starts k ++ rest ≡ record_bytes 3 (start_body k) ++ left = append_assoc (record_bytes 3 (start_body k)) (ports_bytes (start_at m k).ports) rest in
        ap (λ (b : List ℕ). read_from most last b (so_far k)) b ∙ go most (rw b at h) (dec_lt k 32)
      where
        left : List ℕ
        left = ports_bytes (start_at m k).ports ++ rest

        go : (most : ℕ) → length (record_bytes 3 (start_body k) ++ left) ≤ most → Dec (k < 32)
            → Told (read_from most last (record_bytes 3 (start_body k) ++ left) (so_far k))
        go zero h d = absurd (omega (arith, record-whole 3 (start_body k) left))
        go (suc most) h (yes p) =
            read_more last 3 (start_body k) left (small-start k l) (omega arith) most (so_far k) (thread-fault k l last f ∙ rw (lt-ltb k 32 p) refl)
            (λ e. omega arith)
            ∙ ap (read_from most 3 left) (start-added k l)
            ∙ ports-step k most rest l p none (omega (arith, record-whole 3 (start_body k) left)) more
        go (suc most) h (no p) =
            let four : start_fault_at k ≡ 4 = many-fault k (omega arith) in
            read-refused last 3 (start_body k) left (small-start k l) (omega arith) most (so_far k) 4
            (thread-fault k l last f ∙ rw (le-ltb k 32 (omega arith)) refl) (λ e. omega arith)
            ∙ told-refused 4 (so_far k) (at-start clear some k l none (λ z. let e : 4 ≡ 0 = sym four ∙ z in omega arith) ∙ four) (λ e. omega arith)

    -- the end record
    end-fault : (last k : ℕ) → follows last 4 ≡ leb 1 k → record_fault last 4 [] (so_far k) ≡ unless (leb 1 k) 2
    unfolding length_fits body_fault
    end-fault last k f =
        ap (λ (b : Bool). or_else (or_else (unless b 2) 0) 0) f ∙ or_else-last (or_else (unless (leb 1 k) 2) 0) ∙ or_else-last (unless (leb 1 k) 2)

    ended : 1 ≤ m.t → first_below m.t start_fault_at ≡ 0 → Told (read_end [] (so_far m.t))
    unfolding read_end
    ended l none =
        ap (λ (n : Model). read_or (or_else 0 (links_fault n)) n) (sym (part_of-all m))
        ∙ ap (λ (x : ℕ). read_or x (trimmed m))
        (or_else-none 0 (links_fault (trimmed m)) refl ∙ links_fault-trimmed m ∙ sym (counts-kept clear some l none))

    end_read : (last most : ℕ) → follows last 4 ≡ leb 1 m.t → length (record_bytes 4 [] ++ []) ≤ most → first_below m.t start_fault_at ≡ 0
        → Told (read_from most last (record_bytes 4 [] ++ []) (so_far m.t))
    end_read last zero f h none = absurd (omega (arith, record-whole 4 [] []))
    end_read last (suc most) f h none = go (ℕ_discrete m.t 0)
      where
        go : Dec (m.t ≡ 0) → Told (read_from (suc most) last (record_bytes 4 [] ++ []) (so_far m.t))
        go (yes z) =
            read-refused last 4 [] [] (omega arith) (omega arith) most (so_far m.t) 2
            (end-fault last m.t f ∙ rw (lt-leb 1 m.t (omega arith)) refl) (λ e. omega arith)
            ∙ told-refused 2 (so_far m.t) (counts-threads clear some z) (λ e. omega arith)
        go (no z) =
            read-ended last 4 [] [] (omega arith) (omega arith) most (so_far m.t)
            (end-fault last m.t f ∙ rw (le-leb 1 m.t (omega arith)) refl) refl
            ∙ ended (omega arith) none

    threads-read : (last j k most : ℕ) → follows last 3 ≡ true → follows last 4 ≡ leb 1 k → k + j ≡ m.t → first_below k start_fault_at ≡ 0
        → length (threads_left j k) ≤ most → Told (read_from most last (threads_left j k) (so_far k))
    unfolding joined
    threads-read last zero k most f g e none h =
        let z : k ≡ m.t = omega arith in
        let b : record_bytes 4 [] ≡ record_bytes 4 [] ++ [] = sym (append-nil (record_bytes 4 [])) in
        ap₂ (λ (k : ℕ) (b : List ℕ). read_from most last b (so_far k)) z b ∙ end_read last most (rw z at g) (rw b at h) (rw z at none)
    threads-read last (suc j) k most f g e none h =
        let b : threads_left (suc j) k ≡ starts k ++ threads_left j (suc k) = joined-first j k starts (record_bytes 4 []) in
        ap (λ (b : List ℕ). read_from most last b (so_far k)) b
        ∙ thread-step last k most (threads_left j (suc k)) f (omega arith) none (rw b at h)
        (λ last most f g l z.
        threads-read last j (suc k) most f (g ∙ sym (le-leb 1 (suc k) (omega arith))) (omega arith) (first_below-more k start_fault_at none ∙ z) l)

  -- what is left after i segments where there are j more
  abbrev segments_left : ℕ → ℕ → List ℕ
  segments_left j i = joined j i segments ++ threads_left m.t 0

  -- a head without fault
  module _ (head : head_fault m.horizon.0 m.v m.e ≡ 0) where
    after-segments : first_below m.n segment_fault_at ≡ 0 → model_fault m ≡ or_else (counts_fault m) (links_fault m)
    unfolding model_fault segments_fault
    after-segments none = or_else-none _ _ head ∙ or_else-none _ _ none

    -- the first segment with a fault
    at-segment : (i : ℕ) → i < m.n → first_below i segment_fault_at ≡ 0 → (segment_fault_at i ≡ 0 → ⊥) → model_fault m ≡ segment_fault_at i
    unfolding model_fault segments_fault
    at-segment i l none here =
        let e : first_below m.n segment_fault_at ≡ segment_fault_at i = first_below-here i m.n segment_fault_at l none here in
        or_else-none _ _ head
        ∙ ap (λ (x : ℕ). or_else x (or_else (counts_fault m) (links_fault m))) e
        ∙ or_else-some (segment_fault_at i) _ here

    segment-follows : (i : ℕ) → follows (last_after 1 2 i) 2 ≡ true
    unfolding follows
    segment-follows zero = refl
    segment-follows (suc i) = refl

    segment-step : (i most : ℕ) (rest : List ℕ) → i < m.n → first_below i segment_fault_at ≡ 0 → length (segments i ++ rest) ≤ most
        → ((most : ℕ) → length rest ≤ most → segment_fault_at i ≡ 0 → Told (read_from most 2 rest (part_of m (suc i) 0)))
        → Told (read_from most (last_after 1 2 i) (segments i ++ rest) (part_of m i 0))
    segment-step i zero rest l none h more = absurd (omega (arith, record-whole 2 (segment_body (segment_at m i)) rest))
    segment-step i (suc most) rest l none h more = go (ℕ_discrete (segment_fault_at i) 0)
      where
        body : List ℕ
        body = segment_body (segment_at m i)

        fault : record_fault (last_after 1 2 i) 2 body (part_of m i 0) ≡ segment_fault_at i
        fault = segment-fault i l (last_after 1 2 i) (segment-follows i)

        go : Dec (segment_fault_at i ≡ 0) → Told (read_from (suc most) (last_after 1 2 i) (segments i ++ rest) (part_of m i 0))
        go (yes z) =
            read_more (last_after 1 2 i) 2 body rest (small i l) (omega arith) most (part_of m i 0) (fault ∙ z) (λ e. omega arith)
            ∙ ap (read_from most 2 rest) (segment-added i l z)
            ∙ more most (omega (arith, record-whole 2 body rest)) z
        go (no z) =
            read-refused (last_after 1 2 i) 2 body rest (small i l) (omega arith) most (part_of m i 0) (segment_fault_at i) fault z
            ∙ told-refused (segment_fault_at i) (part_of m i 0) (at-segment i l none z) z

    all-segments : (most : ℕ) → first_below m.n segment_fault_at ≡ 0 → length (threads_left m.t 0) ≤ most
        → Told (read_from most (last_after 1 2 m.n) (threads_left m.t 0) (part_of m m.n 0))
    unfolding follows
    all-segments most none h = go m.n refl
      where
        go : (n : ℕ) → n ≡ m.n → Told (read_from most (last_after 1 2 n) (threads_left m.t 0) (part_of m m.n 0))
        go zero e = none_read m.t most (part_of m m.n 0) (counts-segments (after-segments none) (sym e)) h
        go (suc n) e = threads-read (omega arith) (after-segments none) 2 m.t 0 most refl refl (omega arith) (first_below-none start_fault_at) h

    segments-read : (j i most : ℕ) → i + j ≡ m.n → first_below i segment_fault_at ≡ 0 → length (segments_left j i) ≤ most
        → Told (read_from most (last_after 1 2 i) (segments_left j i) (part_of m i 0))
    unfolding joined
    segments-read zero i most e none h =
        let z : i ≡ m.n = omega arith in
        ap (λ (i : ℕ). read_from most (last_after 1 2 i) (threads_left m.t 0) (part_of m i 0)) z ∙ all-segments most (rw z at none) h
    segments-read (suc j) i most e none h =
        let b : segments_left (suc j) i ≡ segments i ++ segments_left j (suc i) = joined-first j i segments (threads_left m.t 0) in
        ap (λ (b : List ℕ). read_from most (last_after 1 2 i) b (part_of m i 0)) b
        ∙ segment-step i most (segments_left j (suc i)) (omega arith) none (rw b at h)
        (λ most l z. segments-read j (suc i) most (omega arith) (first_below-more i segment_fault_at none ∙ z) l)

  -- the head's record
  head-fields :
      (long_at (record_bytes 1 (head_body m)) 4 ≡ m.horizon.0) ×
      (byte_at (record_bytes 1 (head_body m)) 8 ≡ m.v) ×
      (byte_at (record_bytes 1 (head_body m)) 9 ≡ m.e)
  unfolding record_bytes bytes_of
  head-fields =
      let r = record_bytes 1 (head_body m) in (
        long_at-written m.horizon.0 r (drop 8 r) 4 refl fits.horizon,
        byte_at-written m.v r (drop 9 r) 8 refl fits.v,
        byte_at-written m.e r [] 9 refl fits.e,
      )

  head-fault : record_fault 0 1 (head_body m) no_model ≡ head_fault m.horizon.0 m.v m.e
  unfolding follows length_fits body_fault bytes_of or_else
  head-fault = let (h, v, e) = head-fields in λ i. head_fault (h i) (v i) (e i)

  head-added : with_record 1 no_model (record_bytes 1 (head_body m)) ≡ part_of m 0 0
  unfolding with_record with_head tabulate
  head-added =
      let (h, v, e) = head-fields in
      λ i. record { horizon = record { 0 = h i }; v = v i; e = e i; n = 0; t = 0; segments = replicate 64 no_segment; starts = replicate 32 no_start }

  small-head : 4 + length (head_body m) < 65536
  unfolding bytes_of
  small-head = omega arith

  at_head : (head_fault m.horizon.0 m.v m.e ≡ 0 → ⊥) → model_fault m ≡ head_fault m.horizon.0 m.v m.e
  unfolding model_fault
  at_head z = or_else-some _ _ z

  file-read : (most : ℕ) → length (record_bytes 1 (head_body m) ++ segments_left m.n 0) ≤ most
      → Told (read_from most 0 (record_bytes 1 (head_body m) ++ segments_left m.n 0) no_model)
  file-read zero h = absurd (omega (arith, record-whole 1 (head_body m) (segments_left m.n 0)))
  file-read (suc most) h = go (ℕ_discrete (head_fault m.horizon.0 m.v m.e) 0)
    where
      rest : List ℕ
      rest = segments_left m.n 0

      go : Dec (head_fault m.horizon.0 m.v m.e ≡ 0) → Told (read_from (suc most) 0 (record_bytes 1 (head_body m) ++ rest) no_model)
      go (yes z) =
          read_more 0 1 (head_body m) rest small-head (omega arith) most no_model (head-fault ∙ z) (λ e. omega arith)
          ∙ ap (read_from most 1 rest) head-added
          ∙ segments-read z m.n 0 most (omega arith) (first_below-none segment_fault_at) (omega (arith, record-whole 1 (head_body m) rest))
      go (no z) =
          read-refused 0 1 (head_body m) rest small-head (omega arith) most no_model (head_fault m.horizon.0 m.v m.e) head-fault z
          ∙ told-refused (head_fault m.horizon.0 m.v m.e) no_model (at_head z) z

  pub read-written : read_file (file_of m) ≡ read_or (model_fault m) (trimmed m)
  unfolding read_file file_of head_bytes segment_bytes start_bytes end_bytes
  read-written = file-read (length (file_of m)) (omega arith)
