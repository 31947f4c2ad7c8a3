-- Targets: the bound that is kept as a file is judged says which N every target is below.
--     max-leb, next-bound, leaves-bound     the greater of two numbers, a closer's next segments
--     stays-..     no target of a model is N or more: of a model with a segment more, with a thread more, with a thread's ports
--     counted-..     what is counted, record by record; and that no port is named where none was seen
use Prim.Native.Nat.{ℕ, suc, max, ◌+◌, ◌-◌, ◌<◌, ◌≤◌, zero-le}
use mathlib.Core.Path.{◌≡◌, refl, sym, ap, ◌∙◌, subst}
use mathlib.Core.Bool.{Bool, true, false, not, ◌&&◌, ◌||◌, not-not}
use mathlib.Core.List.{List}
use native.Mathlib.Numerals.{add-one}
use native.Mathlib.Omega.{arith}
use native.Mathlib.Decide.{dec_lt, ℕ_discrete}
use lib.Dec.{ltb, leb}
use lib.ListN.{length, get_or, set}
use lib.Seq.{get_or-set_same, get_or-set_other}
use borrow.Author.Tests.{leb-true, le-leb, ltb-true}
use Rattle.base.specs.Index.{any_below}
use Rattle.base.proofs.BoolLaws.{true→T, T→false, false→T, not-or→both}
use Rattle.base.proofs.IndexLaws.{any_below-more, any_below-same, or_else-zero}
use Rattle.model.specs.declared.Next.{Next}
use Rattle.model.specs.declared.Closer.{Closer}
use Rattle.model.specs.declared.Closer.TheVariants.{End, Time, Event}
use Rattle.model.specs.declared.Segment.{Segment}
use Rattle.model.specs.declared.Start.{Start}
use Rattle.model.specs.declared.Model.{Model}
use Rattle.model.specs.Port.{no_ports}
use Rattle.model.specs.Values.{no_segment, no_start, no_model, segment_at, start_at, with_head, with_segment, with_start, with_ports}
use Rattle.model.specs.Rules.{unless, leaves_model, any_segment_leaves, any_start_leaves, targets_fault}
use Rattle.model_rules.proofs.FaultLaws.{unless-zero}
use Rattle.reader.specs.Word.{byte_at}
use Rattle.reader.specs.Record.{segment_from, segment_bytes_fault, ports_from, body_fault, with_record}
use Rattle.reader_laws.proofs.ReadSoFar.{SoFar, Follows, head, segment, thread, ports, ending}
use Rattle.reader_segment.specs.Parts.{bound_of, target_bound, fits, closer_in, record_names}
use Rattle.reader_segment.proofs.NamedLaws.{segment-unnamed}
use Rattle.reader_record.specs.declared.Counts.{Counts}
use Rattle.reader_file.specs.Parts.{no_counts, counts_after}
use Rattle.reader_file.proofs.UnnamedLaws.{Unnamed, unnamed-same, unnamed-segment}

absorb-left : (s t : Bool) → (t ≡ true → s ≡ true) → t ≡ (s && t)
absorb-left true t h = refl
absorb-left false true h = absurd (true→T false (h refl))
absorb-left false false h = refl

absorb-right : (s t : Bool) → (s ≡ true → t ≡ true) → s ≡ (s && t)
absorb-right true t h = sym (h refl)
absorb-right false t h = refl

max-leb : (a b n : ℕ) → leb (max a b) n ≡ (leb a n && leb b n)
max-leb a b n = go (dec_lt a b)
  where
    go : Dec (a < b) → leb (max a b) n ≡ (leb a n && leb b n)
    go (yes h) = let e : max a b ≡ b = omega arith in rw e (absorb-left (leb a n) (leb b n) (λ e. le-leb a n (omega (arith, leb-true b n e))))
    go (no h) = let e : max a b ≡ a = omega arith in rw e (absorb-right (leb a n) (leb b n) (λ e. le-leb b n (omega (arith, leb-true a n e))))

next-bound : (n : ℕ) (x : Next) → not (not (ltb x.a n && ltb x.b n)) ≡ leb (bound_of x) n
next-bound n x =
    let e : bound_of x ≡ max (suc x.a) (suc x.b) = omega arith in
    not-not (ltb x.a n && ltb x.b n) ∙ sym (ap (λ (k : ℕ). leb k n) e ∙ max-leb (suc x.a) (suc x.b) n)

leaves-bound : (n : ℕ) (c : Closer) → not (leaves_model n c) ≡ leb (target_bound c) n
unfolding leaves_model target_bound
leaves-bound n End = sym (le-leb 0 n zero-le)
leaves-bound n (Time k x) = next-bound n x
leaves-bound n (Event w x) = next-bound n x

-- no next segment and no first segment of m is n or more
unfoldable pub stays : ℕ → Model → Bool
stays n m = not (any_below m.n (λ i. leaves_model n (segment_at m i).closer) || any_below m.t (λ k. not (ltb (start_at m k).first n)))

pub stays-targets : (m : Model) → targets_fault m ≡ unless (stays m.n m) 8
unfolding targets_fault any_segment_leaves any_start_leaves stays
stays-targets m = refl

segment-more : (a f s : Bool) → not ((a || f) || s) ≡ (not (a || s) && not f)
segment-more true f s = refl
segment-more false true true = refl
segment-more false true false = refl
segment-more false false true = refl
segment-more false false false = refl

thread-more : (a s f : Bool) → not (a || (s || f)) ≡ (not (a || s) && not f)
thread-more true s f = refl
thread-more false true f = refl
thread-more false false f = refl

module _ (n : ℕ) (m : Model) where
  leaves_at : List Segment → ℕ → Bool
  leaves_at gs i = leaves_model n (get_or gs i no_segment).closer

  misses-at : List Start → ℕ → Bool
  misses-at ss k = not (ltb (get_or ss k no_start).first n)

  stays-segment : (g : Segment) → m.n < length m.segments → stays n (with_segment m g) ≡ (stays n m && not (leaves_model n g.closer))
  unfolding stays with_segment segment_at start_at leaves_at misses-at
  stays-segment g h =
      let before : any_below m.n (leaves_at (set m.segments m.n g)) ≡ any_below m.n (leaves_at m.segments) =
      any_below-same m.n _ _ (λ i l. ap (λ (x : Segment). leaves_model n x.closer) (get_or-set_other m.segments m.n i g no_segment (λ e. omega arith))) in
      let here : leaves_at (set m.segments m.n g) m.n ≡ leaves_model n g.closer =
      ap (λ (x : Segment). leaves_model n x.closer) (get_or-set_same m.segments m.n g no_segment h) in
      rw (any_below-more m.n (leaves_at (set m.segments m.n g)), before, here) (segment-more (any_below m.n (leaves_at m.segments)) (leaves_model n g.closer) (any_below m.t (misses-at m.starts)))

  stays-start : (s : Start) → m.t < length m.starts → stays n (with_start m s) ≡ (stays n m && ltb s.first n)
  unfolding stays with_start segment_at start_at leaves_at misses-at
  stays-start s h =
      let before : any_below m.t (misses-at (set m.starts m.t s)) ≡ any_below m.t (misses-at m.starts) =
      any_below-same m.t _ _ (λ i l. ap (λ (x : Start). not (ltb x.first n)) (get_or-set_other m.starts m.t i s no_start (λ e. omega arith))) in
      let here : misses-at (set m.starts m.t s) m.t ≡ not (ltb s.first n) =
      ap (λ (x : Start). not (ltb x.first n)) (get_or-set_same m.starts m.t s no_start h) in
      rw (any_below-more m.t (misses-at (set m.starts m.t s)), before, here) (thread-more (any_below m.n (leaves_at m.segments)) (any_below m.t (misses-at m.starts)) (not (ltb s.first n)) ∙ ap (λ (t : Bool). not (any_below m.n (leaves_at m.segments) || any_below m.t (misses-at m.starts)) && t) (not-not (ltb s.first n)))

-- a thread's ports leave its first segment
stays-ports : (n : ℕ) (m : Model) (ps : List ℕ) → 1 ≤ m.t → m.t ≤ length m.starts → stays n (with_ports m ps) ≡ stays n m
unfolding stays with_ports segment_at start_at
stays-ports n m ps some places =
    ap (λ (t : Bool). not (any_below m.n (λ i. leaves_model n (get_or m.segments i no_segment).closer) || t))
    (any_below-same m.t (λ k. not (ltb (get_or (set m.starts last x) k no_start).first n)) (λ k. not (ltb (get_or m.starts k no_start).first n)) (λ k h. ap (λ (i : ℕ). not (ltb i n)) (each k h (ℕ_discrete k last))))
  where
    last : ℕ
    last = m.t - 1

    x : Start
    x = record { first = (get_or m.starts last no_start).first; ports = ps }

    each : (k : ℕ) → k < m.t → Dec (k ≡ last) → (get_or (set m.starts last x) k no_start).first ≡ (get_or m.starts k no_start).first
    each k h (yes e) = rw (e, get_or-set_same m.starts last x no_start (omega arith)) refl
    each k h (no e) = rw (get_or-set_other m.starts last k x no_start e) refl

closer-is : (r : List ℕ) → fits r ≡ true → (segment_from r).closer ≡ closer_in r
unfolding segment_from closer_in
closer-is r f = rw f refl

-- c counts what m holds
pub record Counted (c : Counts) (m : Model) : Type 0 where
  pub v : c.v ≡ m.v
  pub e : c.e ≡ m.e
  pub n : c.n ≡ m.n
  pub t : c.t ≡ m.t
  pub bounds : (n : ℕ) → stays n m ≡ leb c.bound n
  pub unnamed : c.named ≡ false → Unnamed m

pub counted_none : Counted no_counts no_model
unfolding stays any_below
counted_none = record { v = refl; e = refl; n = refl; t = refl; bounds = λ n. sym (le-leb 0 n zero-le); unnamed = λ _ i p h l. absurd (omega arith) }

module _ (last : ℕ) (c : Counts) (m : Model) (r : List ℕ) (so_far : SoFar last m) (g : Counted c m) where
  counted-head : Counted (counts_after 1 c r) (with_record 1 m r)
  unfolding counts_after with_record with_head stays segment_at start_at
  counted-head = record { v = refl; e = refl; n = g.n; t = g.t; bounds = g.bounds; unnamed = λ z. unnamed-same m _ refl refl (g.unnamed z) }

  counted-segment : fits r ≡ true → body_fault 2 m r ≡ 0 → Counted (counts_after 2 c r) (with_record 2 m r)
  unfolding counts_after with_record with_segment body_fault
  counted-segment f none = record { v = g.v; e = g.e; n = ap (λ (n : ℕ). n + 1) g.n; t = g.t; bounds = each; unnamed = none_named }
    where
      room : m.n < 64
      room = ltb-true m.n 64 (unless-zero (ltb m.n 64) 4 (λ e. omega arith) (or_else-zero (unless (ltb m.n 64) 4) (segment_bytes_fault m.v m.e r) none).0)

      each : (n : ℕ) → stays n (with_segment m (segment_from r)) ≡ leb (max c.bound (target_bound (closer_in r))) n
      each n =
          stays-segment n m (segment_from r) (omega (arith, room, so_far.segment_places))
          ∙ rw (g.bounds n, leaves-bound n (segment_from r).closer, closer-is r f) (sym (max-leb c.bound (target_bound (closer_in r)) n))

      none_named : (c.named || record_names r) ≡ false → Unnamed (with_segment m (segment_from r))
      none_named z =
          let (p, q) = not-or→both c.named (record_names r) (false→T _ z) in
          unnamed-segment m (segment_from r) (omega (arith, room, so_far.segment_places)) (g.unnamed (T→false c.named p))
          (λ i l. segment-unnamed r f (T→false (record_names r) q) i l)

  counted-thread : body_fault 3 m r ≡ 0 → Counted (counts_after 3 c r) (with_record 3 m r)
  unfolding counts_after with_record with_start body_fault
  counted-thread none = record { v = g.v; e = g.e; n = g.n; t = ap (λ (t : ℕ). t + 1) g.t; bounds = each; unnamed = λ z. unnamed-same m _ refl refl (g.unnamed z) }
    where
      room : m.t < 32
      room = ltb-true m.t 32 (unless-zero (ltb m.t 32) 4 (λ e. omega arith) none)

      each : (n : ℕ) → stays n (with_start m (record { first = byte_at r 4; ports = no_ports })) ≡ leb (max c.bound (byte_at r 4 + 1)) n
      each n =
          stays-start n m (record { first = byte_at r 4; ports = no_ports }) (omega (arith, room, so_far.start_places))
          ∙ rw (g.bounds n, max-leb c.bound (byte_at r 4 + 1) n, add-one (byte_at r 4)) refl

  -- ports have no targets
  counted-ports : last ≡ 3 → Counted (counts_after 5 c r) (with_record 5 m r)
  unfolding counts_after with_record with_ports
  counted-ports is = record { v = g.v; e = g.e; n = g.n; t = g.t; bounds = λ n. stays-ports n m (ports_from r) some places ∙ g.bounds n; unnamed = λ z. unnamed-same m _ refl refl (g.unnamed z) }
    where
      some : 1 ≤ m.t
      some = so_far.some_thread (omega arith)

      places : m.t ≤ length m.starts
      places = omega (arith, so_far.few_threads, so_far.start_places)

  pub counted-more : (k : ℕ) → Follows last k → (k ≡ 2 → fits r ≡ true) → body_fault k m r ≡ 0 → (k ≡ 4 → ⊥) → Counted (counts_after k c r) (with_record k m r)
  counted-more k (head z e) f none more = subst (λ (k : ℕ). Counted (counts_after k c r) (with_record k m r)) (sym e) counted-head
  counted-more k (segment p q e) f none more = subst (λ (k : ℕ). body_fault k m r ≡ 0 → Counted (counts_after k c r) (with_record k m r)) (sym e) (counted-segment (f e)) none
  counted-more k (thread p e) f none more = subst (λ (k : ℕ). body_fault k m r ≡ 0 → Counted (counts_after k c r) (with_record k m r)) (sym e) counted-thread none
  counted-more k (ports z e) f none more = subst (λ (k : ℕ). Counted (counts_after k c r) (with_record k m r)) (sym e) (counted-ports z)
  counted-more k (ending z e) f none more = absurd (more e)
