-- Two models with the same counts whose entries below them are alike: what the rules, the footprints and the hazards' conflicts say is the same.
--     with_entries, SameSegment     the same counts, other entries; segments that close alike with the same statements at the front
--     model_fault-same, listed_in-same, effect_of-same, lacks_from-same, threads_conflict-same
use Prim.Native.Nat.{ℕ, zero, suc, ◌+◌, ◌<◌, ◌≤◌}
use mathlib.Core.Path.{◌≡◌, refl, ap, sym, ◌∙◌}
use mathlib.Core.Bool.{Bool, not, ◌&&◌, ◌||◌}
use mathlib.Core.List.{List}
use native.Mathlib.Omega.{arith}
use native.Mathlib.Decide.{ℕ_discrete}
use lib.Dec.{ltb, leb, eqb}
use lib.ListN.{get_or}
use lib.Seq.{get_or-take}
use Rattle.base.specs.Index.{or_else}
use Rattle.base.proofs.IndexLaws.{or_else-some, any_below-same, first_below-same}
use Rattle.clock.specs.declared.Cycle.{Cycle}
use Rattle.model.specs.declared.Statement.{Statement}
use Rattle.model.specs.declared.Segment.{Segment}
use Rattle.model.specs.declared.Start.{Start}
use Rattle.model.specs.declared.Model.{Model}
use Rattle.model.specs.Refusal.{wrong_length, wrong_count, lacked_port}
use Rattle.model.specs.Port.{unused, first_port, port_of, map_statements, map_closer, map_segment}
use Rattle.model.specs.Values.{no_statement, segment_at, start_at, ports_at, segment_for, body_of}
use Rattle.model.specs.Statement.{notified_by}
use Rattle.model.specs.Effect.{effect_in, effect_of}
use Rattle.model.specs.Footprint.{writes, writes_of, uses_of, writes_in, uses_in, names_port, uses_by_port, listed_in}
use Rattle.model.specs.Reach.{reaches_below, reaches, lacks_port, lacks_from}
use Rattle.model.specs.Rules.{unless, closer_fault, op_fault, statements_fault, segment_fault, segments_fault, ports_fault, starts_fault, counts_fault, leaves_model, any_segment_leaves, any_start_leaves, targets_fault, lack_fault, links_fault, model_fault}
use Rattle.model_effect.proofs.PortLaws.{body-mapped, listed_in-any}
use Rattle.model_rules.proofs.RuleLaws.{targets_fault-first}
use Rattle.tables.specs.Conflict.{mark_at}
use Rattle.early.specs.Hazard.{ports_conflict, threads_conflict}

-- the same counts, other entries
abbrev pub with_entries : Model → List Segment → List Start → Model
with_entries m gs ss = record { horizon = m.horizon; v = m.v; e = m.e; n = m.n; t = m.t; segments = gs; starts = ss }

-- two segments that close alike, with the same statements at the front
pub record SameSegment (g h : Segment) : Type 0 where
  pub closer : g.closer ≡ h.closer
  pub size : g.n ≡ h.n
  pub body : body_of g ≡ body_of h

-- so after mapping
mapped-same : (ps : List ℕ) (g h : Segment) → SameSegment g h → SameSegment (map_segment ps g) (map_segment ps h)
unfolding map_segment
mapped-same ps g h same =
    record {
      closer = ap (map_closer ps) same.closer;
      size = same.size;
      body = body-mapped ps g ∙ ap (map_statements ps) same.body ∙ sym (body-mapped ps h);
    }

writes_of-same : (g h : Segment) → SameSegment g h → (v : ℕ) → writes_of g v ≡ writes_of h v
unfolding writes_of
writes_of-same g h same v = ap (λ (xs : List Statement). writes xs v) same.body

uses_of-same : (g h : Segment) → SameSegment g h → (v : ℕ) → uses_of g v ≡ uses_of h v
unfolding uses_of writes_of
uses_of-same g h same v = rw (same.body, same.closer) refl

segment_fault-same : (v e : ℕ) (g h : Segment) → SameSegment g h → segment_fault v e g ≡ segment_fault v e h
unfolding segment_fault statements_fault body_of
segment_fault-same v e g h same =
    rw (same.closer, same.size)
    (ap
    (λ (x : ℕ). or_else (unless (leb h.n 32) wrong_length) (or_else (closer_fault v e h.closer) x))
    (first_below-same h.n (λ j. op_fault v e (get_or g.statements j no_statement).op) (λ j. op_fault v e (get_or h.statements j no_statement).op) (λ j l. ap (λ (x : Statement). op_fault v e x.op) (at j l))))
  where
    at : (j : ℕ) → j < h.n → get_or g.statements j no_statement ≡ get_or h.statements j no_statement
    at j l =
        sym (get_or-take g.n g.statements j no_statement (omega (arith, same.size))) ∙
        ap (λ (xs : List Statement). get_or xs j no_statement) same.body ∙
        get_or-take h.n h.statements j no_statement l

module _ (m : Model) (gs : List Segment) (ss : List Start)
    (segments : (s : ℕ) → s < m.n → SameSegment (segment_at (with_entries m gs ss) s) (segment_at m s))
    (starts : (k : ℕ) → k < m.t → start_at (with_entries m gs ss) k ≡ start_at m k) where
  abbrev o : Model
  o = with_entries m gs ss

  ports-same : (k : ℕ) → k < m.t → ports_at o k ≡ ports_at m k
  unfolding ports_at
  ports-same k l = ap (λ (x : Start). x.ports) (starts k l)

  -- what a thread does and lists in a segment below N

  segment_for-same : (k s : ℕ) → k < m.t → s < m.n → SameSegment (segment_for o k s) (segment_for m k s)
  unfolding segment_for
  segment_for-same k s l h = rw (ports-same k l) (mapped-same (ports_at m k) (segment_at o s) (segment_at m s) (segments s h))

  pub listed_in-same : (k s : ℕ) → s < m.n → listed_in o k s ≡ listed_in m k s
  listed_in-same k s h = listed_in-any o k s ∙ ap notified_by (segments s h).body ∙ sym (listed_in-any m k s)

  pub effect_of-same : (k s : ℕ) (c : Cycle) (v : List ℕ) → k < m.t → s < m.n → effect_of o k s c v ≡ effect_of m k s c v
  unfolding effect_of effect_in
  effect_of-same k s c v l h = let same = segment_for-same k s l h in rw (same.body, same.closer) refl

  -- conflicts

  uses_in-same : (k s v : ℕ) → k < m.t → s < m.n → uses_in o k s v ≡ uses_in m k s v
  unfolding uses_in
  uses_in-same k s v l h = uses_of-same (segment_for o k s) (segment_for m k s) (segment_for-same k s l h) v

  writes_in-same : (k s v : ℕ) → k < m.t → s < m.n → writes_in o k s v ≡ writes_in m k s v
  unfolding writes_in
  writes_in-same k s v l h = writes_of-same (segment_for o k s) (segment_for m k s) (segment_for-same k s l h) v

  names_port-same : (s p : ℕ) → s < m.n → names_port o s p ≡ names_port m s p
  unfolding names_port
  names_port-same s p h = uses_of-same (segment_at o s) (segment_at m s) (segments s h) (first_port + p)

  uses_by_port-same : (k s v : ℕ) → k < m.t → s < m.n → uses_by_port o k s v ≡ uses_by_port m k s v
  unfolding uses_by_port
  uses_by_port-same k s v l h =
      any_below-same 8 (λ p. names_port o s p && eqb (port_of (ports_at o k) p) v) (λ p. names_port m s p && eqb (port_of (ports_at m k) p) v)
      (λ p _. rw (names_port-same s p h, ports-same k l) refl)

  pub threads_conflict-same : (marks : List (List Bool)) (i r j s : ℕ) → i < m.t → r < m.n → j < m.t → s < m.n
      → threads_conflict o marks i r j s ≡ threads_conflict m marks i r j s
  unfolding threads_conflict ports_conflict
  threads_conflict-same marks i r j s it rn jt sn =
      ap (λ (b : Bool). mark_at marks r s || b)
      (any_below-same m.v
      (λ v. (uses_in o i r v && uses_in o j s v) && ((writes_in o i r v || writes_in o j s v) && (uses_by_port o i r v || uses_by_port o j s v)))
      (λ v. (uses_in m i r v && uses_in m j s v) && ((writes_in m i r v || writes_in m j s v) && (uses_by_port m i r v || uses_by_port m j s v)))
      (λ v _.
      rw (uses_in-same i r v it rn, uses_in-same j s v jt sn, writes_in-same i r v it rn, writes_in-same j s v jt sn, uses_by_port-same i r v it rn, uses_by_port-same j s v jt sn)
      refl))

  -- what a thread can reach from a segment below N

  reaches_below-same : (k r s : ℕ) → k ≤ m.n → r < m.n → reaches_below o k r s ≡ reaches_below m k r s
  unfolding reaches_below
  reaches_below-same zero r s h l = rw (segments r l).closer refl
  reaches_below-same (suc k) r s h l =
      rw (reaches_below-same k r s (omega arith) l, reaches_below-same k r k (omega arith) l, reaches_below-same k k s (omega arith) (omega arith)) refl

  lacks_port-same : (k s : ℕ) → k < m.t → s < m.n → lacks_port o k s ≡ lacks_port m k s
  unfolding lacks_port
  lacks_port-same k s l h =
      any_below-same 8 (λ p. names_port o s p && eqb (port_of (ports_at o k) p) unused) (λ p. names_port m s p && eqb (port_of (ports_at m k) p) unused)
      (λ p _. rw (names_port-same s p h, ports-same k l) refl)

  pub lacks_from-same : (k r : ℕ) → k < m.t → r < m.n → lacks_from o k r ≡ lacks_from m k r
  unfolding lacks_from reaches
  lacks_from-same k r l h =
      any_below-same m.n (λ s. lacks_port o k s && reaches_below o m.n r s) (λ s. lacks_port m k s && reaches_below m m.n r s)
      (λ s b. rw (lacks_port-same k s l b, reaches_below-same m.n r s (omega arith) h) refl)

  -- the rules, part by part

  segments_fault-same : segments_fault o ≡ segments_fault m
  unfolding segments_fault
  segments_fault-same =
      first_below-same m.n (λ i. or_else (unless (ltb i 64) wrong_count) (segment_fault m.v m.e (segment_at o i)))
      (λ i. or_else (unless (ltb i 64) wrong_count) (segment_fault m.v m.e (segment_at m i)))
      (λ i l. ap (or_else (unless (ltb i 64) wrong_count)) (segment_fault-same m.v m.e (segment_at o i) (segment_at m i) (segments i l)))

  starts_fault-same : starts_fault o ≡ starts_fault m
  unfolding starts_fault
  starts_fault-same =
      first_below-same m.t (λ k. or_else (unless (ltb k 32) wrong_count) (ports_fault m.v (ports_at o k)))
      (λ k. or_else (unless (ltb k 32) wrong_count) (ports_fault m.v (ports_at m k)))
      (λ k l. ap (λ (ps : List ℕ). or_else (unless (ltb k 32) wrong_count) (ports_fault m.v ps)) (ports-same k l))

  targets_fault-same : targets_fault o ≡ targets_fault m
  unfolding targets_fault any_segment_leaves any_start_leaves
  targets_fault-same =
      rw (
        any_below-same m.n (λ i. leaves_model m.n (segment_at o i).closer) (λ i. leaves_model m.n (segment_at m i).closer) (λ i l. ap (leaves_model m.n) (segments i l).closer),
        any_below-same m.t (λ k. not (ltb (start_at o k).first m.n)) (λ k. not (ltb (start_at m k).first m.n)) (λ k l. ap (λ (x : Start). not (ltb x.first m.n)) (starts k l)),
      )
      refl

  lack_fault-same : targets_fault m ≡ 0 → lack_fault o ≡ lack_fault m
  unfolding lack_fault
  lack_fault-same e =
      ap (λ (b : Bool). unless (not b) lacked_port)
      (any_below-same m.t (λ k. lacks_from o k (start_at o k).first) (λ k. lacks_from m k (start_at m k).first)
      (λ k l. ap (λ (x : Start). lacks_from o k x.first) (starts k l) ∙ lacks_from-same k (start_at m k).first l (targets_fault-first m e k l)))

  -- a first segment not below N is refused before what it lacks is asked
  links_fault-same : links_fault o ≡ links_fault m
  unfolding links_fault
  links_fault-same = rw targets_fault-same (go (ℕ_discrete (targets_fault m) 0))
    where
      go : Dec (targets_fault m ≡ 0) → or_else (targets_fault m) (lack_fault o) ≡ or_else (targets_fault m) (lack_fault m)
      go (yes e) = ap (or_else (targets_fault m)) (lack_fault-same e)
      go (no e) = or_else-some (targets_fault m) (lack_fault o) e ∙ sym (or_else-some (targets_fault m) (lack_fault m) e)

  pub model_fault-same : model_fault o ≡ model_fault m
  unfolding model_fault counts_fault
  model_fault-same = rw (segments_fault-same, starts_fault-same, links_fault-same) refl
