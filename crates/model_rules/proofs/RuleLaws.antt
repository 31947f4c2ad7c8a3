-- What a model that keeps the file rules is known to have: `model_fault m ≡ 0`, taken apart.
--     model_fault-horizon, model_fault-counts     the head and the counts
--     model_fault-statements, model_fault-closer, model_fault-op     each segment, each statement
--     model_fault-next, model_fault-first     each target
--     closer_fault-delay, closer_fault-event, closer_fault-..-choice, closer_fault-..-test, closer_fault-test     a closer without a fault
--     op_fault-writes, op_fault-reads, op_fault-notifies     a statement without a fault
--     leaves_model-time, leaves_model-event, closed_at-segment     the next segment is below N
--     model_fault-ports, model_fault-lacks     each thread's ports, and that it reaches none that it leaves unused
--     model_fault-writes, model_fault-uses, model_fault-notifies     a thread's segment names variables below V and events below E
use Prim.Native.Nat.{ℕ, zero, suc, ◌+◌, ◌-◌, ◌<◌, ◌≤◌}
use mathlib.Core.Path.{◌≡◌, refl, sym, ap, subst, ◌∙◌}
use mathlib.Core.Logic.{◌⊎◌, inl, inr}
use mathlib.Core.Bool.{Bool, true, false, not, ◌&&◌, ◌||◌, or-false}
use mathlib.Core.List.{List, []}
use native.Mathlib.Decide.{dec_le}
use native.Mathlib.Omega.{arith}
use lib.Dec.{T, T_not, ltb, leb, eqb, ltb→lt, leb→le, eqb→eq}
use lib.ListN.{length, get_or, length-take}
use lib.Seq.{get_or-take}
use Rattle.base.specs.Index.{any_below, or_else}
use Rattle.base.proofs.BoolLaws.{T→false, true→T, false→T, not-not, and→both, both→and, or→either, not-or→both, eq→eqb}
use Rattle.base.proofs.IndexLaws.{any_below-none, or_else-none, or_else-zero, first_below-zero}
use Rattle.clock.specs.declared.Cycle.{Cycle}
use Rattle.clock.specs.declared.Delay.{Delay}
use Rattle.model.specs.declared.Op.{Op}
use Rattle.model.specs.declared.Op.TheVariants.{Set, Add, Copy, AddVariable, SubVariable, Notify}
use Rattle.model.specs.declared.Next.{Next}
use Rattle.model.specs.declared.Closer.{Closer}
use Rattle.model.specs.declared.Closer.TheVariants.{End, Time, Event}
use Rattle.model.specs.declared.Segment.{Segment}
use Rattle.model.specs.declared.Model.{Model}
use Rattle.model.specs.Port.{unused, is_port, port_of, mapped, map_segment}
use Rattle.model.specs.Values.{no_statement, segment_at, segment_for, start_at, ports_at, body_of}
use Rattle.model.specs.Statement.{notified_by_op, notified_by}
use Rattle.model.specs.Limits.{largest_time}
use Rattle.model.specs.Effect.{next_of, closed_at}
use Rattle.model.specs.Footprint.{writes_op, reads_op, reads, tests_next, tests, writes_of, uses_of, writes_in, uses_in, has, names_port, notifies_in}
use Rattle.model.specs.Reach.{lacks_port, lacks_from}
use Rattle.model.specs.Rules.{unless, head_fault, choice_fault, test_fault, closer_fault, op_fault, statements_fault, segment_fault, segments_fault, counts_fault, leaves_model, any_segment_leaves, any_start_leaves, targets_fault, model_fault, is_name, ports_fault, starts_fault, lack_fault, links_fault}
use Rattle.model_effect.proofs.FootprintLaws.{asks_at, writes-asks, reads-asks, notifies-asks}
use Rattle.model_effect.proofs.EffectLaws.{delay_of, next_of-either}
use Rattle.model_effect.proofs.FrameLaws.{writes_in→uses_in}
use Rattle.model_effect.proofs.PortLaws.{mapped-port, mapped-below, listed_in-any, uses-mapped, closer-leads, closer-delay, closer-event}
use Rattle.model_reach.specs.Lacks.{HoldsLacks}
use Rattle.model_rules.specs.Asked.{parts_fault, Linked}
use Rattle.model_rules.proofs.FaultLaws.{unless-zero}

-- a rule whose number does not stand is kept
kept : (t : Bool) (x : ℕ) → 0 < x → unless t x ≡ 0 → T t
kept t x p h = true→T t (unless-zero t x (λ e. omega arith) h)

-- a head
module _ (h v e : ℕ) (fit : head_fault h v e ≡ 0) where
  head-kept : T (leb 1 h && leb h largest_time) × T (leb v 64 && leb e 32)
  unfolding head_fault
  head-kept =
      and→both (leb 1 h && leb h largest_time) (leb v 64 && leb e 32)
      (kept ((leb 1 h && leb h largest_time) && (leb v 64 && leb e 32)) 4 (omega arith) fit)

  pub head_fault-horizon : (1 ≤ h) × (h ≤ largest_time)
  head_fault-horizon = let (p, q) = and→both (leb 1 h) (leb h largest_time) head-kept.0 in (leb→le 1 h p, leb→le h largest_time q)

  pub head_fault-counts : (v ≤ 64) × (e ≤ 32)
  head_fault-counts = let (p, q) = and→both (leb v 64) (leb e 32) head-kept.1 in (leb→le v 64 p, leb→le e 32 q)

-- a closer
choice_fault-kept : (x : Next) → choice_fault x ≡ 0 → x.test ≡ 255 → (x.b ≡ x.a) × (x.limit ≡ 0)
unfolding choice_fault
choice_fault-kept x h t =
    let same = eqb x.b x.a && eqb x.limit 0 in
    go (or→either (not (eqb x.test 255)) same (kept (not (eqb x.test 255) || same) 5 (omega arith) h))
  where
    go : T (not (eqb x.test 255)) ⊎ T (eqb x.b x.a && eqb x.limit 0) → (x.b ≡ x.a) × (x.limit ≡ 0)
    go (inl n) = absurd (T_not (eqb x.test 255) n (eq→eqb x.test 255 t))
    go (inr b) = let (p, q) = and→both (eqb x.b x.a) (eqb x.limit 0) b in (eqb→eq x.b x.a p, eqb→eq x.limit 0 q)

-- what a number may name: a variable, or a port
abbrev pub Name : ℕ → ℕ → Type 0
Name v x = (x < v) ⊎ ((128 ≤ x) × (x < 136))

is_name-kept : (v x : ℕ) → T (is_name v x) → Name v x
unfolding is_name is_port
is_name-kept v x t = go (or→either (ltb x v) (leb 128 x && ltb x 136) t)
  where
    go : T (ltb x v) ⊎ T (leb 128 x && ltb x 136) → Name v x
    go (inl u) = inl (ltb→lt x v u)
    go (inr u) = let (p, q) = and→both (leb 128 x) (ltb x 136) u in inr (leb→le 128 x p, ltb→lt x 136 q)

module _ (v e : ℕ) where
  test_fault-kept : (x : Next) → test_fault v x ≡ 0 → (x.test ≡ 255) ⊎ Name v x.test
  unfolding test_fault
  test_fault-kept x h = go (or→either (eqb x.test 255) (is_name v x.test) (kept (eqb x.test 255 || is_name v x.test) 7 (omega arith) h))
    where
      go : T (eqb x.test 255) ⊎ T (is_name v x.test) → (x.test ≡ 255) ⊎ Name v x.test
      go (inl t) = inl (eqb→eq x.test 255 t)
      go (inr t) = inr (is_name-kept v x.test t)

  pub closer_fault-delay : (g : Closer) → closer_fault v e g ≡ 0 → delay_of g ≤ largest_time
  unfolding closer_fault
  closer_fault-delay End h = omega arith
  closer_fault-delay (Time k x) h = leb→le k.0 largest_time (kept (leb k.0 largest_time) 5 (omega arith) (or_else-zero _ _ h).0)
  closer_fault-delay (Event w x) h = omega arith

  pub closer_fault-event : (w : ℕ) (x : Next) → closer_fault v e (Event w x) ≡ 0 → w < e
  unfolding closer_fault
  closer_fault-event w x h = ltb→lt w e (kept (ltb w e) 7 (omega arith) (or_else-zero _ _ (or_else-zero _ _ h).1).0)

  pub closer_fault-time-choice : (k : Delay) (x : Next) → closer_fault v e (Time k x) ≡ 0 → x.test ≡ 255 → (x.b ≡ x.a) × (x.limit ≡ 0)
  unfolding closer_fault
  closer_fault-time-choice k x h = choice_fault-kept x (or_else-zero _ _ (or_else-zero _ _ h).1).0

  pub closer_fault-event-choice : (w : ℕ) (x : Next) → closer_fault v e (Event w x) ≡ 0 → x.test ≡ 255 → (x.b ≡ x.a) × (x.limit ≡ 0)
  unfolding closer_fault
  closer_fault-event-choice w x h = choice_fault-kept x (or_else-zero _ _ h).0

  pub closer_fault-time-test : (k : Delay) (x : Next) → closer_fault v e (Time k x) ≡ 0 → (x.test ≡ 255) ⊎ Name v x.test
  unfolding closer_fault
  closer_fault-time-test k x h = test_fault-kept x (or_else-zero _ _ (or_else-zero _ _ h).1).1

  pub closer_fault-event-test : (w : ℕ) (x : Next) → closer_fault v e (Event w x) ≡ 0 → (x.test ≡ 255) ⊎ Name v x.test
  unfolding closer_fault
  closer_fault-event-test w x h = test_fault-kept x (or_else-zero _ _ (or_else-zero _ _ h).1).1

  tested-below : (x : Next) (i : ℕ) → (x.test ≡ 255) ⊎ Name v x.test → T (tests_next x i) → Name v i
  unfolding tests_next
  tested-below x i (inl e) t = absurd (T_not (eqb x.test 255) (and→both (not (eqb x.test 255)) (eqb x.test i) t).0 (eq→eqb x.test 255 e))
  tested-below x i (inr l) t = subst (Name v) (eqb→eq x.test i (and→both (not (eqb x.test 255)) (eqb x.test i) t).1) l

  -- whichever the closer
  pub closer_fault-test : (g : Closer) (i : ℕ) → closer_fault v e g ≡ 0 → T (tests g i) → Name v i
  unfolding tests
  closer_fault-test End i h t = absurd t
  closer_fault-test (Time k x) i h t = tested-below x i (closer_fault-time-test k x h) t
  closer_fault-test (Event w x) i h t = tested-below x i (closer_fault-event-test w x h) t

  -- a statement
  event-kept : (a n i : ℕ) → unless (ltb a n) 7 ≡ 0 → T (eqb a i) → i < n
  event-kept a n i h t = let l = ltb→lt a n (kept (ltb a n) 7 (omega arith) h) in let q = eqb→eq a i t in omega arith

  name-kept : (a i : ℕ) → unless (is_name v a) 7 ≡ 0 → T (eqb a i) → Name v i
  name-kept a i h t = subst (Name v) (eqb→eq a i t) (is_name-kept v a (kept (is_name v a) 7 (omega arith) h))

  names-kept : (a b : ℕ) → unless (is_name v a && is_name v b) 7 ≡ 0 → Name v a × Name v b
  names-kept a b h =
      let (p, q) = and→both (is_name v a) (is_name v b) (kept (is_name v a && is_name v b) 7 (omega arith) h) in
      (is_name-kept v a p, is_name-kept v b q)

  first-name : (a b i : ℕ) → unless (is_name v a && is_name v b) 7 ≡ 0 → T (eqb a i) → Name v i
  first-name a b i h t = subst (Name v) (eqb→eq a i t) (names-kept a b h).0

  second-name : (a b i : ℕ) → unless (is_name v a && is_name v b) 7 ≡ 0 → T (eqb b i) → Name v i
  second-name a b i h t = subst (Name v) (eqb→eq b i t) (names-kept a b h).1

  either-name : (a b i : ℕ) → unless (is_name v a && is_name v b) 7 ≡ 0 → T (eqb a i || eqb b i) → Name v i
  either-name a b i h t = go (or→either (eqb a i) (eqb b i) t)
    where
      go : T (eqb a i) ⊎ T (eqb b i) → Name v i
      go (inl p) = first-name a b i h p
      go (inr p) = second-name a b i h p

  pub op_fault-writes : (o : Op) (i : ℕ) → op_fault v e o ≡ 0 → T (writes_op o i) → Name v i
  unfolding op_fault
  op_fault-writes (Set a b) i h t = name-kept a i h t
  op_fault-writes (Add a b) i h t = name-kept a i h t
  op_fault-writes (Copy a b) i h t = first-name a b i h t
  op_fault-writes (AddVariable a b) i h t = first-name a b i h t
  op_fault-writes (SubVariable a b) i h t = first-name a b i h t
  op_fault-writes (Notify w) i h t = absurd t

  pub op_fault-reads : (o : Op) (i : ℕ) → op_fault v e o ≡ 0 → T (reads_op o i) → Name v i
  unfolding op_fault
  op_fault-reads (Set a b) i h t = absurd t
  op_fault-reads (Add a b) i h t = name-kept a i h t
  op_fault-reads (Copy a b) i h t = second-name a b i h t
  op_fault-reads (AddVariable a b) i h t = either-name a b i h t
  op_fault-reads (SubVariable a b) i h t = either-name a b i h t
  op_fault-reads (Notify w) i h t = absurd t

  pub op_fault-notifies : (w : ℕ) → op_fault v e (Notify w) ≡ 0 → w < e
  unfolding op_fault
  op_fault-notifies w h = ltb→lt w e (kept (ltb w e) 7 (omega arith) h)

  -- whichever the operation
  op_fault-lists : (o : Op) (w : ℕ) → op_fault v e o ≡ 0 → T (has (notified_by_op o []) w) → w < e
  unfolding op_fault has
  op_fault-lists (Set a b) w h t = absurd t
  op_fault-lists (Add a b) w h t = absurd t
  op_fault-lists (Copy a b) w h t = absurd t
  op_fault-lists (AddVariable a b) w h t = absurd t
  op_fault-lists (SubVariable a b) w h t = absurd t
  op_fault-lists (Notify x) w h t = event-kept x e w h (rw or-false at t)

-- targets
module _ (n : ℕ) where
  next-kept : (a b : ℕ) → not (ltb a n && ltb b n) ≡ false → (a < n) × (b < n)
  next-kept a b h = go (ltb a n && ltb b n) refl
    where
      go : (t : Bool) → ltb a n && ltb b n ≡ t → (a < n) × (b < n)
      go true e =
          let (p, q) = and→both (ltb a n) (ltb b n) (true→T (ltb a n && ltb b n) e) in
          (ltb→lt a n p, ltb→lt b n q)
      go false e = absurd (false→T true (rw e at h))

  pub leaves_model-time : (k : Delay) (x : Next) → leaves_model n (Time k x) ≡ false → (x.a < n) × (x.b < n)
  unfolding leaves_model
  leaves_model-time k x h = next-kept x.a x.b h

  pub leaves_model-event : (w : ℕ) (x : Next) → leaves_model n (Event w x) ≡ false → (x.a < n) × (x.b < n)
  unfolding leaves_model
  leaves_model-event w x h = next-kept x.a x.b h

  next_of-kept : (x : Next) (v : List ℕ) → (x.a < n) × (x.b < n) → next_of x v < n
  next_of-kept x v (p, q) = go (next_of-either x v)
    where
      go : (next_of x v ≡ x.a) ⊎ (next_of x v ≡ x.b) → next_of x v < n
      go (inl e) = omega arith
      go (inr e) = omega arith

  -- a thread that closes in the model stays in it
  pub closed_at-segment : (s : ℕ) (g : Closer) (c : Cycle) (v : List ℕ) → s < n → leaves_model n g ≡ false → (closed_at s g c v).segment < n
  unfolding closed_at
  closed_at-segment s End c v l h = l
  closed_at-segment s (Time k x) c v l h = next_of-kept x v (leaves_model-time k x h)
  closed_at-segment s (Event w x) c v l h = next_of-kept x v (leaves_model-event w x h)

-- a segment
module _ (v e : ℕ) (g : Segment) (fit : segment_fault v e g ≡ 0) where
  pub segment_fault-statements : g.n ≤ 32
  unfolding segment_fault
  segment_fault-statements = leb→le g.n 32 (kept (leb g.n 32) 3 (omega arith) (or_else-zero _ _ fit).0)

  pub segment_fault-closer : closer_fault v e g.closer ≡ 0
  unfolding segment_fault
  segment_fault-closer = (or_else-zero _ _ (or_else-zero _ _ fit).1).0

  pub segment_fault-op : (j : ℕ) → j < g.n → op_fault v e (get_or g.statements j no_statement).op ≡ 0
  unfolding segment_fault statements_fault
  segment_fault-op j h = first_below-zero g.n _ (or_else-zero _ _ (or_else-zero _ _ fit).1).1 j h

  body-op : (j : ℕ) → j < length (body_of g) → op_fault v e (get_or (body_of g) j no_statement).op ≡ 0
  unfolding body_of
  body-op j h =
      let l : j < g.n = omega (arith, length-take g.n g.statements) in
      rw (get_or-take g.n g.statements j no_statement l) (segment_fault-op j l)

  pub segment_fault-writes : (i : ℕ) → T (writes_of g i) → Name v i
  unfolding writes_of
  segment_fault-writes i t = let (j, l, w) = asks_at (writes-asks i) (body_of g) t in op_fault-writes v e _ i (body-op j l) w

  segment_fault-reads : (i : ℕ) → T (reads (body_of g) i) → Name v i
  segment_fault-reads i t = let (j, l, w) = asks_at (reads-asks i) (body_of g) t in op_fault-reads v e _ i (body-op j l) w

  pub segment_fault-uses : (i : ℕ) → T (uses_of g i) → Name v i
  unfolding uses_of
  segment_fault-uses i t = go (or→either (writes_of g i || reads (body_of g) i) (tests g.closer i) t)
    where
      body : T (writes_of g i) ⊎ T (reads (body_of g) i) → Name v i
      body (inl u) = segment_fault-writes i u
      body (inr u) = segment_fault-reads i u

      go : T (writes_of g i || reads (body_of g) i) ⊎ T (tests g.closer i) → Name v i
      go (inl u) = body (or→either (writes_of g i) (reads (body_of g) i) u)
      go (inr u) = closer_fault-test v e g.closer i segment_fault-closer u

  pub segment_fault-notifies : (w : ℕ) → T (has (notified_by (body_of g)) w) → w < e
  segment_fault-notifies w t = let (j, l, u) = asks_at (notifies-asks w) (body_of g) t in op_fault-lists v e _ w (body-op j l) u

-- a model's counts, in range
pub record Counts (m : Model) : Type 0 where
  pub variables : m.v ≤ 64
  pub events : m.e ≤ 32
  pub some_segment : 1 ≤ m.n
  pub segments : m.n ≤ 64
  pub some_thread : 1 ≤ m.t
  pub threads : m.t ≤ 32

-- each part of the rules by itself
module _ (m : Model) where
  segment-kept : segments_fault m ≡ 0 → (i : ℕ) → i < m.n → or_else (unless (ltb i 64) 4) (segment_fault m.v m.e (segment_at m i)) ≡ 0
  unfolding segments_fault
  segment-kept h i l = first_below-zero m.n _ h i l

  pub segments_fault-few : segments_fault m ≡ 0 → m.n ≤ 64
  segments_fault-few h = go (dec_le m.n 64)
    where
      go : Dec (m.n ≤ 64) → m.n ≤ 64
      go (yes l) = l
      go (no l) = absurd (kept (ltb 64 64) 4 (omega arith) (or_else-zero _ _ (segment-kept h 64 (omega arith))).0)

  start-kept : counts_fault m ≡ 0 → (k : ℕ) → k < m.t → or_else (unless (ltb k 32) 4) (ports_fault m.v (ports_at m k)) ≡ 0
  unfolding counts_fault starts_fault
  start-kept h k l = first_below-zero m.t _ (or_else-zero _ _ (or_else-zero _ _ h).1).1 k l

  pub counts_fault-few : counts_fault m ≡ 0 → m.t ≤ 32
  counts_fault-few h = go (dec_le m.t 32)
    where
      go : Dec (m.t ≤ 32) → m.t ≤ 32
      go (yes l) = l
      go (no l) = absurd (kept (ltb 32 32) 4 (omega arith) (or_else-zero _ _ (start-kept h 32 (omega arith))).0)

  target-kept : targets_fault m ≡ 0 → T (not (any_segment_leaves m)) × T (not (any_start_leaves m))
  unfolding targets_fault
  target-kept h = not-or→both (any_segment_leaves m) (any_start_leaves m) (kept (not (any_segment_leaves m || any_start_leaves m)) 8 (omega arith) h)

  pub targets_fault-first : targets_fault m ≡ 0 → (k : ℕ) → k < m.t → (start_at m k).first < m.n
  unfolding any_start_leaves
  targets_fault-first h k l = ltb→lt (start_at m k).first m.n (not-not (ltb (start_at m k).first m.n) (any_below-none m.t _ (target-kept h).1 k l))

-- all but 18, then 18
or_else-assoc : (a b c : ℕ) → or_else a (or_else b c) ≡ or_else (or_else a b) c
unfolding or_else
or_else-assoc zero b c = refl
or_else-assoc (suc a) b c = refl

pub model_fault-parts : (m : Model) → model_fault m ≡ or_else (parts_fault m) (lack_fault m)
unfolding model_fault links_fault parts_fault
model_fault-parts m =
    let h = head_fault m.horizon.0 m.v m.e in
    ap (or_else h) (ap (or_else (segments_fault m)) (or_else-assoc (counts_fault m) (targets_fault m) (lack_fault m)))
    ∙ (ap (or_else h) (or_else-assoc (segments_fault m) (or_else (counts_fault m) (targets_fault m)) (lack_fault m))
    ∙ or_else-assoc h (or_else (segments_fault m) (or_else (counts_fault m) (targets_fault m))) (lack_fault m))

pub parts-linked : (m : Model) {ws : List ℕ} → parts_fault m ≡ 0 → HoldsLacks m ws → Linked m ws
unfolding parts_fault
parts-linked m h holds =
    let (segments, rest) = or_else-zero (segments_fault m) _ (or_else-zero (head_fault m.horizon.0 m.v m.e) _ h).1 in
    let (counts, targets) = or_else-zero (counts_fault m) _ rest in
    record { holds = holds; segments = segments_fault-few m segments; threads = counts_fault-few m counts; first = targets_fault-first m targets }

pub parts-broken : (m : Model) → (parts_fault m ≡ 0 → ⊥) → model_fault m ≡ 0 → ⊥
parts-broken m h e = h (or_else-zero (parts_fault m) (lack_fault m) (sym (model_fault-parts m) ∙ e)).0

pub lack-broken : (m : Model) → (lack_fault m ≡ 0 → ⊥) → model_fault m ≡ 0 → ⊥
lack-broken m h e = h (or_else-zero (parts_fault m) (lack_fault m) (sym (model_fault-parts m) ∙ e)).1

pub parts_whole : (m : Model) → parts_fault m ≡ 0 → lack_fault m ≡ 0 → model_fault m ≡ 0
parts_whole m h l = model_fault-parts m ∙ (or_else-none (parts_fault m) (lack_fault m) h ∙ l)

module _ (m : Model) (fit : model_fault m ≡ 0) where
  segments-kept : segments_fault m ≡ 0
  unfolding model_fault
  segments-kept = (or_else-zero _ _ (or_else-zero _ _ fit).1).0

  counts-kept : counts_fault m ≡ 0
  unfolding model_fault
  counts-kept = (or_else-zero _ _ (or_else-zero _ _ (or_else-zero _ _ fit).1).1).0

  links-kept : (targets_fault m ≡ 0) × (lack_fault m ≡ 0)
  unfolding model_fault links_fault
  links-kept = or_else-zero _ _ (or_else-zero _ _ (or_else-zero _ _ (or_else-zero _ _ fit).1).1).1

  pub model_fault-head : head_fault m.horizon.0 m.v m.e ≡ 0
  unfolding model_fault
  model_fault-head = (or_else-zero _ _ fit).0

  pub model_fault-horizon : (1 ≤ m.horizon.0) × (m.horizon.0 ≤ largest_time)
  model_fault-horizon = head_fault-horizon m.horizon.0 m.v m.e model_fault-head

  pub model_fault-counts : Counts m
  unfolding counts_fault
  model_fault-counts =
      let (v, e) = head_fault-counts m.horizon.0 m.v m.e model_fault-head in
      let (n, rest) = or_else-zero (unless (leb 1 m.n) 2) _ counts-kept in
      let t = (or_else-zero (unless (leb 1 m.t) 2) _ rest).0 in
      record {
        variables = v;
        events = e;
        some_segment = leb→le 1 m.n (kept (leb 1 m.n) 2 (omega arith) n);
        segments = segments_fault-few m segments-kept;
        some_thread = leb→le 1 m.t (kept (leb 1 m.t) 2 (omega arith) t);
        threads = counts_fault-few m counts-kept;
      }

  pub model_fault-segment : (i : ℕ) → i < m.n → segment_fault m.v m.e (segment_at m i) ≡ 0
  model_fault-segment i l = (or_else-zero _ _ (segment-kept m segments-kept i l)).1

  pub model_fault-statements : (i : ℕ) → i < m.n → (segment_at m i).n ≤ 32
  model_fault-statements i l = segment_fault-statements m.v m.e (segment_at m i) (model_fault-segment i l)

  pub model_fault-closer : (i : ℕ) → i < m.n → closer_fault m.v m.e (segment_at m i).closer ≡ 0
  model_fault-closer i l = segment_fault-closer m.v m.e (segment_at m i) (model_fault-segment i l)

  pub model_fault-op : (i j : ℕ) → i < m.n → j < (segment_at m i).n → op_fault m.v m.e (get_or (segment_at m i).statements j no_statement).op ≡ 0
  model_fault-op i j l h = segment_fault-op m.v m.e (segment_at m i) (model_fault-segment i l) j h

  pub model_fault-next : (i : ℕ) → i < m.n → leaves_model m.n (segment_at m i).closer ≡ false
  unfolding any_segment_leaves
  model_fault-next i l = T→false _ (any_below-none m.n _ (target-kept m links-kept.0).0 i l)

  pub model_fault-first : (k : ℕ) → k < m.t → (start_at m k).first < m.n
  model_fault-first k l = targets_fault-first m links-kept.0 k l

  -- a port of thread k: unused, or a variable
  pub model_fault-ports : (k p : ℕ) → k < m.t → p < 8 → (port_of (ports_at m k) p ≡ unused) ⊎ (port_of (ports_at m k) p < m.v)
  unfolding ports_fault
  model_fault-ports k p l h = go (or→either (eqb x unused) (ltb x m.v) (not-not (named p) (any_below-none 8 (λ p. not (named p)) all p h)))
    where
      x : ℕ
      x = port_of (ports_at m k) p

      named : ℕ → Bool
      named p = eqb (port_of (ports_at m k) p) unused || ltb (port_of (ports_at m k) p) m.v

      all : T (not (any_below 8 (λ p. not (named p))))
      all = kept (not (any_below 8 (λ p. not (named p)))) 17 (omega arith) (or_else-zero _ _ (start-kept m counts-kept k l)).1

      go : T (eqb x unused) ⊎ T (ltb x m.v) → (x ≡ unused) ⊎ (x < m.v)
      go (inl t) = inl (eqb→eq x unused t)
      go (inr t) = inr (ltb→lt x m.v t)

  -- no thread can reach a port that it leaves unused
  pub model_fault-lacks : (k : ℕ) → k < m.t → lacks_from m k (start_at m k).first ≡ false
  unfolding lack_fault
  model_fault-lacks k l = T→false (lacking k) (any_below-none m.t lacking (kept (not (any_below m.t lacking)) 18 (omega arith) links-kept.1) k l)
    where
      lacking : ℕ → Bool
      lacking k = lacks_from m k (start_at m k).first

  -- segment s as thread k runs it
  module _ (k s : ℕ) (l : s < m.n) where
    pub segment_for-delay : delay_of (segment_for m k s).closer ≤ largest_time
    unfolding segment_for map_segment
    segment_for-delay = rw (closer-delay (ports_at m k) (segment_at m s).closer) (closer_fault-delay m.v m.e (segment_at m s).closer (model_fault-closer s l))

    pub segment_for-event : (w : ℕ) (x : Next) → (segment_for m k s).closer ≡ Event w x → w < m.e
    unfolding segment_for map_segment
    segment_for-event w x e =
        let (y, f) = closer-event (ports_at m k) (segment_at m s).closer w x e in
        closer_fault-event m.v m.e w y (rw f at (model_fault-closer s l))

    pub segment_for-next : leaves_model m.n (segment_for m k s).closer ≡ false
    unfolding segment_for map_segment
    segment_for-next = closer-leads (ports_at m k) m.n (segment_at m s).closer ∙ model_fault-next s l

    pub model_fault-notifies : (w : ℕ) → T (notifies_in m k s w) → w < m.e
    unfolding notifies_in
    model_fault-notifies w t = segment_fault-notifies m.v m.e (segment_at m s) (model_fault-segment s l) w (rw (listed_in-any m k s) at t)

    -- where thread k uses every port that the segment names, what it names is a variable
    module _ (below : k < m.t) (has-ports : lacks_port m k s ≡ false) where
      named-port : (a : ℕ) → T (uses_of (segment_at m s) a) → 128 ≤ a → a < 136 → mapped (ports_at m k) a < m.v
      unfolding lacks_port names_port
      named-port a t h b = rw (mapped-port (ports_at m k) a h b) (go (model_fault-ports k (a - 128) below (omega arith)))
        where
          same : 128 + (a - 128) ≡ a
          same = omega arith

          go : (port_of (ports_at m k) (a - 128) ≡ unused) ⊎ (port_of (ports_at m k) (a - 128) < m.v) → port_of (ports_at m k) (a - 128) < m.v
          go (inr u) = u
          go (inl e) = absurd (T_not (lacking (a - 128)) (any_below-none 8 lacking (false→T (any_below 8 lacking) has-ports) (a - 128) (omega arith)) (here e))
            where
              lacking : ℕ → Bool
              lacking p = uses_of (segment_at m s) (128 + p) && eqb (port_of (ports_at m k) p) unused

              here : port_of (ports_at m k) (a - 128) ≡ unused → T (lacking (a - 128))
              here e =
                  both→and (uses_of (segment_at m s) (128 + (a - 128))) (eqb (port_of (ports_at m k) (a - 128)) unused) (rw same t)
                  (eq→eqb (port_of (ports_at m k) (a - 128)) unused e)

      name_below : (a i : ℕ) → T (uses_of (segment_at m s) a) → mapped (ports_at m k) a ≡ i → i < m.v
      name_below a i t e = rw (← e) (go (segment_fault-uses m.v m.e (segment_at m s) (model_fault-segment s l) a t))
        where
          go : Name m.v a → mapped (ports_at m k) a < m.v
          go (inl u) = let few = model_fault-counts.variables in rw (mapped-below (ports_at m k) a (omega arith)) u
          go (inr u) = named-port a t u.0 u.1

      pub model_fault-uses : (i : ℕ) → T (uses_in m k s i) → i < m.v
      unfolding uses_in segment_for
      model_fault-uses i t = let (a, u, e) = uses-mapped (ports_at m k) (segment_at m s) i t in name_below a i u e

      pub model_fault-writes : (i : ℕ) → T (writes_in m k s i) → i < m.v
      model_fault-writes i t = model_fault-uses i (writes_in→uses_in m k s i t)
