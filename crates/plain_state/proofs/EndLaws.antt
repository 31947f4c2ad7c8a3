-- A cycle from its beginning to the next, and the threads that it looks at.
--     due_all, due-idle     the threads of a cycle are all among those that are looked at
--     begins-start, ends-all, begins-next     before the loop, once the threads have run, and where the next cycle begins
--     Hull, hull-of     the threads that are looked at where a cycle ends
--     hull-woken, hull-ahead, hull-late     all other words stay as they are
--     due-narrow     the threads of the next delta
use Prim.Native.Nat.{ℕ, zero, suc, ◌+◌, ◌<◌, ◌≤◌}
use mathlib.Core.Path.{◌≡◌, sym, ◌∙◌, subst}
use mathlib.Core.Logic.{◌⊎◌, inl, inr}
use mathlib.Core.Bool.{Bool, true, false}
use mathlib.Core.List.{List}
use native.Mathlib.Omega.{arith}
use native.Mathlib.Decide.{ℕ_discrete, dec_lt}
use lib.ListN.{length, get_or, set, replicate, length-set, get_or-replicate}
use borrow.Author.Tests.{lt-ltb, le-ltb}
use lib.Seq.{get_or-set_same, get_or-set_other}
use Rattle.model.specs.Footprint.{has}
use Rattle.plain_words.specs.Unpack.{end_by}
use Rattle.plain_words.specs.Reach.{lesser_of, greater_of, Inside}
use Rattle.plain_words.specs.Shared.{Shared, execute_by}
use Rattle.plain_words.proofs.MarkLaws.{tells_none}
use Rattle.plain_words.proofs.ReachLaws.{lesser_of-≤, lesser_of-<, greater_of-≤, Wider, execute_by-wider}
use Rattle.plain_state.specs.Words.{span, close_word, wake_word}
use Rattle.plain_state.specs.Turn.{Locals, waited_by, ran_by, turn_on, turns_to}
use Rattle.plain_state.specs.Due.{Between, Late, WaitsFor, Woken, IsDue, Begins, Ends}
use Rattle.plain_state.proofs.DueLaws.{waits_for-word, wake_word-ahead, wake_word-waits, wake_word-still, close_word-waits, turn_on-or, turns_to-state, turns_to-past, waited_by-length, waited_by-keeps, waited_by-new}

pub due_all : (words : ℕ → List ℕ) (now budget : ℕ) (x y : Locals) (t from to : ℕ) → IsDue t x.state now from to → y ≡ turns_to words now budget to x → y ≡ turns_to words now budget t x
due_all words now budget x y t from to d e = e ∙ turns_to-past words now budget x to t d.inside (λ k l u q. let h = (d.due k u q).1 in omega arith)

pub due-idle : (t : ℕ) (ws : List ℕ) (now from to : ℕ) → IsDue t ws now from to → (k : ℕ) → k < from → get_or ws k 0 ≡ now → ⊥
due-idle t ws now from to d k h e =
    let a = d.order in
    let b = d.inside in
    let c = (d.due k (omega arith) e).0 in
    omega arith

pub begins-start : (t now from to : ℕ) (rs : List ℕ) → t ≤ 32 → length rs ≡ 66 → IsDue t (replicate 32 0) now from to → Begins t (replicate 32 0) (replicate 32 false) rs now from to
unfolding has
begins-start t now from to rs few size due =
    record {
      threads = due;
      size = size;
      awaited = λ k e h l w. let z : ◌≡◌ {A = ℕ} (get_or (replicate 32 0) k 0) 0 = get_or-replicate 32 k 0 0 (omega arith) in let (a, b) = waits_for-word (get_or (replicate 32 0) k 0) e w in absurd (omega arith);
      quiet = λ e h. let f : false ≡ true = sym (tells_none e) ∙ h in let z : ◌≡◌ {A = ℕ} 0 1 = cc in absurd (omega arith);
    }

set_view : (ws : List ℕ) (j w k : ℕ) → j < length ws → ((k ≡ j) × (get_or (set ws j w) k 0 ≡ w)) ⊎ ((k ≡ j → ⊥) × (get_or (set ws j w) k 0 ≡ get_or ws k 0))
set_view ws j w k h = go (ℕ_discrete k j)
  where
    go : Dec (k ≡ j) → ((k ≡ j) × (get_or (set ws j w) k 0 ≡ w)) ⊎ ((k ≡ j → ⊥) × (get_or (set ws j w) k 0 ≡ get_or ws k 0))
    go (yes e) = inl (e, rw e (get_or-set_same ws j w 0 h))
    go (no e) = inr (e, get_or-set_other ws j k w 0 e)

-- while the threads of a cycle run
record Runs (t now from to : ℕ) (x : Locals) : Type 0 where
  places : length x.state ≡ 32
  ends : Ends t x.state x.shared.told x.shared.ranges now from to

module _ (words : ℕ → List ℕ) (now budget t from to : ℕ) (few : t ≤ 32) (small : now < span) where
  module _ (x : Locals) (r : Runs t now from to x) (j : ℕ) (h : j < t) (here : Between from to j) where
    segment : ℕ
    segment = get_or x.segments j 0

    end : ℕ
    end = end_by (words j) segment

    after : Shared
    after = execute_by (words j) segment x.shared

    wider : Wider x.shared.told after.told x.shared.ranges after.ranges
    unfolding after
    wider = execute_by-wider (words j) x.shared r.ends.size segment

    view : (k : ℕ) → ((k ≡ j) × (get_or (set x.state j (close_word end now)) k 0 ≡ close_word end now)) ⊎ ((k ≡ j → ⊥) × (get_or (set x.state j (close_word end now)) k 0 ≡ get_or x.state k 0))
    view k = set_view x.state j (close_word end now) k (omega (arith, r.places))

    awaited-ran : (k e : ℕ) → k < t → e < 32 → WaitsFor (get_or (set x.state j (close_word end now)) k 0) e → Inside (waited_by end j after.ranges) e k
    awaited-ran k e l u w = go (view k)
      where
        go : ((k ≡ j) × (get_or (set x.state j (close_word end now)) k 0 ≡ close_word end now)) ⊎ ((k ≡ j → ⊥) × (get_or (set x.state j (close_word end now)) k 0 ≡ get_or x.state k 0)) →
            Inside (waited_by end j after.ranges) e k
        go (inl (q, f)) =
            let (a, b) = close_word-waits end now e small (subst (λ (y : ℕ). WaitsFor y e) f w) in
            subst (λ (i : ℕ). Inside (waited_by end j after.ranges) e i) (sym q) (waited_by-new end j after.ranges wider.size e a b)
        go (inr (q, f)) =
            waited_by-keeps end j after.ranges wider.size e k (omega arith)
            (wider.keeps e k (omega arith) (r.ends.awaited k e l u (subst (λ (y : ℕ). WaitsFor y e) f w)))

    told-ran : (k e : ℕ) → k < t → e < 32 → WaitsFor (get_or (set x.state j (close_word end now)) k 0) e → get_or after.told e false ≡ true →
        Between from to k ⊎ Inside (waited_by end j after.ranges) 32 k
    told-ran k e l u w m = go (view k)
      where
        kept : Inside after.ranges 32 k → Between from to k ⊎ Inside (waited_by end j after.ranges) 32 k
        kept i = inr (waited_by-keeps end j after.ranges wider.size 32 k (omega arith) i)

        before : Between from to k ⊎ Inside x.shared.ranges 32 k → Between from to k ⊎ Inside (waited_by end j after.ranges) 32 k
        before (inl b) = inl b
        before (inr i) = kept (wider.keeps 32 k (omega arith) i)

        marks : WaitsFor (get_or x.state k 0) e → (get_or x.shared.told e false ≡ true) ⊎ Inside after.ranges 32 k → Between from to k ⊎ Inside (waited_by end j after.ranges) 32 k
        marks v (inl q) = before (r.ends.told k e l u v q)
        marks v (inr i) = kept i

        go : ((k ≡ j) × (get_or (set x.state j (close_word end now)) k 0 ≡ close_word end now)) ⊎ ((k ≡ j → ⊥) × (get_or (set x.state j (close_word end now)) k 0 ≡ get_or x.state k 0)) →
            Between from to k ⊎ Inside (waited_by end j after.ranges) 32 k
        go (inl (q, f)) = inl (subst (Between from to) (sym q) here)
        go (inr (q, f)) =
            let v : WaitsFor (get_or x.state k 0) e = subst (λ (y : ℕ). WaitsFor y e) f w in
            marks v (wider.told e k u (r.ends.awaited k e l u v) m)

    late-ran : (k : ℕ) → k < t → Late (get_or (set x.state j (close_word end now)) k 0) → Between from to k
    late-ran k l w = go (view k)
      where
        go : ((k ≡ j) × (get_or (set x.state j (close_word end now)) k 0 ≡ close_word end now)) ⊎ ((k ≡ j → ⊥) × (get_or (set x.state j (close_word end now)) k 0 ≡ get_or x.state k 0)) → Between from to k
        go (inl (q, f)) = subst (Between from to) (sym q) here
        go (inr (q, f)) = r.ends.late k l (subst Late f w)

    runs-ran : Runs t now from to (ran_by words now j x)
    unfolding after end segment
    runs-ran =
        record {
          places = length-set x.state j (close_word end now) ∙ r.places;
          ends =
              record {
                order = r.ends.order;
                inside = r.ends.inside;
                size = waited_by-length end j after.ranges wider.size;
                awaited = awaited-ran;
                told = told-ran;
                late = late-ran;
              };
        }

  runs_on : (x : Locals) → Runs t now from to x → (j : ℕ) → j < t → (get_or x.state j 0 ≡ now → Between from to j) → Runs t now from to (turn_on words now budget j x)
  runs_on x r j h due = go (turn_on-or words now budget j x)
    where
      go : (x ≡ turn_on words now budget j x) ⊎ ((get_or x.state j 0 ≡ now) × (ran_by words now j x ≡ turn_on words now budget j x)) → Runs t now from to (turn_on words now budget j x)
      go (inl e) = subst (Runs t now from to) e r
      go (inr (d, e)) = subst (Runs t now from to) e (runs-ran x r j h (due d))

  runs_to : (x : Locals) → Runs t now from to x → ((k : ℕ) → k < t → get_or x.state k 0 ≡ now → Between from to k) → (j : ℕ) → j ≤ t → Runs t now from to (turns_to words now budget j x)
  unfolding turns_to
  runs_to x r due zero h = r
  runs_to x r due (suc j) h =
      runs_on (turns_to words now budget j x) (runs_to x r due j (omega arith)) j (omega arith)
      (λ q. due j (omega arith) (sym (turns_to-state words now budget x j j (omega arith)) ∙ q))

  pub ends-all : (x y : Locals) → length x.state ≡ 32 → Begins t x.state x.shared.told x.shared.ranges now from to → y ≡ turns_to words now budget t x →
      Ends t y.state y.shared.told y.shared.ranges now from to
  ends-all x y size b e =
      let r : Runs t now from to x =
      record {
        places = size;
        ends =
            record {
              order = b.threads.order;
              inside = b.threads.inside;
              size = b.size;
              awaited = b.awaited;
              told = λ k i l u w q. absurd (b.quiet i q);
              late = b.threads.late;
            };
      }
      in
      subst (λ (z : Locals). Ends t z.state z.shared.told z.shared.ranges now from to) (sym e) (runs_to x r b.threads.due t (omega arith)).ends

-- the threads from a on and before c: those that ran, and those that are reached
pub record Hull (t : ℕ) (rs : List ℕ) (from to a c : ℕ) : Type 0 where
  pub order : a ≤ c
  pub inside : c ≤ t
  pub wider : (k : ℕ) → Between from to k → Between a c k
  pub reached : (k : ℕ) → k < t → Inside rs 32 k → Between a c k

pub hull-of : (t : ℕ) (rs : List ℕ) (from to a b c : ℕ) → from ≤ to → to ≤ t → a ≡ lesser_of from (get_or rs 32 0) → b ≡ greater_of to (get_or rs 65 0) → c ≡ lesser_of t b → Hull t rs from to a c
hull-of t rs from to a b c h l ea eb ec =
    let (p, p') = lesser_of-≤ from (get_or rs 32 0) in
    let (q, q') = greater_of-≤ to (get_or rs 65 0) in
    let (s, s') = lesser_of-≤ t b in
    record {
      order = bound (dec_lt t b);
      inside = omega arith;
      wider = λ k u. (omega arith, omega (arith, lesser_of-< t b k (omega arith) (omega arith)));
      reached = λ k i u. (omega arith, omega (arith, lesser_of-< t b k i (omega arith)));
    }
  where
    bound : Dec (t < b) → a ≤ c
    bound (yes u) = let (p, p') = lesser_of-≤ from (get_or rs 32 0) in rw (ec, lt-ltb t b u) (omega arith)
    bound (no u) = let (p, p') = lesser_of-≤ from (get_or rs 32 0) in let (q, q') = greater_of-≤ to (get_or rs 65 0) in rw (ec, le-ltb t b (omega arith)) (omega arith)

module _ (t : ℕ) (ws : List ℕ) (fs : List Bool) (rs : List ℕ) (now from to a c : ℕ) (ends : Ends t ws fs rs now from to) (hull : Hull t rs from to a c)
    (small : now < span) (us : List ℕ) (r : ℕ) (woke : Woken fs now a c ws us r) where
  inside-or : (k : ℕ) → Dec (Between a c k)
  inside-or k = go (dec_lt k a) (dec_lt k c)
    where
      go : Dec (k < a) → Dec (k < c) → Dec (Between a c k)
      go (yes p) q = no (λ b. let d = b.0 in omega arith)
      go (no p) (yes q) = yes (omega arith, q)
      go (no p) (no q) = no (λ b. let d = b.1 in omega arith)

  pub hull-woken : (k : ℕ) → k < t → get_or us k 0 ≡ wake_word fs now (get_or ws k 0)
  hull-woken k l = go (inside-or k)
    where
      there : Between from to k ⊎ Inside rs 32 k → Between a c k
      there (inl b) = hull.wider k b
      there (inr i) = hull.reached k l i

      go : Dec (Between a c k) → get_or us k 0 ≡ wake_word fs now (get_or ws k 0)
      go (yes b) = woke.words k b
      go (no n) = woke.rest k n ∙ wake_word-still fs now small (get_or ws k 0) (λ e u w q. n (there (ends.told k e l u w q)))

  pub hull-ahead : ((k : ℕ) → k < t → now < get_or ws k 0) → (k : ℕ) → k < t → now < get_or us k 0
  hull-ahead ahead k l = rw (hull-woken k l) (wake_word-ahead fs now small (get_or ws k 0) (ahead k l))

  pub hull-late : (k : ℕ) → k < t → Late (get_or us k 0) → Between a c k
  hull-late k l w = go (inside-or k)
    where
      go : Dec (Between a c k) → Between a c k
      go (yes b) = b
      go (no n) = hull.wider k (ends.late k l (subst Late (woke.rest k n) w))

pub due-narrow : (t : ℕ) (ws : List ℕ) (least from to first past : ℕ) → to ≤ t → ((k : ℕ) → k < t → Late (get_or ws k 0) → Between from to k) → Late least →
    Between from (to + 1) first → ((k : ℕ) → Between from first k → Late (get_or ws k 0) → ⊥) → Between first (to + 1) past → ((k : ℕ) → Between past to k → Late (get_or ws k 0) → ⊥) →
    IsDue t ws least first past
due-narrow t ws least from to first past i late l (f, f') none (p, p') none' =
    record { order = p; inside = omega arith; due = λ k h e. at k h (subst Late (sym e) l); late = at }
  where
    at : (k : ℕ) → k < t → Late (get_or ws k 0) → Between first past k
    at k h w = go (dec_lt k first) (dec_lt k past) (late k h w)
      where
        go : Dec (k < first) → Dec (k < past) → Between from to k → Between first past k
        go (yes u) v (b, b') = absurd (none k (b, u) w)
        go (no u) (yes v) b = (omega arith, v)
        go (no u) (no v) (b, b') = absurd (none' k (omega arith, b') w)

-- the ranges of events are kept where a cycle begins; what was reached is forgotten
pub begins-next : (t : ℕ) (ws : List ℕ) (fs : List Bool) (rs : List ℕ) (now from to : ℕ) → Ends t ws fs rs now from to → now < span → (us : List ℕ) →
    ((k : ℕ) → k < t → get_or us k 0 ≡ wake_word fs now (get_or ws k 0)) → (now' from' to' : ℕ) → IsDue t us now' from' to' →
    Begins t us (replicate 32 false) (set (set rs 32 32) 65 0) now' from' to'
unfolding has
begins-next t ws fs rs now from to ends small us words now' from' to' due =
    record {
      threads = due;
      size = simp length-set ends.size;
      awaited = λ k e l u w. kept k e u (ends.awaited k e l u (wake_word-waits fs now small (get_or ws k 0) e (subst (λ (y : ℕ). WaitsFor y e) (words k l) w)));
      quiet = λ e h. let f : false ≡ true = sym (tells_none e) ∙ h in let z : ◌≡◌ {A = ℕ} 0 1 = cc in absurd (omega arith);
    }
  where
    place : (i : ℕ) → (i ≡ 32 → ⊥) → (i ≡ 65 → ⊥) → get_or (set (set rs 32 32) 65 0) i 0 ≡ get_or rs i 0
    place i p q = get_or-set_other (set rs 32 32) 65 i 0 0 q ∙ get_or-set_other rs 32 i 32 0 p

    kept : (k e : ℕ) → e < 32 → Inside rs e k → Inside (set (set rs 32 32) 65 0) e k
    kept k e u (a, b) = (omega (arith, place e (λ q. omega arith) (λ q. omega arith)), omega (arith, place (33 + e) (λ q. omega arith) (λ q. omega arith)))
