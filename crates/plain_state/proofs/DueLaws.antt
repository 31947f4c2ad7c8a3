-- Which threads a cycle has to look at: the least of some words, words that wake, threads that run.
--     least-none, least_more, least-stored     a loop over some words
--     least-word, least-all, least-near     the least of all words, from the parts; and from one part that has the next delta
--     none_more, none-less     a search for threads ready at a delta after 0
--     is_late-so, is_late-not     the test for a delta after 0
--     waits_for-word     where a word of a thread that waits stands
--     wake_word-ahead, wake_word-waits, wake_word-still     a word at the end of a cycle
--     close_word-waits     a segment that closes by a wait
--     turns_to-idle, turns_to-past     threads that are not due are passed over
--     waited_by-keeps, waited_by-new     a thread that waits widens its event's range
use Prim.Native.Nat.{ℕ, zero, suc, ◌+◌, ◌-◌, ◌*◌, ◌/◌, ◌%◌, ◌<◌, ◌≤◌}
use mathlib.Core.Path.{◌≡◌, refl, ap, sym, ◌∙◌, subst}
use mathlib.Core.Logic.{◌⊎◌, inl, inr}
use mathlib.Core.Bool.{Bool, true, false, cond, not, ◌&&◌}
use mathlib.Core.List.{List}
use native.Mathlib.Omega.{arith}
use native.Mathlib.Decide.{ℕ_discrete, dec_lt}
use lib.Dec.{ltb, eqb}
use lib.ListN.{length, get_or, set}
use lib.Seq.{get_or-set_same, get_or-set_other}
use borrow.Author.Tests.{lt-ltb, le-ltb, eq-eqb, ne_eqb}
use Rattle.model.specs.Record.{Awaited, nothing, awaits, awaited_by}
use Rattle.plain_words.specs.Unpack.{end_by}
use Rattle.plain_words.specs.Reach.{lesser_of, Inside, widened}
use Rattle.plain_words.proofs.ReachLaws.{widened-length, widened-new, widened-keeps}
use Rattle.plain_state.specs.Words.{waiting, ended, overrun, span, cycle_from, state_from, next_word, close_word, is_told, wake_word, least_word}
use Rattle.plain_state.specs.Turn.{Locals, waited_by, ran_by, turn_on, turns_to}
use Rattle.plain_state.specs.Due.{Between, Late, WaitsFor, IsLeast}
use Rattle.plain_state.proofs.ExitLaws.{next_word-ready, next_word-overrun, close_word-over, close_word-event, close_word-zero-wait, close_word-timed-wait, awaited-ready, awaited-over, awaited-waiting, wake_word-ready, wake_word-over, wake_word-unmarked, turn_on-passed}
use Rattle.plain_state.proofs.LeastLaws.{least_word-≤, least_word-most, least_word-one}

-- the greatest word
abbrev most : ℕ
most = 18446744073709551615

pub least-none : (ws : List ℕ) (from start : ℕ) → IsLeast ws from from start start
least-none ws from start = record { below = omega arith; each = λ k h. absurd (omega arith); one = inl refl }

module _ (ws : List ℕ) (from k start b : ℕ) (h : from ≤ k) (l : IsLeast ws from k start b) where
  pub least_more : (r : ℕ) → r ≡ lesser_of (get_or ws k 0) b → IsLeast ws from (k + 1) start r
  least_more r e = go (dec_lt (get_or ws k 0) b)
    where
      at : (x : ℕ) → x ≤ get_or ws k 0 → x ≤ b → (j : ℕ) → Between from (k + 1) j → x ≤ get_or ws j 0
      at x p q j (u, u') = go (ℕ_discrete j k)
        where
          go : Dec (j ≡ k) → x ≤ get_or ws j 0
          go (yes i) = rw i p
          go (no i) = omega (arith, l.each j (u, omega arith))

      wider : (b ≡ start) ⊎ ((j : ℕ) × (Between from k j) × (b ≡ get_or ws j 0)) → (b ≡ start) ⊎ ((j : ℕ) × (Between from (k + 1) j) × (b ≡ get_or ws j 0))
      wider (inl q) = inl q
      wider (inr (j, (u, u'), q)) = inr (j, (u, omega arith), q)

      go : Dec (get_or ws k 0 < b) → IsLeast ws from (k + 1) start r
      go (yes p) =
          let f : r ≡ get_or ws k 0 = e ∙ rw (lt-ltb (get_or ws k 0) b p) refl in
          rw f (record { below = omega (arith, l.below); each = at (get_or ws k 0) (omega arith) (omega arith); one = inr (k, (h, omega arith), refl) })
      go (no p) =
          let f : r ≡ b = e ∙ rw (le-ltb (get_or ws k 0) b (omega arith)) refl in
          rw f (record { below = l.below; each = at b (omega arith) (omega arith); one = wider l.one })

least-set : (ws : List ℕ) (from k start b x : ℕ) → IsLeast ws from k start b → IsLeast (set ws k x) from k start b
least-set ws from k start b x l =
    record {
      below = l.below;
      each = λ j h. rw (get_or-set_other ws k j x 0 (λ q. omega arith)) (l.each j h);
      one = go l.one;
    }
  where
    go : (b ≡ start) ⊎ ((j : ℕ) × (Between from k j) × (b ≡ get_or ws j 0)) → (b ≡ start) ⊎ ((j : ℕ) × (Between from k j) × (b ≡ get_or (set ws k x) j 0))
    go (inl q) = inl q
    go (inr (j, (u, u'), q)) = inr (j, (u, u'), q ∙ sym (get_or-set_other ws k j x 0 (λ p. omega arith)))

-- for the code: a word is stored, and the least with it
pub least-stored : (ws : List ℕ) (from k start b x r : ℕ) → from ≤ k → k < length ws → IsLeast ws from k start b → r ≡ lesser_of x b → IsLeast (set ws k x) from (k + 1) start r
least-stored ws from k start b x r h l i e =
    least_more (set ws k x) from k start b h (least-set ws from k start b x i) r (e ∙ ap (λ (y : ℕ). lesser_of y b) (sym (get_or-set_same ws k x 0 l)))

pub least-word : (ws : List ℕ) (t r : ℕ) → IsLeast ws 0 t most r → r ≡ least_word t ws
least-word ws t r l = go l.one (least_word-one t ws)
  where
    go : (r ≡ most) ⊎ ((k : ℕ) × (Between 0 t k) × (r ≡ get_or ws k 0)) → (least_word t ws ≡ most) ⊎ ((k : ℕ) × (k < t) × (least_word t ws ≡ get_or ws k 0)) → r ≡ least_word t ws
    go (inl p) (inl q) = p ∙ sym q
    go (inr (k, (u, u'), p)) (inl q) = let a = least_word-≤ t ws k u' in let b = l.below in omega arith
    go (inl p) (inr (j, v, q)) = let c = l.each j (omega arith, v) in let d = least_word-most t ws in omega arith
    go (inr (k, (u, u'), p)) (inr (j, v, q)) = let a = least_word-≤ t ws k u' in let c = l.each j (omega arith, v) in omega arith

module _ (ws : List ℕ) (from to t near : ℕ) (h : from ≤ to) (i : to ≤ t) (l : IsLeast ws from to most near) where
  -- the threads before, and those past
  pub least-all : (b r : ℕ) → IsLeast ws 0 from near b → IsLeast ws to t b r → r ≡ least_word t ws
  least-all b r p q = least-word ws t r (record { below = omega (arith, p.below, q.below, l.below); each = each; one = one q.one p.one l.one })
    where
      each : (k : ℕ) → Between 0 t k → r ≤ get_or ws k 0
      each k (u, u') = go (dec_lt k from) (dec_lt k to)
        where
          go : Dec (k < from) → Dec (k < to) → r ≤ get_or ws k 0
          go (yes a) c = omega (arith, p.each k (u, a), q.below)
          go (no a) (yes c) = omega (arith, l.each k (omega arith, c), p.below, q.below)
          go (no a) (no c) = omega (arith, q.each k (omega arith, u'))

      one : (r ≡ b) ⊎ ((k : ℕ) × (Between to t k) × (r ≡ get_or ws k 0)) → (b ≡ near) ⊎ ((k : ℕ) × (Between 0 from k) × (b ≡ get_or ws k 0)) →
          (near ≡ most) ⊎ ((k : ℕ) × (Between from to k) × (near ≡ get_or ws k 0)) → (r ≡ most) ⊎ ((k : ℕ) × (Between 0 t k) × (r ≡ get_or ws k 0))
      one (inr (k, (u, u'), e)) y z = inr (k, (omega arith, u'), e)
      one (inl d) (inr (k, (u, u'), e)) z = inr (k, (u, omega arith), d ∙ e)
      one (inl d) (inl e) (inr (k, (u, u'), f)) = inr (k, (omega arith, omega arith), d ∙ (e ∙ f))
      one (inl d) (inl e) (inl f) = inl (d ∙ (e ∙ f))

  -- no word is before the next delta, and this part has it
  pub least-near : (now : ℕ) → now < span → ((k : ℕ) → k < t → now < get_or ws k 0) → near ≡ now + 1 → near ≡ least_word t ws
  least-near now s ahead e = least-word ws t near (record { below = l.below; each = λ k h. let a = ahead k h.1 in omega arith; one = go l.one })
    where
      go : (near ≡ most) ⊎ ((k : ℕ) × (Between from to k) × (near ≡ get_or ws k 0)) → (near ≡ most) ⊎ ((k : ℕ) × (Between 0 t k) × (near ≡ get_or ws k 0))
      go (inl q) = absurd (omega arith)
      go (inr (k, (u, u'), f)) = inr (k, (omega arith, omega arith), f)

-- the test for a delta after 0
module _ (w : ℕ) where
  pub is_late-so : ltb w waiting && not (eqb (w % 1024) 0) ≡ true → Late w
  is_late-so e = go (dec_lt w waiting) (ℕ_discrete (w % 1024) 0)
    where
      go : Dec (w < waiting) → Dec (w % 1024 ≡ 0) → Late w
      go (yes h) (no z) = (h, omega arith)
      go (yes h) (yes z) = let f : false ≡ true = rw (lt-ltb w waiting h, eq-eqb (w % 1024) 0 z) at e in let q : ◌≡◌ {A = ℕ} 0 1 = cc in absurd (omega arith)
      go (no h) z = let f : false ≡ true = rw (le-ltb w waiting (omega arith)) at e in let q : ◌≡◌ {A = ℕ} 0 1 = cc in absurd (omega arith)

  pub is_late-not : ltb w waiting && not (eqb (w % 1024) 0) ≡ false → Late w → ⊥
  is_late-not e (h, z) =
      let f : true ≡ false = rw (lt-ltb w waiting h, ne_eqb (w % 1024) 0 (λ q. omega arith)) at e in let q : ◌≡◌ {A = ℕ} 0 1 = cc in absurd (omega arith)

  -- for the code
  pub is_late-ready : w < waiting → not (eqb (w % 1024) 0) ≡ ltb w waiting && not (eqb (w % 1024) 0)
  is_late-ready h = rw (lt-ltb w waiting h) refl

  pub is_late-other : waiting ≤ w → false ≡ ltb w waiting && not (eqb (w % 1024) 0)
  is_late-other h = rw (le-ltb w waiting h) refl

-- none of some threads is late, and one more is not
pub none_more : (ws : List ℕ) (from k : ℕ) → ((i : ℕ) → Between from k i → Late (get_or ws i 0) → ⊥) → (Late (get_or ws k 0) → ⊥) → (i : ℕ) → Between from (k + 1) i → Late (get_or ws i 0) → ⊥
none_more ws from k f g i (u, u') l = go (ℕ_discrete i k)
  where
    go : Dec (i ≡ k) → ⊥
    go (yes e) = g (subst (λ (j : ℕ). Late (get_or ws j 0)) e l)
    go (no e) = f i (u, omega arith) l

pub none-less : (ws : List ℕ) (k to : ℕ) → ((i : ℕ) → Between k to i → Late (get_or ws i 0) → ⊥) → (Late (get_or ws (k - 1) 0) → ⊥) → (i : ℕ) → Between (k - 1) to i → Late (get_or ws i 0) → ⊥
none-less ws k to f g i (u, u') l = go (ℕ_discrete i (k - 1))
  where
    go : Dec (i ≡ k - 1) → ⊥
    go (yes e) = g (subst (λ (j : ℕ). Late (get_or ws j 0)) e l)
    go (no e) = f i (omega arith, u') l

pub outside : (from to k : ℕ) → (Between from to k → ⊥) → (k < from) ⊎ (to ≤ k)
outside from to k n = go (dec_lt k from) (dec_lt k to)
  where
    go : Dec (k < from) → Dec (k < to) → (k < from) ⊎ (to ≤ k)
    go (yes a) b = inl a
    go (no a) (yes b) = absurd (n (omega arith, b))
    go (no a) (no b) = inr (omega arith)

next_word-or : (now : ℕ) → (next_word now ≡ now + 1) ⊎ (next_word now ≡ overrun + now)
next_word-or now = go (dec_lt (now % 1024) 1023)
  where
    go : Dec (now % 1024 < 1023) → (next_word now ≡ now + 1) ⊎ (next_word now ≡ overrun + now)
    go (yes h) = inl (sym (next_word-ready now h))
    go (no h) = inr (sym (next_word-overrun now (omega arith)))

awaits-event : Awaited → ℕ
awaits-event nothing = 0
awaits-event (awaits e c) = e

-- where a word of a thread that waits stands
pub waits_for-word : (w e : ℕ) → WaitsFor w e → (waiting ≤ w) × ((w < ended) × ((w - waiting) / span % 32 ≡ e))
unfolding awaits-event
waits_for-word w e (c, q) = go (dec_lt w waiting) (dec_lt w ended)
  where
    none : awaited_by (state_from w) ≡ nothing → ⊥
    none p = let f : nothing ≡ awaits e c = sym p ∙ q in let z : ◌≡◌ {A = ℕ} 0 1 = cc in absurd (omega arith)

    go : Dec (w < waiting) → Dec (w < ended) → (waiting ≤ w) × ((w < ended) × ((w - waiting) / span % 32 ≡ e))
    go (yes a) b = absurd (none (awaited-ready w a))
    go (no a) (no b) = absurd (none (awaited-over w (omega arith)))
    go (no a) (yes b) = (omega arith, (b, ap awaits-event (sym (awaited-waiting w (omega arith) b) ∙ q)))

-- a word at the end of a cycle
module _ (fs : List Bool) (now : ℕ) (small : now < span) (w : ℕ) where
  wake_word-or : (wake_word fs now w ≡ w) ⊎ (wake_word fs now w ≡ next_word now)
  unfolding wake_word
  wake_word-or = go (is_told fs (cycle_from now) (awaited_by (state_from w)))
    where
      go : (b : Bool) → (cond b (next_word now) w ≡ w) ⊎ (cond b (next_word now) w ≡ next_word now)
      go true = inr refl
      go false = inl refl

  pub wake_word-ahead : now < w → now < wake_word fs now w
  wake_word-ahead h = go wake_word-or (next_word-or now)
    where
      go : (wake_word fs now w ≡ w) ⊎ (wake_word fs now w ≡ next_word now) → (next_word now ≡ now + 1) ⊎ (next_word now ≡ overrun + now) → now < wake_word fs now w
      go (inl e) f = omega arith
      go (inr e) (inl f) = omega arith
      go (inr e) (inr f) = omega arith

  pub wake_word-waits : (e : ℕ) → WaitsFor (wake_word fs now w) e → WaitsFor w e
  wake_word-waits e h = go wake_word-or (next_word-or now) (waits_for-word (wake_word fs now w) e h)
    where
      go : (wake_word fs now w ≡ w) ⊎ (wake_word fs now w ≡ next_word now) → (next_word now ≡ now + 1) ⊎ (next_word now ≡ overrun + now) →
          (waiting ≤ wake_word fs now w) × ((wake_word fs now w < ended) × ((wake_word fs now w - waiting) / span % 32 ≡ e)) → WaitsFor w e
      go (inl q) f p = subst (λ (x : ℕ). WaitsFor x e) q h
      go (inr q) (inl f) (a, b) = absurd (omega arith)
      go (inr q) (inr f) (a, (b, d)) = absurd (omega arith)

  -- a thread that waits for no notified event stays as it is
  pub wake_word-still : ((e : ℕ) → e < 32 → WaitsFor w e → get_or fs e false ≡ true → ⊥) → w ≡ wake_word fs now w
  wake_word-still none = go (dec_lt w waiting) (dec_lt w ended)
    where
      mark : (b : Bool) → (b ≡ true → ⊥) → b ≡ false
      mark true n = absurd (n refl)
      mark false n = refl

      go : Dec (w < waiting) → Dec (w < ended) → w ≡ wake_word fs now w
      go (yes a) b = wake_word-ready fs now w a
      go (no a) (no b) = wake_word-over fs now w (omega arith)
      go (no a) (yes b) = wake_word-unmarked fs now w (omega arith) b (mark (get_or fs ((w - waiting) / span % 32) false) (none ((w - waiting) / span % 32) (omega arith) (cycle_from (w % span), awaited-waiting w (omega arith) b)))

-- a segment that closes by a wait
pub close_word-waits : (end now e : ℕ) → now < span → WaitsFor (close_word end now) e → (end % 4 ≡ 2) × (end / 1024 % 32 ≡ e)
close_word-waits end now e small w = go (ℕ_discrete (end % 4) 0) (ℕ_discrete (end % 4) 2) (ℕ_discrete (end / 1024 % 4294967296) 0) (waits_for-word (close_word end now) e w)
  where
    delta : next_word now ≡ close_word end now → (next_word now ≡ now + 1) ⊎ (next_word now ≡ overrun + now) → waiting ≤ close_word end now → close_word end now < ended → ⊥
    delta q (inl f) a b = omega arith
    delta q (inr f) a b = omega arith

    go : Dec (end % 4 ≡ 0) → Dec (end % 4 ≡ 2) → Dec (end / 1024 % 4294967296 ≡ 0) →
        (waiting ≤ close_word end now) × ((close_word end now < ended) × ((close_word end now - waiting) / span % 32 ≡ e)) → (end % 4 ≡ 2) × (end / 1024 % 32 ≡ e)
    go (yes p) q r (a, (b, d)) = let f = close_word-over now end p in absurd (omega arith)
    go (no p) (yes q) r (a, (b, d)) = let f : waiting + span * (end / 1024 % 32) + now ≡ close_word end now = close_word-event now end p q in (q, omega arith)
    go (no p) (no q) (yes r) (a, (b, d)) = absurd (delta (close_word-zero-wait now end p q r) (next_word-or now) a b)
    go (no p) (no q) (no r) (a, (b, d)) = let f : 1024 * (now / 1024 + end / 1024 % 4294967296) ≡ close_word end now = close_word-timed-wait now end p q r in absurd (omega arith)

-- threads that are not due are passed over
module _ (words : ℕ → List ℕ) (now budget : ℕ) where
  pub turn_on-or : (k : ℕ) (x : Locals) → (x ≡ turn_on words now budget k x) ⊎ ((get_or x.state k 0 ≡ now) × (ran_by words now k x ≡ turn_on words now budget k x))
  unfolding turn_on
  turn_on-or k x = go (ℕ_discrete (get_or x.state k 0) now) (ltb x.n budget) refl
    where
      go : Dec (get_or x.state k 0 ≡ now) → (b : Bool) → ltb x.n budget ≡ b →
          (x ≡ turn_on words now budget k x) ⊎ ((get_or x.state k 0 ≡ now) × (ran_by words now k x ≡ turn_on words now budget k x))
      go (no d) b e = inl (turn_on-passed words now budget k x d)
      go (yes d) true e = inr (d, rw (eq-eqb (get_or x.state k 0) now d, e) refl)
      go (yes d) false e = inl (rw (eq-eqb (get_or x.state k 0) now d, e) refl)

  turn_on-state : (k : ℕ) (x : Locals) (j : ℕ) → (j ≡ k → ⊥) → get_or (turn_on words now budget k x).state j 0 ≡ get_or x.state j 0
  turn_on-state k x j n = go (turn_on-or k x)
    where
      go : (x ≡ turn_on words now budget k x) ⊎ ((get_or x.state k 0 ≡ now) × (ran_by words now k x ≡ turn_on words now budget k x)) →
          get_or (turn_on words now budget k x).state j 0 ≡ get_or x.state j 0
      go (inl e) = ap (λ (y : Locals). get_or y.state j 0) (sym e)
      go (inr (d, e)) = ap (λ (y : Locals). get_or y.state j 0) (sym e) ∙ get_or-set_other x.state k j (close_word (end_by (words k) (get_or x.segments k 0)) now) 0 n

  module _ (x : Locals) where
    pub turns_to-state : (j i : ℕ) → j ≤ i → get_or (turns_to words now budget j x).state i 0 ≡ get_or x.state i 0
    unfolding turns_to
    turns_to-state zero i h = refl
    turns_to-state (suc j) i h = turn_on-state j (turns_to words now budget j x) i (λ q. omega arith) ∙ turns_to-state j i (omega arith)

    pub turns_to-idle : (j : ℕ) → ((k : ℕ) → k < j → get_or x.state k 0 ≡ now → ⊥) → x ≡ turns_to words now budget j x
    unfolding turns_to
    turns_to-idle zero h = refl
    turns_to-idle (suc j) h =
        turn_on-passed words now budget j x (h j (omega arith)) ∙ ap (turn_on words now budget j) (turns_to-idle j (λ k l. h k (omega arith)))

    pub turns_to-past : (j t : ℕ) → j ≤ t → ((k : ℕ) → j ≤ k → k < t → get_or x.state k 0 ≡ now → ⊥) → turns_to words now budget j x ≡ turns_to words now budget t x
    unfolding turns_to
    turns_to-past j zero h n = let e : j ≡ zero = omega arith in ap (λ (k : ℕ). turns_to words now budget k x) e
    turns_to-past j (suc t) h n = go (ℕ_discrete j (suc t)) (λ l. turns_to-past j t l (λ k a b. n k a (omega arith)))
      where
        go : Dec (j ≡ suc t) → (j ≤ t → turns_to words now budget j x ≡ turns_to words now budget t x) → turns_to words now budget j x ≡ turns_to words now budget (suc t) x
        go (yes e) ih = ap (λ (k : ℕ). turns_to words now budget k x) e
        go (no e) ih =
            ih (omega arith) ∙
            turn_on-passed words now budget t (turns_to words now budget t x) (λ q. n t (omega arith) (omega arith) (sym (turns_to-state t t (omega arith)) ∙ q))

-- a thread that waits widens its event's range
module _ (end k : ℕ) (rs : List ℕ) (size : length rs ≡ 66) where
  pub waited_by-length : length (waited_by end k rs) ≡ 66
  unfolding waited_by
  waited_by-length = go (eqb (end % 4) 2)
    where
      go : (b : Bool) → length (cond b (widened (end / 1024 % 32) k (k + 1) rs) rs) ≡ 66
      go true = widened-length (end / 1024 % 32) k (k + 1) rs ∙ size
      go false = size

  pub waited_by-keeps : (j i : ℕ) → j < 33 → Inside rs j i → Inside (waited_by end k rs) j i
  unfolding waited_by
  waited_by-keeps j i l h = go (eqb (end % 4) 2)
    where
      go : (b : Bool) → Inside (cond b (widened (end / 1024 % 32) k (k + 1) rs) rs) j i
      go true = widened-keeps (end / 1024 % 32) k (k + 1) rs (omega arith) size j i l h
      go false = h

  pub waited_by-new : (e : ℕ) → end % 4 ≡ 2 → end / 1024 % 32 ≡ e → Inside (waited_by end k rs) e k
  unfolding waited_by
  waited_by-new e p q = rw (eq-eqb (end % 4) 2 p, ← q) (widened-new (end / 1024 % 32) k (k + 1) rs (omega arith) size k (omega arith) (omega arith))

-- for the code
pub waited_by-other : (end k : ℕ) (rs : List ℕ) → (end % 4 ≡ 2 → ⊥) → rs ≡ waited_by end k rs
unfolding waited_by
waited_by-other end k rs n = rw (ne_eqb (end % 4) 2 n) refl

pub waited_by-event : (end k : ℕ) (rs x : List ℕ) → end % 4 ≡ 2 → x ≡ widened (end / 1024 % 32 % 33) k (k + 1) rs → x ≡ waited_by end k rs
unfolding waited_by
waited_by-event end k rs x p e =
    let f : end / 1024 % 32 % 33 ≡ end / 1024 % 32 = omega arith in
    rw (eq-eqb (end % 4) 2 p) (e ∙ ap (λ (i : ℕ). widened i k (k + 1) rs) f)
