-- The least word is the floor.
--     least_word-≤, least_word-most, least_word-one     it is at most each word, and one of them
--     floor-word, floor-late     below the limit it is the floor's cycle; at the limit or later the floor is past the horizon
use Prim.Native.Nat.{ℕ, zero, suc, ◌<◌, ◌≤◌}
use mathlib.Core.Path.{◌≡◌, refl, ap, sym, ◌∙◌, subst}
use mathlib.Core.Logic.{◌⊎◌, inl, inr}
use mathlib.Core.Bool.{not}
use mathlib.Core.List.{List}
use native.Mathlib.Omega.{arith}
use native.Mathlib.Decide.{ℕ_discrete, dec_lt}
use lib.Dec.{T}
use lib.ListN.{get_or}
use borrow.Author.Tests.{lt-ltb, le-ltb}
use Rattle.base.proofs.BoolLaws.{T-case}
use Rattle.clock.specs.declared.Cycle.{Cycle}
use Rattle.clock.specs.declared.Bound.{Bound}
use Rattle.clock.specs.declared.Bound.TheVariants.{Never, At}
use Rattle.clock.specs.Order.{◌⊑◌, sooner, same_time, ◌≼◌}
use Rattle.clock.proofs.OrderLaws.{≼-antisym}
use Rattle.clock.proofs.LeastLaws.{least_below-glb}
use Rattle.model.specs.declared.Model.{Model}
use Rattle.model.specs.declared.State.{State}
use Rattle.model.specs.declared.State.TheVariants.{Ready}
use Rattle.model.specs.declared.Thread.{Thread}
use Rattle.model.specs.Limits.{is_up_to_horizon, is_bound_up_to_horizon}
use Rattle.model.specs.Record as view
use Rattle.model.specs.Record.{thread_at, view_of, ready_cycle}
use Rattle.plain.specs.Wake.{floor_below, floor_of}
use Rattle.plain_words.proofs.ReachLaws.{lesser_of-≤}
use Rattle.plain_state.specs.Words.{span, key_of, limit_of, word_of, least_word}
use Rattle.plain_laws.proofs.RecordLaws.{ready_cycle→ready}
use Rattle.plain_laws.proofs.WakeLaws.{floor_of-≼}
use Rattle.plain_state.proofs.LimitLaws.{horizon→limit, limit→horizon}
use Rattle.plain_state.proofs.FloorLaws.{floor_of-one}
use Rattle.plain_state.proofs.WordLaws.{Small, InRange, range_small, word-ready, word-cycle}

least_word-below : (k : ℕ) (ws : List ℕ) → (least_word (suc k) ws ≤ get_or ws k 0) × (least_word (suc k) ws ≤ least_word k ws)
unfolding least_word
least_word-below k ws = lesser_of-≤ (get_or ws k 0) (least_word k ws)

pub least_word-≤ : (t : ℕ) (ws : List ℕ) (k : ℕ) → k < t → least_word t ws ≤ get_or ws k 0
least_word-≤ zero ws k h = absurd (omega arith)
least_word-≤ (suc t) ws k h = go (λ l. least_word-≤ t ws k l) (least_word-below t ws) (ℕ_discrete k t)
  where
    go : (k < t → least_word t ws ≤ get_or ws k 0) → (least_word (suc t) ws ≤ get_or ws t 0) × (least_word (suc t) ws ≤ least_word t ws) → Dec (k ≡ t) → least_word (suc t) ws ≤ get_or ws k 0
    go ih (a, b) (yes e) = rw e a
    go ih (a, b) (no e) = omega (arith, ih (omega arith))

pub least_word-most : (t : ℕ) (ws : List ℕ) → least_word t ws ≤ 18446744073709551615
unfolding least_word
least_word-most zero ws = omega arith
least_word-most (suc t) ws = omega (arith, least_word-most t ws, (least_word-below t ws).1)

pub least_word-one : (t : ℕ) (ws : List ℕ) → (least_word t ws ≡ 18446744073709551615) ⊎ ((k : ℕ) × (k < t) × (least_word t ws ≡ get_or ws k 0))
unfolding least_word
least_word-one zero ws = inl refl
least_word-one (suc t) ws = go (least_word-one t ws) (dec_lt (get_or ws t 0) (least_word t ws))
  where
    go : (least_word t ws ≡ 18446744073709551615) ⊎ ((k : ℕ) × (k < t) × (least_word t ws ≡ get_or ws k 0)) → Dec (get_or ws t 0 < least_word t ws) →
        (least_word (suc t) ws ≡ 18446744073709551615) ⊎ ((k : ℕ) × (k < suc t) × (least_word (suc t) ws ≡ get_or ws k 0))
    go r (yes h) = inr (t, omega arith, rw (lt-ltb (get_or ws t 0) (least_word t ws) h) refl)
    go (inl e) (no h) = inl (rw (le-ltb (get_or ws t 0) (least_word t ws) (omega arith)) e)
    go (inr (k, l, e)) (no h) = inr (k, omega arith, rw (le-ltb (get_or ws t 0) (least_word t ws) (omega arith)) e)

key-⊑ : (c d : Cycle) → c.delta.0 ≤ 1023 → d.delta.0 ≤ 1023 → key_of c ≤ key_of d → c ⊑ d
key-⊑ c d h l k = go (dec_lt c.time.0 d.time.0)
  where
    go : Dec (c.time.0 < d.time.0) → c ⊑ d
    go (yes b) = sooner b
    go (no b) = same_time (omega arith) (omega arith)

module _ (m : Model) (small : limit_of m ≤ span) (ws : List ℕ) (us : List Thread)
    (words : (k : ℕ) → k < m.t → get_or ws k 0 ≡ word_of (thread_at us k).state)
    (ranges : (k : ℕ) → k < m.t → InRange (thread_at us k).state) where
  ready-range : (k : ℕ) → k < m.t → (c : Cycle) → view_of (thread_at us k).state ≡ view.ready c → Small c
  ready-range k h c e = range_small (thread_at us k).state c (ranges k h) e

  least-≼ : (c : Cycle) → c.delta.0 ≤ 1023 → key_of c ≡ least_word m.t ws → (k : ℕ) → k < m.t → At c ≼ ready_cycle (thread_at us k).state
  least-≼ c d e k h = go (ready_cycle (thread_at us k).state) refl
    where
      go : (b : Bound) → ready_cycle (thread_at us k).state ≡ b → At c ≼ b
      go Never f = tt
      go (At x) f =
          let r = ready_cycle→ready (view_of (thread_at us k).state) x f in
          let g : get_or ws k 0 ≡ key_of x = words k h ∙ word-cycle (thread_at us k).state x r in
          key-⊑ c x d (ready-range k h x r).delta (omega (arith, least_word-≤ m.t ws k h))

  pub floor-word : least_word m.t ws < limit_of m →
      (c : Cycle) × (floor_of m us ≡ At c) × (key_of c ≡ least_word m.t ws) × Small c × T (is_up_to_horizon m c)
  unfolding floor_below
  floor-word h = go (least_word-one m.t ws)
    where
      found : (k : ℕ) → k < m.t → least_word m.t ws ≡ get_or ws k 0 → (c : Cycle) × ((thread_at us k).state ≡ Ready c) →
          (c : Cycle) × (floor_of m us ≡ At c) × (key_of c ≡ least_word m.t ws) × Small c × T (is_up_to_horizon m c)
      found k l e (c, f) =
          let g : key_of c ≡ least_word m.t ws = sym (e ∙ (words k l ∙ ap word_of f)) in
          let s = ready-range k l c (ap view_of f) in
          let below : floor_of m us ≼ At c = subst (λ (x : State). floor_of m us ≼ ready_cycle x) f (floor_of-≼ m us k l) in
          let above : At c ≼ floor_of m us = least_below-glb (At c) m.t (λ j. ready_cycle (thread_at us j).state) (least-≼ c s.delta g) in
          (c, ≼-antisym (floor_of m us) (At c) below above, g, s, limit→horizon m c (omega arith))

      go : (least_word m.t ws ≡ 18446744073709551615) ⊎ ((k : ℕ) × (k < m.t) × (least_word m.t ws ≡ get_or ws k 0)) →
          (c : Cycle) × (floor_of m us ≡ At c) × (key_of c ≡ least_word m.t ws) × Small c × T (is_up_to_horizon m c)
      go (inl e) = absurd (omega arith)
      go (inr (k, l, e)) = let w = words k l in found k l e (word-ready (thread_at us k).state (ranges k l) (omega arith))

  pub floor-late : limit_of m ≤ least_word m.t ws → T (not (is_bound_up_to_horizon m (floor_of m us)))
  unfolding is_bound_up_to_horizon
  floor-late h = go (floor_of-one m us)
    where
      past : (x : Cycle) → x.delta.0 ≤ 1023 → limit_of m ≤ key_of x → T (is_up_to_horizon m x) ⊎ T (not (is_up_to_horizon m x)) → T (not (is_up_to_horizon m x))
      past x d l (inl t) = let k = horizon→limit m x t d in absurd (omega arith)
      past x d l (inr t) = t

      late : (k : ℕ) → k < m.t → (b : Bound) → ready_cycle (thread_at us k).state ≡ b → T (not (is_bound_up_to_horizon m b))
      late k l Never f = tt
      late k l (At x) f =
          let r = ready_cycle→ready (view_of (thread_at us k).state) x f in
          let g : get_or ws k 0 ≡ key_of x = words k l ∙ word-cycle (thread_at us k).state x r in
          past x (ready-range k l x r).delta (omega (arith, least_word-≤ m.t ws k l)) (T-case (is_up_to_horizon m x))

      go : (floor_of m us ≡ Never) ⊎ ((k : ℕ) × (k < m.t) × (floor_of m us ≡ ready_cycle (thread_at us k).state)) → T (not (is_bound_up_to_horizon m (floor_of m us)))
      go (inl e) = rw e tt
      go (inr (k, l, e)) = rw e (late k l (ready_cycle (thread_at us k).state) refl)
