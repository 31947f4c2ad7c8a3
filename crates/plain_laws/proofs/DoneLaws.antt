-- A done place: the cycle is closed, its wakes are done, and no thread is ready up to the horizon.
-- Such a place stands still, in place and history, so that any two done places of a run are the same.
--     Late→none, none→Late     no thread ready up to the horizon, by the floor
--     is_done-parts, is_done-made     what "done" says
--     is_done-stands, is_done-items, is_done-ready     a step from a done place changes nothing; nobody is ready up to the horizon
--     place_at-stands, history_at-stands, done-place, done-history     so all later places are the same
--     closed-then-ran     after a close nobody runs in the same cycle
use Prim.Native.Nat.{ℕ, zero, suc, ◌+◌, ◌-◌, ◌≤◌, ◌<◌}
use mathlib.Core.Path.{◌≡◌, refl, ap, sym, ◌∙◌, subst}
use mathlib.Core.Logic.{◌⊎◌, inl, inr}
use mathlib.Core.Bool.{Bool, true, false, not, ◌&&◌}
use mathlib.Core.List.{List, [], ◌∷◌, append-nil}
use native.Mathlib.Nat.{add-zero, add-suc}
use native.Mathlib.Omega.{arith}
use native.Mathlib.Decide.{dec_le}
use lib.Dec.{T, leb, eqb, leb→le, le→leb, eqb→eq, T_not, not_T}
use lib.ListN.{length}
use Rattle.base.proofs.BoolLaws.{T-case, T→true, T→false, true→T, false→T, and→both, both→and}
use Rattle.clock.specs.declared.Cycle.{Cycle}
use Rattle.clock.specs.declared.Bound.{Bound}
use Rattle.clock.specs.declared.Bound.TheVariants.{Never, At}
use Rattle.clock.specs.Order.{Before}
use Rattle.clock.proofs.OrderLaws.{Before-⊑-trans}
use Rattle.model.specs.declared.Model.{Model}
use Rattle.model.specs.declared.Thread.{Thread}
use Rattle.model.specs.Limits.{is_up_to_horizon}
use Rattle.model.specs.Record as view
use Rattle.model.specs.Record.{thread_at, view_of}
use Rattle.plain.specs.Start.{Place}
use Rattle.plain.specs.Wake.{floor_of, some_ready}
use Rattle.plain.specs.Step.{stepped, place_at}
use Rattle.plain.specs.Run.{is_done}
use Rattle.plain.specs.History.{items_at, history_at}
use Rattle.plain_laws.proofs.RecordLaws.{horizon-mono, has-none}
use Rattle.plain_laws.proofs.WakeLaws.{woken-none, floor_of-least, floor_of-attained, floor_of-never, some_ready-some, some_ready-found}
use Rattle.plain_laws.proofs.StepLaws.{state_of, woken_at, rested_at, ran, closed, kind_of, ran-not-closed, Late, never, late, Sees, sees, sees_ran, sees_passed, sees_begun, sees_rested, place_at-more}
use Rattle.plain_laws.proofs.HappenLaws.{Happens, idle, runs, hears, happens, history_at-more}
use Rattle.plain_laws.proofs.StartLaws.{shape}
use Rattle.plain_laws.proofs.SteadyLaws.{Moves, turns, begins, rests, moves-at, now_mono}

module _ (m : Model) (ts : List Thread) where
  pub Late→none : Late m (floor_of m ts) → some_ready m ts ≡ false
  Late→none l = go (T-case (some_ready m ts))
    where
      none : T (some_ready m ts) → Late m (floor_of m ts) → ⊥
      none t (never e) =
          let (k, c, h, q, b) = some_ready-some m ts (T→true (some_ready m ts) t) in
          floor_of-never m ts e k c h q
      none t (late f e n) =
          let (k, c, h, q, b) = some_ready-some m ts (T→true (some_ready m ts) t) in
          T_not (is_up_to_horizon m f) n (horizon-mono m (floor_of-least m ts f e k c h q) b)

      go : T (some_ready m ts) ⊎ T (not (some_ready m ts)) → some_ready m ts ≡ false
      go (inl t) = absurd (none t l)
      go (inr t) = T→false (some_ready m ts) t

  pub none→Late : some_ready m ts ≡ false → Late m (floor_of m ts)
  none→Late e = go (floor_of m ts) refl
    where
      go : (f : Bound) → floor_of m ts ≡ f → Late m (floor_of m ts)
      go Never q = never q
      go (At c) q = late c q (not_T (is_up_to_horizon m c) (λ t. bad t (floor_of-attained m ts c q)))
        where
          bad : T (is_up_to_horizon m c) → (k : ℕ) × (k < m.t) × (view_of (thread_at ts k).state ≡ view.ready c) → ⊥
          bad t (k, h, r) = T_not (some_ready m ts) (false→T (some_ready m ts) e) (true→T (some_ready m ts) (some_ready-found m ts k c h r t))

-- an empty list
empty : {A : Type 0} (l : List A) → length l ≡ 0 → l ≡ []
empty [] e = refl
empty (x ∷ l) e = absurd (omega arith)

pub record Done (m : Model) (p : Place) : Type 0 where
  pub turned : m.t ≤ p.turn
  pub heard_all : p.notified ≡ []
  pub none_ready : some_ready m p.threads ≡ false

module _ (m : Model) (p : Place) where
  pub is_done-parts : is_done m p ≡ true → Done m p
  unfolding is_done
  is_done-parts e =
      let (a, r) = and→both (leb m.t p.turn && eqb (length p.notified) 0) (not (some_ready m p.threads)) (true→T (is_done m p) e) in
      let (h, n) = and→both (leb m.t p.turn) (eqb (length p.notified) 0) a in
      record { turned = leb→le m.t p.turn h; heard_all = empty p.notified (eqb→eq (length p.notified) 0 n); none_ready = T→false (some_ready m p.threads) r }

  pub is_done-made : Done m p → is_done m p ≡ true
  unfolding is_done
  is_done-made d =
      T→true (is_done m p)
      (both→and (leb m.t p.turn && eqb (length p.notified) 0) (not (some_ready m p.threads))
      (both→and (leb m.t p.turn) (eqb (length p.notified) 0) (le→leb m.t p.turn d.turned) (rw d.heard_all tt))
      (false→T (some_ready m p.threads) d.none_ready))

  -- no thread is ready up to the horizon at a done place
  pub is_done-ready : is_done m p ≡ true → (k : ℕ) (c : Cycle) → k < m.t → view_of (state_of p k) ≡ view.ready c → T (is_up_to_horizon m c) → ⊥
  is_done-ready e k c h q b =
      let f = some_ready-found m p.threads k c h q b in
      let n = (is_done-parts e).none_ready in
      let z : ◌≡◌ {A = Bool} true false = cc in false→T true z

  -- nobody wakes
  done-woken : Done m p → woken_at p ≡ p.threads
  done-woken d = rw d.heard_all (woken-none p.now p.threads)

  done-rested : Done m p → rested_at p ≡ p
  done-rested d =
      let w = done-woken d in
      λ i. record { variables = p.variables; threads = w i; now = p.now; turn = p.turn; notified = sym d.heard_all i; n = p.n }

  pub Done-stands : Done m p → stepped m p ≡ p
  Done-stands d = go (sees m p)
    where
      go : Sees m p → stepped m p ≡ p
      go (sees_ran q h r s) = absurd (omega (arith, d.turned))
      go (sees_passed q h r s) = absurd (omega (arith, d.turned))
      go (sees_begun q h c f b s) = absurd (begin (floor_of-attained m p.threads c (ap (floor_of m) (sym (done-woken d)) ∙ f)))
        where
          begin : (k : ℕ) × (k < m.t) × (view_of (state_of p k) ≡ view.ready c) → ⊥
          begin (k, l, r) =
              let g = some_ready-found m p.threads k c l r b in
              let n = d.none_ready in
              let z : ◌≡◌ {A = Bool} true false = cc in false→T true z
      go (sees_rested q h l s) = s ∙ done-rested d

  pub is_done-stands : is_done m p ≡ true → stepped m p ≡ p
  is_done-stands e = Done-stands (is_done-parts e)

  pub is_done-closed : is_done m p ≡ true → kind_of m p ≡ closed
  is_done-closed e = go (sees m p)
    where
      go : Sees m p → kind_of m p ≡ closed
      go (sees_ran q h r s) = absurd (omega (arith, (is_done-parts e).turned))
      go (sees_passed q h r s) = absurd (omega (arith, (is_done-parts e).turned))
      go (sees_begun q h c f b s) = q
      go (sees_rested q h l s) = q

  pub is_done-items : is_done m p ≡ true → m.t ≤ length p.threads → (k : ℕ) → items_at m p k ≡ []
  is_done-items e enough k = go (happens m p k enough)
    where
      go : Happens m p k → items_at m p k ≡ []
      go (idle same r h i) = i
      go (runs (q, t) r same i) = let f = is_done-closed e in absurd (let z : ◌≡◌ {A = ℕ} 0 1 = cc in omega arith)
      go (hears v h same i) = absurd (has-none v (rw (is_done-parts e).heard_all at h.notified))

-- after a close that rests, the run is done
pub rested-done : (m : Model) (p : Place) → m.t ≤ p.turn → Late m (floor_of m (woken_at p)) → stepped m p ≡ rested_at p → is_done m (stepped m p) ≡ true
rested-done m p h l s = rw s (is_done-made m (rested_at p) (record { turned = h; heard_all = refl; none_ready = Late→none m (woken_at p) l }))

module _ (m : Model) (i : ℕ) (done : is_done m (place_at m i) ≡ true) where
  stands_on : (d : ℕ) → place_at m (i + d) ≡ place_at m i
  stands_on zero = rw add-zero refl
  stands_on (suc d) = rw (add-suc, place_at-more m (i + d)) (ap (stepped m) (stands_on d) ∙ is_done-stands m (place_at m i) done)

  pub place_at-stands : (j : ℕ) → i ≤ j → place_at m j ≡ place_at m i
  place_at-stands j h = let e : i + (j - i) ≡ j = omega arith in subst (λ (x : ℕ). place_at m x ≡ place_at m i) e (stands_on (j - i))

  pub is_done-later : (j : ℕ) → i ≤ j → is_done m (place_at m j) ≡ true
  is_done-later j h = ap (is_done m) (place_at-stands j h) ∙ done

  history-on : (k d : ℕ) → history_at m k (i + d) ≡ history_at m k i
  history-on k zero = rw add-zero refl
  history-on k (suc d) =
      rw (add-suc, history_at-more m k (i + d), stands_on d, is_done-items m (place_at m i) done (shape m i).enough k, append-nil) (history-on k d)

  pub history_at-stands : (k j : ℕ) → i ≤ j → history_at m k j ≡ history_at m k i
  history_at-stands k j h = let e : i + (j - i) ≡ j = omega arith in subst (λ (x : ℕ). history_at m k x ≡ history_at m k i) e (history-on k (j - i))

-- two done places of a run are the same
module _ (m : Model) (i j : ℕ) (one : is_done m (place_at m i) ≡ true) (two : is_done m (place_at m j) ≡ true) where
  pub done-place : place_at m i ≡ place_at m j
  done-place = go (dec_le i j)
    where
      go : Dec (i ≤ j) → place_at m i ≡ place_at m j
      go (yes h) = sym (place_at-stands m i one j h)
      go (no h) = place_at-stands m j two i (omega arith)

  pub done-history : (k : ℕ) → history_at m k i ≡ history_at m k j
  done-history k = go (dec_le i j)
    where
      go : Dec (i ≤ j) → history_at m k i ≡ history_at m k j
      go (yes h) = sym (history_at-stands m i one k j h)
      go (no h) = history_at-stands m j two k i (omega arith)

-- After a close nobody runs in the same cycle: it began a later one, or the run is done.
pub closed-then-ran : (m : Model) (r t : ℕ) → r < t → kind_of m (place_at m r) ≡ closed → kind_of m (place_at m t) ≡ ran → Before (place_at m r).now (place_at m t).now
closed-then-ran m r t h q k = go (moves-at m r)
  where
    go : Moves m (place_at m r) → Before (place_at m r).now (place_at m t).now
    go (turns n l e f) = absurd (n q)
    go (begins q l b f e n) = Before-⊑-trans (rw (← place_at-more m r) at b) (now_mono m (suc r) t (omega arith))
    go (rests q l f s) =
        let d : is_done m (place_at m (suc r)) ≡ true = rw (place_at-more m r) (rested-done m (place_at m r) l f s) in
        absurd (ran-not-closed k (is_done-closed m (place_at m t) (is_done-later m (suc r) d t (omega arith))))
