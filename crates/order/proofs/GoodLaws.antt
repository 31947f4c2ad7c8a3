-- The variables of the done places. At the start nothing is done. A place that is run next finds on what it uses the
-- values that the plain run has there (B), if every earlier place that it touches is done; and running it keeps the
-- variables good (C). Whether earlier places are done is the matter of `Grant`.
-- Takes as given the facts of the plain run (PlainFacts) and the laws of the kit (KitLaws).
use Prim.Native.Nat.{ℕ, zero, suc, ◌≤◌, ◌<◌}
use mathlib.Core.Path.{◌≡◌, refl, ap, sym, ◌∙◌, subst}
use mathlib.Core.Logic.{◌⊎◌, inl, inr}
use mathlib.Core.Bool.{Bool, false, not}
use mathlib.Core.List.{List}
use native.Mathlib.Omega.{arith}
use native.Mathlib.Decide.{dec_lt, ℕ_discrete}
use lib.Dec.{T, T_not, not_T}
use lib.ListN.{get_or}
use Rattle.base.proofs.BoolLaws.{T-case, T→false}
use Rattle.model.specs.declared.Model.{Model}
use Rattle.model.specs.Effect.{effect_of}
use Rattle.model.specs.Footprint.{writes_in, uses_in}
use Rattle.model_effect.proofs.FrameLaws.{Agree}
use Rattle.plain.specs.Start.{start_of, fresh_variables}
use Rattle.plain.specs.Step.{place_at}
use Rattle.order.proofs.Places.{now_at, record_at, Runs}
use Rattle.order.proofs.PlainFacts.{PlainFacts}
use Rattle.order.proofs.KitLaws.{KitLaws}
use Rattle.order.proofs.PlaceLaws.{same-runner}
use Rattle.order.proofs.Invariant.{Done, Touch, Safe, Good, moved}
use Rattle.order.proofs.CutLaws.{done-kept, done-back, done-now, done-here}

-- place p runs thread a, which writes v there
abbrev pub Writes : Model → ℕ → ℕ → ℕ → Type 0
Writes m p a v = T (writes_in m a (record_at m p a).segment v)

crossed : {A B C D : Type 0} → (A × B) ⊎ (C × D) → (D × C) ⊎ (B × A)
crossed (inl (w, u)) = inr (u, w)
crossed (inr (u, w)) = inl (w, u)

-- two runs that touch, looked at from the other side
pub touch-swap : (m : Model) (p a q b : ℕ) → Touch m p a q b → Touch m q b p a
touch-swap m p a q b t = record { variable = t.variable; shared = crossed t.shared }

module _ (m : Model) (pf : PlainFacts m) {marks : List (List Bool)} {ws : List ℕ} (kl : KitLaws m marks ws) where
  -- a place that does not write v keeps it
  pub value_stays : (v p : ℕ) → ((a : ℕ) → Runs m p a → Writes m p a v → ⊥)
      → get_or (place_at m (suc p)).variables v 0 ≡ get_or (place_at m p).variables v 0
  value_stays v p none = go (pf.runs_one p)
    where
      skips : (a : ℕ) → (Writes m p a v → ⊥) → writes_in m a (record_at m p a).segment v ≡ false
      skips a f = T→false (writes_in m a (record_at m p a).segment v) (not_T (writes_in m a (record_at m p a).segment v) f)

      go : ((k : ℕ) × Runs m p k) ⊎ ((k : ℕ) → Runs m p k → ⊥) → get_or (place_at m (suc p)).variables v 0 ≡ get_or (place_at m p).variables v 0
      go (inr idle) = ap (λ (x : List ℕ). get_or x v 0) (pf.variables_idle p idle)
      go (inl (a, runs)) =
          ap (λ (x : List ℕ). get_or x v 0) (pf.variables_run p a runs)
          ∙ kl.footprints.frame a (record_at m p a).segment (now_at m p) (place_at m p).variables v (skips a (none a runs))

  -- between places with no writer of v, v keeps its value
  pub value-kept : (v p q : ℕ) → p ≤ q → ((w a : ℕ) → p ≤ w → w < q → Runs m w a → Writes m w a v → ⊥)
      → get_or (place_at m q).variables v 0 ≡ get_or (place_at m p).variables v 0
  value-kept v p zero h none = let e : p ≡ 0 = omega arith in rw e refl
  value-kept v p (suc q) h none = go (λ l. value-kept v p q l (λ w a f t. none w a f (omega arith))) (ℕ_discrete p (suc q))
    where
      go : (p ≤ q → get_or (place_at m q).variables v 0 ≡ get_or (place_at m p).variables v 0) → Dec (p ≡ suc q)
          → get_or (place_at m (suc q)).variables v 0 ≡ get_or (place_at m p).variables v 0
      go ih (yes e) = rw e refl
      go ih (no e) = value_stays v q (λ a runs w. none q a (omega arith) (omega arith) runs w) ∙ ih (omega arith)

  -- at the start nothing is done
  pub good-fresh : Good m (λ k. 0) fresh_variables
  unfolding place_at start_of
  good-fresh =
      record {
        size = refl;
        ordered = λ p a q b h runs new d t. absurd (omega (arith, d.passed));
        value = λ v q before after. sym (value-kept v 0 q (omega arith) (λ w a from to runs writes. omega (arith, (before w a to runs writes).passed)));
      }

  -- a cut moved over places that do not run its thread
  pub good-moved : (cut : ℕ → ℕ) (x : List ℕ) (k n : ℕ) → cut k ≤ n → ((q : ℕ) → cut k ≤ q → q < n → Runs m q k → ⊥) → Good m cut x
      → Good m (moved cut k n) x
  good-moved cut x k n on quiet g =
      record {
        size = g.size;
        ordered = λ p a q b h runs new d t. g.ordered p a q b h runs (λ old. new (done-kept m cut k n on p a old)) (done-back m cut k n on quiet q b d) t;
        value = λ v q before after. g.value v q
            (λ p a h runs w. done-back m cut k n on quiet p a (before p a h runs w))
            (λ p a h runs w old. after p a h runs w (done-kept m cut k n on p a old));
      }

  -- place r, the next that runs k, is run now: every earlier place that touches it is done
  module _ (cut : ℕ → ℕ) (x : List ℕ) (g : Good m cut x) (r k : ℕ) (here : Runs m r k) (from : cut k ≤ r)
      (quiet : (q : ℕ) → cut k ≤ q → q < r → Runs m q k → ⊥)
      (safe : Safe m cut r k)
    where
      abbrev seg : ℕ
      seg = (record_at m r k).segment

      new : Done m cut r k → ⊥
      new d = omega (arith, d.passed)

      done-after : (q j : ℕ) → Done m (moved cut k (suc r)) q j → Done m cut q j ⊎ ((q ≡ r) × (j ≡ k))
      done-after = done-now m cut k r from here quiet

      done-still : (q j : ℕ) → Done m cut q j → Done m (moved cut k (suc r)) q j
      done-still = done-kept m cut k (suc r) (omega arith)

      -- (B) it finds what the plain run finds there
      values : (v : ℕ) → T (uses_in m k seg v) → get_or x v 0 ≡ get_or (place_at m r).variables v 0
      values v uses = g.value v r (λ p a h runs w. safe p a h runs (record { variable = v; shared = inl (w, uses) })) later
        where
          later : (p a : ℕ) → r ≤ p → Runs m p a → Writes m p a v → Done m cut p a → ⊥
          later p a h runs w d = go (ℕ_discrete p r)
            where
              go : Dec (p ≡ r) → ⊥
              go (yes e) = new (subst (λ (i : ℕ). Done m cut r i) (same-runner m r a k (rw e at runs) here) (rw e at d))
              go (no e) = g.ordered r k p a (omega arith) here new d (record { variable = v; shared = inr (uses, w) })

      pub agree : Agree (λ v. T (uses_in m k seg v)) x (place_at m r).variables
      agree = record { same_length = g.size ∙ sym (pf.variables_length r); same = values }

      ordered-after : (p a q b : ℕ) → p < q → Runs m p a → (Done m (moved cut k (suc r)) p a → ⊥) → Done m (moved cut k (suc r)) q b
          → Touch m p a q b → ⊥
      ordered-after p a q b h runs undone d t = go (done-after q b d)
        where
          go : Done m cut q b ⊎ ((q ≡ r) × (b ≡ k)) → ⊥
          go (inl old) = g.ordered p a q b h runs (λ z. undone (done-still p a z)) old t
          go (inr (e, f)) = undone (done-still p a (safe p a (omega arith) runs (rw (e, f) at t)))

      -- What r does not write keeps its value. What it writes, and whose writers before q are done and none after: r is
      -- before q, it writes what the plain run writes there (B), and no writer stands between r and q, since it
      -- would be done and touch r.
      value_after : (v q : ℕ)
          → ((p a : ℕ) → p < q → Runs m p a → Writes m p a v → Done m (moved cut k (suc r)) p a)
          → ((p a : ℕ) → q ≤ p → Runs m p a → Writes m p a v → Done m (moved cut k (suc r)) p a → ⊥)
          → get_or (effect_of m k seg (now_at m r) x).variables v 0 ≡ get_or (place_at m q).variables v 0
      value_after v q before after = go (T-case (writes_in m k seg v)) (dec_lt r q)
        where
          go : T (writes_in m k seg v) ⊎ T (not (writes_in m k seg v)) → Dec (r < q)
              → get_or (effect_of m k seg (now_at m r) x).variables v 0 ≡ get_or (place_at m q).variables v 0
          go (inr skips) _ =
              kl.footprints.frame k seg (now_at m r) x v (T→false (writes_in m k seg v) skips)
              ∙ g.value v q (λ p a h runs w. old p a runs w (done-after p a (before p a h runs w))) (λ p a h runs w d. after p a h runs w (done-still p a d))
            where
              old : (p a : ℕ) → Runs m p a → Writes m p a v → Done m cut p a ⊎ ((p ≡ r) × (a ≡ k)) → Done m cut p a
              old p a runs w (inl d) = d
              old p a runs w (inr (e, f)) = absurd (T_not (writes_in m k seg v) skips (subst (λ (i : ℕ). Writes m r i v) f (subst (λ (i : ℕ). Writes m i a v) e w)))
          go (inl writes) (no late) = absurd (after r k (omega arith) here writes (done-here m cut k r from here quiet))
          go (inl writes) (yes h) =
              (kl.footprints.local k seg (now_at m r) x (place_at m r).variables agree).variables_agree.same v (kl.footprints.writes_uses k seg v writes)
              ∙ ap (λ (y : List ℕ). get_or y v 0) (sym (pf.variables_run r k here))
              ∙ sym (value-kept v (suc r) q h (λ p a f t runs w. between p a f runs w (done-after p a (before p a t runs w))))
            where
              between : (p a : ℕ) → r < p → Runs m p a → Writes m p a v → Done m cut p a ⊎ ((p ≡ r) × (a ≡ k)) → ⊥
              between p a f runs w (inl d) = g.ordered r k p a f here new d (record { variable = v; shared = inl (writes, kl.footprints.writes_uses a (record_at m p a).segment v w) })
              between p a f runs w (inr (e, _)) = omega arith

      -- (C) it leaves the variables good
      pub good-step : Good m (moved cut k (suc r)) (effect_of m k seg (now_at m r) x).variables
      good-step = record { size = kl.footprints.sized k seg (now_at m r) x ∙ g.size; ordered = ordered-after; value = value_after }
