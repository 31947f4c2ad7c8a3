-- The form that computes `reaches` says what paths there are, and what a thread lacks from a segment on.
--     reaches_below-self, -step, -more, -over, -join     with only the segments below k between
--     reaches→Reaches, Reaches→reaches; reaches-self, reaches_step
--     lacks_from-self, lacks_from-step
use Prim.Native.Nat.{ℕ, zero, suc, ◌≤◌, ◌<◌}
use mathlib.Core.Path.{◌≡◌, refl, subst}
use mathlib.Core.Logic.{◌⊎◌, inl, inr}
use mathlib.Core.Bool.{Bool, true, false, not, ◌&&◌, and-false}
use native.Mathlib.Omega.{arith}
use native.Mathlib.Decide.{ℕ_discrete}
use lib.Dec.{T, eqb, eqb_refl, eqb→eq, T_not}
use Rattle.base.proofs.BoolLaws.{T-case, T→true, T→false, false→T, and→both, both→and, or→either, either→or}
use Rattle.base.proofs.IndexLaws.{any_below-none, any_below-empty}
use Rattle.model.specs.declared.Model.{Model}
use Rattle.model.specs.Values.{segment_at}
use Rattle.model.specs.Reach.{steps_to, Reaches, here, step, reaches_below, reaches, lacks_port, lacks_from}

-- a step from r to s
abbrev steps : Model → ℕ → ℕ → Bool
steps m r s = steps_to (segment_at m r).closer s

module _ (m : Model) where
  pub reaches_below-more : (k r s : ℕ) → T (reaches_below m k r s) → T (reaches_below m (suc k) r s)
  unfolding reaches_below
  reaches_below-more k r s t = either→or (reaches_below m k r s) (reaches_below m k r k && reaches_below m k k s) (inl t)

  pub reaches_below-over : (k r s : ℕ) → T (reaches_below m k r k) → T (reaches_below m k k s) → T (reaches_below m (suc k) r s)
  unfolding reaches_below
  reaches_below-over k r s t u =
      either→or (reaches_below m k r s) (reaches_below m k r k && reaches_below m k k s)
      (inr (both→and (reaches_below m k r k) (reaches_below m k k s) t u))

  pub reaches_below-case : (k r s : ℕ) → T (reaches_below m (suc k) r s) → T (reaches_below m k r s) ⊎ (T (reaches_below m k r k) × T (reaches_below m k k s))
  unfolding reaches_below
  reaches_below-case k r s t = go (or→either (reaches_below m k r s) (reaches_below m k r k && reaches_below m k k s) t)
    where
      go : T (reaches_below m k r s) ⊎ T (reaches_below m k r k && reaches_below m k k s) → T (reaches_below m k r s) ⊎ (T (reaches_below m k r k) × T (reaches_below m k k s))
      go (inl u) = inl u
      go (inr u) = inr (and→both (reaches_below m k r k) (reaches_below m k k s) u)

  pub reaches_below-self : (k r : ℕ) → T (reaches_below m k r r)
  unfolding reaches_below
  reaches_below-self zero r = either→or (eqb r r) (steps m r r) (inl (eqb_refl r))
  reaches_below-self (suc k) r = reaches_below-more k r r (reaches_below-self k r)

  pub reaches_below-step : (k r s : ℕ) → T (steps m r s) → T (reaches_below m k r s)
  unfolding reaches_below
  reaches_below-step zero r s t = either→or (eqb r s) (steps m r s) (inr t)
  reaches_below-step (suc k) r s t = reaches_below-more k r s (reaches_below-step k r s t)

  -- a detour over k on the way to k, or from k, is none
  reaches_below-column : (k r : ℕ) → T (reaches_below m (suc k) r k) → T (reaches_below m k r k)
  reaches_below-column k r t = go (reaches_below-case k r k t)
    where
      go : T (reaches_below m k r k) ⊎ (T (reaches_below m k r k) × T (reaches_below m k k k)) → T (reaches_below m k r k)
      go (inl u) = u
      go (inr (u, w)) = u

  reaches_below-row : (k s : ℕ) → T (reaches_below m (suc k) k s) → T (reaches_below m k k s)
  reaches_below-row k s t = go (reaches_below-case k k s t)
    where
      go : T (reaches_below m k k s) ⊎ (T (reaches_below m k k k) × T (reaches_below m k k s)) → T (reaches_below m k k s)
      go (inl u) = u
      go (inr (u, w)) = w

  -- By induction on k. Where s is the new place, the two parts are as they were. Else each part is as it was or goes over k, and then the
  -- whole goes over k as well: what lies between is dropped or taken by the induction.
  pub reaches_below-join : (k r s t : ℕ) → s < k → T (reaches_below m k r s) → T (reaches_below m k s t) → T (reaches_below m k r t)
  reaches_below-join zero r s t h p q = absurd (omega arith)
  reaches_below-join (suc k) r s t h p q = go (λ a c h. reaches_below-join k a s c h) (ℕ_discrete s k)
    where
      A : ℕ → ℕ → Type 0
      A a b = T (reaches_below m k a b)

      parts : ((a c : ℕ) → A a s → A s c → A a c) → A r s ⊎ (A r k × A k s) → A s t ⊎ (A s k × A k t) → T (reaches_below m (suc k) r t)
      parts ih (inl u) (inl v) = reaches_below-more k r t (ih r t u v)
      parts ih (inl u) (inr (v, w)) = reaches_below-over k r t (ih r k u v) w
      parts ih (inr (u, w)) (inl v) = reaches_below-over k r t u (ih k t w v)
      parts ih (inr (u, w)) (inr (v, x)) = reaches_below-over k r t u x

      go : ((a c : ℕ) → s < k → A a s → A s c → A a c) → Dec (s ≡ k) → T (reaches_below m (suc k) r t)
      go ih (yes e) = reaches_below-over k r t (reaches_below-column k r (rw e at p)) (reaches_below-row k t (rw e at q))
      go ih (no e) = parts (λ a c. ih a c (omega arith)) (reaches_below-case k r s p) (reaches_below-case k s t q)

  -- the form and the paths

  pub Reaches-join : {r s t : ℕ} → Reaches m r s → Reaches m s t → Reaches m r t
  Reaches-join here q = q
  Reaches-join (step h u p) q = step h u (Reaches-join p q)

  reaches_below→Reaches : (k r s : ℕ) → k ≤ m.n → s < m.n → T (reaches_below m k r s) → Reaches m r s
  unfolding reaches_below
  reaches_below→Reaches zero r s h l t = go (or→either (eqb r s) (steps m r s) t)
    where
      go : T (eqb r s) ⊎ T (steps m r s) → Reaches m r s
      go (inl u) = subst (λ x. Reaches m r x) (eqb→eq r s u) here
      go (inr u) = step l u here
  reaches_below→Reaches (suc k) r s h l t =
      go (λ x. reaches_below→Reaches k r s (omega arith) l x) (λ x. reaches_below→Reaches k r k (omega arith) h x)
      (λ x. reaches_below→Reaches k k s (omega arith) l x) (reaches_below-case k r s t)
    where
      go :
          (T (reaches_below m k r s) → Reaches m r s) → (T (reaches_below m k r k) → Reaches m r k) → (T (reaches_below m k k s) → Reaches m k s) →
          T (reaches_below m k r s) ⊎ (T (reaches_below m k r k) × T (reaches_below m k k s)) → Reaches m r s
      go a b c (inl u) = a u
      go a b c (inr (u, v)) = Reaches-join (b u) (c v)

  pub reaches→Reaches : (r s : ℕ) → s < m.n → T (reaches m r s) → Reaches m r s
  unfolding reaches
  reaches→Reaches r s h t = reaches_below→Reaches m.n r s (omega arith) h t

  -- a segment reaches itself
  pub reaches_here : (r : ℕ) → T (reaches m r r)
  unfolding reaches
  reaches_here r = reaches_below-self m.n r

  pub reaches-self : (r : ℕ) → reaches m r r ≡ true
  reaches-self r = T→true (reaches m r r) (reaches_here r)

  -- a step in front
  pub reaches_step : (r s t : ℕ) → s < m.n → T (steps_to (segment_at m r).closer s) → T (reaches m s t) → T (reaches m r t)
  unfolding reaches
  reaches_step r s t h u p = reaches_below-join m.n r s t h (reaches_below-step m.n r s u) p

  pub Reaches→reaches : {r s : ℕ} → Reaches m r s → T (reaches m r s)
  Reaches→reaches (here {r = r}) = reaches_here r
  Reaches→reaches (step {r = r} {s = s} {t = t} h u p) = reaches_step r s t h u (Reaches→reaches p)

  -- what a thread does not lack from a segment on, it does not lack there, nor from the next on

  lacks_from-none : (k r s : ℕ) → lacks_from m k r ≡ false → s < m.n → T (reaches m r s) → lacks_port m k s ≡ false
  unfolding lacks_from
  lacks_from-none k r s e h t =
      go (T-case (lacks_port m k s)) (any_below-none m.n (λ s. lacks_port m k s && reaches m r s) (false→T (lacks_from m k r) e) s h)
    where
      go : T (lacks_port m k s) ⊎ T (not (lacks_port m k s)) → T (not (lacks_port m k s && reaches m r s)) → lacks_port m k s ≡ false
      go (inl u) n = absurd (T_not (lacks_port m k s && reaches m r s) n (both→and (lacks_port m k s) (reaches m r s) u t))
      go (inr u) n = T→false (lacks_port m k s) u

  pub lacks_from-self : (k s : ℕ) → s < m.n → lacks_from m k s ≡ false → lacks_port m k s ≡ false
  lacks_from-self k s h e = lacks_from-none k s s e h (reaches_here s)

  pub lacks_from-step : (k r s : ℕ) → s < m.n → T (steps_to (segment_at m r).closer s) → lacks_from m k r ≡ false → lacks_from m k s ≡ false
  unfolding lacks_from
  lacks_from-step k r s h u e =
      any_below-empty m.n (λ t. lacks_port m k t && reaches m s t) (λ t l. go t l (T-case (reaches m s t)))
    where
      go : (t : ℕ) → t < m.n → T (reaches m s t) ⊎ T (not (reaches m s t)) → (lacks_port m k t && reaches m s t) ≡ false
      go t l (inl x) = rw (lacks_from-none k r t e l (reaches_step r s t h u x)) refl
      go t l (inr x) = rw (T→false (reaches m s t) x) (and-false (lacks_port m k t))
