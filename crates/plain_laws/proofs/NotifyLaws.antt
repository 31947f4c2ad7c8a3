-- What the plain run has notified, and what of it is still to be heard.
-- A notification stays among those of its cycle until the cycle closes, and there it is heard by all who wait on it.
--     Says     step q notifies event e
--     Pending, pending     a notification is still to be heard, or its cycle was closed
--     notified-kept     what is to be heard stays so until the close
--     source     what is to be heard was notified in this cycle
use Prim.Native.Nat.{ℕ, zero, suc, ◌<◌, ◌≤◌}
use mathlib.Core.Path.{◌≡◌, refl, ap, sym, ◌∙◌, subst}
use mathlib.Core.Logic.{◌⊎◌, inl, inr}
use mathlib.Core.List.{[], ◌++◌}
use native.Mathlib.Omega.{arith}
use native.Mathlib.Decide.{ℕ_discrete}
use lib.Dec.{T}
use Rattle.model.specs.declared.Model.{Model}
use Rattle.model.specs.Footprint.{has}
use Rattle.plain.specs.Start.{Place}
use Rattle.plain.specs.Step.{stepped, place_at}
use Rattle.plain_laws.proofs.RecordLaws.{has-append, append-has, has-none}
use Rattle.plain_laws.proofs.StepLaws.{effect_at, ran, passed, closed, kind_of, ran-not-passed, ran-not-closed, passed-not-closed, Sees, sees, sees_ran, sees_passed, sees_begun, sees_rested}
use Rattle.plain_laws.proofs.StartLaws.{start_of-notified}

-- what one step does to the notifications: it adds its own, or the cycle closes
data Adds (m : Model) (p : Place) : Type 0 where
  adds : kind_of m p ≡ ran → (stepped m p).now ≡ p.now → (stepped m p).notified ≡ p.notified ++ (effect_at m p).notified → Adds m p
  keeps : kind_of m p ≡ passed → (stepped m p).now ≡ p.now → (stepped m p).notified ≡ p.notified → Adds m p
  clears : kind_of m p ≡ closed → (stepped m p).notified ≡ [] → Adds m p

added : (m : Model) (p : Place) → Adds m p
added m p = go (sees m p)
  where
    go : Sees m p → Adds m p
    go (sees_ran q h r s) = adds q (rw s refl) (rw s refl)
    go (sees_passed q h r s) = keeps q (rw s refl) (rw s refl)
    go (sees_begun q h c f b s) = clears q (rw s refl)
    go (sees_rested q h l s) = clears q (rw s refl)

-- what is to be heard stays so until the close
pub notified-kept : (m : Model) (p : Place) (e : ℕ) → (kind_of m p ≡ closed → ⊥) → T (has p.notified e) → T (has (stepped m p).notified e)
notified-kept m p e n t = go (added m p)
  where
    go : Adds m p → T (has (stepped m p).notified e)
    go (adds q i l) = rw l (append-has p.notified (effect_at m p).notified e (inl t))
    go (keeps q i l) = rw l t
    go (clears q l) = absurd (n q)

module _ (m : Model) where
  -- step q runs a thread that notifies e
  abbrev pub Says : ℕ → ℕ → Type 0
  Says q e = (kind_of m (place_at m q) ≡ ran) × T (has (effect_at m (place_at m q)).notified e)

  -- what step q notified, seen at place t
  pub data Pending (q e t : ℕ) : Type 0 where
    still : (place_at m q).now ≡ (place_at m t).now → T (has (place_at m t).notified e) → Pending q e t
    over : (r : ℕ) → q < r → r < t → kind_of m (place_at m r) ≡ closed → (place_at m q).now ≡ (place_at m r).now → T (has (place_at m r).notified e) → Pending q e t

  -- who notified what is to be heard at place t
  pub record Source (e t : ℕ) : Type 0 where
    pub place : ℕ
    pub earlier : place < t
    pub says : Says place e
    pub now : (place_at m place).now ≡ (place_at m t).now
    pub unclosed : (r : ℕ) → place ≤ r → r < t → kind_of m (place_at m r) ≡ closed → ⊥

  pub pending : (t q e : ℕ) → q < t → Says q e → Pending q e t
  unfolding place_at
  pending zero q e h s = absurd (omega arith)
  pending (suc t) q e h s = go (pending t q e) (ℕ_discrete q t) (added m (place_at m t))
    where
      go : (q < t → Says q e → Pending q e t) → Dec (q ≡ t) → Adds m (place_at m t) → Pending q e (suc t)
      go ih (yes f) (adds k n l) =
          let v : T (has (effect_at m (place_at m t)).notified e) = subst (λ (x : ℕ). T (has (effect_at m (place_at m x)).notified e)) f s.1 in
          still (ap (λ (x : ℕ). (place_at m x).now) f ∙ sym n) (rw l (append-has (place_at m t).notified (effect_at m (place_at m t)).notified e (inr v)))
      go ih (yes f) (keeps k n l) = absurd (ran-not-passed (subst (λ (x : ℕ). kind_of m (place_at m x) ≡ ran) f s.0) k)
      go ih (yes f) (clears k l) = absurd (ran-not-closed (subst (λ (x : ℕ). kind_of m (place_at m x) ≡ ran) f s.0) k)
      go ih (no f) a = old (ih (omega arith) s) a
        where
          old : Pending q e t → Adds m (place_at m t) → Pending q e (suc t)
          old (over r a b k n l) _ = over r a (omega arith) k n l
          old (still n l) (adds k i w) = still (n ∙ sym i) (rw w (append-has (place_at m t).notified (effect_at m (place_at m t)).notified e (inl l)))
          old (still n l) (keeps k i w) = still (n ∙ sym i) (rw w l)
          old (still n l) (clears k w) = over t (omega arith) (omega arith) k n l

  pub source : (t e : ℕ) → T (has (place_at m t).notified e) → Source e t
  unfolding place_at
  source zero e l = absurd (has-none e (rw (start_of-notified m) at l))
  source (suc t) e l = go (source t e) (added m (place_at m t))
    where
      unclosed-more : (x : Source e t) → (kind_of m (place_at m t) ≡ closed → ⊥) → (r : ℕ) → x.place ≤ r → r < suc t → kind_of m (place_at m r) ≡ closed → ⊥
      unclosed-more x n r a b k = last (ℕ_discrete r t)
        where
          last : Dec (r ≡ t) → ⊥
          last (yes f) = n (subst (λ (i : ℕ). kind_of m (place_at m i) ≡ closed) f k)
          last (no f) = x.unclosed r a (omega arith) k

      older : Source e t → (kind_of m (place_at m t) ≡ closed → ⊥) → (stepped m (place_at m t)).now ≡ (place_at m t).now → Source e (suc t)
      older x n i =
          record { place = x.place; earlier = omega (arith, x.earlier); says = x.says; now = x.now ∙ sym i; unclosed = unclosed-more x n }

      only : (r : ℕ) → kind_of m (place_at m t) ≡ ran → t ≤ r → r < suc t → kind_of m (place_at m r) ≡ closed → ⊥
      only r k a b c = let f : r ≡ t = omega arith in ran-not-closed k (subst (λ (i : ℕ). kind_of m (place_at m i) ≡ closed) f c)

      go : (T (has (place_at m t).notified e) → Source e t) → Adds m (place_at m t) → Source e (suc t)
      go ih (adds k i w) = split (has-append (place_at m t).notified (effect_at m (place_at m t)).notified e (rw w at l))
        where
          split : T (has (place_at m t).notified e) ⊎ T (has (effect_at m (place_at m t)).notified e) → Source e (suc t)
          split (inl v) = older (ih v) (ran-not-closed k) i
          split (inr v) = record { place = t; earlier = omega arith; says = (k, v); now = sym i; unclosed = λ r a b c. only r k a b c }
      go ih (keeps k i w) = older (ih (rw w at l)) (passed-not-closed k) i
      go ih (clears k w) = absurd (has-none e (rw w at l))
