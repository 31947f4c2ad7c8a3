-- The table of `rounds` holds the least advance over all paths, for every graph whose steps are bounds.
-- First `least_via`, the table as a function: at most each of its parts (`least_via-triangle`, with no path in sight), so at most every path
-- (`least_via-below`), and the advance of one, if it is not never (`least_via-attained`). Then `rounds-least`, and that a least is one only.
use Prim.Native.Nat.{ℕ, zero, suc, ◌≤◌, ◌<◌}
use mathlib.Core.Path.{◌≡◌, ap, ◌∙◌, subst}
use mathlib.Core.Logic.{◌⊎◌, inl, inr}
use mathlib.Core.List.{[]}
use native.Mathlib.Omega.{arith}
use native.Mathlib.Nat.{zero-add}
use native.Mathlib.Decide.{ℕ_discrete}
use lib.Dec.{eqb, eqb_refl, eqb→eq}
use Rattle.base.specs.Index.{tabulate}
use Rattle.base.proofs.BoolLaws.{T→true, cond-case}
use Rattle.base.proofs.IndexLaws.{tabulate-at}
use Rattle.clock.specs.declared.Bound.{Bound}
use Rattle.clock.specs.declared.Bound.TheVariants.{Never, At}
use Rattle.clock.specs.Order.{◌≼◌}
use Rattle.clock.specs.Advance.{least, ◌⊕◌, no_advance}
use Rattle.clock.proofs.OrderLaws.{At-not-Never, ≼_refl, ≼_trans, ≼-antisym}
use Rattle.clock.proofs.LeastLaws.{least-left, least-right, least-case, least-glb, attained-same}
use Rattle.clock.proofs.AdvanceLaws.{⊕-assoc, ⊕-mono, ⊕-inflate, ⊕-inflate-right, no_advance-⊕, ⊕-no_advance, no_advance-≼, Never-⊕, ⊕-Never}
use Rattle.tables.specs.Distance.{GraphPath, here, step, IsLeast, cell, square, direct, through_place, rounds}

-- a path from r to s with only places below k between
pub data Via (E : ℕ → ℕ → Bound) (k : ℕ) : ℕ → ℕ → Bound → Type 0 where
  none : {r : ℕ} → Via E k r r no_advance
  last : {r s : ℕ} → Via E k r s (E r s)
  over : {r s t : ℕ} {w : Bound} → s < k → Via E k s t w → Via E k r t (E r s ⊕ w)

module _ (E : ℕ → ℕ → Bound) where
  -- the least over paths with only the places below k between
  unfoldable pub least_via : ℕ → ℕ → ℕ → Bound
  least_via zero r s = direct E r s
  least_via (suc k) r s = least (least_via k r s) (least_via k r k ⊕ least_via k k s)

  pub least_via-more : (k r s : ℕ) → least_via (suc k) r s ≼ least_via k r s
  unfolding least_via
  least_via-more k r s = least-left (least_via k r s) (least_via k r k ⊕ least_via k k s)

  least_via-none : (k r : ℕ) → least_via k r r ≼ no_advance
  unfolding least_via direct
  least_via-none zero r = rw (T→true (eqb r r) (eqb_refl r)) (≼_refl no_advance)
  least_via-none (suc k) r = ≼_trans (least_via (suc k) r r) (least_via k r r) no_advance (least_via-more k r r) (least_via-none k r)

  -- "0 to itself"
  pub least_via-self : (k r : ℕ) → least_via k r r ≡ no_advance
  least_via-self k r = ≼-antisym (least_via k r r) no_advance (least_via-none k r) (no_advance-≼ (least_via k r r))

  -- a detour over k on the way to k, or from k, is none
  pub least_via-column : (k r : ℕ) → least_via (suc k) r k ≡ least_via k r k
  unfolding least_via
  least_via-column k r = ≼-antisym (least_via (suc k) r k) (least_via k r k) (least_via-more k r k) go
    where
      go : least_via k r k ≼ least_via (suc k) r k
      go = least-glb (least_via k r k) (least_via k r k) (least_via k r k ⊕ least_via k k k) (≼_refl (least_via k r k)) (⊕-inflate (least_via k r k) (least_via k k k))

  pub least_via-row : (k s : ℕ) → least_via (suc k) k s ≡ least_via k k s
  unfolding least_via
  least_via-row k s = ≼-antisym (least_via (suc k) k s) (least_via k k s) (least_via-more k k s) go
    where
      go : least_via k k s ≼ least_via (suc k) k s
      go = least-glb (least_via k k s) (least_via k k s) (least_via k k k ⊕ least_via k k s) (≼_refl (least_via k k s)) (⊕-inflate-right (least_via k k k) (least_via k k s))

  -- By induction on k. Where m is the new place, the two parts are as they were. Else each part is as it was or goes over k, and then the
  -- whole goes over k as well: what lies between, from k back to k or from k over m, is dropped or taken by the induction.
  pub least_via-triangle : (k r m s : ℕ) → m < k → least_via k r s ≼ least_via k r m ⊕ least_via k m s
  unfolding least_via
  least_via-triangle zero r m s h = absurd (omega arith)
  least_via-triangle (suc k) r m s h = go (λ a c h. least_via-triangle k a m c h) (ℕ_discrete m k)
    where
      A : ℕ → ℕ → Bound
      A a b = least_via k a b

      L : Bound
      L = least_via (suc k) r s

      as_it_was : L ≼ A r s
      as_it_was = least-left (A r s) (A r k ⊕ A k s)

      over-k : L ≼ A r k ⊕ A k s
      over-k = least-right (A r s) (A r k ⊕ A k s)

      go : ((a c : ℕ) → m < k → A a c ≼ A a m ⊕ A m c) → Dec (m ≡ k) → L ≼ least_via (suc k) r m ⊕ least_via (suc k) m s
      go ih (yes e) =
          rw (e, least_via-column k r, least_via-row k s) over-k
      go ih (no e) =
          let h' : m < k = omega arith in
          least-case (λ x. L ≼ x ⊕ least (A m s) (A m k ⊕ A k s)) (A r m) (A r k ⊕ A k m)
          (least-case (λ y. L ≼ A r m ⊕ y) (A m s) (A m k ⊕ A k s)
          (≼_trans L (A r s) (A r m ⊕ A m s) as_it_was (ih r s h'))
          (≼_trans L (A r k ⊕ A k s) (A r m ⊕ (A m k ⊕ A k s)) over-k
          (rw (← ⊕-assoc (A r m) (A m k) (A k s)) (⊕-mono (A r k) (A r m ⊕ A m k) (A k s) (A k s) (ih r k h') (≼_refl (A k s))))))
          (least-case (λ y. L ≼ A r k ⊕ A k m ⊕ y) (A m s) (A m k ⊕ A k s)
          (≼_trans L (A r k ⊕ A k s) (A r k ⊕ A k m ⊕ A m s) over-k
          (rw (⊕-assoc (A r k) (A k m) (A m s)) (⊕-mono (A r k) (A r k) (A k s) (A k m ⊕ A m s) (≼_refl (A r k)) (ih k s h'))))
          (≼_trans L (A r k ⊕ A k s) (A r k ⊕ A k m ⊕ (A m k ⊕ A k s)) over-k
          (⊕-mono (A r k) (A r k ⊕ A k m) (A k s) (A m k ⊕ A k s) (⊕-inflate (A r k) (A k m)) (⊕-inflate-right (A m k) (A k s)))))

  pub least_via-step : (k r s : ℕ) → least_via k r s ≼ E r s
  unfolding least_via direct
  least_via-step zero r s = cond-case (λ x. x ≼ E r s) (eqb r s) (λ t. no_advance-≼ (E r s)) (λ t. ≼_refl (E r s))
  least_via-step (suc k) r s = ≼_trans (least_via (suc k) r s) (least_via k r s) (E r s) (least_via-more k r s) (least_via-step k r s)

  -- a step to a place below k, then the rest
  pub least_via-after : (k r s t : ℕ) → s < k → least_via k r t ≼ E r s ⊕ least_via k s t
  least_via-after k r s t h =
      ≼_trans (least_via k r t) (least_via k r s ⊕ least_via k s t) (E r s ⊕ least_via k s t) (least_via-triangle k r s t h)
      (⊕-mono (least_via k r s) (E r s) (least_via k s t) (least_via k s t) (least_via-step k r s) (≼_refl (least_via k s t)))

  -- at most the advance of every path
  pub least_via-below : (k : ℕ) {r t : ℕ} {w : Bound} → Via E k r t w → least_via k r t ≼ w
  least_via-below k (none {r = r}) = least_via-none k r
  least_via-below k (last {r = r} {s = s}) = least_via-step k r s
  least_via-below k (over {r = r} {s = s} {t = t} {w = w} h p) =
      ≼_trans (least_via k r t) (E r s ⊕ least_via k s t) (E r s ⊕ w) (least_via-after k r s t h)
      (⊕-mono (E r s) (E r s) (least_via k s t) w (≼_refl (E r s)) (least_via-below k p))

  pub Via-wider : {k n r s : ℕ} {w : Bound} → k ≤ n → Via E k r s w → Via E n r s w
  Via-wider h none = none
  Via-wider h last = last
  Via-wider {k} {n} h (over {s = m} l p) = let h' : m < n = omega arith in over h' (Via-wider h p)

  -- two paths that Meet at a place below k
  pub Via-join : {k r s t : ℕ} {u v : Bound} → s < k → Via E k r s u → Via E k s t v → Via E k r t (u ⊕ v)
  Via-join h none q = rw no_advance-⊕ q
  Via-join h last q = over h q
  Via-join h (over l p) q = rw ⊕-assoc (over l (Via-join h p q))

  -- never, or the advance of some path
  pub least_via-path : (k r s : ℕ) → (least_via k r s ≡ Never) ⊎ Via E k r s (least_via k r s)
  unfolding least_via direct
  least_via-path zero r s =
      cond-case (λ x. (x ≡ Never) ⊎ Via E 0 r s x) (eqb r s)
      (λ t. inr (subst (λ x. Via E 0 r x no_advance) (eqb→eq r s t) none)) (λ t. inr last)
  least_via-path (suc k) r s =
      least-case (λ x. (x ≡ Never) ⊎ Via E (suc k) r s x) (least_via k r s) (least_via k r k ⊕ least_via k k s)
      (wider (least_via-path k r s))
      (both (wider (least_via-path k r k)) (wider (least_via-path k k s)))
    where
      wider : {a b : ℕ} {x : Bound} → (x ≡ Never) ⊎ Via E k a b x → (x ≡ Never) ⊎ Via E (suc k) a b x
      wider (inl e) = inl e
      wider (inr p) = inr (Via-wider (omega arith) p)

      both : {u v : Bound} → (u ≡ Never) ⊎ Via E (suc k) r k u → (v ≡ Never) ⊎ Via E (suc k) k s v → ((u ⊕ v) ≡ Never) ⊎ Via E (suc k) r s (u ⊕ v)
      both (inl e) q = inl (rw (e, Never-⊕))
      both (inr p) (inl e) = inl (rw (e, ⊕-Never))
      both (inr p) (inr q) = inr (Via-join (omega arith) p q)

  -- a path over places below n and one with only such places between, to a place below n
  pub GraphPath→Via : {n r s : ℕ} {w : Bound} → GraphPath n E r s w → Via E n r s w
  GraphPath→Via here = none
  GraphPath→Via (step h p) = over h (GraphPath→Via p)

  pub Via→GraphPath : {n r s : ℕ} {w : Bound} → s < n → Via E n r s w → GraphPath n E r s w
  Via→GraphPath h none = here
  Via→GraphPath {n} h (last {r = r} {s = s}) = let p : GraphPath n E r s (E r s ⊕ no_advance) = step h here in rw ⊕-no_advance at p
  Via→GraphPath h (over l p) = step l (Via→GraphPath h p)

  pub least_via-least : (n r s : ℕ) → s < n → IsLeast n E r s (least_via n r s)
  least_via-least n r s h = record { below = λ p. least_via-below n (GraphPath→Via p); attained = λ other. go other (least_via-path n r s) }
    where
      go : (least_via n r s ≡ Never → ⊥) → (least_via n r s ≡ Never) ⊎ Via E n r s (least_via n r s) → GraphPath n E r s (least_via n r s)
      go other (inl e) = absurd (other e)
      go other (inr p) = Via→GraphPath h p

-- the table holds what the function says

pub cell-square : (n : ℕ) (f : ℕ → ℕ → Bound) (r s : ℕ) → r < n → s < n → cell (square n f) r s ≡ f r s
unfolding cell square
cell-square n f r s h k =
    rw (tabulate-at n 0 r (λ r. tabulate n 0 (λ s. f r s)) [] h, zero-add)
    (tabulate-at n 0 s (λ s. f r s) Never k ∙ ap (λ (x : ℕ). f r x) (zero-add s))

pub rounds-least_via : (n : ℕ) (E : ℕ → ℕ → Bound) (k r s : ℕ) → k ≤ n → r < n → s < n → cell (rounds n E k) r s ≡ least_via E k r s
unfolding rounds least_via through_place
rounds-least_via n E zero r s h p q = cell-square n (direct E) r s p q
rounds-least_via n E (suc k) r s h p q =
    cell-square n (through_place (rounds n E k) k) r s p q
    ∙ rw (rounds-least_via n E k r s (omega arith) p q, rounds-least_via n E k r k (omega arith) p (omega arith), rounds-least_via n E k k s (omega arith) (omega arith) q)

pub rounds-least : (n : ℕ) (E : ℕ → ℕ → Bound) (r s : ℕ) → r < n → s < n → IsLeast n E r s (cell (rounds n E n) r s)
rounds-least n E r s p q = rw (rounds-least_via n E n r s (omega arith) p q) (least_via-least E n r s q)

-- there is one least only
pub IsLeast-unique : {n : ℕ} {E : ℕ → ℕ → Bound} {r s : ℕ} {a b : Bound} → IsLeast n E r s a → IsLeast n E r s b → a ≡ b
IsLeast-unique {n} {E} {r} {s} {a} {b} p q = attained-same (GraphPath n E r s) a b (λ x w. p.below w) p.attained (λ x w. q.below w) q.attained

-- the least of a path in two parts, and of a path with a step in front or behind

pub GraphPath-join : {n : ℕ} {E : ℕ → ℕ → Bound} {r s t : ℕ} {u v : Bound} → GraphPath n E r s u → GraphPath n E s t v → GraphPath n E r t (u ⊕ v)
GraphPath-join here q = rw no_advance-⊕ q
GraphPath-join (step l p) q = rw ⊕-assoc (step l (GraphPath-join p q))

pub GraphPath-step : {n : ℕ} {E : ℕ → ℕ → Bound} (r s : ℕ) → s < n → GraphPath n E r s (E r s)
GraphPath-step {n} {E} r s h = let p : GraphPath n E r s (E r s ⊕ no_advance) = step h here in rw ⊕-no_advance at p

module _ {n : ℕ} {E : ℕ → ℕ → Bound} {r m s : ℕ} where
  pub IsLeast-triangle : (a b c : Bound) → IsLeast n E r s a → IsLeast n E r m b → IsLeast n E m s c → a ≼ b ⊕ c
  unfolding ◌⊕◌
  IsLeast-triangle a Never c p q l = tt
  IsLeast-triangle a (At b) Never p q l = tt
  IsLeast-triangle a (At b) (At c) p q l = p.below (GraphPath-join (q.attained (λ e. At-not-Never e)) (l.attained (λ e. At-not-Never e)))

  pub IsLeast-step : (a c : Bound) → m < n → IsLeast n E r s a → IsLeast n E m s c → a ≼ E r m ⊕ c
  unfolding ◌⊕◌
  IsLeast-step a Never h p l = rw (⊕-Never (E r m)) tt
  IsLeast-step a (At c) h p l = p.below (step h (l.attained (λ e. At-not-Never e)))

  pub IsLeast-after : (a b : Bound) → s < n → IsLeast n E r s a → IsLeast n E r m b → a ≼ b ⊕ E m s
  unfolding ◌⊕◌
  IsLeast-after a Never h p q = tt
  IsLeast-after a (At b) h p q = p.below (GraphPath-join (q.attained (λ e. At-not-Never e)) (GraphPath-step m s h))

-- "0 to itself"
pub IsLeast-self : {n : ℕ} {E : ℕ → ℕ → Bound} {r : ℕ} {a : Bound} → IsLeast n E r r a → a ≡ no_advance
IsLeast-self {a = a} p = ≼-antisym a no_advance (p.below here) (no_advance-≼ a)
