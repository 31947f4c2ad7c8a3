-- The hazard test read as a fact: without a hazard no other live thread comes, at a smaller stamp by earliest plus distance, to a segment
-- that is in conflict, by a mark or through a port; with one, some thread does.
use Prim.Native.Nat.{ℕ, ◌<◌}
use mathlib.Core.Path.{◌≡◌, refl, sym, ◌∙◌, subst}
use mathlib.Core.Logic.{inl, inr}
use mathlib.Core.Bool.{Bool, true, false, not, ◌&&◌}
use mathlib.Core.List.{List}
use lib.Dec.{T, eqb, eqb→eq, not_T, T_not}
use Rattle.base.specs.Index.{any_below}
use Rattle.base.proofs.BoolLaws.{T→true, T→false, true→T, and→both, both→and, eq→eqb}
use Rattle.base.proofs.IndexLaws.{any_below-found, any_below-some}
use Rattle.clock.specs.declared.Cycle.{Cycle}
use Rattle.clock.specs.declared.Bound.{Bound}
use Rattle.clock.specs.declared.Bound.TheVariants.{Never, At}
use Rattle.clock.specs.Cycle.{stamp_at}
use Rattle.clock.specs.Advance.{◌⊕◌}
use Rattle.clock.specs.Order.{Before, ◌≼◌}
use Rattle.clock.proofs.OrderLaws.{⊑-Before-trans, Three, before, same, after, Before-total, Before→not-⊑}
use Rattle.clock.proofs.CycleLaws.{StampBefore, is_stamp_before→, →is_stamp_before}
use Rattle.model.specs.declared.Model.{Model}
use Rattle.model.specs.declared.Thread.{Thread}
use Rattle.model.specs.Record.{thread_at, is_live}
use Rattle.tables.specs.Word.{distance_in}
use Rattle.early.specs.declared.Notification.{Notification}
use Rattle.early.specs.Hazard.{threads_conflict, is_sooner, threatens, hazard}
use Rattle.early_laws.proofs.EarliestLaws.{earliest_at}

-- "at a smaller stamp"

pub is_sooner→ : (b : Bound) (j : ℕ) (c : Cycle) (i : ℕ) → T (is_sooner b j (stamp_at c i)) → (d : Cycle) × (b ≡ At d) × StampBefore (stamp_at d j) (stamp_at c i)
unfolding is_sooner
is_sooner→ Never j c i t = absurd t
is_sooner→ (At d) j c i t = (d, refl, is_stamp_before→ (stamp_at d j) (stamp_at c i) t)

-- a bound that is not after a cycle whose stamp is smaller
pub →is_sooner : (b : Bound) (d : Cycle) (j : ℕ) (c : Cycle) (i : ℕ) → b ≼ At d → StampBefore (stamp_at d j) (stamp_at c i) → T (is_sooner b j (stamp_at c i))
unfolding is_sooner
→is_sooner Never d j c i h s = absurd h
→is_sooner (At a) d j c i h s = →is_stamp_before (stamp_at a j) (stamp_at c i) (go (Before-total a d) s)
  where
    go : Three a d → StampBefore (stamp_at d j) (stamp_at c i) → StampBefore (stamp_at a j) (stamp_at c i)
    go (before p) (inl q) = inl (⊑-Before-trans h q)
    go (before p) (inr (e, q)) = inl (subst (λ (x : Cycle). Before a x) e p)
    go (same p) r = subst (λ (x : Cycle). StampBefore (stamp_at x j) (stamp_at c i)) (sym p) r
    go (after p) r = absurd (Before→not-⊑ p h)

-- thread j, at earliest plus distance, comes to segment s at a smaller stamp, and s is in conflict with what thread i asks for
pub record Threat (m : Model) (marks : List (List Bool)) (ws : List ℕ) (l : List Notification) (ts : List Thread) (i : ℕ) (c : Cycle) (j s : ℕ) : Type 0 where
  pub thread : j < m.t
  pub other : j ≡ i → ⊥
  pub live : T (is_live (thread_at ts j).state)
  pub segment : s < m.n
  pub marked : T (threads_conflict m marks i (thread_at ts i).segment j s)
  pub sooner : T (is_sooner (earliest_at m ws l ts j ⊕ distance_in m ws (thread_at ts j).segment s) j (stamp_at c i))

module _ (m : Model) (marks : List (List Bool)) (ws : List ℕ) (l : List Notification) (ts : List Thread) (i : ℕ) (c : Cycle) where
  -- by one segment of thread j, and by thread j
  threat_at : ℕ → ℕ → Bool
  threat_at j s = threads_conflict m marks i (thread_at ts i).segment j s && is_sooner (earliest_at m ws l ts j ⊕ distance_in m ws (thread_at ts j).segment s) j (stamp_at c i)

  threat_by : ℕ → Bool
  threat_by j = (not (eqb j i) && is_live (thread_at ts j).state) && threatens m marks ws ts i c j (earliest_at m ws l ts j)

  threatens-is : (j : ℕ) → threatens m marks ws ts i c j (earliest_at m ws l ts j) ≡ any_below m.n (threat_at j)
  unfolding threatens threat_at
  threatens-is j = refl

  hazard-is : hazard m marks ws l ts i c ≡ any_below m.t threat_by
  unfolding hazard threat_by
  hazard-is = refl

  pub threat→hazard : (j s : ℕ) → Threat m marks ws l ts i c j s → hazard m marks ws l ts i c ≡ true
  unfolding threat_by threat_at
  threat→hazard j s t =
      hazard-is
      ∙ T→true (any_below m.t threat_by) (any_below-found m.t threat_by j t.thread by)
    where
      at : T (threat_at j s)
      at = both→and (threads_conflict m marks i (thread_at ts i).segment j s) (is_sooner (earliest_at m ws l ts j ⊕ distance_in m ws (thread_at ts j).segment s) j (stamp_at c i)) t.marked t.sooner

      by : T (threat_by j)
      by =
          both→and
          (not (eqb j i) && is_live (thread_at ts j).state)
          (threatens m marks ws ts i c j (earliest_at m ws l ts j))
          (both→and (not (eqb j i)) (is_live (thread_at ts j).state) (not_T (eqb j i) (λ e. t.other (eqb→eq j i e))) t.live)
          (subst T (sym (threatens-is j)) (any_below-found m.n (threat_at j) s t.segment at))

  pub hazard→threat : hazard m marks ws l ts i c ≡ true → (j : ℕ) × (s : ℕ) × Threat m marks ws l ts i c j s
  unfolding threat_by threat_at
  hazard→threat e =
      let (j, h, t) = any_below-some m.t threat_by (true→T (any_below m.t threat_by) (sym hazard-is ∙ e)) in
      let (p, q) = and→both (not (eqb j i) && is_live (thread_at ts j).state) (threatens m marks ws ts i c j (earliest_at m ws l ts j)) t in
      let (a, b) = and→both (not (eqb j i)) (is_live (thread_at ts j).state) p in
      let (s, k, u) = any_below-some m.n (threat_at j) (subst T (threatens-is j) q) in
      let (x, y) = and→both (threads_conflict m marks i (thread_at ts i).segment j s) (is_sooner (earliest_at m ws l ts j ⊕ distance_in m ws (thread_at ts j).segment s) j (stamp_at c i)) u in
      (j, s, record { thread = h; other = λ f. T_not (eqb j i) a (eq→eqb j i f); live = b; segment = k; marked = x; sooner = y })

  -- without a hazard
  pub no_hazard : hazard m marks ws l ts i c ≡ false → (j s : ℕ) → j < m.t → (j ≡ i → ⊥) → T (is_live (thread_at ts j).state) → s < m.n → T (threads_conflict m marks i (thread_at ts i).segment j s)
      → is_sooner (earliest_at m ws l ts j ⊕ distance_in m ws (thread_at ts j).segment s) j (stamp_at c i) ≡ false
  no_hazard e j s h other live p t = T→false sooner (not_T sooner contrary)
    where
      sooner : Bool
      sooner = is_sooner (earliest_at m ws l ts j ⊕ distance_in m ws (thread_at ts j).segment s) j (stamp_at c i)

      contrary : T sooner → ⊥
      contrary u =
          let f = threat→hazard j s (record { thread = h; other = other; live = live; segment = p; marked = t; sooner = u }) in
          true-not-false (sym f ∙ e)
        where
          true-not-false : true ≡ false → ⊥
          true-not-false g = subst T g tt
