-- Earliest is what document 01 says: the least over chains, attained by one. From that alone, what the argument of `order` uses of it:
-- a ready thread's is its cycle; it is sound at its links (a logged notification, another thread's earliest plus distance);
-- and a finite one has a source, strictly sooner where the thread waits.
use Prim.Native.Nat.{ℕ, suc, ◌<◌}
use mathlib.Core.Path.{◌≡◌, refl, ap, sym, ◌∙◌, subst}
use mathlib.Core.Logic.{◌⊎◌, inl, inr}
use mathlib.Core.Bool.{not}
use mathlib.Core.List.{List}
use native.Mathlib.Nat.{zero-add}
use native.Mathlib.Omega.{arith}
use lib.Dec.{T}
use lib.ListN.{get_or}
use Rattle.base.proofs.IndexLaws.{tabulate-at}
use Rattle.clock.specs.declared.Cycle.{Cycle}
use Rattle.clock.specs.declared.Bound.{Bound}
use Rattle.clock.specs.declared.Bound.TheVariants.{Never, At}
use Rattle.clock.specs.Advance.{least, least_below, ◌⊕◌, one_delta}
use Rattle.clock.specs.Order.{Before, ◌⊑◌, ◌≼◌}
use Rattle.clock.proofs.OrderLaws.{Before-trans, Before→⊑, ≡→⊑, ⊑-Before-trans, ≼_refl, ≼_trans, ≼-antisym}
use Rattle.clock.proofs.LeastLaws.{attained-same}
use Rattle.clock.proofs.AdvanceLaws.{⊕-mono}
use Rattle.clock.proofs.RelaxLaws.{relaxed-source, relaxed-link, relaxed-attained}
use Rattle.model.specs.declared.Model.{Model}
use Rattle.model.specs.declared.State.{State}
use Rattle.model.specs.declared.Thread.{Thread}
use Rattle.model.specs.Record as view
use Rattle.model.specs.Record.{thread_at, is_live, nothing, awaited_by, view_of, View, awaited_of}
use Rattle.model.specs.Footprint.{notifies_in}
use Rattle.tables.specs.Word.{distance_in}
use Rattle.plain_laws.proofs.RecordLaws.{not-live→idle}
use Rattle.early.specs.declared.Notification.{Notification}
use Rattle.early.specs.Log.{pair_of, least_heard}
use Rattle.early.specs.Earliest.{source_of, soonest_notify, raised, link_to, Chain, source, link, IsEarliest, sources, relaxed, with_links, earliest_of}
use Rattle.early_laws.proofs.LogLaws.{In, least_heard-≼, least_heard-at}
use Rattle.early_laws.proofs.RaiseLaws.{raised-lub}
use Rattle.early_laws.proofs.LinkLaws.{one_delta-from, source_of-ready, source_of-waiting, source_of-idle, soonest_notify-≼, link_to-waiting, link_to-other, link_to-inflate, link_to-mono, link_to-from, link_to-later}

abbrev pub earliest_at : Model → List ℕ → List Notification → List Thread → ℕ → Bound
earliest_at m ws l ts k = get_or (earliest_of m ws l ts) k Never

-- its bound after so many rounds
abbrev pub linked_at : Model → List ℕ → List Notification → List Thread → ℕ → ℕ → Bound
linked_at m ws l ts i k = get_or (with_links m ws l ts i) k Never

module _ (m : Model) (ws : List ℕ) (l : List Notification) (ts : List Thread) where
  -- the form that computes it: the bounds after each round

  pub with_links-none : (k : ℕ) → k < m.t → linked_at m ws l ts 0 k ≡ source_of l (thread_at ts k).state
  unfolding with_links sources
  with_links-none k h = tabulate-at m.t 0 k (λ k. source_of l (thread_at ts k).state) Never h ∙ ap (λ (i : ℕ). source_of l (thread_at ts i).state) (zero-add k)

  pub with_links-more : (i k : ℕ) → k < m.t → linked_at m ws l ts (suc i) k ≡ least (linked_at m ws l ts i k) (least_below m.t (λ j. link_to m ws ts j k (linked_at m ws l ts i j)))
  unfolding with_links relaxed
  with_links-more i k h =
      tabulate-at m.t 0 k lowered Never h ∙ ap lowered (zero-add k)
    where
      lowered : ℕ → Bound
      lowered k = least (linked_at m ws l ts i k) (least_below m.t (λ j. link_to m ws ts j k (linked_at m ws l ts i j)))

  pub chain-below : {k : ℕ} {x : Bound} → Chain m ws l ts k x → k < m.t
  chain-below (source h) = h
  chain-below (link h c) = h

  -- "The least is over chains": T rounds reach it
  pub earliest_of-is : (k : ℕ) → k < m.t → IsEarliest m ws l ts k (earliest_at m ws l ts k)
  unfolding earliest_of
  earliest_of-is k h = record { below = below; attained = attained }
    where
      after : ℕ → ℕ → Bound
      after i k = linked_at m ws l ts i k

      first : ℕ → Bound
      first k = source_of l (thread_at ts k).state

      below : {k : ℕ} {x : Bound} → Chain m ws l ts k x → after m.t k ≼ x
      below (source {k = k} p) = relaxed-source m.t first (link_to m ws ts) after with_links-none with_links-more (link_to-later m ws ts) k p
      below (link {j = j} {k = k} {x = x} p c) =
          ≼_trans
          (after m.t k)
          (link_to m ws ts j k (after m.t j))
          (link_to m ws ts j k x)
          (relaxed-link m.t first (link_to m ws ts) after with_links-none with_links-more (link_to-later m ws ts) j k (chain-below c) p)
          (link_to-mono m ws ts j k (after m.t j) x (below c))

      attained : (after m.t k ≡ Never → ⊥) → Chain m ws l ts k (after m.t k)
      attained =
          relaxed-attained
          m.t
          first
          (link_to m ws ts)
          after
          with_links-none
          with_links-more
          (link_to-later m ws ts)
          (Chain m ws l ts)
          (λ k p. source p)
          (λ j k b p c. link p c)
          m.t
          k
          h

  -- only one bound is the least over chains
  pub is_earliest-same : (k : ℕ) (a b : Bound) → IsEarliest m ws l ts k a → IsEarliest m ws l ts k b → a ≡ b
  is_earliest-same k a b p q = attained-same (Chain m ws l ts k) a b (λ x w. p.below w) p.attained (λ x w. q.below w) q.attained

  -- two ways to use it: it is not after any chain, and it is the greatest such bound

  pub earliest-≼ : {k : ℕ} {x : Bound} → Chain m ws l ts k x → earliest_at m ws l ts k ≼ x
  earliest-≼ {k} c = (earliest_of-is k (chain-below c)).below c

  earliest-chain : (k : ℕ) (b : Cycle) → k < m.t → earliest_at m ws l ts k ≡ At b → Chain m ws l ts k (At b)
  earliest-chain k b h e =
      subst
      (Chain m ws l ts k)
      e
      ((earliest_of-is k h).attained (λ p. let z : ◌≡◌ {A = ℕ} 0 1 = cc in omega arith))

  pub earliest-glb : (k : ℕ) (y : Bound) → k < m.t → ((x : Bound) → Chain m ws l ts k x → y ≼ x) → y ≼ earliest_at m ws l ts k
  earliest-glb k y h all = go (earliest_at m ws l ts k) refl
    where
      go : (x : Bound) → earliest_at m ws l ts k ≡ x → y ≼ x
      go Never e = tt
      go (At b) e = all (At b) (earliest-chain k b h e)

  -- no sooner than what a link makes of another's
  pub earliest-relaxed : (j k : ℕ) → j < m.t → k < m.t → earliest_at m ws l ts k ≼ link_to m ws ts j k (earliest_at m ws l ts j)
  earliest-relaxed j k p h = go (earliest_at m ws l ts j) refl
    where
      go : (x : Bound) → earliest_at m ws l ts j ≡ x → earliest_at m ws l ts k ≼ link_to m ws ts j k x
      go Never e = ≼_trans (earliest_at m ws l ts k) Never (link_to m ws ts j k Never) tt (link_to-inflate m ws ts j k Never)
      go (At b) e = earliest-≼ (link h (earliest-chain j b p e))

  -- by the thread's state

  -- a chain to a thread that does not wait is its source
  chain-other : {k : ℕ} {x : Bound} → Chain m ws l ts k x → awaited_by (thread_at ts k).state ≡ nothing → source_of l (thread_at ts k).state ≼ x
  chain-other (source {k = k} h) e = ≼_refl (source_of l (thread_at ts k).state)
  chain-other (link {j = j} {k = k} {x = x} h c) e = rw (link_to-other m ws ts j k x e) tt

  earliest-other : (k : ℕ) → k < m.t → awaited_by (thread_at ts k).state ≡ nothing → earliest_at m ws l ts k ≡ source_of l (thread_at ts k).state
  earliest-other k h e =
      ≼-antisym
      (earliest_at m ws l ts k)
      (source_of l (thread_at ts k).state)
      (earliest-≼ (source h))
      (earliest-glb k (source_of l (thread_at ts k).state) h (λ x c. chain-other c e))

  -- "for a ready thread its cycle"
  pub earliest-ready : (k : ℕ) (c : Cycle) → k < m.t → view_of (thread_at ts k).state ≡ view.ready c → earliest_at m ws l ts k ≡ At c
  earliest-ready k c h e = earliest-other k h (ap awaited_of e) ∙ source_of-ready l (thread_at ts k).state c e

  pub earliest-idle : (k : ℕ) → k < m.t → T (not (is_live (thread_at ts k).state)) → earliest_at m ws l ts k ≡ Never
  earliest-idle k h t =
      earliest-other k h (ap awaited_of (not-live→idle (view_of (thread_at ts k).state) t)) ∙ source_of-idle l (thread_at ts k).state t

  -- "the delta after a logged notification of its event not before its wait began"
  pub earliest-heard : (k e : ℕ) (since : Cycle) (x : Notification) → k < m.t → view_of (thread_at ts k).state ≡ view.waits e since → In x l → x.event ≡ e → since ⊑ x.cycle → earliest_at m ws l ts k ≼ At x.cycle ⊕ one_delta
  earliest-heard k e since x h w i p q =
      ≼_trans
      (earliest_at m ws l ts k)
      (least_heard l e since ⊕ one_delta)
      (At x.cycle ⊕ one_delta)
      (subst
      (λ (b : Bound). earliest_at m ws l ts k ≼ b)
      (source_of-waiting l (thread_at ts k).state e since w)
      (earliest-≼ (source h)))
      (⊕-mono (least_heard l e since) (At x.cycle) one_delta one_delta (least_heard-≼ l e since x i p q) (≼_refl one_delta))

  -- "one delta after that thread's earliest plus the distance to a segment notifying the event": of a bound that is not before that sum, nor
  -- before the wait
  pub earliest-link : (k e : ℕ) (since : Cycle) (j s : ℕ) (y : Bound) → k < m.t → view_of (thread_at ts k).state ≡ view.waits e since → j < m.t → T (is_live (thread_at ts j).state) → s < m.n → T (notifies_in m j s e)
      → At since ≼ y → earliest_at m ws l ts j ⊕ distance_in m ws (thread_at ts j).segment s ≼ y → earliest_at m ws l ts k ≼ y ⊕ one_delta
  earliest-link k e since j s y h w p live q t begun sum =
      ≼_trans
      (earliest_at m ws l ts k)
      (raised since x ⊕ one_delta)
      (y ⊕ one_delta)
      (subst
      (λ (z : Bound). earliest_at m ws l ts k ≼ z)
      (link_to-waiting m ws ts j k e since (earliest_at m ws l ts j) w)
      (earliest-relaxed j k p h))
      (⊕-mono
      (raised since x)
      y
      one_delta
      one_delta
      (raised-lub
      since
      x
      y
      begun
      (≼_trans x (earliest_at m ws l ts j ⊕ distance_in m ws (thread_at ts j).segment s) y (soonest_notify-≼ m ws ts j (earliest_at m ws l ts j) e s live q t) sum))
      (≼_refl one_delta))
    where
      x : Bound
      x = soonest_notify m ws ts j (earliest_at m ws l ts j) e

  -- thread j is ready at a cycle that is not after b, and before it where thread k waits
  abbrev pub FromReady : ℕ → Cycle → Type 0
  FromReady k b = (j : ℕ) × (c : Cycle) × (j < m.t) × (view_of (thread_at ts j).state ≡ view.ready c) × (c ⊑ b) × ((e : ℕ) (since : Cycle) → view_of (thread_at ts k).state ≡ view.waits e since → Before c b)

  -- thread j waits, and can hear what is logged at a cycle before b
  abbrev pub FromLogged : Cycle → Type 0
  FromLogged b = (j : ℕ) × (e : ℕ) × (since : Cycle) × (x : Notification) × (j < m.t) × (view_of (thread_at ts j).state ≡ view.waits e since) × In x l × (x.event ≡ e) × (since ⊑ x.cycle) × Before x.cycle b

  source-attained : (k : ℕ) (b : Cycle) → k < m.t → source_of l (thread_at ts k).state ≡ At b → FromReady k b ⊎ FromLogged b
  source-attained k b h p = go (view_of s) refl
    where
      s : State
      s = (thread_at ts k).state

      no-cycle : Never ≡ At b → ⊥
      no-cycle e = let z : ◌≡◌ {A = ℕ} 0 1 = cc in omega arith

      go : (v : View) → view_of s ≡ v → FromReady k b ⊎ FromLogged b
      go view.idle w = absurd (no-cycle (sym (source_of-idle l s (rw w tt)) ∙ p))
      go (view.ready c) w =
          let f : At c ≡ At b = sym (source_of-ready l s c w) ∙ p in
          let g : c ≡ b = cc in
          inl (k, c, h, w, ≡→⊑ g, λ e since u. let z : ◌≡◌ {A = ℕ} 0 1 = cc in absurd (omega arith))
      go (view.waits e since) w =
          let (c, f, before) = one_delta-from (least_heard l e since) b (sym (source_of-waiting l s e since w) ∙ p) in
          let (i, r) = least_heard-at l e since c f in
          inr (k, e, since, pair_of e c, h, w, i, refl, r, before)

  chain-attained : {k : ℕ} {x : Bound} → Chain m ws l ts k x → (b : Cycle) → x ≡ At b → FromReady k b ⊎ FromLogged b
  chain-attained (source {k = k} h) b p = source-attained k b h p
  chain-attained (link {j = j} {k = k} {x = x} h c) b p = go (link_to-from m ws ts j k x b p) (λ d q. chain-attained c d q)
    where
      go : (d : Cycle) × (x ≡ At d) × Before d b → ((d : Cycle) → x ≡ At d → FromReady j d ⊎ FromLogged d) → FromReady k b ⊎ FromLogged b
      go (d, q, before) ih = step (ih d q)
        where
          step : FromReady j d ⊎ FromLogged d → FromReady k b ⊎ FromLogged b
          step (inl (i, a, u, w, r, s)) =
              let sooner = ⊑-Before-trans r before in
              inl (i, a, u, w, Before→⊑ sooner, λ e since v. sooner)
          step (inr (i, e, since, y, u, w, v, f, r, s)) = inr (i, e, since, y, u, w, v, f, r, Before-trans s before)

  -- "chains that begin at a ready thread or a logged notification"
  pub earliest-attained : (k : ℕ) (b : Cycle) → k < m.t → earliest_at m ws l ts k ≡ At b → FromReady k b ⊎ FromLogged b
  earliest-attained k b h e = chain-attained (earliest-chain k b h e) b refl
