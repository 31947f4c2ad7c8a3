-- What a chain is made of: where it begins, at a ready thread or a logged notification, and what a link adds.
-- A link never lowers a bound, makes every cycle strictly later, and keeps the order of bounds.
use Prim.Native.Nat.{ℕ, ◌<◌}
use mathlib.Core.Path.{◌≡◌, refl, sym, ◌∙◌, subst}
use mathlib.Core.Logic.{◌⊎◌, inl, inr}
use mathlib.Core.Bool.{Bool, cond, not}
use mathlib.Core.List.{List}
use native.Mathlib.Omega.{arith}
use lib.Dec.{T}
use Rattle.base.proofs.BoolLaws.{T-case, cond-case, T→true, T→false}
use Rattle.clock.specs.declared.Cycle.{Cycle}
use Rattle.clock.specs.declared.Bound.{Bound}
use Rattle.clock.specs.declared.Bound.TheVariants.{Never, At}
use Rattle.clock.specs.Advance.{least_below, ◌⊕◌, one_delta}
use Rattle.clock.specs.Order.{Before, ◌⊑◌, ◌≼◌}
use Rattle.clock.proofs.OrderLaws.{⊑-total, ⊑-Before-trans, Before→not-⊑, ≼_refl, ≼_trans}
use Rattle.clock.proofs.LeastLaws.{least-Never-left, least-Never-right, least_below-≼, least_below-one, least_below-glb}
use Rattle.clock.proofs.AdvanceLaws.{⊕-mono, ⊕-inflate, Never-⊕, one_delta-later}
use Rattle.clock.proofs.RelaxLaws.{Sooner}
use Rattle.model.specs.declared.Model.{Model}
use Rattle.model.specs.declared.State.{State}
use Rattle.model.specs.declared.Thread.{Thread}
use Rattle.model.specs.Record as view
use Rattle.model.specs.Record.{thread_at, is_live, Awaited, nothing, awaits, awaited_by, view_of}
use Rattle.model.specs.Footprint.{notifies_in}
use Rattle.tables.specs.Word.{distance_in}
use Rattle.plain_laws.proofs.RecordLaws.{not-live→idle}
use Rattle.early.specs.declared.Notification.{Notification}
use Rattle.early.specs.Log.{least_heard}
use Rattle.early.specs.Earliest.{after_heard, source_of, soonest_notify, raised, after_notify, link_to}
use Rattle.early_laws.proofs.RaiseLaws.{raised-inflate, raised-mono}

-- one delta after

-- a delta after a bound that comes to a cycle: the bound is a cycle, and before it
pub one_delta-from : (x : Bound) (b : Cycle) → x ⊕ one_delta ≡ At b → (d : Cycle) × (x ≡ At d) × Before d b
one_delta-from Never b e = let z : Never ≡ At b = sym (Never-⊕ one_delta) ∙ e in let y : ◌≡◌ {A = ℕ} 0 1 = cc in absurd (omega arith)
one_delta-from (At d) b e = (d, refl, go (⊑-total b d))
  where
    go : (b ⊑ d) ⊎ Before d b → Before d b
    go (inl h) = absurd (one_delta-later d (subst (λ (x : Bound). x ≼ At d) (sym e) h))
    go (inr h) = h

-- where a chain begins

pub source_of-ready : (l : List Notification) (s : State) (c : Cycle) → view_of s ≡ view.ready c → source_of l s ≡ At c
unfolding source_of after_heard
source_of-ready l s c e = rw e (least-Never-right (At c))

pub source_of-waiting : (l : List Notification) (s : State) (e : ℕ) (since : Cycle) → view_of s ≡ view.waits e since → source_of l s ≡ least_heard l e since ⊕ one_delta
unfolding source_of after_heard
source_of-waiting l s e since w = rw w (least-Never-left (least_heard l e since ⊕ one_delta))

pub source_of-idle : (l : List Notification) (s : State) → T (not (is_live s)) → source_of l s ≡ Never
unfolding source_of after_heard
source_of-idle l s t = rw (not-live→idle (view_of s) t) (least-Never-left Never)

-- the soonest notification of an event by one thread, no sooner than a bound

-- by segment s, if it is listed there
notify_in : Model → List ℕ → List Thread → ℕ → Bound → ℕ → ℕ → Bound
notify_in m ws ts k x e s = cond (notifies_in m k s e) (x ⊕ distance_in m ws (thread_at ts k).segment s) Never

module _ (m : Model) (ws : List ℕ) (ts : List Thread) (k : ℕ) where
  notify-live : (x : Bound) (e : ℕ) → T (is_live (thread_at ts k).state) → soonest_notify m ws ts k x e ≡ least_below m.n (notify_in m ws ts k x e)
  unfolding soonest_notify notify_in
  notify-live x e t = rw (T→true (is_live (thread_at ts k).state) t) refl

  pub soonest_notify-idle : (x : Bound) (e : ℕ) → T (not (is_live (thread_at ts k).state)) → soonest_notify m ws ts k x e ≡ Never
  unfolding soonest_notify
  soonest_notify-idle x e t = rw (T→false (is_live (thread_at ts k).state) t) refl

  pub soonest_notify-≼ : (x : Bound) (e s : ℕ) → T (is_live (thread_at ts k).state) → s < m.n → T (notifies_in m k s e) → soonest_notify m ws ts k x e ≼ x ⊕ distance_in m ws (thread_at ts k).segment s
  unfolding notify_in
  soonest_notify-≼ x e s live h t =
      rw
      (notify-live x e live)
      (subst
      (λ (b : Bool). least_below m.n (notify_in m ws ts k x e) ≼ cond b (x ⊕ distance_in m ws (thread_at ts k).segment s) Never)
      (T→true (notifies_in m k s e) t)
      (least_below-≼ m.n (notify_in m ws ts k x e) s h))

  -- it is the sum for a segment that is listed, or never
  pub soonest_notify-one : (x : Bound) (e : ℕ) (b : Cycle) → soonest_notify m ws ts k x e ≡ At b → T (is_live (thread_at ts k).state) × ((s : ℕ) × (s < m.n) × T (notifies_in m k s e) × (x ⊕ distance_in m ws (thread_at ts k).segment s ≡ At b))
  unfolding notify_in
  soonest_notify-one x e b p = go (T-case (is_live (thread_at ts k).state))
    where
      Found : Type 0
      Found = (s : ℕ) × (s < m.n) × T (notifies_in m k s e) × (x ⊕ distance_in m ws (thread_at ts k).segment s ≡ At b)

      never : Never ≡ At b → ⊥
      never q = let z : ◌≡◌ {A = ℕ} 0 1 = cc in omega arith

      listed : (s : ℕ) → s < m.n → notify_in m ws ts k x e s ≡ At b → Found
      listed s h =
          cond-case
          (λ (y : Bound). y ≡ At b → Found)
          (notifies_in m k s e)
          (λ t q. (s, h, t, q))
          (λ t q. absurd (never q))

      one : least_below m.n (notify_in m ws ts k x e) ≡ At b → (least_below m.n (notify_in m ws ts k x e) ≡ Never) ⊎ ((s : ℕ) × (s < m.n) × (least_below m.n (notify_in m ws ts k x e) ≡ notify_in m ws ts k x e s)) → Found
      one q (inl f) = absurd (never (sym f ∙ q))
      one q (inr (s, h, f)) = listed s h (sym f ∙ q)

      go : T (is_live (thread_at ts k).state) ⊎ T (not (is_live (thread_at ts k).state)) → T (is_live (thread_at ts k).state) × Found
      go (inl t) = (t, one (sym (notify-live x e t) ∙ p) (least_below-one m.n (notify_in m ws ts k x e)))
      go (inr t) = absurd (never (sym (soonest_notify-idle x e t) ∙ p))

  -- it is the greatest of the bounds that are not after any such sum
  pub soonest_notify-glb : (y x : Bound) (e : ℕ)
      → ((s : ℕ) → T (is_live (thread_at ts k).state) → s < m.n → T (notifies_in m k s e) → y ≼ x ⊕ distance_in m ws (thread_at ts k).segment s)
      → y ≼ soonest_notify m ws ts k x e
  unfolding notify_in
  soonest_notify-glb y x e all = go (T-case (is_live (thread_at ts k).state))
    where
      go : T (is_live (thread_at ts k).state) ⊎ T (not (is_live (thread_at ts k).state)) → y ≼ soonest_notify m ws ts k x e
      go (inl t) =
          rw
          (notify-live x e t)
          (least_below-glb
          y
          m.n
          (notify_in m ws ts k x e)
          (λ s h. cond-case (λ (z : Bound). y ≼ z) (notifies_in m k s e) (λ u. all s t h u) (λ u. tt)))
      go (inr t) = rw (soonest_notify-idle x e t) tt

  pub soonest_notify-inflate : (x : Bound) (e : ℕ) → x ≼ soonest_notify m ws ts k x e
  soonest_notify-inflate x e =
      soonest_notify-glb x x e (λ s t h u. ⊕-inflate x (distance_in m ws (thread_at ts k).segment s))

  pub soonest_notify-mono : (x y : Bound) (e : ℕ) → x ≼ y → soonest_notify m ws ts k x e ≼ soonest_notify m ws ts k y e
  soonest_notify-mono x y e h =
      soonest_notify-glb
      (soonest_notify m ws ts k x e)
      y
      e
      (λ s t l u.
      let d = distance_in m ws (thread_at ts k).segment s in
      ≼_trans (soonest_notify m ws ts k x e) (x ⊕ d) (y ⊕ d) (soonest_notify-≼ x e s t l u) (⊕-mono x y d d h (≼_refl d)))

-- a link from thread j to thread k
module _ (m : Model) (ws : List ℕ) (ts : List Thread) (j k : ℕ) where
  pub link_to-waiting : (e : ℕ) (since : Cycle) (x : Bound) → view_of (thread_at ts k).state ≡ view.waits e since → link_to m ws ts j k x ≡ raised since (soonest_notify m ws ts j x e) ⊕ one_delta
  unfolding link_to after_notify
  link_to-waiting e since x p = rw p refl

  -- none leads to a thread that does not wait
  pub link_to-other : (x : Bound) → awaited_by (thread_at ts k).state ≡ nothing → link_to m ws ts j k x ≡ Never
  unfolding link_to after_notify
  link_to-other x p = rw p refl

  pub link_to-case : (Q : (Bound → Bound) → Type 0) → Q (λ x. Never)
      → ((e : ℕ) (since : Cycle) → awaited_by (thread_at ts k).state ≡ awaits e since → Q (λ x. raised since (soonest_notify m ws ts j x e) ⊕ one_delta)) → Q (link_to m ws ts j k)
  unfolding link_to after_notify
  link_to-case Q none some = go (awaited_by (thread_at ts k).state) refl
    where
      go : (a : Awaited) → awaited_by (thread_at ts k).state ≡ a → Q (λ x. after_notify m ws ts j x a)
      go nothing p = none
      go (awaits e since) p = some e since p

  -- what another thread may notify, raised, is no sooner than that thread
  notified-inflate : (since : Cycle) (x : Bound) (e : ℕ) → x ≼ raised since (soonest_notify m ws ts j x e)
  notified-inflate since x e =
      let y = soonest_notify m ws ts j x e in
      ≼_trans x y (raised since y) (soonest_notify-inflate m ws ts j x e) (raised-inflate since y)

  pub link_to-inflate : (x : Bound) → x ≼ link_to m ws ts j k x
  link_to-inflate =
      link_to-case
      (λ (f : Bound → Bound). (x : Bound) → x ≼ f x)
      (λ x. tt)
      (λ e since p x.
      let y = raised since (soonest_notify m ws ts j x e) in
      ≼_trans x y (y ⊕ one_delta) (notified-inflate since x e) (⊕-inflate y one_delta))

  pub link_to-mono : (x y : Bound) → x ≼ y → link_to m ws ts j k x ≼ link_to m ws ts j k y
  link_to-mono =
      link_to-case
      (λ (f : Bound → Bound). (x y : Bound) → x ≼ y → f x ≼ f y)
      (λ x y h. tt)
      (λ e since p x y h.
      let a = soonest_notify m ws ts j x e in
      let b = soonest_notify m ws ts j y e in
      ⊕-mono (raised since a) (raised since b) one_delta one_delta (raised-mono since a b (soonest_notify-mono m ws ts j x y e h)) (≼_refl one_delta))

  -- a link that comes to a cycle comes from one before it
  pub link_to-from : (x : Bound) (b : Cycle) → link_to m ws ts j k x ≡ At b → (d : Cycle) × (x ≡ At d) × Before d b
  link_to-from x b =
      link_to-case
      (λ (f : Bound → Bound). f x ≡ At b → (d : Cycle) × (x ≡ At d) × Before d b)
      (λ p. let z : ◌≡◌ {A = ℕ} 0 1 = cc in absurd (omega arith))
      (λ e since w p. go e since (one_delta-from (raised since (soonest_notify m ws ts j x e)) b p))
    where
      low : (x : Bound) (c : Cycle) → x ≼ At c → Before c b → (d : Cycle) × (x ≡ At d) × Before d b
      low Never c h l = absurd h
      low (At d) c h l = (d, refl, ⊑-Before-trans h l)

      go : (e : ℕ) (since : Cycle) → (c : Cycle) × (raised since (soonest_notify m ws ts j x e) ≡ At c) × Before c b → (d : Cycle) × (x ≡ At d) × Before d b
      go e since (c, p, l) = low x c (subst (λ (y : Bound). x ≼ y) p (notified-inflate since x e)) l

  pub link_to-later : (x : Bound) → (link_to m ws ts j k x ≡ Never → ⊥) → Sooner x (link_to m ws ts j k x)
  link_to-later x finite = go (link_to m ws ts j k x) refl
    where
      go : (y : Bound) → link_to m ws ts j k x ≡ y → Sooner x y
      go Never p = absurd (finite p)
      go (At b) p =
          let (d, e, l) = link_to-from x b p in
          rw e (λ h. Before→not-⊑ l h)

-- Of two lists of records in which thread k waits on the same and thread j is in the same segment: a link from j to k is no sooner
-- in the one in which j is live only if it is so in the other.
pub link_to-rises : (m : Model) (ws : List ℕ) (ts us : List Thread) (j k : ℕ) (x : Bound)
    → (thread_at us j).segment ≡ (thread_at ts j).segment → (T (is_live (thread_at us j).state) → T (is_live (thread_at ts j).state))
    → awaited_by (thread_at us k).state ≡ awaited_by (thread_at ts k).state
    → link_to m ws ts j k x ≼ link_to m ws us j k x
unfolding link_to after_notify
link_to-rises m ws ts us j k x segment live waits = rw waits (go (awaited_by (thread_at ts k).state))
  where
    notify : (e : ℕ) → soonest_notify m ws ts j x e ≼ soonest_notify m ws us j x e
    notify e =
        soonest_notify-glb
        m
        ws
        us
        j
        (soonest_notify m ws ts j x e)
        x
        e
        (λ s t h u.
        subst
        (λ (r : ℕ). soonest_notify m ws ts j x e ≼ x ⊕ distance_in m ws r s)
        (sym segment)
        (soonest_notify-≼ m ws ts j x e s (live t) h u))

    go : (a : Awaited) → after_notify m ws ts j x a ≼ after_notify m ws us j x a
    go nothing = tt
    go (awaits e since) =
        let a = soonest_notify m ws ts j x e in
        let b = soonest_notify m ws us j x e in
        ⊕-mono (raised since a) (raised since b) one_delta one_delta (raised-mono since a b (notify e)) (≼_refl one_delta)
