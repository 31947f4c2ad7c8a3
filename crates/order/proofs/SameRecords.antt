-- Two states in which nobody has anything to hear, and in which every thread has run equally often, have the same records and the same histories
-- (slip 5): take the soonest cycle c that a thread has heard in one alone, say in the first. In the second, where it waits, what it heard is
-- logged, so that its forecast there is before c; then it is before c in the first (SameBefore), against what was heard there. And the logs
-- hold the same pairs: those that done places made and that are not before the floor.
-- Takes as given the facts of the plain run (PlainFacts).
use Prim.Native.Nat.{ℕ, ◌<◌}
use mathlib.Core.Path.{◌≡◌, refl, sym, subst}
use mathlib.Core.Logic.{◌⊎◌, inl, inr}
use mathlib.Core.List.Memᴰ
use mathlib.Core.List.{List, Memᴰ}
use native.Mathlib.Omega.{arith}
use Rattle.clock.specs.declared.Cycle.{Cycle}
use Rattle.clock.specs.declared.Bound.{Bound}
use Rattle.clock.specs.declared.Bound.TheVariants.{Never, At}
use Rattle.clock.specs.Advance.{least_below}
use Rattle.clock.specs.Order.{Before, ◌⊑◌, ◌≼◌}
use Rattle.clock.proofs.OrderLaws.{Before→not-⊑, ⊑_refl, Before-⊑-trans, ≼_trans}
use Rattle.clock.proofs.LeastLaws.{least_below-≼, least_below-one}
use Rattle.model.specs.declared.Model.{Model}
use Rattle.model.specs.declared.Thread.{Thread}
use Rattle.model.specs.Record.{thread_at, awaits, awaited_of, View}
use Rattle.plain.specs.Wake.{floor_of}
use Rattle.plain.specs.History.{Item, heard}
use Rattle.early.specs.declared.Notification.{Notification}
use Rattle.early.specs.declared.Site.{Site}
use Rattle.early.specs.Log.{pair_of, log_of, least_heard}
use Rattle.early.specs.Forecast.{forecast_of}
use Rattle.early.specs.Deliver.{heard_now}
use Rattle.early_laws.proofs.LogLaws.{least_heard-≼}
use Rattle.early_laws.proofs.LookLaws.{heard_now-none}
use Rattle.early_laws.proofs.RisingLaws.{rising-forecast}
use Rattle.early_laws.proofs.AgreeLaws.{floor_of-same}
use Rattle.order.specs.Steady.{run_count}
use Rattle.order.proofs.PlainFacts.{PlainFacts}
use Rattle.order.proofs.Invariant.{Known, IsCut}
use Rattle.order.proofs.Floor.{finite-below}
use Rattle.order.proofs.Drop.{before-or-not}
use Rattle.order.proofs.Reached.{reached-cut}
use Rattle.order.proofs.Foretold.{Said, said_more, made→said, said→known}
use Rattle.order.proofs.Resting.{Resting}
use Rattle.order.proofs.HeardMore.{Behind, Compared, alike, behind, ahead, heard_in, swapped, swapped_same, compared}
use Rattle.order.proofs.SameBefore.{SameDistances, first-rising, heard-late}

-- the first state (site, ts, h), the second (site', us, h'), and a cycle c than which nothing sooner was heard in one alone
module _ (m : Model) (pf : PlainFacts m) {ws ws' : List ℕ} (distances : SameDistances m ws ws') {site site' : Site} {ts us : List Thread} {h h' : ℕ → List Item}
    (s : Resting m ws site ts h) (t : Resting m ws' site' us h') (same : (k : ℕ) → k < m.t → run_count (h k) ≡ run_count (h' k))
    (compare : (k : ℕ) → Compared m ts us h h' k) (c : Cycle) (least : (k : ℕ) → k < m.t → At c ≼ heard_in (compare k)) where
  -- nobody has heard, at c, in the first alone
  none_ahead : (k e : ℕ) (since : Cycle) → Behind m us ts h' h k e since c → ⊥
  none_ahead k e since b = in-log (said→known m pf (reached-cut t.reached) e c said)
    where
      said : Said m h' e c
      said =
          said_more (λ j below. omega (arith, same j below))
          (s.foretold.said k e c b.below
          (subst (λ (a : List Item). Memᴰ (heard e c) a) (sym b.history) (Memᴰ.append_right (h' k) (Memᴰ.head refl))))

      none : heard_now m ws' (log_of site') us (awaits e since) ≡ Never
      none = subst (λ (v : View). heard_now m ws' (log_of site') us (awaited_of v) ≡ Never) b.waits (t.rest k b.below)

      foreseen : (d : Cycle) → d ⊑ c → (f : Cycle) × (forecast_of m ws' (log_of site') us e ≡ At f) × Before f d → ⊥
      foreseen d dc (f, p, fd) =
          let before : Before f c = Before-⊑-trans fd dc in
          let there = rising-forecast (λ x. Before x c) m (first-rising m pf distances s t same compare c least) e f before (subst (λ (y : Bound). y ≼ At f) (sym p) ⊑_refl) in
          Before→not-⊑ before (≼_trans (At c) (forecast_of m ws (log_of site) ts e) (At f) (heard-late m pf distances s t same compare c least k e since c b) there)

      in-log : Known m (log_of site') us (floor_of m us) e c → ⊥
      in-log (inr gone) = Before→not-⊑ (gone.unheard k since b.below b.waits) b.begun
      in-log (inl held) =
          let (d, p, dc) = finite-below (least_heard (log_of site') e since) c (least_heard-≼ (log_of site') e since (pair_of e c) held refl b.begun) in
          foreseen d dc (before-or-not (forecast_of m ws' (log_of site') us e) d (heard_now-none m ws' (log_of site') us e since d none p))

module _ (m : Model) (pf : PlainFacts m) {ws ws' : List ℕ} (distances : SameDistances m ws ws') {site site' : Site} {ts us : List Thread} {h h' : ℕ → List Item}
    (s : Resting m ws site ts h) (t : Resting m ws' site' us h') (same : (k : ℕ) → k < m.t → run_count (h k) ≡ run_count (h' k)) where
  compare : (k : ℕ) → Compared m ts us h h' k
  compare = compared m pf (reached-cut s.reached) (reached-cut t.reached) s.unbegun t.unbegun same

  abbrev soonest : Bound
  soonest = least_below m.t (λ k. heard_in (compare k))

  -- the soonest cycle that is heard in one alone: there is none
  never-soonest : soonest ≡ Never
  never-soonest = go (least_below-one m.t (λ k. heard_in (compare k)))
    where
      not-before : (k : ℕ) (c : Cycle) → soonest ≡ At c → k < m.t → At c ≼ heard_in (compare k)
      not-before k c p below = subst (λ (b : Bound). b ≼ heard_in (compare k)) p (least_below-≼ m.t (λ k. heard_in (compare k)) k below)

      at : (i : ℕ) (x : Compared m ts us h h' i) → soonest ≡ heard_in x → soonest ≡ Never
      at i (alike p) e = e
      at i (ahead f since c b) e =
          absurd (none_ahead m pf distances s t same compare c (λ k below. not-before k c e below) i f since b)
      at i (behind f since c b) e =
          absurd (none_ahead m pf (λ r q rn qn. sym (distances r q rn qn)) t s (λ k below. sym (same k below)) (λ k. swapped (compare k)) c
          (λ k below. rw (swapped_same (compare k)) (not-before k c e below)) i f since b)

      go : (soonest ≡ Never) ⊎ ((i : ℕ) × (i < m.t) × (soonest ≡ heard_in (compare i))) → soonest ≡ Never
      go (inl e) = e
      go (inr (i, below, e)) = at i (compare i) e

  pub resting-same : (k : ℕ) → k < m.t → (thread_at ts k ≡ thread_at us k) × (h k ≡ h' k)
  resting-same k below = go (compare k) (subst (λ (b : Bound). b ≼ heard_in (compare k)) never-soonest (least_below-≼ m.t (λ k. heard_in (compare k)) k below))
    where
      go : (x : Compared m ts us h h' k) → Never ≼ heard_in x → (thread_at ts k ≡ thread_at us k) × (h k ≡ h' k)
      go (alike p) n = p below
      go (behind e since c b) n = absurd n
      go (ahead e since c b) n = absurd n

  -- a pair of the first log was notified by a place that is done, and is not before the floor: so it stands in the second
  pub resting-logged : (y : Notification) → Memᴰ y (log_of site) → Memᴰ y (log_of site')
  resting-logged y i =
      go (said→known m pf later y.event y.cycle (said_more (λ k b. omega (arith, same k b)) (made→said m pf first y (first.notified y i))))
    where
      first : IsCut m site.variables.at (log_of site) ts h s.reached.cut (floor_of m ts)
      first = reached-cut s.reached

      later : IsCut m site'.variables.at (log_of site') us h' t.reached.cut (floor_of m us)
      later = reached-cut t.reached

      floors : floor_of m ts ≡ floor_of m us
      floors = floor_of-same m ts us (record { left = first.size; right = later.size; same = λ k below. (resting-same k below).0 })

      go : Known m (log_of site') us (floor_of m us) y.event y.cycle → Memᴰ y (log_of site')
      go (inl held) = held
      go (inr gone) = absurd (gone.dropped (subst (λ (b : Bound). b ≼ At y.cycle) floors (first.low-logged y i)))
