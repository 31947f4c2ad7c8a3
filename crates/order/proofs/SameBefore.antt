-- Two states in which nobody has anything to hear and every thread has run equally often, and a cycle c than which nothing sooner was heard in
-- one of them alone: whatever comes before c in the second comes no later in the first. By chains: a thread that has heard in one alone begins
-- none before c and is on none, as what it heard is not before c, and no forecast in the first is before what was heard there.
-- Takes as given the facts of the plain run (PlainFacts).
use Prim.Native.Nat.{ℕ, ◌<◌}
use mathlib.Core.Path.{◌≡◌, refl, ap, sym, ◌∙◌, subst}
use mathlib.Core.Logic.{inl, inr}
use mathlib.Core.List.Memᴰ
use mathlib.Core.List.{List, Memᴰ}
use native.Mathlib.Omega.{arith}
use Rattle.clock.specs.declared.Cycle.{Cycle}
use Rattle.clock.specs.declared.Wait.TheVariants as wait
use Rattle.clock.specs.declared.Bound.{Bound}
use Rattle.clock.specs.declared.Bound.TheVariants.{Never, At}
use Rattle.clock.specs.Wait.{wait_ends}
use Rattle.clock.specs.Advance.{◌⊕◌, one_delta}
use Rattle.clock.specs.Order.{Before, ◌⊑◌, ◌≼◌}
use Rattle.clock.proofs.OrderLaws.{Before→not-⊑, ⊑_trans, ⊑-Before-trans, ≼_trans}
use Rattle.clock.proofs.AdvanceLaws.{⊕-inflate, Never-⊕}
use Rattle.model.specs.declared.Model.{Model}
use Rattle.model.specs.declared.State.{State}
use Rattle.model.specs.declared.Thread.{Thread}
use Rattle.model.specs.Record as view
use Rattle.model.specs.Record.{thread_at, nothing, awaited_by, awaited_of, state_after, View, view_of}
use Rattle.plain.specs.Wake.{floor_of}
use Rattle.plain.specs.History.{Item, heard}
use Rattle.plain_laws.proofs.RecordLaws.{state_after-not-waits}
use Rattle.tables.specs.Word.{distance_in}
use Rattle.early.specs.declared.Notification.{Notification}
use Rattle.early.specs.declared.Site.{Site}
use Rattle.early.specs.Log.{pair_of, log_of, least_heard}
use Rattle.early.specs.Earliest.{source_of, soonest_notify, raised, link_to}
use Rattle.early.specs.Forecast.{forecast_of}
use Rattle.early_laws.proofs.LogLaws.{least_heard-at}
use Rattle.early_laws.proofs.RaiseLaws.{raised-inflate}
use Rattle.early_laws.proofs.LinkLaws.{source_of-ready, source_of-waiting, source_of-idle, link_to-waiting, link_to-other}
use Rattle.early_laws.proofs.EarliestLaws.{earliest_at, earliest-ready, earliest-heard}
use Rattle.early_laws.proofs.LookLaws.{state_after-unawaited}
use Rattle.early_laws.proofs.RiseLaws.{Rises, rises-⊕, heard-risen, earliest-risen, notify-risen, waiting-risen}
use Rattle.early_laws.proofs.RisingLaws.{Rising}
use Rattle.order.specs.Steady.{run_count}
use Rattle.order.proofs.PlainFacts.{PlainFacts}
use Rattle.order.proofs.Invariant.{Known}
use Rattle.order.proofs.CutLaws.{cut-segment}
use Rattle.order.proofs.PlaceLaws.{heard-ready}
use Rattle.order.proofs.Reached.{reached-cut}
use Rattle.order.proofs.Foretold.{Said, said_more, made→said, said→known}
use Rattle.order.proofs.Resting.{Resting}
use Rattle.order.proofs.HeardMore.{Behind, Compared, alike, behind, ahead, heard_in}

-- words that say the same distances
abbrev pub SameDistances : Model → List ℕ → List ℕ → Type 0
SameDistances m ws ws' = (r s : ℕ) → r < m.n → s < m.n → distance_in m ws r s ≡ distance_in m ws' r s

-- The first state (l, ts, h) and the second (l', us, h'). No cycle that is heard in one alone is sooner than c.
module _ (m : Model) (pf : PlainFacts m) {ws ws' : List ℕ} (distances : SameDistances m ws ws') {site site' : Site} {ts us : List Thread} {h h' : ℕ → List Item}
    (s : Resting m ws site ts h) (t : Resting m ws' site' us h') (same : (k : ℕ) → k < m.t → run_count (h k) ≡ run_count (h' k))
    (compare : (k : ℕ) → Compared m ts us h h' k) (c : Cycle) (least : (k : ℕ) → k < m.t → At c ≼ heard_in (compare k)) where
  abbrev Up : Cycle → Type 0
  Up x = Before x c

  abbrev l : List Notification
  l = log_of site

  abbrev l' : List Notification
  l' = log_of site'

  down : (a b : Cycle) → a ⊑ b → Before b c → Before a c
  down a b p q = ⊑-Before-trans p q

  -- a cycle before c is not after one that is not before c
  too-late : (d x : Cycle) → c ⊑ d → d ⊑ x → Before x c → ⊥
  too-late d x p q u = Before→not-⊑ u (⊑_trans p q)

  -- what is logged in the second and can be heard in the first is logged there
  logged-first : (k e : ℕ) (since a : Cycle) → k < m.t → view_of (thread_at ts k).state ≡ view.waits e since → Memᴰ (pair_of e a) l' → since ⊑ a
      → Memᴰ (pair_of e a) l
  logged-first k e since a below w i begun = go (said→known m pf (reached-cut s.reached) e a said)
    where
      said : Said m h e a
      said =
          let ic = reached-cut t.reached in
          said_more (λ j b. omega (arith, same j b)) (made→said m pf ic (pair_of e a) (ic.notified (pair_of e a) i))

      go : Known m l ts (floor_of m ts) e a → Memᴰ (pair_of e a) l
      go (inl held) = held
      go (inr gone) = absurd (Before→not-⊑ (gone.unheard k since below w) begun)

  -- sources: the same record; heard in the second alone, not before c; heard in the first alone, what it waits for is not before that
  source-alike : (k : ℕ) → k < m.t → Rises Up (earliest_at m ws l ts k) (source_of l' (thread_at ts k).state)
  source-alike k below = go (view_of (thread_at ts k).state) refl
    where
      go : (v : View) → view_of (thread_at ts k).state ≡ v → Rises Up (earliest_at m ws l ts k) (source_of l' (thread_at ts k).state)
      go view.idle w = rw (source_of-idle l' (thread_at ts k).state (rw w tt)) (λ x u p. absurd p)
      go (view.ready d) w = rw (source_of-ready l' (thread_at ts k).state d w, earliest-ready m ws l ts k d below w) (λ x u p. p)
      go (view.waits e since) w =
          rw (source_of-waiting l' (thread_at ts k).state e since w)
          (heard-risen Up l' e since (earliest_at m ws l ts k)
          (λ a i r. earliest-heard m ws l ts k e since (pair_of e a) below w (logged-first k e since a below w i r) refl r))

  source-woken : (a : Bound) (d : Cycle) → c ⊑ d → Rises Up a (source_of l' (state_after (wait_ends wait.Event d)))
  source-woken a d late = go (view_of state) refl
    where
      state : State
      state = state_after (wait_ends wait.Event d)

      go : (v : View) → view_of state ≡ v → Rises Up a (source_of l' state)
      go view.idle w = rw (source_of-idle l' state (rw w tt)) (λ x u p. absurd p)
      go (view.waits e since) w = absurd (state_after-not-waits (wait_ends wait.Event d) e since w)
      go (view.ready f) w =
          rw (source_of-ready l' state f w)
          (λ x u p. absurd (too-late d x late (⊑_trans (subst (λ (b : Bound). At d ≼ b) (heard-ready d f w) (⊕-inflate (At d) one_delta)) p) u))

  source-waits : (k e : ℕ) (since d : Cycle) (a : Bound) → c ⊑ d → Behind m us ts h' h k e since d → Rises Up a (least_heard l' e since ⊕ one_delta)
  source-waits k e since d a late b = go (least_heard l' e since) refl
    where
      go : (y : Bound) → least_heard l' e since ≡ y → Rises Up a (y ⊕ one_delta)
      go Never p = rw (Never-⊕ one_delta) (λ x u q. absurd q)
      go (At y) p =
          let (i, begun) = least_heard-at l' e since y p in
          let (q, j, _, says, now) = (reached-cut t.reached).notified (pair_of e y) i in
          let after : d ⊑ y = subst (λ (z : Cycle). d ⊑ z) now (b.first q j says (subst (λ (z : Cycle). since ⊑ z) (sym now) begun)) in
          λ x u r. absurd (too-late d x late (⊑_trans after (≼_trans (At y) (At y ⊕ one_delta) (At x) (⊕-inflate (At y) one_delta) r)) u)

  sources : (k : ℕ) → k < m.t → Rises Up (earliest_at m ws l ts k) (source_of l' (thread_at us k).state)
  sources k below = go (compare k) (least k below)
    where
      go : (x : Compared m ts us h h' k) → At c ≼ heard_in x → Rises Up (earliest_at m ws l ts k) (source_of l' (thread_at us k).state)
      go (alike p) late = rw (← (p below).0) (source-alike k below)
      go (behind e since d b) late = rw b.woken (source-woken (earliest_at m ws l ts k) d late)
      go (ahead e since d b) late =
          rw (source_of-waiting l' (thread_at us k).state e since b.waits) (source-waits k e since d (earliest_at m ws l ts k) late b)

  -- every thread is in the same segment in both
  segments : (k : ℕ) → k < m.t → (thread_at us k).segment ≡ (thread_at ts k).segment
  segments k below = go (compare k)
    where
      go : Compared m ts us h h' k → (thread_at us k).segment ≡ (thread_at ts k).segment
      go (alike p) = ap (λ (r : Thread). r.segment) (sym (p below).0)
      go (behind e since d b) = ap (λ (r : Thread). r.segment) b.woken
      go (ahead e since d b) = sym (ap (λ (r : Thread). r.segment) b.woken)

  bounds : (j q : ℕ) (x : Bound) → j < m.t → q < m.n → Rises Up (earliest_at m ws l ts j) x
      → Rises Up (earliest_at m ws l ts j ⊕ distance_in m ws (thread_at ts j).segment q) (x ⊕ distance_in m ws' (thread_at us j).segment q)
  bounds j q x below qn r =
      let inside : (thread_at ts j).segment < m.n = rw (cut-segment s.reached.is_cut j below) (pf.segment_below (s.reached.cut j) j below) in
      rw (segments j below, ← distances (thread_at ts j).segment q inside qn)
      (rises-⊕ Up down (distance_in m ws (thread_at ts j).segment q) (earliest_at m ws l ts j) x r)

  notified : (j e : ℕ) (x : Bound) → j < m.t → Rises Up (earliest_at m ws l ts j) x → Rises Up (forecast_of m ws l ts e) (soonest_notify m ws' us j x e)
  notified j e x below r = notify-risen Up m ws l ts ws' l' us j e x below (λ q qn live. bounds j q x below qn r)

  -- what was heard in the first alone, its forecast there is not before
  pub heard-late : (k e : ℕ) (since d : Cycle) → Behind m us ts h' h k e since d → At d ≼ forecast_of m ws l ts e
  heard-late k e since d b =
      s.foretold.no_sooner k e d b.below
      (subst (λ (a : List Item). Memᴰ (heard e d) a) (sym b.history) (Memᴰ.append_right (h' k) (Memᴰ.head refl)))

  -- links: to a thread that waits in both; to one that has heard in the first alone, not before that
  link-alike : (j k : ℕ) (x : Bound) → j < m.t → k < m.t → thread_at ts k ≡ thread_at us k → Rises Up (earliest_at m ws l ts j) x
      → Rises Up (earliest_at m ws l ts k) (link_to m ws' us j k x)
  link-alike j k x p below e r = go (view_of (thread_at us k).state) refl
    where
      none : awaited_by (thread_at us k).state ≡ nothing → Rises Up (earliest_at m ws l ts k) (link_to m ws' us j k x)
      none w = rw (link_to-other m ws' us j k x w) (λ z u q. absurd q)

      go : (v : View) → view_of (thread_at us k).state ≡ v → Rises Up (earliest_at m ws l ts k) (link_to m ws' us j k x)
      go view.idle w = none (ap awaited_of w)
      go (view.ready d) w = none (ap awaited_of w)
      go (view.waits f since) w =
          waiting-risen Up m ws l ts ws' l' us down j k f since x below (ap (λ (u : Thread). view_of u.state) e ∙ w) w (notified j f x p r)

  link-heard : (j k e : ℕ) (since d : Cycle) (x a : Bound) → j < m.t → c ⊑ d → Behind m us ts h' h k e since d → Rises Up (earliest_at m ws l ts j) x
      → Rises Up a (link_to m ws' us j k x)
  link-heard j k e since d x a p late b r z u q = absurd (too-late d z late sooner u)
    where
      may : Bound
      may = soonest_notify m ws' us j x e

      may-by : may ≼ At z
      may-by =
          ≼_trans may (raised since may ⊕ one_delta) (At z) (≼_trans may (raised since may) (raised since may ⊕ one_delta) (raised-inflate since may) (⊕-inflate (raised since may) one_delta))
          (subst (λ (y : Bound). y ≼ At z) (link_to-waiting m ws' us j k e since x b.waits) q)

      sooner : d ⊑ z
      sooner = ≼_trans (At d) (forecast_of m ws l ts e) (At z) (heard-late k e since d b) (notified j e x p r z u may-by)

  links : (j k : ℕ) (x : Bound) → j < m.t → k < m.t → earliest_at m ws' l' us j ≼ x → Rises Up (earliest_at m ws l ts j) x
      → Rises Up (earliest_at m ws l ts k) (link_to m ws' us j k x)
  links j k x p below low r = go (compare k) (least k below)
    where
      go : (y : Compared m ts us h h' k) → At c ≼ heard_in y → Rises Up (earliest_at m ws l ts k) (link_to m ws' us j k x)
      go (alike e) late = link-alike j k x p below (e below).0 r
      go (behind e since d b) late =
          rw (link_to-other m ws' us j k x (ap (λ (u : Thread). awaited_by u.state) b.woken ∙ state_after-unawaited (wait_ends wait.Event d))) (λ z u q. absurd q)
      go (ahead e since d b) late = link-heard j k e since d x (earliest_at m ws l ts k) p late b r

  -- what comes before c in the second comes no later in the first
  pub first-rising : Rising Up m ws l ts ws' l' us
  first-rising =
      record {
        earliest = rise;
        bound = λ j q below qn live. bounds j q (earliest_at m ws' l' us j) below qn (rise j below);
      }
    where
      rise : (k : ℕ) → k < m.t → Rises Up (earliest_at m ws l ts k) (earliest_at m ws' l' us k)
      rise = earliest-risen Up m ws l ts ws' l' us sources links
