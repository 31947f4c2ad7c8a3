-- The state is a function of how often each thread was granted (slip 5): two lists of requests after which every thread has run equally often
-- leave the same variables (`same-variables` of Theorem), the same records, the same histories, hearings included, and logs that hold the same pairs. Marks,
-- records past T and words past N × N may differ, and so may the order of the pairs.
-- Takes as given the facts of the plain run (PlainFacts) and the laws of the kit (KitLaws).
use Prim.Native.Nat.{ℕ, ◌<◌}
use mathlib.Core.Path.{◌≡◌, sym}
use mathlib.Core.Logic.{◌↔◌}
use mathlib.Core.Bool.{Bool}
use mathlib.Core.List.{List, Memᴰ}
use Rattle.model.specs.declared.Model.{Model}
use Rattle.model.specs.declared.Thread.{Thread}
use Rattle.model.specs.Record.{thread_at}
use Rattle.tables_laws.proofs.DistanceLaws.{IsDistance-unique}
use Rattle.early.specs.declared.Notification.{Notification}
use Rattle.early.specs.Log.{log_of}
use Rattle.order.specs.Claim.{FreshBelow, after_list_with}
use Rattle.order.specs.Steady.{run_count}
use Rattle.order.proofs.PlainFacts.{PlainFacts}
use Rattle.order.proofs.KitLaws.{KitLaws}
use Rattle.order.proofs.Resting.{after-resting}
use Rattle.order.proofs.SameBefore.{SameDistances}
use Rattle.order.proofs.SameRecords.{resting-same, resting-logged}

-- two lists, each with tables and records of its own, after which every thread has run equally often
module _ (m : Model) (pf : PlainFacts m) {marks marks' : List (List Bool)} {ws ws' : List ℕ} (kl : KitLaws m marks ws) (kl' : KitLaws m marks' ws')
    {ts ts' : List Thread} (fresh : FreshBelow m ts) (fresh' : FreshBelow m ts') (ks js : List ℕ)
    (same : (k : ℕ) → k < m.t → run_count ((after_list_with m marks ws ts ks).history k) ≡ run_count ((after_list_with m marks' ws' ts' js).history k)) where
  distances-same : SameDistances m ws ws'
  distances-same r s rn sn = IsDistance-unique (kl.distances.holds.each r s rn sn) (kl'.distances.holds.each r s rn sn)

  pub same-records : (k : ℕ) → k < m.t → thread_at (after_list_with m marks ws ts ks).threads k ≡ thread_at (after_list_with m marks' ws' ts' js).threads k
  same-records k below = (resting-same m pf distances-same (after-resting m pf kl fresh ks) (after-resting m pf kl' fresh' js) same k below).0

  pub same-histories : (k : ℕ) → k < m.t → (after_list_with m marks ws ts ks).history k ≡ (after_list_with m marks' ws' ts' js).history k
  same-histories k below = (resting-same m pf distances-same (after-resting m pf kl fresh ks) (after-resting m pf kl' fresh' js) same k below).1

  pub same-logs : (y : Notification) → Memᴰ y (log_of (after_list_with m marks ws ts ks).site) ↔ Memᴰ y (log_of (after_list_with m marks' ws' ts' js).site)
  same-logs y =
      let s = after-resting m pf kl fresh ks in
      let t = after-resting m pf kl' fresh' js in (
        resting-logged m pf distances-same s t same y,
        resting-logged m pf (λ r q rn qn. sym (distances-same r q rn qn)) t s (λ k below. sym (same k below)) y,
      )
