-- A log that is spread out as rows of numbers.
--     spread-copied, spread-all     the rows as a loop fills them, place by place
--     log_in-length, log_in-at     the log that they hold
--     least_in-..     the least of it, the last place first: heard, before the wait, another event
use Prim.Native.Nat.{ℕ, ◌+◌, ◌-◌, ◌<◌, ◌≤◌, min}
use mathlib.Core.Path.{◌≡◌, refl, ap, sym, ◌∙◌}
use mathlib.Core.Bool.{true, false, not}
use mathlib.Core.List.{List}
use native.Mathlib.Omega.{arith}
use native.Mathlib.Decide.{ℕ_discrete}
use lib.ListN.{length, take, drop, get_or, set, length-set}
use lib.Seq.{get_or-take, get_or-set_same, get_or-set_other}
use Rattle.base.proofs.IndexLaws.{tabulate-length, tabulate-at, tabulate-is}
use Rattle.clock.specs.declared.Cycle.{Cycle}
use Rattle.clock.specs.declared.Bound.{Bound}
use Rattle.clock.specs.declared.Bound.TheVariants.{At}
use Rattle.clock.specs.Cycle.{is_before}
use Rattle.clock.specs.Advance.{least}
use Rattle.early.specs.declared.Notification.{Notification}
use Rattle.early.specs.declared.Site.{Site}
use Rattle.early.specs.Log.{places, log_of, least_heard}
use Rattle.early_laws.proofs.FitLaws.{place_of}
use Rattle.early_log.specs.Noted.{no_pair}
use Rattle.early_log.specs.Spread.{pair_in, log_in}
use Rattle.early_log.proofs.HeldLaws.{log_of-length, log_of-at, is_heard-same, is_heard-other, least_heard-heard, least_heard-passed}

-- the first i places of the rows are those of a state
pub record SpreadTo (site : Site) (events times deltas : List ℕ) (i : ℕ) : Type 0 where
  pub size : (length events ≡ places) × (length times ≡ places) × (length deltas ≡ places)
  pub each : (j : ℕ) → j < i → pair_in events times deltas j ≡ place_of site j

module _ (site : Site) (events times deltas : List ℕ) where
  spread-more : (i : ℕ) → i < places → SpreadTo site events times deltas i
      → SpreadTo site (set events i (place_of site i).event) (set times i (place_of site i).cycle.time.0) (set deltas i (place_of site i).cycle.delta.0) (i + 1)
  spread-more i h to =
      record {
        size = (length-set events i _ ∙ to.size.0, length-set times i _ ∙ to.size.1, length-set deltas i _ ∙ to.size.2);
        each = λ j k. at j k (ℕ_discrete j i);
      }
    where
      x : Notification
      x = place_of site i

      at : (j : ℕ) → j < i + 1 → Dec (j ≡ i) → pair_in (set events i x.event) (set times i x.cycle.time.0) (set deltas i x.cycle.delta.0) j ≡ place_of site j
      at j k (yes e) =
          let (a, b, d) = to.size in
          rw (e, get_or-set_same events i x.event 0 (omega arith), get_or-set_same times i x.cycle.time.0 0 (omega arith), get_or-set_same deltas i x.cycle.delta.0 0 (omega arith)) refl
      at j k (no e) =
          rw (get_or-set_other events i j x.event 0 e, get_or-set_other times i j x.cycle.time.0 0 e, get_or-set_other deltas i j x.cycle.delta.0 0 e) (to.each j (omega arith))

  -- of the first n places, copied
  pub spread-copied : (n i : ℕ) → i < n → i < places → SpreadTo site events times deltas i
      → SpreadTo site (set events i (get_or (take n site.log) i no_pair).event) (set times i (get_or (take n site.log) i no_pair).cycle.time.0) (set deltas i (get_or (take n site.log) i no_pair).cycle.delta.0) (i + 1)
  spread-copied n i h k to = rw (get_or-take n site.log i no_pair h) (spread-more i k to)

  pub spread-all : (i n : ℕ) → length site.log ≡ places → n ≡ min site.count places → i ≡ n → SpreadTo site events times deltas i → log_in events times deltas n ≡ log_of site
  unfolding log_in
  spread-all i n size p q to =
      let few = log_of-length site size in
      sym (tabulate-is no_pair (log_of site) (min n places) (pair_in events times deltas) (omega arith) (λ j h. log_of-at site size j (omega arith) ∙ sym (to.each j (omega arith))))

-- the least of the places from i on; one place more
module _ (events times deltas : List ℕ) (n : ℕ) where
  pub log_in-length : length (log_in events times deltas n) ≡ min n places
  unfolding log_in
  log_in-length = tabulate-length (min n places) 0 (pair_in events times deltas)

  log_in-at : (i : ℕ) → i < length (log_in events times deltas n) → get_or (log_in events times deltas n) i no_pair ≡ pair_in events times deltas i
  unfolding log_in
  log_in-at i h =
      let z : 0 + i ≡ i = omega arith in
      tabulate-at (min n places) 0 i (pair_in events times deltas) no_pair (omega (arith, tabulate-length (min n places) 0 (pair_in events times deltas))) ∙ ap (pair_in events times deltas) z

  module _ (e : ℕ) (since : Cycle) (i : ℕ) (b : Bound) (above : 0 < i) (within : i ≤ length (log_in events times deltas n))
      (known : b ≡ least_heard (drop i (log_in events times deltas n)) e since)
    where
      abbrev x : Notification
      x = pair_in events times deltas (i - 1)

      here : get_or (log_in events times deltas n) (i - 1) no_pair ≡ x
      here = log_in-at (i - 1) (omega arith)

      pub least_in-heard : (a : Bound) → get_or events (i - 1) 0 ≡ e → not (is_before (pair_in events times deltas (i - 1)).cycle since) ≡ true
          → a ≡ least (At (pair_in events times deltas (i - 1)).cycle) b → a ≡ least_heard (drop (i - 1) (log_in events times deltas n)) e since
      least_in-heard a p q r = least_heard-heard (log_in events times deltas n) e since i b x above within here known a (sym (is_heard-same e since x p) ∙ q) r

      pub least_in-before : get_or events (i - 1) 0 ≡ e → not (is_before (pair_in events times deltas (i - 1)).cycle since) ≡ false
          → b ≡ least_heard (drop (i - 1) (log_in events times deltas n)) e since
      least_in-before p q = least_heard-passed (log_in events times deltas n) e since i b x above within here known (sym (is_heard-same e since x p) ∙ q)

      pub least_in-other : (get_or events (i - 1) 0 ≡ e → ⊥) → b ≡ least_heard (drop (i - 1) (log_in events times deltas n)) e since
      least_in-other p = least_heard-passed (log_in events times deltas n) e since i b x above within here known (sym (is_heard-other e since x p))
