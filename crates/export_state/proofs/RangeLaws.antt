-- The number of places of variables, of a log and of thread records, and the ranges of their numbers, as owning them tells it.
use Prim.Native.Nat.{ℕ, zero, suc, ◌<◌, ◌^◌}
use mathlib.Core.Path.{◌≡◌}
use mathlib.Core.List.{List, [], ◌∷◌}
use native.Mathlib.Omega.{arith}
use mir.Val.{Val}
use base.Fml.{Fml}
use denote.Shadow.{shadow}
use denote.Array.{each}
use denote.Laws.{Is}
use denote.Struct.Laws as LL
use lib.ListN.{length, get_or}
use Rattle.clock.specs.declared.Cycle.{Cycle}
use Rattle.clock.specs.Cycle.{cycle_at}
use Rattle.clock.specs.contracts.Cycle as cycle
use Rattle.model.specs.declared.State.{State}
use Rattle.model.specs.declared.State.TheVariants.{Ended, Overrun, Ready, Waiting, Running}
use Rattle.model.specs.declared.Thread.{Thread}
use Rattle.model.specs.Record.{cycle_of}
use Rattle.model.specs.contracts.Thread as thread
use Rattle.model.specs.contracts.State as state
use Rattle.early.specs.declared.Notification.{Notification}
use Rattle.early.specs.declared.Site.{Site}
use Rattle.early.specs.Log.{pair_of}
use Rattle.early.specs.contracts.Notification as notification
use Rattle.early.specs.contracts.Site as site
use Rattle.early.proofs.Site.TheLaws as site'
use Rattle.early_log.proofs.LengthLaws.{log-length}
use Rattle.export_state.specs.Numbers.{thread_words, record_of}

pub record PairRange (x : Notification) : Type 0 where
  pub event : x.event < 2 ^ 8
  pub delta : x.cycle.delta.0 < 2 ^ 32

-- the event as it is written, 0 unless waiting
pub record ThreadRange (x : Thread) : Type 0 where
  pub segment : x.segment < 2 ^ 8
  pub event : get_or (thread_words x) 2 0 < 2 ^ 8
  pub delta : (cycle_of x.state).delta.0 < 2 ^ 32

pub record SiteRange (s : Site) : Type 0 where
  pub variables : length s.variables.at ≡ 64
  pub places : length s.log ≡ 128
  pub count : s.count < 2 ^ 8
  pub pairs : (i : ℕ) → i < 128 → PairRange (get_or s.log i (pair_of 0 (cycle_at 0 0)))

delta-range : (c : Cycle) {vs : List Val} → Is cycle.the_row c vs → c.delta.0 < 2 ^ 32
delta-range c g = g.1.1.1.0.1.1.0.1

pair-range : (x : Notification) (vs : List Val) → Is notification.the_row x vs → PairRange x
pair-range x vs g = record { event = g.1.1.0.1; delta = delta-range x.cycle g.1.1.1.0 }

-- the cycle of each state, and the event of a waiting one
pub thread-range : (x : Thread) (vs : List Val) → Is thread.the_row x vs → ThreadRange x
thread-range x vs g = record { segment = g.1.1.0.1; event = (state-range x.segment x.state g.1.1.1.0).0; delta = (state-range x.segment x.state g.1.1.1.0).1 }
  where
    state-range : (s : ℕ) (y : State) {vs : List Val} → Is state.the_row y vs → (get_or (record_of s y) 2 0 < 2 ^ 8) × ((cycle_of y).delta.0 < 2 ^ 32)
    state-range s (Ended c) h = (omega arith, delta-range c h.1.1.1.1.0)
    state-range s (Overrun c) h = (omega arith, delta-range c h.1.1.1.1.0)
    state-range s (Ready c) h = (omega arith, delta-range c h.1.1.1.1.0)
    state-range s (Waiting e c) h = (h.1.1.1.1.0.1, delta-range c h.1.1.1.1.1.0)
    state-range s (Running c) h = (omega arith, delta-range c h.1.1.1.1.0)

-- what is owned of each element of an array is owned of the one at i
each_at :
    {E : Type 0} (f : E → List Val → Fml) (xs : List E) (us : List Val) (i : ℕ) (z : E) → shadow (each E f xs us) → i < length xs →
    (u : Val) × shadow (f (get_or xs i z) (u ∷ []))
each_at f [] us i z g h = absurd (omega arith)
each_at f (x ∷ xs) [] i z g h = absurd g
each_at f (x ∷ xs) (u ∷ us) zero z g h = (u, g.0)
each_at f (x ∷ xs) (u ∷ us) (suc i) z g h = each_at f xs us i z g.1 (omega arith)

pub site-range : (s : Site) (vs : List Val) → Is site.the_row s vs → SiteRange s
site-range s vs g =
    let o = LL.owed site.the_type site'.the_laws s vs g in
    let size = log-length s vs g in
    record {
      variables = o.0.1.1.0.1.0.1;
      places = size;
      count = o.1.1.0.1;
      pairs = λ i h. let e = each_at (notification.the_row).own_val s.log o.1.0.0 i (pair_of 0 (cycle_at 0 0)) o.1.0.1.1 (omega arith) in pair-range _ (e.0 ∷ []) e.1;
    }
