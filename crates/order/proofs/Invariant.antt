-- An early state is a cut of the plain run: each thread's record, a running one read as ready (`Seen`), is the one it has at a place of its own, and
-- the places that its thread has passed are done. The variables are those of the done places, the log holds what they notified, and
-- what was dropped from it nobody can hear.
-- Assumes nothing.
use Prim.Native.Nat.{ℕ, ◌≤◌, ◌<◌}
use mathlib.Core.Path.{◌≡◌}
use mathlib.Core.Logic.{◌⊎◌}
use mathlib.Core.Bool.{cond}
use mathlib.Core.List.{List, [], ◌++◌, Memᴰ}
use lib.Dec.{T, eqb}
use lib.ListN.{length, get_or}
use Rattle.clock.specs.declared.Cycle.{Cycle}
use Rattle.clock.specs.declared.Bound.{Bound}
use Rattle.clock.specs.declared.Bound.TheVariants.{At}
use Rattle.clock.specs.Order.{Before, ◌≼◌}
use Rattle.model.specs.declared.Model.{Model}
use Rattle.model.specs.declared.Thread.{Thread}
use Rattle.model.specs.Record as view
use Rattle.model.specs.Record.{thread_at, is_live, view_of}
use Rattle.model.specs.Footprint.{writes_in}
use Rattle.plain.specs.Step.{place_at}
use Rattle.plain.specs.History.{Item, history_at}
use Rattle.early.specs.declared.Notification.{Notification}
use Rattle.early.specs.Log.{pair_of}
use Rattle.early_laws.proofs.OnceLaws.{Once}
use Rattle.order.proofs.Seen.{seen}
use Rattle.order.proofs.Places.{now_at, record_at, Runs, Says}
use Rattle.order.proofs.KitLaws.{Shared, bound_in}

-- place q runs thread k, and k has passed it
pub record Done (m : Model) (cut : ℕ → ℕ) (q k : ℕ) : Type 0 where
  pub runs : Runs m q k
  pub passed : q < cut k

-- places p and q, which run a and b, touch a variable that one of them writes
pub record Touch (m : Model) (p a q b : ℕ) : Type 0 where
  pub variable : ℕ
  pub shared : Shared m a (record_at m p a).segment b (record_at m q b).segment variable

-- every place before q that touches it, as it runs thread k, is done
abbrev pub Safe : Model → (ℕ → ℕ) → ℕ → ℕ → Type 0
Safe m cut q k = (p a : ℕ) → p < q → Runs m p a → Touch m p a q k → Done m cut p a

-- the variables of the done places
pub record Good (m : Model) (cut : ℕ → ℕ) (x : List ℕ) : Type 0 where
  pub size : length x ≡ 64
  -- a done place and an earlier one that is not done touch nothing in common
  pub ordered : (p a q b : ℕ) → p < q → Runs m p a → (Done m cut p a → ⊥) → Done m cut q b → Touch m p a q b → ⊥
  -- a variable whose writers before place q are all done, and none from q on, has the value that it has at place q
  pub value : (v q : ℕ)
      → ((p a : ℕ) → p < q → Runs m p a → T (writes_in m a (record_at m p a).segment v) → Done m cut p a)
      → ((p a : ℕ) → q ≤ p → Runs m p a → T (writes_in m a (record_at m p a).segment v) → Done m cut p a → ⊥)
      → get_or x v 0 ≡ get_or (place_at m q).variables v 0

-- event e, notified at c before the bound low, is past for all: whoever waits on it began later
pub record Gone (m : Model) (ts : List Thread) (low : Bound) (e : ℕ) (c : Cycle) : Type 0 where
  pub dropped : low ≼ At c → ⊥
  pub unheard : (k : ℕ) (since : Cycle) → k < m.t → view_of (thread_at ts k).state ≡ view.waits e since → Before c since

-- event e, notified at c, is logged or past for all
abbrev pub Known : Model → List Notification → List Thread → Bound → ℕ → Cycle → Type 0
Known m l ts low e c = Memᴰ (pair_of e c) l ⊎ Gone m ts low e c

-- a done place made notification y
abbrev pub Made : Model → (ℕ → ℕ) → Notification → Type 0
Made m cut y = (q : ℕ) × (k : ℕ) × Done m cut q k × Says m q k y.event × (now_at m q ≡ y.cycle)

-- variables x, log l, records ts and histories h are the plain run's, cut at `cut`; `low` is the floor of the last drop
pub record IsCut (m : Model) (x : List ℕ) (l : List Notification) (ts : List Thread) (h : ℕ → List Item) (cut : ℕ → ℕ) (low : Bound)
    : Type 0 where
  pub size : m.t ≤ length ts
  pub records : (k : ℕ) → k < m.t → seen (thread_at ts k) ≡ record_at m (cut k) k
  pub history : (k : ℕ) → k < m.t → h k ≡ history_at m k (cut k)
  pub good : Good m cut x
  pub low-ready : (k : ℕ) (c : Cycle) → k < m.t → view_of (thread_at ts k).state ≡ view.ready c → low ≼ At c
  pub low-logged : (y : Notification) → Memᴰ y l → low ≼ At y.cycle
  -- what a done place notified is logged, or past for all
  pub logged : (q k e : ℕ) → Done m cut q k → Says m q k e → Known m l ts low e (now_at m q)
  -- what is logged, a done place notified
  pub notified : (y : Notification) → Memᴰ y l → Made m cut y
  pub once : Once l

-- they are the plain run's at some cut
abbrev pub SomeCut : Model → List ℕ → List Notification → List Thread → (ℕ → List Item) → Bound → Type 0
SomeCut m x l ts h low = (cut : ℕ → ℕ) × IsCut m x l ts h cut low

-- no place that is not done runs sooner than its thread's earliest plus the distance to its segment
pub record Bounded (m : Model) (ws : List ℕ) (ts : List Thread) (cut : ℕ → ℕ) (earliest : ℕ → Bound) : Type 0 where
  pub sound : (q j : ℕ) → Runs m q j → (q < cut j → ⊥) → bound_in m ws ts earliest j (record_at m q j).segment ≼ At (now_at m q)
  pub live : (q j : ℕ) → Runs m q j → (q < cut j → ⊥) → T (is_live (thread_at ts j).state)

-- the cut of thread k moved to place n
unfoldable pub moved : (ℕ → ℕ) → ℕ → ℕ → ℕ → ℕ
moved cut k n j = cond (eqb j k) n (cut j)

-- histories with one thread's items more
unfoldable pub adding : (ℕ → List Item) → ℕ → List Item → ℕ → List Item
adding h k items j = h j ++ cond (eqb j k) items []
