-- Small models, tables and records for the closed examples of this crate. Tables are written by hand: within range they are used as given.
use Prim.Native.Nat.{ℕ, zero, suc, ◌-◌}
use mathlib.Core.Bool.{Bool, true, false}
use mathlib.Core.List.{List, [], ◌∷◌, ◌++◌}
use lib.ListN.{length, replicate}
use Rattle.base.specs.Index.{tabulate}
use Rattle.clock.specs.declared.Bound.{Bound}
use Rattle.clock.specs.declared.Bound.TheVariants.{At}
use Rattle.clock.specs.Cycle.{cycle_at}
use Rattle.model.specs.declared.Op.{Op}
use Rattle.model.specs.declared.Op.TheVariants.{Add, Notify}
use Rattle.model.specs.declared.Statement.{Statement}
use Rattle.model.specs.declared.Next.{Next}
use Rattle.model.specs.declared.Closer.{Closer}
use Rattle.model.specs.declared.Closer.TheVariants.{End, Time, Event}
use Rattle.model.specs.declared.Segment.{Segment}
use Rattle.model.specs.declared.Model.{Model}
use Rattle.model.specs.declared.State.{State}
use Rattle.model.specs.declared.State.TheVariants.{Ended, Overrun, Ready, Waiting, Running}
use Rattle.model.specs.declared.Thread.{Thread}
use Rattle.model.specs.Port.{no_ports}
use Rattle.model.specs.Values.{no_statement, no_model, with_head, with_segment, with_start}
use Rattle.tables.specs.Word.{all_ones}
use Rattle.early.specs.declared.Notification.{Notification}
use Rattle.early.specs.declared.Site.{Site}
use Rattle.early.specs.Log.{pair_of, site_of}

abbrev pub bound_at : ℕ → ℕ → Bound
bound_at t d = At (cycle_at t d)

-- a logged pair, and a thread's record in each state
abbrev pub note : ℕ → ℕ → ℕ → Notification
note e t d = pair_of e (cycle_at t d)

abbrev pub in_state : ℕ → State → Thread
in_state s x = record { segment = s; state = x }

abbrev pub ready_in : ℕ → ℕ → ℕ → Thread
ready_in s t d = in_state s (Ready (cycle_at t d))

abbrev pub waiting_in : ℕ → ℕ → ℕ → ℕ → Thread
waiting_in s e t d = in_state s (Waiting e (cycle_at t d))

abbrev pub ended_in : ℕ → ℕ → ℕ → Thread
ended_in s t d = in_state s (Ended (cycle_at t d))

abbrev pub overrun_in : ℕ → ℕ → ℕ → Thread
overrun_in s t d = in_state s (Overrun (cycle_at t d))

abbrev pub running_in : ℕ → ℕ → ℕ → Thread
running_in s t d = in_state s (Running (cycle_at t d))

-- a segment of a few statements
unfoldable pub segment_of : Closer → List Statement → Segment
segment_of x ss = record { closer = x; n = length ss; statements = ss ++ replicate (32 - length ss) no_statement }

abbrev pub says : Op → Statement
says o = record { op = o }

abbrev pub onward : ℕ → Next
onward s = record { a = s; b = s; test = 255; limit = 0 }

-- so many threads that start at segment 0
unfoldable pub with_starts : ℕ → Model → Model
with_starts zero m = m
with_starts (suc t) m = with_start (with_starts t m) (record { first = 0; ports = no_ports })

-- Three segments that end: segment 0 notifies nothing, 1 notifies event 0 and 2 event 1.
unfoldable pub sayers : ℕ → Model
sayers t =
    with_starts t
    (with_segment
    (with_segment
    (with_segment (with_head no_model 100 1 2) (segment_of End []))
    (segment_of End (says (Notify 0) ∷ [])))
    (segment_of End (says (Notify 1) ∷ [])))

-- as if segment 0 came to segment 1 after (2, 0) and to segment 2 after (0, 3)
abbrev pub far_words : List ℕ
far_words = 0 ∷ 2048 ∷ 3 ∷ all_ones ∷ 0 ∷ all_ones ∷ all_ones ∷ all_ones ∷ 0 ∷ []

-- one mark alone: row 0, column 1
abbrev pub one_mark : List (List Bool)
one_mark = (false ∷ true ∷ []) ∷ []

abbrev pub no_mark : List (List Bool)
no_mark = []

-- Segment 0 adds 1 to variable 0, notifies 1, 0 and 1 again and waits 10 units; segment 1 waits on event 0.
unfoldable pub doers : Model
doers =
    with_starts 2
    (with_segment
    (with_segment
    (with_head no_model 100 1 2)
    (segment_of (Time (record { 0 = 10 }) (onward 0)) (says (Add 0 1) ∷ says (Notify 1) ∷ says (Notify 0) ∷ says (Notify 1) ∷ [])))
    (segment_of (Event 0 (onward 1)) []))

abbrev pub apart_words : List ℕ
apart_words = 0 ∷ all_ones ∷ all_ones ∷ 0 ∷ []

-- a state with these pairs logged
abbrev pub site_with : List Notification → Site
site_with l = site_of (replicate 64 0) l

-- so many pairs, all different: event 0 at the times from 50 on
unfoldable pub many_pairs : ℕ → List Notification
many_pairs n = tabulate n 50 (λ t. note 0 t 0)
