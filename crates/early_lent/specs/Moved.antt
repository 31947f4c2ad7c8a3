-- How the code moves the records between the lent slice and the records by value: one after the other, from the first.
use Rattle.std.specs.Prelude.{ℕ, zero, suc, min, Bool, cond, List, ltb, set, get_or, replicate}
use Rattle.model.specs.declared.Model.{Model}
use Rattle.model.specs.declared.Thread.{Thread}
use Rattle.model.specs.declared.Threads.{Threads}
use Rattle.model.specs.Record.{no_thread}
use Rattle.model.specs.Refusal.{unfit}
use Rattle.early.specs.declared.Site.{Site}
use Rattle.early.specs.declared.Call.{Call}
use Rattle.early.specs.Request.{Requested, refused_with, request_of}
use Rattle.early.specs.ByRows.{request_by_rows}
use Rattle.early.specs.Call.{Called, call_of, call_by_rows}
use Rattle.early_lent.specs.declared.Done.{Done}
use Rattle.early_lent.specs.Answered.{asked_of}

abbrev pub placed_at : Threads → ℕ → Thread → Threads
placed_at to i t = record { at = set to.at i t }

abbrev pub taken_at : Threads → ℕ → Thread
taken_at from i = get_or from.at i no_thread

-- records 0 to n - 1 of a slice, over those by value
abbrev pub loaded : List Thread → ℕ → Threads → Threads
loaded ts zero to = to
loaded ts (suc i) to = placed_at (loaded ts i to) i (get_or ts i no_thread)

-- records 0 to n - 1 by value, over those of a slice
abbrev pub stored : List Thread → ℕ → Threads → List Thread
stored ts zero from = ts
stored ts (suc i) from = set (stored ts i from) i (taken_at from i)

abbrev pub no_threads : Threads
no_threads = record { at = replicate 32 no_thread }

-- how many records are moved: one for each thread, and no more than are lent or held by value
abbrev pub moved_of : ℕ → ℕ → ℕ
moved_of lent t = min lent (min t 32)

-- what is asked on records by value, of which so many were lent, unless 11 applies: "records below T"
unfoldable pub unless_short : Model → Site → Threads → ℕ → Requested → Requested
unless_short m site before lent asked = cond (ltb lent m.t) (refused_with unfit site before.at) asked

abbrev pub request_lent : Model → List (List Bool) → List ℕ → Site → Threads → ℕ → ℕ → Requested
request_lent m marks ws site before lent k = unless_short m site before lent (request_of m marks ws site before.at k)

-- by rows, in so many words
abbrev pub rows_lent : Model → List (List Bool) → ℕ → Site → Threads → ℕ → ℕ → Requested
rows_lent m marks words site before lent k = unless_short m site before lent (request_by_rows m marks words site before.at k)

-- a call, with the values that are held
abbrev pub called_unless_short : Model → Site → Threads → ℕ → List ℕ → Called → Called
called_unless_short m site before lent held called =
    record { left = unless_short m site before lent called.left; held = cond (ltb lent m.t) held called.held }

abbrev pub call_lent : Model → List (List Bool) → List ℕ → Site → Threads → ℕ → List ℕ → Call → Called
call_lent m marks ws site before lent held call = called_unless_short m site before lent held (call_of m marks ws site before.at held call)

abbrev pub call_rows_lent : Model → List (List Bool) → ℕ → Site → Threads → ℕ → List ℕ → Call → Called
call_rows_lent m marks words site before lent held call = called_unless_short m site before lent held (call_by_rows m marks words site before.at held call)

unfoldable pub done_of : Requested → Done
done_of r = record { asked = asked_of r; threads = record { at = r.threads } }
