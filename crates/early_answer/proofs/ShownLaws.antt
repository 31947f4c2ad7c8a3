-- Which distances a request goes by, made once for a call.
--     knows_words, knows_steps     by words that are lent, and by the steps of a model that keeps the file rules
--     shows-fit     on a fit state every thread is in one of the segments
--     shows-within     so are the segments that the outlook holds
use Prim.Native.Nat.{ℕ, ◌<◌, ◌≤◌}
use mathlib.Core.Path.{◌≡◌, refl}
use mathlib.Core.Bool.{Bool, true, false}
use mathlib.Core.List.{List}
use lib.ListN.{get_or}
use Rattle.base.proofs.BoolLaws.{true→T, false→T}
use Rattle.model.specs.declared.Model.{Model}
use Rattle.model.specs.declared.Thread.{Thread}
use Rattle.model.specs.Record.{thread_at}
use Rattle.model.specs.Rules.{model_fault}
use Rattle.tables.specs.Word.{words_of}
use Rattle.tables_row.specs.Row.{step_words, Knows}
use Rattle.early.specs.declared.Site.{Site}
use Rattle.early.specs.declared.Notification.{Notification}
use Rattle.early.specs.Fit.{is_unfit}
use Rattle.early_limits.specs.Limit.{at_most}
use Rattle.early_limits.proofs.PlaceLaws.{at_most-is, segments_of-at}
use Rattle.early_limits.proofs.StateLaws.{is_unfit→FitState, fit-segment}
use Rattle.early_deliver.specs.declared.Outlook.{Outlook}
use Rattle.early_deliver.specs.Awake.{outlook_of}
use Rattle.early_answer.specs.Shown.{Shows}

pub knows_words : (n : ℕ) (ws : List ℕ) (room : ℕ) → Knows n ws false ws room
knows_words n ws room = record { words = λ e. refl; steps = λ e. absurd (true→T false e) }

pub knows_steps : (m : Model) (lent : List ℕ) (room : ℕ) → model_fault m ≡ 0 → lent ≡ step_words m → 64 ≤ room → Knows m.n (words_of m) true lent room
knows_steps m lent room kept e h =
    record {
      words = λ f. absurd (false→T true f);
      steps = λ f. record { model = m; kept = kept; count = refl; words = refl; steps = e; room = h };
    }

pub shows-fit : (m : Model) (ws : List ℕ) (site : Site) (ts : List Thread) (stepwise : Bool) (lent : List ℕ) (room : ℕ)
    → is_unfit m ws site ts ≡ false → Knows m.n ws stepwise lent room → Shows m.n m.t ws stepwise lent room ts
shows-fit m ws site ts stepwise lent room e known = record { known = known; within = λ j h. fit-segment (is_unfit→FitState m ws site ts e) j h }

-- the segments that the outlook holds
pub shows-within : (n t : ℕ) (reach : List ℕ) (l : List Notification) (ts : List Thread) (heard : Bool) (o : Outlook) → t ≤ 32
    → o ≡ outlook_of reach (at_most 32 t) l ts heard → ((j : ℕ) → j < t → (thread_at ts j).segment < n) → (j : ℕ) → j < t → get_or o.segments j 0 < n
unfolding outlook_of
shows-within n t reach l ts heard o few seen within j h =
    rw (seen, at_most-is 32 t few, segments_of-at t ts j few h) (within j h)
