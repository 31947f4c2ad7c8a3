-- `model_reach::lacks_by` meets its contract: with no port named all words are 0, else they are those of the rows.
use Prim.Native.Nat.{ℕ}
use mathlib.Core.Path.{sym, ap, ◌∙◌}
use mathlib.Core.List.{List}
use lib.ListN.{length}
use Rattle.model_reach.specs.Store.{lacks_to, rounds_to}
use Rattle.model_reach.proofs.StoreLaws.{lacks_by-none, lacks_by-some}
use Rattle.model_reach.proofs.lacks_by.Goals as goal

pub returns-then-meeting-eq0 : goal.returns-then-meeting-eq0
returns-then-meeting-eq0 c = lacks_by-none _ _ _ _ (sym c.meeting.ensures ∙ c.if-meeting-eq0.true)

pub returns : goal.returns
returns c =
    let a = c.args in
    (c.lacks_to.ensures ∙ ap (λ (ws : List ℕ). lacks_to a.starts.now a.names.now ws (length a.names.now) 32) (c.all_rounds.ensures ∙ ap (λ (n : ℕ). rounds_to a.rows.now n n) (sym c.requires)))
    ∙ lacks_by-some a.starts.now a.names.now a.rows.now (length a.names.now) (λ z. c.if-meeting-eq0.false (c.meeting.ensures ∙ z))
