-- `early_ports::any_ports` meets its contract: a search over the threads.
use Rattle.std.proofs.Common.{rules, ap, ◌∙◌, ℕ, min, take}
use Rattle.std.proofs.lemmas.Iterator.{YieldsList-from_slice}
use Rattle.std.proofs.lemmas.Iterator.Search.{any_from_yields_List}
use borrow.Author.Tests.{tests}
use Rattle.model.specs.declared.Start.{Start}
use Rattle.model.specs.Port.{uses_ports}
use Rattle.early_ports.proofs.NameLaws.{any_ports-list}
use Rattle.early_ports.proofs.any_ports.Goals as goal

pub returns : goal.returns
returns c =
    let s = c in
    let starts = s.args.starts in
    any_from_yields_List (λ (x : Start). uses_ports x.ports) _ _ _ c.any.ensures.ran (YieldsList-from_slice (take c.min.result starts) cc) (λ x b q k. search (rules, tests)) ∙
    any_ports-list starts s.args.t c.min.result s.well_formed.0.1.0.1 (c.min.ensures ∙ ap (λ (n : ℕ). min n 32) c.from.ensures)
