-- `early_ports::Asked::test` meets its contract, closer by closer.
use mathlib.Core.Path.{refl, ap, ◌∙◌}
use mathlib.Core.Logic.{⊎_elim}
use borrow.Author.Rules.{rules}
use Rattle.early_ports.specs.Names.{read_from, test_name}
use Rattle.early_ports.proofs.Asked.test.Goals as goal

pub returns-in-End : goal.returns-in-End
unfolding test_name
returns-in-End c = search rules

pub returns-in-Time : goal.returns-in-Time
unfolding test_name
returns-in-Time c = c.read.ensures ∙ ap (read_from c.args.self.from c.args.self.written) c.from.ensures ∙ ⊎_elim (λ w. rw w.1 refl) (λ w. rw w.1 refl) c.in-Time.is
