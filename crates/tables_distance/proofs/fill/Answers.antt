-- `tables_distance::fill` meets its contract: the first words, the rounds, the cut.
use mathlib.Core.Path.{refl}
use native.Mathlib.Omega.{arith}
use Rattle.tables_distance.proofs.FilledLaws.{filled-passes}
use Rattle.model_rules.proofs.RuleLaws.{model_fault-counts}
use Rattle.tables_distance.proofs.fill.Goals as goal

pub direct_rows-requires : goal.direct_rows-requires
direct_rows-requires c = let few = (model_fault-counts c.args.m c.requires.0).segments in (omega arith, omega arith, omega arith)

pub returns : goal.returns
returns c =
    let x = c.args in
    let p = c.requires in
    filled-passes x.m x.words.now p.0 p.1 x.m.n _ _ _ refl c.direct_rows.ensures c.all_rounds.ensures c.cut_words.ensures
