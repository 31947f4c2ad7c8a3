-- `early_list::answer_fit` meets its contract.
use mathlib.Core.Path.{◌∙◌}
use lib.ListN.{replicate, length-replicate}
use Rattle.early_limits.proofs.PlaceLaws.{reach_in-all}
use Rattle.early_row.specs.Lent.{is_by_steps, lent_of}
use Rattle.early_answer.specs.Shown.{table_by}
use Rattle.early_list.proofs.answer_fit.Goals as goal

pub answer_all-requires : goal.answer_all-requires
answer_all-requires c =
    let s = c in
    let x = s.args in
    let r = c.fill_reach in
    let ws = table_by (is_by_steps x.from) x.m (lent_of x.from) in (
      s.requires.0,
      s.requires.1,
      (
        c.fill_names.ensures,
        r.ensures.reach ws s.requires.2.0 ∙ reach_in-all x.m ws (replicate 2048 0) (simp length-replicate),
        rw r.ensures.kept s.requires.2.0,
        s.requires.2.1,
      ),
    )

pub returns : goal.returns
returns c =
    let a = c.answer_all in
    record { kept = a.ensures.kept ∙ c.fill_reach.ensures.kept; left = a.ensures.left; held = a.ensures.held; written = a.ensures.written }
