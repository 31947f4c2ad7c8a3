-- `early_fit::is_unfit_words` meets its contract: too few words, or one that is unfit.
use Rattle.std.proofs.Common.{rules, tests, ℕ, ◌∙◌, ap, ◌*◌, not, ◌&&◌, length, take, ltb, leb, eqb}
use Rattle.std.proofs.lemmas.Iterator.{YieldsList-from_slice}
use Rattle.std.proofs.lemmas.Iterator.Search.{any_from_yields_List}
use Rattle.model.specs.Limits.{cut_time}
use Rattle.tables.specs.Word.{all_ones}
use Rattle.early_log.proofs.AnyLaws.{list_any-below}
use Rattle.early_fit.proofs.FitnessLaws.{is_unfit_words-short, is_unfit_words-all}
use Rattle.early_fit.proofs.is_unfit_words.Goals as goal

pub returns-then-words-count : goal.returns-then-words-count
returns-then-words-count c =
    let n = ap (λ r. r * r) c.from-row.ensures in
    ap (ltb (length c.args.words.now)) n ∙ is_unfit_words-short c.args.m.now c.args.words.now (rw n at c.if-words-count.true)

pub returns-else-words-count : goal.returns-else-words-count
returns-else-words-count c =
    let m = c.args.m.now in
    let ws = c.args.words.now in
    let n = ap (λ r. r * r) c.from-row.ensures in
    let enough = rw n at c.if-words-count.false in
    let test = λ (w : ℕ). leb (1024 * cut_time) w && not (eqb w all_ones) in
    any_from_yields_List test _ _ _ c.any.ensures.ran (YieldsList-from_slice (take (m.n * m.n) ws) (c.iter.ensures.rest ∙ ap (λ k. take k ws) n)) (λ x b q k. search (rules, tests))
    ∙ (list_any-below test ws 0 (m.n * m.n) enough ∙ is_unfit_words-all m ws enough)
