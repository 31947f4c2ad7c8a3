-- `plain_pack::any_marked` meets its contract.
use Rattle.std.proofs.Common.{rules, ℕ, ◌*◌, ◌∙◌, ap, refl, get_or, arith}
use Rattle.std.proofs.lemmas.Iterator.{YieldsList-from_range}
use Rattle.std.proofs.lemmas.Iterator.Search.{any_from_yields_List}
use Rattle.std.proofs.lemmas.List.FromFn.{length-range_with_len, get_or-range_with_len}
use Rattle.std.specs.List.{range_with_len}
use borrow.Author.Tests.{tests}
use lib.Dec.{leb}
use Rattle.plain_words.specs.Ports.{any_marked, port_mark}
use Rattle.plain_pack.proofs.AnyLaws.{list_any-below}
use Rattle.plain_pack.proofs.any_marked.Goals as goal

pub returns : goal.returns
unfolding any_marked
returns c =
    let marked = λ (s : ℕ). leb port_mark (get_or c.args.code.now (34 * s) 0) in
    any_from_yields_List marked _ _ _ c.any.ensures.ran (YieldsList-from_range 0 64 64 refl refl) (λ x b q k. search (rules, tests)) ∙
    list_any-below marked (range_with_len 0 64) 64 marked (length-range_with_len 0 64) (λ i h. ap marked (get_or-range_with_len 0 64 i 0 h ∙ omega arith))
