-- `second::layout::words_of` meets its contract.
use Rattle.second.specs.Layout.{words_of}
use Rattle.second.proofs.layout.words_of.Goals as goal

pub returns : goal.returns
unfolding words_of
returns c =
    let p = c in
    let n = p in
    rw (← n.put_records.ensures, ← n.at-n.ensures, ← p.put_pairs.ensures, ← c.copy.ensures) c.copy-2.ensures
