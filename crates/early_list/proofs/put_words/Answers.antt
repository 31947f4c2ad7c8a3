-- `early_list::put_words` meets its contract.
use native.Mathlib.Omega.{arith}
use Rattle.early_list.proofs.AnswerWordLaws.{words-put}
use Rattle.early_list.proofs.put_words.Goals as goal

pub returns : goal.returns
returns c =
    let x = c.args in
    words-put x.answers.now _ _ x.at _ c.copy_from_slice.ensures.after (omega arith) (omega arith)
