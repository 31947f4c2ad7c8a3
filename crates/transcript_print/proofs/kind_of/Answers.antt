-- `transcript_print::kind_of` meets its contract: by the first byte, or 0 where there is none.
use mathlib.Core.Path.{◌≡◌, ◌∙◌}
use native.Mathlib.Omega.{arith}
use lib.ListN.{get_or}
use borrow.Author.Rules.{rules}
use Rattle.transcript_print.proofs.LabelLaws.{kind-letter, kind-other}
use Rattle.transcript_print.proofs.kind_of.Goals as goal

pub returns-in-103 : goal.returns-in-103
returns-in-103 c =
    let e : c.unwrap_or-letter.result ≡ get_or c.args.arg.now 0 0 = search rules in
    e ∙ kind-letter c.args.arg.now (omega arith) (omega arith)

pub returns-in_default : goal.returns-in_default
returns-in_default c =
    let e : c.unwrap_or-letter.result ≡ get_or c.args.arg.now 0 0 = search rules in
    kind-other c.args.arg.now (λ z. omega arith) (λ z. omega arith)

pub returns-in_default-2 : goal.returns-in_default-2
returns-in_default-2 c =
    let e : c.unwrap_or-letter.result ≡ get_or c.args.arg.now 0 0 = search rules in
    kind-other c.args.arg.now (λ z. omega arith) (λ z. omega arith)
