-- `early_answer::refused` meets its contract.
use Rattle.early_answer.proofs.AnsweredLaws.{refused-made}
use Rattle.early_answer.proofs.refused.Goals as goal

pub returns : goal.returns
returns c = refused-made c.args.number c.args.site c.args.threads
