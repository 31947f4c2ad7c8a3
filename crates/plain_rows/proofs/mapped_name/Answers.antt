-- `plain_rows::mapped_name` meets its contract.
use Rattle.std.proofs.Common.{refl, arith}
use Rattle.plain_words.proofs.MapLaws.{name_below, name-above, name-port}
use Rattle.plain_rows.proofs.mapped_name.Goals as goal

pub returns-in-128-to-135-clause-name : goal.returns-in-128-to-135-clause-name
returns-in-128-to-135-clause-name c = let a = c.args in name-port a.code.now a.turn a.x (omega arith) (omega arith) _ refl

pub returns-in_default-clause-name : goal.returns-in_default-clause-name
returns-in_default-clause-name c = let a = c.args in name_below a.code.now a.turn a.x (omega arith)

pub returns-in_default-2-clause-name : goal.returns-in_default-2-clause-name
returns-in_default-2-clause-name c = let a = c.args in name-above a.code.now a.turn a.x (omega arith)
