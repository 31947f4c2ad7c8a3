-- `plain_rows::mapped_choice` meets its contract.
use native.Mathlib.Omega.{arith}
use Rattle.plain_words.specs.Ports.{ports_by}
use Rattle.plain_words.proofs.MapLaws.{map_choice-as}
use Rattle.plain_rows.proofs.mapped_choice.Goals as goal

pub overflow_mul-result : goal.overflow_mul-result
overflow_mul-result c = omega (arith, c.mapped_name-test.ensures.range 256 (omega arith) (omega arith))

pub overflow_add-result : goal.overflow_add-result
overflow_add-result c = omega (arith, c.mapped_name-test.ensures.range 256 (omega arith) (omega arith))

pub overflow_add-result-2 : goal.overflow_add-result-2
overflow_add-result-2 c = omega (arith, c.mapped_name-test.ensures.range 256 (omega arith) (omega arith))

pub returns : goal.returns
returns c = let a = c.args in map_choice-as (ports_by a.code.now a.turn) a.w _ c.mapped_name-test.ensures.name
