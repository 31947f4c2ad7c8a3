-- `plain_rows::mapped_word` meets its contract.
use Rattle.std.proofs.Common.{arith}
use Rattle.plain_words.specs.Ports.{ports_by}
use Rattle.plain_words.proofs.MapLaws.{map_word-event, map_word-constant, map_word-names}
use Rattle.plain_rows.proofs.mapped_word.Goals as goal

pub returns-then-operation-gt4 : goal.returns-then-operation-gt4
returns-then-operation-gt4 c = let a = c.args in map_word-event (ports_by a.code.now a.turn) a.w c.if-operation-gt4.true

pub overflow_mul-result : goal.overflow_mul-result
overflow_mul-result c = omega (arith, c.mapped_name-a.ensures.range 256 (omega arith) (omega arith))

pub overflow_add-result : goal.overflow_add-result
overflow_add-result c = omega (arith, c.mapped_name-a.ensures.range 256 (omega arith) (omega arith))

pub overflow_add-result-then-operation-lt2 : goal.overflow_add-result-then-operation-lt2
overflow_add-result-then-operation-lt2 c = omega (arith, c.mapped_name-a.ensures.range 256 (omega arith) (omega arith))

pub returns-then-operation-lt2 : goal.returns-then-operation-lt2
returns-then-operation-lt2 c = let a = c.args in
    map_word-constant (ports_by a.code.now a.turn) a.w c.if-operation-gt4.false c.if-operation-lt2.true _ c.mapped_name-a.ensures.name

pub overflow_mul-result-2 : goal.overflow_mul-result-2
overflow_mul-result-2 c = omega (arith, c.mapped_name-a.ensures.range 256 (omega arith) (omega arith))

pub overflow_add-result-2 : goal.overflow_add-result-2
overflow_add-result-2 c = omega (arith, c.mapped_name-a.ensures.range 256 (omega arith) (omega arith))

pub overflow_mul-result-3 : goal.overflow_mul-result-3
overflow_mul-result-3 c = omega (arith, c.mapped_name-b.ensures.range 9007199254740992 (omega arith) (omega arith))

pub overflow_add-result-3 : goal.overflow_add-result-3
overflow_add-result-3 c = omega (arith, c.mapped_name-a.ensures.range 256 (omega arith) (omega arith), c.mapped_name-b.ensures.range 9007199254740992 (omega arith) (omega arith))

pub returns : goal.returns
returns c = let a = c.args in
    map_word-names (ports_by a.code.now a.turn) a.w c.if-operation-gt4.false c.if-operation-lt2.false _ _ c.mapped_name-a.ensures.name c.mapped_name-b.ensures.name
