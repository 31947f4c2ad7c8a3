-- `plain_execute::execute_word` meets its contract, code by code.
use Rattle.std.proofs.Common.{ℕ, ◌/◌, ◌%◌, set, refl, ap, arith}
use Rattle.plain_words.proofs.ExitLaws.{execute_word-sets, execute_word-notifies, op_of-set, op_of-add, op_of-copy, op_of-add-variable, op_of-sub-variable, op_of-notify}
use Rattle.plain_execute.proofs.execute_word.Goals as goal

pub returns-in-0 : goal.returns-in-0
returns-in-0 c = let a = c.args in
    execute_word-sets a.w a.v.now a.told.now a.ranges.now _ (op_of-set a.w c.in-0.is) refl _ refl

pub returns-in-1 : goal.returns-in-1
returns-in-1 c = let at = c in
    let a = at.args in
    let code = at.in-1.is in
    execute_word-sets a.w a.v.now a.told.now a.ranges.now _ (op_of-add a.w (λ e. omega arith) code) refl _ refl

pub returns-in-2 : goal.returns-in-2
returns-in-2 c = let at = c in
    let a = at.args in
    let code = at.in-2.is in
    execute_word-sets a.w a.v.now a.told.now a.ranges.now _ (op_of-copy a.w (λ e. omega arith) (λ e. omega arith) code) refl _ refl

pub returns-in-3 : goal.returns-in-3
returns-in-3 c = let at = c in
    let a = at.args in
    let code = at.in-3.is in
    execute_word-sets a.w a.v.now a.told.now a.ranges.now _ (op_of-add-variable a.w (λ e. omega arith) (λ e. omega arith) (λ e. omega arith) code) refl _ refl

pub returns-in-4 : goal.returns-in-4
returns-in-4 c = let at = c in
    let a = at.args in
    let code = at.in-4.is in
    execute_word-sets a.w a.v.now a.told.now a.ranges.now _ (op_of-sub-variable a.w (λ e. omega arith) (λ e. omega arith) (λ e. omega arith) (λ e. omega arith) code) refl _ (ap (λ (x : ℕ). set a.v.now (a.w / 8 % 64) (x % 4294967296)) (omega (arith, at.fits-v (a.w / 2048 % 64))))

pub returns-in-5 : goal.returns-in-5
returns-in-5 c = let a = c.args in
    let told = c.tell.ensures in
    execute_word-notifies a.w a.v.now a.told.now a.ranges.now _ (op_of-notify a.w (λ e. omega arith) (λ e. omega arith) (λ e. omega arith) (λ e. omega arith) (λ e. omega arith)) _ _ told.marks told.reached

pub returns-else-this-lt8 : goal.returns-else-this-lt8
returns-else-this-lt8 c = absurd (omega arith)
