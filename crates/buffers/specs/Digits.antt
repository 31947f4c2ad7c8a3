-- A number in decimal, in ASCII.
use Rattle.std.specs.Prelude.{ℕ, zero, suc, ◌+◌, ◌/◌, ◌%◌, cond, List, [], ◌∷◌, ◌++◌, ltb}

-- the last digits of n, at most so many: those of n / 10, then that of n % 10; no zero in front
unfoldable pub last_digits : ℕ → ℕ → List ℕ
last_digits zero n = []
last_digits (suc k) n =
    let more = last_digits k (n / 10) ++ ((48 + n % 10) ∷ []) in
    cond (ltb n 10) ((48 + n) ∷ []) more

-- the digits of n: no number has more than n + 1
unfoldable pub digits_of : ℕ → List ℕ
digits_of n = last_digits (suc n) n
