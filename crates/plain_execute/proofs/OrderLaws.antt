-- The lesser and the greater of two numbers, as the code takes them.
use Rattle.std.proofs.Common.{◌≡◌, ◌∙◌, ℕ, ◌+◌, List, min, max, get_or, set, arith}
use lib.Seq.{get_or-set_other}
use Rattle.plain_words.specs.Reach.{lesser_of, greater_of, widened}
use Rattle.plain_words.proofs.ReachLaws.{widened-as}

pub min-lesser : (a b : ℕ) → min a b ≡ lesser_of a b
min-lesser a b = grind arith

-- the other one first
pub min-lesser-other : (a b : ℕ) → min a b ≡ lesser_of b a
min-lesser-other a b = grind arith

pub max-greater : (a b : ℕ) → max a b ≡ greater_of a b
max-greater a b = grind arith

-- two places are stored, the second read after the first is stored
pub widened-by : (i a b : ℕ) (rs : List ℕ) (x y : ℕ) → x ≡ min a (get_or rs i 0) → y ≡ max b (get_or (set rs i x) (33 + i) 0) → set (set rs i x) (33 + i) y ≡ widened i a b rs
widened-by i a b rs x y e f =
    let other : get_or (set rs i x) (33 + i) 0 ≡ get_or rs (33 + i) 0 = get_or-set_other rs i (33 + i) x 0 (λ q. omega arith) in
    widened-as i a b rs x y (e ∙ min-lesser a (get_or rs i 0)) (rw other at f ∙ max-greater b (get_or rs (33 + i) 0))
