-- A bound as one number, a limit: time × 65,536 + delta, never as all ones. No delta of a sum reaches 65,536 on a fit state.
use Rattle.std.specs.Prelude.{ℕ, zero, suc, ◌+◌, ◌*◌, ◌/◌, ◌%◌, Bool, cond, ◌&&◌, ◌||◌, ltb, eqb}
use Rattle.clock.specs.declared.Cycle.{Cycle}
use Rattle.clock.specs.declared.Bound.{Bound}
use Rattle.clock.specs.declared.Bound.TheVariants.{Never, At}
use Rattle.model.specs.Limits.{cut_time}
use Rattle.tables.specs.Word.{all_ones}

abbrev pub unit : ℕ
unit = 65536

unfoldable pub limit_of : Bound → ℕ
limit_of Never = all_ones
limit_of (At c) = c.time.0 * unit + c.delta.0

-- 2 ^ 62: a limit at or above it stands for never in a sum
abbrev pub top : ℕ
top = 4611686018427387904

-- a cycle as a limit; never, where its time is 2 ^ 46 or more
unfoldable pub limit_of_cycle : Cycle → ℕ
limit_of_cycle c = cond (ltb c.time.0 70368744177664) (c.time.0 * unit + c.delta.0) all_ones

-- a word of the distance table as a limit; never, where its time is out of range
unfoldable pub limit_of_word : ℕ → ℕ
limit_of_word w = cond (ltb (w / 1024) cut_time) (w / 1024 * unit + w % 1024) all_ones

unfoldable pub lesser : ℕ → ℕ → ℕ
lesser a b = cond (ltb b a) b a

-- the least of f 0, f 1, .., f (n - 1); never, if n is 0
unfoldable pub lesser_below : ℕ → (ℕ → ℕ) → ℕ
lesser_below zero f = all_ones
lesser_below (suc n) f = lesser (lesser_below n f) (f n)

-- "a distance is added as the clock says": a time wait starts the delta anew
unfoldable pub sum_of : ℕ → ℕ → ℕ
sum_of a d = cond (ltb a top && ltb d top) (cond (ltb d unit) (a + d) (a / unit * unit + d)) all_ones

-- a limit, or that of the cycle in which a wait began where that is later; never stays never
unfoldable pub raised_limit : ℕ → ℕ → ℕ
raised_limit since x = cond (ltb x since) since x

-- "at a smaller stamp": thread j at limit b, before thread i at limit c
unfoldable pub is_sooner_limit : ℕ → ℕ → ℕ → ℕ → Bool
is_sooner_limit b j c i = ltb b c || (eqb b c && ltb j i)

-- x, or k where that is less
unfoldable pub at_most : ℕ → ℕ → ℕ
at_most k x = cond (ltb x k) x k
