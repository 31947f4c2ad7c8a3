-- The number of places of a log, as owning its record tells it; what a count above it takes.
use Prim.Native.Nat.{ℕ, ◌≤◌, min}
use mathlib.Core.Path.{◌≡◌, refl}
use mathlib.Core.List.{List}
use native.Mathlib.Omega.{arith}
use native.Mathlib.Decide.{dec_le}
use mir.Val.{Val}
use denote.Laws.{Is}
use denote.Struct.Laws as LL
use lib.ListN.{length, take}
use lib.Seq.{take_all}
use Rattle.early.specs.declared.Site.{Site}
use Rattle.early.specs.contracts.Site as site
use Rattle.early.proofs.Site.TheLaws as site'

pub log-length : (s : Site) (vs : List Val) → Is site.the_row s vs → length s.log ≡ 128
log-length s vs g = (LL.owed site.the_type site'.the_laws s vs g).1.0.1.0.1

-- a count above the places takes them all
pub take_within : {A : Type 0} (xs : List A) (n p : ℕ) → length xs ≡ p → take (min n p) xs ≡ take n xs
take_within xs n p e = go (dec_le n p)
  where
    go : Dec (n ≤ p) → take (min n p) xs ≡ take n xs
    go (yes h) = let f : min n p ≡ n = omega arith in rw f refl
    go (no h) = rw (take_all (min n p) xs (omega arith), take_all n xs (omega arith)) refl
