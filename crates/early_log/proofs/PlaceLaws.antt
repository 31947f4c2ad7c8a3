-- The places that hold a log: the log, then places that hold nothing. One pair more goes to the first of these.
use Prim.Native.Nat.{ℕ, suc, ◌-◌, ◌<◌, ◌+◌}
use mathlib.Core.Path.{◌≡◌, refl}
use mathlib.Core.List.{List, [], ◌∷◌, ◌++◌, append_assoc}
use native.Mathlib.Omega.{arith}
use lib.ListN.{length, take, replicate, set, length-append}
use lib.Seq.{take-append_seam, set-append_seam}
use Rattle.model.specs.declared.Variables.{Variables}
use Rattle.early.specs.declared.Notification.{Notification}
use Rattle.early.specs.Log.{places, site_of}
use Rattle.early_log.specs.Noted.{no_pair}

unfoldable pub padded : List Notification → List Notification
padded l = l ++ replicate (places - length l) no_pair

pub padded-none : replicate places no_pair ≡ padded []
unfolding padded
padded-none = refl

pub padded-take : (l : List Notification) → take (length l) (padded l) ≡ l
unfolding padded
padded-take l = take-append_seam l _

pub padded-more : (l : List Notification) (x : Notification) → length l < places → set (padded l) (length l) x ≡ padded (l ++ (x ∷ []))
unfolding padded
padded-more l x h =
    let e : places - length l ≡ suc (places - (length l + 1)) = omega arith in
    let f : length (l ++ (x ∷ [])) ≡ length l + 1 = length-append l (x ∷ []) in
    rw (e, f, append_assoc) (set-append_seam l no_pair _ x)

-- a state whose places hold l
pub site_of-padded : (v : Variables) (l log : List Notification) (count : ℕ) → log ≡ padded l → count ≡ length l → record { variables = v; log = log; count = count } ≡ site_of v.at l
unfolding padded site_of
site_of-padded v l log count e f = rw (e, f) refl
