-- Laws of `Puts`: nothing, one byte, no room, one part after another, parts in turn, a whole word.
-- Assumes nothing.
use Prim.Native.Nat.{ℕ, suc, ◌+◌, ◌≤◌, ◌<◌, min}
use mathlib.Core.Path.{◌≡◌, refl, sym, ap, ◌∙◌}
use mathlib.Core.Logic.{⊎_elim}
use mathlib.Core.List.{List, [], ◌∷◌, ◌++◌}
use native.Mathlib.Numerals.{add-one}
use native.Mathlib.Omega.{arith}
use lib.Dec.{leb, leb→le, nleb→lt}
use lib.ListN.{length, get_or, take, drop, set, length-append}
use lib.Seq.{sets, sets-eq, length-sets, take_all, take-suc, take_at}
use Rattle.base.proofs.BoolLaws.{T-case}
use Rattle.buffers.specs.Put.{bytes_at, place_after, Puts}
use Rattle.buffers.proofs.StoreLaws.{sets-past, sets-append}

-- the buffer and the place that the definitions say
pub puts-is :
    (b c : List ℕ) (at next : ℕ) (xs : List ℕ) → c ≡ bytes_at b at xs → next ≡ place_after b at xs → Puts b at c next xs
unfolding bytes_at place_after
puts-is b c at next xs e p =
    let l : length c ≡ length b = ap length e ∙ length-sets b at xs in
    record { text = e; place = p; same = l; within = omega arith; few = omega arith }

-- the empty text, anywhere
pub puts_none : (b : List ℕ) (at next : ℕ) → next ≡ min at (length b) → Puts b at b next []
unfolding bytes_at place_after
puts_none b at next h = puts-is b b at next [] refl (omega arith)

-- one byte, where there is room
pub puts-byte : (b : List ℕ) (at x : ℕ) → at < length b → Puts b at (set b at x) (at + 1) (x ∷ [])
unfolding bytes_at place_after
puts-byte b at x h = puts-is b (set b at x) at (at + 1) (x ∷ []) refl (omega arith)

-- no room
pub puts-full : (b : List ℕ) (at : ℕ) (xs : List ℕ) → length b ≤ at → Puts b at b (length b) xs
unfolding bytes_at place_after
puts-full b at xs h = puts-is b b at (length b) xs (sym (sets-past b at xs h)) (omega arith)

-- a place that was cut at the end takes no byte either
sets-cut : (b : List ℕ) (n : ℕ) (ys : List ℕ) → sets b (min n (length b)) ys ≡ sets b n ys
sets-cut b n ys =
    ⊎_elim
    (λ h. ap (λ (k : ℕ). sets b k ys) (within (leb→le n (length b) h)))
    (λ h. past (nleb→lt n (length b) h))
    (T-case (leb n (length b)))
  where
    within : n ≤ length b → min n (length b) ≡ n
    within h = omega arith

    past : length b < n → sets b (min n (length b)) ys ≡ sets b n ys
    past h = sets-past b (min n (length b)) ys (omega arith) ∙ sym (sets-past b n ys (omega arith))

-- a part, then a part
pub puts_then :
    {b c d : List ℕ} {at next last : ℕ} {xs ys : List ℕ} → Puts b at c next xs → Puts c next d last ys → Puts b at d last (xs ++ ys)
unfolding bytes_at place_after
puts_then {b} {c} {d} {at} {next} {last} {xs} {ys} p q =
    let l : length (sets b at xs) ≡ length b = length-sets b at xs in
    let e : next ≡ min (at + length xs) (length (sets b at xs)) = rw l p.place in
    let f : d ≡ sets (sets b at xs) next ys = rw p.text at q.text in
    let g : d ≡ sets (sets b at xs) (min (at + length xs) (length (sets b at xs))) ys = rw e at f in
    puts-is b d at last (xs ++ ys) (g ∙ sets-cut (sets b at xs) (at + length xs) ys ∙ sets-append xs ys b at) (simp length-append (omega (arith, p.place, q.place, p.same)))

-- parts in turn, each after those before it: one more
pub puts-next :
    {b c d part : List ℕ} {at next last : ℕ} (parts : ℕ → List ℕ) (i : ℕ) →
    Puts b at c next (parts i) → Puts c next d last part → parts (suc i) ≡ parts i ++ part → Puts b at d last (parts (i + 1))
puts-next parts i p q e = rw (add-one, e) (puts_then p q)

-- a word byte by byte: one more, and all
pub puts-more :
    {b c d : List ℕ} {at next last : ℕ} (xs : List ℕ) (i : ℕ) →
    i < length xs → Puts b at c next (take i xs) → Puts c next d last (get_or xs i 0 ∷ []) → Puts b at d last (take (i + 1) xs)
puts-more xs i h p q = rw (add-one, take-suc xs i 0) (puts_then p q)

pub puts-all : {b c : List ℕ} {at next : ℕ} (xs : List ℕ) (i : ℕ) → length xs ≤ i → Puts b at c next (take i xs) → Puts b at c next xs
puts-all xs i h p = rw (take_all i xs h) at p

-- a text from the front of a buffer that it does not fill was not cut
pub puts-uncut : {b c : List ℕ} {n : ℕ} {xs : List ℕ} → Puts b 0 c n xs → n < length b → (take n c ≡ xs) × (length xs ≡ n)
unfolding bytes_at place_after
puts-uncut {b} {c} {n} {xs} p h =
    let l : length xs ≡ n = omega (arith, p.place) in
    let e : c ≡ xs ++ drop (0 + length xs) b = p.text ∙ sets-eq xs b 0 (omega arith) in
    (rw e (take_at xs (drop (0 + length xs) b) n l), l)
