-- The statements of a segment, taken out of the words.
use Rattle.std.proofs.Common.{◌≡◌, ◌∙◌, ℕ, ◌+◌, ◌-◌, ◌*◌, ◌%◌, ◌<◌, ◌≤◌, List, length, get_or, take, drop, arith, length-take, length-drop}
use Rattle.std.proofs.lemmas.List.{get_or-drop, get_or-take}
use Rattle.plain_words.specs.Unpack.{size_by}
use Rattle.plain_words.specs.Shared.{Shared, execute_to, execute_by}
use Rattle.plain_words.proofs.ExitLaws.{execute_by-as}
use Rattle.plain_words.proofs.MapLaws.{execute_to-moved}

-- n of them from a place on
abbrev pub items : List ℕ → ℕ → ℕ → List ℕ
items code base n = take (base + n - base) (drop base code)

pub items-length : (code : List ℕ) (base n : ℕ) → base + n ≤ length code → length (items code base n) ≡ n
items-length code base n h = simp (length-take, length-drop) (omega arith)

items-at : (code : List ℕ) (base n i : ℕ) → i < n → get_or (items code base n) (0 + i) 0 ≡ get_or code (base + i) 0
items-at code base n i h =
    let e : base + n - base ≡ n = omega arith in
    let z : 0 + i ≡ i = omega arith in
    rw (e, z) (get_or-take n (drop base code) i 0 h ∙ get_or-drop base code i 0)

pub execute_by-items : (code : List ℕ) (s i n m : ℕ) (x y : Shared) → i ≡ s → n ≡ size_by (get_or code (34 * (i % 128)) 0) → 34 * (i % 128) + 2 + n ≤ length code → m ≤ n → n ≤ m →
    y ≡ execute_to (items code (34 * (i % 128) + 2) n) 0 m x → y ≡ execute_by code s x
execute_by-items code s i n m x y e f room h l g =
    let base = 34 * (i % 128) + 2 in
    let same : m ≡ n = omega arith in
    execute_by-as code x s i n y e f (rw same at g ∙ execute_to-moved (items code base n) code 0 base x n (λ j k. items-at code base n j k))
