-- The values that are held, one set of 64 for each thread: a set that is written is read again, and the others stay.
--     held_at-length, with_held-length     how many they are
--     held_at-same, held_at-other     a set that is written, and the others
use Prim.Native.Nat.{ℕ, suc, ◌+◌, ◌-◌, ◌*◌, ◌<◌, ◌≤◌, min}
use mathlib.Core.Path.{◌≡◌, refl, ap, sym, ◌∙◌}
use mathlib.Core.Logic.{◌⊎◌, inl, inr}
use mathlib.Core.List.{List, [], ◌∷◌, ◌++◌, append_assoc}
use native.Mathlib.Omega.{arith}
use native.Mathlib.Decide.{dec_lt}
use lib.ListN.{length, get_or, set, take, drop, length-take, length-drop}
use lib.Seq.{sets, sets-eq, length-sets, ext_get_or, get_or-take, get_or-drop, get_or-set_other, length-take-le, take-append_seam, drop-append_seam}
use Rattle.early.specs.Call.{held_count, held_at, with_held}

pub held_at-length : (held : List ℕ) (k : ℕ) → held_count * k + held_count ≤ length held → length (held_at held k) ≡ held_count
held_at-length held k enough = let d = length-drop (held_count * k) held in length-take-le held_count (drop (held_count * k) held) (omega arith)

pub with_held-length : (held : List ℕ) (k : ℕ) (v : List ℕ) → length (with_held held k v) ≡ length held
with_held-length held k v = length-sets held (held_count * k) v

pub held_at-same : (held : List ℕ) (k : ℕ) (v : List ℕ) → length v ≡ held_count → held_count * k + held_count ≤ length held → held_at (with_held held k v) k ≡ v
held_at-same held k v size enough =
    let at = held_count * k in
    let front = length-take-le at held (omega arith) in
    ap (λ (l : List ℕ). take held_count (drop at l)) (sets-eq v held at (omega arith) ∙ append_assoc (take at held) v (drop (at + length v) held))
    ∙ ap (λ (n : ℕ). take held_count (drop n (take at held ++ (v ++ drop (at + length v) held)))) (sym front)
    ∙ ap (take held_count) (drop-append_seam (take at held) (v ++ drop (at + length v) held))
    ∙ ap (λ (n : ℕ). take n (v ++ drop (at + length v) held)) (sym size)
    ∙ take-append_seam v (drop (at + length v) held)

-- a number outside of what is written
sets-apart : (held : List ℕ) (at : ℕ) (v : List ℕ) (n : ℕ) → (n < at) ⊎ (at + length v ≤ n) → get_or (sets held at v) n 0 ≡ get_or held n 0
sets-apart held at [] n h = refl
sets-apart held at (x ∷ v) n (inl h) = sets-apart (set held at x) (suc at) v n (inl (omega arith)) ∙ get_or-set_other held at n x 0 (λ e. omega arith)
sets-apart held at (x ∷ v) n (inr h) = sets-apart (set held at x) (suc at) v n (inr (omega arith)) ∙ get_or-set_other held at n x 0 (λ e. omega arith)

pub held_at-other : (held : List ℕ) (k j : ℕ) (v : List ℕ) → length v ≡ held_count → (j ≡ k → ⊥) → held_at (with_held held k v) j ≡ held_at held j
held_at-other held k j v size other =
    ext_get_or 0 (held_at (with_held held k v) j) (held_at held j)
    (length-take held_count (drop (held_count * j) (with_held held k v)) ∙ long ∙ sym (length-take held_count (drop (held_count * j) held)))
    (λ i h. at i (omega (arith, h, length-take held_count (drop (held_count * j) (with_held held k v)))))
  where
    long : min held_count (length (drop (held_count * j) (with_held held k v))) ≡ min held_count (length (drop (held_count * j) held))
    long =
        ap (λ (n : ℕ). min held_count n)
        (length-drop (held_count * j) (with_held held k v) ∙ ap (λ (n : ℕ). n - held_count * j) (with_held-length held k v) ∙ sym (length-drop (held_count * j) held))

    at : (i : ℕ) → i < held_count → get_or (held_at (with_held held k v) j) i 0 ≡ get_or (held_at held j) i 0
    at i h =
        get_or-take held_count (drop (held_count * j) (with_held held k v)) i 0 h
        ∙ get_or-drop (held_count * j) (with_held held k v) i 0
        ∙ sets-apart held (held_count * k) v (held_count * j + i) (side (dec_lt j k))
        ∙ sym (get_or-drop (held_count * j) held i 0)
        ∙ sym (get_or-take held_count (drop (held_count * j) held) i 0 h)
      where
        side : Dec (j < k) → (held_count * j + i < held_count * k) ⊎ (held_count * k + length v ≤ held_count * j + i)
        side (yes l) = inl (omega arith)
        side (no l) = inr (omega arith)
