-- Conflicts through a port on masks are those of `ports_conflict`, for a model that keeps the file rules.
--     footprint-writes, footprint-uses, footprint-ported     what a thread does in a segment after mapping, bit by bit
--     crosses-is     a conflict through a port
--     conflicts_on-is     by the words that `fill_names` leaves, also where no thread uses a port
use Prim.Native.Nat.{ℕ, zero, suc, ◌+◌, ◌-◌, ◌≤◌, ◌*◌, ◌<◌, ◌^◌, min}
use mathlib.Core.Path.{◌≡◌, refl, ap, ap₂, sym, ◌∙◌}
use mathlib.Core.Logic.{◌⊎◌, inl, inr}
use mathlib.Core.Bool.{Bool, true, false, not, cond, ◌&&◌, ◌||◌, or-false, and-false}
use mathlib.Core.List.{List, []}
use native.Mathlib.Omega.{arith}
use native.Mathlib.Numerals.{add-one}
use native.Mathlib.Nat.{zero-add}
use native.Mathlib.Decide.{dec_lt}
use lib.Bits.{bit_and, bit_or, and_le_l, or_lt}
use lib.Dec.{T, ltb, eqb, eqb→eq}
use lib.ListN.{length, get_or, replicate, length-replicate, get_or-replicate, get_or-eq_default}
use borrow.Author.Tests.{lt-ltb, le-ltb, ne_eqb}
use Rattle.base.specs.Index.{any_below}
use Rattle.base.proofs.BoolLaws.{T-same, true→T, false→T, and→both}
use Rattle.base.proofs.IndexLaws.{any_below-same, any_below-empty, any_below-found, any_below-some, any_below-none}
use Rattle.masks.specs.Mask.{bit_at, with_bit}
use Rattle.masks.proofs.MaskLaws.{bit_at-zero, bit_at-and, bit_at-or, bit_at-some, bit_at-with_bit-below, with_bit-lt}
use Rattle.model.specs.declared.Model.{Model}
use Rattle.model.specs.declared.Start.{Start}
use Rattle.model.specs.Port.{first_port, unused, port_of, uses_ports, mapped}
use Rattle.model.specs.Values.{segment_at, start_at, ports_at, segment_for}
use Rattle.model.specs.Footprint.{writes_of, uses_of, writes_in, uses_in, names_port, uses_by_port}
use Rattle.model.specs.Rules.{model_fault}
use Rattle.model_effect.proofs.PortLaws.{mapped-port, mapped-below, uses-mapped}
use Rattle.model_rules.proofs.RuleLaws.{Name, model_fault-counts, model_fault-segment, model_fault-ports, segment_fault-uses}
use Rattle.tables.specs.Conflict.{mark_at}
use Rattle.early.specs.Hazard.{ports_conflict, threads_conflict}
use Rattle.early_ports.specs.declared.Footprint.{Footprint}
use Rattle.early_ports.specs.Names.{names_of, name_word, stretches, any_ports, names_for}
use Rattle.early_ports.specs.Cross.{map_bits, no_footprint, footprint_of, crosses, ports_in, conflicts_on}
use Rattle.early_ports.proofs.MapLaws.{writes-split, uses-split}
use Rattle.early_ports.proofs.NameLaws.{names_of-writes, names_of-uses, names_of-lt, stretches-at, names_for-none, names_for-some}

-- for the code

pub map_bits-none : (ps : List ℕ) (w : ℕ) → 0 ≡ map_bits ps w 0
unfolding map_bits
map_bits-none ps w = refl

pub map_bits-more : (ps : List ℕ) (w p v u : ℕ) (b : Bool) → v ≡ map_bits ps w p → b ≡ bit_at w p → u ≡ cond b (with_bit v (port_of ps p)) v → u ≡ map_bits ps w (p + 1)
unfolding map_bits
map_bits-more ps w p v u b e f g = rw (add-one, ← e, ← f) g

map_bits-zero : (ps : List ℕ) (n : ℕ) → map_bits ps 0 n ≡ 0
unfolding map_bits
map_bits-zero ps zero = refl
map_bits-zero ps (suc n) = rw (bit_at-zero n) (map_bits-zero ps n)

pub map_bits-unset : (ps : List ℕ) (w : ℕ) → w ≡ 0 → 0 ≡ map_bits ps w 8
map_bits-unset ps w e = rw e (sym (map_bits-zero ps 8))

pub footprint_of-past : (names ps : List ℕ) (s : ℕ) → 64 ≤ s → no_footprint ≡ footprint_of names ps s
unfolding footprint_of
footprint_of-past names ps s h = rw (le-ltb s 64 h) refl

pub footprint_of-made :
    (names ps : List ℕ) (s p ported w written a b : ℕ) → s < 64 → p ≡ get_or names (192 + s) 0 → ported ≡ map_bits ps p 8 → w ≡ get_or names (128 + s) 0 →
    written ≡ map_bits ps w 8 → a ≡ get_or names s 0 → b ≡ get_or names (64 + s) 0 →
    record { writes = bit_or a written; uses = bit_or b ported; ported = ported } ≡ footprint_of names ps s
unfolding footprint_of
footprint_of-made names ps s p ported w written a b h e f g i j k = rw (lt-ltb s 64 h, ← e, ← g, ← j, ← k, ← f, ← i) refl

-- the variables of ports

map_bits-at : (ps : List ℕ) (w n v : ℕ) → v < 64 → bit_at (map_bits ps w n) v ≡ any_below n (λ p. bit_at w p && eqb (port_of ps p) v)
unfolding map_bits any_below
map_bits-at ps w zero v h = bit_at-zero v
map_bits-at ps w (suc n) v h = go (bit_at w n) ∙ ap (λ (b : Bool). b || (bit_at w n && eqb (port_of ps n) v)) (map_bits-at ps w n v h)
  where
    go : (b : Bool) → bit_at (cond b (with_bit (map_bits ps w n) (port_of ps n)) (map_bits ps w n)) v ≡ (bit_at (map_bits ps w n) v || (b && eqb (port_of ps n) v))
    go true = bit_at-with_bit-below (map_bits ps w n) (port_of ps n) v h
    go false = sym (or-false (bit_at (map_bits ps w n) v))

map_bits-lt : (ps : List ℕ) (w n : ℕ) → map_bits ps w n < 2 ^ 64
unfolding map_bits
map_bits-lt ps w zero = omega arith
map_bits-lt ps w (suc n) = go (bit_at w n) (map_bits-lt ps w n)
  where
    go : (b : Bool) → map_bits ps w n < 2 ^ 64 → cond b (with_bit (map_bits ps w n) (port_of ps n)) (map_bits ps w n) < 2 ^ 64
    go true h = with_bit-lt (map_bits ps w n) (port_of ps n) h
    go false h = h

-- two footprints, bit by bit below 64

and-assoc3 : (a b c : Bool) → ((a && b) && c) ≡ (a && (b && c))
and-assoc3 true b c = refl
and-assoc3 false b c = refl

crosses-bits :
    (a b : Footprint) (ua wa pa ub wb pb : ℕ → Bool) → a.uses < 2 ^ 64 → ((v : ℕ) → v < 64 → bit_at a.uses v ≡ ua v) → ((v : ℕ) → v < 64 → bit_at a.writes v ≡ wa v) →
    ((v : ℕ) → v < 64 → bit_at a.ported v ≡ pa v) → ((v : ℕ) → v < 64 → bit_at b.uses v ≡ ub v) → ((v : ℕ) → v < 64 → bit_at b.writes v ≡ wb v) →
    ((v : ℕ) → v < 64 → bit_at b.ported v ≡ pb v) →
    crosses a b ≡ any_below 64 (λ v. (ua v && ub v) && ((wa v || wb v) && (pa v || pb v)))
unfolding crosses
crosses-bits a b ua wa pa ub wb pb small fu fw fp gu gw gp =
    bit_at-some w (omega (arith, small, and_le_l a.uses b.uses, and_le_l uu ww, and_le_l (bit_and uu ww) pp))
    ∙ any_below-same 64 (bit_at w) (λ v. (ua v && ub v) && ((wa v || wb v) && (pa v || pb v))) at
  where
    uu : ℕ
    uu = bit_and a.uses b.uses

    ww : ℕ
    ww = bit_or a.writes b.writes

    pp : ℕ
    pp = bit_or a.ported b.ported

    w : ℕ
    w = bit_and (bit_and uu ww) pp

    at : (v : ℕ) → v < 64 → bit_at w v ≡ ((ua v && ub v) && ((wa v || wb v) && (pa v || pb v)))
    at v h =
        bit_at-and (bit_and uu ww) pp v
        ∙ (ap₂ ◌&&◌
        (bit_at-and uu ww v
        ∙ ap₂ ◌&&◌ (bit_at-and a.uses b.uses v ∙ ap₂ ◌&&◌ (fu v h) (gu v h)) (bit_at-or a.writes b.writes v ∙ ap₂ ◌||◌ (fw v h) (gw v h)))
        (bit_at-or a.ported b.ported v ∙ ap₂ ◌||◌ (fp v h) (gp v h))
        ∙ and-assoc3 (ua v && ub v) (wa v || wb v) (pa v || pb v))

-- the words of a model

module _ (m : Model) (names : List ℕ) (words : (q s : ℕ) → q < 4 → s < m.n → get_or names (64 * q + s) 0 ≡ name_word q (segment_at m s)) where
  module _ (few : m.n ≤ 64) (k s : ℕ) (sn : s < m.n) where
    own : Footprint
    own = footprint_of names (ports_at m k) s

    made : own ≡ record {
      writes = bit_or (names_of 0 true (segment_at m s)) (map_bits (ports_at m k) (names_of first_port true (segment_at m s)) 8);
      uses = bit_or (names_of 0 false (segment_at m s)) (map_bits (ports_at m k) (names_of first_port false (segment_at m s)) 8);
      ported = map_bits (ports_at m k) (names_of first_port false (segment_at m s)) 8;
    }
    unfolding own name_word
    made =
        sym
        (footprint_of-made names (ports_at m k) s _ _ _ _ _ _ (omega arith) (sym (words 3 s (omega arith) sn)) refl (sym (words 2 s (omega arith) sn)) refl
        (sym (ap (λ (i : ℕ). get_or names i 0) (sym (zero-add s)) ∙ words 0 s (omega arith) sn)) (sym (words 1 s (omega arith) sn)))

    module _ (v : ℕ) (small : v < 64) where
      pub footprint-ported : bit_at (footprint_of names (ports_at m k) s).ported v ≡ uses_by_port m k s v
      unfolding own uses_by_port names_port
      footprint-ported =
          ap (λ (x : Footprint). bit_at x.ported v) made
          ∙ (map_bits-at (ports_at m k) (names_of first_port false (segment_at m s)) 8 v small
          ∙ any_below-same 8 (λ p. bit_at (names_of first_port false (segment_at m s)) p && eqb (port_of (ports_at m k) p) v) (λ p. uses_of (segment_at m s) (first_port + p) && eqb (port_of (ports_at m k) p) v)
          (λ p h. ap (λ (b : Bool). b && eqb (port_of (ports_at m k) p) v) (names_of-uses first_port p (omega arith) (omega arith) (segment_at m s))))

      pub footprint-uses : bit_at (footprint_of names (ports_at m k) s).uses v ≡ uses_in m k s v
      unfolding own uses_in segment_for
      footprint-uses =
          ap (λ (x : Footprint). bit_at x.uses v) made
          ∙ (bit_at-or (names_of 0 false (segment_at m s)) (map_bits (ports_at m k) (names_of first_port false (segment_at m s)) 8) v
          ∙ (ap₂ ◌||◌ (names_of-uses 0 v small (omega arith) (segment_at m s) ∙ ap (uses_of (segment_at m s)) (zero-add v))
          (map_bits-at (ports_at m k) (names_of first_port false (segment_at m s)) 8 v small
          ∙ any_below-same 8 (λ p. bit_at (names_of first_port false (segment_at m s)) p && eqb (port_of (ports_at m k) p) v) (λ p. uses_of (segment_at m s) (first_port + p) && eqb (port_of (ports_at m k) p) v)
          (λ p h. ap (λ (b : Bool). b && eqb (port_of (ports_at m k) p) v) (names_of-uses first_port p (omega arith) (omega arith) (segment_at m s))))
          ∙ sym (uses-split (ports_at m k) (segment_at m s) v small)))

      pub footprint-writes : bit_at (footprint_of names (ports_at m k) s).writes v ≡ writes_in m k s v
      unfolding own writes_in segment_for
      footprint-writes =
          ap (λ (x : Footprint). bit_at x.writes v) made
          ∙ (bit_at-or (names_of 0 true (segment_at m s)) (map_bits (ports_at m k) (names_of first_port true (segment_at m s)) 8) v
          ∙ (ap₂ ◌||◌ (names_of-writes 0 v small (omega arith) (segment_at m s) ∙ ap (writes_of (segment_at m s)) (zero-add v))
          (map_bits-at (ports_at m k) (names_of first_port true (segment_at m s)) 8 v small
          ∙ any_below-same 8 (λ p. bit_at (names_of first_port true (segment_at m s)) p && eqb (port_of (ports_at m k) p) v) (λ p. writes_of (segment_at m s) (first_port + p) && eqb (port_of (ports_at m k) p) v)
          (λ p h. ap (λ (b : Bool). b && eqb (port_of (ports_at m k) p) v) (names_of-writes first_port p (omega arith) (omega arith) (segment_at m s))))
          ∙ sym (writes-split (ports_at m k) (segment_at m s) v small)))

    footprint-lt : (footprint_of names (ports_at m k) s).uses < 2 ^ 64
    unfolding own
    footprint-lt =
        rw (ap (λ (x : Footprint). x.uses) made)
        (or_lt 64 (names_of 0 false (segment_at m s)) (map_bits (ports_at m k) (names_of first_port false (segment_at m s)) 8) (names_of-lt 0 false (segment_at m s))
        (map_bits-lt (ports_at m k) (names_of first_port false (segment_at m s)) 8))

  module _ (fit : model_fault m ≡ 0) where
    -- what is used below 64 is a variable
    used-below : (k s v : ℕ) → k < m.t → s < m.n → v < 64 → T (uses_in m k s v) → v < m.v
    unfolding uses_in segment_for
    used-below k s v kt sn h t =
        let (a, u, e) = uses-mapped (ports_at m k) (segment_at m s) v t in
        go a e (segment_fault-uses m.v m.e (segment_at m s) (model_fault-segment m fit s sn) a u)
      where
        port : (a : ℕ) → mapped (ports_at m k) a ≡ v → 128 ≤ a → a < 136 → (port_of (ports_at m k) (a - 128) ≡ unused) ⊎ (port_of (ports_at m k) (a - 128) < m.v) → v < m.v
        port a e l i (inl z) = absurd (omega (arith, mapped-port (ports_at m k) a l i))
        port a e l i (inr z) = omega (arith, mapped-port (ports_at m k) a l i)

        go : (a : ℕ) → mapped (ports_at m k) a ≡ v → Name m.v a → v < m.v
        go a e (inl l) = let c = (model_fault-counts m fit).variables in omega (arith, mapped-below (ports_at m k) a (omega arith))
        go a e (inr l) = port a e l.0 l.1 (model_fault-ports m fit k (a - 128) kt (omega (arith, l.0, l.1)))

    pub crosses-is : (i r j s : ℕ) → i < m.t → r < m.n → s < m.n → crosses (footprint_of names (ports_at m i) r) (footprint_of names (ports_at m j) s) ≡ ports_conflict m i r j s
    unfolding ports_conflict
    crosses-is i r j s it rn sn =
        crosses-bits (footprint_of names (ports_at m i) r) (footprint_of names (ports_at m j) s) (uses_in m i r) (writes_in m i r) (uses_by_port m i r) (uses_in m j s) (writes_in m j s) (uses_by_port m j s)
        (footprint-lt few i r rn) (footprint-uses few i r rn) (footprint-writes few i r rn) (footprint-ported few i r rn)
        (footprint-uses few j s sn) (footprint-writes few j s sn) (footprint-ported few j s sn)
        ∙ T-same (any_below 64 shared) (any_below m.v shared)
        (λ t. let (v, l, u) = any_below-some 64 shared t in any_below-found m.v shared v (used-below i r v it rn l (and→both (uses_in m i r v) (uses_in m j s v) (and→both (uses_in m i r v && uses_in m j s v) _ u).0).0) u)
        (λ t. let (v, l, u) = any_below-some m.v shared t in any_below-found 64 shared v (let h = (model_fault-counts m fit).variables in omega arith) u)
      where
        few : m.n ≤ 64
        few = (model_fault-counts m fit).segments

        shared : ℕ → Bool
        shared v = (uses_in m i r v && uses_in m j s v) && ((writes_in m i r v || writes_in m j s v) && (uses_by_port m i r v || uses_by_port m j s v))

-- by the words that `fill_names` leaves in a buffer of zeros

unported : (m : Model) → model_fault m ≡ 0 → any_ports m.starts m.t ≡ false → (k s v : ℕ) → k < m.t → v < m.v → uses_by_port m k s v ≡ false
unfolding any_ports uses_ports uses_by_port ports_at start_at
unported m fit none k s v kt vv =
    any_below-empty 8 (λ p. names_port m s p && eqb (port_of (ports_at m k) p) v)
    (λ p h. go p (eqb (port_of (ports_at m k) p) unused) (any_below-none 8 (λ p. not (eqb (port_of (ports_at m k) p) unused)) (any_below-none (min m.t 32) (λ k. uses_ports (ports_at m k)) (false→T _ none) k (omega (arith, (model_fault-counts m fit).threads))) p h) refl)
  where
    go : (p : ℕ) (b : Bool) → T (not (not b)) → eqb (port_of (ports_at m k) p) unused ≡ b → (names_port m s p && eqb (port_of (ports_at m k) p) v) ≡ false
    go p true t e =
        let z = eqb→eq (port_of (ports_at m k) p) unused (true→T _ e) in
        rw (ne_eqb (port_of (ports_at m k) p) v (λ f. omega (arith, (model_fault-counts m fit).variables, z, f))) (and-false (names_port m s p))
    go p false t e = absurd t

ports_conflict-none : (m : Model) → model_fault m ≡ 0 → any_ports m.starts m.t ≡ false → (i r j s : ℕ) → i < m.t → j < m.t → ports_conflict m i r j s ≡ false
unfolding ports_conflict
ports_conflict-none m fit none i r j s it jt =
    any_below-empty m.v (λ v. (uses_in m i r v && uses_in m j s v) && ((writes_in m i r v || writes_in m j s v) && (uses_by_port m i r v || uses_by_port m j s v)))
    (λ v h. rw (unported m fit none i r v it h, unported m fit none j s v jt h, and-false (writes_in m i r v || writes_in m j s v)) (and-false (uses_in m i r v && uses_in m j s v)))

zero-at : (k i : ℕ) → get_or (replicate k zero) i 0 ≡ zero
zero-at k i = go (dec_lt i k)
  where
    go : Dec (i < k) → get_or (replicate k zero) i 0 ≡ zero
    go (yes h) = get_or-replicate k i zero zero h
    go (no h) = get_or-eq_default (replicate k zero) zero {n = i} (omega (arith, length-replicate k zero))

footprint_of-zeros : (k : ℕ) (ps : List ℕ) (s : ℕ) → (footprint_of (replicate k 0) ps s).uses ≡ 0
unfolding footprint_of
footprint_of-zeros k ps s = go (ltb s 64)
  where
    go : (b : Bool) → (cond b (record { writes = bit_or (get_or (replicate k 0) s 0) (map_bits ps (get_or (replicate k 0) (128 + s) 0) 8); uses = bit_or (get_or (replicate k 0) (64 + s) 0) (map_bits ps (get_or (replicate k 0) (192 + s) 0) 8); ported = map_bits ps (get_or (replicate k 0) (192 + s) 0) 8 }) no_footprint).uses ≡ 0
    go true = rw (zero-at k (64 + s), zero-at k (192 + s), map_bits-zero ps 8) refl
    go false = refl

-- what uses nothing conflicts with nothing
pub crosses-none : (a b : Footprint) → a.uses ≡ 0 → crosses a b ≡ false
unfolding crosses
crosses-none a b e =
    let z : bit_and (bit_and (bit_and a.uses b.uses) (bit_or a.writes b.writes)) (bit_or a.ported b.ported) ≡ 0 =
    omega (
      arith,
      e,
      and_le_l a.uses b.uses,
      and_le_l (bit_and a.uses b.uses) (bit_or a.writes b.writes),
      and_le_l (bit_and (bit_and a.uses b.uses) (bit_or a.writes b.writes)) (bit_or a.ported b.ported),
    ) in
    rw z refl

-- a segment past the marks and the words
pub conflicts_on-past : (marks : List (List Bool)) (names : List ℕ) (starts : List Start) (i r j s : ℕ) → length marks ≤ r → 64 ≤ r → conflicts_on marks names starts i r j s ≡ false
unfolding conflicts_on mark_at
conflicts_on-past marks names starts i r j s h l =
    let e : get_or marks r [] ≡ [] = get_or-eq_default marks [] h in
    rw (e, ← footprint_of-past names (ports_in starts i) r l) (crosses-none no_footprint (footprint_of names (ports_in starts j) s) refl)

module _ (m : Model) (fit : model_fault m ≡ 0) (marks : List (List Bool)) (i r j s : ℕ) (it : i < m.t) (rn : r < m.n) (jt : j < m.t) (sn : s < m.n) where
  crossed : crosses (footprint_of (names_for m (replicate 256 0)) (ports_at m i) r) (footprint_of (names_for m (replicate 256 0)) (ports_at m j) s) ≡ ports_conflict m i r j s
  crossed = go (any_ports m.starts m.t) refl
    where
      zeros : List ℕ
      zeros = replicate 256 0

      few : min m.n 64 ≡ m.n
      few = let c = (model_fault-counts m fit).segments in omega arith

      go : (b : Bool) → any_ports m.starts m.t ≡ b → crosses (footprint_of (names_for m (replicate 256 0)) (ports_at m i) r) (footprint_of (names_for m (replicate 256 0)) (ports_at m j) s) ≡ ports_conflict m i r j s
      go true e =
          let n = names_for-some m zeros (stretches m (min m.n 64) zeros 4) (min m.n 64) 4 (omega (arith, length-replicate 256 zero)) e refl refl refl in
          rw (← n)
          (crosses-is m (stretches m (min m.n 64) zeros 4)
          (λ q t l h. stretches-at m (min m.n 64) zeros 4 q t (omega arith) (omega arith) (omega (arith, length-replicate 256 zero)) l (omega (arith, few))) fit i r j s it rn sn)
      go false e =
          let n = names_for-none m zeros (omega (arith, length-replicate 256 zero)) e in
          rw (← n)
          (crosses-none (footprint_of zeros (ports_at m i) r) (footprint_of zeros (ports_at m j) s) (footprint_of-zeros 256 (ports_at m i) r)
          ∙ sym (ports_conflict-none m fit e i r j s it jt))

  pub conflicts_on-is : conflicts_on marks (names_for m (replicate 256 0)) m.starts i r j s ≡ threads_conflict m marks i r j s
  unfolding conflicts_on ports_in ports_at start_at threads_conflict
  conflicts_on-is = ap (λ (b : Bool). mark_at marks r s || b) crossed
