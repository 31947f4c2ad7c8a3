-- The loops of hazard, as the code leaves them: a segment, the row of one thread, then the threads, then the marks.
--     threatens_limit-late     what is not sooner by itself does not threaten by any row
--     threatens_limit-row     a row worked out says what the table says
use Prim.Native.Nat.{ℕ, ◌+◌, ◌*◌, ◌≤◌, ◌<◌}
use mathlib.Core.Path.{◌≡◌, refl, sym}
use mathlib.Core.Bool.{Bool, true, false, not, ◌&&◌, and-false}
use mathlib.Core.List.{List, []}
use native.Mathlib.Omega.{arith}
use native.Mathlib.Numerals.{add-one}
use native.Mathlib.Nat.{zero-add}
use lib.Dec.{eqb}
use lib.ListN.{length, get_or}
use borrow.Author.Tests.{eq-eqb, ne_eqb}
use Rattle.base.specs.Index.{any_below}
use Rattle.base.proofs.IndexLaws.{any_below-same, any_below-here, any_below-empty}
use Rattle.base.proofs.ListLaws.{get_d_any}
use Rattle.clock.specs.declared.Stamp.{Stamp}
use Rattle.model.specs.declared.Start.{Start}
use Rattle.tables.specs.Conflict.{mark_at}
use Rattle.tables.specs.Word.{all_ones}
use Rattle.tables_row.specs.Row.{Knows}
use Rattle.early_ports.specs.declared.Footprint.{Footprint}
use Rattle.early_ports.specs.Cross.{footprint_of, crosses, ports_in, conflicts_on}
use Rattle.early_ports.proofs.CrossLaws.{crosses-none, conflicts_on-past}
use Rattle.early_limits.specs.Limit.{limit_of_cycle, limit_of_word, sum_of, is_sooner_limit, at_most}
use Rattle.early_limits.specs.Ahead.{threatens_limit, hazard_at}
use Rattle.early_ahead.proofs.LimitLaws.{at_most-≤, sum_of-more, is_sooner_limit-kept}
use Rattle.early_hazard.specs.Store.{conflicts_by, threat_at}

-- the places of a row are as many as before
pub knows-kept : (n room room₀ : ℕ) (ws lent : List ℕ) (stepwise : Bool) → room ≡ room₀ → Knows n ws stepwise lent room₀ → Knows n ws stepwise lent room
knows-kept n room room₀ ws lent stepwise e knows = rw e knows

pub any_below-more : (n : ℕ) (f : ℕ → Bool) → any_below n f ≡ false → f n ≡ false → any_below (n + 1) f ≡ false
unfolding any_below
any_below-more n f e h = rw (add-one n, e, h) refl

-- a conflict by the marks, or through a port

pub conflicts_by-marked : (marked : List Bool) (own : Footprint) (names ps : List ℕ) (s : ℕ) → get_or marked s false ≡ true → true ≡ conflicts_by marked own names ps s
unfolding conflicts_by
conflicts_by-marked marked own names ps s e = rw e refl

pub conflicts_by-unused : (marked : List Bool) (own : Footprint) (names ps : List ℕ) (s : ℕ) → get_or marked s false ≡ false → own.uses ≡ 0 → false ≡ conflicts_by marked own names ps s
unfolding conflicts_by
conflicts_by-unused marked own names ps s e f = rw (e, crosses-none own (footprint_of names ps s) f) refl

pub conflicts_by-port :
    (marked : List Bool) (own other : Footprint) (names ps : List ℕ) (s : ℕ) (b : Bool) → get_or marked s false ≡ false → other ≡ footprint_of names ps s → b ≡ crosses own other →
    b ≡ conflicts_by marked own names ps s
unfolding conflicts_by
conflicts_by-port marked own other names ps s b e f g = rw (e, ← f) g

-- a segment s that conflicts and is reached soon enough
unfoldable pub threat_by : (ℕ → Bool) → List ℕ → ℕ → ℕ → ℕ → ℕ → ℕ → ℕ → ℕ → Bool
threat_by conflicts ws n p b j c i s = conflicts s && is_sooner_limit (sum_of b (limit_of_word (get_or ws (p + s) 0))) j c i

module _ (conflicts : ℕ → Bool) (ws : List ℕ) (n p b j c i : ℕ) where
  pub threatens_limit-late : b ≤ all_ones → is_sooner_limit b j c i ≡ false → false ≡ threatens_limit conflicts ws n p b j c i
  unfolding threatens_limit threat_by
  threatens_limit-late h e =
      sym
      (any_below-empty (at_most 64 n) (threat_by conflicts ws n p b j c i)
      (λ s l. rw (is_sooner_limit-kept j c i b (sum_of b (limit_of_word (get_or ws (p + s) 0))) (sum_of-more b (limit_of_word (get_or ws (p + s) 0)) h) e) (and-false (conflicts s))))

  pub threat_by-apart : (s : ℕ) → conflicts s ≡ false → threat_by conflicts ws n p b j c i s ≡ false
  unfolding threat_by
  threat_by-apart s e = rw e refl

  pub threat_by-late : (s w x : ℕ) → w ≡ limit_of_word (get_or ws (p + s) 0) → x ≡ sum_of b w → is_sooner_limit x j c i ≡ false → threat_by conflicts ws n p b j c i s ≡ false
  unfolding threat_by
  threat_by-late s w x d e f = rw (← d, ← e, f) (and-false (conflicts s))

  pub threatens_limit-found :
      (s w x : ℕ) → s < at_most 64 n → conflicts s ≡ true → w ≡ limit_of_word (get_or ws (p + s) 0) → x ≡ sum_of b w → is_sooner_limit x j c i ≡ true →
      true ≡ threatens_limit conflicts ws n p b j c i
  unfolding threatens_limit threat_by
  threatens_limit-found s w x h m d e f = sym (any_below-here (at_most 64 n) (threat_by conflicts ws n p b j c i) s h (rw (m, ← d, ← e) f))

  pub threatens_limit-none : (s : ℕ) → s ≡ at_most 64 n → any_below s (threat_by conflicts ws n p b j c i) ≡ false → false ≡ threatens_limit conflicts ws n p b j c i
  unfolding threatens_limit threat_by
  threatens_limit-none s h e = rw h at (sym e)

module _ (marked : List Bool) (own : Footprint) (names : List ℕ) (starts : List Start) (ws : List ℕ) (n : ℕ) (segments xs : List ℕ) (i c : ℕ) where
  pub threat_at-self : (j : ℕ) → j ≡ i → threat_at marked own names starts ws n segments xs i c j ≡ false
  unfolding threat_at
  threat_at-self j e = rw (eq-eqb j i e) refl

  pub threat_at-other : (j q : ℕ) (ps : List ℕ) (r : Bool) → (j ≡ i → ⊥) → j < length xs → q ≡ get_or segments j 0 → ps ≡ ports_in starts j
      → r ≡ threatens_limit (conflicts_by marked own names ps) ws n (q * n) (get_or xs j 0) j c i → threat_at marked own names starts ws n segments xs i c j ≡ r
  unfolding threat_at
  threat_at-other j q ps r other h at p e = rw (ne_eqb j i other, get_d_any xs j all_ones 0 h, ← at, ← p) (sym e)

-- a row that says, of each segment, what the table says from place q on
pub threatens_limit-row :
    (conflicts : ℕ → Bool) (row ws : List ℕ) (n q b j c i : ℕ) → ((s : ℕ) → s < n → get_or row s 0 ≡ get_or ws (q + s) 0) →
    threatens_limit conflicts row n 0 b j c i ≡ threatens_limit conflicts ws n q b j c i
unfolding threatens_limit threat_by
threatens_limit-row conflicts row ws n q b j c i same =
    any_below-same (at_most 64 n) (threat_by conflicts row n 0 b j c i) (threat_by conflicts ws n q b j c i)
    (λ s h. rw (zero-add s, same s (omega (arith, (at_most-≤ 64 n).1))) refl)

threatens_limit-empty : (conflicts : ℕ → Bool) (ws : List ℕ) (n p b j c i : ℕ) → ((s : ℕ) → conflicts s ≡ false) → threatens_limit conflicts ws n p b j c i ≡ false
unfolding threatens_limit threat_by
threatens_limit-empty conflicts ws n p b j c i none = any_below-empty (at_most 64 n) (threat_by conflicts ws n p b j c i) (λ s l. rw (none s) refl)

-- a segment past the marks has an empty row, and names nothing
pub hazard_at-past :
    (marks : List (List Bool)) (names : List ℕ) (starts : List Start) (ws : List ℕ) (n t : ℕ) (segments xs : List ℕ) (x : Stamp) (r i : ℕ) → length marks ≡ 64 → i ≡ x.thread.0 →
    r ≡ get_or segments i 0 → 64 ≤ r → false ≡ hazard_at (conflicts_on marks names starts) ws n t segments xs x
unfolding hazard_at
hazard_at-past marks names starts ws n t segments xs x r i size d e h =
    let past : r ≡ get_or segments x.thread.0 0 = rw d at e in
    sym
    (any_below-empty (at_most 32 t)
    (λ j. not (eqb j x.thread.0) && threatens_limit (conflicts_on marks names starts x.thread.0 (get_or segments x.thread.0 0) j) ws n (get_or segments j 0 * n) (get_or xs j all_ones) j (limit_of_cycle x.cycle) x.thread.0)
    (λ j l.
    rw
    (threatens_limit-empty (conflicts_on marks names starts x.thread.0 (get_or segments x.thread.0 0) j) ws n (get_or segments j 0 * n) (get_or xs j all_ones) j (limit_of_cycle x.cycle) x.thread.0
    (λ s. none x.thread.0 (get_or segments x.thread.0 0) j s (omega arith)))
    (and-false (not (eqb j x.thread.0)))))
  where
    none : (i r j s : ℕ) → 64 ≤ r → conflicts_on marks names starts i r j s ≡ false
    none i r j s h = conflicts_on-past marks names starts i r j s (omega (arith, size)) h

pub hazard_at-row :
    (marks : List (List Bool)) (names : List ℕ) (starts : List Start) (ws : List ℕ) (n t : ℕ) (segments xs : List ℕ) (x : Stamp) (r i c : ℕ) (ps : List ℕ) (own : Footprint) (b : Bool) →
    i ≡ x.thread.0 → r ≡ get_or segments i 0 → c ≡ limit_of_cycle x.cycle → ps ≡ ports_in starts i → own ≡ footprint_of names ps r →
    b ≡ any_below (at_most 32 t) (threat_at (get_or marks r []) own names starts ws n segments xs i c) → b ≡ hazard_at (conflicts_on marks names starts) ws n t segments xs x
unfolding hazard_at threat_at conflicts_on conflicts_by mark_at
hazard_at-row marks names starts ws n t segments xs x r i c ps own b d e f p o g = rw (o, p, f, e, d) at g
