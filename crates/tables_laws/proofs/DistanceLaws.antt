-- The distance of a model is the least advance over all paths in its segment graph, cut; and what an argument uses of it:
--     distance_of-is, IsDistance-unique     it is the one that the definition by paths names
--     distance_of-self     "0 to itself"
--     distance_of-step, distance_of-after, distance_of-triangle     at most a way with a step in front, a step behind, or a place between
--     distance_of-time, distance_of-delta     below the cut, and fewer deltas than segments
use Prim.Native.Nat.{ℕ, ◌<◌}
use mathlib.Core.Path.{◌≡◌, refl, ap, sym, ◌∙◌}
use native.Mathlib.Omega.{arith}
use lib.Dec.{T, ltb, lt→ltb, ltb→lt}
use Rattle.base.proofs.BoolLaws.{T→true, cond-case}
use Rattle.clock.specs.declared.Cycle.{Cycle}
use Rattle.clock.specs.declared.Delay.{Delay}
use Rattle.clock.specs.declared.Bound.{Bound}
use Rattle.clock.specs.declared.Bound.TheVariants.{Never, At}
use Rattle.clock.specs.declared.Wait.{Wait}
use Rattle.clock.specs.declared.Wait.TheVariants as wait
use Rattle.clock.specs.Order.{◌≼◌, sooner, same_time}
use Rattle.clock.specs.Advance.{◌⊕◌, no_advance, one_delta, advance_of}
use Rattle.clock.proofs.PassageLaws.{Passing, notified, instant, timed, passing}
use Rattle.clock.proofs.OrderLaws.{At-same, At-not-Never, ≼_refl, ≼_trans}
use Rattle.clock.proofs.AdvanceLaws.{⊕-assoc, ⊕-mono, ⊕-inflate-right, advance-delta-notification, advance-zero-wait, advance-timed-wait}
use Rattle.model.specs.declared.Next.{Next}
use Rattle.model.specs.declared.Closer.{Closer}
use Rattle.model.specs.declared.Closer.TheVariants.{End, Time, Event}
use Rattle.model.specs.declared.Model.{Model}
use Rattle.model.specs.Limits.{cut_time}
use Rattle.model.specs.Values.{segment_at}
use Rattle.model.specs.Reach.{goes_to}
use Rattle.tables.specs.Distance.{step_of, edge, IsLeast, cut, IsDistance, cell, distance_table, distance_of}
use Rattle.tables_laws.proofs.PathLaws.{rounds-least_via, rounds-least, IsLeast-unique, IsLeast-triangle, IsLeast-step, IsLeast-after, IsLeast-self}
use Rattle.tables_laws.proofs.DeltaLaws.{IsStep, time_step, delta_step, StepsOnly, least_via-delta-last}

-- the cut

pub cut-≼ : (b : Bound) → b ≼ cut b
unfolding cut
cut-≼ Never = tt
cut-≼ (At c) = cond-case (λ (x : Bound). At c ≼ x) (ltb c.time.0 cut_time) (λ t. ≼_refl (At c)) (λ t. tt)

pub cut-before : (c : Cycle) → c.time.0 < cut_time → cut (At c) ≡ At c
unfolding cut
cut-before c h = rw (T→true (ltb c.time.0 cut_time) (lt→ltb c.time.0 cut_time h)) refl

-- a bound not after one before the cut stays
pub cut_small : (b : Bound) (d : Cycle) → b ≼ At d → d.time.0 < cut_time → cut b ≡ b
cut_small Never d h l = absurd h
cut_small (At c) d (sooner p) l = cut-before c (omega arith)
cut_small (At c) d (same_time p q) l = cut-before c (omega arith)

-- what is left is as it was, and before the cut
pub cut-At : (b : Bound) {c : Cycle} → cut b ≡ At c → (b ≡ At c) × (c.time.0 < cut_time)
unfolding cut
cut-At Never e = absurd (At-not-Never (sym e))
cut-At (At x) {c} e =
    cond-case (λ (y : Bound). y ≡ At c → (At x ≡ At c) × (c.time.0 < cut_time)) (ltb x.time.0 cut_time)
    (λ t f. (f, let g = ap (λ (u : Cycle). u.time.0) (At-same f) in let h = ltb→lt x.time.0 cut_time t in omega arith))
    (λ t f. absurd (At-not-Never (sym f))) e

-- the steps

-- by the cases of the clock
advance_of-step : (w : Wait) (c : Cycle) → advance_of w ≡ At c → IsStep c
advance_of-step w c e = go (passing w)
  where
    by-delta : advance_of w ≡ one_delta → IsStep c
    by-delta a = let f = At-same (sym a ∙ e) in delta_step (sym (ap (λ (u : Cycle). u.time.0) f)) (sym (ap (λ (u : Cycle). u.delta.0) f))

    go : Passing w → IsStep c
    go (notified p) = by-delta (advance-delta-notification w p)
    go (instant p) = by-delta (advance-zero-wait w p)
    go (timed k h p) = time_step (sym (ap (λ (u : Cycle). u.delta.0) (At-same (sym (advance-timed-wait w k p) ∙ e))))

pub step_of-step : (x : Closer) (s : ℕ) (c : Cycle) → step_of x s ≡ At c → IsStep c
unfolding step_of
step_of-step End s c e = absurd (At-not-Never (sym e))
step_of-step (Time k x) s c e =
    cond-case (λ (b : Bound). b ≡ At c → IsStep c) (goes_to x s) (λ t f. advance_of-step (wait.Time k) c f) (λ t f. absurd (At-not-Never (sym f))) e
step_of-step (Event w x) s c e =
    cond-case (λ (b : Bound). b ≡ At c → IsStep c) (goes_to x s) (λ t f. advance_of-step wait.Event c f) (λ t f. absurd (At-not-Never (sym f))) e

pub edge-step : (m : Model) → StepsOnly (edge m)
unfolding edge
edge-step m r s c e = step_of-step (segment_at m r).closer s c e

module _ (m : Model) where
  -- the least advance before the cut
  abbrev pub uncut_of : ℕ → ℕ → Bound
  uncut_of r s = cell (distance_table m) r s

  module _ (r s : ℕ) (rn : r < m.n) (sn : s < m.n) where
    pub uncut_of-least : IsLeast m.n (edge m) r s (uncut_of r s)
    unfolding distance_table
    uncut_of-least = rounds-least m.n (edge m) r s rn sn

    pub distance_of-is : IsDistance m r s (distance_of m r s)
    unfolding distance_of
    distance_of-is = record { uncut = uncut_of r s; is_least = uncut_of-least; is_cut = refl }

    pub distance_of-time : {c : Cycle} → distance_of m r s ≡ At c → c.time.0 < cut_time
    unfolding distance_of
    distance_of-time e = (cut-At (uncut_of r s) e).1

    -- "Stored as time × 1,024 + delta": the delta fits
    pub distance_of-delta : {c : Cycle} → distance_of m r s ≡ At c → c.delta.0 < m.n
    unfolding distance_of distance_table
    distance_of-delta e =
        least_via-delta-last (edge m) (edge-step m) m.n r s
        (sym (rounds-least_via m.n (edge m) m.n r s (omega arith) rn sn) ∙ (cut-At (uncut_of r s) e).0) rn sn

  pub distance_of-self : (r : ℕ) → r < m.n → distance_of m r r ≡ no_advance
  unfolding distance_of
  distance_of-self r h = rw (IsLeast-self (uncut_of-least r r h h)) (cut-before _ (omega arith))

  -- Where the whole way is before the cut, no part of it is cut.
  module _ (r t s : ℕ) (rn : r < m.n) (tn : t < m.n) (sn : s < m.n) (y : Bound) (d : Cycle) (before : d.time.0 < cut_time) where
    kept : (b : Bound) → uncut_of r s ≼ b → y ⊕ b ≼ At d → y ⊕ distance_of m r s ≼ At d
    unfolding distance_of
    kept b h l =
        let u : y ⊕ uncut_of r s ≼ At d = ≼_trans (y ⊕ uncut_of r s) (y ⊕ b) (At d) (⊕-mono y y (uncut_of r s) b (≼_refl y) h) l in
        rw (cut_small (uncut_of r s) d (≼_trans (uncut_of r s) (y ⊕ uncut_of r s) (At d) (⊕-inflate-right y (uncut_of r s)) u) before) u

    pub distance_of-triangle : (y ⊕ distance_of m r t) ⊕ distance_of m t s ≼ At d → y ⊕ distance_of m r s ≼ At d
    unfolding distance_of
    distance_of-triangle l =
        kept (distance_of m r t ⊕ distance_of m t s)
        (≼_trans (uncut_of r s) (uncut_of r t ⊕ uncut_of t s) (distance_of m r t ⊕ distance_of m t s)
        (IsLeast-triangle (uncut_of r s) (uncut_of r t) (uncut_of t s) (uncut_of-least r s rn sn) (uncut_of-least r t rn tn) (uncut_of-least t s tn sn))
        (⊕-mono (uncut_of r t) (distance_of m r t) (uncut_of t s) (distance_of m t s) (cut-≼ (uncut_of r t)) (cut-≼ (uncut_of t s))))
        (rw (← ⊕-assoc) l)

    pub distance_of-step : (y ⊕ edge m r t) ⊕ distance_of m t s ≼ At d → y ⊕ distance_of m r s ≼ At d
    unfolding distance_of
    distance_of-step l =
        kept (edge m r t ⊕ distance_of m t s)
        (≼_trans (uncut_of r s) (edge m r t ⊕ uncut_of t s) (edge m r t ⊕ distance_of m t s)
        (IsLeast-step (uncut_of r s) (uncut_of t s) tn (uncut_of-least r s rn sn) (uncut_of-least t s tn sn))
        (⊕-mono (edge m r t) (edge m r t) (uncut_of t s) (distance_of m t s) (≼_refl (edge m r t)) (cut-≼ (uncut_of t s))))
        (rw (← ⊕-assoc) l)

    pub distance_of-after : (y ⊕ distance_of m r t) ⊕ edge m t s ≼ At d → y ⊕ distance_of m r s ≼ At d
    unfolding distance_of
    distance_of-after l =
        kept (distance_of m r t ⊕ edge m t s)
        (≼_trans (uncut_of r s) (uncut_of r t ⊕ edge m t s) (distance_of m r t ⊕ edge m t s)
        (IsLeast-after (uncut_of r s) (uncut_of r t) sn (uncut_of-least r s rn sn) (uncut_of-least r t rn tn))
        (⊕-mono (uncut_of r t) (distance_of m r t) (edge m t s) (edge m t s) (cut-≼ (uncut_of r t)) (≼_refl (edge m t s))))
        (rw (← ⊕-assoc) l)

pub IsDistance-unique : {m : Model} {r s : ℕ} {a b : Bound} → IsDistance m r s a → IsDistance m r s b → a ≡ b
IsDistance-unique p q = p.is_cut ∙ (ap cut (IsLeast-unique p.is_least q.is_least) ∙ sym q.is_cut)

-- the advance of a step, opened

pub edge-time : (m : Model) (r s : ℕ) (k : Delay) (x : Next) → (segment_at m r).closer ≡ Time k x → T (goes_to x s) → edge m r s ≡ advance_of (wait.Time k)
unfolding edge step_of
edge-time m r s k x e t = rw (e, T→true (goes_to x s) t) refl

pub edge-event : (m : Model) (r s : ℕ) (w : ℕ) (x : Next) → (segment_at m r).closer ≡ Event w x → T (goes_to x s) → edge m r s ≡ advance_of wait.Event
unfolding edge step_of
edge-event m r s w x e t = rw (e, T→true (goes_to x s) t) refl
