-- A model whose segments name no port: no thread can reach one that it leaves unused.
--     unnamed-same, unnamed-segment     the same segments; one segment more
--     unnamed-lack     18 does not apply
use Prim.Native.Nat.{ℕ, ◌+◌, ◌<◌}
use mathlib.Core.Path.{◌≡◌, refl, sym, ap, ◌∙◌}
use mathlib.Core.Bool.{false, not, ◌&&◌}
use mathlib.Core.List.{List}
use native.Mathlib.Omega.{arith}
use native.Mathlib.Decide.{ℕ_discrete}
use lib.Dec.{eqb}
use lib.ListN.{length, get_or, set}
use lib.Seq.{get_or-set_same, get_or-set_other}
use Rattle.base.proofs.IndexLaws.{any_below-empty}
use Rattle.model.specs.declared.Segment.{Segment}
use Rattle.model.specs.declared.Model.{Model}
use Rattle.model.specs.Port.{unused, port_of}
use Rattle.model.specs.Values.{no_segment, segment_at, start_at, ports_at, with_segment}
use Rattle.model.specs.Footprint.{uses_of, names_port}
use Rattle.model.specs.Reach.{reaches, lacks_port, lacks_from}
use Rattle.model.specs.Rules.{lack_fault}
use Rattle.model_rules.proofs.FaultLaws.{unless-kept}

-- no segment names a port
abbrev pub Unnamed : Model → Type 0
Unnamed m = (i p : ℕ) → i < m.n → p < 8 → names_port m i p ≡ false

pub unnamed-same : (m n : Model) → m.segments ≡ n.segments → m.n ≡ n.n → Unnamed m → Unnamed n
unfolding names_port segment_at
unnamed-same m n e f u i p h l = ap (λ (gs : List Segment). uses_of (get_or gs i no_segment) (128 + p)) (sym e) ∙ u i p (rw f h) l

pub unnamed-segment : (m : Model) (g : Segment) → m.n < length m.segments → Unnamed m → ((p : ℕ) → p < 8 → uses_of g (128 + p) ≡ false) → Unnamed (with_segment m g)
unfolding names_port segment_at with_segment
unnamed-segment m g room u here i p h l = go (ℕ_discrete i m.n)
  where
    go : Dec (i ≡ m.n) → uses_of (get_or (set m.segments m.n g) i no_segment) (128 + p) ≡ false
    go (yes e) = rw (e, get_or-set_same m.segments m.n g no_segment room) (here p l)
    go (no e) = rw (get_or-set_other m.segments m.n i g no_segment e) (u i p (omega arith) l)

module _ (m : Model) (u : Unnamed m) where
  unnamed-port : (k s : ℕ) → s < m.n → lacks_port m k s ≡ false
  unfolding lacks_port
  unnamed-port k s h = any_below-empty 8 (λ p. names_port m s p && eqb (port_of (ports_at m k) p) unused) (λ p l. rw (u s p h l) refl)

  unnamed-from : (k r : ℕ) → lacks_from m k r ≡ false
  unfolding lacks_from
  unnamed-from k r = any_below-empty m.n (λ s. lacks_port m k s && reaches m r s) (λ s h. rw (unnamed-port k s h) refl)

  pub unnamed-lack : lack_fault m ≡ 0
  unfolding lack_fault
  unnamed-lack = unless-kept _ 18 (ap not (any_below-empty m.t (λ k. lacks_from m k (start_at m k).first) (λ k h. unnamed-from k (start_at m k).first)))
