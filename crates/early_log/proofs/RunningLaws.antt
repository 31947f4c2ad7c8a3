-- The log with what is counted for running threads, one thread after the other.
--     held_events-taken, listed_here     what the segment of a thread lists, as the code reads it
--     is_running-other     a state that is not running
--     counted_start, counted-idle, counted-more, counted-full, counted-done     the loop over the threads
--     counted_none     nothing runs
use Prim.Native.Nat.{ℕ, zero, suc, ◌+◌, ◌<◌, ◌≤◌}
use mathlib.Core.Path.{◌≡◌, refl, ap, sym, ◌∙◌}
use mathlib.Core.Bool.{Bool, true, false}
use mathlib.Core.List.{List, []}
use native.Mathlib.Omega.{arith}
use native.Mathlib.Numerals.{add-one}
use native.Mathlib.Decide.{ℕ_discrete}
use lib.Dec.{ltb}
use lib.ListN.{length, get_or, take}
use lib.Seq.{take-append_seam}
use borrow.Author.Tests.{lt-ltb, le-ltb}
use Rattle.base.specs.Index.{any_below}
use Rattle.base.proofs.BoolLaws.{cond-case, T→false, false→T}
use Rattle.base.proofs.IndexLaws.{any_below-none}
use Rattle.base.proofs.ListLaws.{get_d_any}
use Rattle.clock.specs.declared.Cycle.{Cycle}
use Rattle.model.specs.declared.Closer.TheVariants.{End}
use Rattle.model.specs.declared.Segment.{Segment}
use Rattle.model.specs.declared.Model.{Model}
use Rattle.model.specs.declared.State.{State}
use Rattle.model.specs.declared.State.TheVariants.{Ended, Overrun, Ready, Waiting, Running}
use Rattle.model.specs.declared.Thread.{Thread}
use Rattle.model.specs.declared.Events.{Events}
use Rattle.model.specs.Values.{no_segment, segment_at, body_of}
use Rattle.model.specs.Statement.{notified_by}
use Rattle.model.specs.Effect.{held_events}
use Rattle.model.specs.Record.{thread_at, cycle_of, is_running}
use Rattle.model.specs.Footprint.{listed_in}
use Rattle.model_effect.proofs.PortLaws.{listed_in-any}
use Rattle.early.specs.declared.Notification.{Notification}
use Rattle.early.specs.declared.Site.{Site}
use Rattle.early.specs.Log.{places, log_of, with_pairs, places_with, with_running, counted_log}
use Rattle.early_laws.proofs.LogLaws.{log_of-site_of}
use Rattle.early_laws.proofs.OnceLaws.{with_pairs-length}
use Rattle.early_laws.proofs.CountedLaws.{with_running-none}
use Rattle.early_log.specs.Noted.{noted_of}
use Rattle.early_log.proofs.NotedLaws.{noted_of-fits}

pub held_events-taken : (es : List ℕ) → take (held_events es).n (held_events es).at ≡ es
unfolding held_events
held_events-taken es = take-append_seam es _

-- j is the segment, g what stands there
pub listed_here : (m : Model) (k s j : ℕ) (g : Segment) (x : Events) → length m.segments ≡ 64 → s < 64 → j ≡ s
    → g ≡ get_or m.segments j (record { closer = End; n = 0; statements = [] }) → x ≡ held_events (notified_by (body_of g)) → take x.n x.at ≡ listed_in m k s
unfolding segment_at
listed_here m k s j g x count few p there e =
    let q : g ≡ segment_at m s = there ∙ get_d_any m.segments j (record { closer = End; n = 0; statements = [] }) no_segment (omega arith) ∙ ap (segment_at m) p in
    rw (e, held_events-taken (notified_by (body_of g)), q) (sym (listed_in-any m k s))

pub is_running-other : (s : State) → ((x : Cycle) → s ≡ Running x → ⊥) → is_running s ≡ false
is_running-other (Ended c) h = refl
is_running-other (Overrun c) h = refl
is_running-other (Ready c) h = refl
is_running-other (Waiting e c) h = refl
is_running-other (Running c) h = absurd (h c refl)

any_below-false : (n : ℕ) (f : ℕ → Bool) → any_below n f ≡ false → (i : ℕ) → i < n → f i ≡ false
any_below-false n f e i h = T→false (f i) (any_below-none n f (false→T (any_below n f) e) i h)

module _ (m : Model) (ts : List Thread) (l : List Notification) where
  -- the more threads, the more places
  with_running-longer : (k n : ℕ) → k ≤ n → length (with_running m ts l k) ≤ length (with_running m ts l n)
  unfolding with_running
  with_running-longer k zero h = let e : k ≡ 0 = omega arith in rw e (omega arith)
  with_running-longer k (suc n) h = go (ℕ_discrete k (suc n)) (λ i. with_running-longer k n i)
    where
      go : Dec (k ≡ suc n) → (k ≤ n → length (with_running m ts l k) ≤ length (with_running m ts l n)) → length (with_running m ts l k) ≤ length (with_running m ts l (suc n))
      go (yes e) ih = rw e (omega arith)
      go (no e) ih =
          let x = thread_at ts n in
          let i = ih (omega arith) in
          cond-case (λ (y : List Notification). length (with_running m ts l k) ≤ length y) (is_running x.state)
          (λ t. omega (arith, (with_pairs-length (with_running m ts l n) (cycle_of x.state) (listed_in m n x.segment)).0)) (λ t. i)

  pub counted_start : l ≡ with_running m ts l 0
  unfolding with_running
  counted_start = refl

  module _ (s : Site) (k : ℕ) (known : log_of s ≡ with_running m ts l k) where
    pub counted-idle : is_running (thread_at ts k).state ≡ false → log_of s ≡ with_running m ts l (k + 1)
    unfolding with_running
    counted-idle idle = rw (add-one, idle) known

    pub counted-done : k ≡ m.t → length (log_of s) ≤ places → (false ≡ ltb places (length (counted_log m ts l))) × (log_of s ≡ counted_log m ts l)
    counted-done e few =
        let all : log_of s ≡ counted_log m ts l = known ∙ ap (with_running m ts l) e in
        (sym (le-ltb places (length (counted_log m ts l)) (rw all at few)), all)

    module _ (c : Cycle) (es : List ℕ) (runs : (thread_at ts k).state ≡ Running c) (listed : es ≡ listed_in m k (thread_at ts k).segment) where
      step : with_running m ts l (k + 1) ≡ with_pairs (log_of s) c es
      unfolding with_running
      step = rw (add-one, runs, known, listed) refl

      pub counted-more : (r : Site) → r ≡ noted_of s c es → places_with (log_of s) c es ≤ places → (log_of r ≡ with_running m ts l (k + 1)) × (length (log_of r) ≤ places)
      counted-more r e few =
          let f : log_of r ≡ with_pairs (log_of s) c es = ap log_of (e ∙ noted_of-fits s c es few) ∙ log_of-site_of s.variables.at (with_pairs (log_of s) c es) in
          (f ∙ sym step, rw f few)

      pub counted-full : k < m.t → places < places_with (log_of s) c es → true ≡ ltb places (length (counted_log m ts l))
      counted-full below over =
          sym (lt-ltb places (length (counted_log m ts l)) (omega (arith, ap length step, with_running-longer (k + 1) m.t (omega arith))))

module _ (m : Model) (ts : List Thread) (site : Site) where
  -- where nothing runs
  pub counted_none : any_below m.t (λ k. is_running (thread_at ts k).state) ≡ false → log_of site ≡ counted_log m ts (log_of site)
  counted_none idle = sym (with_running-none m ts (log_of site) m.t (λ j h. any_below-false m.t (λ k. is_running (thread_at ts k).state) idle j h))
