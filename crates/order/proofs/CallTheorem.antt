-- Demand 3 for calls proved (document 02, slip 7): for a model whose plain run and kit keep their laws, every list of grants, finishes and combined requests
-- ends as the plain run does, and never stands still before that. Where a thread is running, its finish is not refused; where none is, the least ready
-- stamp's request is granted (`Progress`). Where nothing is running and nothing is ready up to the horizon, the end of the argument applies (`End`).
-- Takes as given the facts of the plain run (PlainFacts) and the laws of the kit (KitLaws).
use Prim.Native.Nat.{ℕ, ◌*◌, ◌<◌, ◌≤◌}
use mathlib.Core.Path.{◌≡◌, refl, ap, sym, ◌∙◌}
use mathlib.Core.Logic.{◌⊎◌, inl, inr}
use mathlib.Core.Bool.{Bool, true, false}
use mathlib.Core.List.{List, [], ◌++◌, append-nil}
use native.Mathlib.Omega.{arith}
use lib.ListN.{length}
use Rattle.base.proofs.BoolLaws.{true→T}
use Rattle.base.proofs.IndexLaws.{find-below}
use Rattle.model.specs.declared.Model.{Model}
use Rattle.model.specs.declared.Thread.{Thread}
use Rattle.model.specs.Refusal.{accepted}
use Rattle.model.specs.Limits.{is_up_to_horizon}
use Rattle.model.specs.Record.{thread_at, cycle_of, is_running}
use Rattle.plain.specs.Wake.{some_ready}
use Rattle.plain.specs.History.{Item}
use Rattle.early.specs.declared.Site.{Site}
use Rattle.early.specs.declared.Call.{Call}
use Rattle.early.specs.declared.Call.TheVariants.{Both, Finish}
use Rattle.early.specs.Answer.{number_of}
use Rattle.early.specs.Request.{Requested, granted_to, fresh_site}
use Rattle.early.specs.Call.{held_count, Called, finished_from, call_of, Served}
use Rattle.early_laws.proofs.CallLaws.{call_of-both}
use Rattle.order.specs.Claim.{FreshBelow, after_calls_with, AgreesAt, CallClaim}
use Rattle.order.proofs.Seen.{seen_self, Unbegun, running-ready}
use Rattle.order.proofs.PlainFacts.{PlainFacts}
use Rattle.order.proofs.KitLaws.{KitLaws}
use Rattle.order.proofs.Invariant.{Bounded}
use Rattle.order.proofs.LowerBound.{bounded}
use Rattle.order.proofs.Reached.{Reached, reached-variables, reached-fit}
use Rattle.order.proofs.LeastReady.{some_ready-none}
use Rattle.order.proofs.Progress.{some-granted}
use Rattle.order.proofs.End.{end-record, end-history, end-variables}
use Rattle.order.proofs.CallLists.{held-fit, call_of-finish}
use Rattle.order.proofs.Underway.{pending-none, Underway}
use Rattle.order.proofs.Calls.{fresh-underway, calls-underway}

dec_running : (b : Bool) → Dec (b ≡ true)
dec_running true = yes refl
dec_running false = no (λ e. let z : ◌≡◌ {A = ℕ} 0 1 = cc in omega arith)

unbegun-by : (b : Bool) → (b ≡ true → ⊥) → b ≡ false
unbegun-by true none = absurd (none refl)
unbegun-by false none = refl

module _ (m : Model) (pf : PlainFacts m) {marks : List (List Bool)} {ws : List ℕ} (kl : KitLaws m marks ws) where
  module _ (site : Site) (ts : List Thread) (held : List ℕ) (h : ℕ → List Item) (u : Underway m site ts held h) where
    abbrev r : Reached m site ts u.ended
    r = u.reached

    -- where none is ready up to the horizon, nothing is running
    over-unbegun : some_ready m ts ≡ false → Unbegun m ts
    over-unbegun over k below = unbegun-by (is_running (thread_at ts k).state) late
      where
        late : is_running (thread_at ts k).state ≡ true → ⊥
        late runs =
            let c = cycle_of (thread_at ts k).state in
            some_ready-none m ts over k c below (running-ready (thread_at ts k).state runs) (true→T (is_up_to_horizon m c) (r.soon k below runs))

    -- a thread that is running can be finished; where none is, the least ready one is granted
    goes-on-by : some_ready m ts ≡ true → (c : Call) × (number_of (call_of m marks ws site ts held c).left.answer ≡ accepted)
    unfolding granted_to finished_from
    goes-on-by ready = go (find-below m.t (λ k. is_running (thread_at ts k).state ≡ true) (λ k. dec_running (is_running (thread_at ts k).state)))
      where
        number : Called → ℕ
        number a = number_of a.left.answer

        go : ((k : ℕ) × (k < m.t) × (is_running (thread_at ts k).state ≡ true)) ⊎ ((k : ℕ) → k < m.t → is_running (thread_at ts k).state ≡ true → ⊥)
            → (c : Call) × (number_of (call_of m marks ws site ts held c).left.answer ≡ accepted)
        go (inl (k, below, runs)) =
            (Finish k, ap number (call_of-finish m marks ws site ts held k (reached-fit m pf kl r) u.enough below runs))
        go (inr none) =
            let (k, c, below, p) = some-granted m pf kl site ts u.ended r (λ j b. unbegun-by (is_running (thread_at ts j).state) (none j b)) ready in
            (Both k, ap number (call_of-both m marks ws site ts held k (held-fit m held u.enough)) ∙ ap (λ (a : Requested). number_of a.answer) p)

  module _ {ts : List Thread} (fresh : FreshBelow m ts) (held : List ℕ) (enough : held_count * m.t ≤ length held) (cs : List Call) where
    abbrev after : Served
    after = after_calls_with m marks ws ts held cs

    abbrev us : List Thread
    us = after.listed.threads

    -- every list of calls leaves such a state
    pub after-underway : Underway m after.listed.site us after.held after.listed.history
    after-underway = calls-underway m pf kl cs fresh_site ts held (λ j. []) (fresh-underway m pf kl ts fresh held enough)

    -- where nothing is running and nothing ready up to the horizon, all is as in the plain run carried on until it is done
    pub calls-agree : some_ready m us ≡ false → AgreesAt m after.listed pf.ending.place
    calls-agree over =
        record {
          variables = reached-variables s ∙ end-variables m pf kl s.is_cut bd over;
          history = λ k below.
              after-underway.history k below
              ∙ ap (λ (a : List Item). after-underway.ended k ++ a) (pending-none (thread_at us k) (idle k below))
              ∙ append-nil (after-underway.ended k)
              ∙ end-history m pf kl s.is_cut bd over k below;
          closing = λ k below. sym (seen_self (thread_at us k) (idle k below)) ∙ end-record m pf kl s.is_cut bd over k below;
        }
      where
        s : Reached m after.listed.site us after-underway.ended
        s = after-underway.reached

        idle : Unbegun m us
        idle = over-unbegun after.listed.site us after.held after.listed.history after-underway over

        bd : Bounded m ws us s.cut (kl.forecasts s.log us).earliest
        bd = bounded m pf kl s.is_cut (kl.forecasts s.log us)

    -- demand 3 for one list of calls
    pub call-claim : CallClaim m marks ws ts held cs
    call-claim =
        record {
          at_end = λ over. (pf.ending.place, pf.ending.done, calls-agree over);
          goes_on = goes-on-by after.listed.site us after.held after.listed.history after-underway;
          soon = after-underway.reached.soon;
        }
