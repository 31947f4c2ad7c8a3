-- `plain_close::wake` meets its contract.
use Rattle.std.proofs.Common.{◌≡◌, ℕ, ◌≤◌, ◌<◌, get_or, refl, ap, ◌∙◌, arith}
use lib.ListN.{length-set}
use mathlib.Core.Logic.{⊎_elim}
use Rattle.plain_execute.proofs.OrderLaws.{min-lesser}
use Rattle.plain_state.specs.Words.{wake_word}
use Rattle.plain_state.proofs.FillLaws.{fill_more, rest_more}
use Rattle.plain_state.proofs.DueLaws.{least-none, least-stored, outside}
use Rattle.plain_close.proofs.wake.Goals as goal

pub loop-k-init : goal.loop-k-init
loop-k-init c = record { size = c.requires.state_len; least = least-none c.args.state.now c.args.from 18446744073709551615; woken = λ i h. (λ l. absurd (omega arith), λ l. refl); rest = λ i h. refl }

pub loop-k-preserved : goal.loop-k-preserved
loop-k-preserved c = let a = c.args in
    let here = c.loop-k in
    let rest = here.invariant.rest in
    record {
      size = simp length-set here.invariant.size;
      least = least-stored here.state a.from here.k 18446744073709551615 _ _ _ (omega arith) (omega (arith, here.invariant.size)) here.invariant.least (c.min-least.ensures ∙ min-lesser _ _);
      woken =
          fill_more (λ (i x : ℕ). (a.from ≤ i → x ≡ wake_word a.told.now a.key (get_or a.state.now i 0)) × (i < a.from → x ≡ get_or a.state.now i 0)) here.state here.k _ (omega (arith, here.invariant.size))
          (λ l. c.wake_word-x.ensures ∙ ap (wake_word a.told.now a.key) (rest here.k (omega arith)), λ l. absurd (omega arith))
          here.invariant.woken;
      rest = rest_more here.state a.state.now here.k _ rest;
    }

pub returns : goal.returns
returns c = let here = c.loop-k in
    let a = c.args in
    let e : here.k ≡ a.to = omega arith in
    let kept = here.invariant in
    record {
      places = kept.size;
      least = rw (← e) kept.least;
      words = λ k h. (kept.woken k (omega arith)).0 h.0;
      rest = λ k n. ⊎_elim (λ l. (kept.woken k (omega arith)).1 l) (λ l. kept.rest k (omega arith)) (outside a.from a.to k n);
    }
