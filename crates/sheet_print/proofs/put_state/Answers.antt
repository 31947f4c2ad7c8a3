-- `sheet_print::put_state` meets its contract: the word of a state, for a wait its event, then its cycle.
use Prim.Native.Nat.{ℕ, ◌+◌, ◌≤◌}
use mathlib.Core.Path.{◌≡◌}
use mathlib.Core.List.{List, ◌++◌}
use native.Mathlib.Omega.{arith}
use Rattle.clock.specs.declared.Cycle.{Cycle}
use Rattle.buffers.specs.Line.{rest_of}
use Rattle.buffers.specs.Put.{Puts}
use Rattle.buffers.proofs.PutLaws.{puts_then}
use Rattle.sheet.specs.Sheet.{cycle_words, state_words}
use Rattle.sheet_print.proofs.put_state.Goals as goal
use Rattle.sheet_print.proofs.put_state.Goals.{in-Ended, in-Overrun, in-Ready, in-Waiting, in-Running}

-- what stands before the cycle, then the cycle
with_cycle :
    {before part between after : List ℕ} {at next last : ℕ} {x : ℕ × Cycle} {c : Cycle} {first : List ℕ} →
    between ≡ part → x ≡ (next, c) → Puts before at part next first → Puts between x.0 after last (rest_of (cycle_words x.1)) × (last ≤ x.0 + 43) →
    Puts before at after last (first ++ rest_of (cycle_words c)) × (last ≤ next + 43)
with_cycle e f p q = let r = rw (e, f) at q in (puts_then p r.0, r.1)

pub returns : goal.returns
unfolding state_words rest_of
returns c =
    elim c.match-s.branch [
      | in-Ended w ↦ let p = with_cycle w.out-is w.a-is w.put_word.ensures c.put_cycle.ensures in (rw w.in-Ended.is p.0, omega (arith, p.1))
      | in-Overrun w ↦ let p = with_cycle w.out-is w.a-is w.put_word-in-Overrun.ensures c.put_cycle.ensures in (rw w.in-Overrun.is p.0, omega (arith, p.1))
      | in-Ready w ↦ let p = with_cycle w.out-is w.a-is w.put_word-in-Ready.ensures c.put_cycle.ensures in (rw w.in-Ready.is p.0, omega (arith, p.1))
      | in-Waiting w ↦
          let n = rw w.from.ensures at w.put_number.ensures.0 in
          let p = with_cycle w.out-is w.a-is (puts_then w.put_word-b.ensures n) c.put_cycle.ensures in
          (rw w.in-Waiting.is p.0, omega (arith, p.1))
      | in-Running w ↦ let p = with_cycle w.out-is w.a-is w.put_word-in-Running.ensures c.put_cycle.ensures in (rw w.in-Running.is p.0, omega (arith, p.1))
    ]
