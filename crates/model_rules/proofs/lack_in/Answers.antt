-- `model_rules::lack_in` meets its contract.
use Prim.Native.Nat.{ℕ, ◌<◌}
use mathlib.Core.Bool.{Bool}
use mathlib.Core.List.{List}
use mathlib.Core.Path.{◌≡◌, sym, ap, ◌∙◌}
use native.Mathlib.Omega.{arith}
use lib.ListN.{length, get_or}
use Rattle.masks.specs.Mask.{bit_at}
use borrow.Author.Count.{below_more}
use Rattle.model.specs.declared.Model.{Model}
use Rattle.model.specs.declared.Start.{Start}
use Rattle.model_rules.specs.Asked.{Linked}
use Rattle.model_rules.proofs.FaultLaws.{start_lacks, start_lacks-read, lack_fault-here, lack_fault-end}
use Rattle.model_rules.proofs.lack_in.Goals as goal

-- what is asked of thread k, for a model with these starts
asked : (m : Model) (starts : List Start) (ws : List ℕ) (k : ℕ) (d : Start) (t : Bool) → m.starts ≡ starts → Linked m ws → length starts ≡ 32 → k < m.t → k < 32
    → bit_at (get_or ws k 0) (get_or starts k d).first ≡ t → start_lacks m k ≡ t
asked m starts ws k d t e h size l i f =
    start_lacks-read m k d ws t h.holds h.segments i (ap length e ∙ size) (h.first k l) (rw e f)

pub returns-then-has : goal.returns-then-has
returns-then-has c m e f h =
    let k = c.loop-k.k in
    let i : k < m.t = omega (arith, f) in
    lack_fault-here m k i (asked m c.args.starts c.args.lacking k _ _ e h c.well_formed.0.1.0.1 i (omega arith) (rw c.from-in-loop-k.ensures at (sym c.has.ensures ∙ c.if-has.true)))

pub loop-k-preserved : goal.loop-k-preserved
loop-k-preserved c m e f h =
    let k = c.loop-k.k in
    let i : k < m.t = omega (arith, f) in
    below_more _ _ (c.loop-k.invariant m e f h)
    (asked m c.args.starts c.args.lacking k _ _ e h c.well_formed.0.1.0.1 i (omega arith) (rw c.from-in-loop-k.ensures at (sym c.has.ensures ∙ c.if-has.false)))

pub returns : goal.returns
returns c m e f h = lack_fault-end m c.loop-k.k h.threads (λ i. omega (arith, f)) (c.loop-k.invariant m e f h)
