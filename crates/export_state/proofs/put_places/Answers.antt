-- `export_state::put_places` meets its contract. The invariant: the words of the first i places.
use Prim.Native.Nat.{◌+◌, ◌*◌}
use mathlib.Core.Path.{refl, ap, ◌∙◌}
use native.Mathlib.Omega.{arith}
use lib.Seq.{sets, take_all}
use Rattle.export_state.specs.Numbers.{pair_words}
use Rattle.export_state.proofs.TurnLaws.{in_turn-none, in_turn-stored}
use Rattle.export_state.proofs.IntoLaws.{pair_words-length}
use Rattle.export_state.proofs.put_places.Goals as goal

pub loop-i-init : goal.loop-i-init
loop-i-init c = in_turn-none pair_words c.args.places _ 1

pub loop-i-preserved : goal.loop-i-preserved
loop-i-preserved c =
    let l = c.loop-i in
    let stored = c.put.ensures ∙ ap (sets l.out (3 * l.i + 1)) c.cycle_words.ensures in
    stored ∙ in_turn-stored pair_words 3 pair_words-length c.args.places c.args.out.now l.out 1 l.i _ _ (omega arith) l.invariant (omega arith)

pub returns : goal.returns
returns c = c.loop-i.invariant ∙ rw (take_all c.loop-i.i c.args.places (omega arith)) refl
