-- `export_state::threads_into` meets its contract. The invariant: the words of the first k records.
use Prim.Native.Nat.{◌*◌, ◌<◌}
use mathlib.Core.Path.{◌≡◌, ap, ◌∙◌}
use native.Mathlib.Omega.{arith}
use lib.ListN.{take, length-take}
use lib.Seq.{sets, get_or-take}
use Rattle.buffers.proofs.WriteLaws.{placed_in-short, placed_in-stored}
use Rattle.model.specs.declared.Thread.{Thread}
use Rattle.model_effect.proofs.LengthLaws.{threads-length}
use Rattle.export_state.specs.Numbers.{thread_words, record_words}
use Rattle.export_state.proofs.TurnLaws.{in_turn-none, in_turn-stored}
use Rattle.export_state.proofs.IntoLaws.{thread_words-length, record_words-length}
use Rattle.export_state.proofs.FromLaws.{take-least, take-least-length}
use Rattle.export_state.proofs.threads_into.Goals as goal

pub returns-then-records-n : goal.returns-then-records-n
returns-then-records-n c =
    let ts = take c.args.t c.args.threads.at in
    let n = take-least-length c.args.t 32 c.args.threads.at (threads-length c.args.threads _ c.well_formed.0) in
    placed_in-short (record_words ts) c.args.records.now (omega (arith, record_words-length ts))

pub loop-k-init : goal.loop-k-init
loop-k-init c = in_turn-none thread_words c.args.threads.at _ 0

pub loop-k-preserved : goal.loop-k-preserved
loop-k-preserved c =
    let l = c.loop-k in
    let size = threads-length c.args.threads _ c.well_formed.0 in
    let below : l.k < c.min-n.result = omega (arith, length-take {A = Thread}) in
    let read = c.thread_words.ensures ∙ ap thread_words (get_or-take c.min-n.result c.args.threads.at l.k _ below) in
    let stored = c.put.ensures ∙ ap (sets l.records (5 * l.k)) read in
    stored ∙ in_turn-stored thread_words 5 thread_words-length c.args.threads.at c.args.records.now l.records 0 l.k _ _ (omega arith) l.invariant (omega arith)

pub returns : goal.returns
returns c =
    let l = c.loop-k in
    let ts = take c.args.t c.args.threads.at in
    let size = threads-length c.args.threads _ c.well_formed.0 in
    let n = take-least-length c.args.t 32 c.args.threads.at size in
    let k : l.k ≡ c.min-n.result = omega (arith, length-take {A = Thread}) in
    let whole : take l.k c.args.threads.at ≡ ts = take-least c.args.t 32 l.k c.args.threads.at size (omega arith) in
    (rw whole at l.invariant) ∙ placed_in-stored (record_words ts) c.args.records.now (omega (arith, record_words-length ts))
