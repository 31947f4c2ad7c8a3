-- `early_fit::is_unfit_threads` meets its contract: each record with the word of its thread.
use Rattle.std.proofs.Common.{rules, tests, take, true, false}
use Rattle.std.proofs.lemmas.Iterator.{YieldsList-from_slice, YieldsList-from_zip, cases_from_any}
use Rattle.model_effect.proofs.LengthLaws.{threads-length}
use Rattle.early_fit.proofs.FitnessLaws.{Judged, unfit-threads}
use Rattle.early_fit.proofs.is_unfit_threads.Goals as goal

pub returns : goal.returns
returns c = λ w.
    let m = c.args.m.now in
    let ts = c.args.threads.at in
    let first = YieldsList-from_slice (take m.t ts) cc in
    let second = YieldsList-from_slice c.args.lacking cc in
    unfit-threads m ts c.args.lacking (threads-length c.args.threads _ c.well_formed.1.0) c.requires.0 c.requires.1 w _
    (cases_from_any c.any.new.self _ _ (Judged m false) (Judged m true) c.any.ensures.ran (YieldsList-from_zip first second) (λ x q k. search (rules, tests)) (λ x q k. search (rules, tests)))
