-- `export_numbers::numbers_into` meets its contract: nothing, or all.
use mathlib.Core.Path.{◌≡◌, sym, ◌∙◌}
use mathlib.Core.List.{[], ◌∷◌}
use native.Mathlib.Omega.{arith}
use Rattle.model.specs.Values.{segment_at}
use Rattle.model.specs.Rules.{model_fault}
use Rattle.model_rules.proofs.RuleLaws.{model_fault-horizon, model_fault-counts}
use Rattle.writer.specs.Bytes.{joined}
use Rattle.export_model.specs.Numbers.{segment_numbers}
use Rattle.export_numbers.proofs.IntoLaws.{told-none, told-some, stored-length, writes-none, writes-few, writes-model}
use Rattle.export_numbers.proofs.numbers_into.Goals.{Else-is_err}
use Rattle.export_numbers.proofs.numbers_into.Goals as goal

-- past the first test the model keeps the rules
fit : (e : Else-is_err) → model_fault e.args.m ≡ 0
fit e = sym e.model_fault.ensures ∙ told-none _ (sym e.is_err.ensures.value ∙ e.if-is_err.false)

pub returns-then-is_err : goal.returns-then-is_err
returns-then-is_err c =
    writes-none c.args.m c.args.xs.now (λ z. told-some _ (sym c.is_err.ensures.value ∙ c.if-is_err.true) (c.model_fault.ensures ∙ z))

pub returns-then-xs-size : goal.returns-then-xs-size
returns-then-xs-size c =
    let n = c.from.ensures in
    let t = c.from-2.ensures in
    writes-few c.args.m (fit (goal.at.returns-then-xs-size c).Else-is_err) c.args.xs.now _ (omega (arith, n, t)) c.if-xs-size.true

pub put_head-requires : goal.put_head-requires
put_head-requires c =
    let m = c.args.m in
    (omega (arith, (model_fault-horizon m (fit (goal.at.put_head-requires c).Else-is_err)).1), omega (arith, c.if-xs-size.false))

pub put_segments-requires : goal.put_segments-requires
put_segments-requires c =
    let m = c.args.m in
    let h = stored-length c.args.xs.now _ (m.horizon.0 ∷ m.v ∷ m.e ∷ m.n ∷ m.t ∷ []) 0
    c.put_head.ensures in
    (fit (goal.at.put_segments-requires c).Else-is_err, (model_fault-counts m (fit (goal.at.put_segments-requires c).Else-is_err)).segments, omega (arith, h, c.if-xs-size.false, c.from.ensures))

pub put_starts-requires : goal.put_starts-requires
put_starts-requires c =
    let m = c.args.m in
    let h = stored-length c.args.xs.now _ (m.horizon.0 ∷ m.v ∷ m.e ∷ m.n ∷ m.t ∷ []) 0 c.put_head.ensures in
    let g = stored-length _ _ (joined m.n 0 (λ i. segment_numbers (segment_at m i))) 5
    c.put_segments.ensures in
    let k = model_fault-counts m (fit (goal.at.put_starts-requires c).Else-is_err) in
    (k.segments, k.threads, omega (arith, h, g, c.if-xs-size.false, c.from.ensures, c.from-2.ensures))

pub returns : goal.returns
returns c =
    let n = c.from.ensures in
    let t = c.from-2.ensures in
    writes-model c.args.m (fit (goal.at.returns c).Else-is_err) c.args.xs.now _ _ _ _ (omega (arith, n, t)) c.if-xs-size.false
    c.put_head.ensures c.put_segments.ensures c.put_starts.ensures
