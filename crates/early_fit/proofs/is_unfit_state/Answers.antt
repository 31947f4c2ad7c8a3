-- `early_fit::is_unfit_state` meets its contract: the model, then the records and the log, then the places that are counted.
use Rattle.std.proofs.Common.{◌≡◌, ◌∙◌, refl, sym, ◌||◌, arith}
use Rattle.model_rules.proofs.RuleLaws.{model_fault-counts, parts-broken, lack-broken, parts_whole, parts-linked}
use Rattle.early.specs.Fit.{is_unfit_threads, is_unfit_log}
use Rattle.early_fit.proofs.FitnessLaws.{told-err, told-ok, is_unfit_state-model, is_unfit_state-parts, is_unfit_state-places, parts-segments}
use Rattle.early_fit.proofs.is_unfit_state.Goals as goal
use Rattle.early_fit.proofs.is_unfit_state.Goals.{then-is_unfit_threads, else-is_unfit_threads}

pub returns-then-is_err : goal.returns-then-is_err
returns-then-is_err c =
    let x = c.args in
    let broken = told-err _ (sym c.is_err.ensures.value ∙ c.if-is_err.true) in
    is_unfit_state-model x.m x.site x.threads.at (parts-broken x.m (λ e. broken (c.parts_fault.ensures ∙ e)))

pub returns-then-is_err-2 : goal.returns-then-is_err-2
returns-then-is_err-2 c =
    let x = c.args in
    let none = sym c.parts_fault.ensures ∙ told-ok _ (sym c.is_err.ensures.value ∙ c.if-is_err.false) in
    let broken = told-err _ (sym c.is_err-2.ensures.value ∙ c.if-is_err-2.true) in
    is_unfit_state-model x.m x.site x.threads.at (lack-broken x.m (λ e. broken (c.lack_in.ensures x.m refl refl (parts-linked x.m none c.lacks-lacking.ensures) ∙ e)))

-- a model that keeps the rules
pub is_unfit_threads-requires : goal.is_unfit_threads-requires
is_unfit_threads-requires c =
    let m = c.args.m in
    let none = sym c.parts_fault.ensures ∙ told-ok _ (sym c.is_err.ensures.value ∙ c.if-is_err.false) in
    let linked = sym (c.lack_in.ensures m refl refl (parts-linked m none c.lacks-lacking.ensures)) ∙ told-ok _ (sym c.is_err-2.ensures.value ∙ c.if-is_err-2.false) in
    let counts = model_fault-counts m (parts_whole m none linked) in
    (counts.threads, counts.segments)

pub is_unfit_places-requires : goal.is_unfit_places-requires
is_unfit_places-requires c =
    let x = c.args in
    let m = x.m in
    let lacks = c.lacks-lacking.ensures in
    let none = sym c.parts_fault.ensures ∙ told-ok _ (sym c.is_err.ensures.value ∙ c.if-is_err.false) in
    let linked = sym (c.lack_in.ensures m refl refl (parts-linked m none lacks)) ∙ told-ok _ (sym c.is_err-2.ensures.value ∙ c.if-is_err-2.false) in
    let counts = model_fault-counts m (parts_whole m none linked) in
    let parts : c.if-is_unfit_threads.value ≡ (is_unfit_threads m x.threads.at || is_unfit_log m x.site) =
    elim c.if-is_unfit_threads.branch [
      | then-is_unfit_threads w ↦ w.value-is ∙ rw (← c.is_unfit_threads.ensures lacks, w.if-is_unfit_threads.true) refl
      | else-is_unfit_threads w ↦ w.value-is ∙ rw (← c.is_unfit_threads.ensures lacks, w.if-is_unfit_threads.false) w.is_unfit_log.ensures
    ] in
    (counts.threads, λ j h. omega (arith, counts.segments, parts-segments m x.site x.threads.at (sym parts ∙ c.if-is_unfit_log.false) j h))

pub returns-then-is_unfit_log : goal.returns-then-is_unfit_log
returns-then-is_unfit_log c =
    let x = c.args in
    let m = x.m in
    let lacks = c.lacks-lacking.ensures in
    let none = sym c.parts_fault.ensures ∙ told-ok _ (sym c.is_err.ensures.value ∙ c.if-is_err.false) in
    let linked = sym (c.lack_in.ensures m refl refl (parts-linked m none lacks)) ∙ told-ok _ (sym c.is_err-2.ensures.value ∙ c.if-is_err-2.false) in
    let parts : c.if-is_unfit_threads.value ≡ (is_unfit_threads m x.threads.at || is_unfit_log m x.site) =
    elim c.if-is_unfit_threads.branch [
      | then-is_unfit_threads w ↦ w.value-is ∙ rw (← c.is_unfit_threads.ensures lacks, w.if-is_unfit_threads.true) refl
      | else-is_unfit_threads w ↦ w.value-is ∙ rw (← c.is_unfit_threads.ensures lacks, w.if-is_unfit_threads.false) w.is_unfit_log.ensures
    ] in
    c.if-is_unfit_log.true ∙ is_unfit_state-parts m x.site x.threads.at (parts_whole m none linked) (sym parts ∙ c.if-is_unfit_log.true)

pub returns-else-is_unfit_log : goal.returns-else-is_unfit_log
returns-else-is_unfit_log c =
    let x = c.args in
    let m = x.m in
    let lacks = c.lacks-lacking.ensures in
    let none = sym c.parts_fault.ensures ∙ told-ok _ (sym c.is_err.ensures.value ∙ c.if-is_err.false) in
    let linked = sym (c.lack_in.ensures m refl refl (parts-linked m none lacks)) ∙ told-ok _ (sym c.is_err-2.ensures.value ∙ c.if-is_err-2.false) in
    let parts : c.if-is_unfit_threads.value ≡ (is_unfit_threads m x.threads.at || is_unfit_log m x.site) =
    elim c.if-is_unfit_threads.branch [
      | then-is_unfit_threads w ↦ w.value-is ∙ rw (← c.is_unfit_threads.ensures lacks, w.if-is_unfit_threads.true) refl
      | else-is_unfit_threads w ↦ w.value-is ∙ rw (← c.is_unfit_threads.ensures lacks, w.if-is_unfit_threads.false) w.is_unfit_log.ensures
    ] in
    is_unfit_state-places m x.site x.threads.at _ (parts_whole m none linked) (sym parts ∙ c.if-is_unfit_log.false) c.is_unfit_places.ensures
