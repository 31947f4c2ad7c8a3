-- `export_step::request_on` meets its contract.
use mathlib.Core.Path.{refl, ap, ◌∙◌}
use Rattle.export_step.specs.Left.{left_of}
use Rattle.export_step.proofs.StepLaws.{left_of-made}
use Rattle.export_step.proofs.request_on.Goals as goal

pub returns : goal.returns
returns c =
    let left = c.request_first-left in
    left_of-made left.result c.first_threads.result c.first_threads.ensures
    ∙ ap left_of (left.ensures ∙ rw (c.from.ensures, c.threads_from-held.ensures, c.site_from-site.ensures, c.conflict_marks-marks.ensures) refl)
