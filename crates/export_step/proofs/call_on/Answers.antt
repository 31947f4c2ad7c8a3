-- `export_step::call_on` meets its contract.
use mathlib.Core.Path.{refl, ◌∙◌}
use Rattle.export_step.proofs.call_on.Goals as goal

pub returns : goal.returns
returns c =
    let q = c.call in
    record { left = q.ensures.left ∙ rw (c.first_threads-threads.ensures, c.threads_from-own.ensures, c.site_from-site.ensures, c.conflict_marks-marks.ensures) refl; held = q.ensures.held ∙ rw (c.first_threads-threads.ensures, c.threads_from-own.ensures, c.site_from-site.ensures, c.conflict_marks-marks.ensures) refl }
