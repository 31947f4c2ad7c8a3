-- `export_step::rows_on` meets its contract.
use mathlib.Core.Path.{refl, ◌∙◌}
use Rattle.export_step.proofs.rows_on.Goals as goal

pub returns : goal.returns
returns c =
    let q = c.request_by_rows in
    record { free = q.ensures.free; left = q.ensures.left ∙ rw (c.first_threads-threads.ensures, c.threads_from-held.ensures, c.site_from-site.ensures, c.conflict_marks-marks.ensures) refl }
