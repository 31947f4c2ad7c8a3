-- `early_hazard::hazard` meets its contract: a row past the marks is empty.
use borrow.Kind.Array.{e_arr, e_bool, good_length}
use Rattle.early_hazard.proofs.HazardLaws.{hazard_at-past, hazard_at-row}
use Rattle.early_hazard.proofs.hazard.Goals as goal

pub returns-then-r-ge64-clause-hazard : goal.returns-then-r-ge64-clause-hazard
returns-then-r-ge64-clause-hazard c = λ ws knows below.
    hazard_at-past _ _ _ ws _ _ _ _ _ _ _ (good_length (e_arr e_bool 64) 64 c.args.marks _ c.well_formed.0) c.from-i.ensures c.segment_of-r.ensures.0
    c.if-r-ge64.true

pub returns-clause-hazard : goal.returns-clause-hazard
returns-clause-hazard c = λ ws knows below.
    hazard_at-row _ _ _ ws _ _ _ _ _ _ _ _ _ _ _ c.from-i.ensures c.segment_of-r.ensures.0 c.limit_of.ensures
    c.ports_of.ensures c.footprint_of.ensures (c.any_threatens.ensures.threatens ws knows below)
