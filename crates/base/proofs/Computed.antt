-- A name that opens every definition of this crate and those below, for closed examples.
-- Assumes nothing.

unfoldable pub computed : Unit {0}
unfolding Rattle.base.specs.Index.any_below Rattle.base.specs.Index.or_else Rattle.base.specs.Index.first_below Rattle.base.specs.Index.tabulate Rattle.base.specs.Index.store_to
computed = tt
