-- `export_state::first_threads` meets its contract: the first 32 are copied.
use mathlib.Core.Path.{◌≡◌, refl}
use native.Mathlib.Omega.{arith}
use lib.ListN.{length, length-take}
use Rattle.model.specs.declared.Thread.{Thread}
use Rattle.export_state.proofs.first_threads.Goals as goal

pub slice_bounds-copy_from_slice-end-2 : goal.slice_bounds-copy_from_slice-end-2
slice_bounds-copy_from_slice-end-2 c = let size : length c.args.held ≡ 40 = c.well_formed.0.1.0.1 in omega (arith, length-take {A = Thread})

pub copy_from_slice-requires : goal.copy_from_slice-requires
copy_from_slice-requires c =
    let size : length c.args.held ≡ 40 = c.well_formed.0.1.0.1 in
    let made : length c.no_threads-threads.result.at ≡ 32 = rw c.no_threads-threads.ensures refl in
    omega (arith, length-take {A = Thread})
