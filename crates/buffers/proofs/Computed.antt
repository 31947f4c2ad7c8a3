-- A name that opens every definition of this crate, for closed examples.
-- Assumes nothing.

unfoldable pub computed : Unit {0}
unfolding Rattle.buffers.specs.Digits.last_digits Rattle.buffers.specs.Digits.digits_of Rattle.buffers.specs.Line.rest_of Rattle.buffers.specs.Put.bytes_at Rattle.buffers.specs.Put.place_after Rattle.buffers.specs.Write.placed_in Rattle.buffers.specs.Write.length_in Rattle.buffers.specs.Written.written_in Rattle.buffers.specs.Written.left_in
computed = tt
