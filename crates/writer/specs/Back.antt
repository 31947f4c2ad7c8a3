-- Document 02, slips 2 and 4: what a call that writes a model promises of its bytes as the reader takes them.
use Rattle.std.specs.Prelude.{ℕ, ◌<◌, ◌^◌, ◌≡◌, List, take}
use Rattle.buffers.specs.declared.Written.{Written}
use Rattle.buffers.specs.Written.{number_of, length_of}
use Rattle.model.specs.declared.Model.{Model}
use Rattle.model.specs.Refusal.{accepted}
use Rattle.model.specs.Rules.{model_fault}
use Rattle.reader.specs.File.{read_file}
use Rattle.writer.specs.File.{file_of, trimmed}

-- of a model, the answer r, and the buffer after it
pub record ReadsBack (m : Model) (r : Written) (after : List ℕ) : Type 0 where
  -- "Held values are refused with 2 to 8 as the reader would refuse their file", "with 17 (for a mapped number) and 18 too": where the
  -- horizon has its four bytes there
  pub number : m.horizon.0 < 2 ^ 32 → (read_file (file_of m)).number ≡ model_fault m
  -- "Its output read back is the same model up to its counts"
  pub model : number_of r ≡ 0 → read_file (take (length_of r) after) ≡ record { number = accepted; model = trimmed m }
