-- Document 02, slip 2: what the program `rewrite` prints of a file.
use Rattle.std.specs.Prelude.{ℕ, ◌<◌, ◌≡◌, cond, List, eqb}
use Rattle.model.specs.Refusal.{accepted}
use Rattle.reader.specs.Read.{Read}
use Rattle.reader.specs.Word.{byte_at}
use Rattle.reader.specs.File.{read_file}
use Rattle.writer.specs.File.{file_of}
use Rattle.sheet.specs.Sheet.{refused_line}

-- the model's file, or `refused` and the reader's number
unfoldable pub again_of : Read → List ℕ
again_of r = cond (eqb r.number accepted) (file_of r.model) (refused_line r.number)

unfoldable pub again : List ℕ → List ℕ
again file = again_of (read_file file)

-- "a file that the reader accepts is written again byte by byte"
abbrev pub Same : List ℕ → Type 0
Same file = ((i : ℕ) → byte_at file i < 256) → (read_file file).number ≡ accepted → again file ≡ file
