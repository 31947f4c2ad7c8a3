-- What the calls for C and Rust that write a model ensure: answers, and every number and byte that they leave.
use Rattle.std.specs.Prelude.{ℕ, ◌≡◌, cond, List, leb, eqb, length, set}
use Rattle.base.specs.Index.{or_else}
use Rattle.buffers.specs.declared.Written.{Written}
use Rattle.buffers.specs.Written.{number_of, length_of, written_in, left_in}
use Rattle.model.specs.Refusal.{unfit}
use Rattle.model.specs.Rules.{unless}
use Rattle.reader.specs.File.{read_file}
use Rattle.writer.specs.File.{file_of}
use Rattle.export_model.specs.Numbers.{numbers_of}
use Rattle.export_model.specs.Judged.{numbers_number, model_held}

-- a file's model as numbers: the reader's number, then 16 for a slice that is too short
pub record Models (file before : List ℕ) (r : ℕ) (after : List ℕ) : Type 0 where
  pub number : r ≡ number_of (written_in (read_file file).number (numbers_of (read_file file).model) before)
  pub numbers : after ≡ left_in (read_file file).number (numbers_of (read_file file).model) before

-- 11 where there is no place for the length, then the numbers' own
abbrev pub call_number : List ℕ → List ℕ → ℕ
call_number xs place = or_else (unless (leb 1 (length place)) unfit) (numbers_number xs)

abbrev pub answer_of : List ℕ → List ℕ → List ℕ → Written
answer_of xs out place = written_in (call_number xs place) (file_of (model_held xs)) out

-- the file of a model held as numbers: 11, 2 to 8, then 16; its length in the first place
pub record Files (xs before place : List ℕ) (r : ℕ) (after left : List ℕ) : Type 0 where
  pub number : r ≡ number_of (answer_of xs before place)
  pub bytes : after ≡ left_in (call_number xs place) (file_of (model_held xs)) before
  pub size : left ≡ cond (eqb (number_of (answer_of xs before place)) 0) (set place 0 (length_of (answer_of xs before place))) place
