-- What a file is read as: the number, 0 where it is accepted; the model, zero beside a number.
use Rattle.std.specs.Prelude.{ℕ, Result, Ok, Err}
use Rattle.model.specs.declared.Model.{Model}
use Rattle.model.specs.Values.{no_model}
use Rattle.refusal.specs.declared.Refusal.{Refusal}
use Rattle.refusal.specs.Number.{accepted, number_of}

pub record Read : Type 0 where
  pub number : ℕ
  pub model : Model

-- the answer of a call that reads a file
abbrev pub read_of : Result Model Refusal → Read
read_of (Ok m) = record { number = accepted; model = m }
read_of (Err r) = record { number = number_of r; model = no_model }
