-- A model keeps the file rules exactly where a file gives it.
--     file_of-below     what is written are bytes
--     model_fault→file, file→model_fault     the two directions
--     fault-free-exactly     both
use Prim.Native.Nat.{ℕ, ◌≤◌}
use mathlib.Core.Path.{◌≡◌, sym, ap, ◌∙◌}
use mathlib.Core.List.{List, [], ◌++◌}
use native.Mathlib.Omega.{arith}
use lib.ListN.{length}
use Rattle.model.specs.declared.Model.{Model}
use Rattle.model.specs.Values.{segment_at, start_at}
use Rattle.model.specs.Rules.{model_fault}
use Rattle.reader.specs.Read.{Read}
use Rattle.reader.specs.File.{read_or, read_file}
use Rattle.reader_laws.proofs.Accepted.{accepted-kept}
use Rattle.writer.specs.Bytes.{bytes_of, joined}
use Rattle.writer.specs.File.{record_bytes, head_bytes, segment_bytes, ports_bytes, start_bytes, end_bytes, file_of, trimmed}
use Rattle.writer.specs.Fields.{Fields}
use Rattle.writer_laws.proofs.ByteLaws.{AllBytes, bytes_of-below, append-below}
use Rattle.writer_laws.proofs.JoinLaws.{joined-below}
use Rattle.writer_laws.proofs.RecordLaws.{record_bytes-below}
use Rattle.writer_laws.proofs.PortLaws.{ports_bytes-below}
use Rattle.writer_laws.proofs.TrimLaws.{model_fault-trimmed}
use Rattle.writer_laws.proofs.SegmentLaws.{segment_bytes-below}
use Rattle.writer_laws.proofs.ReadWritten.{read-written}

module _ (m : Model) where
  head-below : AllBytes (head_bytes m)
  unfolding head_bytes
  head-below =
      record_bytes-below 1 (bytes_of 4 m.horizon.0 ++ (bytes_of 1 m.v ++ bytes_of 1 m.e))
      (append-below (bytes_of 4 m.horizon.0) _ (bytes_of-below 4 m.horizon.0)
      (append-below (bytes_of 1 m.v) (bytes_of 1 m.e) (bytes_of-below 1 m.v) (bytes_of-below 1 m.e)))

  start-below : (k : ℕ) → AllBytes (start_bytes (start_at m k))
  unfolding start_bytes
  start-below k =
      append-below (record_bytes 3 (bytes_of 1 (start_at m k).first)) (ports_bytes (start_at m k).ports)
      (record_bytes-below 3 (bytes_of 1 (start_at m k).first) (bytes_of-below 1 (start_at m k).first)) (ports_bytes-below (start_at m k).ports)

  end_below : AllBytes end_bytes
  unfolding end_bytes
  end_below = record_bytes-below 4 [] (λ i. omega arith)

  pub file_of-below : AllBytes (file_of m)
  unfolding file_of
  file_of-below =
      append-below (head_bytes m) _ head-below
      (append-below (joined m.n 0 (λ i. segment_bytes (segment_at m i))) _
      (joined-below m.n 0 _ (λ i. segment_bytes-below (segment_at m i)))
      (append-below (joined m.t 0 (λ k. start_bytes (start_at m k))) end_bytes (joined-below m.t 0 _ start-below) end_below))

  -- a file that gives the model, zero past its counts
  pub record Given : Type 0 where
    pub file : List ℕ
    pub below : AllBytes file
    pub read : read_file file ≡ record { number = 0; model = trimmed m }

  pub model_fault→file : Fields m → length m.segments ≤ 64 → model_fault m ≡ 0 → Given
  model_fault→file fits places none =
      record {
        file = file_of m;
        below = file_of-below;
        read = read-written m fits places ∙ ap (λ (x : ℕ). read_or x (trimmed m)) none;
      }

  pub file→model_fault : Given → model_fault m ≡ 0
  file→model_fault g =
      let none = accepted-kept g.file (ap (λ (x : Read). x.number) g.read) in
      sym (model_fault-trimmed m) ∙ ap (λ (x : Read). model_fault x.model) (sym g.read) ∙ none

  pub fault-free-exactly : Fields m → length m.segments ≤ 64 → (model_fault m ≡ 0 → Given) × (Given → model_fault m ≡ 0)
  fault-free-exactly fits places = (model_fault→file fits places, file→model_fault)
