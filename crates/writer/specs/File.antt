-- Document 02, slip 2: "a writer from a model held as values to the model file".
use Rattle.std.specs.Prelude.{ℕ, ◌+◌, ◌-◌, cond, List, [], ◌++◌, length, get_or, replicate}
use Rattle.base.specs.Index.{tabulate}
use Rattle.model.specs.declared.Segment.{Segment}
use Rattle.model.specs.declared.Start.{Start}
use Rattle.model.specs.declared.Model.{Model}
use Rattle.model.specs.Port.{port_of, uses_ports}
use Rattle.model.specs.Values.{no_statement, no_segment, no_start, segment_at, start_at}
use Rattle.reader.specs.Record.{head_kind, segment_kind, thread_kind, end_kind, ports_kind}
use Rattle.writer.specs.Bytes.{bytes_of, joined, closer_bytes, op_bytes}

-- "Each record is a two-byte length (whole record, head included), a two-byte kind, a body."
unfoldable pub record_bytes : ℕ → List ℕ → List ℕ
record_bytes k body = bytes_of 2 (4 + length body) ++ (bytes_of 2 k ++ body)

unfoldable pub head_bytes : Model → List ℕ
head_bytes m = record_bytes head_kind (bytes_of 4 m.horizon.0 ++ (bytes_of 1 m.v ++ bytes_of 1 m.e))

-- "a closer of 13 bytes, then n statements of 6 bytes"
unfoldable pub segment_bytes : Segment → List ℕ
segment_bytes g =
    record_bytes segment_kind (closer_bytes g.closer ++ joined g.n 0 (λ j. op_bytes (get_or g.statements j no_statement).op))

-- "writes no record where all eight are unused"
unfoldable pub ports_bytes : List ℕ → List ℕ
ports_bytes ps = cond (uses_ports ps) (record_bytes ports_kind (joined 8 0 (λ p. bytes_of 1 (port_of ps p)))) []

unfoldable pub start_bytes : Start → List ℕ
start_bytes s = record_bytes thread_kind (bytes_of 1 s.first) ++ ports_bytes s.ports

unfoldable pub end_bytes : List ℕ
end_bytes = record_bytes end_kind []

-- "The order is one head, 1 to 64 segments, 1 to 32 threads, one end."; a thread's ports follow its record
unfoldable pub file_of : Model → List ℕ
file_of m =
    head_bytes m
    ++ (joined m.n 0 (λ i. segment_bytes (segment_at m i)) ++ (joined m.t 0 (λ k. start_bytes (start_at m k)) ++ end_bytes))

-- "the same model up to its counts": with zero past them
unfoldable pub trimmed_segment : Segment → Segment
trimmed_segment g =
    record {
      closer = g.closer;
      n = g.n;
      statements = tabulate g.n 0 (λ j. get_or g.statements j no_statement) ++ replicate (32 - g.n) no_statement;
    }

unfoldable pub trimmed_start : Start → Start
trimmed_start s = record { first = s.first; ports = tabulate 8 0 (λ p. port_of s.ports p) }

unfoldable pub trimmed : Model → Model
trimmed m =
    record {
      horizon = m.horizon;
      v = m.v;
      e = m.e;
      n = m.n;
      t = m.t;
      segments = tabulate m.n 0 (λ i. trimmed_segment (segment_at m i)) ++ replicate (64 - m.n) no_segment;
      starts = tabulate m.t 0 (λ k. trimmed_start (start_at m k)) ++ replicate (32 - m.t) no_start;
    }
