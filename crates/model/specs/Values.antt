-- Document 01, "Model file": a model as values, and how one is put together. "Segments and threads are numbered from 0 as they stand."
use Rattle.std.specs.Prelude.{ℕ, ◌+◌, ◌-◌, List, get_or, set, take, replicate}
use Rattle.model.specs.declared.Op.TheVariants.{Set}
use Rattle.model.specs.declared.Statement.{Statement}
use Rattle.model.specs.declared.Closer.TheVariants.{End}
use Rattle.model.specs.declared.Segment.{Segment}
use Rattle.model.specs.declared.Start.{Start}
use Rattle.model.specs.declared.Model.{Model}
use Rattle.model.specs.Port.{no_ports, map_segment}

-- what stands past the counts: all zero, and no port used
abbrev pub no_statement : Statement
no_statement = record { op = Set 0 0 }

abbrev pub no_segment : Segment
no_segment = record { closer = End; n = 0; statements = replicate 32 no_statement }

abbrev pub no_start : Start
no_start = record { first = 0; ports = no_ports }

abbrev pub no_model : Model
no_model = record { horizon = record { 0 = 0 }; v = 0; e = 0; n = 0; t = 0; segments = replicate 64 no_segment; starts = replicate 32 no_start }

unfoldable pub segment_at : Model → ℕ → Segment
segment_at m s = get_or m.segments s no_segment

unfoldable pub start_at : Model → ℕ → Start
start_at m k = get_or m.starts k no_start

-- the ports of thread k
unfoldable pub ports_at : Model → ℕ → List ℕ
ports_at m k = (start_at m k).ports

-- segment s as thread k runs it: "a thread's segment [..] after mapping"
unfoldable pub segment_for : Model → ℕ → ℕ → Segment
segment_for m k s = map_segment (ports_at m k) (segment_at m s)

-- the statements of a segment, in order
unfoldable pub body_of : Segment → List Statement
body_of g = take g.n g.statements

-- a model with another head, with one segment more, with one thread more that uses no port
unfoldable pub with_head : Model → ℕ → ℕ → ℕ → Model
with_head m h v e = record { horizon = record { 0 = h }; v = v; e = e; n = m.n; t = m.t; segments = m.segments; starts = m.starts }

unfoldable pub with_segment : Model → Segment → Model
with_segment m g =
    record { horizon = m.horizon; v = m.v; e = m.e; n = m.n + 1; t = m.t; segments = set m.segments m.n g; starts = m.starts }

unfoldable pub with_start : Model → Start → Model
with_start m s =
    record { horizon = m.horizon; v = m.v; e = m.e; n = m.n; t = m.t + 1; segments = m.segments; starts = set m.starts m.t s }

-- a model whose last thread has these ports
unfoldable pub with_ports : Model → List ℕ → Model
with_ports m ps =
    let last = m.t - 1 in
    let x : Start = record { first = (start_at m last).first; ports = ps } in
    record { horizon = m.horizon; v = m.v; e = m.e; n = m.n; t = m.t; segments = m.segments; starts = set m.starts last x }
