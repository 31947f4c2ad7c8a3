-- The values of a model fit the fields of a file, as owning it tells: all but its horizon, which may be longer than four bytes.
--     fields_owned     a model
use Prim.Native.Nat.{ℕ, zero, suc, ◌<◌, ◌^◌}
use mathlib.Core.Path.{◌≡◌, sym, subst}
use mathlib.Core.List.{List, [], ◌∷◌}
use native.Mathlib.Decide.{dec_lt}
use native.Mathlib.Omega.{arith}
use mir.Val.{Val}
use base.Fml.{Fml}
use denote.Shadow.{shadow}
use denote.Array.{each}
use denote.Builtin.{u8}
use denote.Laws.{Is}
use denote.Struct.Laws as LL
use lib.ListN.{length, get_or, get_or-replicate, get_or-eq_default}
use Rattle.model.specs.declared.Next.{Next}
use Rattle.model.specs.declared.Op.{Op}
use Rattle.model.specs.declared.Op.TheVariants.{Set, Add, Copy, AddVariable, SubVariable, Notify}
use Rattle.model.specs.declared.Statement.{Statement}
use Rattle.model.specs.declared.Closer.{Closer}
use Rattle.model.specs.declared.Closer.TheVariants.{End, Time, Event}
use Rattle.model.specs.declared.Segment.{Segment}
use Rattle.model.specs.declared.Start.{Start}
use Rattle.model.specs.declared.Model.{Model}
use Rattle.model.specs.Port.{no_ports, port_of}
use Rattle.model.specs.Values.{no_statement, no_segment, no_start, segment_at, start_at}
use Rattle.model.specs.contracts.Next as next
use Rattle.model.specs.contracts.Op as op
use Rattle.model.specs.contracts.Statement as statement
use Rattle.model.specs.contracts.Closer as closer
use Rattle.model.specs.contracts.Segment as segment
use Rattle.model.proofs.Segment.TheLaws as segment'
use Rattle.model.specs.contracts.Start as start
use Rattle.model.proofs.Start.TheLaws as start'
use Rattle.model.specs.contracts.Model as model
use Rattle.model.proofs.Model.TheLaws as model'
use Rattle.writer.specs.Fields.{FitsNext, FitsCloser, FitsOp, FitsSegment, Fields}

-- what is owned of each element of an array is owned of the one at i
each_at :
    {D : Type 0} (f : D → List Val → Fml) (xs : List D) (us : List Val) (i : ℕ) (z : D) → shadow (each D f xs us) →
    i < length xs → (u : Val) × shadow (f (get_or xs i z) (u ∷ []))
each_at f [] us i z g h = absurd (omega arith)
each_at f (x ∷ xs) [] i z g h = absurd g
each_at f (x ∷ xs) (u ∷ us) zero z g h = (u, g.0)
each_at f (x ∷ xs) (u ∷ us) (suc i) z g h = each_at f xs us i z g.1 (omega arith)

-- a property of the elements within an array and of the one past it
at_each :
    {D : Type 0} (P : D → Type 0) (xs : List D) (i : ℕ) (z : D) → (i < length xs → P (get_or xs i z)) → P z → P (get_or xs i z)
at_each P xs i z within past = go (dec_lt i (length xs))
  where
    go : Dec (i < length xs) → P (get_or xs i z)
    go (yes h) = within h
    go (no h) = subst P (sym (get_or-eq_default xs z {n = i} (omega arith))) past

next_fits : (x : Next) {vs : List Val} → Is next.the_row x vs → FitsNext x
next_fits x g = let f = g.1.1 in (f.0.1, f.1.0.1, f.1.1.0.1, f.1.1.1.0.1)

op_fits : (x : Op) {vs : List Val} → Is op.the_row x vs → FitsOp x
op_fits (Set a b) h = let f = h.1.1.1.1 in (f.0.1, f.1.0.1)
op_fits (Add a b) h = let f = h.1.1.1.1 in (f.0.1, f.1.0.1)
op_fits (Copy a b) h = let f = h.1.1.1.1 in (f.0.1, f.1.0.1)
op_fits (AddVariable a b) h = let f = h.1.1.1.1 in (f.0.1, f.1.0.1)
op_fits (SubVariable a b) h = let f = h.1.1.1.1 in (f.0.1, f.1.0.1)
op_fits (Notify e) h = h.1.1.1.1.0.1

statement-fits : (x : Statement) (vs : List Val) → Is statement.the_row x vs → FitsOp x.op
statement-fits x vs g = op_fits x.op g.1.1.0

closer-fits : (x : Closer) {vs : List Val} → Is closer.the_row x vs → FitsCloser x
closer-fits End h = tt
closer-fits (Time k x) h = let f = h.1.1.1.1 in (f.0.1.1.0.1, next_fits x f.1.0)
closer-fits (Event e x) h = let f = h.1.1.1.1 in (f.0.1, next_fits x f.1.0)

segment-fits : (g : Segment) (vs : List Val) → Is segment.the_row g vs → FitsSegment g
segment-fits g vs h =
    let o = LL.owed segment.the_type segment'.the_laws g vs h in
    record {
      closer = closer-fits g.closer o.0;
      few = o.1.0.1;
      statements =
          λ j _.
          at_each (λ (x : Statement). FitsOp x.op) g.statements j no_statement
          (λ l. statement-fits (get_or g.statements j no_statement) _ (each_at (statement.the_row).own_val g.statements o.1.1.0.0 j no_statement o.1.1.0.1.1 l).1)
          (omega arith, omega arith);
    }

-- the ports of a thread, past the eight too
start_fits : (s : Start) (vs : List Val) → Is start.the_row s vs → (p : ℕ) → port_of s.ports p < 256
start_fits s vs h p =
    let o = LL.owed start.the_type start'.the_laws s vs h in
    at_each (λ (x : ℕ). x < 256) s.ports p 0 (λ l. (each_at u8.own_val s.ports o.1.0.0 p 0 o.1.0.1.1 l).1.1) (omega arith)

no_ports-fit : (p : ℕ) → port_of no_ports p < 256
no_ports-fit p = at_each (λ (x : ℕ). x < 256) no_ports p 0 (λ l. let e : port_of no_ports p ≡ 255 = get_or-replicate 8 p 255 0 l in omega arith) (omega arith)

pub fields_owned : (m : Model) (vs : List Val) → Is model.the_row m vs → m.horizon.0 < 2 ^ 32 → Fields m
unfolding segment_at start_at
fields_owned m vs g h =
    let o = LL.owed model.the_type model'.the_laws m vs g in
    record {
      horizon = h;
      v = o.1.0.1;
      e = o.1.1.0.1;
      segments =
          λ i _.
          at_each FitsSegment m.segments i no_segment
          (λ l. segment-fits (get_or m.segments i no_segment) _ (each_at (segment.the_row).own_val m.segments o.1.1.1.1.1.0.0 i no_segment o.1.1.1.1.1.0.1.1 l).1)
          (record { closer = tt; few = omega arith; statements = λ j l. absurd (omega arith) });
      starts =
          λ k _.
          at_each (λ (s : Start). s.first < 256) m.starts k no_start
          (λ l. (each_at (start.the_row).own_val m.starts o.1.1.1.1.1.1.0.0 k no_start o.1.1.1.1.1.1.0.1.1 l).1.1.1.0.1)
          (omega arith);
      ports =
          λ k p _ _.
          at_each (λ (s : Start). (p : ℕ) → port_of s.ports p < 256) m.starts k no_start
          (λ l. start_fits (get_or m.starts k no_start) _ (each_at (start.the_row).own_val m.starts o.1.1.1.1.1.1.0.0 k no_start o.1.1.1.1.1.1.0.1.1 l).1)
          no_ports-fit p;
    }
