-- Document 01, "Model file": the file rules over values, as the number of the first fault in file order; 0 where there is none.
-- Faults that a declared enum cannot hold (an operation outside 1 to 6, stray bytes in a closer) are the reader's alone.
use Rattle.std.specs.Prelude.{ℕ, Bool, false, cond, not, ◌&&◌, ◌||◌, ltb, leb, eqb, List, get_or}
use Rattle.base.specs.Index.{any_below, or_else, first_below}
use Rattle.model.specs.declared.Op.{Op}
use Rattle.model.specs.declared.Op.TheVariants.{Set, Add, Copy, AddVariable, SubVariable, Notify}
use Rattle.model.specs.declared.Next.{Next}
use Rattle.model.specs.declared.Closer.{Closer}
use Rattle.model.specs.declared.Closer.TheVariants.{End, Time, Event}
use Rattle.model.specs.declared.Segment.{Segment}
use Rattle.model.specs.declared.Model.{Model}
use Rattle.model.specs.Refusal.{accepted, wrong_kind, wrong_length, wrong_count, wrong_closer, wrong_name, wrong_target, wrong_port, lacked_port}
use Rattle.model.specs.Limits.{largest_time}
use Rattle.model.specs.Port.{unused, is_port, port_of}
use Rattle.model.specs.Values.{no_statement, segment_at, start_at, ports_at}
use Rattle.model.specs.Effect.{no_test}
use Rattle.model.specs.Reach.{lacks_from}

-- number x where the rule is broken
abbrev pub unless : Bool → ℕ → ℕ
unless kept x = cond kept accepted x

-- "horizon H (4 bytes, 1 to 1,000,000,000), count V of variables (1 byte, 0 to 64), count E of events (1 byte, 0 to 32)"
unfoldable pub head_fault : ℕ → ℕ → ℕ → ℕ
head_fault h v e = unless ((leb 1 h && leb h largest_time) && (leb v 64 && leb e 32)) wrong_count

-- "With 255, B equals A and the limit is 0."
unfoldable pub choice_fault : Next → ℕ
choice_fault x = unless (not (eqb x.test no_test) || (eqb x.b x.a && eqb x.limit 0)) wrong_closer

-- "variable or event number not below V or E"; "2 and 7 now let kind 5 and the port numbers through"
unfoldable pub is_name : ℕ → ℕ → Bool
is_name v x = ltb x v || is_port x

unfoldable pub test_fault : ℕ → Next → ℕ
test_fault v x = unless (eqb x.test no_test || is_name v x.test) wrong_name

-- "the closer's 5 and 7": all of 5 first
unfoldable pub closer_fault : ℕ → ℕ → Closer → ℕ
closer_fault v e End = accepted
closer_fault v e (Time k x) = or_else (unless (leb k.0 largest_time) wrong_closer) (or_else (choice_fault x) (test_fault v x))
closer_fault v e (Event w x) = or_else (choice_fault x) (or_else (unless (ltb w e) wrong_name) (test_fault v x))

-- "b is compared with V as the whole 32-bit number"
unfoldable pub op_fault : ℕ → ℕ → Op → ℕ
op_fault v e (Set a b) = unless (is_name v a) wrong_name
op_fault v e (Add a b) = unless (is_name v a) wrong_name
op_fault v e (Copy a b) = unless (is_name v a && is_name v b) wrong_name
op_fault v e (AddVariable a b) = unless (is_name v a && is_name v b) wrong_name
op_fault v e (SubVariable a b) = unless (is_name v a && is_name v b) wrong_name
op_fault v e (Notify w) = unless (ltb w e) wrong_name

-- "in a segment: 1 to 4, the closer's 5 and 7, then 6 and 7 of each statement"
unfoldable pub statements_fault : ℕ → ℕ → Segment → ℕ
statements_fault v e g = first_below g.n (λ j. op_fault v e (get_or g.statements j no_statement).op)

unfoldable pub segment_fault : ℕ → ℕ → Segment → ℕ
segment_fault v e g = or_else (unless (leb g.n 32) wrong_length) (or_else (closer_fault v e g.closer) (statements_fault v e g))

-- "65th segment"
unfoldable pub segments_fault : Model → ℕ
segments_fault m = first_below m.n (λ i. or_else (unless (ltb i 64) wrong_count) (segment_fault m.v m.e (segment_at m i)))

-- "a mapped number is neither 255 nor below V"
unfoldable pub ports_fault : ℕ → List ℕ → ℕ
ports_fault v ps = unless (not (any_below 8 (λ p. not (eqb (port_of ps p) unused || ltb (port_of ps p) v)))) wrong_port

-- "33rd thread"; a thread's ports "where the record stands"
unfoldable pub starts_fault : Model → ℕ
starts_fault m = first_below m.t (λ k. or_else (unless (ltb k 32) wrong_count) (ports_fault m.v (ports_at m k)))

-- a file's first thread follows a segment, its end a thread: "2 for no segment or no thread"
unfoldable pub counts_fault : Model → ℕ
counts_fault m = or_else (unless (leb 1 m.n) wrong_kind) (or_else (unless (leb 1 m.t) wrong_kind) (starts_fault m))

-- "With kind 0 the other twelve bytes are 0 and name no event, next segment or variable."
unfoldable pub leaves_model : ℕ → Closer → Bool
leaves_model n End = false
leaves_model n (Time k x) = not (ltb x.a n && ltb x.b n)
leaves_model n (Event w x) = not (ltb x.a n && ltb x.b n)

unfoldable pub any_segment_leaves : Model → Bool
any_segment_leaves m = any_below m.n (λ i. leaves_model m.n (segment_at m i).closer)

unfoldable pub any_start_leaves : Model → Bool
any_start_leaves m = any_below m.t (λ k. not (ltb (start_at m k).first m.n))

-- "next or first segment not below N"
unfoldable pub targets_fault : Model → ℕ
targets_fault m = unless (not (any_segment_leaves m || any_start_leaves m)) wrong_target

-- "18 when a thread can reach a segment naming a port it leaves unused"
unfoldable pub lack_fault : Model → ℕ
lack_fault m = unless (not (any_below m.t (λ k. lacks_from m k (start_at m k).first))) lacked_port

-- "checked after 8"
unfoldable pub links_fault : Model → ℕ
links_fault m = or_else (targets_fault m) (lack_fault m)

-- the first fault in file order; 11 is "not 0"
unfoldable pub model_fault : Model → ℕ
model_fault m =
    or_else (head_fault m.horizon.0 m.v m.e) (or_else (segments_fault m) (or_else (counts_fault m) (links_fault m)))
