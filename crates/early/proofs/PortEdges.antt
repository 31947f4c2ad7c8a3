-- Conflicts through a port, and records that could reach a port left unused, at, below and above their edges: closed examples, worked out from
-- document 02, "Modules with ports".
use Prim.Native.Nat.{ℕ}
use mathlib.Core.Path.{◌≡◌, refl}
use mathlib.Core.Bool.{Bool, true, false}
use mathlib.Core.List.{List, [], ◌∷◌}
use Rattle.clock.specs.Cycle.{cycle_at}
use Rattle.model.specs.declared.Op.{Op}
use Rattle.model.specs.declared.Op.TheVariants.{Add, Copy, AddVariable}
use Rattle.model.specs.declared.Closer.TheVariants.{End, Time}
use Rattle.model.specs.declared.Segment.{Segment}
use Rattle.model.specs.declared.Model.{Model}
use Rattle.model.specs.declared.Thread.{Thread}
use Rattle.model.specs.Port.{no_ports}
use Rattle.model.specs.Values.{no_model, with_head, with_segment, with_start}
use Rattle.model.specs.Rules.{model_fault}
use Rattle.tables.specs.Word.{all_ones}
use Rattle.early.specs.declared.Answer.TheVariants.{Granted, Refused}
use Rattle.early.specs.Hazard.{ports_conflict, threads_conflict, hazard}
use Rattle.early.specs.Fit.{is_fit_thread, is_unfit}
use Rattle.early.specs.Request.{fresh_site, request_of, requests_of}
use Rattle.early.proofs.Computed.{computed}
use Rattle.early.proofs.EdgeModels.{ready_in, ended_in, segment_of, says, onward, one_mark, no_mark, apart_words, site_with}

-- the ports of a thread that uses port 0, port 1 or port 7 alone
abbrev port0 : ℕ → List ℕ
port0 v = v ∷ 255 ∷ 255 ∷ 255 ∷ 255 ∷ 255 ∷ 255 ∷ 255 ∷ []

abbrev port1 : ℕ → List ℕ
port1 v = 255 ∷ v ∷ 255 ∷ 255 ∷ 255 ∷ 255 ∷ 255 ∷ 255 ∷ []

abbrev port7 : ℕ → List ℕ
port7 v = 255 ∷ 255 ∷ 255 ∷ 255 ∷ 255 ∷ 255 ∷ 255 ∷ v ∷ []

-- one statement and the end; nothing but a test
abbrev does : Op → Segment
does o = segment_of End (says o ∷ [])

abbrev asks : ℕ → Segment
asks x = segment_of (Time (record { 0 = 3 }) (record { a = 0; b = 1; test = x; limit = 2 })) []

-- V variables; thread 0 with its ports in segment 0, thread 1 with its own in segment 1
unfoldable pub pair : ℕ → Segment → List ℕ → Segment → List ℕ → Model
pair v g ps h qs =
    with_start (with_start (with_segment (with_segment (with_head no_model 100 v 1) g) h) (record { first = 0; ports = ps })) (record { first = 1; ports = qs })

-- thread 0 in segment 0 against thread 1 in segment 1, and the other way round
abbrev Meet : ℕ → Segment → List ℕ → Segment → List ℕ → Bool → Type 0
Meet v g ps h qs b = (ports_conflict (pair v g ps h qs) 0 0 1 1 ≡ b) × (ports_conflict (pair v g ps h qs) 1 1 0 0 ≡ b)

-- a write through port 7: of variable 0 beside a direct write of 0; of variable 1 beside it; of the last variable
pub port-meets-variable :
    Meet 2 (does (Add 0 1)) no_ports (does (Add 135 1)) (port7 0) true ×
    Meet 2 (does (Add 0 1)) no_ports (does (Add 135 1)) (port7 1) false ×
    Meet 64 (does (Add 63 1)) no_ports (does (Add 135 1)) (port7 63) true ×
    Meet 64 (does (Add 63 1)) no_ports (does (Add 135 1)) (port7 62) false
unfolding computed pair segment_of
port-meets-variable = ((refl, refl), (refl, refl), (refl, refl), (refl, refl))

-- port 0 of one thread and port 1 of another: both variable 0; variables 0 and 1; one segment of a module, mapped twice
pub two-ports :
    Meet 2 (does (Add 128 1)) (port0 0) (does (Add 129 1)) (port1 0) true ×
    Meet 2 (does (Add 128 1)) (port0 0) (does (Add 129 1)) (port1 1) false ×
    Meet 2 (does (Add 128 1)) (port0 1) (does (Add 128 1)) (port0 1) true ×
    Meet 2 (does (Add 128 1)) (port0 0) (does (Add 128 1)) (port0 1) false
unfolding computed pair segment_of
two-ports = ((refl, refl), (refl, refl), (refl, refl), (refl, refl))

-- "both access a variable which at least one writes": a test through a port against a write, direct and through a port; a write through a
-- port against a direct test; two readers, one or both through a port
pub test-through-a-port :
    Meet 3 (asks 128) (port0 0) (does (Add 0 1)) no_ports true ×
    Meet 3 (asks 128) (port0 0) (does (Add 129 1)) (port1 0) true ×
    Meet 3 (asks 0) no_ports (does (Add 129 1)) (port1 0) true ×
    Meet 3 (asks 128) (port0 0) (does (Copy 1 0)) no_ports false ×
    Meet 3 (asks 128) (port0 0) (does (Copy 1 129)) (port1 0) false ×
    Meet 3 (does (Copy 2 128)) (port0 0) (does (AddVariable 1 0)) no_ports false ×
    Meet 3 (does (Copy 0 128)) (port0 2) (does (Copy 129 1)) (port1 2) true
unfolding computed pair segment_of
test-through-a-port = ((refl, refl), (refl, refl), (refl, refl), (refl, refl), (refl, refl), (refl, refl), (refl, refl))

-- "at least one names through a port": variable 0 is named directly by both, port 0 is variable 1 or unused; no other segment's ports count
pub named-directly :
    Meet 2 (does (Add 0 1)) no_ports (does (Add 0 1)) no_ports false ×
    Meet 2 (does (Add 0 1)) no_ports (does (AddVariable 0 128)) (port0 1) false ×
    Meet 2 (does (Add 0 1)) no_ports (does (AddVariable 0 128)) (port0 0) true ×
    (ports_conflict (pair 2 (does (Add 0 1)) no_ports (does (Add 128 1)) (port0 0)) 0 0 1 0 ≡ false)
unfolding computed pair segment_of
named-directly = ((refl, refl), (refl, refl), (refl, refl), refl)

-- "an unused port naming nothing": two unused ports, an unused port beside the last variable
pub unused-port :
    Meet 2 (does (Add 128 1)) no_ports (does (Add 129 1)) no_ports false ×
    Meet 64 (does (Add 63 1)) no_ports (does (Add 128 1)) (port1 63) false ×
    Meet 64 (does (Add 0 1)) no_ports (does (Add 128 1)) (port1 0) false
unfolding computed pair segment_of
unused-port = ((refl, refl), (refl, refl), (refl, refl))

-- a mark, or a conflict through a port; a direct conflict whose mark is not set is none
pub threads_conflict-edges :
    (threads_conflict (pair 2 (does (Add 0 1)) no_ports (does (Add 1 1)) no_ports) one_mark 0 0 1 1 ≡ true) ×
    (threads_conflict (pair 2 (does (Add 0 1)) no_ports (does (Add 135 1)) (port7 0)) no_mark 0 0 1 1 ≡ true) ×
    (threads_conflict (pair 2 (does (Add 0 1)) no_ports (does (Add 135 1)) (port7 1)) no_mark 0 0 1 1 ≡ false) ×
    (threads_conflict (pair 2 (does (Add 0 1)) no_ports (does (Add 0 1)) no_ports) no_mark 0 0 1 1 ≡ false)
unfolding computed pair segment_of
threads_conflict-edges = (refl, refl, refl, refl)

-- thread 1 is at (4, 0), thread 0 asks at (5, 0): the same, as a hazard; not where thread 1 comes later
abbrev stands : Segment → List ℕ → Segment → List ℕ → Bool
stands g ps h qs = hazard (pair 2 g ps h qs) no_mark apart_words [] (ready_in 0 5 0 ∷ ready_in 1 4 0 ∷ []) 0 (cycle_at 5 0)

pub hazard-through-a-port :
    (stands (does (Add 0 1)) no_ports (does (Add 135 1)) (port7 0) ≡ true) ×
    (stands (does (Add 0 1)) no_ports (does (Add 135 1)) (port7 1) ≡ false) ×
    (stands (does (Add 135 1)) (port7 0) (does (Add 0 1)) no_ports ≡ true) ×
    (stands (does (Add 0 1)) no_ports (does (Add 0 1)) no_ports ≡ false) ×
    (hazard (pair 2 (does (Add 0 1)) no_ports (does (Add 135 1)) (port7 0)) no_mark apart_words [] (ready_in 0 5 0 ∷ ready_in 1 6 0 ∷ []) 0 (cycle_at 5 0) ≡ false)
unfolding computed pair segment_of
hazard-through-a-port = (refl, refl, refl, refl, refl)

-- "add 1 to port 0, wait 3, again while port 0 is below 2": two counters, or one
unfoldable pub counters : ℕ → ℕ → Model
counters v w =
    let g : Segment = segment_of (Time (record { 0 = 3 }) (record { a = 0; b = 1; test = 128; limit = 2 })) (says (Add 128 1) ∷ []) in
    with_start
    (with_start (with_segment (with_segment (with_head no_model 100 2 1) g) (segment_of End [])) (record { first = 0; ports = port0 v }))
    (record { first = 0; ports = port0 w })

abbrev counter_words : List ℕ
counter_words = 0 ∷ 3072 ∷ all_ones ∷ 0 ∷ []

abbrev both_ready : List Thread
both_ready = ready_in 0 0 0 ∷ ready_in 0 0 0 ∷ []

pub counted :
    ((requests_of (counters 0 1) no_mark counter_words fresh_site both_ready (1 ∷ 1 ∷ 1 ∷ [])).answers
    ≡ Granted 0 (cycle_at 0 0) ∷ Granted 0 (cycle_at 3 0) ∷ Granted 1 (cycle_at 6 0) ∷ []) ×
    ((requests_of (counters 0 0) no_mark counter_words fresh_site both_ready (1 ∷ 0 ∷ 1 ∷ [])).answers
    ≡ Refused 14 ∷ Granted 0 (cycle_at 0 0) ∷ Granted 0 (cycle_at 0 0) ∷ [])
unfolding computed counters segment_of
counted = (refl, refl)

-- Segment 0 leads to 1 and, past a limit, to 2; 1 ends; 2 names port 1. Thread 0 uses port 0 and starts at 1, thread 1 uses port 1.
unfoldable pub branching : ℕ → Model
branching first =
    with_start
    (with_start
    (with_segment
    (with_segment
    (with_segment (with_head no_model 100 2 1) (segment_of (Time (record { 0 = 3 }) (record { a = 1; b = 2; test = 0; limit = 4294967295 })) []))
    (segment_of End []))
    (does (Add 129 1)))
    (record { first = first; ports = port0 0 }))
    (record { first = 0; ports = port1 0 })

-- "a record from whose segment its thread could reach such a port": there, a step before it, and where none is reached; in every state
pub is_fit_thread-port :
    (is_fit_thread (branching 1) 0 (ready_in 2 0 0) ≡ false) ×
    (is_fit_thread (branching 1) 0 (ready_in 0 0 0) ≡ false) ×
    (is_fit_thread (branching 1) 0 (ready_in 1 0 0) ≡ true) ×
    (is_fit_thread (branching 1) 0 (ended_in 2 0 0) ≡ false) ×
    (is_fit_thread (branching 1) 1 (ready_in 2 0 0) ≡ true) ×
    (is_fit_thread (branching 1) 1 (ready_in 0 0 0) ≡ true)
unfolding computed branching segment_of
is_fit_thread-port = (refl, refl, refl, refl, refl, refl)

-- 11 for a record where the model itself is accepted; a record past T is not judged
abbrev branch_words : List ℕ
branch_words = 0 ∷ 3072 ∷ 3072 ∷ all_ones ∷ 0 ∷ all_ones ∷ all_ones ∷ all_ones ∷ 0 ∷ []

pub unfit-port :
    (model_fault (branching 1) ≡ 0) ×
    (model_fault (branching 0) ≡ 18) ×
    (is_unfit (branching 1) branch_words (site_with []) (ready_in 1 0 0 ∷ ready_in 2 0 0 ∷ ready_in 2 0 0 ∷ []) ≡ false) ×
    (is_unfit (branching 1) branch_words (site_with []) (ready_in 0 0 0 ∷ ready_in 2 0 0 ∷ []) ≡ true) ×
    ((request_of (branching 1) no_mark branch_words (site_with []) (ready_in 0 0 0 ∷ ready_in 2 0 0 ∷ []) 1).answer ≡ Refused 11)
unfolding computed branching segment_of
unfit-port = (refl, refl, refl, refl, refl)

-- "can reach": by the graph, also where every way is longer than the distances go, two waits of 1,000,000,000
unfoldable pub far_port : Model
far_port =
    with_start
    (with_segment
    (with_segment
    (with_segment (with_head no_model 100 1 1) (segment_of (Time (record { 0 = 1000000000 }) (onward 1)) []))
    (segment_of (Time (record { 0 = 1000000000 }) (onward 2)) []))
    (does (Add 128 1)))
    (record { first = 0; ports = port1 0 })

pub far-port :
    (model_fault far_port ≡ 18) ×
    (is_fit_thread far_port 0 (ready_in 0 0 0) ≡ false) ×
    (is_fit_thread far_port 0 (ready_in 2 0 0) ≡ false)
unfolding computed far_port segment_of
far-port = (refl, refl, refl)
