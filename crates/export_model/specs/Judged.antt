-- Numbers that hold a model, judged: "Held values are refused with 2 to 8 as the reader would refuse their file". "Held so", an operation
-- outside 1 to 6, a notify with b not 0 and what a closer's kind forbids can occur, and numbers that no byte has. "The writer refuses with
-- 17 (for a mapped number) and 18 too".
use Rattle.std.specs.Prelude.{ℕ, ◌+◌, ◌-◌, cond, not, ◌||◌, List, ◌++◌, ltb, leb, eqb, length, replicate}
use Rattle.base.specs.Index.{any_below, or_else, first_below, tabulate}
use Rattle.model.specs.declared.Segment.{Segment}
use Rattle.model.specs.declared.Model.{Model}
use Rattle.model.specs.Refusal.{unfit, wrong_kind, wrong_length, wrong_count, wrong_target}
use Rattle.model.specs.Values.{no_statement, no_segment, no_start, no_model}
use Rattle.model.specs.Rules.{unless, head_fault, closer_fault, op_fault, ports_fault, leaves_model, lack_fault}
use Rattle.reader.specs.Closer.{closer_form_fault}
use Rattle.reader.specs.Statement.{op_form_fault}
use Rattle.export_model.specs.Numbers.{number_at, count_n, count_t, segment_place, statement_place, start_place, port_place, size_of, closer_held, op_held, statements_held}

-- "the closer's 5 and 7", of the closer at p
unfoldable pub closer_numbers_fault : List ℕ → ℕ → ℕ
closer_numbers_fault xs p =
    let is_zero = not (any_below 6 (λ i. not (eqb (number_at xs (p + 1 + i)) 0))) in
    or_else (closer_form_fault (number_at xs p) (number_at xs (p + 1)) (number_at xs (p + 2)) is_zero)
    (closer_fault (number_at xs 1) (number_at xs 2) (closer_held xs p))

-- "6 and 7 of each statement", of the statement at p
unfoldable pub op_numbers_fault : List ℕ → ℕ → ℕ
op_numbers_fault xs p = or_else (op_form_fault (number_at xs p) (number_at xs (p + 2))) (op_fault (number_at xs 1) (number_at xs 2) (op_held xs p))

-- segment i as it would stand in a file: 3, then "65th segment", then the closer's, then the statements'
unfoldable pub segment_numbers_fault : List ℕ → ℕ → ℕ
segment_numbers_fault xs i =
    or_else (unless (leb (statements_held xs i) 32) wrong_length)
    (or_else (unless (ltb i 64) wrong_count)
    (or_else (closer_numbers_fault xs (segment_place i)) (first_below (statements_held xs i) (λ j. op_numbers_fault xs (statement_place i j)))))

-- the ports of thread k
abbrev pub ports_held : List ℕ → ℕ → List ℕ
ports_held xs k = tabulate 8 0 (λ p. number_at xs (port_place (count_n xs) k p))

-- "33rd thread"; "a mapped number is neither 255 nor below V"
unfoldable pub start_numbers_fault : List ℕ → ℕ → ℕ
start_numbers_fault xs k = or_else (unless (ltb k 32) wrong_count) (ports_fault (number_at xs 1) (ports_held xs k))

-- "2 for no segment or no thread"
unfoldable pub count_numbers_fault : List ℕ → ℕ
count_numbers_fault xs =
    or_else (unless (leb 1 (count_n xs)) wrong_kind)
    (or_else (unless (leb 1 (count_t xs)) wrong_kind) (first_below (count_t xs) (λ k. start_numbers_fault xs k)))

-- "next or first segment not below N"
unfoldable pub target_numbers_fault : List ℕ → ℕ
target_numbers_fault xs =
    unless
    (not
    (any_below (count_n xs) (λ i. leaves_model (count_n xs) (closer_held xs (segment_place i)))
    || any_below (count_t xs) (λ k. not (ltb (number_at xs (start_place (count_n xs) k)) (count_n xs)))))
    wrong_target

-- THE MODEL THAT THE NUMBERS HOLD, zero past its counts

unfoldable pub segment_held : List ℕ → ℕ → Segment
segment_held xs i =
    record {
      closer = closer_held xs (segment_place i);
      n = statements_held xs i;
      statements =
          tabulate (statements_held xs i) 0 (λ j. record { op = op_held xs (statement_place i j) })
          ++ replicate (32 - statements_held xs i) no_statement;
    }

unfoldable pub model_held : List ℕ → Model
model_held xs =
    record {
      horizon = record { 0 = number_at xs 0 };
      v = number_at xs 1;
      e = number_at xs 2;
      n = count_n xs;
      t = count_t xs;
      segments = tabulate (count_n xs) 0 (λ i. segment_held xs i) ++ replicate (64 - count_n xs) no_segment;
      starts =
          tabulate (count_t xs) 0 (λ k. record { first = number_at xs (start_place (count_n xs) k); ports = ports_held xs k })
          ++ replicate (32 - count_t xs) no_start;
    }

-- the first fault in file order, up to 8
unfoldable pub parts_fault : List ℕ → ℕ
parts_fault xs =
    or_else (head_fault (number_at xs 0) (number_at xs 1) (number_at xs 2))
    (or_else (first_below (count_n xs) (λ i. segment_numbers_fault xs i)) (or_else (count_numbers_fault xs) (target_numbers_fault xs)))

-- 18 is "checked after 8"
unfoldable pub numbers_fault : List ℕ → ℕ
numbers_fault xs = or_else (parts_fault xs) (lack_fault (model_held xs))

-- 11 where the slice is shorter than its counts ask for; then the fault
unfoldable pub numbers_number : List ℕ → ℕ
numbers_number xs = or_else (unless (leb (size_of (count_n xs) (count_t xs)) (length xs)) unfit) (numbers_fault xs)

-- beside a number it is zero
unfoldable pub held_or : List ℕ → Model
held_or xs = cond (eqb (numbers_number xs) 0) (model_held xs) no_model
