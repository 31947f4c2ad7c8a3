-- How the code makes the words, one store after the other. Only the contracts of this crate and private ones of `tables_row` cite this; `proofs/StoreLaws.antt` says that the words are those of `stored`.
-- While the rounds run, a word at `far` or above stands for never: its time is at the cut or past it.
use Rattle.std.specs.Prelude.{ℕ, zero, suc, ◌+◌, ◌*◌, ◌/◌, min, cond, ◌||◌, List, ltb, eqb, get_or}
use Rattle.base.specs.Index.{store_to}
use Rattle.clock.specs.declared.Wait.TheVariants as wait
use Rattle.clock.specs.declared.Bound.{Bound}
use Rattle.clock.specs.Advance.{advance_of}
use Rattle.model.specs.declared.Closer.{Closer}
use Rattle.model.specs.declared.Closer.TheVariants.{End, Time, Event}
use Rattle.model.specs.declared.Model.{Model}
use Rattle.model.specs.Limits.{cut_time}
use Rattle.model.specs.Values.{segment_at}
use Rattle.tables_distance.specs.declared.Steps.{Steps}
use Rattle.tables.specs.Word.{all_ones, word_of}

-- the cut as a word
abbrev pub far : ℕ
far = 1024 * cut_time

-- a bound while the rounds run
unfoldable pub held_word : Bound → ℕ
held_word b = min far (word_of b)

-- the sum of two words: the first's delta counts only if the second takes no time
unfoldable pub sum_word : ℕ → ℕ → ℕ
sum_word a b = cond (ltb b far) (cond (ltb b 1024) (a + b) (a / 1024 * 1024 + b)) far

-- the next segments of a closer, and the word of a step to them
unfoldable pub steps_of : Closer → Steps
steps_of End = record { a = 0; b = 0; word = far }
steps_of (Time k x) = record { a = x.a; b = x.b; word = held_word (advance_of (wait.Time k)) }
steps_of (Event e x) = record { a = x.a; b = x.b; word = held_word (advance_of wait.Event) }

unfoldable pub direct_word : Steps → ℕ → ℕ → ℕ
direct_word g r s = cond (eqb r s) 0 (cond (eqb g.a s || eqb g.b s) g.word far)

-- the first n words of row r, which begins at place p
abbrev pub direct_to : Steps → ℕ → ℕ → List ℕ → ℕ → List ℕ
direct_to g r p ws n = store_to (λ s vs. direct_word g r s) p ws n

-- the first rows of all
unfoldable pub direct_rows : Model → List ℕ → ℕ → List ℕ
direct_rows m ws zero = ws
direct_rows m ws (suc r) = direct_to (steps_of (segment_at m r).closer) r (r * m.n) (direct_rows m ws r) m.n

-- the first n words of the row that begins at p, each made the lesser of itself and the way of word a, then on by the row that begins at q
abbrev pub relaxed_to : ℕ → ℕ → ℕ → List ℕ → ℕ → List ℕ
relaxed_to a p q ws n = store_to (λ j vs. min (get_or vs (p + j) 0) (sum_word a (get_or vs (q + j) 0))) p ws n

-- one round, over place k: the first rows of n; a row with no way to k stays
unfoldable pub round_to : ℕ → ℕ → List ℕ → ℕ → List ℕ
round_to n k ws zero = ws
round_to n k ws (suc i) =
    let vs = round_to n k ws i in
    let a = get_or vs (i * n + k) 0 in
    cond (ltb a far) (relaxed_to a (i * n) (k * n) vs n) vs

-- the first rounds
unfoldable pub rounds_to : ℕ → List ℕ → ℕ → List ℕ
rounds_to n ws zero = ws
rounds_to n ws (suc k) = round_to n k (rounds_to n ws k) n

-- "'Never' begins above 1,000,000,000 units", "'never' as all ones"
unfoldable pub cut_word : ℕ → ℕ
cut_word w = cond (ltb w far) w all_ones

abbrev pub cut_to : List ℕ → ℕ → List ℕ
cut_to ws n = store_to (λ i vs. cut_word (get_or vs i 0)) 0 ws n

-- all of it
unfoldable pub filled : Model → List ℕ → List ℕ
filled m ws = cut_to (rounds_to m.n (direct_rows m ws m.n) m.n) (m.n * m.n)
