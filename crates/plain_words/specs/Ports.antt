-- Segments that name ports, as words: "Variable numbers 128 to 135 may stand wherever a variable is named, and mean ports 0 to 7".
use Rattle.std.specs.Prelude.{ℕ, zero, suc, ◌+◌, ◌*◌, ◌/◌, ◌%◌, ◌<◌, ◌≤◌, ◌≡◌, Bool, false, cond, ◌&&◌, ◌||◌, List, ltb, leb, get_or}
use Rattle.base.specs.Index.{any_below, tabulate}
use Rattle.model.specs.Port.{is_port, mapped}
use Rattle.plain_words.specs.Unpack.{size_by}

-- the ports of thread k, which stand behind the segments, eight for each thread
unfoldable pub ports_by : List ℕ → ℕ → List ℕ
ports_by code k = tabulate 8 0 (λ p. get_or code (2176 + 8 * k + p) 0 % 256)

-- a statement after mapping: "events have no ports", and a number that is set or added names nothing
unfoldable pub map_word : List ℕ → ℕ → ℕ
map_word ps w =
    cond (ltb 4 (w % 8))
    w
    (w % 8 + 8 * mapped ps (w / 8 % 256) + 2048 * cond (ltb (w % 8) 2) (w / 2048) (mapped ps (w / 2048)))

-- the next segments of a segment after mapping
unfoldable pub map_choice : List ℕ → ℕ → ℕ
map_choice ps w = w % 65536 + 65536 * mapped ps (w / 65536 % 256) + 16777216 * (w / 16777216)

-- a word of a segment after mapping: how it closes, its next segments, its statements
unfoldable pub map_at : List ℕ → ℕ → ℕ → ℕ
map_at ps zero w = w
map_at ps (suc zero) w = map_choice ps w
map_at ps (suc (suc j)) w = map_word ps w

-- the segments of a model as a thread with these ports runs them
unfoldable pub code_for : List ℕ → List ℕ → List ℕ
code_for ps code = tabulate 2176 0 (λ i. map_at ps (i % 34) (get_or code i 0))

-- and as thread k runs them
abbrev pub words_for : List ℕ → ℕ → List ℕ
words_for code k = code_for (ports_by code k) code

-- whether a statement names a port
unfoldable pub word_names : ℕ → Bool
word_names w = leb (w % 8) 4 && (is_port (w / 8 % 256) || (leb 2 (w % 8) && is_port (w / 2048)))

-- whether a segment does, whose words stand from a place on: its test, or one of its statements
unfoldable pub names_from : List ℕ → ℕ → ℕ → Bool
names_from code base n = is_port (get_or code (base + 1) 0 / 65536 % 256) || any_below n (λ j. word_names (get_or code (base + 2 + j) 0))

-- the mark of a segment that names a port stands above its delay or event
abbrev pub port_mark : ℕ
port_mark = 17592186044416

abbrev pub marked_if : Bool → ℕ → ℕ
marked_if b end = end + cond b port_mark 0

-- a segment has at most 32 statements, and without the mark it names no port
pub record Marks (code : List ℕ) : Type 0 where
  pub few : (s : ℕ) → s < 64 → size_by (get_or code (34 * s) 0) ≤ 32
  pub unnamed : (s : ℕ) → s < 64 → get_or code (34 * s) 0 < port_mark → names_from code (34 * s) (size_by (get_or code (34 * s) 0)) ≡ false

-- whether some segment has the mark
unfoldable pub any_marked : List ℕ → Bool
any_marked code = any_below 64 (λ s. leb port_mark (get_or code (34 * s) 0))
