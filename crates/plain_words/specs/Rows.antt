-- The rows of words in which threads are while a model runs: a segment's own, or, for one that names a port, the thread's: "Segments run after mapping".
use Rattle.std.specs.Prelude.{ℕ, ◌+◌, ◌*◌, ◌<◌, ◌≤◌, ◌≡◌, ◌⊎◌, cond, List, ltb, length, get_or}
use Rattle.base.specs.Index.{tabulate}
use Rattle.plain_words.specs.Unpack.{end_by}
use Rattle.plain_words.specs.Ports.{ports_by, map_word, words_for, port_mark, Marks}

-- thread k's row, 72 + k, has the words of segment s as thread k runs it
abbrev pub Own : List ℕ → ℕ → ℕ → Type 0
Own code k s = (j : ℕ) → j < 34 → get_or code (2448 + 34 * k + j) 0 ≡ get_or (words_for code k) (34 * s + j) 0

-- all words stay but those of thread k's row
abbrev pub OtherRows : ℕ → List ℕ → List ℕ → Type 0
OtherRows k xs ys = (i : ℕ) → (i < 2448 + 34 * k) ⊎ (2482 + 34 * k ≤ i) → get_or ys i 0 ≡ get_or xs i 0

-- the first j statements of segment s, after mapping, are put there, and all other words stay
pub record Mapped (xs ys : List ℕ) (k s j : ℕ) : Type 0 where
  pub size : length ys ≡ 4384
  pub here : (i : ℕ) → i < j → get_or ys (2450 + 34 * k + i) 0 ≡ map_word (ports_by xs k) (get_or xs (34 * s + 2 + i) 0)
  pub others : (i : ℕ) → (i < 2450 + 34 * k) ⊎ (2482 + 34 * k ≤ i) → get_or ys i 0 ≡ get_or xs i 0

-- the segments and the ports stay
abbrev pub Kept : List ℕ → List ℕ → Type 0
Kept xs ys = (i : ℕ) → i < 2432 → get_or ys i 0 ≡ get_or xs i 0

-- a number below 64 in place k of held is the segment that thread k's row has
pub record Rowed (code held : List ℕ) : Type 0 where
  pub size : length code ≡ 4384
  pub threads : length held ≡ 32
  pub marks : Marks code
  pub own : (k : ℕ) → k < 32 → get_or held k 0 < 64 → Own code k (get_or held k 0)

-- the row in which each thread is: a segment's, or its own, which has a segment
pub record InRows (held rows : List ℕ) : Type 0 where
  pub threads : length rows ≡ 32
  pub own : (k : ℕ) → k < 32 → 64 ≤ get_or rows k 0 → (get_or rows k 0 ≡ 72 + k) × (get_or held k 0 < 64)

-- the segment that stands in a row: in a thread's own, the one that it holds
unfoldable pub segment_by : ℕ → ℕ → ℕ
segment_by h r = cond (ltb r 64) r h

-- the segments in which the threads are
unfoldable pub segments_by : List ℕ → List ℕ → List ℕ
segments_by held rows = tabulate 32 0 (λ k. segment_by (get_or held k 0) (get_or rows k 0))

-- a row that can be run: a thread's own, or that of a segment that names no port
abbrev pub IsPlain : List ℕ → ℕ → Type 0
IsPlain code r = r < 64 → end_by code r < port_mark

-- what is done before a cycle that looks at the threads from one on and before another
pub record Prepared (code held rows code' held' rows' : List ℕ) (from to : ℕ) : Type 0 where
  pub rowed : Rowed code' held'
  pub placed : InRows held' rows'
  pub same : segments_by held' rows' ≡ segments_by held rows
  pub plain : (k : ℕ) → from ≤ k → k < to → IsPlain code' (get_or rows' k 0)
  pub kept : Kept code code'
