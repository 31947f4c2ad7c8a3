-- Document 01, "Model file": "Little-endian." Numbers of one, two and four bytes at a place.
use Rattle.std.specs.Prelude.{ℕ, ◌+◌, ◌*◌, List, get_or}

abbrev pub byte_at : List ℕ → ℕ → ℕ
byte_at b i = get_or b i 0

abbrev pub word_at : List ℕ → ℕ → ℕ
word_at b i = byte_at b i + byte_at b (i + 1) * 256

abbrev pub long_at : List ℕ → ℕ → ℕ
long_at b i = word_at b i + word_at b (i + 2) * 65536
