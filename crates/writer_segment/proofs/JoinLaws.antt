-- Parts put one after the other: a byte, a record, one part more of those that are joined.
-- Assumes nothing.
use Prim.Native.Nat.{ℕ, ◌+◌, ◌<◌, ◌%◌}
use mathlib.Core.Path.{◌≡◌, refl, ◌∙◌}
use mathlib.Core.List.{List, [], ◌∷◌, ◌++◌, append_assoc}
use native.Mathlib.Nat.{zero-add}
use native.Mathlib.Omega.{arith}
use lib.ListN.{length}
use Rattle.buffers.specs.Put.{Puts}
use Rattle.buffers.proofs.PutLaws.{puts_then, puts-next}
use Rattle.writer.specs.Bytes.{bytes_of, joined}
use Rattle.writer.specs.File.{record_bytes}
use Rattle.writer_laws.proofs.JoinLaws.{joined-more}

pub bytes_of-byte : (x : ℕ) → x < 256 → bytes_of 1 x ≡ x ∷ []
unfolding bytes_of
bytes_of-byte x h = let e : x % 256 ≡ x = omega arith in rw e refl

pub joined-none : (i : ℕ) (f : ℕ → List ℕ) → joined 0 i f ≡ []
unfolding joined
joined-none i f = refl

-- a frame, then the body whose length it says
pub puts-record :
    {b c d body : List ℕ} {at next last : ℕ} (size kind : ℕ) →
    Puts b at c next (bytes_of 2 size ++ bytes_of 2 kind) → Puts c next d last body → size ≡ 4 + length body →
    Puts b at d last (record_bytes kind body)
unfolding record_bytes
puts-record {body = body} size kind p q e =
    rw (← append_assoc (bytes_of 2 (4 + length body)) (bytes_of 2 kind) body) (puts_then (rw e at p) q)

-- one part more
pub puts-joined :
    {b c d part : List ℕ} {at next last : ℕ} (f : ℕ → List ℕ) (i : ℕ) →
    Puts b at c next (joined i 0 f) → Puts c next d last part → part ≡ f i → Puts b at d last (joined (i + 1) 0 f)
puts-joined f i p q e =
    puts-next (λ n. joined n 0 f) i p q (joined-more i 0 f ∙ rw (zero-add i, e) refl)
