-- A thread's ports as the code asks and puts them.
--     puts-ports, puts-no-ports     a record as the code puts it, or none
--     ports_bytes-size, ports_bytes-empty, ports_bytes-most, size-used, size-unused     12 bytes, or none
-- Assumes nothing.
use Prim.Native.Nat.{ℕ, ◌+◌, ◌≤◌, min}
use mathlib.Core.Path.{◌≡◌, refl, ap, ◌∙◌}
use mathlib.Core.Bool.{Bool, true, false}
use mathlib.Core.List.{List, ◌++◌}
use native.Mathlib.Omega.{arith}
use lib.ListN.{length}
use Rattle.buffers.specs.Put.{Puts}
use Rattle.buffers.proofs.PutLaws.{puts_none}
use Rattle.model.specs.Port.{uses_ports}
use Rattle.writer.specs.Bytes.{bytes_of}
use Rattle.writer.specs.File.{ports_bytes}
use Rattle.writer_laws.proofs.RecordLaws.{record_bytes-length}
use Rattle.writer_laws.proofs.PortLaws.{ports_body, ports_body-length, ports_bytes-used, ports_bytes-unused}
use Rattle.writer_segment.proofs.JoinLaws.{puts-record}

module _ (ps : List ℕ) where
  pub ports_bytes-size : uses_ports ps ≡ true → length (ports_bytes ps) ≡ 12
  ports_bytes-size e = ap length (ports_bytes-used ps e) ∙ record_bytes-length 5 (ports_body ps) ∙ ap (λ (n : ℕ). 4 + n) (ports_body-length ps)

  pub ports_bytes-empty : uses_ports ps ≡ false → length (ports_bytes ps) ≡ 0
  ports_bytes-empty e = ap length (ports_bytes-unused ps e)

  pub ports_bytes-most : length (ports_bytes ps) ≤ 12
  ports_bytes-most = go (uses_ports ps) refl
    where
      go : (b : Bool) → uses_ports ps ≡ b → length (ports_bytes ps) ≤ 12
      go true e = omega (arith, ports_bytes-size e)
      go false e = omega (arith, ports_bytes-empty e)

  pub size-used : uses_ports ps ≡ true → (17 ≡ 5 + length (ports_bytes ps)) × (17 ≤ 17)
  size-used e = (omega (arith, ports_bytes-size e), omega arith)

  pub size-unused : uses_ports ps ≡ false → (5 ≡ 5 + length (ports_bytes ps)) × (5 ≤ 17)
  size-unused e = (omega (arith, ports_bytes-empty e), omega arith)

  pub puts-ports : {b c d : List ℕ} {at next last : ℕ} → uses_ports ps ≡ true → Puts b at c next (bytes_of 2 12 ++ bytes_of 2 5)
      → Puts c next d last (ports_body ps) → Puts b at d last (ports_bytes ps)
  puts-ports e p q = rw (ports_bytes-used ps e) (puts-record 12 5 p q (omega (arith, ports_body-length ps)))

  pub puts-no-ports : {b : List ℕ} {at next : ℕ} → uses_ports ps ≡ false → next ≡ min at (length b) → Puts b at b next (ports_bytes ps)
  puts-no-ports {b} {at} {next} e h = rw (ports_bytes-unused ps e) (puts_none b at next h)
