-- A thread's ports: the exits of `ports_record_fault`.
use Prim.Native.Nat.{ℕ}
use mathlib.Core.Path.{◌≡◌}
use mathlib.Core.Bool.{true, false}
use mathlib.Core.List.{List}
use native.Mathlib.Omega.{arith}
use Rattle.model.specs.Port.{uses_ports}
use Rattle.model.specs.Rules.{ports_fault}
use Rattle.model_rules.proofs.FaultLaws.{unless-kept, unless-broken, fault-here, fault-later}
use Rattle.reader.specs.Record.{ports_from, ports_bytes_fault}

module _ (v : ℕ) (r ps : List ℕ) (is : ps ≡ ports_from r) where
  pub ports_bytes_fault-none : uses_ports ps ≡ false → 17 ≡ ports_bytes_fault v r
  unfolding ports_bytes_fault
  ports_bytes_fault-none e = rw (← is) (fault-here _ _ 17 (unless-broken (uses_ports ps) 17 e) (λ z. omega arith))

  pub ports_bytes_fault-used : (x : ℕ) → uses_ports ps ≡ true → x ≡ ports_fault v ps → x ≡ ports_bytes_fault v r
  unfolding ports_bytes_fault
  ports_bytes_fault-used x e p = rw (← is) (fault-later _ _ x (unless-kept (uses_ports ps) 17 e) p)
