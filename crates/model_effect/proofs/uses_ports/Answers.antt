-- `model_effect::uses_ports` meets its contract: some port is not 255, or all are.
use Rattle.std.proofs.Common.{◌≡◌, ℕ, ◌<◌, ◌≢◌, Bool, true, false, List, length, MatchBool, rules, arith}
use borrow.Author.Tests.{tests}
use Rattle.std.specs.List.{HoldsAt, AllWithin}
use Rattle.std.proofs.lemmas.Iterator.{cases_from_any, YieldsList-from_slice}
use Rattle.model.specs.Port.{uses_ports}
use Rattle.model_effect.proofs.PortLaws.{port_used-some, port_used-none, uses_ports-here, uses_ports-end}
use Rattle.model_effect.proofs.uses_ports.Goals as goal

by_cases : (r : Bool) (ps : List ℕ) → length ps ≡ 8 →
    MatchBool r ((k : ℕ) × (k < length ps) × HoldsAt (λ p. p ≢ 255) ps k) (AllWithin (λ p. p ≡ 255) ps 0 (length ps)) → r ≡ uses_ports ps
by_cases true ps e (k, l, h) = uses_ports-here ps k (omega arith) (port_used-some ps k (h 0))
by_cases false ps e h = uses_ports-end ps 8 (omega arith) (λ i l. port_used-none ps i (h i 0 (omega arith) (omega arith)))

pub returns : goal.returns
returns c =
    let ps = c.args.ports in
    by_cases _ ps c.well_formed.0.1.0.1
    (cases_from_any _ _ _ (λ p. p ≢ 255) (λ p. p ≡ 255) c.any.ensures.ran (YieldsList-from_slice ps cc) (λ x q k. search (rules, tests)) (λ x q k. search (rules, tests)))
