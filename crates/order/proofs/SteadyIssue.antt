-- The claims of `specs/Steady.antt`, for every accepted file: between two moments no bound falls and what may be issued stays so (`issue-steady`);
-- two lists that granted each thread equally often have left the same (`counts-decide`).
use Prim.Native.Nat.{ℕ}
use mathlib.Core.Path.{◌≡◌}
use mathlib.Core.List.{List}
use Rattle.base.proofs.BoolLaws.{true→T}
use Rattle.model.specs.declared.Model.{Model}
use Rattle.model.specs.Limits.{is_up_to_horizon}
use Rattle.model.specs.Rules.{model_fault}
use Rattle.reader.specs.File.{read_file}
use Rattle.reader_laws.proofs.Accepted.{accepted-kept}
use Rattle.tables.specs.Conflict.{marks_of}
use Rattle.order.specs.Claim.{TableBelow}
use Rattle.order.specs.Steady.{IssueSteady, CountsDecide}
use Rattle.order.proofs.KitLaws.{KitLaws}
use Rattle.order.proofs.PlainInstance.{plain-facts}
use Rattle.order.proofs.KitInstance.{marks_of-needed, kit-laws}
use Rattle.order.proofs.Theorem.{same-variables}
use Rattle.order.proofs.NeverFalls.{earliest-never-falls}
use Rattle.order.proofs.AskedAgain.{asked_again}
use Rattle.order.proofs.SameStates.{same-records, same-histories, same-logs}
use Rattle.order.proofs.OrderIndependent.{table-begins}

-- the reader's marks and words keep the laws
reader-laws : (m : Model) → model_fault m ≡ 0 → (ws : List ℕ) → TableBelow m ws → KitLaws m (marks_of m) ws
reader-laws m fit ws table = kit-laws m fit ws (table-begins m ws table) (marks_of m) (marks_of-needed m fit)

pub issue-steady : IssueSteady
issue-steady bytes e ws table ts fresh ks js =
    let m = (read_file bytes).model in
    let fit = accepted-kept bytes e in
    let pf = plain-facts m fit in
    let kl = reader-laws m fit ws table in
    record {
      earliest_kept = λ k x below early p. earliest-never-falls m pf kl fresh ks js k x below (true→T (is_up_to_horizon m x) early) p;
      asked_again = λ i still p. asked_again m pf kl fresh ks js i still p;
    }

pub counts-decide : CountsDecide
counts-decide bytes e vs ws first second rs ts old new ks js same =
    let m = (read_file bytes).model in
    let fit = accepted-kept bytes e in
    let pf = plain-facts m fit in
    let kl = reader-laws m fit vs first in
    let kl' = reader-laws m fit ws second in
    record {
      variables = same-variables m pf kl kl' old new ks js same;
      records = same-records m pf kl kl' old new ks js same;
      history = same-histories m pf kl kl' old new ks js same;
      logged = same-logs m pf kl kl' old new ks js same;
    }
