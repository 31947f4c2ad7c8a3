-- `early_list::refuse_all` meets its contract. The invariant: the words that are left to write lead to the same buffer.
use Prim.Native.Nat.{◌*◌, ◌-◌}
use mathlib.Core.Path.{◌≡◌}
use lib.ListN.{length, drop, replicate}
use lib.Seq.{sets}
use Rattle.early.specs.declared.Answer.TheVariants.{Refused}
use Rattle.early_list.specs.Answers.{answers_words}
use Rattle.early_list.proofs.refuse_all.Given as goal

abbrev pub invariant-loop-i : goal.invariant-loop-i
invariant-loop-i l =
    (length l.answers ≡ length l.initial.answers) × (sets l.answers (5 * l.i) (answers_words (drop l.i l.calls) (replicate (length l.calls - l.i) (Refused l.number))) ≡ sets l.initial.answers 0 (answers_words l.calls (replicate (length l.calls) (Refused l.number))))
