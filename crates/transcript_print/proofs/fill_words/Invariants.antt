-- `transcript_print::fill_words` meets its contract. The invariant: the words of the first i calls are there, and the rest is as it was.
use mathlib.Core.Path.{◌≡◌}
use mathlib.Core.List.{◌++◌}
use lib.ListN.{take, drop}
use Rattle.transcript_print.specs.Text.{call_words}
use Rattle.transcript_print.proofs.fill_words.Given as goal

abbrev pub invariant-loop-i : goal.invariant-loop-i
invariant-loop-i l = l.calls ≡ take l.i (call_words l.kinds l.labels) ++ drop l.i l.initial.calls
