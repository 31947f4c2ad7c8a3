-- `early_reach::fill_reach` meets its contract: a short buffer, the places made never, the notes of all segments, the rows.
use mathlib.Core.Path.{◌≡◌}
use lib.ListN.{length}
use Rattle.early_reach.proofs.NoteLaws.{AllNotes}
use Rattle.early_reach.proofs.fill_reach.Given as goal

abbrev pub invariant-loop-s : goal.invariant-loop-s
invariant-loop-s l = (length l.notes ≡ 2048) × AllNotes l.fn.m l.s l.k l.notes
