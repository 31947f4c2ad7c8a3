-- Laws of `transcript_of`: of an unfit list, and of any other.
-- Assumes nothing.
use Prim.Native.Nat.{ℕ, ◌+◌, ◌*◌, ◌≤◌, ◌<◌}
use mathlib.Core.Path.{◌≡◌, refl}
use mathlib.Core.List.{List, ◌++◌}
use native.Mathlib.Omega.{arith}
use lib.ListN.{length, take}
use borrow.Author.Tests.{lt-ltb, le-ltb}
use Rattle.model.specs.declared.Thread.{Thread}
use Rattle.buffers.specs.Put.{Puts}
use Rattle.buffers.specs.Write.{Writes}
use Rattle.buffers.proofs.WriteLaws.{writes-same, writes-uncut}
use Rattle.sheet.specs.Sheet.{refused_line, longest_sheet}
use Rattle.early.specs.declared.Site.{Site}
use Rattle.transcript.specs.Transcript.{most_requests, is_unfit_list, call_lines, closing_of, transcript_of, longest_transcript}

module _ (labels ws : List ℕ) (v t : ℕ) (site : Site) (ts : List Thread) where
  pub transcript-long : most_requests < length labels → refused_line 11 ≡ transcript_of labels ws v t site ts
  unfolding transcript_of is_unfit_list
  transcript-long h = rw (lt-ltb most_requests (length labels) h) refl

  pub transcript-short : length labels ≤ most_requests → length ws < 5 * length labels → refused_line 11 ≡ transcript_of labels ws v t site ts
  unfolding transcript_of is_unfit_list
  transcript-short g h = rw (le-ltb most_requests (length labels) g, lt-ltb (length ws) (5 * length labels) h) refl

  pub transcript-whole : length labels ≤ most_requests → 5 * length labels ≤ length ws → call_lines (length labels) labels ws ++ closing_of v t site ts ≡ transcript_of labels ws v t site ts
  unfolding transcript_of is_unfit_list
  transcript-whole g h = rw (le-ltb most_requests (length labels) g, le-ltb (length ws) (5 * length labels) h) refl

-- a line of the sheet that is the whole text
pub held-line :
    {text whole before after : List ℕ} {r : ℕ} → text ≡ whole → Writes before after r text × (length text ≤ longest_sheet) →
    Writes before after r whole × (length whole ≤ longest_transcript)
held-line e p = (writes-same e p.0, rw (← e) (omega (arith, p.1)))

-- a text that its array does not cut is the whole text
pub held-text :
    {made full text whole before after : List ℕ} {n r : ℕ} →
    Puts made 0 full n text → n < length made → n ≤ longest_transcript → text ≡ whole → Writes before after r (take n full) →
    Writes before after r whole × (length whole ≤ longest_transcript)
held-text p h g e q = let w = writes-uncut p h q in (writes-same e w.0, rw (← e) (omega (arith, w.1)))

-- the lines of the calls, then 14,720 bytes
pub whole-fits : {a n : ℕ} (labels : List ℕ) → length labels ≤ most_requests → a ≤ 95 * length labels → n ≤ a + 14720 → n ≤ longest_transcript
whole-fits labels h f g = omega arith
