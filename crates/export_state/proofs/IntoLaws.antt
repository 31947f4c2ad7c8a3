-- The words of a log and of thread records: how many there are, and that the loops store them all.
use Prim.Native.Nat.{ℕ, ◌*◌, ◌≤◌}
use mathlib.Core.Path.{◌≡◌, refl, ◌∙◌}
use mathlib.Core.List.{List, ◌∷◌}
use native.Mathlib.Omega.{arith}
use lib.ListN.{length, set}
use lib.Seq.{sets}
use Rattle.model.specs.declared.State.{State}
use Rattle.model.specs.declared.State.TheVariants.{Ended, Overrun, Ready, Waiting, Running}
use Rattle.model.specs.declared.Thread.{Thread}
use Rattle.buffers.specs.Write.{placed_in}
use Rattle.buffers.proofs.WriteLaws.{placed_in-stored}
use Rattle.early.specs.declared.Notification.{Notification}
use Rattle.early.specs.declared.Site.{Site}
use Rattle.export_state.specs.Numbers.{pair_words, record_of, thread_words, in_turn, log_words, record_words}
use Rattle.export_state.proofs.TurnLaws.{in_turn-length}

record_of-length : (s : ℕ) (x : State) → length (record_of s x) ≡ 5
record_of-length s (Ended c) = refl
record_of-length s (Overrun c) = refl
record_of-length s (Ready c) = refl
record_of-length s (Waiting e c) = refl
record_of-length s (Running c) = refl

pub thread_words-length : (x : Thread) → length (thread_words x) ≡ 5
thread_words-length x = record_of-length x.segment x.state

pub pair_words-length : (x : Notification) → length (pair_words x) ≡ 3
pair_words-length x = refl

pub log_words-length : (s : Site) → length s.log ≡ 128 → length (log_words s) ≡ 385
unfolding log_words
log_words-length s h = omega (arith, in_turn-length pair_words 3 pair_words-length s.log)

pub record_words-length : (ts : List Thread) → length (record_words ts) ≡ 5 * length ts
record_words-length ts = in_turn-length thread_words 5 thread_words-length ts

-- the count, then each place
pub log-stored :
    (s : Site) (out end : List ℕ) (k : ℕ) → length s.log ≡ 128 → 385 ≤ length out → k ≡ s.count →
    end ≡ sets (set out 0 k) 1 (in_turn pair_words s.log) → end ≡ placed_in (log_words s) out
unfolding log_words
log-stored s out end k h room p e =
    (rw p at e) ∙ placed_in-stored (s.count ∷ in_turn pair_words s.log) out (omega (arith, log_words-length s h))
