-- What is written is read back as it was, so that each call of a caller in C or Rust gets "the state and thread records that the last one left".
use Prim.Native.Nat.{ℕ, suc, ◌+◌, ◌*◌, ◌≤◌, ◌<◌, ◌%◌, ◌^◌}
use mathlib.Core.Path.{◌≡◌, refl, sym}
use mathlib.Core.Bool.{cond}
use mathlib.Core.List.{List, ◌++◌}
use native.Mathlib.Omega.{arith}
use native.Mathlib.Decide.{dec_lt}
use native.Mathlib.Nat.{add-zero, mod-eq_of_lt}
use mir.Val.{Val}
use denote.Laws.{Is}
use lib.Dec.{ltb}
use lib.ListN.{length, get_or, drop, get_or-append}
use borrow.Author.Tests.{lt-ltb, le-ltb}
use Rattle.clock.specs.Cycle.{cycle_at}
use Rattle.model.specs.declared.State.{State}
use Rattle.model.specs.declared.State.TheVariants.{Ended, Overrun, Ready, Waiting, Running}
use Rattle.model.specs.declared.Thread.{Thread}
use Rattle.model.specs.Record.{no_thread, cycle_of}
use Rattle.buffers.specs.Write.{placed_in}
use Rattle.buffers.proofs.WriteLaws.{placed_in-room}
use Rattle.early.specs.declared.Site.{Site}
use Rattle.early.specs.Log.{pair_of}
use Rattle.early.specs.contracts.Site as site
use Rattle.export_state.specs.Numbers.{pair_words, record_of, thread_words, log_words, record_words, pair_at, state_from, thread_from, variables_from, place_from, site_from, threads_from}
use Rattle.export_state.proofs.TurnLaws.{tabulate-same, in_turn-at}
use Rattle.export_state.proofs.IntoLaws.{pair_words-length, thread_words-length, log_words-length, record_words-length}
use Rattle.export_state.proofs.RangeLaws.{ThreadRange, SiteRange, site-range}

-- a place that was written
module _ (s : Site) (r : SiteRange s) (rest : List ℕ) where
  log-word : (i j : ℕ) → i < 128 → j < 3 → get_or (log_words s ++ rest) (3 * i + (j + 1)) 0 ≡ get_or (pair_words (get_or s.log i (pair_of 0 (cycle_at 0 0)))) j 0
  unfolding log_words
  log-word i j h k =
      let e : 3 * i + (j + 1) ≡ suc (3 * i + j) = omega arith in
      let size = r.places in
      rw e (in_turn-at pair_words 3 pair_words-length s.log rest (pair_of 0 (cycle_at 0 0)) i j (omega arith) k)

  pair_at-written : (i : ℕ) → i < 128 → pair_at (log_words s ++ rest) i ≡ get_or s.log i (pair_of 0 (cycle_at 0 0))
  unfolding pair_at
  pair_at-written i h =
      let x = r.pairs i h in
      rw (log-word i 0 h (omega arith), log-word i 1 h (omega arith), log-word i 2 h (omega arith), mod-eq_of_lt x.event, mod-eq_of_lt x.delta) refl

  count-written : get_or (log_words s ++ rest) 0 0 % 2 ^ 8 ≡ s.count
  unfolding log_words
  count-written = mod-eq_of_lt r.count

  count-first : get_or (log_words s ++ rest) 0 0 ≡ s.count
  unfolding log_words
  count-first = refl

  place_from-written : ((i : ℕ) → s.count ≤ i → get_or s.log i (pair_of 0 (cycle_at 0 0)) ≡ pair_of 0 (cycle_at 0 0)) → (i : ℕ) → i < 128 → place_from (log_words s ++ rest) i ≡ get_or s.log i (pair_of 0 (cycle_at 0 0))
  unfolding place_from
  place_from-written clear i h = go (dec_lt i s.count)
    where
      go : Dec (i < s.count) → cond (ltb i (get_or (log_words s ++ rest) 0 0)) (pair_at (log_words s ++ rest) i) (pair_of 0 (cycle_at 0 0)) ≡ get_or s.log i (pair_of 0 (cycle_at 0 0))
      go (yes l) = rw (count-first, lt-ltb i s.count l) (pair_at-written i h)
      go (no l) = rw (count-first, le-ltb i s.count (omega arith)) (sym (clear i (omega arith)))

-- a record that was written
thread_from-words :
    (s : ℕ) (y : State) → s < 2 ^ 8 → get_or (record_of s y) 2 0 < 2 ^ 8 → (cycle_of y).delta.0 < 2 ^ 32 → (a n e t d : ℕ) → a ≡ get_or (record_of s y) 0 0 → n ≡ get_or (record_of s y) 1 0 →
    e ≡ get_or (record_of s y) 2 0 → t ≡ get_or (record_of s y) 3 0 → d ≡ get_or (record_of s y) 4 0 →
    ◌≡◌ {A = Thread} (record { segment = a % 2 ^ 8; state = state_from n (e % 2 ^ 8) (cycle_at t (d % 2 ^ 32)) }) (record { segment = s; state = y })
unfolding state_from
thread_from-words s (Ended c) h k l a n e t d p q o u v = rw (p, q, u, v, mod-eq_of_lt h, mod-eq_of_lt l) refl
thread_from-words s (Overrun c) h k l a n e t d p q o u v = rw (p, q, u, v, mod-eq_of_lt h, mod-eq_of_lt l) refl
thread_from-words s (Ready c) h k l a n e t d p q o u v = rw (p, q, u, v, mod-eq_of_lt h, mod-eq_of_lt l) refl
thread_from-words s (Waiting w c) h k l a n e t d p q o u v = rw (p, q, o, u, v, mod-eq_of_lt h, mod-eq_of_lt k, mod-eq_of_lt l) refl
thread_from-words s (Running c) h k l a n e t d p q o u v = rw (p, q, u, v, mod-eq_of_lt h, mod-eq_of_lt l) refl

module _ (ts : List Thread) (r : (k : ℕ) → k < length ts → ThreadRange (get_or ts k no_thread)) (rest : List ℕ) where
  record-word : (k j : ℕ) → k < length ts → j < 5 → get_or (record_words ts ++ rest) (5 * k + j) 0 ≡ get_or (thread_words (get_or ts k no_thread)) j 0
  record-word k j h l = in_turn-at thread_words 5 thread_words-length ts rest no_thread k j h l

  thread_from-written : (k : ℕ) → k < length ts → thread_from (record_words ts ++ rest) k ≡ get_or ts k no_thread
  unfolding thread_from
  thread_from-written k h =
      let y : Thread = get_or ts k no_thread in
      let g = r k h in
      let z : get_or (record_words ts ++ rest) (5 * k) 0 ≡ get_or (thread_words (get_or ts k no_thread)) 0 0 = rw (add-zero (5 * k)) at (record-word k 0 h (omega arith)) in
      thread_from-words y.segment y.state g.segment g.event g.delta _ _ _ _ _ z (record-word k 1 h (omega arith)) (record-word k 2 h (omega arith)) (record-word k 3 h (omega arith)) (record-word k 4 h (omega arith))

-- what is written is read back as it was: a state whose places past the log's count are 0, as a grant and the fresh state leave them
pub site-read :
    (s : Site) (vals : List Val) → Is site.the_row s vals → ((i : ℕ) → s.count ≤ i → get_or s.log i (pair_of 0 (cycle_at 0 0)) ≡ pair_of 0 (cycle_at 0 0)) →
    (vs log : List ℕ) → 64 ≤ length vs → 385 ≤ length log → site_from (placed_in s.variables.at vs) (placed_in (log_words s) log) ≡ s
unfolding site_from variables_from
site-read s vals g clear vs log h k =
    let r = site-range s vals g in
    let n = r.variables in
    let size = log_words-length s r.places in
    let rest : List ℕ = drop (length (log_words s)) log in
    let v = tabulate-same 0 s.variables.at 64 (λ i. get_or (s.variables.at ++ drop (length s.variables.at) vs) i 0) n (λ i l. get_or-append s.variables.at (drop (length s.variables.at) vs) 0 i (omega arith)) in
    let w = tabulate-same (pair_of 0 (cycle_at 0 0)) s.log 128 (place_from (log_words s ++ rest)) r.places (place_from-written s r rest clear) in
    rw (placed_in-room s.variables.at vs (omega arith), placed_in-room (log_words s) log (omega arith), v, w, count-written s r rest) refl

-- and the records of all threads
pub threads-read :
    (ts : List Thread) → ((k : ℕ) → k < length ts → ThreadRange (get_or ts k no_thread)) → (rs : List ℕ) → 5 * length ts ≤ length rs →
    threads_from (placed_in (record_words ts) rs) (length ts) ≡ ts
unfolding threads_from
threads-read ts r rs h =
    let size = record_words-length ts in
    let w = tabulate-same no_thread ts (length ts) (thread_from (record_words ts ++ drop (length (record_words ts)) rs)) refl (thread_from-written ts r (drop (length (record_words ts)) rs)) in
    rw (placed_in-room (record_words ts) rs (omega arith)) w
