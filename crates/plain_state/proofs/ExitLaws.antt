-- The definitions of `Words` and `Turn`, one law for each way out of the code that computes them.
use Prim.Native.Nat.{ℕ, ◌+◌, ◌-◌, ◌*◌, ◌/◌, ◌%◌, ◌<◌, ◌≤◌}
use mathlib.Core.Path.{◌≡◌, refl, ap, sym, ◌∙◌}
use mathlib.Core.Logic.{◌⊎◌, inl, inr}
use mathlib.Core.Bool.{Bool, true, false, cond, not, ◌&&◌}
use mathlib.Core.List.{List}
use native.Mathlib.Numerals.{add-one}
use native.Mathlib.Omega.{arith}
use native.Mathlib.Decide.{dec_lt}
use lib.Dec.{T, ltb, leb, eqb}
use lib.ListN.{get_or, set}
use borrow.Author.Tests.{lt-ltb, le-ltb, le-leb, lt-leb, eq-eqb, ne_eqb}
use Rattle.base.proofs.BoolLaws.{T-case, T→true, T→false}
use Rattle.clock.specs.declared.Delay.{Delay}
use Rattle.clock.specs.declared.Step.{Step}
use Rattle.clock.specs.declared.Wait.TheVariants as wait
use Rattle.clock.specs.Cycle.{is_before}
use Rattle.clock.specs.Wait.{wait_ends}
use Rattle.clock.specs.Order.{Before, ◌⊑◌, sooner, same_time}
use Rattle.clock.proofs.CycleLaws.{is_before→Before, not-is_before→⊑}
use Rattle.clock.proofs.PassageLaws.{passage-event, passage-none, passage-units}
use Rattle.clock.proofs.WaitLaws.{NextDelta, delta-notification, next_delta-same, zero-wait, timed-wait}
use Rattle.model.specs.declared.State.TheVariants.{Ended, Overrun, Ready, Waiting}
use Rattle.model.specs.Record.{nothing, awaits, awaited_by, state_after}
use Rattle.plain_words.specs.Unpack.{end_by, follow_by}
use Rattle.plain_words.specs.Shared.{Shared, shared, execute_by}
use Rattle.plain_state.specs.Words.{waiting, ended, overrun, span, key_of, cycle_from, word_of, state_from, next_word, ended_by, close_word, is_told, wake_word}
use Rattle.plain_state.specs.Turn.{Locals, locals, waited_by, ran_by, turn_on, turns_to}

-- a cycle as a number, and back
pub key_of-from : (k : ℕ) → key_of (cycle_from k) ≡ k
key_of-from k = omega arith

-- A word is stepped by the cases of the clock: a delta notification, a zero wait, a timed wait.
module _ (k : ℕ) where
  notified : NextDelta (cycle_from k) (wait_ends wait.Event (cycle_from k))
  notified = delta-notification wait.Event passage-event (cycle_from k)

  pub next_word-ready : k % 1024 < 1023 → k + 1 ≡ next_word k
  unfolding next_word
  next_word-ready h = rw (notified.ready h) (omega arith)

  pub next_word-overrun : 1023 ≤ k % 1024 → overrun + k ≡ next_word k
  unfolding next_word
  next_word-overrun h = rw (notified.overrun h) (omega arith)

  module _ (e : ℕ) where
    delay : Delay
    delay = record { 0 = e / 1024 % 4294967296 }

    pub close_word-over : e % 4 ≡ 0 → ended + k ≡ close_word e k
    unfolding close_word ended_by
    close_word-over h = rw (eq-eqb (e % 4) 0 h) (omega arith)

    pub close_word-event : (e % 4 ≡ 0 → ⊥) → e % 4 ≡ 2 → waiting + span * (e / 1024 % 32) + k ≡ close_word e k
    unfolding close_word ended_by
    close_word-event n h = rw (ne_eqb (e % 4) 0 n, eq-eqb (e % 4) 2 h) (omega arith)

    pub close_word-zero-wait : (e % 4 ≡ 0 → ⊥) → (e % 4 ≡ 2 → ⊥) → e / 1024 % 4294967296 ≡ 0 → next_word k ≡ close_word e k
    unfolding close_word ended_by next_word delay
    close_word-zero-wait n o h = rw (ne_eqb (e % 4) 0 n, ne_eqb (e % 4) 2 o) (ap (λ (s : Step). word_of (state_after s)) same)
      where
        waited : NextDelta (cycle_from k) (wait_ends (wait.Time delay) (cycle_from k))
        waited = zero-wait (wait.Time delay) (passage-none delay h) (cycle_from k)

        same : wait_ends wait.Event (cycle_from k) ≡ wait_ends (wait.Time delay) (cycle_from k)
        same = next_delta-same notified waited

    pub close_word-timed-wait : (e % 4 ≡ 0 → ⊥) → (e % 4 ≡ 2 → ⊥) → (e / 1024 % 4294967296 ≡ 0 → ⊥) → 1024 * (k / 1024 + e / 1024 % 4294967296) ≡ close_word e k
    unfolding close_word ended_by delay
    close_word-timed-wait n o h =
        rw
        (ne_eqb (e % 4) 0 n, ne_eqb (e % 4) 2 o, (timed-wait (wait.Time delay) delay (passage-units delay (omega arith)) (cycle_from k)).ready)
        (omega arith)

module _ (w : ℕ) where
  pub state_from-ready : w < waiting → Ready (cycle_from (w % span)) ≡ state_from w
  unfolding state_from
  state_from-ready h = rw (lt-ltb w waiting h) refl

  module _ (h : waiting ≤ w) where
    pub state_from-waiting : w < ended → Waiting ((w - waiting) / span % 32) (cycle_from (w % span)) ≡ state_from w
    unfolding state_from
    state_from-waiting l = rw (le-ltb w waiting h, lt-ltb w ended l) refl

    pub state_from-ended : ended ≤ w → w < overrun → Ended (cycle_from (w % span)) ≡ state_from w
    unfolding state_from
    state_from-ended l o = rw (le-ltb w waiting h, le-ltb w ended l, lt-ltb w overrun o) refl

    pub state_from-overrun : ended ≤ w → overrun ≤ w → Overrun (cycle_from (w % span)) ≡ state_from w
    unfolding state_from
    state_from-overrun l o = rw (le-ltb w waiting h, le-ltb w ended l, le-ltb w overrun o) refl

  -- what a word's thread waits for
  pub awaited-ready : w < waiting → awaited_by (state_from w) ≡ nothing
  awaited-ready h = rw (← state_from-ready h) refl

  pub awaited-over : ended ≤ w → awaited_by (state_from w) ≡ nothing
  awaited-over l = go (dec_lt w overrun)
    where
      go : Dec (w < overrun) → awaited_by (state_from w) ≡ nothing
      go (yes o) = rw (← state_from-ended (omega arith) l o) refl
      go (no o) = rw (← state_from-overrun (omega arith) l (omega arith)) refl

  pub awaited-waiting : waiting ≤ w → w < ended → awaited_by (state_from w) ≡ awaits ((w - waiting) / span % 32) (cycle_from (w % span))
  awaited-waiting h l = rw (← state_from-waiting h l) refl

-- a number is before another exactly where its cycle is
pub from-before : (k j : ℕ) → is_before (cycle_from k) (cycle_from j) ≡ ltb k j
from-before k j = go (T-case (is_before (cycle_from k) (cycle_from j)))
  where
    earlier : Before (cycle_from k) (cycle_from j) → k < j
    earlier (sooner b) = omega arith
    earlier (same_time b l) = omega arith

    later : cycle_from j ⊑ cycle_from k → j ≤ k
    later (sooner b) = omega arith
    later (same_time b l) = omega arith

    go : T (is_before (cycle_from k) (cycle_from j)) ⊎ T (not (is_before (cycle_from k) (cycle_from j))) → is_before (cycle_from k) (cycle_from j) ≡ ltb k j
    go (inl t) = rw (T→true (is_before (cycle_from k) (cycle_from j)) t) (sym (lt-ltb k j (earlier (is_before→Before (cycle_from k) (cycle_from j) t))))
    go (inr t) = rw (T→false (is_before (cycle_from k) (cycle_from j)) t) (sym (le-ltb k j (later (not-is_before→⊑ (cycle_from k) (cycle_from j) t))))

module _ (fs : List Bool) (k w : ℕ) where
  wake_word-nothing : awaited_by (state_from w) ≡ nothing → w ≡ wake_word fs k w
  unfolding wake_word is_told
  wake_word-nothing e = rw e refl

  pub wake_word-ready : w < waiting → w ≡ wake_word fs k w
  wake_word-ready h = wake_word-nothing (awaited-ready w h)

  pub wake_word-over : ended ≤ w → w ≡ wake_word fs k w
  wake_word-over l = wake_word-nothing (awaited-over w l)

  module _ (h : waiting ≤ w) (l : w < ended) where
    same_key : (w - waiting) % span ≡ w % span
    same_key = omega arith

    pub wake_word-unmarked : get_or fs ((w - waiting) / span % 32) false ≡ false → w ≡ wake_word fs k w
    unfolding wake_word is_told
    wake_word-unmarked e = rw (awaited-waiting w h l, e) refl

    pub wake_word-later : get_or fs ((w - waiting) / span % 32) false ≡ true → k < (w - waiting) % span → w ≡ wake_word fs k w
    unfolding wake_word is_told
    wake_word-later e p = let s = same_key in rw (awaited-waiting w h l, e, from-before k (w % span), lt-ltb k (w % span) (omega arith)) refl

    pub wake_word-wakes : get_or fs ((w - waiting) / span % 32) false ≡ true → (w - waiting) % span ≤ k → next_word k ≡ wake_word fs k w
    unfolding wake_word is_told
    wake_word-wakes e p = let s = same_key in rw (awaited-waiting w h l, e, from-before k (w % span), le-ltb k (w % span) (omega arith)) refl

-- a thread that is looked at
module _ (words : ℕ → List ℕ) (now budget k : ℕ) where
  module _ (x : Locals) where
    pub turn_on-passed : (get_or x.state k 0 ≡ now → ⊥) → x ≡ turn_on words now budget k x
    unfolding turn_on
    turn_on-passed h = rw (ne_eqb (get_or x.state k 0) now h) refl

    pub turn_on-full : budget ≤ x.n → x ≡ turn_on words now budget k x
    unfolding turn_on
    turn_on-full h = go (eqb (get_or x.state k 0) now)
      where
        go : (b : Bool) → x ≡ cond (b && ltb x.n budget) (ran_by words now k x) x
        go true = rw (le-ltb x.n budget h) refl
        go false = refl

    pub turn_on-ran : get_or x.state k 0 ≡ now → x.n < budget → ran_by words now k x ≡ turn_on words now budget k x
    unfolding turn_on
    turn_on-ran h l = rw (eq-eqb (get_or x.state k 0) now h, lt-ltb x.n budget l) refl

  pub turns_to-next : (x y z : Locals) → y ≡ turns_to words now budget k x → z ≡ turn_on words now budget k y → z ≡ turns_to words now budget (k + 1) x
  unfolding turns_to
  turns_to-next x y z e f = rw (add-one, ← e) f

-- for the code: the arrays of a thread that ran
pub ran-as : (words : ℕ → List ℕ) (now k : ℕ) (x : Locals) (v : List ℕ) (fs : List Bool) (rs qs : List ℕ) (e w f : ℕ) → let s = get_or x.segments k 0 in
    shared v fs rs ≡ execute_by (words k) s x.shared → e ≡ end_by (words k) s → qs ≡ waited_by e k rs → w ≡ close_word e now → f ≡ follow_by (words k) s v →
    locals v (set x.state k w) (set x.segments k f) fs qs (x.n + 1) ≡ ran_by words now k x
ran-as words now k x v fs rs qs e w f p r b t u =
    let code = words k in
    let s = get_or x.segments k 0 in
    let t' : w ≡ close_word (end_by code s) now = t ∙ ap (λ (z : ℕ). close_word z now) r in
    let u' : f ≡ follow_by code s (execute_by code s x.shared).variables = u ∙ ap (λ (y : Shared). follow_by code s y.variables) p in
    let b' : qs ≡ waited_by (end_by code s) k (execute_by code s x.shared).ranges = b ∙ (ap (λ (z : ℕ). waited_by z k rs) r ∙ ap (λ (y : Shared). waited_by (end_by code s) k y.ranges) p) in
    λ i. locals (p i).variables (set x.state k (t' i)) (set x.segments k (u' i)) (p i).told (b' i) (x.n + 1)

pub is_out-room : (b n l k : ℕ) → n < b → false ≡ leb b n && leb l k
is_out-room b n l k h = rw (lt-leb b n h) refl

pub is_out-least : (b n l k : ℕ) → b ≤ n → leb l k ≡ leb b n && leb l k
is_out-least b n l k h = rw (le-leb b n h) refl
