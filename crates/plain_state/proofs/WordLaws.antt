-- Thread states as words: each is read back, compared, closed and woken as its state is.
--     InRange     a cycle below 2 ^ 44 with its delta in range, an event below 32
--     cycle_from-key, state_from-word     a cycle's number, and a state's word, is read back
--     word-ready, word-cycle, word_after     a word is a ready thread's cycle, or after every cycle
--     word-due, word-not-due     a word is the cycle's own exactly where its thread is due
--     close_word-mark     the mark of a segment that names a port is not seen
--     next_word-event, close_word-closed, wake_word-woken     the next delta; a segment closes; a thread wakes
use Prim.Native.Nat.{ℕ, ◌+◌, ◌-◌, ◌*◌, ◌/◌, ◌%◌, ◌<◌, ◌≤◌}
use mathlib.Core.Path.{◌≡◌, refl, ap, sym, ◌∙◌, subst}
use mathlib.Core.Logic.{◌⊎◌, inl, inr}
use mathlib.Core.Bool.{Bool, true, false, cond, not, ◌&&◌}
use mathlib.Core.List.{List}
use native.Mathlib.Nat.{mul-mod_right, mod-eq_of_lt}
use native.Mathlib.Omega.{arith}
use lib.Dec.{T}
use borrow.Author.Tests.{lt-ltb, le-ltb}
use Rattle.base.proofs.BoolLaws.{T→true, T→false, T-case}
use Rattle.clock.specs.declared.Cycle.{Cycle}
use Rattle.clock.specs.declared.Wait.TheVariants as wait
use Rattle.clock.specs.declared.Bound.{Bound}
use Rattle.clock.specs.declared.Bound.TheVariants.{Never, At}
use Rattle.clock.specs.Cycle.{is_before, is_same}
use Rattle.clock.specs.Wait.{wait_ends}
use Rattle.clock.proofs.CycleLaws.{≡→is_same, is_same→≡}
use Rattle.clock.proofs.OrderLaws.{cycle-path}
use Rattle.model.specs.declared.Closer.{Closer}
use Rattle.model.specs.declared.Closer.TheVariants.{End, Time, Event}
use Rattle.model.specs.declared.State.{State}
use Rattle.model.specs.declared.State.TheVariants.{Ended, Overrun, Ready, Waiting, Running}
use Rattle.model.specs.Record as view
use Rattle.model.specs.Record.{view_of, ready_cycle, Awaited, nothing, awaits, awaited_by, state_after}
use Rattle.model.specs.Effect.{closed_at}
use Rattle.plain_words.specs.Pack.{few, pack_end}
use Rattle.plain_words.specs.Ports.{marked_if}
use Rattle.plain_words.proofs.ExitLaws.{few-≤}
use Rattle.plain_words.proofs.MarkLaws.{Tells}
use Rattle.plain_words.proofs.CodeLaws.{end-kind, end-load, mark-kind, mark-delay, mark-event}
use Rattle.plain.specs.Wake.{is_woken, woken_state}
use Rattle.plain.specs.Step.{is_at}
use Rattle.plain_laws.proofs.RecordLaws.{ready_cycle→ready, ready-same}
use Rattle.plain_state.specs.Words.{waiting, ended, overrun, span, key_of, cycle_from, word_of, state_from, next_word, ended_by, close_word, is_told, wake_word}

-- the units that a closer waits for
abbrev pub units_of : Closer → ℕ
units_of End = 0
units_of (Time k x) = k.0
units_of (Event e x) = 0

-- a cycle that a word holds
pub record Small (c : Cycle) : Type 0 where
  pub key : key_of c < span
  pub delta : c.delta.0 ≤ 1023

abbrev pub InRange : State → Type 0
InRange (Ended c) = Small c
InRange (Overrun c) = Small c
InRange (Ready c) = Small c
InRange (Waiting e c) = (e < 32) × Small c
InRange (Running c) = ⊥

-- a ready state in range
pub range_small : (s : State) (c : Cycle) → InRange s → view_of s ≡ view.ready c → Small c
range_small (Ready d) c r e = subst Small (ready-same e) r
range_small (Running d) c r e = absurd r
range_small (Ended d) c r e = absurd (let z : ◌≡◌ {A = ℕ} 0 1 = cc in omega arith)
range_small (Overrun d) c r e = absurd (let z : ◌≡◌ {A = ℕ} 0 1 = cc in omega arith)
range_small (Waiting f d) c r e = absurd (let z : ◌≡◌ {A = ℕ} 0 1 = cc in omega arith)

-- the mark of a segment that names a port is not seen
pub close_word-mark : (b : Bool) (e now : ℕ) → close_word (marked_if b e) now ≡ close_word e now
unfolding close_word ended_by
close_word-mark b e now = rw (mark-kind e b, mark-event e b, mark-delay e b) refl

-- a cycle is read back
pub cycle_from-key : (c : Cycle) → c.delta.0 ≤ 1023 → cycle_from (key_of c) ≡ c
cycle_from-key c d = cycle-path (omega arith) (omega arith)

-- the cycle of a word, whatever stands above it
key-time : (c : Cycle) (w : ℕ) → Small c → w % span ≡ key_of c → cycle_from (w % span) ≡ c
key-time c w s e = rw e (cycle_from-key c s.delta)

pub state_from-word : (s : State) → InRange s → state_from (word_of s) ≡ s
unfolding state_from
state_from-word (Ready c) r =
    let k = r.key in
    let e : key_of c % span ≡ key_of c = omega arith in
    rw (lt-ltb (key_of c) waiting (omega arith)) (ap Ready (key-time c (key_of c) r e))
state_from-word (Ended c) r =
    let k = r.key in
    let e : (ended + key_of c) % span ≡ key_of c = omega arith in
    rw (le-ltb (ended + key_of c) waiting (omega arith), le-ltb (ended + key_of c) ended (omega arith), lt-ltb (ended + key_of c) overrun (omega arith))
    (ap Ended (key-time c (ended + key_of c) r e))
state_from-word (Overrun c) r =
    let k = r.key in
    let e : (overrun + key_of c) % span ≡ key_of c = omega arith in
    rw (le-ltb (overrun + key_of c) waiting (omega arith), le-ltb (overrun + key_of c) ended (omega arith), le-ltb (overrun + key_of c) overrun (omega arith))
    (ap Overrun (key-time c (overrun + key_of c) r e))
state_from-word (Waiting e c) (l, r) =
    let k = r.key in
    let f : (waiting + span * e + key_of c) % span ≡ key_of c = omega arith in
    let g : (waiting + span * e + key_of c - waiting) / span % 32 ≡ e = omega arith in
    rw (le-ltb (waiting + span * e + key_of c) waiting (omega arith), lt-ltb (waiting + span * e + key_of c) ended (omega arith), g)
    (ap (Waiting e) (key-time c (waiting + span * e + key_of c) r f))
state_from-word (Running c) r = absurd r

-- two states of one word
word_same : (s t : State) → InRange s → InRange t → word_of s ≡ word_of t → s ≡ t
word_same s t r q e = sym (state_from-word s r) ∙ (ap state_from e ∙ state_from-word t q)

-- a word below those that wait is a ready thread's
pub word-ready : (s : State) → InRange s → word_of s < waiting → (c : Cycle) × (s ≡ Ready c)
word-ready (Ready c) r h = (c, refl)
word-ready (Ended c) r h = absurd (omega arith)
word-ready (Overrun c) r h = absurd (omega arith)
word-ready (Waiting e c) r h = absurd (omega arith)
word-ready (Running c) r h = absurd r

-- a ready thread's word is its cycle
pub word-cycle : (s : State) (c : Cycle) → view_of s ≡ view.ready c → word_of s ≡ key_of c
word-cycle (Ready d) c e = ap key_of (ready-same e)
word-cycle (Running d) c e = ap key_of (ready-same e)
word-cycle (Ended d) c e = absurd (let z : ◌≡◌ {A = ℕ} 0 1 = cc in omega arith)
word-cycle (Overrun d) c e = absurd (let z : ◌≡◌ {A = ℕ} 0 1 = cc in omega arith)
word-cycle (Waiting f d) c e = absurd (let z : ◌≡◌ {A = ℕ} 0 1 = cc in omega arith)

-- all others are after every cycle
pub word_after : (c : Cycle) (s : State) → key_of c < span → ((d : Cycle) → view_of s ≡ view.ready d → key_of c < key_of d) → key_of c < word_of s
word_after c (Ready d) k h = h d refl
word_after c (Ended d) k h = omega arith
word_after c (Overrun d) k h = omega arith
word_after c (Waiting e d) k h = omega arith
word_after c (Running d) k h = h d refl

module _ (c : Cycle) (small : Small c) where
  pub word-due : (s : State) → InRange s → word_of s ≡ key_of c → is_at c (ready_cycle s) ≡ true
  unfolding is_at
  word-due s r e = rw (word_same s (Ready c) r small e) (T→true (is_same c c) (≡→is_same refl))

  pub word-not-due : (s : State) → (word_of s ≡ key_of c → ⊥) → is_at c (ready_cycle s) ≡ false
  unfolding is_at
  word-not-due s n = go (ready_cycle s) refl
    where
      go : (b : Bound) → ready_cycle s ≡ b → is_at c b ≡ false
      go Never e = refl
      go (At d) e = T-elim (T-case (is_same d c))
        where
          T-elim : T (is_same d c) ⊎ T (not (is_same d c)) → is_same d c ≡ false
          T-elim (inl t) = absurd (n (word-cycle s d (ready_cycle→ready (view_of s) d e) ∙ ap key_of (is_same→≡ d c t)))
          T-elim (inr t) = T→false (is_same d c) t

  here : cycle_from (key_of c) ≡ c
  here = cycle_from-key c small.delta

  pub next_word-event : next_word (key_of c) ≡ word_of (state_after (wait_ends wait.Event c))
  unfolding next_word
  next_word-event = ap (λ (d : Cycle). word_of (state_after (wait_ends wait.Event d))) here

  -- a segment of n statements closes
  module _ (n : ℕ) where
    size : few n < 256
    size = omega (arith, few-≤ n)

    ended_by-closed : (s : ℕ) (z : Closer) (v : List ℕ) → units_of z < 4294967296 → InRange (closed_at s z c v).state → ended_by (pack_end n z) c ≡ (closed_at s z c v).state
    unfolding ended_by closed_at
    ended_by-closed s End v u r = rw (mul-mod_right 4 (few n)) refl
    ended_by-closed s (Time k x) v u r =
        let units : (1 + 4 * few n + 1024 * k.0) / 1024 % 4294967296 ≡ k.0 = ap (λ (z : ℕ). z % 4294967296) (end-load 1 (few n) k.0 (omega arith) size) ∙ mod-eq_of_lt u in
        rw (end-kind 1 (few n) k.0 (omega arith), units) refl
    ended_by-closed s (Event e x) v u (l, r) =
        let small : e % 32 ≡ e = mod-eq_of_lt l in
        rw (end-kind 2 (few n) e (omega arith), end-load 2 (few n) e (omega arith) size, small) refl

    pub close_word-closed : (s : ℕ) (z : Closer) (v : List ℕ) → units_of z < 4294967296 → InRange (closed_at s z c v).state → close_word (pack_end n z) (key_of c) ≡ word_of (closed_at s z c v).state
    unfolding close_word
    close_word-closed s z v u r = rw here (ap word_of (ended_by-closed s z v u r))

  word_of-cond : (b : Bool) (x y : State) → cond b (word_of x) (word_of y) ≡ word_of (cond b x y)
  word_of-cond true x y = refl
  word_of-cond false x y = refl

  -- a thread at the end of the cycle
  is_told-woken : (fs : List Bool) (es : List ℕ) → Tells fs es → (x : Awaited) → is_told fs c x ≡ is_woken es c x
  unfolding is_told is_woken
  is_told-woken fs es t nothing = refl
  is_told-woken fs es t (awaits e d) = ap (λ (b : Bool). b && not (is_before c d)) (t e)

  pub wake_word-woken : (fs : List Bool) (es : List ℕ) → Tells fs es → (s : State) → InRange s → wake_word fs (key_of c) (word_of s) ≡ word_of (woken_state es c s)
  unfolding wake_word woken_state
  wake_word-woken fs es t s r =
      rw (here, state_from-word s r, is_told-woken fs es t (awaited_by s), next_word-event)
      (word_of-cond (is_woken es c (awaited_by s)) (state_after (wait_ends wait.Event c)) s)
