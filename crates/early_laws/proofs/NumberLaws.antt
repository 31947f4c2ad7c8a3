-- The number that decides a request: 0 says that everything stands for it, 11 it never is, and it hangs on what is asked of a thread below T.
--     Passed, Decided, number_for-decided     the numbers, by case
--     number_for→passed, passed→number_for     0, and what stands then
--     Clear, clear→number_for, number_for→clear     0 or 15, and what stands then
--     ready_cycle→cycle     the cycle of a ready thread's record
--     is_full_by-none     with places left, no more than 128 are counted
--     SameAsked, number_for-same     the same is asked, and so the number is the same
use Prim.Native.Nat.{ℕ, ◌<◌, ◌≤◌}
use mathlib.Core.Path.{◌≡◌, refl, ap}
use mathlib.Core.Logic.{◌⊎◌, inl, inr}
use mathlib.Core.Bool.{Bool, true, false, cond, not, ◌&&◌, ◌||◌}
use mathlib.Core.List.{List}
use native.Mathlib.Omega.{arith}
use native.Mathlib.Decide.{dec_lt}
use lib.Dec.{ltb, ltb→lt, nltb→le}
use borrow.Author.Tests.{lt-ltb, le-ltb}
use Rattle.base.proofs.BoolLaws.{cond-case, T→true, T→false, false→T, not-not, not-or→both}
use Rattle.clock.specs.declared.Cycle.{Cycle}
use Rattle.clock.specs.declared.Bound.{Bound}
use Rattle.clock.specs.declared.Bound.TheVariants.{Never, At}
use Rattle.clock.specs.Advance.{is_bound_before}
use Rattle.model.specs.declared.State.{State}
use Rattle.model.specs.declared.Thread.{Thread}
use Rattle.model.specs.Refusal.{accepted, wrong_thread, unfit, out_of_turn, not_ready, past_horizon, hazard_stands, log_full}
use Rattle.model.specs.Limits.{is_before_time}
use Rattle.model.specs.Record.{thread_at, ready_cycle, cycle_of, is_running, view_of}
use Rattle.plain_laws.proofs.RecordLaws.{ready_cycle→ready, ready-cycle}
use Rattle.early.specs.declared.Notification.{Notification}
use Rattle.early.specs.Log.{places, places_with}
use Rattle.early.specs.Request.{early_places, is_full_by, number_ready, number_at, number_for}

-- a ready thread is granted at the cycle of its record
pub ready_cycle→cycle : (s : State) (c : Cycle) → ready_cycle s ≡ At c → cycle_of s ≡ c
ready_cycle→cycle s c e = ready-cycle s c (ready_cycle→ready (view_of s) c e)

pub is_full_by-none : (floor : Bound) (n : ℕ) (c : Cycle) → is_full_by floor n c ≡ false → n ≤ places
is_full_by-none floor n c e =
    let early = is_bound_before floor (At c) && ltb early_places n in
    nltb→le places n (not-or→both early (ltb places n) (false→T (early || ltb places n) e)).1

-- granted, or refused with 15 alone
abbrev pub ZeroOrFull : ℕ → Type 0
ZeroOrFull n = (n ≡ accepted) ⊎ (n ≡ log_full)

module _ (t end : ℕ) (is_hazard : Cycle → Bool) (floor : Bound) (es : List ℕ) (l : List Notification) (ts : List Thread) (k : ℕ) where
  -- what stands where it is 0
  pub record Passed (c : Cycle) : Type 0 where
    pub thread : k < t
    pub unbegun : is_running (thread_at ts k).state ≡ false
    pub ready : ready_cycle (thread_at ts k).state ≡ At c
    pub in-time : is_before_time end c ≡ true
    pub no_hazard : is_hazard c ≡ false
    pub room : is_full_by floor (places_with l c es) c ≡ false

  pub data Decided : ℕ → Type 0 where
    refuses : (n : ℕ) → (n ≡ accepted → ⊥) → (n ≡ unfit → ⊥) → Decided n
    passes : (c : Cycle) → Passed c → Decided accepted

  pub number_for-decided : Decided (number_for t end is_hazard floor es l ts k)
  unfolding number_for number_at number_ready
  number_for-decided =
      cond-case
      Decided
      (not (ltb k t))
      (λ u. refuses wrong_thread (λ e. omega arith) (λ e. omega arith))
      (λ u.
      cond-case
      Decided
      (is_running (thread_at ts k).state)
      (λ r. refuses out_of_turn (λ e. omega arith) (λ e. omega arith))
      (λ r. at (ltb→lt k t (not-not (ltb k t) u)) (T→false (is_running (thread_at ts k).state) r) (ready_cycle (thread_at ts k).state) refl))
    where
      at : k < t → is_running (thread_at ts k).state ≡ false → (b : Bound) → ready_cycle (thread_at ts k).state ≡ b → Decided (number_at end is_hazard floor es l b)
      at h n Never e = refuses not_ready (λ e. omega arith) (λ e. omega arith)
      at h n (At c) e =
          let full = is_full_by floor (places_with l c es) c in
          cond-case
          Decided
          (not (is_before_time end c))
          (λ a. refuses past_horizon (λ e. omega arith) (λ e. omega arith))
          (λ a.
          cond-case
          Decided
          (is_hazard c)
          (λ b. refuses hazard_stands (λ e. omega arith) (λ e. omega arith))
          (λ b.
          cond-case
          Decided
          full
          (λ d. refuses log_full (λ e. omega arith) (λ e. omega arith))
          (λ d.
          passes
          c
          (record {
            thread = h;
            unbegun = n;
            ready = e;
            in-time = T→true (is_before_time end c) (not-not (is_before_time end c) a);
            no_hazard = T→false (is_hazard c) b;
            room = T→false full d;
          }))))

  pub number_for→passed : number_for t end is_hazard floor es l ts k ≡ accepted → (c : Cycle) × Passed c
  number_for→passed = go number_for-decided
    where
      go : {n : ℕ} → Decided n → n ≡ accepted → (c : Cycle) × Passed c
      go (refuses n other u) e = absurd (other e)
      go (passes c p) e = (c, p)

  pub passed→number_for : (c : Cycle) → Passed c → number_for t end is_hazard floor es l ts k ≡ accepted
  unfolding number_for number_at number_ready
  passed→number_for c p = rw (lt-ltb k t p.thread, p.unbegun, p.ready, p.in-time, p.no_hazard, p.room) refl

  -- what stands where it is 0 or 15: the thread is ready before the end time, and no hazard stands
  pub record Clear (c : Cycle) : Type 0 where
    pub thread : k < t
    pub unbegun : is_running (thread_at ts k).state ≡ false
    pub ready : ready_cycle (thread_at ts k).state ≡ At c
    pub in-time : is_before_time end c ≡ true
    pub no_hazard : is_hazard c ≡ false

  pub clear→number_for : (c : Cycle) → Clear c → ZeroOrFull (number_for t end is_hazard floor es l ts k)
  unfolding number_for number_at number_ready
  clear→number_for c p =
      rw (lt-ltb k t p.thread, p.unbegun, p.ready, p.in-time, p.no_hazard)
      (cond-case ZeroOrFull (is_full_by floor (places_with l c es) c) (λ d. inr refl) (λ d. inl refl))

  pub number_for→clear : ZeroOrFull (number_for t end is_hazard floor es l ts k) → (c : Cycle) × Clear c
  unfolding number_for number_at number_ready
  number_for→clear =
      cond-case
      Found
      (not (ltb k t))
      (λ u e. absurd (other wrong_thread (omega arith) (λ p. omega arith) e))
      (λ u.
      cond-case
      Found
      (is_running (thread_at ts k).state)
      (λ r e. absurd (other out_of_turn (omega arith) (λ p. omega arith) e))
      (λ r. at (ltb→lt k t (not-not (ltb k t) u)) (T→false (is_running (thread_at ts k).state) r) (ready_cycle (thread_at ts k).state) refl))
    where
      Found : ℕ → Type 0
      Found n = ZeroOrFull n → (c : Cycle) × Clear c

      other : (n : ℕ) → 0 < n → (n ≡ log_full → ⊥) → ZeroOrFull n → ⊥
      other n p q (inl e) = omega arith
      other n p q (inr e) = q e

      at : k < t → is_running (thread_at ts k).state ≡ false → (b : Bound) → ready_cycle (thread_at ts k).state ≡ b → Found (number_at end is_hazard floor es l b)
      at h n Never e = λ f. absurd (other not_ready (omega arith) (λ p. omega arith) f)
      at h n (At c) e =
          cond-case
          Found
          (not (is_before_time end c))
          (λ a f. absurd (other past_horizon (omega arith) (λ p. omega arith) f))
          (λ a.
          cond-case
          Found
          (is_hazard c)
          (λ b f. absurd (other hazard_stands (omega arith) (λ p. omega arith) f))
          (λ b f. (
            c,
            record {
              thread = h;
              unbegun = n;
              ready = e;
              in-time = T→true (is_before_time end c) (not-not (is_before_time end c) a);
              no_hazard = T→false (is_hazard c) b;
            },
          )))

  -- the same number where, for a thread below T, the same is asked
  module _ (is_threat : Cycle → Bool) (bound : Bound) (fs : List ℕ) (us : List Thread) where
    pub record SameAsked : Type 0 where
      pub running : is_running (thread_at ts k).state ≡ is_running (thread_at us k).state
      pub ready : ready_cycle (thread_at ts k).state ≡ ready_cycle (thread_at us k).state
      pub hazards : (c : Cycle) → ready_cycle (thread_at ts k).state ≡ At c → is_before_time end c ≡ true → is_hazard c ≡ is_threat c
      pub floors : floor ≡ bound
      pub listed : es ≡ fs

    pub number_for-same : (k < t → SameAsked) → number_for t end is_hazard floor es l ts k ≡ number_for t end is_threat bound fs l us k
    unfolding number_for number_at number_ready
    number_for-same same = go (dec_lt k t)
      where
        timed : (c : Cycle) (b : Bool) → is_before_time end c ≡ b → (b ≡ true → is_hazard c ≡ is_threat c)
            → cond (not b) past_horizon (number_ready is_hazard floor es l c) ≡ cond (not b) past_horizon (number_ready is_threat floor es l c)
        timed c true e h = rw (h refl) refl
        timed c false e h = refl

        at : (b : Bound) → ((c : Cycle) → b ≡ At c → is_before_time end c ≡ true → is_hazard c ≡ is_threat c) → number_at end is_hazard floor es l b ≡ number_at end is_threat floor es l b
        at Never h = refl
        at (At c) h = timed c (is_before_time end c) refl (h c refl)

        go : Dec (k < t) → number_for t end is_hazard floor es l ts k ≡ number_for t end is_threat bound fs l us k
        go (yes h) = rw (← (same h).floors, ← (same h).listed, ← (same h).running, ← (same h).ready) (ap (λ (n : ℕ). cond (not (ltb k t)) wrong_thread (cond (is_running (thread_at ts k).state) out_of_turn n)) (at (ready_cycle (thread_at ts k).state) (same h).hazards))
        go (no h) = rw (le-ltb k t (omega arith)) refl
