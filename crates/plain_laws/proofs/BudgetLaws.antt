-- The answer of the plain run, for every budget. A run that is not spent is done; a larger budget changes nothing once it is done;
-- with a budget of last_step segments it is always done, and that is the plain run carried on until it is done.
--     Ended, ended     a run with a budget is done, or so many segments have run and the next is due
--     unspent→done, done→unspent, spent→out, n-budget     "spent", exactly
--     done_more, done-budget     larger budgets
--     plain_run-..     the same of the answer
use Prim.Native.Nat.{ℕ, ◌+◌, ◌<◌, ◌≤◌}
use mathlib.Core.Path.{◌≡◌, refl, ap, sym, ◌∙◌}
use mathlib.Core.Logic.{◌⊎◌, inl, inr}
use mathlib.Core.Bool.{Bool, true, false, not}
use native.Mathlib.Omega.{arith}
use native.Mathlib.Decide.{dec_lt}
use lib.Dec.{T, T_not}
use borrow.Author.Tests.{eq-eqb, ne_eqb}
use Rattle.base.proofs.BoolLaws.{T-case, T→true, T→false, true→T, false→T}
use Rattle.model.specs.declared.Model.{Model}
use Rattle.model.specs.Refusal.{accepted, unfit}
use Rattle.model.specs.Rules.{model_fault}
use Rattle.plain.specs.Start.{Place, start_of}
use Rattle.plain.specs.Wake.{some_ready}
use Rattle.plain.specs.Step.{place_at}
use Rattle.plain.specs.Run.{is_done, is_out, run_for, last_step, reported, no_run, plain_run}
use Rattle.plain_laws.proofs.RecordLaws.{<→horizon}
use Rattle.plain_laws.proofs.WakeLaws.{some_ready-found}
use Rattle.plain_laws.proofs.DoneLaws.{is_done-parts, place_at-stands, done-place}
use Rattle.plain_laws.proofs.RangeLaws.{Keeps, in-range}
use Rattle.plain_laws.proofs.EndLaws.{ends, done_at}
use Rattle.plain_laws.proofs.RunLaws.{is_out-parts, is_out-mono, GoesOn, Stopped, run_for-place, n_within, n-most}

true-not-false : {b : Bool} → b ≡ true → b ≡ false → ⊥
true-not-false {b} p q = T_not b (false→T b q) (true→T b p)

-- the place where a run with a budget stops
abbrev pub run_of : Model → ℕ → Place
run_of m budget = run_for m budget (last_step m) (start_of m)

pub record Ended (m : Model) (budget : ℕ) : Type 0 where
  pub place : ℕ
  pub within : place ≤ last_step m
  pub result : run_of m budget ≡ place_at m place
  pub goes_on : (q : ℕ) → q < place → GoesOn m budget (place_at m q)
  pub stops : (is_done m (place_at m place) ≡ true) ⊎ (is_out m budget (place_at m place) ≡ true)

module _ (m : Model) (kept : Keeps m) where
  pub ended : (budget : ℕ) → Ended m budget
  unfolding place_at
  ended budget = go (run_for-place m budget (last_step m) 0)
    where
      go : Stopped m budget (last_step m) 0 → Ended m budget
      go s = record { place = s.place; within = omega (arith, s.within); result = s.result; goes_on = λ q h. s.goes_on q (omega arith) h; stops = stop s.stops }
        where
          stop : (s.place ≡ 0 + last_step m) ⊎ ((is_done m (place_at m s.place) ≡ true) ⊎ (is_out m budget (place_at m s.place) ≡ true))
              → (is_done m (place_at m s.place) ≡ true) ⊎ (is_out m budget (place_at m s.place) ≡ true)
          stop (inl e) = inl (done_at m kept s.place (omega arith))
          stop (inr e) = e

  -- where the budget is out, some thread is ready up to the horizon
  out-ready : (budget i : ℕ) → is_out m budget (place_at m i) ≡ true → some_ready m (place_at m i).threads ≡ true
  out-ready budget i e =
      let o = is_out-parts m budget (place_at m i) e in
      some_ready-found m (place_at m i).threads (place_at m i).turn (place_at m i).now o.turn o.due (<→horizon m (place_at m i).now (in-range m kept i).now_time)

  -- "a run that is not spent is done"
  pub unspent→done : (budget : ℕ) → some_ready m (run_of m budget).threads ≡ false → is_done m (run_of m budget) ≡ true
  unspent→done budget e = go (ended budget)
    where
      go : Ended m budget → is_done m (run_of m budget) ≡ true
      go s = stop s.stops
        where
          stop : (is_done m (place_at m s.place) ≡ true) ⊎ (is_out m budget (place_at m s.place) ≡ true) → is_done m (run_of m budget) ≡ true
          stop (inl d) = ap (is_done m) s.result ∙ d
          stop (inr o) = absurd (true-not-false (out-ready budget s.place o) (ap (λ (p : Place). some_ready m p.threads) (sym s.result) ∙ e))

  pub done→unspent : (budget : ℕ) → is_done m (run_of m budget) ≡ true → some_ready m (run_of m budget).threads ≡ false
  done→unspent budget d = (is_done-parts m (run_of m budget) d).none_ready

  pub n-budget : (budget : ℕ) → (run_of m budget).n ≤ budget
  n-budget budget = go (ended budget)
    where
      go : Ended m budget → (run_of m budget).n ≤ budget
      go s = rw s.result (n_within m budget s.place s.goes_on)

  -- spent: so many have run, and the next segment is due up to the horizon
  pub spent→out : (budget : ℕ) → some_ready m (run_of m budget).threads ≡ true → ((run_of m budget).n ≡ budget) × (is_out m budget (run_of m budget) ≡ true)
  spent→out budget e = go (ended budget)
    where
      go : Ended m budget → ((run_of m budget).n ≡ budget) × (is_out m budget (run_of m budget) ≡ true)
      go s = stop s.stops
        where
          stop : (is_done m (place_at m s.place) ≡ true) ⊎ (is_out m budget (place_at m s.place) ≡ true) → ((run_of m budget).n ≡ budget) × (is_out m budget (run_of m budget) ≡ true)
          stop (inl d) = absurd (true-not-false e (done→unspent budget (ap (is_done m) s.result ∙ d)))
          stop (inr o) =
              let out : is_out m budget (run_of m budget) ≡ true = ap (is_out m budget) s.result ∙ o in
              (omega (arith, n-budget budget, (is_out-parts m budget (run_of m budget) out).spent), out)

  -- "a larger budget changes nothing once done"
  pub done_more : (a b : ℕ) → a ≤ b → is_done m (run_of m a) ≡ true → run_of m b ≡ run_of m a
  done_more a b h d = go (ended a) (ended b)
    where
      go : Ended m a → Ended m b → run_of m b ≡ run_of m a
      go s t = order (dec_lt t.place s.place)
        where
          early : t.place < s.place → (is_done m (place_at m t.place) ≡ true) ⊎ (is_out m b (place_at m t.place) ≡ true) → ⊥
          early l (inl e) = T_not (is_done m (place_at m t.place)) (s.goes_on t.place l).0 (true→T (is_done m (place_at m t.place)) e)
          early l (inr e) =
              let o = is_out-mono m a b (place_at m t.place) h e in
              T_not (is_out m a (place_at m t.place)) (s.goes_on t.place l).1 (true→T (is_out m a (place_at m t.place)) o)

          order : Dec (t.place < s.place) → run_of m b ≡ run_of m a
          order (yes l) = absurd (early l t.stops)
          order (no l) =
              let e : is_done m (place_at m s.place) ≡ true = ap (is_done m) (sym s.result) ∙ d in
              t.result ∙ place_at-stands m s.place e t.place (omega arith) ∙ sym s.result

  -- a budget of last_step segments is always enough
  pub done-budget : (budget : ℕ) → last_step m ≤ budget → is_done m (run_of m budget) ≡ true
  done-budget budget h = go (ended budget)
    where
      go : Ended m budget → is_done m (run_of m budget) ≡ true
      go s = ap (is_done m) s.result ∙ stop s.stops
        where
          stop : (is_done m (place_at m s.place) ≡ true) ⊎ (is_out m budget (place_at m s.place) ≡ true) → is_done m (place_at m s.place) ≡ true
          stop (inl d) = d
          stop (inr o) = done_at m kept s.place (omega (arith, (is_out-parts m budget (place_at m s.place) o).spent, n-most m s.place))

  -- and then it is the plain run carried on until it is done
  pub run-done : (budget i : ℕ) → is_done m (run_of m budget) ≡ true → is_done m (place_at m i) ≡ true → run_of m budget ≡ place_at m i
  run-done budget i d e = go (ended budget)
    where
      go : Ended m budget → run_of m budget ≡ place_at m i
      go s = s.result ∙ done-place m s.place i (ap (is_done m) (sym s.result) ∙ d) e

-- the answer
pub plain_run-refused : (m : Model) (budget : ℕ) → (model_fault m ≡ 0 → ⊥) → plain_run m budget ≡ no_run unfit
unfolding plain_run
plain_run-refused m budget other = rw (ne_eqb (model_fault m) accepted other) refl

module _ (m : Model) (fit : model_fault m ≡ 0) (kept : Keeps m) where
  pub plain_run-accepted : (budget : ℕ) → plain_run m budget ≡ reported m (run_of m budget)
  unfolding plain_run
  plain_run-accepted budget = rw (eq-eqb (model_fault m) accepted fit) refl

  plain_run-ready : (budget : ℕ) → (plain_run m budget).spent ≡ some_ready m (run_of m budget).threads
  unfolding reported
  plain_run-ready budget = rw (plain_run-accepted budget) refl

  plain_run-count : (budget : ℕ) → (plain_run m budget).n ≡ (run_of m budget).n
  unfolding reported
  plain_run-count budget = rw (plain_run-accepted budget) refl

  -- not spent: the answer is that of a done place
  pub plain_run-unspent : (budget i : ℕ) → (plain_run m budget).spent ≡ false → is_done m (place_at m i) ≡ true → plain_run m budget ≡ reported m (place_at m i)
  plain_run-unspent budget i e d =
      plain_run-accepted budget ∙ ap (reported m) (run-done m kept budget i (unspent→done m kept budget (sym (plain_run-ready budget) ∙ e)) d)

  -- spent: so many segments have run, and the run is not done
  pub plain_run-spent : (budget : ℕ) → (plain_run m budget).spent ≡ true → ((plain_run m budget).n ≡ budget) × (is_done m (run_of m budget) ≡ true → ⊥)
  plain_run-spent budget e =
      let r : some_ready m (run_of m budget).threads ≡ true = sym (plain_run-ready budget) ∙ e in
      (plain_run-count budget ∙ (spent→out m kept budget r).0, λ d. true-not-false r (done→unspent m kept budget d))

  -- and only then is it not
  pub plain_run-undone : (budget : ℕ) → (is_done m (run_of m budget) ≡ true → ⊥) → (plain_run m budget).spent ≡ true
  plain_run-undone budget other = plain_run-ready budget ∙ go (T-case (some_ready m (run_of m budget).threads))
    where
      go : T (some_ready m (run_of m budget).threads) ⊎ T (not (some_ready m (run_of m budget).threads)) → some_ready m (run_of m budget).threads ≡ true
      go (inl t) = T→true (some_ready m (run_of m budget).threads) t
      go (inr t) = absurd (other (unspent→done m kept budget (T→false (some_ready m (run_of m budget).threads) t)))

  pub plain_run-n : (budget : ℕ) → (plain_run m budget).n ≤ budget
  plain_run-n budget = omega (arith, plain_run-count budget, n-budget m kept budget)

  pub plain_run-more : (a b : ℕ) → a ≤ b → (plain_run m a).spent ≡ false → plain_run m b ≡ plain_run m a
  plain_run-more a b h e =
      plain_run-accepted b
      ∙ ap (reported m) (done_more m kept a b h (unspent→done m kept a (sym (plain_run-ready a) ∙ e)))
      ∙ sym (plain_run-accepted a)

  pub plain_run-done : (budget : ℕ) → last_step m ≤ budget → (plain_run m budget).spent ≡ false
  plain_run-done budget h = plain_run-ready budget ∙ done→unspent m kept budget (done-budget m kept budget h)

  -- the plain run carried on until it is done: at last_step
  pub plain_run-end : (budget : ℕ) → last_step m ≤ budget → plain_run m budget ≡ reported m (place_at m (last_step m))
  plain_run-end budget h = plain_run-unspent budget (last_step m) (plain_run-done budget h) (ends m kept)
