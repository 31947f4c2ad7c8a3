-- Document 02, slip 7: what a call leaves, by case; what it reads and writes of what is lent; and "The combined request stays, as a grant and its
-- finish at once".
--     Fitting, Finishable, Asked, call_of-asked     the answers, by case
--     call_of-unfit, call_of-short, call_of-few, call_of-faulty     11: an unfit state, too few records, too few held, a model against the file rules
--     call_of-refused, call_of-fit     refused, all is as handed in; 11 is for those alone
--     call_of-fitting, call_of-both     the call where 11 does not apply; with enough held the combined call is the request
--     call_of-length, call_of-held-length, call_of-unwritten     all lists keep their lengths, and past T records nothing is written
--     AlikeCalls, call_of-unread     past T records and N × N words nothing is read
--     call_by_rows-unfit, call_by_rows-few, call_by_rows-fit, call_by_rows-enough, calls_by_rows-enough     by rows: 11, then 16, else as by the reader's words
--     call_by_rows-refused, call_by_rows-length, call_by_rows-held-length     so that these hold by rows
--     running-fit, middle-fit     a grant leaves a fit state fit
--     stored_over-own     an effect is stored whole over the variables that it was worked out on
--     both-refused, AtOnce, both_is     the combined call, and a grant with its finish
use Prim.Native.Nat.{ℕ, ◌+◌, ◌*◌, ◌<◌, ◌≤◌}
use mathlib.Core.Path.{◌≡◌, refl, ap, sym, ◌∙◌, subst}
use mathlib.Core.Logic.{◌⊎◌, inl, inr}
use mathlib.Core.Bool.{Bool, true, false, cond, not, ◌||◌}
use mathlib.Core.List.{List, [], ◌∷◌, ◌++◌}
use native.Mathlib.Omega.{arith}
use native.Mathlib.Decide.{dec_lt, ℕ_discrete}
use lib.Dec.{T, ltb, nltb→le}
use lib.ListN.{length, get_or, set, take, replicate, length-set}
use lib.Seq.{get_or-take, set-set}
use borrow.Author.Tests.{lt-ltb, le-ltb, eq-eqb, ne_eqb}
use Rattle.base.proofs.BoolLaws.{T-case, T-same, T→true, T→false, false→T, not-or→both}
use Rattle.base.proofs.IndexLaws.{tabulate-is}
use Rattle.clock.specs.declared.Cycle.{Cycle}
use Rattle.model.specs.declared.Model.{Model}
use Rattle.model.specs.declared.State.TheVariants.{Running}
use Rattle.model.specs.declared.Thread.{Thread}
use Rattle.model.specs.Refusal.{accepted, unfit, short_table, wrong_thread, out_of_turn}
use Rattle.model.specs.Record.{thread_at, cycle_of, is_running}
use Rattle.model.specs.Effect.{Effect, effect_of}
use Rattle.model.specs.Footprint.{has, writes_in, listed_in}
use Rattle.model.specs.Rules.{model_fault}
use Rattle.model_effect.proofs.FrameLaws.{effect_of-frame, effect_of-length}
use Rattle.tables.specs.Word.{bound_of, distance_in, words_of}
use Rattle.tables_laws.proofs.WordLaws.{place-below}
use Rattle.plain.specs.Wake.{floor_of}
use Rattle.plain_laws.proofs.RecordLaws.{thread_at-set, thread_at-other, ready-not-waits}
use Rattle.plain_laws.proofs.KeepLaws.{model_fault-keeps}
use Rattle.early.specs.declared.Notification.{Notification}
use Rattle.early.specs.declared.Site.{Site}
use Rattle.early.specs.declared.Answer.TheVariants.{Granted, Refused}
use Rattle.early.specs.declared.Call.{Call}
use Rattle.early.specs.declared.Call.TheVariants.{Both, Grant, Finish}
use Rattle.early.specs.Log.{pair_of, log_of, with_pairs, counted_log, counted_places}
use Rattle.early.specs.Deliver.{settled, settled_items}
use Rattle.early.specs.Fit.{is_unfit_state, is_unfit}
use Rattle.early.specs.Grant.{log_by, closed_by, effect_at, log_after, closed_threads, threads_after, items_after}
use Rattle.early.specs.Answer.{number_of}
use Rattle.early.specs.Request.{number_in, Requested, refused_with, granted_by, granted_to, answered_by, request_fit, request_of, answer_number}
use Rattle.early.specs.Call.{held_count, held_at, with_held, is_unfit_held, Called, called_with, called_by, running_from, stored_over, effect_held, finished_from, finish_number, call_fit, call_of, call_by_rows, served_by, calls_of, calls_by_rows}
use Rattle.early_laws.proofs.LogLaws.{In, with_pairs-kept, with_pairs-new}
use Rattle.early_laws.proofs.CountedLaws.{grown-none, grown-pairs, grown-length, with_running-grown, with_running-kept, with_running-new, with_running-only}
use Rattle.early_laws.proofs.HeldLaws.{with_held-length, held_at-same}
use Rattle.early_laws.proofs.FitLaws.{Fit, FitThread, is_fit_thread→, →is_fit_thread, is_unfit_threads→, →is_unfit_threads, →is_unfit_places, is_unfit→, →is_unfit}
use Rattle.early_laws.proofs.SettleLaws.{settled-past, settled-length}
use Rattle.early_laws.proofs.GrantLaws.{is_full-none, threads_after-length}
use Rattle.early_laws.proofs.RequestLaws as request
use Rattle.early_laws.proofs.AgreeLaws.{Agree, SameFrom, floor_of-same}
use Rattle.early_laws.proofs.AlikeLaws.{AlikeAfter, settled-agree, settled_items-same, threads_after-past, request_of-unread, request_of-short, request_of-faulty}
use Rattle.early_laws.proofs.ByRowsLaws.{is_unfit-own}

-- the cycle of thread k's record, its record once it is granted, and the records then
abbrev record_cycle : List Thread → ℕ → Cycle
record_cycle ts k = cycle_of (thread_at ts k).state

abbrev running_at : List Thread → ℕ → Thread
running_at ts k = record { segment = (thread_at ts k).segment; state = Running (record_cycle ts k) }

abbrev begun_at : List Thread → ℕ → List Thread
begun_at ts k = set ts k (running_at ts k)

-- what stands where a call is not refused: 11 does not apply, and the thread is running where it is finished
pub record Fitting (m : Model) (ws : List ℕ) (site : Site) (ts : List Thread) (held : List ℕ) : Type 0 where
  pub state : is_unfit m ws site ts ≡ false
  pub enough : is_unfit_held m held ≡ false

pub record Finishable (m : Model) (ts : List Thread) (k : ℕ) : Type 0 where
  pub thread : k < m.t
  pub running : is_running (thread_at ts k).state ≡ true

fitting : (m : Model) (ws : List ℕ) (site : Site) (ts : List Thread) (held : List ℕ) → (is_unfit m ws site ts || is_unfit_held m held) ≡ false → Fitting m ws site ts held
fitting m ws site ts held e =
    let (a, b) = not-or→both (is_unfit m ws site ts) (is_unfit_held m held) (false→T (is_unfit m ws site ts || is_unfit_held m held) e) in
    record { state = T→false (is_unfit m ws site ts) a; enough = T→false (is_unfit_held m held) b }

-- the number of a finish: 0, and then the thread is running, or 10 or 19
module _ (m : Model) (ts : List Thread) (k : ℕ) where
  finish-zero : finish_number m.t ts k ≡ accepted → Finishable m ts k
  unfolding finish_number
  finish-zero = go (dec_lt k m.t) (is_running (thread_at ts k).state) refl
    where
      go : Dec (k < m.t) → (b : Bool) → is_running (thread_at ts k).state ≡ b → cond (not (ltb k m.t)) wrong_thread (cond b accepted out_of_turn) ≡ accepted → Finishable m ts k
      go (yes h) true e z = record { thread = h; running = e }
      go (yes h) false e z = let o : out_of_turn ≡ accepted = rw (lt-ltb k m.t h) at z in absurd (omega arith)
      go (no h) b e z = let o : wrong_thread ≡ accepted = rw (le-ltb k m.t (omega arith)) at z in absurd (omega arith)

  finish-other : finish_number m.t ts k ≡ unfit → ⊥
  unfolding finish_number
  finish-other = go (not (ltb k m.t)) (is_running (thread_at ts k).state)
    where
      go : (a b : Bool) → cond a wrong_thread (cond b accepted out_of_turn) ≡ unfit → ⊥
      go true b e = omega arith
      go false true e = omega arith
      go false false e = omega arith

-- the number of a request on a fit state: 0, and then all stands for it, or another, which is not 11
module _ (m : Model) (marks : List (List Bool)) (ws : List ℕ) (site : Site) (ts : List Thread) (k : ℕ) where
  data Numbered : ℕ → Type 0 where
    passes : request.Grantable m marks ws site ts k (record_cycle ts k) → Numbered accepted
    refuses : (n : ℕ) → (n ≡ accepted → ⊥) → (n ≡ unfit → ⊥) → Numbered n

  numbered : is_unfit m ws site ts ≡ false → Numbered (number_in m marks ws site ts k)
  unfolding request_of request_fit answered_by granted_to
  numbered fit = go (number_in m marks ws site ts k) refl (ℕ_discrete (number_in m marks ws site ts k) accepted)
    where
      go : (n : ℕ) → number_in m marks ws site ts k ≡ n → Dec (n ≡ accepted) → Numbered n
      go n e (yes z) = subst Numbered (sym z) (passes (request.granted→ m marks ws site ts k (thread_at ts k).segment (record_cycle ts k) (rw (fit, e, z) refl)).1)
      go n e (no other) = refuses n other (λ u. request.request_of-fit m marks ws site ts k fit (rw (fit, e, ne_eqb n accepted other, u) refl))

module _ (m : Model) (marks : List (List Bool)) (ws : List ℕ) (site : Site) (ts : List Thread) (held : List ℕ) where
  -- the answers, by case
  pub data Asked : Call → Called → Type 0 where
    refused : (call : Call) (n : ℕ) → (n ≡ 0 → ⊥) → (n ≡ unfit → (is_unfit m ws site ts || is_unfit_held m held) ≡ true) → Asked call (called_with n site ts held)
    done : (k : ℕ) → Fitting m ws site ts held → request.Grantable m marks ws site ts k (record_cycle ts k)
        → Asked (Both k) (record { left = granted_to m ws site ts k (record_cycle ts k); held = held })
    granted : (k : ℕ) → Fitting m ws site ts held → request.Grantable m marks ws site ts k (record_cycle ts k)
        → Asked (Grant k) (record { left = running_from site ts k; held = with_held held k site.variables.at })
    finished : (k : ℕ) → Fitting m ws site ts held → Finishable m ts k
        → Asked (Finish k) (record { left = finished_from m ws site ts held k; held = with_held held k (replicate held_count 0) })

  call_fit-asked : (call : Call) → Fitting m ws site ts held → Asked call (call_fit m marks ws site ts held call)
  unfolding call_fit request_fit answered_by
  call_fit-asked (Both k) f = go (numbered m marks ws site ts k f.state)
    where
      go : {n : ℕ} → Numbered m marks ws site ts k n → Asked (Both k) (record { left = answered_by n site ts (granted_to m ws site ts k (record_cycle ts k)); held = held })
      go (passes g) = done k f g
      go (refuses n other u) = rw (ne_eqb n accepted other) (refused (Both k) n other (λ e. absurd (u e)))
  call_fit-asked (Grant k) f = go (numbered m marks ws site ts k f.state)
    where
      go : {n : ℕ} → Numbered m marks ws site ts k n → Asked (Grant k) (called_by n site ts held (record { left = running_from site ts k; held = with_held held k site.variables.at }))
      go (passes g) = granted k f g
      go (refuses n other u) = rw (ne_eqb n accepted other) (refused (Grant k) n other (λ e. absurd (u e)))
  call_fit-asked (Finish k) f = go (finish_number m.t ts k) refl (ℕ_discrete (finish_number m.t ts k) accepted)
    where
      go : (n : ℕ) → finish_number m.t ts k ≡ n → Dec (n ≡ accepted)
          → Asked (Finish k) (called_by n site ts held (record { left = finished_from m ws site ts held k; held = with_held held k (replicate held_count 0) }))
      go n e (yes z) = rw (eq-eqb n accepted z) (finished k f (finish-zero m ts k (e ∙ z)))
      go n e (no other) = rw (ne_eqb n accepted other) (refused (Finish k) n other (λ u. absurd (finish-other m ts k (e ∙ u))))

  pub call_of-unfit : (call : Call) → (is_unfit m ws site ts || is_unfit_held m held) ≡ true → call_of m marks ws site ts held call ≡ called_with unfit site ts held
  unfolding call_of
  call_of-unfit call e = rw e refl

  pub call_of-fitting : (call : Call) → Fitting m ws site ts held → call_of m marks ws site ts held call ≡ call_fit m marks ws site ts held call
  unfolding call_of
  call_of-fitting call f = rw (f.state, f.enough) refl

  pub call_of-asked : (call : Call) → Asked call (call_of m marks ws site ts held call)
  call_of-asked call = go (is_unfit m ws site ts || is_unfit_held m held) refl
    where
      go : (b : Bool) → (is_unfit m ws site ts || is_unfit_held m held) ≡ b → Asked call (call_of m marks ws site ts held call)
      go true e = rw (call_of-unfit call e) (refused call unfit (λ z. omega arith) (λ u. e))
      go false e = let f = fitting m ws site ts held e in rw (call_of-fitting call f) (call_fit-asked call f)

  -- "A refused request returns the number with state and thread records as handed in": so does a call, with the values that are held
  pub call_of-refused : (call : Call) → (number_of (call_of m marks ws site ts held call).left.answer ≡ 0 → ⊥)
      → call_of m marks ws site ts held call ≡ called_with (number_of (call_of m marks ws site ts held call).left.answer) site ts held
  unfolding granted_to running_from finished_from
  call_of-refused call other = go (call_of-asked call) other
    where
      go : {call : Call} {r : Called} → Asked call r → (number_of r.left.answer ≡ 0 → ⊥) → r ≡ called_with (number_of r.left.answer) site ts held
      go (refused call n h u) f = refl
      go (done k i g) f = absurd (f refl)
      go (granted k i g) f = absurd (f refl)
      go (finished k i g) f = absurd (f refl)

  -- on a fit state with enough held no call answers 11
  pub call_of-fit : (call : Call) → Fitting m ws site ts held → (call_of m marks ws site ts held call).left.answer ≡ Refused unfit → ⊥
  unfolding granted_to running_from finished_from
  call_of-fit call f e = go (call_of-asked call) e
    where
      fits : (is_unfit m ws site ts || is_unfit_held m held) ≡ false
      fits = rw (f.state, f.enough) refl

      go : {call : Call} {r : Called} → Asked call r → r.left.answer ≡ Refused unfit → ⊥
      go (refused call n h u) e = let n-is : n ≡ unfit = cc in absurd (subst T (sym (u n-is) ∙ fits) tt)
      go (done k i g) e = let z : ◌≡◌ {A = ℕ} 0 1 = cc in absurd (omega arith)
      go (granted k i g) e = let z : ◌≡◌ {A = ℕ} 0 1 = cc in absurd (omega arith)
      go (finished k i g) e = let z : ◌≡◌ {A = ℕ} 0 1 = cc in absurd (omega arith)

  -- with enough held
  pub call_of-both : (k : ℕ) → is_unfit_held m held ≡ false → call_of m marks ws site ts held (Both k) ≡ record { left = request_of m marks ws site ts k; held = held }
  unfolding call_of call_fit request_of
  call_of-both k e = go (is_unfit m ws site ts)
    where
      go : (b : Bool)
          → cond (b || is_unfit_held m held) (called_with unfit site ts held) (record { left = request_fit m marks ws site ts k; held = held })
          ≡ record { left = cond b (refused_with unfit site ts) (request_fit m marks ws site ts k); held = held }
      go true = refl
      go false = rw e refl

  -- how many are held stays
  pub call_of-held-length : (call : Call) → length (call_of m marks ws site ts held call).held ≡ length held
  call_of-held-length call = go (call_of-asked call)
    where
      go : {call : Call} {r : Called} → Asked call r → length r.held ≡ length held
      go (refused call n h u) = refl
      go (done k i g) = refl
      go (granted k i g) = with_held-length held k site.variables.at
      go (finished k i g) = with_held-length held k (replicate held_count 0)

  pub call_of-length : (call : Call) → length (call_of m marks ws site ts held call).left.threads ≡ length ts
  unfolding granted_to threads_after log_after closed_threads running_from finished_from
  call_of-length call = go (call_of-asked call)
    where
      go : {call : Call} {r : Called} → Asked call r → length r.left.threads ≡ length ts
      go (refused call n h u) = refl
      go (done k i g) = threads_after-length m site ts k (record_cycle ts k) ws
      go (granted k i g) = length-set ts k (running_at ts k)
      go (finished k i g) =
          let x = effect_held m site ts held k in
          settled-length m ws (log_by site (record_cycle ts k) x) (closed_by ts k x) ∙ length-set ts k x.thread

  -- "records past those are neither read nor written"
  pub call_of-unwritten : (call : Call) (j : ℕ) → m.t ≤ j → thread_at (call_of m marks ws site ts held call).left.threads j ≡ thread_at ts j
  unfolding granted_to threads_after log_after closed_threads running_from finished_from
  call_of-unwritten call j past = go (call_of-asked call)
    where
      go : {call : Call} {r : Called} → Asked call r → thread_at r.left.threads j ≡ thread_at ts j
      go (refused call n h u) = refl
      go (done k i g) = threads_after-past m site k (record_cycle ts k) g.thread ws ts j past
      go (granted k i g) = let h = g.thread in thread_at-other ts k j (running_at ts k) (λ e. omega arith)
      go (finished k i g) =
          let x = effect_held m site ts held k in
          let h = g.thread in
          settled-past m ws (log_by site (record_cycle ts k) x) (closed_by ts k x) j past ∙ thread_at-other ts k j x.thread (λ e. omega arith)

-- whether 11 applies to a state, by what a request answers

unfit-answer : (m : Model) (marks : List (List Bool)) (ws : List ℕ) (site : Site) (ts : List Thread) → T (is_unfit m ws site ts) → (request_of m marks ws site ts 0).answer ≡ Refused unfit
unfolding request_of
unfit-answer m marks ws site ts t = rw (T→true (is_unfit m ws site ts) t) refl

answer-unfit : (m : Model) (marks : List (List Bool)) (ws : List ℕ) (site : Site) (ts : List Thread) → (request_of m marks ws site ts 0).answer ≡ Refused unfit → T (is_unfit m ws site ts)
answer-unfit m marks ws site ts e = go (T-case (is_unfit m ws site ts))
  where
    go : T (is_unfit m ws site ts) ⊎ T (not (is_unfit m ws site ts)) → T (is_unfit m ws site ts)
    go (inl t) = t
    go (inr t) = absurd (request.request_of-fit m marks ws site ts 0 (T→false (is_unfit m ws site ts) t) e)

-- 11, and all as handed in
module _ (m : Model) (marks : List (List Bool)) (ws : List ℕ) (site : Site) (ts : List Thread) (held : List ℕ) (call : Call) where
  like-request : request_of m marks ws site ts 0 ≡ refused_with unfit site ts → call_of m marks ws site ts held call ≡ called_with unfit site ts held
  like-request e = call_of-unfit m marks ws site ts held call (rw (T→true (is_unfit m ws site ts) (answer-unfit m marks ws site ts (ap (λ (r : Requested). r.answer) e))) refl)

  -- "records below T"
  pub call_of-short : length ts < m.t → call_of m marks ws site ts held call ≡ called_with unfit site ts held
  call_of-short h = like-request (request_of-short m marks ws site 0 ts h)

  -- fewer values held than a set for each thread
  pub call_of-few : length held < held_count * m.t → call_of m marks ws site ts held call ≡ called_with unfit site ts held
  unfolding is_unfit_held
  call_of-few h = call_of-unfit m marks ws site ts held call (go (is_unfit m ws site ts))
    where
      go : (b : Bool) → (b || is_unfit_held m held) ≡ true
      go true = refl
      go false = lt-ltb (length held) (held_count * m.t) h

  -- a model against the file rules
  pub call_of-faulty : (model_fault m ≡ accepted → ⊥) → call_of m marks ws site ts held call ≡ called_with unfit site ts held
  call_of-faulty other = like-request (request_of-faulty m marks ws site 0 ts other)

-- what two calls leave, where the records agree
pub record AlikeCalls (m : Model) (a b : Called) : Type 0 where
  pub left : AlikeAfter m a.left b.left
  pub held : a.held ≡ b.held

module _ (m : Model) (site : Site) (ts us : List Thread) (agree : Agree m ts us) where
  -- one record set in both
  set_same : (k : ℕ) (x : Thread) → Agree m (set ts k x) (set us k x)
  set_same k x =
      record {
        left = rw (length-set ts k x) agree.left;
        right = rw (length-set us k x) agree.right;
        same = λ j h. go j h (ℕ_discrete j k);
      }
    where
      go : (j : ℕ) → j < m.t → Dec (j ≡ k) → thread_at (set ts k x) j ≡ thread_at (set us k x) j
      go j h (yes e) = rw e (thread_at-set ts k x (omega (arith, agree.left)) ∙ sym (thread_at-set us k x (omega (arith, agree.right))))
      go j h (no other) = thread_at-other ts k j x other ∙ agree.same j h ∙ sym (thread_at-other us k j x other)

  refused-alike : (n : ℕ) (held : List ℕ) → AlikeCalls m (called_with n site ts held) (called_with n site us held)
  refused-alike n held = record { left = record { answer = refl; site = refl; threads = agree; items = λ j. refl }; held = refl }

  running-alike : (k : ℕ) → k < m.t → AlikeAfter m (running_from site ts k) (running_from site us k)
  unfolding running_from
  running-alike k h =
      rw (agree.same k h)
      (record {
        answer = refl;
        site = refl;
        threads = set_same k (running_at us k);
        items = λ j. refl;
      })

  -- what an effect x of thread k leaves, where the words say the same from where the threads stand after it
  effect-alike : (ws ys : List ℕ) (k : ℕ) (c : Cycle) (x : Effect) → k < m.t → SameFrom m ws ys (closed_by us k x)
      → AlikeAfter m (granted_by (floor_of m) (settled m ws) (λ j. settled_items m ws (log_by site c x) (closed_by ts k x) j) site ts k c x)
      (granted_by (floor_of m) (settled m ys) (λ j. settled_items m ys (log_by site c x) (closed_by us k x) j) site us k c x)
  effect-alike ws ys k c x h from =
      let l = log_by site c x in
      let closed = set_same k x.thread in
      let after = settled-agree m ws ys l (closed_by ts k x) (closed_by us k x) from closed in
      record {
        answer = ap (λ (t : Thread). Granted t.segment c) (agree.same k h);
        site = rw (floor_of-same m (settled m ws l (closed_by ts k x)) (settled m ys l (closed_by us k x)) after) refl;
        threads = after;
        items = settled_items-same m ws ys l (closed_by ts k x) (closed_by us k x) from closed;
      }

module _ (m : Model) (marks : List (List Bool)) (ws ys : List ℕ) (site : Site) (ts us : List Thread) (agree : Agree m ts us)
    (words : take (m.n * m.n) ws ≡ take (m.n * m.n) ys)
  where
    asked-alike : (k : ℕ) → AlikeAfter m (request_of m marks ws site ts k) (request_of m marks ys site us k)
    asked-alike k = request_of-unread m marks ws site k ys ts us agree words

    is_unfit-same : is_unfit m ws site ts ≡ is_unfit m ys site us
    is_unfit-same =
        T-same (is_unfit m ws site ts) (is_unfit m ys site us)
        (λ t. answer-unfit m marks ys site us (sym (asked-alike 0).answer ∙ unfit-answer m marks ws site ts t))
        (λ t. answer-unfit m marks ws site ts ((asked-alike 0).answer ∙ unfit-answer m marks ys site us t))

    -- the number of a request on a fit state, by its answer
    number_is : (zs : List ℕ) (vs : List Thread) (k : ℕ) → is_unfit m zs site vs ≡ false → number_of (request_of m marks zs site vs k).answer ≡ number_in m marks zs site vs k
    unfolding answer_number
    number_is zs vs k fit = (request.request_of-answers m marks zs site vs k).number ∙ rw fit refl

    request-fits : (zs : List ℕ) (vs : List Thread) (k : ℕ) → is_unfit m zs site vs ≡ false → request_of m marks zs site vs k ≡ request_fit m marks zs site vs k
    unfolding request_of
    request-fits zs vs k fit = rw fit refl

    number_same : (k : ℕ) → is_unfit m ys site us ≡ false → number_in m marks ws site ts k ≡ number_in m marks ys site us k
    number_same k fit = sym (number_is ws ts k (is_unfit-same ∙ fit)) ∙ ap number_of (asked-alike k).answer ∙ number_is ys us k fit

    -- words from threads that stand in segments of the model
    same_from : (vs : List Thread) → ((j : ℕ) → j < m.t → (thread_at vs j).segment < m.n) → SameFrom m ws ys vs
    unfolding distance_in
    same_from vs below j s h l =
        let i = (thread_at vs j).segment * m.n + s in
        let p = place-below m.n (thread_at vs j).segment s (below j h) l in
        ap bound_of (sym (get_or-take (m.n * m.n) ws i 0 p) ∙ ap (λ (zs : List ℕ). get_or zs i 0) words ∙ get_or-take (m.n * m.n) ys i 0 p)

    module _ (held : List ℕ) (k : ℕ) (h : k < m.t) where
      effect-same : effect_held m site ts held k ≡ effect_held m site us held k
      unfolding effect_held
      effect-same = rw (agree.same k h) refl

      -- a segment of the model leads to another
      closed-below : Fit m ys site us → (j : ℕ) → j < m.t → (thread_at (closed_by us k (effect_held m site us held k)) j).segment < m.n
      unfolding effect_held
      closed-below fit j l = go (ℕ_discrete j k)
        where
          x : Effect
          x = effect_held m site us held k

          stands : (i : ℕ) → i < m.t → (thread_at us i).segment < m.n
          stands i p = (is_fit_thread→ m i (thread_at us i) ((is_unfit_threads→ m us fit.threads).1 i p)).segment

          go : Dec (j ≡ k) → (thread_at (closed_by us k x) j).segment < m.n
          go (yes e) =
              rw (e, thread_at-set us k x.thread (omega (arith, agree.right)))
              ((model_fault-keeps m fit.model).next k (thread_at us k).segment (record_cycle us k) (held_at held k) (stands k h))
          go (no other) = rw (thread_at-other us k j x.thread other) (stands j l)

      finished-alike : Fit m ys site us → AlikeAfter m (finished_from m ws site ts held k) (finished_from m ys site us held k)
      unfolding finished_from
      finished-alike fit =
          let x = effect_held m site us held k in
          rw (effect-same, ap (λ (t : Thread). cycle_of t.state) (agree.same k h))
          (effect-alike m site ts us agree ws ys k (record_cycle us k) x h (same_from (closed_by us k x) (closed-below fit)))

    module _ (held : List ℕ) where
      -- decided by one number n
      by-number-alike : (n : ℕ) (a b : Requested) (v : List ℕ) → (n ≡ accepted → AlikeAfter m a b)
          → AlikeCalls m (called_by n site ts held (record { left = a; held = v })) (called_by n site us held (record { left = b; held = v }))
      unfolding answered_by
      by-number-alike n a b v yields = go (ℕ_discrete n accepted)
        where
          go : Dec (n ≡ accepted) → AlikeCalls m (called_by n site ts held (record { left = a; held = v })) (called_by n site us held (record { left = b; held = v }))
          go (yes z) = rw (eq-eqb n accepted z) (record { left = yields z; held = refl })
          go (no other) = rw (ne_eqb n accepted other) (refused-alike m site ts us agree n held)

      finish_number-same : (k : ℕ) → finish_number m.t ts k ≡ finish_number m.t us k
      unfolding finish_number
      finish_number-same k = go (dec_lt k m.t)
        where
          go : Dec (k < m.t) → cond (not (ltb k m.t)) wrong_thread (cond (is_running (thread_at ts k).state) accepted out_of_turn) ≡ cond (not (ltb k m.t)) wrong_thread (cond (is_running (thread_at us k).state) accepted out_of_turn)
          go (yes h) = rw (agree.same k h) refl
          go (no h) = rw (le-ltb k m.t (omega arith)) refl

      fit-alike : (call : Call) → Fitting m ys site us held → AlikeCalls m (call_fit m marks ws site ts held call) (call_fit m marks ys site us held call)
      unfolding call_fit
      fit-alike (Both k) f = record { left = rw (← request-fits ws ts k (is_unfit-same ∙ f.state), ← request-fits ys us k f.state) (asked-alike k); held = refl }
      fit-alike (Grant k) f =
          rw (number_same k f.state)
          (by-number-alike (number_in m marks ys site us k) (running_from site ts k) (running_from site us k) (with_held held k site.variables.at) (λ z. go (numbered m marks ys site us k f.state) z))
        where
          go : {n : ℕ} → Numbered m marks ys site us k n → n ≡ accepted → AlikeAfter m (running_from site ts k) (running_from site us k)
          go (passes g) z = running-alike m site ts us agree k g.thread
          go (refuses n other u) z = absurd (other z)
      fit-alike (Finish k) f =
          rw (finish_number-same k)
          (by-number-alike (finish_number m.t us k) (finished_from m ws site ts held k) (finished_from m ys site us held k) (with_held held k (replicate held_count 0))
          (λ z. finished-alike held k (finish-zero m us k z).thread (is_unfit→ m ys site us f.state)))

      -- "neither read": whatever stands past the threads' records and past N × N words, a call gives the same answer, state, history and held
      -- values, and records that agree
      pub call_of-unread : (call : Call) → AlikeCalls m (call_of m marks ws site ts held call) (call_of m marks ys site us held call)
      unfolding call_of
      call_of-unread call = rw is_unfit-same (go (is_unfit m ys site us || is_unfit_held m held) refl)
        where
          go : (b : Bool) → (is_unfit m ys site us || is_unfit_held m held) ≡ b
              → AlikeCalls m (cond b (called_with unfit site ts held) (call_fit m marks ws site ts held call)) (cond b (called_with unfit site us held) (call_fit m marks ys site us held call))
          go true e = refused-alike m site ts us agree unfit held
          go false e = fit-alike call (fitting m ys site us held e)

-- by rows: 11, then 16, else as by the reader's words
module _ (m : Model) (marks : List (List Bool)) (lent : ℕ) (site : Site) (ts : List Thread) (held : List ℕ) (call : Call) where
  pub call_by_rows-unfit : (is_unfit_state m site ts || is_unfit_held m held) ≡ true → call_by_rows m marks lent site ts held call ≡ called_with unfit site ts held
  unfolding call_by_rows
  call_by_rows-unfit e = rw e refl

  pub call_by_rows-few : (is_unfit_state m site ts || is_unfit_held m held) ≡ false → lent < 64 → call_by_rows m marks lent site ts held call ≡ called_with short_table site ts held
  unfolding call_by_rows
  call_by_rows-few e h = rw (e, lt-ltb lent 64 h) refl

  pub call_by_rows-fit : (is_unfit_state m site ts || is_unfit_held m held) ≡ false → 64 ≤ lent → call_by_rows m marks lent site ts held call ≡ call_fit m marks (words_of m) site ts held call
  unfolding call_by_rows
  call_by_rows-fit e h = rw (e, le-ltb lent 64 h) refl

  pub call_by_rows-enough : 64 ≤ lent → call_by_rows m marks lent site ts held call ≡ call_of m marks (words_of m) site ts held call
  unfolding call_by_rows call_of
  call_by_rows-enough h = rw (le-ltb lent 64 h, is_unfit-own m site ts) refl

  -- so that what every call by the reader's words is, and one that is refused with 11 or 16, a call by rows is
  by_rows-case : (P : Called → Type 0) → P (call_of m marks (words_of m) site ts held call) → ((n : ℕ) → P (called_with n site ts held)) → P (call_by_rows m marks lent site ts held call)
  by_rows-case P asked kept = go (dec_lt lent 64) (is_unfit_state m site ts || is_unfit_held m held) refl
    where
      go : Dec (lent < 64) → (b : Bool) → (is_unfit_state m site ts || is_unfit_held m held) ≡ b → P (call_by_rows m marks lent site ts held call)
      go (no enough) b e = rw (call_by_rows-enough (omega arith)) asked
      go (yes few) true e = rw (call_by_rows-unfit e) (kept unfit)
      go (yes few) false e = rw (call_by_rows-few e few) (kept short_table)

  pub call_by_rows-refused : (number_of (call_by_rows m marks lent site ts held call).left.answer ≡ 0 → ⊥)
      → call_by_rows m marks lent site ts held call ≡ called_with (number_of (call_by_rows m marks lent site ts held call).left.answer) site ts held
  call_by_rows-refused =
      by_rows-case (λ (r : Called). (number_of r.left.answer ≡ 0 → ⊥) → r ≡ called_with (number_of r.left.answer) site ts held)
      (call_of-refused m marks (words_of m) site ts held call) (λ n other. refl)

  pub call_by_rows-length : length (call_by_rows m marks lent site ts held call).left.threads ≡ length ts
  call_by_rows-length = by_rows-case (λ (r : Called). length r.left.threads ≡ length ts) (call_of-length m marks (words_of m) site ts held call) (λ n. refl)

  pub call_by_rows-held-length : length (call_by_rows m marks lent site ts held call).held ≡ length held
  call_by_rows-held-length = by_rows-case (λ (r : Called). length r.held ≡ length held) (call_of-held-length m marks (words_of m) site ts held call) (λ n. refl)

module _ (m : Model) (marks : List (List Bool)) (lent : ℕ) where
  pub calls_by_rows-enough : 64 ≤ lent → (cs : List Call) (site : Site) (ts : List Thread) (held : List ℕ)
      → calls_by_rows m marks lent site ts held cs ≡ calls_of m marks (words_of m) site ts held cs
  unfolding served_by
  calls_by_rows-enough h [] site ts held = refl
  calls_by_rows-enough h (c ∷ cs) site ts held =
      let a = call_of m marks (words_of m) site ts held c in
      rw (call_by_rows-enough m marks lent site ts held c h, calls_by_rows-enough h cs a.left.site a.left.threads a.held) refl

-- A grant leaves a fit state fit: the thread keeps its segment and its cycle, which is not later than the horizon, and what it lists takes the places
-- that 15 has counted.
module _ (m : Model) (marks : List (List Bool)) (ws : List ℕ) (site : Site) (ts : List Thread) (k : ℕ) (g : request.Grantable m marks ws site ts k (record_cycle ts k)) where
  abbrev s : ℕ
  s = (thread_at ts k).segment

  abbrev c : Cycle
  c = record_cycle ts k

  abbrev runs : Thread
  runs = running_at ts k

  abbrev us : List Thread
  us = begun_at ts k

  fit : Fit m ws site ts
  fit = is_unfit→ m ws site ts g.fit

  at-k : thread_at us k ≡ runs
  at-k = let l = (is_unfit_threads→ m ts fit.threads).0 in let h = g.thread in thread_at-set ts k runs (omega arith)

  granted-places : length (counted_log m us (log_of site)) ≤ counted_places m site ts k s c
  unfolding counted_places
  granted-places =
      grown-length l (counted_log m us l) (with_pairs counted c (listed_in m k s)) (with_running-grown m us l l m.t (grown-none l))
      (grown-pairs l counted c (listed_in m k s) (with_running-grown m ts l l m.t (grown-none l)))
      (λ x h. go x (with_running-only m us l m.t h))
    where
      l : List Notification
      l = log_of site

      counted : List Notification
      counted = counted_log m ts l

      all : List Notification
      all = with_pairs counted c (listed_in m k s)

      -- thread j runs: it is k, or ran before
      from : (x : Notification) (j : ℕ) → j < m.t → is_running (thread_at us j).state ≡ true → x.cycle ≡ cycle_of (thread_at us j).state
          → T (has (listed_in m j (thread_at us j).segment) x.event) → Dec (j ≡ k) → In x all
      from x j h r p t (yes e) =
          let same : thread_at us j ≡ runs = ap (thread_at us) e ∙ at-k in
          subst (λ (d : Cycle). In (pair_of x.event d) all) (sym (p ∙ ap (λ (u : Thread). cycle_of u.state) same))
          (with_pairs-new counted c (listed_in m k s) x.event (subst (λ (i : ℕ). T (has (listed_in m i s) x.event)) e (subst (λ (u : Thread). T (has (listed_in m j u.segment) x.event)) same t)))
      from x j h r p t (no other) =
          let same = thread_at-other ts k j runs other in
          subst (λ (d : Cycle). In (pair_of x.event d) all) (sym (p ∙ ap (λ (u : Thread). cycle_of u.state) same))
          (with_pairs-kept counted c (listed_in m k s)
          (with_running-new m ts l m.t j x.event h (sym (ap (λ (u : Thread). is_running u.state) same) ∙ r) (subst (λ (u : Thread). T (has (listed_in m j u.segment) x.event)) same t)))

      go : (x : Notification) → In x l ⊎ ((j : ℕ) × (j < m.t) × (is_running (thread_at us j).state ≡ true) × (x.cycle ≡ cycle_of (thread_at us j).state) × T (has (listed_in m j (thread_at us j).segment) x.event))
          → In x all
      go x (inl i) = with_pairs-kept counted c (listed_in m k s) (with_running-kept m ts l m.t i)
      go x (inr (j, h, r, p, t)) = from x j h r p t (ℕ_discrete j k)

  running-threads : (j : ℕ) → j < m.t → FitThread m j (thread_at us j)
  running-threads j h = go (ℕ_discrete j k)
    where
      before : (i : ℕ) → i < m.t → FitThread m i (thread_at ts i)
      before i p = is_fit_thread→ m i (thread_at ts i) ((is_unfit_threads→ m ts fit.threads).1 i p)

      go : Dec (j ≡ k) → FitThread m j (thread_at us j)
      go (no other) = rw (thread_at-other ts k j runs other) (before j h)
      go (yes e) =
          let f = before k g.thread in
          subst (λ (i : ℕ). FitThread m i (thread_at us i)) (sym e)
          (subst (FitThread m k) (sym at-k)
          (record { segment = f.segment; cycle = f.cycle; event = λ w since p. absurd (ready-not-waits refl p); soon = λ _. g.in-time; lacks = f.lacks }))

  pub running-fit : is_unfit m ws site (running_from site ts k).threads ≡ false
  unfolding running_from
  running-fit =
      →is_unfit m ws site us
      (record {
        model = fit.model;
        threads =
            →is_unfit_threads m us (omega (arith, length-set ts k runs, (is_unfit_threads→ m ts fit.threads).0))
            (λ j h. →is_fit_thread m j (thread_at us j) (running-threads j h));
        log = fit.log;
        counted = →is_unfit_places m site us (omega (arith, granted-places, is_full-none m site ts k c g.room));
        words = fit.words;
      })

-- a finish stores all of an effect on the variables that it stores over: what is not written keeps its value
pub stored_over-own : (m : Model) (k s : ℕ) (c : Cycle) (v : List ℕ) → stored_over m k s v (effect_of m k s c v).variables ≡ (effect_of m k s c v).variables
unfolding stored_over
stored_over-own m k s c v =
    let w = (effect_of m k s c v).variables in
    sym (tabulate-is 0 w (length v) (λ i. cond (writes_in m k s i) (get_or w i 0) (get_or v i 0)) (effect_of-length m k s c v) (λ i h. go i (writes_in m k s i) refl))
  where
    go : (i : ℕ) (b : Bool) → writes_in m k s i ≡ b → get_or (effect_of m k s c v).variables i 0 ≡ cond b (get_or (effect_of m k s c v).variables i 0) (get_or v i 0)
    go i true e = refl
    go i false e = effect_of-frame m k s c v i e

enough→ : (m : Model) (held : List ℕ) → is_unfit_held m held ≡ false → held_count * m.t ≤ length held
unfolding is_unfit_held
enough→ m held e = nltb→le (length held) (held_count * m.t) (false→T (is_unfit_held m held) e)

held_same : (m : Model) (held other : List ℕ) → length other ≡ length held → is_unfit_held m other ≡ is_unfit_held m held
unfolding is_unfit_held
held_same m held other e = rw e refl

-- What a combined call a leaves, and a grant b with its finish c: the finish gives the answer, the state and the records, and the history of both is
-- that of the combined call
pub record AtOnce (a b c : Called) : Type 0 where
  pub granted : b.left.answer ≡ a.left.answer
  pub answer : c.left.answer ≡ a.left.answer
  pub site : c.left.site ≡ a.left.site
  pub threads : c.left.threads ≡ a.left.threads
  pub items : (j : ℕ) → a.left.items j ≡ b.left.items j ++ c.left.items j

-- "The combined request stays, as a grant and its finish at once"
module _ (m : Model) (marks : List (List Bool)) (ws : List ℕ) (site : Site) (ts : List Thread) (held : List ℕ) (k : ℕ) where
  abbrev grant : Called
  grant = call_of m marks ws site ts held (Grant k)

  abbrev both : Called
  both = call_of m marks ws site ts held (Both k)

  -- the finish in what the grant left
  abbrev finish : Called
  finish = call_of m marks ws grant.left.site grant.left.threads grant.held (Finish k)

  abbrev begun : Called
  begun = record { left = running_from site ts k; held = with_held held k site.variables.at }

  abbrev whole : Called
  whole = record { left = granted_to m ws site ts k (record_cycle ts k); held = held }

  -- the two calls are refused with one number, or both done
  data Together : Called → Called → Type 0 where
    neither : (n : ℕ) → (n ≡ 0 → ⊥) → Together (called_with n site ts held) (called_with n site ts held)
    each : Fitting m ws site ts held → request.Grantable m marks ws site ts k (record_cycle ts k) → Together whole begun

  together : Together both grant
  unfolding call_of call_fit request_fit answered_by
  together = go (is_unfit m ws site ts || is_unfit_held m held) refl
    where
      fits : Fitting m ws site ts held → {n : ℕ} → Numbered m marks ws site ts k n
          → Together (record { left = answered_by n site ts (granted_to m ws site ts k (record_cycle ts k)); held = held }) (called_by n site ts held begun)
      fits f (passes g) = each f g
      fits f (refuses n other u) = rw (ne_eqb n accepted other) (neither n other)

      go : (b : Bool) → (is_unfit m ws site ts || is_unfit_held m held) ≡ b
          → Together (cond b (called_with unfit site ts held) (call_fit m marks ws site ts held (Both k))) (cond b (called_with unfit site ts held) (call_fit m marks ws site ts held (Grant k)))
      go true e = neither unfit (λ z. omega arith)
      go false e = let f = fitting m ws site ts held e in fits f (numbered m marks ws site ts k f.state)

  pub both-refused : (number_of grant.left.answer ≡ 0 → ⊥) → both ≡ grant
  unfolding running_from
  both-refused other = go together other
    where
      go : {a b : Called} → Together a b → (number_of b.left.answer ≡ 0 → ⊥) → a ≡ b
      go (neither n h) f = refl
      go (each i g) f = absurd (f refl)

  abbrev kept : List ℕ
  kept = with_held held k site.variables.at

  middle : Fitting m ws site ts held → request.Grantable m marks ws site ts k (record_cycle ts k) → Fitting m ws site (begun_at ts k) kept
  unfolding running_from
  middle f g = record { state = running-fit m marks ws site ts k g; enough = held_same m held kept (with_held-length held k site.variables.at) ∙ f.enough }

  pub middle-fit : number_of grant.left.answer ≡ 0 → Fitting m ws grant.left.site grant.left.threads grant.held
  unfolding running_from
  middle-fit z = go together z
    where
      go : {a b : Called} → Together a b → number_of b.left.answer ≡ 0 → Fitting m ws b.left.site b.left.threads b.held
      go (neither n h) z = absurd (h z)
      go (each f g) z = middle f g

  -- in what the grant leaves, where it is done, thread k is running at its cycle, and its set holds the variables
  module _ (size : length site.variables.at ≡ held_count) (f : Fitting m ws site ts held) (g : request.Grantable m marks ws site ts k (record_cycle ts k)) where
    runs-at : thread_at (begun_at ts k) k ≡ running_at ts k
    runs-at = at-k m marks ws site ts k g

    effect-held : effect_held m site (begun_at ts k) kept k ≡ effect_at m site ts k (record_cycle ts k)
    unfolding effect_held effect_at
    effect-held =
        let h = g.thread in
        let l = enough→ m held f.enough in
        rw (runs-at, held_at-same held k site.variables.at size (omega arith), stored_over-own m k (thread_at ts k).segment (record_cycle ts k) site.variables.at) refl

    finish-number : finish_number m.t (begun_at ts k) k ≡ accepted
    unfolding finish_number
    finish-number = rw (lt-ltb k m.t g.thread, runs-at) refl

    finish-done : call_of m marks ws site (begun_at ts k) kept (Finish k) ≡ record { left = finished_from m ws site (begun_at ts k) kept k; held = with_held kept k (replicate held_count 0) }
    unfolding call_fit answered_by
    finish-done = call_of-fitting m marks ws site (begun_at ts k) kept (Finish k) (middle f g) ∙ rw finish-number refl

    at_once : AtOnce whole begun (call_of m marks ws site (begun_at ts k) kept (Finish k))
    unfolding running_from granted_to finished_from items_after log_after closed_threads
    at_once =
        rw (finish-done, effect-held, runs-at, set-set ts k (running_at ts k) (effect_at m site ts k (record_cycle ts k)).thread)
        (record { granted = refl; answer = refl; site = refl; threads = refl; items = λ j. refl })

  pub both_is : length site.variables.at ≡ held_count → number_of grant.left.answer ≡ 0 → AtOnce both grant finish
  unfolding running_from
  both_is size z = go together z
    where
      go : {a b : Called} → Together a b → number_of b.left.answer ≡ 0 → AtOnce a b (call_of m marks ws b.left.site b.left.threads b.held (Finish k))
      go (neither n h) z = absurd (h z)
      go (each f g) z = at_once size f g
