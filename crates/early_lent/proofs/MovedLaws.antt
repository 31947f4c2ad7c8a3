-- The records that are moved are those of the threads, and the request on them, moved back, is the request on the whole slice.
--     moved_of-le     no more are moved than are lent, nor than are held by value
--     loaded-copied, stored-copied     the records that are copied
--     stored-length     a slice keeps its length
--     Moves     what is used of a call: it reads and writes the threads' records alone, and 11 comes first
--     moved_asked, moved_back, moved-held     the answer and the state, the records that the slice is left with, and the values that are held
--     moved_all     these three, of what the functions of the code leave
--     request_of-moves, call_of-moves     by the whole table; a request is a call that holds nothing
--     lent-short, lent-enough, held-short, held-enough     the exits of `request_of`, `request_of_rows`, `call_of` and `call_of_rows`
use Prim.Native.Nat.{ℕ, zero, suc, ◌+◌, ◌-◌, ◌<◌, ◌≤◌}
use mathlib.Core.Path.{◌≡◌, refl, ap, sym, ◌∙◌}
use mathlib.Core.Bool.{Bool}
use mathlib.Core.List.{List, [], ◌++◌}
use native.Mathlib.Omega.{arith}
use native.Mathlib.Decide.{dec_lt, ℕ_discrete}
use lib.ListN.{length, get_or, set, take, drop, length-set, length-replicate, length-append, length-drop, get_or-append}
use lib.Seq.{get_or-set_same, get_or-set_other, get_or-append-add, get_or-take, get_or-drop, length-take-le, ext_get_or}
use borrow.Author.Tests.{lt-ltb, le-ltb}
use Rattle.model.specs.declared.Model.{Model}
use Rattle.model.specs.declared.Thread.{Thread}
use Rattle.model.specs.declared.Threads.{Threads}
use Rattle.model.specs.Record.{no_thread, thread_at}
use Rattle.model.specs.Refusal.{accepted, unfit}
use Rattle.model.specs.Rules.{model_fault}
use Rattle.model_rules.proofs.RuleLaws.{model_fault-counts}
use Rattle.early.specs.declared.Site.{Site}
use Rattle.early.specs.declared.After.{After}
use Rattle.early.specs.declared.Answer.TheVariants.{Refused}
use Rattle.early.specs.declared.Call.{Call}
use Rattle.early.specs.Request.{Requested, request_of}
use Rattle.early.specs.Call.{Called, called_with, call_of}
use Rattle.early_laws.proofs.AgreeLaws.{Agree}
use Rattle.early_laws.proofs.AlikeLaws.{request_of-unread, request_of-unwritten, request_of-length, request_of-short, request_of-faulty}
use Rattle.early_laws.proofs.CallLaws.{AlikeCalls, call_of-unread, call_of-unwritten, call_of-length, call_of-short, call_of-faulty}
use Rattle.early_answer.specs.After.{after_of}
use Rattle.early_lent.specs.declared.Done.{Done}
use Rattle.early_lent.specs.Answered.{asked_of}
use Rattle.early_lent.specs.Moved.{taken_at, loaded, stored, no_threads, moved_of, unless_short, called_unless_short, done_of}

pub moved_of-le : (lent t : ℕ) → (moved_of lent t ≤ lent) × (moved_of lent t ≤ 32)
moved_of-le lent t = (omega arith, omega arith)

-- where all threads' records are lent, those are moved
moved_of-all : (lent t : ℕ) → t ≤ lent → t ≤ 32 → moved_of lent t ≡ t
moved_of-all lent t h few = omega arith

-- records moved out of a slice

loaded-length : (ts : List Thread) (n : ℕ) (to : Threads) → length (loaded ts n to).at ≡ length to.at
loaded-length ts zero to = refl
loaded-length ts (suc n) to = length-set (loaded ts n to).at n (get_or ts n no_thread) ∙ loaded-length ts n to

loaded_at : (ts : List Thread) (n : ℕ) (to : Threads) (j : ℕ) → j < n → n ≤ length to.at → get_or (loaded ts n to).at j no_thread ≡ get_or ts j no_thread
loaded_at ts zero to j h few = absurd (omega arith)
loaded_at ts (suc n) to j h few = go (λ l. loaded_at ts n to j l (omega arith)) (ℕ_discrete j n)
  where
    go : (j < n → get_or (loaded ts n to).at j no_thread ≡ get_or ts j no_thread) → Dec (j ≡ n) → get_or (set (loaded ts n to).at n (get_or ts n no_thread)) j no_thread ≡ get_or ts j no_thread
    go ih (yes e) = rw e (get_or-set_same (loaded ts n to).at n (get_or ts n no_thread) no_thread (omega (arith, loaded-length ts n to)))
    go ih (no e) = get_or-set_other (loaded ts n to).at n j (get_or ts n no_thread) no_thread e ∙ ih (omega arith)

loaded_past : (ts : List Thread) (n : ℕ) (to : Threads) (j : ℕ) → n ≤ j → get_or (loaded ts n to).at j no_thread ≡ get_or to.at j no_thread
loaded_past ts zero to j h = refl
loaded_past ts (suc n) to j h = get_or-set_other (loaded ts n to).at n j (get_or ts n no_thread) no_thread (λ e. omega arith) ∙ loaded_past ts n to j (omega arith)

-- n records copied in front of those after the first n
module _ (xs ys : List Thread) (n : ℕ) (few : n ≤ length xs) (fits : n ≤ length ys) where
  front-length : length (take n xs) ≡ n
  front-length = length-take-le n xs few

  copied-at : (j : ℕ) → j < n → get_or (take n xs ++ drop n ys) j no_thread ≡ get_or xs j no_thread
  copied-at j h = get_or-append (take n xs) (drop n ys) no_thread j (omega (arith, front-length)) ∙ get_or-take n xs j no_thread h

  copied-past : (j : ℕ) → n ≤ j → get_or (take n xs ++ drop n ys) j no_thread ≡ get_or ys j no_thread
  copied-past j h =
      let e : j ≡ length (take n xs) + (j - n) = omega (arith, front-length) in
      let f : n + (j - n) ≡ j = omega arith in
      ap (λ (i : ℕ). get_or (take n xs ++ drop n ys) i no_thread) e
      ∙ (get_or-append-add (take n xs) (drop n ys) (j - n) no_thread ∙ (get_or-drop n ys (j - n) no_thread ∙ ap (λ (i : ℕ). get_or ys i no_thread) f))

  copied-length : length (take n xs ++ drop n ys) ≡ length ys
  copied-length = length-append (take n xs) (drop n ys) ∙ rw (front-length, length-drop n ys) (omega arith)

-- as the code copies them out
pub loaded-copied : (ts : List Thread) (n : ℕ) (to : Threads) → n ≤ length ts → n ≤ length to.at → take n ts ++ drop n to.at ≡ (loaded ts n to).at
loaded-copied ts n to few fits =
    ext_get_or no_thread (take n ts ++ drop n to.at) (loaded ts n to).at (copied-length ts to.at n few fits ∙ sym (loaded-length ts n to)) (λ j h. go j (dec_lt j n))
  where
    go : (j : ℕ) → Dec (j < n) → get_or (take n ts ++ drop n to.at) j no_thread ≡ get_or (loaded ts n to).at j no_thread
    go j (yes h) = copied-at ts to.at n few fits j h ∙ sym (loaded_at ts n to j h fits)
    go j (no h) = copied-past ts to.at n few fits j (omega arith) ∙ sym (loaded_past ts n to j (omega arith))

-- and into it

pub stored-length : (ts : List Thread) (n : ℕ) (from : Threads) → length (stored ts n from) ≡ length ts
stored-length ts zero from = refl
stored-length ts (suc n) from = length-set (stored ts n from) n (taken_at from n) ∙ stored-length ts n from

stored_at : (ts : List Thread) (n : ℕ) (from : Threads) (j : ℕ) → j < n → n ≤ length ts → get_or (stored ts n from) j no_thread ≡ taken_at from j
stored_at ts zero from j h few = absurd (omega arith)
stored_at ts (suc n) from j h few = go (λ l. stored_at ts n from j l (omega arith)) (ℕ_discrete j n)
  where
    go : (j < n → get_or (stored ts n from) j no_thread ≡ taken_at from j) → Dec (j ≡ n) → get_or (set (stored ts n from) n (taken_at from n)) j no_thread ≡ taken_at from j
    go ih (yes e) = rw e (get_or-set_same (stored ts n from) n (taken_at from n) no_thread (omega (arith, stored-length ts n from)))
    go ih (no e) = get_or-set_other (stored ts n from) n j (taken_at from n) no_thread e ∙ ih (omega arith)

stored_past : (ts : List Thread) (n : ℕ) (from : Threads) (j : ℕ) → n ≤ j → get_or (stored ts n from) j no_thread ≡ get_or ts j no_thread
stored_past ts zero from j h = refl
stored_past ts (suc n) from j h = get_or-set_other (stored ts n from) n j (taken_at from n) no_thread (λ e. omega arith) ∙ stored_past ts n from j (omega arith)

-- a slice that is stored to is us, where its moved records and the others are those of us
stored_is : (ts us : List Thread) (n : ℕ) (from : Threads) → n ≤ length ts → length us ≡ length ts
    → ((j : ℕ) → j < n → taken_at from j ≡ get_or us j no_thread) → ((j : ℕ) → n ≤ j → get_or ts j no_thread ≡ get_or us j no_thread) → stored ts n from ≡ us
stored_is ts us n from few long moved rest = ext_get_or no_thread (stored ts n from) us (stored-length ts n from ∙ sym long) (λ j h. go j (dec_lt j n))
  where
    go : (j : ℕ) → Dec (j < n) → get_or (stored ts n from) j no_thread ≡ get_or us j no_thread
    go j (yes h) = stored_at ts n from j h few ∙ moved j h
    go j (no h) = stored_past ts n from j (omega arith) ∙ rest j (omega arith)

-- as the code copies them in
pub stored-copied : (ts : List Thread) (n : ℕ) (from : Threads) → n ≤ length ts → n ≤ length from.at → take n from.at ++ drop n ts ≡ stored ts n from
stored-copied ts n from few fits =
    sym
    (stored_is ts (take n from.at ++ drop n ts) n from few (copied-length from.at ts n fits few) (λ j h. sym (copied-at from.at ts n fits few j h))
    (λ j h. sym (copied-past from.at ts n fits few j h)))

-- what is used of a call Q on records, in a model and a state, with these values held
pub record Moves (m : Model) (site : Site) (held : List ℕ) (Q : List Thread → Called) : Type 0 where
  pub unread : (ts us : List Thread) → Agree m ts us → AlikeCalls m (Q ts) (Q us)
  pub unwritten : (ts : List Thread) (j : ℕ) → m.t ≤ j → thread_at (Q ts).left.threads j ≡ thread_at ts j
  pub long : (ts : List Thread) → length (Q ts).left.threads ≡ length ts
  pub short : (ts : List Thread) → length ts < m.t → Q ts ≡ called_with unfit site ts held
  pub faulty : (ts : List Thread) → (model_fault m ≡ accepted → ⊥) → Q ts ≡ called_with unfit site ts held

module _ (m : Model) (site : Site) (held : List ℕ) (Q : List Thread → Called) (laws : Moves m site held Q) (ts : List Thread) where
  abbrev n : ℕ
  n = moved_of (length ts) m.t

  abbrev before : Threads
  before = loaded ts n no_threads

  taken : (j : ℕ) → j < n → get_or before.at j no_thread ≡ get_or ts j no_thread
  taken j h = loaded_at ts n no_threads j h (moved_of-le (length ts) m.t).1

  -- what the call on the moved records is to be
  record Right (r : Called) : Type 0 where
    asked : asked_of r.left ≡ asked_of (Q ts).left
    back : stored ts n (record { at = r.left.threads }) ≡ (Q ts).left.threads
    kept : r.held ≡ (Q ts).held

  -- 11, and all as handed in
  refused-right : Q ts ≡ called_with unfit site ts held → Right (called_with unfit site before.at held)
  refused-right e =
      record {
        asked = rw e refl;
        back = rw e (stored_is ts ts n before (moved_of-le (length ts) m.t).0 refl (λ j h. taken j h) (λ j h. refl));
        kept = rw e refl;
      }

  module _ (enough : m.t ≤ length ts) (few : m.t ≤ 32) where
    all : n ≡ m.t
    all = moved_of-all (length ts) m.t enough few

    agree : Agree m before.at ts
    unfolding thread_at
    agree =
        record {
          left = omega (arith, loaded-length ts n no_threads, length-replicate 32 no_thread);
          right = enough;
          same = λ j h. taken j (omega (arith, all));
        }

    alike : AlikeCalls m (Q before.at) (Q ts)
    alike = laws.unread before.at ts agree

    asked-right : Right (Q before.at)
    unfolding thread_at
    asked-right =
        record {
          asked = λ i. record { answer = alike.left.answer i; site = alike.left.site i };
          back =
              stored_is
              ts
              (Q ts).left.threads
              n
              (record { at = (Q before.at).left.threads })
              (moved_of-le (length ts) m.t).0
              (laws.long ts)
              (λ j h. alike.left.threads.same j (omega (arith, all)))
              (λ j h. sym (laws.unwritten ts j (omega (arith, all))));
          kept = alike.held;
        }

  faulty-right : (model_fault m ≡ accepted → ⊥) → Right (Q before.at)
  faulty-right other = rw (laws.faulty before.at other) (refused-right (laws.faulty ts other))

  lent-right : Right (called_unless_short m site before (length ts) held (Q before.at))
  unfolding unless_short
  lent-right = go (dec_lt (length ts) m.t) (ℕ_discrete (model_fault m) accepted)
    where
      go : Dec (length ts < m.t) → Dec (model_fault m ≡ accepted) → Right (called_unless_short m site before (length ts) held (Q before.at))
      go (yes h) kept = rw (lt-ltb (length ts) m.t h) (refused-right (laws.short ts h))
      go (no h) (yes kept) = rw (le-ltb (length ts) m.t (omega arith)) (asked-right (omega arith) (model_fault-counts m kept).threads)
      go (no h) (no other) = rw (le-ltb (length ts) m.t (omega arith)) (faulty-right other)

  pub moved_asked : (done_of (unless_short m site before (length ts) (Q before.at).left)).asked ≡ asked_of (Q ts).left
  unfolding done_of
  moved_asked = lent-right.asked

  pub moved_back : stored ts n (done_of (unless_short m site before (length ts) (Q before.at).left)).threads ≡ (Q ts).left.threads
  unfolding done_of
  moved_back = lent-right.back

  pub moved-held : (called_unless_short m site before (length ts) held (Q before.at)).held ≡ (Q ts).held
  moved-held = lent-right.kept

-- a call that moves n records out, asks the core, and moves them back: what it answers, the records that it leaves, and the values that are held
pub moved_all :
    (m : Model) (site : Site) (held : List ℕ) (Q : List Thread → Called) → Moves m site held Q → (ts : List Thread) (n : ℕ) (none before : Threads) (ts' us : List Thread) (done : Done) (held' : List ℕ) →
    n ≡ moved_of (length ts) m.t → none ≡ no_threads → (before ≡ loaded ts n none) × (ts' ≡ ts) → done ≡ done_of (unless_short m site before (length ts) (Q before.at).left) →
    held' ≡ (called_unless_short m site before (length ts) held (Q before.at)).held → us ≡ stored ts' n done.threads →
    (done.asked ≡ asked_of (Q ts).left) × (us ≡ (Q ts).left.threads) × (held' ≡ (Q ts).held)
moved_all m site held Q laws ts n none before ts' us done held' count zeros (moved, same) made kept back =
    rw (back, same, made, kept, moved, zeros, count) (moved_asked m site held Q laws ts, moved_back m site held Q laws ts, moved-held m site held Q laws ts)

-- a request, which holds nothing
abbrev pub holding_none : Requested → Called
holding_none r = record { left = r; held = [] }

pub request_of-moves : (m : Model) (marks : List (List Bool)) (ws : List ℕ) (site : Site) (k : ℕ) → Moves m site [] (λ ts. holding_none (request_of m marks ws site ts k))
request_of-moves m marks ws site k =
    record {
      unread = λ ts us agree. record { left = request_of-unread m marks ws site k ws ts us agree refl; held = refl };
      unwritten = request_of-unwritten m marks ws site k;
      long = request_of-length m marks ws site k;
      short = λ ts h. ap holding_none (request_of-short m marks ws site k ts h);
      faulty = λ ts other. ap holding_none (request_of-faulty m marks ws site k ts other);
    }

pub call_of-moves : (m : Model) (marks : List (List Bool)) (ws : List ℕ) (site : Site) (held : List ℕ) (call : Call) → Moves m site held (λ ts. call_of m marks ws site ts held call)
call_of-moves m marks ws site held call =
    record {
      unread = λ ts us agree. call_of-unread m marks ws ws site ts us agree refl held call;
      unwritten = λ ts. call_of-unwritten m marks ws site ts held call;
      long = λ ts. call_of-length m marks ws site ts held call;
      short = λ ts. call_of-short m marks ws site ts held call;
      faulty = λ ts. call_of-faulty m marks ws site ts held call;
    }

-- the exits of a core on a slice of so many records, of which r is asked
module _ (m : Model) (site : Site) (before : Threads) (lent : ℕ) (r : Requested) where
  pub lent-short : lent < m.t → ◌≡◌ {A = Done} (record { asked = record { answer = Refused unfit; site = site }; threads = before }) (done_of (unless_short m site before lent r))
  unfolding unless_short done_of
  lent-short h = rw (lt-ltb lent m.t h) refl

  pub lent-enough : (a : After) → m.t ≤ lent → a ≡ after_of r
      → ◌≡◌ {A = Done} (record { asked = record { answer = a.answer; site = a.site }; threads = a.threads }) (done_of (unless_short m site before lent r))
  unfolding unless_short done_of after_of
  lent-enough a h e = rw (le-ltb lent m.t h, e) refl

-- and the values that are held after a call c
module _ (m : Model) (site : Site) (before : Threads) (lent : ℕ) (held : List ℕ) (c : Called) where
  pub held-short : lent < m.t → held ≡ (called_unless_short m site before lent held c).held
  held-short h = rw (lt-ltb lent m.t h) refl

  pub held-enough : (v : List ℕ) → m.t ≤ lent → v ≡ c.held → v ≡ (called_unless_short m site before lent held c).held
  held-enough v h e = rw (le-ltb lent m.t h) e
