-- The calls of a caller who keeps a state as numbers, one law for each exit.
use Prim.Native.Nat.{ℕ, zero, suc, ◌+◌, ◌≤◌, ◌<◌, min}
use mathlib.Core.Logic.{◌⊎◌, inl, inr}
use mathlib.Core.Path.{◌≡◌, refl, ap, sym, ◌∙◌}
use mathlib.Core.Bool.{Bool, true, false, cond, ◌&&◌}
use mathlib.Core.List.{List, [], ◌∷◌}
use native.Mathlib.Nat.{zero-add}
use native.Mathlib.Omega.{arith}
use native.Mathlib.Decide.{ℕ_discrete}
use lib.Dec.{ltb, leb, eqb}
use lib.ListN.{length, get_or, take, drop}
use lib.Seq.{get_or-take, take_at, length-take-le, ext_get_or}
use borrow.Author.Tests.{lt-ltb, eq-eqb, ne_eqb}
use Rattle.base.specs.Index.{or_else, tabulate}
use Rattle.base.proofs.IndexLaws.{or_else-none, or_else-some, tabulate-length, tabulate-at}
use Rattle.clock.specs.declared.Cycle.{Cycle}
use Rattle.model.specs.declared.Model.{Model}
use Rattle.model.specs.declared.Thread.{Thread}
use Rattle.model.specs.declared.Threads.{Threads}
use Rattle.model.specs.Record.{no_thread, thread_at}
use Rattle.model.specs.Refusal.{unfit}
use Rattle.model.specs.Rules.{unless}
use Rattle.model_rules.proofs.RuleLaws.{model_fault-counts}
use Rattle.reader.specs.Read.{Read}
use Rattle.reader.specs.File.{read_file}
use Rattle.reader_laws.proofs.Accepted.{accepted-kept}
use Rattle.tables.specs.Outcome.{conflict_marks}
use Rattle.plain.specs.Start.{fresh_threads}
use Rattle.buffers.specs.Write.{placed_in}
use Rattle.buffers.proofs.WriteLaws.{placed_in-room}
use Rattle.early.specs.declared.Site.{Site}
use Rattle.early.specs.declared.After.{After}
use Rattle.early.specs.declared.Answer.{Answer}
use Rattle.early.specs.declared.Answer.TheVariants.{Granted, Refused}
use Rattle.early.specs.Answer.{number_of, values_of}
use Rattle.early.specs.Request.{Requested, request_of, fresh_site}
use Rattle.early.specs.ByRows.{request_by_rows}
use Rattle.early.specs.declared.Call.{Call}
use Rattle.early.specs.declared.Call.TheVariants.{Both, Finish}
use Rattle.early.specs.Call.{Called, call_of, call_by_rows}
use Rattle.early_request.specs.declared.FreshState.{FreshState}
use Rattle.early_laws.proofs.AgreeLaws.{Agree}
use Rattle.early_laws.proofs.AlikeLaws.{request_of-length}
use Rattle.early_laws.proofs.CallLaws.{call_of-refused, call_by_rows-refused}
use Rattle.early_answer.specs.After.{after_of}
use Rattle.early_request.specs.Fresh.{fresh_of}
use Rattle.early_lent.specs.declared.Lent.{Lent}
use Rattle.early_lent.specs.Answered.{lent_of, request_first}
use Rattle.early_lent.proofs.MovedLaws.{Moves, call_of-moves}
use Rattle.early_lent.proofs.RowsLaws.{request_by_rows-moves, call_by_rows-moves}
use Rattle.replay.specs.declared.Replayed.{Replayed}
use Rattle.replay.specs.Replay.{Keeps}
use Rattle.export_state.specs.Numbers.{log_words, record_words, thread_from, site_from, threads_from, held_threads, are_held}
use Rattle.export_step.specs.Step.{Kept, keeps, has_room, holding, fresh_number, fresh_kept, asked_number, request_by, rows_by, call_by, call_rows_by, request_number, kept_by, started_by, left_by, request_kept, call_kept, request_answer, call_held, replay_number, replay_kept, replay_buffer, Freshens, Requests, Calls, Replays}
use Rattle.export_step.specs.Left.{left_of}
use Rattle.export_state.proofs.TurnLaws.{tabulate-same}

pub holding-stored :
    (site : Site) (ts : List Thread) (b : Kept) (vs ws rs : List ℕ) → vs ≡ placed_in site.variables.at b.variables → ws ≡ placed_in (log_words site) b.log →
    rs ≡ placed_in (record_words ts) b.records → keeps vs ws rs ≡ holding site ts b
unfolding holding
holding-stored site ts b vs ws rs x y z = rw (x, y, z) refl

-- the number of a file that was read: its own, or 11 where what the caller keeps is not fit for its model
module _ (file : List ℕ) (fit : Model → Bool) where
  abbrev pub Opens : ℕ → Type 0
  Opens n = n ≡ or_else (read_file file).number (unless (fit (read_file file).model) unfit)

  pub opened-refused : (r : Read) → r ≡ read_file file → (r.number ≡ 0 → ⊥) → Opens r.number
  opened-refused r read h = rw (← read) (sym (or_else-some r.number _ h))

  pub opened-fit : (r : Read) → r ≡ read_file file → r.number ≡ 0 → fit r.model ≡ true → Opens 0
  opened-fit r read h e = rw (← read, or_else-none r.number _ h, e) refl

  pub opened-unfit : (r : Read) → r ≡ read_file file → r.number ≡ 0 → fit r.model ≡ false → Opens 11
  opened-unfit r read h e = rw (← read, or_else-none r.number _ h, e) refl

-- what it is not fit for: too short, or not those of a state
module _ (file : List ℕ) (b : Kept) (answer : List ℕ) (n : ℕ) where
  pub room-opened : Opens file (λ m. has_room m.t b) n → n ≡ fresh_number file b
  unfolding fresh_number
  room-opened o = o

  pub state-opened : Opens file (λ m. are_held m.t b.variables b.log b.records && leb 3 (length answer)) n → n ≡ asked_number file b answer
  unfolding asked_number
  state-opened o = o

-- fresh
pub holding-same : (f g : FreshState) (t : ℕ) (b kept : Kept) → f ≡ g → kept ≡ holding f.site (take t f.threads.at) b → kept ≡ holding g.site (take t g.threads.at) b
holding-same f g t b kept e h = rw (← e) h

module _ (file : List ℕ) (b : Kept) where
  pub fresh-refused : (n : ℕ) → n ≡ fresh_number file b → (n ≡ 0 → ⊥) → (told : ℕ) → told ≡ n → Freshens file b told b
  unfolding fresh_kept
  fresh-refused n opened h told e = record { number = e ∙ opened; state = rw (← opened, ne_eqb n 0 h) refl }

module _ (file : List ℕ) (b : Kept) (r : Read) where
  fresh-state : r ≡ read_file file → r.number ≡ 0 → fresh_of r.model ≡ record { number = 0; site = fresh_site; threads = record { at = fresh_threads r.model } }
  unfolding fresh_of
  fresh-state read h = rw (eq-eqb _ 0 (rw (← read) at (accepted-kept file (rw read at h)))) refl

  pub fresh-done : 0 ≡ fresh_number file b → r ≡ read_file file → r.number ≡ 0 → (kept : Kept) → kept ≡ holding (fresh_of r.model).site (take r.model.t (fresh_of r.model).threads.at) b → Freshens file b 0 kept
  unfolding fresh_kept
  fresh-done opened read h kept x = record { number = opened; state = x ∙ rw (← opened, fresh-state read h, ← read) refl }

-- a request
pub left_of-made : (x : Lent) (us : Threads) → us.at ≡ take 32 x.records → record { answer = x.asked.answer; site = x.asked.site; threads = us } ≡ left_of x
unfolding left_of
left_of-made x us e = let f : us ≡ record { at = take 32 x.records } = ap (λ (xs : List Thread). record { at = xs }) e in rw f refl

-- the records that are lent are those of the threads, and those that come back
take_more : (n m : ℕ) (xs : List Thread) → n ≤ m → take n (take m xs) ≡ take n xs
take_more zero m xs h = refl
take_more (suc n) zero xs h = absurd (omega arith)
take_more (suc n) (suc m) [] h = refl
take_more (suc n) (suc m) (x ∷ xs) h = ap (λ (ys : List Thread). x ∷ ys) (take_more n m xs (omega arith))

held-front : (ws : List ℕ) (t : ℕ) → t ≤ 40 → take t (held_threads ws t) ≡ threads_from ws t
unfolding held_threads threads_from
held-front ws t few =
    let n : length (take t (tabulate 40 0 f)) ≡ t = length-take-le t (tabulate 40 0 f) (omega (arith, tabulate-length 40 0 f)) in
    sym (tabulate-same no_thread (take t (tabulate 40 0 f)) t (thread_from ws) n (λ k h. sym (get_or-take t (tabulate 40 0 f) k no_thread h ∙ at k h)))
  where
    f : ℕ → Thread
    f k = cond (ltb k t) (thread_from ws k) no_thread

    at : (k : ℕ) → k < t → get_or (tabulate 40 0 f) k no_thread ≡ thread_from ws k
    at k h = tabulate-at 40 0 k f no_thread (omega arith) ∙ (let z : 0 + k ≡ k = zero-add k in rw (z, lt-ltb k t h) refl)

-- what is left on records by value, of which t are the threads', is what a request on those leaves
pub record Right (q : Requested) (t : ℕ) (after : After) : Type 0 where
  pub answer : after.answer ≡ q.answer
  pub site : after.site ≡ q.site
  pub threads : take t after.threads.at ≡ q.threads

-- and what a call leaves, with the values that are held before and after it
pub record RightCall (q : Called) (t : ℕ) (held : List ℕ) (after : After) (holds : List ℕ) : Type 0 where
  pub left : Right q.left t after
  pub values : holds ≡ q.held
  pub refused : (number_of q.left.answer ≡ 0 → ⊥) → q.held ≡ held

module _ (m : Model) (few : m.t ≤ 32) (marks : List (List Bool)) (ws : List ℕ) (site : Site) (rs : List ℕ) (k : ℕ) where
  lent_is : request_first m marks ws site (held_threads rs m.t) m.t k ≡ lent_of (request_of m marks ws site (threads_from rs m.t) k) (drop m.t (held_threads rs m.t))
  unfolding request_first
  lent_is =
      let n : min m.t 40 ≡ m.t = omega arith in
      rw (n, held-front rs m.t (omega arith)) refl

  lent_back : take m.t (take 32 (request_first m marks ws site (held_threads rs m.t) m.t k).records) ≡ (request_of m marks ws site (threads_from rs m.t) k).threads
  unfolding threads_from
  lent_back =
      let r : List Thread = (request_of m marks ws site (threads_from rs m.t) k).threads in
      let n : length r ≡ m.t = request_of-length m marks ws site k (threads_from rs m.t) ∙ tabulate-length m.t 0 (thread_from rs) in
      take_more m.t 32 (request_first m marks ws site (held_threads rs m.t) m.t k).records few ∙ rw lent_is (take_at r (drop m.t (held_threads rs m.t)) m.t n)

  -- the first 32 of what comes back, as a request by value leaves it
  pub lent-left : Right (request_of m marks ws site (threads_from rs m.t) k) m.t (left_of (request_first m marks ws site (held_threads rs m.t) m.t k))
  unfolding left_of
  lent-left =
      record {
        answer = ap (λ (x : Lent). x.asked.answer) lent_is;
        site = ap (λ (x : Lent). x.asked.site) lent_is;
        threads = lent_back;
      }

-- on 32 records by value of which the first are those of the threads
module _ (m : Model) (few : m.t ≤ 32) (rs : List ℕ) where
  abbrev by_value : List Thread
  by_value = take 32 (held_threads rs m.t)

  agree : Agree m by_value (threads_from rs m.t)
  unfolding thread_at threads_from held_threads
  agree =
      record {
        left = omega (arith, length-take-le 32 (held_threads rs m.t) (omega (arith, tabulate-length 40 0 f)));
        right = omega (arith, tabulate-length m.t 0 (thread_from rs));
        same = λ j h.
            get_or-take 32 (held_threads rs m.t) j no_thread (omega arith)
            ∙ (sym (get_or-take m.t (held_threads rs m.t) j no_thread h) ∙ ap (λ (xs : List Thread). get_or xs j no_thread) (held-front rs m.t (omega arith)));
      }
    where
      f : ℕ → Thread
      f k = cond (ltb k m.t) (thread_from rs k) no_thread

  -- a call Q on records, which reads and writes those of the threads alone
  value-right :
      (site : Site) (held : List ℕ) (Q : List Thread → Called) → Moves m site held Q → ((ts : List Thread) → (number_of (Q ts).left.answer ≡ 0 → ⊥) → (Q ts).held ≡ held) →
      RightCall (Q (threads_from rs m.t)) m.t held (after_of (Q by_value).left) (Q by_value).held
  unfolding after_of thread_at threads_from
  value-right site held Q laws refused =
      let alike = laws.unread by_value (threads_from rs m.t) agree in
      let ends = (Q (threads_from rs m.t)).left.threads in
      let long : length ends ≡ m.t = laws.long (threads_from rs m.t) ∙ tabulate-length m.t 0 (thread_from rs) in
      let whole = (Q by_value).left.threads in
      let front : length (take m.t whole) ≡ m.t = length-take-le m.t whole alike.left.threads.left in
      record {
        left = record {
          answer = alike.left.answer;
          site = alike.left.site;
          threads =
              ext_get_or no_thread (take m.t whole) ends (front ∙ sym long)
              (λ j h. let l : j < m.t = omega arith in get_or-take m.t whole j no_thread l ∙ alike.left.threads.same j l);
        };
        values = alike.held;
        refused = refused (threads_from rs m.t);
      }

module _ (file : List ℕ) (q : Requested) (b : Kept) (answer : List ℕ) where
  pub request-refused : (n : ℕ) → n ≡ asked_number file b answer → (n ≡ 0 → ⊥) → (told : ℕ) → told ≡ n → Requests file q b answer told b answer
  unfolding request_number request_kept request_answer
  request-refused n opened h told e =
      record { number = rw (e, ← opened) (sym (or_else-some n _ h)); state = rw (← opened, ne_eqb n 0 h) refl; answered = rw (← opened, ne_eqb n 0 h) refl }

  -- what is left of the records by value is the request's
  pub request-answered :
      0 ≡ asked_number file b answer → (t : ℕ) (after : After) → Right q t after → (n : ℕ) (kept : Kept) (end : List ℕ) → n ≡ number_of after.answer →
      kept ≡ kept_by after.answer after.site (take t after.threads.at) b → end ≡ placed_in (values_of after.answer) answer →
      Requests file q b answer n kept end
  unfolding request_number request_kept request_answer
  request-answered opened t after right n kept end x y z =
      let a : asked_number file b answer ≡ 0 = sym opened in
      record {
        number = rw (x, right.answer, a, or_else-none 0 _ refl) refl;
        state = rw (y, right.threads, right.answer, right.site, a) refl;
        answered = rw (z, right.answer, a) refl;
      }

-- an accepted file has at most 32 threads
few_threads : (file : List ℕ) (r : Read) → r ≡ read_file file → r.number ≡ 0 → r.model.t ≤ 32
few_threads file r read h = (model_fault-counts r.model (rw (← read) at (accepted-kept file (rw read at h)))).threads

-- the requests of the two entries
module _ (file : List ℕ) (b : Kept) (k : ℕ) (r : Read) (read : r ≡ read_file file) (h : r.number ≡ 0) where
  pub words_right : (words : List ℕ) (after : After)
      → after ≡ left_of (request_first r.model (conflict_marks r.model) words (site_from b.variables b.log) (held_threads b.records r.model.t) r.model.t k)
      → Right (request_by file words b k) r.model.t after
  unfolding request_by
  words_right words after e = rw (e, ← read) (lent-left r.model (few_threads file r read h) (conflict_marks r.model) words (site_from b.variables b.log) b.records k)

  pub rows_right : (lent : ℕ) (after : After)
      → after ≡ after_of (request_by_rows r.model (conflict_marks r.model) lent (site_from b.variables b.log) (take 32 (held_threads b.records r.model.t)) k)
      → Right (rows_by file lent b k) r.model.t after
  unfolding rows_by
  rows_right lent after e =
      let site = site_from b.variables b.log in
      rw (e, ← read) (value-right r.model (few_threads file r read h) b.records site [] _ (request_by_rows-moves r.model (conflict_marks r.model) lent site k) (λ ts other. refl)).left

-- the calls of the two entries
module _ (file : List ℕ) (b : Kept) (held : List ℕ) (call : Call) (r : Read) (read : r ≡ read_file file) (h : r.number ≡ 0) where
  abbrev m : Model
  m = r.model

  abbrev site : Site
  site = site_from b.variables b.log

  abbrev own : List Thread
  own = take 32 (held_threads b.records m.t)

  pub call-right : (words : List ℕ) (after : After) (holds : List ℕ) → after ≡ after_of (call_of m (conflict_marks m) words site own held call).left
      → holds ≡ (call_of m (conflict_marks m) words site own held call).held → RightCall (call_by file words b held call) m.t held after holds
  unfolding call_by
  call-right words after holds e f =
      rw (e, f, ← read)
      (value-right m (few_threads file r read h) b.records site held _ (call_of-moves m (conflict_marks m) words site held call)
      (λ ts other. ap (λ (x : Called). x.held) (call_of-refused m (conflict_marks m) words site ts held call other)))

  pub call-rows-right : (lent : ℕ) (after : After) (holds : List ℕ) → after ≡ after_of (call_by_rows m (conflict_marks m) lent site own held call).left
      → holds ≡ (call_by_rows m (conflict_marks m) lent site own held call).held → RightCall (call_rows_by file lent b held call) m.t held after holds
  unfolding call_rows_by
  call-rows-right lent after holds e f =
      rw (e, f, ← read)
      (value-right m (few_threads file r read h) b.records site held _ (call_by_rows-moves m (conflict_marks m) lent site held call)
      (λ ts other. ap (λ (x : Called). x.held) (call_by_rows-refused m (conflict_marks m) lent site ts held call other)))

-- a call is answered as the request that it makes
module _ (file : List ℕ) (call : Call) (q : Called) (b : Kept) (held answer : List ℕ) where
  pub call-refused : (n : ℕ) → n ≡ asked_number file b answer → (n ≡ 0 → ⊥) → (told : ℕ) → told ≡ n → Calls file call q b held answer told b held answer
  unfolding call_held call_kept request_number
  call-refused n opened h told e =
      let k : or_else (asked_number file b answer) (number_of q.left.answer) ≡ n = rw (← opened) (or_else-some n _ h) in
      let asked = request-refused file q.left b answer n opened h told e in
      record { number = asked.number; state = rw (← opened, ne_eqb n 0 h) refl; answered = asked.answered; values = rw (k, ne_eqb n 0 h) refl }

  pub call-answered :
      0 ≡ asked_number file b answer → (t : ℕ) (after : After) (holds : List ℕ) → RightCall q t held after holds → (n : ℕ) (kept : Kept) (end : List ℕ) → n ≡ number_of after.answer →
      kept ≡ left_by call after.answer after.site (take t after.threads.at) b → end ≡ placed_in (values_of after.answer) answer →
      Calls file call q b held answer n kept holds end
  unfolding call_held call_kept request_number
  call-answered opened t after holds right n kept end x y z =
      let a : asked_number file b answer ≡ 0 = sym opened in
      let asked = request-answered file q.left b answer opened t after right.left n _ end x refl z in
      record {
        number = asked.number;
        state = rw (y, right.left.threads, right.left.answer, right.left.site, a) refl;
        answered = asked.answered;
        values = rw (a, or_else-none 0 (number_of q.left.answer) refl) (go (ℕ_discrete (number_of q.left.answer) 0));
      }
    where
      go : Dec (number_of q.left.answer ≡ 0) → holds ≡ cond (eqb (number_of q.left.answer) 0) q.held held
      go (yes e) = rw (eq-eqb _ 0 e) right.values
      go (no e) = rw (ne_eqb _ 0 e) (right.values ∙ right.refused e)

-- an answer: a grant, written
pub answer-granted :
    (a : Answer) (answer end : List ℕ) (s : ℕ) (c : Cycle) → a ≡ Granted s c → end ≡ placed_in (values_of (Granted s c)) answer →
    (0 ≡ number_of a) × (end ≡ placed_in (values_of a) answer)
answer-granted a answer end s c e w = (rw e refl, rw e w)

-- or a refusal, and nothing written
pub answer-refused : (a : Answer) (answer : List ℕ) (n : ℕ) → a ≡ Refused n → (n ≡ number_of a) × (answer ≡ placed_in (values_of a) answer)
answer-refused a answer n e = (rw e refl, rw e (sym (placed_in-room [] answer (omega arith))))

-- what is no grant leaves the buffers as they were
pub kept_by-other : (a : Answer) (site : Site) (ts : List Thread) (b : Kept) → ((s : ℕ) (c : Cycle) → a ≡ Granted s c → ⊥) → b ≡ kept_by a site ts b
kept_by-other (Granted s c) _ ts b h = absurd (h s c refl)
kept_by-other (Refused n) _ ts b h = refl

pub started_by-other : (a : Answer) (ts : List Thread) (b : Kept) → ((s : ℕ) (c : Cycle) → a ≡ Granted s c → ⊥) → b ≡ started_by a ts b
started_by-other (Granted s c) ts b h = absurd (h s c refl)
started_by-other (Refused n) ts b h = refl

-- a request and a finish leave the whole state
pub left_by-state :
    (call : Call) (a : Answer) (site : Site) (ts : List Thread) (b kept : Kept) → ((k : ℕ) × (call ≡ Both k)) ⊎ ((k : ℕ) × (call ≡ Finish k)) →
    kept ≡ kept_by a site ts b → kept ≡ left_by call a site ts b
left_by-state call a _ ts b kept (inl (k, e)) h = rw e h
left_by-state call a _ ts b kept (inr (k, e)) h = rw e h

-- a whole list
module _ (file held calls : List ℕ) (d : Replayed) (b : Kept) where
  replay_kept-refused : (n : ℕ) → replay_number file d b ≡ n → (n ≡ 0 → ⊥) → b ≡ replay_kept file d b
  unfolding replay_kept
  replay_kept-refused n e h = rw (e, ne_eqb n 0 h) refl

  -- the file is refused, or a buffer of the state is too short
  module _ (n : ℕ) (opened : n ≡ fresh_number file b) (h : n ≡ 0 → ⊥) where
    pub replay-unopened : (told : ℕ) → told ≡ n → Replays file held calls d b told b held
    unfolding replay_number
    replay-unopened told e =
        let k : replay_number file d b ≡ n = rw (← opened) (or_else-some n _ h) in
        record { number = e ∙ sym k; state = replay_kept-refused n k h; listed = λ z. absurd (h (sym e ∙ z)) }

    pub buffer-left : (after before : List ℕ) → before ≡ replay_buffer file b after before
    unfolding replay_buffer
    buffer-left after before = rw (← opened, ne_eqb n 0 h) refl

  module _ (opened : 0 ≡ fresh_number file b) where
    replay_number-on : replay_number file d b ≡ d.number
    unfolding replay_number
    replay_number-on = rw (← opened) (or_else-none 0 d.number refl)

    pub buffer-made : (now after before : List ℕ) → now ≡ after → now ≡ replay_buffer file b after before
    unfolding replay_buffer
    buffer-made now after before e = rw (← opened) e

    module _ (left : Replayed) (same : left ≡ d) where
      pub replay-refused : (left.number ≡ 0 → ⊥) → (holds : List ℕ) → Replays file held calls d b left.number b holds
      replay-refused other holds =
          let n : replay_number file d b ≡ left.number = replay_number-on ∙ sym (ap (λ (x : Replayed). x.number) same) in
          record { number = sym n; state = replay_kept-refused left.number n other; listed = λ z. absurd (other z) }

      pub replay-done :
          (r : Read) → r ≡ read_file file → left.number ≡ 0 → (holds : List ℕ) → Keeps r.model held calls left holds → (kept : Kept) → kept ≡ holding left.site (take r.model.t left.threads.at) b →
          Replays file held calls d b left.number kept holds
      unfolding replay_kept
      replay-done r read z holds list kept k =
          let n : replay_number file d b ≡ 0 = replay_number-on ∙ (sym (ap (λ (x : Replayed). x.number) same) ∙ z) in
          record {
            number = z ∙ sym n;
            state = k ∙ rw (n, same, read) refl;
            listed = λ e. rw (← read) (record { state = k ∙ rw (list.site, list.threads) refl; values = list.values; claim = list.claim });
          }
