-- A list of calls, from a call on: 11 is not asked again, as a call leaves a fit state fit.
--     neither, segment-at     what a call is asked with
--     going_start, going_more, going_done     the loop over the list
--     calls-short, calls-made, calls_same, calls-refused     for the code: the exits
use Prim.Native.Nat.{ℕ, zero, suc, ◌+◌, ◌*◌, ◌<◌, ◌≤◌}
use mathlib.Core.Path.{◌≡◌, refl, ap, sym, ◌∙◌, subst}
use mathlib.Core.Bool.{Bool, true, false, cond, ◌||◌}
use mathlib.Core.List.{List, [], ◌∷◌, ◌++◌, map}
use native.Mathlib.Omega.{arith}
use native.Mathlib.Numerals.{add-one}
use lib.Dec.{T, ltb}
use lib.ListN.{length, get_or, drop, replicate, drop_of_length-le}
use lib.Seq.{sets, length-sets, sets-eq, drop-cons}
use borrow.Author.Tests.{lt-ltb, le-ltb}
use Rattle.model.specs.declared.Model.{Model}
use Rattle.model.specs.declared.Thread.{Thread}
use Rattle.model.specs.declared.Threads.{Threads}
use Rattle.model.specs.Record.{thread_at}
use Rattle.early.specs.declared.Site.{Site}
use Rattle.early.specs.declared.Answer.{Answer}
use Rattle.early.specs.declared.Answer.TheVariants.{Granted, Refused}
use Rattle.early.specs.declared.Call.{Call}
use Rattle.early.specs.declared.After.{After}
use Rattle.early.specs.Call.{Called, called_with, call_fit, call_of, Served, served_by, call_at}
use Rattle.early_laws.proofs.CallLaws.{Fitting, call_of-fitting, call_of-held-length}
use Rattle.early_answer.specs.After.{after_of}
use Rattle.early_list.specs.declared.Outcome.{Outcome}
use Rattle.early_list.specs.Answers.{answer_words, answers_words, grants_in, granted_in, is_short, left_by, outcome_of, held_in, answers_in}
use Rattle.early_list.proofs.AnswerWordLaws.{words-next, words-done, answers_words-length}
use Rattle.early_list.proofs.KeepsLaws.{call-keeps}

pub grants_in-≤ : {x : ℕ} (a : Answer) → x ≡ grants_in a → x ≤ 1
grants_in-≤ (Granted s c) e = omega arith
grants_in-≤ (Refused n) e = omega arith

-- neither the state nor what is held
pub neither : (a b : Bool) → (a || b) ≡ false → (a ≡ false) × (b ≡ false)
neither true b e = absurd (subst T e tt)
neither false b e = (refl, e)

-- the segment that a thread is in, by its number
pub segment-at : (t : ℕ) (ts : List Thread) (k i s : ℕ) → i ≡ k → s ≡ cond (ltb i t) (thread_at ts i).segment 0 → s ≡ cond (ltb k t) (thread_at ts k).segment 0
segment-at t ts k i s e f = rw (← e) f

module _ (m : Model) (marks : List (List Bool)) (ws : List ℕ) where
  -- what the calls of these words leave
  abbrev pub served : Site → List Thread → List ℕ → List ℕ → Served
  served site ts held calls = served_by (call_of m marks ws) site ts held (map call_at calls)

  -- one call more
  served-more : (site : Site) (ts : List Thread) (held calls : List ℕ) (i : ℕ) → i < length calls
      → served site ts held (drop i calls) ≡ served site ts held (get_or calls i 0 ∷ drop (i + 1) calls)
  served-more site ts held calls i h = rw (add-one, drop-cons calls i 0 h) refl

  module _ (site₀ : Site) (ts₀ : List Thread) (held₀ calls b₀ : List ℕ) where
    -- all of them, and those from i on
    abbrev all : Served
    all = served site₀ ts₀ held₀ calls

    -- the calls from i on are still to come
    pub record Going (b : List ℕ) (site : Site) (ts : List Thread) (held : List ℕ) (g i : ℕ) : Type 0 where
      pub upto : i ≤ length calls
      pub size : length b ≡ length b₀
      pub many : length held ≡ length held₀
      pub fit : Fitting m ws site ts held
      pub few : g ≤ i
      pub words : sets b (5 * i) (answers_words (drop i calls) (served site ts held (drop i calls)).listed.answers) ≡ sets b₀ 0 (answers_words calls all.listed.answers)
      pub grants : g + granted_in (served site ts held (drop i calls)).listed.answers ≡ granted_in all.listed.answers
      pub same-site : (served site ts held (drop i calls)).listed.site ≡ all.listed.site
      pub same-threads : (served site ts held (drop i calls)).listed.threads ≡ all.listed.threads
      pub same-held : (served site ts held (drop i calls)).held ≡ all.held

    pub going_start : Fitting m ws site₀ ts₀ held₀ → Going b₀ site₀ ts₀ held₀ 0 0
    going_start e =
        record {
          upto = omega arith;
          size = refl;
          many = refl;
          fit = e;
          few = omega arith;
          words = refl;
          grants = omega arith;
          same-site = refl;
          same-threads = refl;
          same-held = refl;
        }

    module _ (b : List ℕ) (site : Site) (ts : List Thread) (held : List ℕ) (g i : ℕ) (so : Going b site ts held g i) where
      -- the next call
      abbrev next : Called
      next = call_of m marks ws site ts held (call_at (get_or calls i 0))

      step : (bs : List ℕ) (x : ℕ) → i < length calls → bs ≡ sets b (5 * i) (answer_words (get_or calls i 0) next.left.answer) → x ≡ grants_in next.left.answer
          → Going bs next.left.site next.left.threads next.held (g + x) (i + 1)
      unfolding served_by granted_in
      step bs x h p q =
          let r = served next.left.site next.left.threads next.held (drop (i + 1) calls) in
          let e = served-more site ts held calls i h in
          let counted = ap (λ (y : Served). granted_in y.listed.answers) e in
          record {
            upto = omega arith;
            size = ap length p ∙ (length-sets b (5 * i) (answer_words (get_or calls i 0) next.left.answer) ∙ so.size);
            many = call_of-held-length m marks ws site ts held (call_at (get_or calls i 0)) ∙ so.many;
            fit = call-keeps m marks ws site ts held (call_at (get_or calls i 0)) so.fit;
            few = omega (arith, so.few, grants_in-≤ next.left.answer q);
            words =
                words-next b bs calls i next.left.answer r.listed.answers h p
                ∙ (ap (λ (y : Served). sets b (5 * i) (answers_words (drop i calls) y.listed.answers)) (sym e) ∙ so.words);
            grants = rw q (omega (arith, counted, so.grants));
            same-site = ap (λ (y : Served). y.listed.site) (sym e) ∙ so.same-site;
            same-threads = ap (λ (y : Served). y.listed.threads) (sym e) ∙ so.same-threads;
            same-held = ap (λ (y : Served). y.held) (sym e) ∙ so.same-held;
          }

      pub going_more : (call : Call) (a : After) (hs bs : List ℕ) (x : ℕ) → i < length calls → call ≡ call_at (get_or calls i 0)
          → a ≡ after_of (call_fit m marks ws site ts held call).left → hs ≡ (call_fit m marks ws site ts held call).held
          → bs ≡ sets b (5 * i) (answer_words (get_or calls i 0) a.answer) → x ≡ grants_in a.answer → Going bs a.site a.threads.at hs (g + x) (i + 1)
      unfolding after_of
      going_more call a hs bs x h same e f p q =
          let fits : call_fit m marks ws site ts held call ≡ next = sym (call_of-fitting m marks ws site ts held call so.fit) ∙ ap (call_of m marks ws site ts held) same in
          let left : a ≡ after_of next.left = e ∙ ap (λ (y : Called). after_of y.left) fits in
          rw (f ∙ ap (λ (y : Called). y.held) fits)
          (subst
          (λ (y : After). Going bs y.site y.threads.at next.held (g + x) (i + 1))
          (sym left)
          (step bs x h (p ∙ ap (λ (y : After). sets b (5 * i) (answer_words (get_or calls i 0) y.answer)) left) (q ∙ ap (λ (y : After). grants_in y.answer) left)))

      pub going_done : (us : Threads) → us.at ≡ ts → length calls ≤ i
          → (record { number = 0; granted = g; site = site; threads = us } ≡ left_by all.listed) × (held ≡ all.held) × (b ≡ sets b₀ 0 (answers_words calls all.listed.answers))
      unfolding served_by granted_in
      going_done us f h =
          let e : served site ts held (drop i calls) ≡ served site ts held [] = ap (served site ts held) (drop_of_length-le calls h) in
          let counted = ap (λ (y : Served). granted_in y.listed.answers) e in
          let granted : g ≡ granted_in all.listed.answers = omega (arith, so.grants, counted) in
          let left : site ≡ all.listed.site = ap (λ (y : Served). y.listed.site) (sym e) ∙ so.same-site in
          let stay : us ≡ record { at = all.listed.threads } =
          ap (λ (xs : List Thread). record { at = xs }) (f ∙ (ap (λ (y : Served). y.listed.threads) (sym e) ∙ so.same-threads)) in (
            rw (granted, left, stay) refl,
            ap (λ (y : Served). y.held) (sym e) ∙ so.same-held,
            sym (words-done b calls i (served site ts held (drop i calls)).listed.answers h) ∙ so.words,
          )

-- a number that changes nothing is every answer
module _ (ask : Site → List Thread → List ℕ → Call → Called) (n : ℕ) (site : Site) (ts : List Thread) (held : List ℕ) (each : (c : Call) → ask site ts held c ≡ called_with n site ts held) where
  pub record AllRefused (r : Served) (count : ℕ) : Type 0 where
    pub answers : r.listed.answers ≡ replicate count (Refused n)
    pub same-site : r.listed.site ≡ site
    pub same-threads : r.listed.threads ≡ ts
    pub same-held : r.held ≡ held

  pub all-refused : (calls : List ℕ) → AllRefused (served_by ask site ts held (map call_at calls)) (length calls)
  unfolding served_by
  all-refused [] = record { answers = refl; same-site = refl; same-threads = refl; same-held = refl }
  all-refused (w ∷ calls) =
      let rest = all-refused calls in
      rw (each (call_at w))
      (record {
        answers = ap (λ (xs : List Answer). Refused n ∷ xs) rest.answers;
        same-site = rest.same-site;
        same-threads = rest.same-threads;
        same-held = rest.same-held;
      })

none-granted : (n count : ℕ) → granted_in (replicate count (Refused n)) ≡ 0
unfolding granted_in
none-granted n zero = refl
none-granted n (suc count) = omega (arith, none-granted n count)

answers-length : (ask : Site → List Thread → List ℕ → Call → Called) (calls : List ℕ) (site : Site) (ts : List Thread) (held : List ℕ)
    → length (served_by ask site ts held (map call_at calls)).listed.answers ≡ length calls
unfolding served_by
answers-length ask [] site ts held = refl
answers-length ask (w ∷ calls) site ts held =
    let a = ask site ts held (call_at w) in
    ap suc (answers-length ask calls a.left.site a.left.threads a.held)

-- for the code: the exits
module _ (ask : Site → List Thread → List ℕ → Call → Called) (site : Site) (threads : Threads) (held calls b : List ℕ) where
  abbrev every : Served
  every = served_by ask site threads.at held (map call_at calls)

  abbrev Left : Outcome → List ℕ → List ℕ → Type 0
  Left r hs bs = (r ≡ outcome_of every site threads.at calls b) × (hs ≡ held_in every held calls b) × (bs ≡ answers_in every calls b)

  pub calls-short : (r : Outcome) → r ≡ record { number = 11; granted = 0; site = site; threads = threads } → length b < 5 * length calls → Left r held b
  unfolding outcome_of held_in answers_in is_short
  calls-short r e h = rw (e, lt-ltb (length b) (5 * length calls) h) (refl, refl, refl)

  module _ (h : 5 * length calls ≤ length b) where
    pub calls-made : (r : Outcome) (hs bs : List ℕ) → r ≡ left_by every.listed → hs ≡ every.held → bs ≡ sets b 0 (answers_words calls every.listed.answers) → Left r hs bs
    unfolding outcome_of held_in answers_in is_short
    calls-made r hs bs p o q =
        let xs = answers_words calls every.listed.answers in
        let size : length xs ≡ 5 * length calls = answers_words-length calls every.listed.answers (answers-length ask calls site threads.at held) in
        let f : 0 + length xs ≡ 5 * length calls = omega arith in
        rw (le-ltb (length b) (5 * length calls) h)
        (p, o, q ∙ (sets-eq xs b 0 (omega arith) ∙ ap (λ (n : ℕ). xs ++ drop n b) f))

    -- the same list, asked otherwise
    pub calls_same : (r : Served) → every ≡ r → (o : Outcome) (hs bs : List ℕ) → o ≡ left_by r.listed → hs ≡ r.held → bs ≡ sets b 0 (answers_words calls r.listed.answers) → Left o hs bs
    calls_same r e o hs bs p f q = calls-made o hs bs (rw e p) (rw e f) (rw e q)

    pub calls-refused : (n : ℕ) → ((c : Call) → ask site threads.at held c ≡ called_with n site threads.at held) → (r : Outcome) (bs : List ℕ)
        → r ≡ record { number = 0; granted = 0; site = site; threads = threads } → bs ≡ sets b 0 (answers_words calls (replicate (length calls) (Refused n))) → Left r held bs
    calls-refused n each r bs e q =
        let said = all-refused ask n site threads.at held each calls in
        let none : granted_in every.listed.answers ≡ 0 = ap granted_in said.answers ∙ none-granted n (length calls) in
        calls-made r held bs
        (e ∙ rw (none, said.same-site, said.same-threads) refl)
        (sym said.same-held)
        (q ∙ ap (λ (xs : List Answer). sets b 0 (answers_words calls xs)) (sym said.answers))
