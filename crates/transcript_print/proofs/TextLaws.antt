-- What is printed: of too many labels, of a refused file, of the whole list.
use Prim.Native.Nat.{ℕ, ◌*◌, ◌≤◌, ◌<◌}
use mathlib.Core.Path.{◌≡◌, refl, sym, ap, ◌∙◌}
use mathlib.Core.Bool.{false, or-true}
use mathlib.Core.Logic.{⊎_elim}
use mathlib.Core.List.{List, ◌++◌}
use native.Mathlib.Nat.{mul-le-mul}
use native.Mathlib.Omega.{arith}
use lib.Dec.{eqb, eqb→eq, T_not}
use lib.ListN.{length, take, drop, replicate, length-append, length-drop}
use lib.Seq.{take_at}
use borrow.Author.Tests.{lt-ltb, le-ltb, eq-eqb, ne_eqb}
use Rattle.base.proofs.BoolLaws.{T-case, eq→eqb}
use Rattle.model.specs.declared.Model.{Model}
use Rattle.model_rules.proofs.RuleLaws.{model_fault-counts}
use Rattle.reader.specs.File.{read_file}
use Rattle.reader_laws.proofs.Accepted.{accepted-kept}
use Rattle.tables.specs.Outcome.{is_short, distances_number}
use Rattle.tables.proofs.OutcomeLaws.{if_held-yes}
use Rattle.sheet.specs.Sheet.{refused_line}
use Rattle.early.specs.Call.{is_unfit_held}
use Rattle.early_list.specs.Answers as list
use Rattle.early_list.specs.Answers.{answers_words}
use Rattle.replay.specs.declared.Replayed.{Replayed}
use Rattle.replay.specs.Replay.{served_on, done_on, is_unfit_lent, number_on, replayed_on, answers_on, replayed_of, answers_after}
use Rattle.transcript.specs.Transcript.{most_requests, transcript_of}
use Rattle.transcript_print.specs.Text.{call_words, replay_text}
use Rattle.transcript_print.proofs.LabelLaws.{call_words-length}

done-number : (m : Model) (held calls : List ℕ) → (done_on m held calls).number ≡ 0
unfolding done_on
done-number m held calls = refl

-- 4,096 words are enough for the tables of every accepted file
is_short-never : (m : Model) (words : List ℕ) → m.n ≤ 64 → 4096 ≤ length words → is_short m words ≡ false
unfolding is_short
is_short-never m words few room =
    let h : m.n * m.n ≤ 64 * 64 = mul-le-mul few few in
    le-ltb (length words) (m.n * m.n) (omega arith)

-- 2,048 held values are enough for its threads
is_unfit_lent-never : (m : Model) (held calls answers : List ℕ) → m.t ≤ 32 → 2048 ≤ length held → 5 * length calls ≤ length answers → is_unfit_lent m held calls answers ≡ false
unfolding is_unfit_lent is_unfit_held list.is_short
is_unfit_lent-never m held calls answers few room fits = rw (le-ltb (length answers) (5 * length calls) fits, le-ltb (length held) (64 * m.t) (omega arith)) refl

module _ (file words held : List ℕ) (room : 4096 ≤ length words) (sets : 2048 ≤ length held) where
  module _ (calls answers : List ℕ) (fits : 5 * length calls ≤ length answers) where
    number-accepted : (read_file file).number ≡ 0 → number_on (read_file file).model words held calls answers ≡ 0
    unfolding number_on distances_number
    number-accepted z =
        let m = (read_file file).model in
        let kept = accepted-kept file z in
        let counts = model_fault-counts m kept in
        rw (is_unfit_lent-never m held calls answers counts.threads sets fits)
        (if_held-yes m _ _ kept ∙ rw (is_short-never m words counts.segments room) refl)

    replayed-accepted : (read_file file).number ≡ 0 → replayed_of file words held calls answers ≡ done_on (read_file file).model held calls
    unfolding replayed_of replayed_on
    replayed-accepted z = rw (eq-eqb (read_file file).number 0 z, number-accepted z) refl

    answers-accepted : (read_file file).number ≡ 0
        → answers_after file words held calls answers ≡ answers_words calls (served_on (read_file file).model held calls).listed.answers ++ drop (5 * length calls) answers
    unfolding answers_after answers_on
    answers-accepted z = rw (eq-eqb (read_file file).number 0 z, number-accepted z) refl

    replayed-refused : ((read_file file).number ≡ 0 → ⊥) → (replayed_of file words held calls answers).number ≡ (read_file file).number
    unfolding replayed_of
    replayed-refused h = rw (ne_eqb (read_file file).number 0 h) refl

    -- the number is the reader's
    replayed-number : (replayed_of file words held calls answers).number ≡ (read_file file).number
    replayed-number =
        ⊎_elim
        (λ t. accepts (eqb→eq (read_file file).number 0 t))
        (λ t. replayed-refused (λ z. T_not (eqb (read_file file).number 0) t (eq→eqb (read_file file).number 0 z)))
        (T-case (eqb (read_file file).number 0))
      where
        accepts : (read_file file).number ≡ 0 → (replayed_of file words held calls answers).number ≡ (read_file file).number
        accepts z = ap (λ (r : Replayed). r.number) (replayed-accepted z) ∙ done-number (read_file file).model held calls ∙ sym z

-- too many labels, or too few kinds
pub text-long : (file kinds labels : List ℕ) → most_requests < length labels → refused_line 11 ≡ replay_text file kinds labels
unfolding replay_text
text-long file kinds labels h = rw (lt-ltb most_requests (length labels) h) refl

pub text-unkind : (file kinds labels : List ℕ) → length kinds < length labels → refused_line 11 ≡ replay_text file kinds labels
unfolding replay_text
text-unkind file kinds labels h = rw (lt-ltb (length kinds) (length labels) h, or-true) refl

module _ (file kinds labels words answers : List ℕ) (few : length labels ≤ most_requests) (each : length labels ≤ length kinds) (room : 4096 ≤ length words) (fits : 5120 ≤ length answers) (r : Replayed) (e : r ≡ replayed_of file words (replicate 2048 0) (call_words kinds labels) answers) where
  enough : 5 * length (call_words kinds labels) ≤ length answers
  enough = rw (call_words-length kinds labels) (omega arith)

  number : r.number ≡ (read_file file).number
  number = ap (λ (x : Replayed). x.number) e ∙ replayed-number file words (replicate 2048 0) room (omega arith) (call_words kinds labels) answers enough

  -- a refused file
  pub text-refused : (r.number ≡ 0 → ⊥) → refused_line r.number ≡ replay_text file kinds labels
  unfolding replay_text
  text-refused h =
      let g : (read_file file).number ≡ 0 → ⊥ = rw number at h in
      rw (le-ltb most_requests (length labels) few, le-ltb (length kinds) (length labels) each, ne_eqb (read_file file).number 0 g, number) refl

  -- the whole list, from the words that hold its answers
  pub text-done :
      r.number ≡ 0 → (bs : List ℕ) → bs ≡ answers_after file words (replicate 2048 0) (call_words kinds labels) answers → length bs ≡ length answers →
      transcript_of labels (take (5 * length labels) bs) r.v r.t r.site r.threads.at ≡ replay_text file kinds labels
  unfolding replay_text done_on
  text-done z bs p l =
      let calls = call_words kinds labels in
      let g : (read_file file).number ≡ 0 = sym number ∙ z in
      let q = replayed-accepted file words (replicate 2048 0) room (omega arith) calls answers enough g in
      let a = answers_words calls (served_on (read_file file).model (replicate 2048 0) calls).listed.answers in
      let b : bs ≡ a ++ drop (5 * length labels) answers = rw (call_words-length kinds labels) at (p ∙ answers-accepted file words (replicate 2048 0) room (omega arith) calls answers enough g) in
      let n : length a ≡ 5 * length labels = omega (arith, l, ap length b, length-append a (drop (5 * length labels) answers), length-drop (5 * length labels) answers) in
      let t : take (5 * length labels) bs ≡ a = rw b (take_at a (drop (5 * length labels) answers) (5 * length labels) n) in
      rw (le-ltb most_requests (length labels) few, le-ltb (length kinds) (length labels) each, eq-eqb (read_file file).number 0 g, t, e ∙ q) refl
