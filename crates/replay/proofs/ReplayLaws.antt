-- The exits of `replay_on`: what is lent is too short, no table, the whole list; the same of `replay_by_rows`. Those of `replay`: a refused file, its model's.
-- Assumes nothing.
use Prim.Native.Nat.{ℕ, ◌*◌, ◌≤◌, ◌<◌}
use mathlib.Core.Path.{◌≡◌, refl, sym, ap, ◌∙◌}
use mathlib.Core.Bool.{Bool, true, false, cond, ◌||◌}
use mathlib.Core.List.{List, map}
use native.Mathlib.Nat.{mul-le-mul}
use native.Mathlib.Decide.{ℕ_discrete}
use native.Mathlib.Omega.{arith}
use lib.Dec.{ltb}
use lib.ListN.{length, take, drop, length-append}
use lib.Seq.{take_at}
use borrow.Author.Tests.{ltb-false, lt-ltb, le-ltb, eq-eqb, ne_eqb}
use Rattle.base.proofs.BoolLaws.{T→false, false→T, not-or→both}
use Rattle.model.specs.declared.Model.{Model}
use Rattle.model.specs.Rules.{model_fault}
use Rattle.reader.specs.Read.{Read}
use Rattle.reader.specs.File.{read_file}
use Rattle.tables.specs.Conflict.{marks_of}
use Rattle.tables.specs.Word.{words_of, stored}
use Rattle.tables.specs.Outcome.{conflict_marks, distances_number, distances_buffer, rows_number}
use Rattle.tables.proofs.OutcomeLaws.{if_held-yes, if_held-no, conflict-held, distances-kept, distances-made}
use Rattle.tables_laws.proofs.WordLaws.{words_of-length}
use Rattle.plain.specs.Start.{fresh_threads}
use Rattle.early.specs.Request.{fresh_site}
use Rattle.early.specs.Call.{held_count, is_unfit_held, call_at, calls_of, calls_by_rows}
use Rattle.early_laws.proofs.CallLaws.{calls_by_rows-enough}
use Rattle.early_request.specs.declared.FreshState.{FreshState}
use Rattle.early_list.specs.declared.Outcome.{Outcome}
use Rattle.early_list.specs.Answers.{is_short, left_by, outcome_of, held_in, answers_in}
use Rattle.early_request.specs.Fresh.{fresh_of}
use Rattle.order.specs.Claim.{after_calls}
use Rattle.order.proofs.OrderIndependent.{call-claim-fresh}
use Rattle.replay.specs.declared.Replayed.{Replayed}
use Rattle.replay.specs.Replay.{refused_with, served_on, done_on, is_unfit_lent, replayed_by, held_by, answers_by, number_on, replayed_on, words_on, held_on, answers_on, number_by_rows, replayed_by_rows, held_by_rows, answers_by_rows, replayed_of, words_after, held_after, answers_after, Keeps}

-- N × N words, N a byte
pub square-small : (n : ℕ) → n < 256 → n * n < 65536
square-small n h = let p : n * n ≤ 255 * 255 = mul-le-mul {n₁ = n} {m₁ = n} {n₂ = 255} {m₂ = 255} (omega arith) (omega arith) in omega arith

-- what the contracts say of each exit: of a held model, of a file
abbrev pub ReplaysOn : Model → List ℕ → List ℕ → List ℕ → List ℕ → Replayed → List ℕ → List ℕ → List ℕ → Type 0
ReplaysOn m words held calls answers r us hs bs =
    (r ≡ replayed_on m words held calls answers)
    × ((us ≡ words_on m words held calls answers)
    × ((hs ≡ held_on m words held calls answers) × ((bs ≡ answers_on m words held calls answers) × (r.number ≡ 0 → Keeps m held calls r hs))))

abbrev pub Replays : List ℕ → List ℕ → List ℕ → List ℕ → List ℕ → Replayed → List ℕ → List ℕ → List ℕ → Type 0
Replays file words held calls answers r us hs bs =
    (r ≡ replayed_of file words held calls answers)
    × ((us ≡ words_after file words held calls answers)
    × ((hs ≡ held_after file words held calls answers)
    × ((bs ≡ answers_after file words held calls answers) × (r.number ≡ 0 → Keeps (read_file file).model held calls r hs))))

-- by rows: of so many words
abbrev pub ReplaysByRows : Model → ℕ → List ℕ → List ℕ → List ℕ → Replayed → List ℕ → List ℕ → Type 0
ReplaysByRows m lent held calls answers r hs bs =
    (r ≡ replayed_by_rows m lent held calls answers)
    × ((hs ≡ held_by_rows m lent held calls answers) × ((bs ≡ answers_by_rows m lent held calls answers) × (r.number ≡ 0 → Keeps m held calls r hs)))

-- what every replay is, by its number
abbrev Made : ℕ → Model → List ℕ → List ℕ → List ℕ → Replayed → List ℕ → List ℕ → Type 0
Made n m held calls answers r hs bs =
    (r ≡ replayed_by n m held calls)
    × ((hs ≡ held_by n m held calls) × ((bs ≡ answers_by n m held calls answers) × (r.number ≡ 0 → Keeps m held calls r hs)))

made-refused : (n : ℕ) (m : Model) (held calls answers : List ℕ) → (n ≡ 0 → ⊥) → (r : Replayed) → r ≡ refused_with n → Made n m held calls answers r held answers
made-refused n m held calls answers h r p =
    let e = ne_eqb n 0 h in
    (p ∙ rw e refl, (rw e refl, (rw e refl, λ z. absurd (h (sym (ap (λ (x : Replayed). x.number) p) ∙ z)))))

-- what is lent is long enough: for the answers, for the held values
module _ (m : Model) (held calls answers : List ℕ) (fits : is_unfit_lent m held calls answers ≡ false) where
  lent_both : (is_short calls answers ≡ false) × (is_unfit_held m held ≡ false)
  unfolding is_unfit_lent
  lent_both =
      let b = not-or→both (is_short calls answers) (is_unfit_held m held) (false→T (is_short calls answers || is_unfit_held m held) fits) in
      (T→false (is_short calls answers) b.0, T→false (is_unfit_held m held) b.1)

  lent-held : held_count * m.t ≤ length held
  unfolding is_unfit_held
  lent-held = ltb-false (length held) (held_count * m.t) lent_both.1

-- as the code asks it
pub unfit-lent : (m : Model) (held calls answers : List ℕ) → is_unfit_lent m held calls answers ≡ ltb (length answers) (5 * length calls) || ltb (length held) (64 * m.t)
unfolding is_unfit_lent is_short is_unfit_held
unfit-lent m held calls answers = refl

module _ (m : Model) (kept : model_fault m ≡ 0) where
  own_fresh : fresh_of m ≡ record { number = 0; site = fresh_site; threads = record { at = fresh_threads m } }
  unfolding fresh_of
  own_fresh = rw (eq-eqb (model_fault m) 0 kept) refl

  own-marks : conflict_marks m ≡ marks_of m
  own-marks = sym (conflict-held m kept).1

  -- the list, on what the model says of itself
  made-done : (n : ℕ) (held calls answers : List ℕ) → n ≡ 0 → is_unfit_lent m held calls answers ≡ false → (out : Outcome) (hs bs : List ℕ)
      → out ≡ outcome_of (served_on m held calls) fresh_site (fresh_threads m) calls answers → hs ≡ held_in (served_on m held calls) held calls answers
      → bs ≡ answers_in (served_on m held calls) calls answers
      → Made n m held calls answers (record { number = 0; granted = out.granted; v = m.v; t = m.t; site = out.site; threads = out.threads }) hs bs
  unfolding outcome_of held_in answers_in done_on
  made-done n held calls answers z fits out hs bs o h a =
      let long = (lent_both m held calls answers fits).0 in
      let f : out ≡ left_by (served_on m held calls).listed = o ∙ rw long refl in
      let g : hs ≡ (served_on m held calls).held = h ∙ rw long refl in (
        rw (z, f) refl,
        (
          g ∙ rw z refl,
          (
            a ∙ rw (long, z) refl,
            λ y. record {
              site = ap (λ (x : Outcome). x.site) f;
              threads = ap (λ (x : Outcome). x.threads.at) f;
              values = g;
              claim = call-claim-fresh m kept held (lent-held m held calls answers fits) (map call_at calls);
            },
          ),
        ),
      )

-- with a table buffer
module _ (m : Model) (words held calls answers : List ℕ) where
  on-made : (r : Replayed) (us hs bs : List ℕ) → us ≡ words_on m words held calls answers → Made (number_on m words held calls answers) m held calls answers r hs bs → ReplaysOn m words held calls answers r us hs bs
  unfolding replayed_on held_on answers_on
  on-made r us hs bs w made = (made.0, (w, made.1))

  pub on-short : is_unfit_lent m held calls answers ≡ true → (r : Replayed) → r ≡ refused_with 11 → ReplaysOn m words held calls answers r words held answers
  unfolding words_on number_on
  on-short e r p =
      let n : number_on m words held calls answers ≡ 11 = rw e refl in
      on-made r words held answers (rw e refl) (made-refused (number_on m words held calls answers) m held calls answers (λ z. omega arith) r (rw n p))

  module _ (fits : is_unfit_lent m held calls answers ≡ false) (number : ℕ) (us : List ℕ) (e : number ≡ distances_number m words) (w : us ≡ distances_buffer m words) where
    number_is : number_on m words held calls answers ≡ number
    unfolding number_on
    number_is = rw fits (sym e)

    words_are : us ≡ words_on m words held calls answers
    unfolding words_on
    words_are = w ∙ rw fits refl

    pub on-refused : (number ≡ 0 → ⊥) → (r : Replayed) → r ≡ refused_with number → ReplaysOn m words held calls answers r us held answers
    on-refused h r p = on-made r us held answers words_are (rw number_is (made-refused number m held calls answers h r p))

    -- a model that keeps the file rules, and its own words in the buffer
    module _ (z : number ≡ 0) where
      kept : model_fault m ≡ 0
      kept = distances-kept m words (sym e ∙ z)

      buffer : us ≡ stored m words
      buffer = w ∙ distances-made m words (sym e ∙ z)

      pub own_room : (n : ℕ) → n ≡ m.n → n * n ≤ length us
      unfolding stored
      own_room n h = rw (h, buffer) (simp length-append (omega (arith, words_of-length m)))

      own-words : take (m.n * m.n) us ≡ words_of m
      unfolding stored
      own-words = rw buffer (take_at (words_of m) (drop (m.n * m.n) words) (m.n * m.n) (words_of-length m))

      module _ (marks : List (List Bool)) (fresh : FreshState) (ws : List ℕ) (p : marks ≡ conflict_marks m) (q : fresh ≡ fresh_of m) (r : ws ≡ take (m.n * m.n) us) where
        own : calls_of m marks ws fresh.site fresh.threads.at held (map call_at calls) ≡ served_on m held calls
        unfolding after_calls
        own = rw (p ∙ own-marks m kept, r ∙ own-words, q ∙ own_fresh m kept) refl

        pub on-done :
            (out : Outcome) (hs bs : List ℕ) →
            let s = calls_of m marks ws fresh.site fresh.threads.at held (map call_at calls) in
            out ≡ outcome_of s fresh.site fresh.threads.at calls answers → hs ≡ held_in s held calls answers → bs ≡ answers_in s calls answers →
            ReplaysOn m words held calls answers (record { number = 0; granted = out.granted; v = m.v; t = m.t; site = out.site; threads = out.threads }) us hs bs
        on-done out hs bs o h a =
            let f = q ∙ own_fresh m kept in
            on-made _ us hs bs words_are
            (rw number_is (made-done m kept number held calls answers z fits out hs bs (o ∙ rw (own, f) refl) (h ∙ rw own refl) (a ∙ rw own refl)))

-- by rows
module _ (m : Model) (lent : ℕ) (held calls answers : List ℕ) where
  rows_made : (r : Replayed) (hs bs : List ℕ) → Made (number_by_rows m lent held calls answers) m held calls answers r hs bs → ReplaysByRows m lent held calls answers r hs bs
  unfolding replayed_by_rows held_by_rows answers_by_rows
  rows_made r hs bs made = made

  pub rows_short : is_unfit_lent m held calls answers ≡ true → (r : Replayed) → r ≡ refused_with 11 → ReplaysByRows m lent held calls answers r held answers
  unfolding number_by_rows
  rows_short e r p =
      let n : number_by_rows m lent held calls answers ≡ 11 = rw e refl in
      rows_made r held answers (made-refused (number_by_rows m lent held calls answers) m held calls answers (λ z. omega arith) r (rw n p))

  module _ (fits : is_unfit_lent m held calls answers ≡ false) (fresh : FreshState) (q : fresh ≡ fresh_of m) where
    number-rows : number_by_rows m lent held calls answers ≡ rows_number m lent
    unfolding number_by_rows
    number-rows = rw fits refl

    -- 11 of the fresh state is that of the model
    pub rows-unfit : (fresh.number ≡ 0 → ⊥) → (r : Replayed) → r ≡ refused_with 11 → ReplaysByRows m lent held calls answers r held answers
    unfolding fresh_of rows_number
    rows-unfit h r p = go (ℕ_discrete (model_fault m) 0)
      where
        go : Dec (model_fault m ≡ 0) → ReplaysByRows m lent held calls answers r held answers
        go (yes kept) = absurd (h (ap (λ (x : FreshState). x.number) (q ∙ own_fresh m kept)))
        go (no other) = rows_made r held answers (rw (number-rows, if_held-no {A = ℕ} m _ 11 other) (made-refused 11 m held calls answers (λ z. omega arith) r p))

    module _ (z : fresh.number ≡ 0) where
      unkept : (model_fault m ≡ 0 → ⊥) → (fresh_of m).number ≡ 11
      unfolding fresh_of
      unkept other = rw (ne_eqb (model_fault m) 0 other) refl

      fit : model_fault m ≡ 0
      fit = go (ℕ_discrete (model_fault m) 0)
        where
          go : Dec (model_fault m ≡ 0) → model_fault m ≡ 0
          go (yes kept) = kept
          go (no other) = absurd (omega (arith, ap (λ (x : FreshState). x.number) q, unkept other))

      pub rows-below : lent < 64 → (r : Replayed) → r ≡ refused_with 16 → ReplaysByRows m lent held calls answers r held answers
      unfolding rows_number
      rows-below h r p = rows_made r held answers (rw (number-rows, if_held-yes {A = ℕ} m _ 11 fit, lt-ltb lent 64 h) (made-refused 16 m held calls answers (λ y. omega arith) r p))

      module _ (h : 64 ≤ lent) (marks : List (List Bool)) (p : marks ≡ conflict_marks m) where
        own-list : calls_by_rows m marks lent fresh.site fresh.threads.at held (map call_at calls) ≡ served_on m held calls
        unfolding after_calls
        own-list =
            calls_by_rows-enough m marks lent h (map call_at calls) fresh.site fresh.threads.at held
            ∙ rw (p ∙ own-marks m fit, q ∙ own_fresh m fit) refl

        pub rows-done :
            (out : Outcome) (hs bs : List ℕ) →
            let s = calls_by_rows m marks lent fresh.site fresh.threads.at held (map call_at calls) in
            out ≡ outcome_of s fresh.site fresh.threads.at calls answers → hs ≡ held_in s held calls answers → bs ≡ answers_in s calls answers →
            ReplaysByRows m lent held calls answers (record { number = 0; granted = out.granted; v = m.v; t = m.t; site = out.site; threads = out.threads }) hs bs
        unfolding rows_number
        rows-done out hs bs o l a =
            let n : number_by_rows m lent held calls answers ≡ 0 = number-rows ∙ rw (if_held-yes {A = ℕ} m (cond (ltb lent 64) 16 0) 11 fit, le-ltb lent 64 h) refl in
            rows_made _ hs bs
            (made-done m fit (number_by_rows m lent held calls answers) held calls answers n fits out hs bs (o ∙ rw (own-list, q ∙ own_fresh m fit) refl) (l ∙ rw own-list refl) (a ∙ rw own-list refl))

-- of a file: refused, or its model's
module _ (file words held calls answers : List ℕ) (read : Read) (e : read ≡ read_file file) where
  pub replay-refused : (read.number ≡ 0 → ⊥) → (r : Replayed) → r ≡ refused_with read.number → Replays file words held calls answers r words held answers
  unfolding replayed_of words_after held_after answers_after
  replay-refused h r p =
      let n = ne_eqb read.number 0 h in
      (p ∙ rw (← e, n) refl, (rw (← e, n) refl, (rw (← e, n) refl, (rw (← e, n) refl, λ z. absurd (h (sym (ap (λ (x : Replayed). x.number) p) ∙ z))))))

  pub replay-accepted : read.number ≡ 0 → (r : Replayed) (us hs bs : List ℕ) → ReplaysOn read.model words held calls answers r us hs bs → Replays file words held calls answers r us hs bs
  unfolding replayed_of words_after held_after answers_after
  replay-accepted z r us hs bs h =
      let n = eq-eqb read.number 0 z in
      (h.0 ∙ rw (← e, n) refl, (h.1.0 ∙ rw (← e, n) refl, (h.1.1.0 ∙ rw (← e, n) refl, (h.1.1.1.0 ∙ rw (← e, n) refl, λ y. rw (← e) (h.1.1.1.1 y)))))
