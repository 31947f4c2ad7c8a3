-- 18 after all other numbers: a file is what it is but for 18, and then 18 where it applies.
--     file-judged     the two together
--     number-..     the exits of `file_fault`
--     lack-asked     18 of a model that was built
--     read-model, read-refused     what the call answers
use Prim.Native.Nat.{ℕ, zero, suc, ◌<◌, ◌≤◌}
use mathlib.Core.Path.{◌≡◌, refl, sym, ap, ◌∙◌}
use mathlib.Core.Bool.{cond}
use mathlib.Core.List.{List}
use native.Mathlib.Omega.{arith}
use native.Mathlib.Decide.{ℕ_discrete}
use lib.Dec.{eqb}
use lib.ListN.{length, take, drop}
use borrow.Author.Tests.{eq-eqb, ne_eqb}
use Rattle.base.specs.Index.{or_else}
use Rattle.base.proofs.IndexLaws.{or_else-none, or_else-some}
use Rattle.model.specs.declared.Model.{Model}
use Rattle.model.specs.Values.{no_model, start_at}
use Rattle.model.specs.Rules.{unless, targets_fault, lack_fault, links_fault}
use Rattle.std.specs.Prelude.{Ok, Err}
use Rattle.refusal.specs.declared.Refusal.{Refusal}
use Rattle.refusal.specs.Number.{number_of}
use Rattle.refusal.proofs.NumberLaws.{number_of-not_0}
use Rattle.reader.specs.Read.{Read, read_of}
use Rattle.reader.specs.Word.{word_at}
use Rattle.reader.specs.Record.{framing_fault, body_fault, with_record}
use Rattle.reader.specs.File.{read_or, read_end, read_from, read_file}
use Rattle.reader_laws.proofs.Accepted.{refused-zero}
use Rattle.reader_file.specs.Parts.{refused_with, judged_end, judged_from, judged_file, Builds}

-- what was accepted, with 18 where it applies
unfoldable lacked : Read → Read
lacked r = cond (eqb r.number 0) (read_or (lack_fault r.model) r.model) r

lacked-refused : (r : Read) → (r.number ≡ 0 → ⊥) → lacked r ≡ r
unfolding lacked
lacked-refused r n = rw (ne_eqb r.number 0 n) refl

lacked-accepted : (r : Read) → r.number ≡ 0 → lacked r ≡ read_or (lack_fault r.model) r.model
unfolding lacked
lacked-accepted r e = rw (eq-eqb r.number 0 e) refl

read_or-refusal : (x : ℕ) (m : Model) → (x ≡ 0 → ⊥) → read_or x m ≡ lacked (read_or x m)
read_or-refusal x m n = rw (ne_eqb x 0 n) (sym (lacked-refused (refused_with x) n))

read_or-lacked : (x : ℕ) (m : Model) → read_or (or_else x (lack_fault m)) m ≡ lacked (read_or x m)
read_or-lacked x m = go (ℕ_discrete x 0)
  where
    go : Dec (x ≡ 0) → read_or (or_else x (lack_fault m)) m ≡ lacked (read_or x m)
    go (yes e) = rw (or_else-none x (lack_fault m) e, e) (sym (lacked-accepted (record { number = 0; model = m }) refl))
    go (no n) = rw (or_else-some x (lack_fault m) n) (read_or-refusal x m n)

or_else-assoc : (a b c : ℕ) → or_else a (or_else b c) ≡ or_else (or_else a b) c
unfolding or_else
or_else-assoc zero b c = refl
or_else-assoc (suc a) b c = refl

end-judged : (b : List ℕ) (m : Model) → read_end b m ≡ lacked (judged_end b m)
unfolding read_end judged_end links_fault
end-judged b m = ap (λ (x : ℕ). read_or x m) (or_else-assoc (unless (eqb (length b) 0) 9) (targets_fault m) (lack_fault m)) ∙ read_or-lacked (or_else (unless (eqb (length b) 0) 9) (targets_fault m)) m

from-judged : (most last : ℕ) (b : List ℕ) (m : Model) → read_from most last b m ≡ lacked (judged_from most last b m)
unfolding read_from judged_from
from-judged zero last b m = read_or-refusal 1 m (λ e. omega arith)
from-judged (suc most) last b m = go (λ k c n. from-judged most k c n) (ℕ_discrete fault 0) (ℕ_discrete (word_at b 2) 4)
  where
    fault : ℕ
    fault = or_else (framing_fault last b) (body_fault (word_at b 2) m (take (word_at b 0) b))

    go : ((k : ℕ) (c : List ℕ) (n : Model) → read_from most k c n ≡ lacked (judged_from most k c n))
        → Dec (fault ≡ 0) → Dec (word_at b 2 ≡ 4) → read_from (suc most) last b m ≡ lacked (judged_from (suc most) last b m)
    go ih (no n) k = rw (ne_eqb fault 0 n) (sym (lacked-refused (refused_with fault) n))
    go ih (yes e) (yes k) = rw (e, eq-eqb (word_at b 2) 4 k) (end-judged (drop (word_at b 0) b) m)
    go ih (yes e) (no k) = rw (e, ne_eqb (word_at b 2) 4 k) (ih (word_at b 2) (drop (word_at b 0) b) (with_record (word_at b 2) m (take (word_at b 0) b)))

file-judged : (b : List ℕ) → read_file b ≡ lacked (judged_file b)
unfolding read_file judged_file
file-judged b = from-judged (length b) 0 b no_model

pub read_or-number : (x : ℕ) (m : Model) → (read_or x m).number ≡ x
read_or-number x m = go (ℕ_discrete x 0)
  where
    go : Dec (x ≡ 0) → (read_or x m).number ≡ x
    go (yes e) = rw e refl
    go (no n) = rw (ne_eqb x 0 n) refl

module _ (b : List ℕ) (e : (judged_file b).number ≡ 0) where
  accepted-is : read_file b ≡ read_or (lack_fault (judged_file b).model) (judged_file b).model
  accepted-is = file-judged b ∙ lacked-accepted (judged_file b) e

  number-lack : lack_fault (judged_file b).model ≡ (read_file b).number
  number-lack = sym (ap (λ (r : Read). r.number) accepted-is ∙ read_or-number _ _)

  model-lack : lack_fault (judged_file b).model ≡ 0 → (judged_file b).model ≡ (read_file b).model
  model-lack z = sym (ap (λ (r : Read). r.model) accepted-is ∙ rw z refl)

-- accepted, so with no fault but 18 either
pub accepted-judged : (b : List ℕ) → (read_file b).number ≡ 0 → (judged_file b).number ≡ 0
accepted-judged b z = go (ℕ_discrete (judged_file b).number 0)
  where
    go : Dec ((judged_file b).number ≡ 0) → (judged_file b).number ≡ 0
    go (yes e) = e
    go (no n) = sym (ap (λ (r : Read). r.number) (file-judged b ∙ lacked-refused (judged_file b) n)) ∙ z

-- the exits of `file_fault`
module _ (b : List ℕ) where
  pub number-refused : (x : ℕ) → x ≡ (judged_file b).number → (x ≡ 0 → ⊥) → x ≡ (read_file b).number
  number-refused x is n = is ∙ ap (λ (r : Read). r.number) (sym (file-judged b ∙ lacked-refused (judged_file b) (λ z. n (is ∙ z))))

  pub number-asked : (judged_file b).number ≡ 0 → (y : ℕ) → y ≡ lack_fault (judged_file b).model → y ≡ (read_file b).number
  number-asked z y is = is ∙ number-lack b z

-- what `lack_fault` says of the model of such a file
pub lack-asked : (b : List ℕ) (m : Model) → Builds b m → (y : ℕ) → (m.n ≤ 64 → m.t ≤ 32 → ((k : ℕ) → k < m.t → (start_at m k).first < m.n) → y ≡ lack_fault m)
    → y ≡ lack_fault (judged_file b).model
lack-asked b m built y asked = asked built.segments built.threads built.firsts ∙ ap lack_fault built.model

-- the answer of a call that reads the file: its model, or a refusal beside none
pub read-model : (b : List ℕ) (m : Model) → (read_file b).number ≡ 0 → Builds b m → read_of (Ok m) ≡ read_file b
read-model b m z built =
    let ok = accepted-judged b z in
    let is : m ≡ (read_file b).model = built.model ∙ model-lack b ok (number-lack b ok ∙ z) in
    rw (is, ← z) refl

pub read-refused : (b : List ℕ) (r : Refusal) → number_of r ≡ (read_file b).number → read_of (Err r) ≡ read_file b
read-refused b r is = rw (← refused-zero b (λ z. number_of-not_0 r (is ∙ z)), is) refl
