-- What holds of an accepted file by induction over its records: `read-induct`.
use Prim.Native.Nat.{ℕ, zero, suc, ◌≤◌}
use mathlib.Core.Path.{◌≡◌, refl, sym, ap, ◌∙◌, subst}
use mathlib.Core.Bool.{cond}
use mathlib.Core.List.{List, [], ◌∷◌}
use native.Mathlib.Omega.{arith}
use lib.Dec.{T_not, eqb, eqb→eq}
use lib.ListN.{length, take, drop}
use lib.Seq.{length-take-le}
use borrow.Author.Tests.{eqb-true}
use Rattle.base.specs.Index.{or_else}
use Rattle.base.proofs.BoolLaws.{true→T, cond-case, eq→eqb}
use Rattle.base.proofs.IndexLaws.{or_else-zero}
use Rattle.model.specs.declared.Model.{Model}
use Rattle.model.specs.Rules.{unless, links_fault}
use Rattle.model_rules.proofs.FaultLaws.{unless-zero}
use Rattle.reader.specs.Read.{Read}
use Rattle.reader.specs.Word.{word_at}
use Rattle.reader.specs.Record.{follows, length_fits, framing_fault, body_fault, with_record}
use Rattle.reader.specs.File.{read_or, read_end, read_from}
use Rattle.reader_laws.proofs.FrameLaws.{Framed, framed}
use Rattle.reader_laws.proofs.ReadSoFar.{SoFar, Follows, head, segment, thread, ports, ending, follows→, record-kept}

-- a number that is 0 comes with the model that was read
pub read_or-accepted : (n : ℕ) (m : Model) → (read_or n m).number ≡ 0 → (n ≡ 0) × ((read_or n m).model ≡ m)
read_or-accepted n m = cond-case (λ (x : Read). x.number ≡ 0 → (n ≡ 0) × (x.model ≡ m)) (eqb n 0) (λ t e. (eqb→eq n 0 t, refl)) (λ t e. absurd (T_not (eqb n 0) t (eq→eqb n 0 e)))

-- the record that begins the bytes b, without fault after what m holds
pub record Taken (last : ℕ) (b : List ℕ) (m : Model) : Type 0 where
  pub so_far : SoFar last m
  pub frame : Framed last b
  pub next : Follows last (word_at b 2)
  pub body : body_fault (word_at b 2) m (take (word_at b 0) b) ≡ 0

after-thread : (last k : ℕ) → Follows last k → k ≡ 4 → 3 ≤ last
after-thread last k (head z e) f = absurd (omega arith)
after-thread last k (segment p q e) f = absurd (omega arith)
after-thread last k (thread p e) f = absurd (omega arith)
after-thread last k (ports z e) f = absurd (omega arith)
after-thread last k (ending p e) f = p

no_bytes : (b : List ℕ) → length b ≡ 0 → b ≡ []
no_bytes [] e = refl
no_bytes (x ∷ b) e = absurd (omega arith)

-- P is about the kind of the last record, the bytes left, the model read so far and the model in the end
module _ (P : ℕ → List ℕ → Model → Model → Type 0)
    (at_end : (last : ℕ) (b : List ℕ) (m : Model) → Taken last b m → 3 ≤ last → word_at b 2 ≡ 4 → drop (word_at b 0) b ≡ [] → links_fault m ≡ 0 → P last b m m)
    (at-record : (last : ℕ) (b : List ℕ) (m n : Model) → Taken last b m → (word_at b 2 ≡ 4 → ⊥)
    → P (word_at b 2) (drop (word_at b 0) b) (with_record (word_at b 2) m (take (word_at b 0) b)) n → P last b m n)
  where
    step : (most last : ℕ) (b : List ℕ) (m : Model)
        → ((k : ℕ) (c : List ℕ) (n : Model) → SoFar k n → (read_from most k c n).number ≡ 0 → P k c n (read_from most k c n).model)
        → SoFar last m → (read_from (suc most) last b m).number ≡ 0 → P last b m (read_from (suc most) last b m).model
    unfolding read_from read_end
    step most last b m ih g =
        cond-case (λ (x : Read). x.number ≡ 0 → P last b m x.model) (eqb fault 0)
        (λ t. go (or_else-zero (framing_fault last b) (body_fault k m r) (eqb→eq fault 0 t)))
        (λ t e. absurd (T_not (eqb fault 0) t (eq→eqb fault 0 (read_or-accepted fault m e).0)))
      where
        k : ℕ
        k = word_at b 2

        r : List ℕ
        r = take (word_at b 0) b

        rest : List ℕ
        rest = drop (word_at b 0) b

        fault : ℕ
        fault = or_else (framing_fault last b) (body_fault k m r)

        ended : Taken last b m → k ≡ 4 → (read_end rest m).number ≡ 0 → P last b m (read_end rest m).model
        ended w e z =
            let (none, same) = read_or-accepted (or_else (unless (eqb (length rest) 0) 9) (links_fault m)) m z in
            let empty = unless-zero (eqb (length rest) 0) 9 (λ e. omega arith) (or_else-zero _ _ none).0 in
            subst (P last b m) (sym same)
            (at_end last b m w (after-thread last k w.next e) e (no_bytes rest (eqb-true (length rest) 0 empty)) (or_else-zero _ _ none).1)

        go : (framing_fault last b ≡ 0) × (body_fault k m r ≡ 0)
            → (cond (eqb k 4) (read_end rest m) (read_from most k rest (with_record k m r))).number ≡ 0
            → P last b m (cond (eqb k 4) (read_end rest m) (read_from most k rest (with_record k m r))).model
        go (framing, body) =
            let f = framed last b framing in
            let next = follows→ last k (true→T (follows last k) f.after) in
            let w : Taken last b m = record { so_far = g; frame = f; next = next; body = body } in
            let fits : length_fits k (length r) ≡ _ = ap (length_fits k) (length-take-le (word_at b 0) b f.whole.left) ∙ f.fits in
            cond-case (λ (x : Read). x.number ≡ 0 → P last b m x.model) (eqb k 4)
            (λ t. ended w (eqb→eq k 4 t))
            (λ t z.
            let more : k ≡ 4 → ⊥ = λ e. T_not (eqb k 4) t (eq→eqb k 4 e) in
            at-record last b m _ w more (ih k rest (with_record k m r) (record-kept last k m r g next fits body more) z))

    pub read-induct : (most last : ℕ) (b : List ℕ) (m : Model) → SoFar last m → (read_from most last b m).number ≡ 0
        → P last b m (read_from most last b m).model
    unfolding read_from
    read-induct zero last b m g e = absurd (let z = (read_or-accepted 1 m e).0 in omega arith)
    read-induct (suc most) last b m g e = step most last b m (λ k c n h f. read-induct most k c n h f) g e
