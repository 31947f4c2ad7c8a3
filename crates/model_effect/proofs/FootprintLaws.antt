-- What a list of statements is asked: whether one of them writes, reads or notifies. Each question is asked of one operation after the other.
--     asks_append, asks-more     two lists; one statement more
--     asks_at, asks-found     where the answer is yes, some statement says so, and where one says so it is
--     writes-asks, reads-asks, notifies-asks     the questions
--     has-append     two lists of events
use Rattle.std.proofs.Common.{◌≡◌, ℕ, zero, suc, ◌<◌, Bool, false, ◌||◌, T, eqb, ◌⊎◌, List, [], ◌∷◌, ◌++◌, length, get_or, take, sym, refl, ap, ◌∙◌, inl, inr, arith, take-suc}
use mathlib.Core.Bool.{or-false, or_assoc}
use Rattle.base.proofs.BoolLaws.{or→either, either→or}
use Rattle.model.specs.declared.Op.{Op}
use Rattle.model.specs.declared.Op.TheVariants.{Set, Add, Copy, AddVariable, SubVariable, Notify}
use Rattle.model.specs.declared.Statement.{Statement}
use Rattle.model.specs.Values.{no_statement}
use Rattle.model.specs.Statement.{notified_by_op, notified_by}
use Rattle.model.specs.Footprint.{writes_op, reads_op, writes, reads, has}

-- f of a list is g of one of its operations
pub record Asks (f : List Statement → Bool) (g : Op → Bool) : Type 0 where
  pub none : f [] ≡ false
  pub one : (x : Statement) (xs : List Statement) → f (x ∷ xs) ≡ (g x.op || f xs)

module _ {f : List Statement → Bool} {g : Op → Bool} (asks : Asks f g) where
  pub asks_append : (xs ys : List Statement) → f (xs ++ ys) ≡ (f xs || f ys)
  asks_append [] ys = rw asks.none refl
  asks_append (x ∷ xs) ys =
      asks.one x (xs ++ ys)
      ∙ (ap (λ (b : Bool). g x.op || b) (asks_append xs ys)
      ∙ (sym (or_assoc (g x.op) (f xs) (f ys)) ∙ ap (λ (b : Bool). b || f ys) (sym (asks.one x xs))))

  pub asks-more : (xs : List Statement) (j : ℕ) → j < length xs → (f (take j xs) || g (get_or xs j no_statement).op) ≡ f (take (suc j) xs)
  asks-more xs j h =
      let x = get_or xs j no_statement in
      ap (λ (b : Bool). f (take j xs) || b) (sym (asks.one x [] ∙ (ap (λ (b : Bool). g x.op || b) asks.none ∙ or-false (g x.op))))
      ∙ (sym (asks_append (take j xs) (x ∷ [])) ∙ ap f (sym (take-suc xs j no_statement h)))

  pub asks_at : (xs : List Statement) → T (f xs) → (j : ℕ) × (j < length xs) × T (g (get_or xs j no_statement).op)
  asks_at [] t = absurd (rw asks.none at t)
  asks_at (x ∷ xs) t = go (asks_at xs) (or→either (g x.op) (f xs) (rw (asks.one x xs) at t))
    where
      go : (T (f xs) → (j : ℕ) × (j < length xs) × T (g (get_or xs j no_statement).op)) → T (g x.op) ⊎ T (f xs)
          → (j : ℕ) × (j < length (x ∷ xs)) × T (g (get_or (x ∷ xs) j no_statement).op)
      go ih (inl u) = (0, omega arith, u)
      go ih (inr u) = let (j, l, w) = ih u in (suc j, omega arith, w)

  pub asks-found : (xs : List Statement) (j : ℕ) → j < length xs → T (g (get_or xs j no_statement).op) → T (f xs)
  asks-found [] j h t = absurd (omega arith)
  asks-found (x ∷ xs) zero h t = rw (asks.one x xs) (either→or (g x.op) (f xs) (inl t))
  asks-found (x ∷ xs) (suc j) h t = rw (asks.one x xs) (either→or (g x.op) (f xs) (inr (asks-found xs j (omega arith) t)))

pub writes-asks : (v : ℕ) → Asks (λ xs. writes xs v) (λ o. writes_op o v)
unfolding writes
writes-asks v = record { none = refl; one = λ x xs. refl }

pub reads-asks : (v : ℕ) → Asks (λ xs. reads xs v) (λ o. reads_op o v)
unfolding reads
reads-asks v = record { none = refl; one = λ x xs. refl }

pub has-append : (es fs : List ℕ) (e : ℕ) → has (es ++ fs) e ≡ (has es e || has fs e)
unfolding has
has-append [] fs e = refl
has-append (x ∷ es) fs e = ap (λ (b : Bool). eqb x e || b) (has-append es fs e) ∙ sym (or_assoc (eqb x e) (has es e) (has fs e))

notifies-one : (o : Op) (es : List ℕ) (e : ℕ) → has (notified_by_op o es) e ≡ (has (notified_by_op o []) e || has es e)
unfolding has
notifies-one (Set a b) es e = refl
notifies-one (Add a b) es e = refl
notifies-one (Copy a b) es e = refl
notifies-one (AddVariable a b) es e = refl
notifies-one (SubVariable a b) es e = refl
notifies-one (Notify w) es e = ap (λ (b : Bool). b || has es e) (sym (or-false (eqb w e)))

pub notifies-asks : (e : ℕ) → Asks (λ xs. has (notified_by xs) e) (λ o. has (notified_by_op o []) e)
unfolding notified_by has
notifies-asks e = record { none = refl; one = λ x xs. notifies-one x.op (notified_by xs) e }
