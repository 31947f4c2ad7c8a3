-- What a segment leaves alone, and what its effect hangs on.
--     execute-frame, effect_of-frame     a variable that is not written keeps its value
--     execute-agree, execute-written     where the variables read agree, the results agree; what is written ends equal
--     effect_of-length     the variables keep their number
--     effect_of-within, effect_of-local     where the variables used agree, the effects are alike
--     writes_in→uses_in     what is written is used
--     effect_in-begins, effect_of-begins     what is notified is a beginning of what is listed, whatever the variables
use Rattle.std.proofs.Common.{◌≡◌, ℕ, ◌<◌, false, not, ◌||◌, T, eqb, ◌⊎◌, List, [], ◌∷◌, ◌++◌, length, get_or, set, sym, refl, ◌∙◌, inl, inr, append-nil, arith, eqb→eq, length-set, get_or-set_other, get_or-set_same}
use native.Mathlib.Decide.{dec_lt, ℕ_discrete}
use lib.Dec.{not_T, eqb_refl}
use lib.ListN.{get_or-eq_default}
use borrow.Author.Tests.{eqb-false}
use Rattle.base.proofs.BoolLaws.{T→false, false→T, both→and, or→either, either→or, not-or→both}
use Rattle.clock.specs.declared.Cycle.{Cycle}
use Rattle.model.specs.declared.Op.{Op}
use Rattle.model.specs.declared.Op.TheVariants.{Set, Add, Copy, AddVariable, SubVariable, Notify}
use Rattle.model.specs.declared.Statement.{Statement}
use Rattle.model.specs.declared.Next.{Next}
use Rattle.model.specs.declared.Closer.{Closer}
use Rattle.model.specs.declared.Closer.TheVariants.{End, Time, Event}
use Rattle.model.specs.declared.Segment.{Segment}
use Rattle.model.specs.declared.Model.{Model}
use Rattle.model.specs.Values.{segment_for, body_of}
use Rattle.model.specs.Statement.{execute_op, execute, notified_by}
use Rattle.model.specs.Effect.{next_of, closed_at, Effect, effect_in, effect_of}
use Rattle.model.specs.Footprint.{writes_op, reads_op, writes, reads, tests_next, tests, writes_of, uses_of, writes_in, uses_in, listed_in}
use Rattle.model_effect.proofs.StatementLaws.{execute-length}
use Rattle.model_effect.proofs.EffectLaws.{next_of-untested}

-- two lists of variables of one length that agree on U
pub record Agree (U : ℕ → Type 0) (s t : List ℕ) : Type 0 where
  pub same_length : length s ≡ length t
  pub same : (i : ℕ) → U i → get_or s i 0 ≡ get_or t i 0

pub agree-self : (U : ℕ → Type 0) (s : List ℕ) → Agree U s s
agree-self U s = record { same_length = refl; same = λ i u. refl }

pub agree-sym : (U : ℕ → Type 0) (s t : List ℕ) → Agree U s t → Agree U t s
agree-sym U s t g = record { same_length = sym g.same_length; same = λ i u. sym (g.same i u) }

pub agree_trans : (U : ℕ → Type 0) (r s t : List ℕ) → Agree U r s → Agree U s t → Agree U r t
agree_trans U r s t g h = record { same_length = g.same_length ∙ h.same_length; same = λ i u. g.same i u ∙ h.same i u }

-- on fewer variables
pub agree_less : (U W : ℕ → Type 0) (s t : List ℕ) → ((i : ℕ) → W i → U i) → Agree U s t → Agree W s t
agree_less U W s t f g = record { same_length = g.same_length; same = λ i w. g.same i (f i w) }

execute_op-frame : (o : Op) (v : List ℕ) (i : ℕ) → writes_op o i ≡ false → get_or (execute_op o v) i 0 ≡ get_or v i 0
execute_op-frame (Set a b) v i h = get_or-set_other v a i _ 0 (λ e. eqb-false a i h (sym e))
execute_op-frame (Add a b) v i h = get_or-set_other v a i _ 0 (λ e. eqb-false a i h (sym e))
execute_op-frame (Copy a b) v i h = get_or-set_other v a i _ 0 (λ e. eqb-false a i h (sym e))
execute_op-frame (AddVariable a b) v i h = get_or-set_other v a i _ 0 (λ e. eqb-false a i h (sym e))
execute_op-frame (SubVariable a b) v i h = get_or-set_other v a i _ 0 (λ e. eqb-false a i h (sym e))
execute_op-frame (Notify w) v i h = refl

pub execute-frame : (xs : List Statement) (v : List ℕ) (i : ℕ) → writes xs i ≡ false → get_or (execute xs v) i 0 ≡ get_or v i 0
unfolding execute writes
execute-frame [] v i h = refl
execute-frame (x ∷ xs) v i h =
    let (p, q) = not-or→both (writes_op x.op i) (writes xs i) (false→T _ h) in
    execute-frame xs (execute_op x.op v) i (T→false _ q) ∙ execute_op-frame x.op v i (T→false _ p)

-- one number put at a in both: they agree at a too
set-agree : (U : ℕ → Type 0) (s t : List ℕ) (a x y : ℕ) → x ≡ y → Agree U s t → Agree (λ i. U i ⊎ T (eqb a i)) (set s a x) (set t a y)
set-agree U s t a x y e g =
    record {
      same_length = length-set s a x ∙ g.same_length ∙ sym (length-set t a y);
      same = λ i u. go i u (ℕ_discrete i a);
    }
  where
    at_a : Dec (a < length s) → get_or (set s a x) a 0 ≡ get_or (set t a y) a 0
    at_a (yes h) = get_or-set_same s a x 0 h ∙ e ∙ sym (get_or-set_same t a y 0 (rw g.same_length at h))
    at_a (no h) =
        get_or-eq_default (set s a x) 0 (omega (arith, length-set s a x))
        ∙ sym (get_or-eq_default (set t a y) 0 (omega (arith, length-set t a y, g.same_length)))

    go : (i : ℕ) → U i ⊎ T (eqb a i) → Dec (i ≡ a) → get_or (set s a x) i 0 ≡ get_or (set t a y) i 0
    go i u (yes p) = rw p (at_a (dec_lt a (length s)))
    go i (inl u) (no n) = get_or-set_other s a i x 0 n ∙ g.same i u ∙ sym (get_or-set_other t a i y 0 n)
    go i (inr u) (no n) = absurd (n (sym (eqb→eq a i u)))

module _ (U : ℕ → Type 0) where
  -- an operation whose reads are in U: its results agree on U and on what it writes
  execute_op-agree : (o : Op) → ((i : ℕ) → T (reads_op o i) → U i) → (s t : List ℕ) → Agree U s t → Agree (λ i. U i ⊎ T (writes_op o i)) (execute_op o s) (execute_op o t)
  execute_op-agree (Set a b) r s t g = set-agree U s t a b b refl g
  execute_op-agree (Add a b) r s t g = set-agree U s t a _ _ (rw (g.same a (r a (eqb_refl a)))) g
  execute_op-agree (Copy a b) r s t g = set-agree U s t a _ _ (g.same b (r b (eqb_refl b))) g
  execute_op-agree (AddVariable a b) r s t g =
      set-agree U s t a _ _
      (rw (g.same a (r a (either→or (eqb a a) (eqb b a) (inl (eqb_refl a)))), g.same b (r b (either→or (eqb a b) (eqb b b) (inr (eqb_refl b))))))
      g
  execute_op-agree (SubVariable a b) r s t g =
      set-agree U s t a _ _
      (rw (g.same a (r a (either→or (eqb a a) (eqb b a) (inl (eqb_refl a)))), g.same b (r b (either→or (eqb a b) (eqb b b) (inr (eqb_refl b))))))
      g
  execute_op-agree (Notify w) r s t g = record { same_length = g.same_length; same = λ i u. at_i i u }
    where
      at_i : (i : ℕ) → U i ⊎ T false → get_or s i 0 ≡ get_or t i 0
      at_i i (inl u) = g.same i u
      at_i i (inr u) = absurd u

-- where all that xs reads is in U: the results agree on U and on what xs writes
pub execute-written : (U : ℕ → Type 0) (xs : List Statement) → ((i : ℕ) → T (reads xs i) → U i) → (s t : List ℕ) → Agree U s t
    → Agree (λ i. U i ⊎ T (writes xs i)) (execute xs s) (execute xs t)
unfolding execute reads writes
execute-written U [] r s t g = record { same_length = g.same_length; same = λ i u. at_i i u }
  where
    at_i : (i : ℕ) → U i ⊎ T false → get_or s i 0 ≡ get_or t i 0
    at_i i (inl u) = g.same i u
    at_i i (inr u) = absurd u
execute-written U (x ∷ xs) r s t g =
    agree_less _ _ (execute xs (execute_op x.op s)) (execute xs (execute_op x.op t)) split
    (execute-written (λ i. U i ⊎ T (writes_op x.op i)) xs (λ i h. inl (r i (either→or (reads_op x.op i) (reads xs i) (inr h)))) (execute_op x.op s) (execute_op x.op t)
    (execute_op-agree U x.op (λ i h. r i (either→or (reads_op x.op i) (reads xs i) (inl h))) s t g))
  where
    split : (i : ℕ) → U i ⊎ T (writes_op x.op i || writes xs i) → (U i ⊎ T (writes_op x.op i)) ⊎ T (writes xs i)
    split i (inl u) = inl (inl u)
    split i (inr w) = go (or→either (writes_op x.op i) (writes xs i) w)
      where
        go : T (writes_op x.op i) ⊎ T (writes xs i) → (U i ⊎ T (writes_op x.op i)) ⊎ T (writes xs i)
        go (inl p) = inl (inr p)
        go (inr p) = inr p

pub execute-agree : (U : ℕ → Type 0) (xs : List Statement) → ((i : ℕ) → T (reads xs i) → U i) → (s t : List ℕ) → Agree U s t → Agree U (execute xs s) (execute xs t)
execute-agree U xs r s t g = agree_less _ U (execute xs s) (execute xs t) (λ i u. inl u) (execute-written U xs r s t g)

-- the next segment, and so how a segment closes, hangs on the test variable alone, if there is one
next_of-agree : (x : Next) (v w : List ℕ) → ((i : ℕ) → T (tests_next x i) → get_or v i 0 ≡ get_or w i 0) → next_of x v ≡ next_of x w
unfolding tests_next next_of
next_of-agree x v w h = go (ℕ_discrete x.test 255)
  where
    go : Dec (x.test ≡ 255) → next_of x v ≡ next_of x w
    go (yes e) = sym (next_of-untested x v e) ∙ next_of-untested x w e
    go (no e) =
        let tested = both→and (not (eqb x.test 255)) (eqb x.test x.test) (not_T (eqb x.test 255) (λ t. e (eqb→eq x.test 255 t))) (eqb_refl x.test) in
        rw (h x.test tested) refl

pub closed_at-agree : (s : ℕ) (g : Closer) (c : Cycle) (v w : List ℕ) → ((i : ℕ) → T (tests g i) → get_or v i 0 ≡ get_or w i 0) → closed_at s g c v ≡ closed_at s g c w
unfolding closed_at tests
closed_at-agree s End c v w h = refl
closed_at-agree s (Time k x) c v w h = rw (next_of-agree x v w h) refl
closed_at-agree s (Event e x) c v w h = rw (next_of-agree x v w h) refl

-- two effects that differ only in variables outside U
pub record Alike (U : ℕ → Type 0) (a b : Effect) : Type 0 where
  pub variables_agree : Agree U a.variables b.variables
  pub same_notified : a.notified ≡ b.notified
  pub same_thread : a.thread ≡ b.thread

-- the parts of what a segment uses
module _ (g : Segment) (i : ℕ) where
  pub writes_of→uses_of : T (writes_of g i) → T (uses_of g i)
  unfolding uses_of
  writes_of→uses_of h = either→or (writes_of g i || reads (body_of g) i) (tests g.closer i) (inl (either→or (writes_of g i) (reads (body_of g) i) (inl h)))

  pub reads_of→uses_of : T (reads (body_of g) i) → T (uses_of g i)
  unfolding uses_of
  reads_of→uses_of h = either→or (writes_of g i || reads (body_of g) i) (tests g.closer i) (inl (either→or (writes_of g i) (reads (body_of g) i) (inr h)))

  pub tests_of→uses_of : T (tests g.closer i) → T (uses_of g i)
  unfolding uses_of
  tests_of→uses_of h = either→or (writes_of g i || reads (body_of g) i) (tests g.closer i) (inr h)

-- a segment, whichever its number
module _ (g : Segment) (s : ℕ) (c : Cycle) where
  pub effect_in-frame : (v : List ℕ) (i : ℕ) → writes_of g i ≡ false → get_or (effect_in g s c v).variables i 0 ≡ get_or v i 0
  unfolding effect_in writes_of
  effect_in-frame v i h = execute-frame (body_of g) v i h

  pub effect_in-length : (v : List ℕ) → length (effect_in g s c v).variables ≡ length v
  unfolding effect_in
  effect_in-length v = execute-length (body_of g) v

  pub effect_in-begins : (v : List ℕ) → (rest : List ℕ) × (notified_by (body_of g) ≡ (effect_in g s c v).notified ++ rest)
  unfolding effect_in
  effect_in-begins v = ([], sym (append-nil (notified_by (body_of g))))

  -- variables that agree on U, which has all that the segment uses
  pub effect_in-within : (U : ℕ → Type 0) → ((i : ℕ) → T (uses_of g i) → U i) → (v w : List ℕ) → Agree U v w → Alike U (effect_in g s c v) (effect_in g s c w)
  unfolding effect_in
  effect_in-within U used v w a =
      let after = execute-agree U (body_of g) (λ i h. used i (reads_of→uses_of g i h)) v w a in
      record {
        variables_agree = after;
        same_notified = refl;
        same_thread = closed_at-agree s g.closer c _ _ (λ i h. after.same i (used i (tests_of→uses_of g i h)));
      }

-- thread k in segment s of a model
module _ (m : Model) (k s : ℕ) where
  pub writes_in→uses_in : (i : ℕ) → T (writes_in m k s i) → T (uses_in m k s i)
  unfolding uses_in writes_in
  writes_in→uses_in i h = writes_of→uses_of (segment_for m k s) i h

  pub effect_of-frame : (c : Cycle) (v : List ℕ) (i : ℕ) → writes_in m k s i ≡ false → get_or (effect_of m k s c v).variables i 0 ≡ get_or v i 0
  unfolding effect_of writes_in
  effect_of-frame c v i h = effect_in-frame (segment_for m k s) s c v i h

  pub effect_of-length : (c : Cycle) (v : List ℕ) → length (effect_of m k s c v).variables ≡ length v
  unfolding effect_of
  effect_of-length c v = effect_in-length (segment_for m k s) s c v

  pub effect_of-begins : (c : Cycle) (v : List ℕ) → (rest : List ℕ) × (listed_in m k s ≡ (effect_of m k s c v).notified ++ rest)
  unfolding effect_of listed_in
  effect_of-begins c v = effect_in-begins (segment_for m k s) s c v

  pub effect_of-within : (c : Cycle) (U : ℕ → Type 0) → ((i : ℕ) → T (uses_in m k s i) → U i) → (v w : List ℕ) → Agree U v w
      → Alike U (effect_of m k s c v) (effect_of m k s c w)
  unfolding effect_of uses_in
  effect_of-within c U used v w a = effect_in-within (segment_for m k s) s c U used v w a

  pub effect_of-local : (c : Cycle) (v w : List ℕ) → Agree (λ i. T (uses_in m k s i)) v w
      → Alike (λ i. T (uses_in m k s i)) (effect_of m k s c v) (effect_of m k s c w)
  effect_of-local c v w a = effect_of-within c (λ i. T (uses_in m k s i)) (λ i h. h) v w a
