-- Words while the rounds run: `held_word` keeps the order, the sum and the least of bounds whose deltas are small, and the cut brings the stored word.
use Prim.Native.Nat.{ℕ, zero, suc, min, ◌+◌, ◌*◌, ◌≤◌, ◌<◌}
use mathlib.Core.Path.{◌≡◌, refl, ap, sym, ◌∙◌}
use mathlib.Core.Logic.{◌⊎◌, inl, inr}
use mathlib.Core.Bool.{Bool, true, false, not, cond, ◌||◌}
use native.Mathlib.Omega.{arith}
use native.Mathlib.Decide.{dec_lt}
use lib.Dec.{T, eqb}
use borrow.Author.Tests.{lt-ltb, le-ltb}
use Rattle.base.proofs.BoolLaws.{T→true, T→false, T-case}
use Rattle.clock.specs.declared.Cycle.{Cycle}
use Rattle.clock.specs.declared.Bound.{Bound}
use Rattle.clock.specs.declared.Bound.TheVariants.{Never, At}
use Rattle.clock.specs.declared.Wait.{Wait}
use Rattle.clock.specs.declared.Wait.TheVariants as wait
use Rattle.clock.specs.declared.Step.TheVariants.{Ready}
use Rattle.clock.specs.Cycle.{cycle_at}
use Rattle.clock.specs.Wait.{wait_ends}
use Rattle.clock.specs.Order.{◌≼◌, sooner, same_time}
use Rattle.clock.specs.Advance.{is_bound_before, least, delta_after, plus_of, ◌⊕◌, no_advance, advance_of}
use Rattle.clock.proofs.LeastLaws.{is_bound_before→≼, not-is_bound_before→≼, least-before, least_other}
use Rattle.clock.proofs.OrderLaws.{At-same}
use Rattle.clock.proofs.AdvanceLaws.{delta_after-≤, ⊕-parts, advance_of-delta}
use Rattle.clock.proofs.WaitLaws.{wait_ends-advance}
use Rattle.model.specs.declared.Closer.{Closer}
use Rattle.model.specs.declared.Closer.TheVariants.{End, Time, Event}
use Rattle.model.specs.Limits.{cut_time}
use Rattle.model.specs.Reach.{goes_to}
use Rattle.tables.specs.Distance.{step_of, cut}
use Rattle.tables.specs.Word.{word_of}
use Rattle.tables_distance.specs.Store.{far, held_word, sum_word, steps_of, direct_word, cut_word}
use Rattle.tables_distance.proofs.StoreLaws.{sum_word-far, sum_word-none, sum_word-more}

-- a bound whose delta is at most d
abbrev pub SmallDelta : ℕ → Bound → Type 0
SmallDelta d b = (c : Cycle) → b ≡ At c → c.delta.0 ≤ d

pub held_word-≤ : (b : Bound) → held_word b ≤ far
unfolding held_word
held_word-≤ b = omega arith

pub held_word-never : held_word Never ≡ far
unfolding held_word word_of
held_word-never = omega arith

pub held_word-late : (c : Cycle) → cut_time ≤ c.time.0 → held_word (At c) ≡ far
unfolding held_word word_of
held_word-late c h = omega arith

pub held_word-near : (c : Cycle) → c.time.0 < cut_time → c.delta.0 ≤ 1023 → held_word (At c) ≡ c.time.0 * 1024 + c.delta.0
unfolding held_word word_of
held_word-near c h l = omega arith

pub held_word-mono : (a b : Bound) → SmallDelta 1023 a → a ≼ b → held_word a ≤ held_word b
unfolding held_word word_of
held_word-mono a Never small h = omega arith
held_word-mono Never (At b) small h = absurd h
held_word-mono (At a) (At b) small (sooner p) = omega (arith, small a refl)
held_word-mono (At a) (At b) small (same_time p q) = omega (arith, small a refl)

pub held_word-least : (a b : Bound) → SmallDelta 1023 a → SmallDelta 1023 b → min (held_word a) (held_word b) ≡ held_word (least a b)
held_word-least a b p q = go (T-case (is_bound_before b a))
  where
    go : T (is_bound_before b a) ⊎ T (not (is_bound_before b a)) → min (held_word a) (held_word b) ≡ held_word (least a b)
    go (inl t) =
        rw (← least-before a b (T→true (is_bound_before b a) t)) (omega (arith, held_word-mono b a q (is_bound_before→≼ b a t)))
    go (inr t) =
        rw (← least_other a b (T→false (is_bound_before b a) t)) (omega (arith, held_word-mono a b p (not-is_bound_before→≼ b a t)))

-- sums

pub sum_word-late : (a b : ℕ) → far ≤ a → far ≤ sum_word a b
sum_word-late a b h = go (dec_lt b 1024) (dec_lt b far)
  where
    go : Dec (b < 1024) → Dec (b < far) → far ≤ sum_word a b
    go (yes p) _ = rw (← sum_word-none a b p) (omega arith)
    go (no p) (yes q) = let p' : 1024 ≤ b = omega arith in rw (← sum_word-more a b q p') (omega arith)
    go (no p) (no q) = let q' : far ≤ b = omega arith in rw (← sum_word-far a b q') (omega arith)

late-sum : (a b : ℕ) → far ≤ a → min far (sum_word a b) ≡ far
late-sum a b h = omega (arith, sum_word-late a b h)

far-sum : (a b : ℕ) → far ≤ b → min far (sum_word a b) ≡ far
far-sum a b h = omega (arith, sum_word-far a b h)

-- two cycles below far, packed
near-sum : (a b : Cycle) → a.delta.0 ≤ 1023 → b.delta.0 ≤ 1023 → b.time.0 < cut_time → sum_word (a.time.0 * 1024 + a.delta.0) (b.time.0 * 1024 + b.delta.0) ≡ (plus_of a b).time.0 * 1024 + (plus_of a b).delta.0
unfolding plus_of delta_after
near-sum a b p q h = go b.time.0 b.delta.0 q h
  where
    go : (t d : ℕ) → d ≤ 1023 → t < cut_time → sum_word (a.time.0 * 1024 + a.delta.0) (t * 1024 + d) ≡ (a.time.0 + t) * 1024 + (delta_after t a.delta.0 + d)
    go zero d l h = sym (sum_word-none (a.time.0 * 1024 + a.delta.0) (0 * 1024 + d) (omega arith)) ∙ omega arith
    go (suc t) d l h = sym (sum_word-more (a.time.0 * 1024 + a.delta.0) (suc t * 1024 + d) (omega arith) (omega arith)) ∙ omega arith

pub held_word-sum : (a b : Bound) → SmallDelta 1023 a → SmallDelta 1023 b → min far (sum_word (held_word a) (held_word b)) ≡ held_word (a ⊕ b)
unfolding ◌⊕◌ plus_of held_word word_of
held_word-sum Never b p q = rw held_word-never (late-sum far (held_word b) (omega arith))
held_word-sum (At a) Never p q = rw held_word-never (far-sum (held_word (At a)) far (omega arith))
held_word-sum (At a) (At b) p q = go (dec_lt a.time.0 cut_time) (dec_lt b.time.0 cut_time)
  where
    later : cut_time ≤ a.time.0 + b.time.0 → held_word (At (plus_of a b)) ≡ far
    later h = held_word-late (plus_of a b) h

    go : Dec (a.time.0 < cut_time) → Dec (b.time.0 < cut_time) → min far (sum_word (held_word (At a)) (held_word (At b))) ≡ held_word (At (plus_of a b))
    go (no h) _ = rw (held_word-late a (omega arith), later (omega arith)) (late-sum far (held_word (At b)) (omega arith))
    go (yes h) (no l) = rw (held_word-late b (omega arith), later (omega arith)) (far-sum (held_word (At a)) far (omega arith))
    go (yes h) (yes l) =
        rw (held_word-near a h (p a refl), held_word-near b l (q b refl)) (ap (min far) (near-sum a b (p a refl) (q b refl) l))

-- The sum with a step, tied to the clock: where a wait begun at c ends ready at d, its word on top of that of c is that of d.
pub held_word-step : (w : Wait) (c d : Cycle) → wait_ends w c ≡ Ready d → c.delta.0 ≤ 1023 → min far (sum_word (held_word (At c)) (held_word (advance_of w))) ≡ held_word (At d)
held_word-step w c d e h =
    held_word-sum (At c) (advance_of w) (λ x f. rw (← At-same f) h) (λ x f. let l = advance_of-delta w f in omega arith)
    ∙ ap held_word (wait_ends-advance w c e)

-- one relaxation
pub held_word-relaxed :
    (x a b : Bound) → SmallDelta 1023 x → SmallDelta 1023 a → SmallDelta 1023 b → SmallDelta 1023 (a ⊕ b) →
    min (held_word x) (sum_word (held_word a) (held_word b)) ≡ held_word (least x (a ⊕ b))
held_word-relaxed x a b p q r s = omega (arith, held_word-≤ x, held_word-sum a b q r, held_word-least x (a ⊕ b) p s)

-- none, where the first part is never or late
pub held_word-left : (w a b : ℕ) → w ≤ far → far ≤ a → min w (sum_word a b) ≡ w
held_word-left w a b h l = omega (arith, sum_word-late a b l)

-- the sum of two small deltas
pub ⊕-delta : (d e : ℕ) (a b : Bound) → SmallDelta d a → SmallDelta e b → SmallDelta (d + e) (a ⊕ b)
unfolding plus_of
⊕-delta d e a b p q c f =
    let (x, y, g, h, k) = ⊕-parts a b f in
    rw (← k) (go x y (p x g) (q y h))
  where
    go : (x y : Cycle) → x.delta.0 ≤ d → y.delta.0 ≤ e → (plus_of x y).delta.0 ≤ d + e
    go x y p q = omega (arith, delta_after-≤ y.time.0 x.delta.0)

-- the stored word
pub cut_word-held_word : (b : Bound) → SmallDelta 1023 b → cut_word (held_word b) ≡ word_of (cut b)
unfolding cut_word cut word_of
cut_word-held_word Never p = rw held_word-never refl
cut_word-held_word (At c) p = go (dec_lt c.time.0 cut_time)
  where
    go : Dec (c.time.0 < cut_time) → cut_word (held_word (At c)) ≡ word_of (cut (At c))
    go (yes h) =
        rw (held_word-near c h (p c refl), lt-ltb c.time.0 cut_time h, lt-ltb (c.time.0 * 1024 + c.delta.0) far (omega (arith, p c refl))) refl
    go (no h) = let h' : cut_time ≤ c.time.0 = omega arith in rw (held_word-late c h', le-ltb c.time.0 cut_time h') refl

-- the first words
choice : (e g : Bool) (w : ℕ) (b : Bound) → w ≡ held_word b → cond e 0 (cond g w far) ≡ held_word (cond e no_advance (cond g b Never))
choice true g w b f = sym (held_word-near (cycle_at 0 0) (omega arith) (omega arith))
choice false true w b f = f
choice false false w b f = sym held_word-never

no-choice : (e g : Bool) → cond e 0 (cond g far far) ≡ held_word (cond e no_advance Never)
no-choice true g = sym (held_word-near (cycle_at 0 0) (omega arith) (omega arith))
no-choice false true = sym held_word-never
no-choice false false = sym held_word-never

pub direct_word-held_word : (x : Closer) (r s : ℕ) → direct_word (steps_of x) r s ≡ held_word (cond (eqb r s) no_advance (step_of x s))
unfolding direct_word steps_of step_of goes_to
direct_word-held_word End r s = no-choice (eqb r s) (eqb 0 s || eqb 0 s)
direct_word-held_word (Time k x) r s = choice (eqb r s) (eqb x.a s || eqb x.b s) (held_word (advance_of (wait.Time k))) (advance_of (wait.Time k)) refl
direct_word-held_word (Event w x) r s = choice (eqb r s) (eqb x.a s || eqb x.b s) (held_word (advance_of wait.Event)) (advance_of wait.Event) refl
