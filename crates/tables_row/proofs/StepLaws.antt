-- The 64 words of the steps, the start of a row, and what the steps of a model say of its edges.
--     start-self, start-other, start_to-at     the row at its start
--     steps_to, steps_to-in, steps_of-near, step_word-read     the loop that stores the steps
--     steps_in-length, steps_in-first, steps_in-whole     a buffer with the steps stored
--     step_words-length, step_words-at, step_word-word, -first, -second     the words taken apart
--     leads-edge, edge_leads, edge-some     a step of the words is an edge of the graph, of the same word, and each takes a delta or time
use Prim.Native.Nat.{ℕ, ◌+◌, ◌-◌, ◌≤◌, ◌<◌}
use mathlib.Core.Path.{◌≡◌, refl, ap, sym, ◌∙◌}
use mathlib.Core.Logic.{◌⊎◌, inl, inr}
use mathlib.Core.Bool.{Bool, true, false, cond, ◌||◌}
use mathlib.Core.List.{List, ◌++◌}
use native.Mathlib.Omega.{arith}
use native.Mathlib.Nat.{zero-add}
use native.Mathlib.Decide.{dec_lt}
use lib.Dec.{T, eqb, eqb→eq}
use lib.ListN.{length, get_or, take, drop, length-append, length-drop, get_or-append}
use lib.Seq.{ext_get_or, get_or-append-add, get_or-drop, take_at, take_all}
use borrow.Author.Tests.{lt-ltb, le-ltb, eq-eqb, ne_eqb}
use Rattle.base.specs.Index.{store_to}
use Rattle.base.proofs.BoolLaws.{T→true, or→either, either→or, eq→eqb}
use Rattle.base.proofs.IndexLaws.{tabulate-length, tabulate-at, store_to-length, store_to-other, store_to-at}
use Rattle.clock.specs.declared.Bound.{Bound}
use Rattle.clock.specs.declared.Bound.TheVariants.{Never}
use Rattle.clock.specs.declared.Wait.{Wait}
use Rattle.clock.specs.declared.Wait.TheVariants as wait
use Rattle.clock.specs.Advance.{advance_of}
use Rattle.clock.proofs.PassageLaws.{Passing, notified, instant, timed, passing}
use Rattle.model.specs.declared.Next.{Next}
use Rattle.model.specs.declared.Closer.{Closer}
use Rattle.model.specs.declared.Closer.TheVariants.{End, Time, Event}
use Rattle.model.specs.declared.Segment.{Segment}
use Rattle.model.specs.declared.Model.{Model}
use Rattle.model.specs.Reach.{goes_to}
use Rattle.model.specs.Rules.{model_fault, leaves_model}
use Rattle.model.specs.Values.{segment_at}
use Rattle.model_rules.proofs.FaultLaws.{segment_at-read}
use Rattle.model_rules.proofs.RuleLaws.{model_fault-counts, model_fault-next, leaves_model-time, leaves_model-event}
use Rattle.tables.specs.Distance.{step_of, edge}
use Rattle.tables_distance.specs.declared.Steps.{Steps}
use Rattle.tables_distance.specs.Store.{far, held_word, steps_of}
use Rattle.tables_distance.proofs.HeldLaws.{held_word-≤, held_word-never}
use Rattle.tables_distance.proofs.StoreLaws.{word-delta-notification, word-zero-wait, word-timed-wait}
use Rattle.tables_row.specs.Row.{step_word, step_words, steps_in}
use Rattle.tables_row.specs.Lower.{word_in, first_in, second_in, Leads, start_to}

-- the row at its start

pub start-self : (s r : ℕ) → s ≡ r → 0 ≡ cond (eqb s r) 0 far
start-self s r e = rw (eq-eqb s r e) refl

pub start-other : (s r : ℕ) → (s ≡ r → ⊥) → far ≡ cond (eqb s r) 0 far
start-other s r e = rw (ne_eqb s r e) refl

pub start_to-at : (r : ℕ) (row : List ℕ) (k s : ℕ) → s < k → k ≤ length row → get_or (start_to r row k) s 0 ≡ cond (eqb s r) 0 far
start_to-at r row k s h l = store_to-at _ 0 row 0 (λ s. cond (eqb s r) 0 far) k s s (omega arith) (λ j b. refl) h (omega arith)

-- the steps, stored

abbrev pub steps_to : Model → List ℕ → ℕ → List ℕ
steps_to m steps n = store_to (λ s vs. step_word (steps_of (segment_at m s).closer)) 0 steps n

pub steps_of-near : (x : Closer) → (steps_of x).word ≤ far
unfolding steps_of
steps_of-near End = omega arith
steps_of-near (Time k x) = held_word-≤ (advance_of (wait.Time k))
steps_of-near (Event w x) = held_word-≤ (advance_of wait.Event)

-- the step that the code reads at place s
pub step_word-read :
    (m : Model) (s w : ℕ) (d : Segment) (g : Steps) → s < length m.segments → g ≡ steps_of (get_or m.segments s d).closer → w ≡ step_word g →
    w ≡ step_word (steps_of (segment_at m s).closer)
step_word-read m s w d g h e f = f ∙ ap step_word (e ∙ ap (λ (x : Segment). steps_of x.closer) (segment_at-read m s d h))

pub step_words-length : (m : Model) → length (step_words m) ≡ 64
unfolding step_words
step_words-length m = tabulate-length 64 0 (λ s. step_word (steps_of (segment_at m s).closer))

pub step_words-at : (m : Model) (s : ℕ) → s < 64 → get_or (step_words m) s 0 ≡ step_word (steps_of (segment_at m s).closer)
unfolding step_words
step_words-at m s h = tabulate-at 64 0 s (λ s. step_word (steps_of (segment_at m s).closer)) 0 h ∙ ap (λ (x : ℕ). step_word (steps_of (segment_at m x).closer)) (zero-add s)

pub steps_in-short : (m : Model) (buffer : List ℕ) → length buffer < 64 → buffer ≡ steps_in m buffer
unfolding steps_in
steps_in-short m buffer h = rw (lt-ltb (length buffer) 64 h) refl

pub steps_to-in : (m : Model) (buffer : List ℕ) → 64 ≤ length buffer → steps_to m buffer 64 ≡ steps_in m buffer
unfolding steps_in
steps_to-in m buffer room =
    rw (le-ltb (length buffer) 64 room)
    (ext_get_or 0 (steps_to m buffer 64) (step_words m ++ drop 64 buffer)
    (store_to-length _ 0 buffer 64 ∙ sym (length-append (step_words m) (drop 64 buffer) ∙ omega (arith, step_words-length m, length-drop 64 buffer)))
    (λ i h. go i (dec_lt i 64)))
  where
    go : (i : ℕ) → Dec (i < 64) → get_or (steps_to m buffer 64) i 0 ≡ get_or (step_words m ++ drop 64 buffer) i 0
    go i (yes h) =
        store_to-at _ 0 buffer 0 (λ s. step_word (steps_of (segment_at m s).closer)) 64 i i (omega arith) (λ j b. refl) h (omega arith)
        ∙ sym (get_or-append (step_words m) (drop 64 buffer) 0 i (omega (arith, step_words-length m)) ∙ step_words-at m i h)
    go i (no h) =
        let e : i ≡ length (step_words m) + (i - 64) = omega (arith, step_words-length m) in
        let g : 64 + (i - 64) ≡ i = omega arith in
        store_to-other _ 0 buffer 0 64 i (inr (omega arith))
        ∙ sym (ap (λ (x : ℕ). get_or (step_words m ++ drop 64 buffer) x 0) e
        ∙ (get_or-append-add (step_words m) (drop 64 buffer) (i - 64) 0 ∙ (get_or-drop 64 buffer (i - 64) 0 ∙ ap (λ (x : ℕ). get_or buffer x 0) g)))

pub steps_in-length : (m : Model) (buffer : List ℕ) → length (steps_in m buffer) ≡ length buffer
steps_in-length m buffer = go (dec_lt (length buffer) 64)
  where
    go : Dec (length buffer < 64) → length (steps_in m buffer) ≡ length buffer
    go (yes h) = ap length (sym (steps_in-short m buffer h))
    go (no h) = ap length (sym (steps_to-in m buffer (omega arith))) ∙ store_to-length _ 0 buffer 64

-- the first 64 words are the steps, whatever the buffer's length from 64 on
pub steps_in-first : (m : Model) (buffer : List ℕ) → 64 ≤ length buffer → take 64 (steps_in m buffer) ≡ step_words m
unfolding steps_in
steps_in-first m buffer room = rw (le-ltb (length buffer) 64 room) (take_at (step_words m) (drop 64 buffer) 64 (step_words-length m))

-- a buffer of exactly 64 words is the steps
pub steps_in-whole : (m : Model) (buffer : List ℕ) → length buffer ≡ 64 → steps_in m buffer ≡ step_words m
steps_in-whole m buffer e =
    sym (take_all 64 (steps_in m buffer) (omega (arith, steps_in-length m buffer))) ∙ steps_in-first m buffer (omega arith)

-- the words taken apart

pub step_word-word : (g : Steps) → g.a < 256 → g.b < 256 → word_in (step_word g) ≡ g.word
unfolding step_word
step_word-word g h l = omega arith

pub step_word-first : (g : Steps) → g.a < 256 → g.b < 256 → first_in (step_word g) ≡ g.a
unfolding step_word
step_word-first g h l = omega arith

pub step_word-second : (g : Steps) → g.a < 256 → g.b < 256 → second_in (step_word g) ≡ g.b
unfolding step_word
step_word-second g h l = omega arith

-- the next segments of a closer that does not leave the model
pub steps_of-small : (x : Closer) (n : ℕ) → n ≤ 64 → leaves_model n x ≡ false → ((steps_of x).a < 256) × ((steps_of x).b < 256)
unfolding steps_of
steps_of-small End n h e = (omega arith, omega arith)
steps_of-small (Time k x) n h e = let (p, q) = leaves_model-time n k x e in (omega arith, omega arith)
steps_of-small (Event w x) n h e = let (p, q) = leaves_model-event n w x e in (omega arith, omega arith)

-- a wait takes a delta or time
advance_of-some : (w : Wait) → 1 ≤ held_word (advance_of w)
advance_of-some w = go (passing w)
  where
    go : Passing w → 1 ≤ held_word (advance_of w)
    go (notified p) = omega (arith, word-delta-notification w p)
    go (instant p) = omega (arith, word-zero-wait w p)
    go (timed k h p) = omega (arith, word-timed-wait w k p)

pub steps_of-some : (x : Closer) → 1 ≤ (steps_of x).word
unfolding steps_of
steps_of-some End = omega arith
steps_of-some (Time k x) = advance_of-some (wait.Time k)
steps_of-some (Event w x) = advance_of-some wait.Event

-- the word of a step to t, and where there is one
goes : (x : Next) (t : ℕ) → (x.a ≡ t) ⊎ (x.b ≡ t) → goes_to x t ≡ true
unfolding goes_to
goes x t (inl e) = T→true (eqb x.a t || eqb x.b t) (either→or (eqb x.a t) (eqb x.b t) (inl (eq→eqb x.a t e)))
goes x t (inr e) = T→true (eqb x.a t || eqb x.b t) (either→or (eqb x.a t) (eqb x.b t) (inr (eq→eqb x.b t e)))

gone : (x : Next) (t : ℕ) → T (goes_to x t) → (x.a ≡ t) ⊎ (x.b ≡ t)
unfolding goes_to
gone x t h = go (or→either (eqb x.a t) (eqb x.b t) h)
  where
    go : T (eqb x.a t) ⊎ T (eqb x.b t) → (x.a ≡ t) ⊎ (x.b ≡ t)
    go (inl p) = inl (eqb→eq x.a t p)
    go (inr p) = inr (eqb→eq x.b t p)

pub steps_of-word : (x : Closer) (t : ℕ) → ((steps_of x).a ≡ t) ⊎ ((steps_of x).b ≡ t) → (steps_of x).word ≡ held_word (step_of x t)
unfolding steps_of step_of
steps_of-word End t h = sym held_word-never
steps_of-word (Time k x) t h = rw (goes x t h) refl
steps_of-word (Event w x) t h = rw (goes x t h) refl

near-never : held_word Never < far → ⊥
near-never h = omega (arith, held_word-never)

choice : (b : Bool) (x : Bound) → held_word (cond b x Never) < far → T b
choice true x h = tt
choice false x h = absurd (near-never h)

pub steps_of-goes : (x : Closer) (t : ℕ) → held_word (step_of x t) < far → ((steps_of x).a ≡ t) ⊎ ((steps_of x).b ≡ t)
unfolding steps_of step_of
steps_of-goes End t h = absurd (near-never h)
steps_of-goes (Time k x) t h = gone x t (choice (goes_to x t) (advance_of (wait.Time k)) h)
steps_of-goes (Event w x) t h = gone x t (choice (goes_to x t) (advance_of wait.Event) h)

-- the words of a model that keeps the file rules

module _ (m : Model) (fit : model_fault m ≡ 0) (s : ℕ) (sn : s < m.n) where
  abbrev g : ℕ
  g = get_or (step_words m) s 0

  abbrev x : Closer
  x = (segment_at m s).closer

  small : ((steps_of x).a < 256) × ((steps_of x).b < 256)
  small = steps_of-small x m.n (model_fault-counts m fit).segments (model_fault-next m fit s sn)

  here : g ≡ step_word (steps_of x)
  here = step_words-at m s (omega (arith, (model_fault-counts m fit).segments))

  word : word_in g ≡ (steps_of x).word
  word = rw here (step_word-word (steps_of x) small.0 small.1)

  pub edge-some : 1 ≤ word_in g
  edge-some = rw word (steps_of-some x)

  pub leads-edge : (t : ℕ) → Leads g t → word_in g ≡ held_word (edge m s t)
  unfolding edge
  leads-edge t h = word ∙ steps_of-word x t (go h)
    where
      go : Leads g t → ((steps_of x).a ≡ t) ⊎ ((steps_of x).b ≡ t)
      go (inl e) = inl (sym (ap first_in here ∙ step_word-first (steps_of x) small.0 small.1) ∙ e)
      go (inr e) = inr (sym (ap second_in here ∙ step_word-second (steps_of x) small.0 small.1) ∙ e)

  pub edge_leads : (t : ℕ) → held_word (edge m s t) < far → Leads g t
  unfolding edge
  edge_leads t h = go (steps_of-goes x t h)
    where
      go : ((steps_of x).a ≡ t) ⊎ ((steps_of x).b ≡ t) → Leads g t
      go (inl e) = inl (ap first_in here ∙ step_word-first (steps_of x) small.0 small.1 ∙ e)
      go (inr e) = inr (ap second_in here ∙ step_word-second (steps_of x) small.0 small.1 ∙ e)
