-- The threads of a cycle, looked at one after the other.
--     Turned     the first j are looked at, or the budget was out at one that is due
--     HoldsFor, Runs     what the code holds of a model while it runs
--     Cycled     a cycle of its run, where it begins
--     cycle-out, cycle-in     a thread is left for want of budget: the run is spent; none is: the cycle is over
--     cycle-ends, cycle-ahead     which threads its end has to look at; every word is after it
--     cycle-rest, cycle-next, cycle-begun     no thread is ready up to the horizon; else the next cycle begins
--     cycle-room, cycle-later     the measure of the cycles falls
use Prim.Native.Nat.{ℕ, zero, suc, ◌+◌, ◌*◌, ◌<◌, ◌≤◌, ◌^◌}
use mathlib.Core.Path.{◌≡◌, ap, sym, ◌∙◌, subst}
use mathlib.Core.Bool.{Bool, true, false, ◌&&◌}
use mathlib.Core.List.{List}
use native.Mathlib.Numerals.{add-one}
use native.Mathlib.Omega.{arith}
use native.Mathlib.Decide.{ℕ_discrete, dec_lt}
use lib.Dec.{leb}
use lib.ListN.{length, get_or, set, replicate}
use borrow.Author.Tests.{le-leb, lt-leb}
use Rattle.model.specs.declared.Model.{Model}
use Rattle.model.specs.Values.{start_at}
use Rattle.model.specs.Rules.{model_fault}
use Rattle.model_rules.proofs.RuleLaws.{model_fault-counts}
use Rattle.plain_words.specs.Pack.{IsCodeFor}
use Rattle.plain_state.specs.Words.{limit_of, threads_to, answer, wake_word, least_word}
use Rattle.plain_state.specs.Turn.{Locals, locals, turn_on, turns_to}
use Rattle.plain_state.specs.Due.{IsDue, Begins, Ends}
use Rattle.plain_state.proofs.ExitLaws.{turn_on-passed, turn_on-full, turn_on-ran}
use Rattle.plain_state.proofs.LeastLaws.{least_word-≤}
use Rattle.plain_state.proofs.LoopLaws.{Loop, count_at, answer_of, loop-small, loop-room, loop-passed, loop-ran, loop-out, loop-ahead, loop-later, loop-begun, loop-rest}
use Rattle.plain_state.proofs.EndLaws.{due_all, ends-all, begins-next}

and_second : (b : Bool) (l k : ℕ) → b && leb l k ≡ true → k < l → ⊥
and_second true l k g h = let e : true ≡ false = sym g ∙ lt-leb l k h in let z : ◌≡◌ {A = ℕ} 0 1 = cc in absurd (omega arith)
and_second false l k g h = let z : ◌≡◌ {A = ℕ} 0 1 = cc in absurd (omega arith)

-- words of a model for each thread, as it runs them
abbrev pub HoldsFor : Model → (ℕ → List ℕ) → Type 0
HoldsFor m words = (k : ℕ) → k < m.t → IsCodeFor m k (words k)

-- a model that keeps the file rules, and what the code holds of it: T, 1,024 H, its words for each thread and its first segments
pub record Runs (m : Model) (t end : ℕ) (words : ℕ → List ℕ) (ss : List ℕ) : Type 0 where
  pub fit : model_fault m ≡ 0
  pub code : HoldsFor m words
  pub threads : t ≡ m.t
  pub limit : end ≡ limit_of m
  pub first : (k : ℕ) → k < m.t → get_or ss k 0 ≡ (start_at m k).first

data Turned (m : Model) (budget : ℕ) (x : Locals) (now j : ℕ) : Type 0 where
  looked : Loop m budget x now j → Turned m budget x now j
  out : (k : ℕ) → k < m.t → get_or x.state k 0 ≡ now → budget ≤ x.n → Loop m budget x now k → Turned m budget x now j

module _ (m : Model) (fit : model_fault m ≡ 0) (budget : ℕ) (words : ℕ → List ℕ) (is : HoldsFor m words) (now : ℕ) where
  turned_more : (x : Locals) (j : ℕ) → j < m.t → Turned m budget x now j → Turned m budget (turn_on words now budget j x) now (j + 1)
  turned_more x j h (out k l d full loop) = subst (λ (y : Locals). Turned m budget y now (j + 1)) (turn_on-full words now budget j x full) (out k l d full loop)
  turned_more x j h (looked loop) = go (ℕ_discrete (get_or x.state j 0) now) (dec_lt x.n budget)
    where
      go : Dec (get_or x.state j 0 ≡ now) → Dec (x.n < budget) → Turned m budget (turn_on words now budget j x) now (j + 1)
      go (no d) r =
          subst (λ (y : Locals). Turned m budget y now (j + 1)) (turn_on-passed words now budget j x d)
          (looked (loop-passed m fit budget x now j loop h d))
      go (yes d) (no r) = subst (λ (y : Locals). Turned m budget y now (j + 1)) (turn_on-full words now budget j x (omega arith)) (out j h d (omega arith) loop)
      go (yes d) (yes r) =
          subst (λ (y : Locals). Turned m budget y now (j + 1)) (turn_on-ran words now budget j x d r)
          (looked (loop-ran m fit budget x now j loop h d r words (is j h)))

  turned : (x : Locals) (j : ℕ) → j ≤ m.t → Loop m budget x now 0 → Turned m budget (turns_to words now budget j x) now j
  unfolding turns_to
  turned x zero h loop = looked loop
  turned x (suc j) h loop =
      subst (λ (k : ℕ). Turned m budget (turn_on words now budget j (turns_to words now budget j x)) now k) (add-one j)
      (turned_more (turns_to words now budget j x) j (omega arith) (turned x j (omega arith) loop))

-- a cycle of a model's run, where it begins
pub record Cycled (m : Model) (budget : ℕ) (words : ℕ → List ℕ) (now : ℕ) (x : Locals) (t from to : ℕ) : Type 0 where
  pub fit : model_fault m ≡ 0
  pub code : HoldsFor m words
  pub threads : t ≡ m.t
  pub loop : Loop m budget x now 0
  pub begins : Begins t x.state x.shared.told x.shared.ranges now from to

module _ {m : Model} {budget : ℕ} {words : ℕ → List ℕ} {now : ℕ} {x : Locals} {t from to : ℕ} (c : Cycled m budget words now x t from to) where
  fit : model_fault m ≡ 0
  fit = c.fit

  same : t ≡ m.t
  same = c.threads

  pub cycle-small : now < 2 ^ 44
  cycle-small = loop-small m fit budget x now 0 c.loop

  pub cycle-room : count_at t now 0 < limit_of m * (t + 1)
  cycle-room = rw same (loop-room m fit budget x now 0 c.loop)

  -- its threads have run
  module _ {y : Locals} (e : y ≡ turns_to words now budget to x) where
    all : y ≡ turns_to words now budget t x
    all = due_all words now budget x y t from to c.begins.threads e

    all-turned : Turned m budget y now m.t
    all-turned = rw (all, same) (turned m fit budget words c.code now x m.t (omega arith) c.loop)

    pub cycle-ends : Ends t y.state y.shared.told y.shared.ranges now from to
    cycle-ends = ends-all words now budget t from to (omega (arith, (model_fault-counts m fit).threads)) cycle-small x y c.loop.words_size c.begins all

    pub cycle-out : leb budget y.n && leb (least_word t y.state) now ≡ true → answer y.shared.variables (threads_to y.state y.segments t) y.n true ≡ answer_of m budget
    cycle-out f = rw same (go all-turned)
      where
        go : Turned m budget y now m.t → answer y.shared.variables (threads_to y.state y.segments m.t) y.n true ≡ answer_of m budget
        go (out k l d full at) = loop-out m fit budget y now k at l d full
        go (looked at) =
            let later : now < least_word m.t y.state = loop-ahead m fit budget y now m.t at (omega arith) in
            let g : leb budget y.n && leb (least_word m.t y.state) now ≡ true = rw same at f in
            absurd (and_second (leb budget y.n) (least_word m.t y.state) now g later)

    pub cycle-in : leb budget y.n && leb (least_word t y.state) now ≡ false → Loop m budget y now m.t
    cycle-in f = go all-turned
      where
        go : Turned m budget y now m.t → Loop m budget y now m.t
        go (looked at) = at
        go (out k l d full at) =
            let least : least_word t y.state ≤ now = omega (arith, least_word-≤ t y.state k (omega arith)) in
            let g : true ≡ false = rw (le-leb budget y.n full, le-leb (least_word t y.state) now least) at f in
            let n : ◌≡◌ {A = ℕ} 0 1 = cc in
            absurd (omega arith)

    pub cycle-ahead : leb budget y.n && leb (least_word t y.state) now ≡ false → (k : ℕ) → k < t → now < get_or y.state k 0
    cycle-ahead f k l =
        let later : now < least_word m.t y.state = loop-ahead m fit budget y now m.t (cycle-in f) (omega arith) in
        omega (arith, least_word-≤ m.t y.state k (omega arith))

    -- the cycle is over; the words us are those of the woken threads
    module _ (f : leb budget y.n && leb (least_word t y.state) now ≡ false) (us : List ℕ) (size : length us ≡ 32) (least : ℕ) (known : least ≡ least_word t us)
        (woken : (k : ℕ) → k < t → get_or us k 0 ≡ wake_word y.shared.told now (get_or y.state k 0)) where
      least-all : least ≡ least_word m.t us
      least-all = known ∙ ap (λ (k : ℕ). least_word k us) same

      woken-all : (k : ℕ) → k < m.t → get_or us k 0 ≡ wake_word y.shared.told now (get_or y.state k 0)
      woken-all k l = woken k (omega arith)

      pub cycle-rest : limit_of m ≤ least → answer y.shared.variables (threads_to us y.segments t) y.n false ≡ answer_of m budget
      cycle-rest l =
          rw same
          (loop-rest m fit budget y now m.t (cycle-in f) (omega arith) us woken-all (omega (arith, least-all)))

      pub cycle-next : (from' to' : ℕ) → IsDue t us least from' to' → Begins t us (replicate 32 false) (set (set y.shared.ranges 32 32) 65 0) least from' to'
      cycle-next from' to' due = begins-next t y.state y.shared.told y.shared.ranges now from to cycle-ends cycle-small us woken least from' to' due

      pub cycle-later : least < limit_of m → count_at t now 0 < count_at t least 0
      cycle-later l =
          let at = loop-later m fit budget y now m.t (cycle-in f) (omega arith) us woken-all (omega (arith, least-all)) in
          let below : count_at m.t now 0 < count_at m.t least 0 = rw least-all (omega arith) in
          rw same below

      pub cycle-begun : (rs : List ℕ) → least < limit_of m → Loop m budget (locals y.shared.variables us y.segments (replicate 32 false) rs y.n) least 0
      cycle-begun rs l =
          rw least-all
          (loop-begun m fit budget y now m.t (cycle-in f) (omega arith) us woken-all rs size (omega (arith, least-all)))
