-- Arrays that a loop fills from the front, one store a turn.
--     fill_none, fill_more     what holds of each entry before k
--     rest_more     what stands from k on is kept
--     threads_to-none, threads_to-set     thread records, read back from their words
use Prim.Native.Nat.{ℕ, suc, ◌+◌, ◌-◌, ◌<◌, ◌≤◌}
use mathlib.Core.Path.{◌≡◌, refl, sym, ◌∙◌}
use mathlib.Core.List.{List}
use native.Mathlib.Numerals.{add-one}
use native.Mathlib.Omega.{arith}
use lib.ListN.{length, get_or, set, replicate}
use lib.Seq.{get_or-set_other, set_at, append_snoc}
use Rattle.base.specs.Index.{tabulate}
use Rattle.base.proofs.IndexLaws.{tabulate-length, tabulate-more}
use Rattle.model.specs.declared.Thread.{Thread}
use Rattle.model.specs.declared.State.{State}
use Rattle.model.specs.Record.{no_thread}
use Rattle.plain_words.proofs.SetLaws.{set-case}
use Rattle.plain_state.specs.Words.{state_from, threads_to}

module _ (P : ℕ → ℕ → Type 0) where
  pub fill_none : (xs : List ℕ) (i : ℕ) → i < 0 → P i (get_or xs i 0)
  fill_none xs i h = absurd (omega arith)

  pub fill_more : (xs : List ℕ) (k x : ℕ) → k < length xs → P k x → ((i : ℕ) → i < k → P i (get_or xs i 0)) → (i : ℕ) → i < k + 1 → P i (get_or (set xs k x) i 0)
  fill_more xs k x h p f i l = set-case xs k i x 0 h (P i) (λ e. rw e p) (λ e. f i (omega arith))

-- what stands from k + 1 on is kept
pub rest_more : (xs ys : List ℕ) (k x : ℕ) → ((i : ℕ) → k ≤ i → get_or xs i 0 ≡ get_or ys i 0) → (i : ℕ) → k + 1 ≤ i → get_or (set xs k x) i 0 ≡ get_or ys i 0
rest_more xs ys k x f i l = get_or-set_other xs k i x 0 (λ q. omega arith) ∙ f i (omega arith)

pub threads_to-none : (ws ss : List ℕ) → replicate 32 no_thread ≡ threads_to ws ss 0
unfolding threads_to tabulate
threads_to-none ws ss = refl

threads_to-next : (ws ss : List ℕ) (k r : ℕ) → 32 - k ≡ suc r → 32 - suc k ≡ r →
    set (threads_to ws ss k) k (record { segment = get_or ss k 0; state = state_from (get_or ws k 0) }) ≡ threads_to ws ss (suc k)
unfolding threads_to
threads_to-next ws ss k r e f =
    let g : ℕ → Thread = λ j. record { segment = get_or ss j 0; state = state_from (get_or ws j 0) } in
    let z : 0 + k ≡ k = omega arith in
    rw (e, f, set_at (tabulate k 0 g) no_thread (replicate r no_thread) (g k) k (tabulate-length k 0 g), tabulate-more k 0 g, z)
    (sym (append_snoc (tabulate k 0 g) (g k) (replicate r no_thread)))

-- for the code: one record more
pub threads_to-set : (ws ss : List ℕ) (ts : List Thread) (k : ℕ) (s : State) → k < 32 → ts ≡ threads_to ws ss k → s ≡ state_from (get_or ws k 0) →
    set ts k (record { segment = get_or ss k 0; state = s }) ≡ threads_to ws ss (k + 1)
threads_to-set ws ss ts k s h e f = rw (add-one, e, f) (threads_to-next ws ss k (31 - k) (omega arith) (omega arith))
