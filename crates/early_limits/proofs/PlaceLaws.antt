-- What stands at each place of the lists of `specs/Ahead.antt`, by its index; and sums with least bounds.
use Prim.Native.Nat.{ℕ, zero, suc, ◌+◌, ◌*◌, ◌<◌, ◌≤◌, ◌/◌, ◌%◌}
use mathlib.Core.Path.{◌≡◌, refl, ap, ◌∙◌}
use mathlib.Core.Bool.{cond}
use mathlib.Core.List.{List, [], append-nil}
use native.Mathlib.Nat.{zero-add}
use native.Mathlib.Omega.{arith}
use native.Mathlib.Decide.{dec_lt}
use lib.Dec.{ltb}
use lib.ListN.{get_or, length, drop, drop_of_length-le, get_or-eq_default, get_or-append}
use borrow.Author.Tests.{lt-ltb, le-ltb}
use Rattle.base.specs.Index.{tabulate}
use Rattle.base.proofs.IndexLaws.{tabulate-length, tabulate-at}
use Rattle.clock.specs.declared.Bound.{Bound}
use Rattle.clock.specs.Advance.{least_below, ◌⊕◌}
use Rattle.clock.proofs.AdvanceLaws.{Never-⊕, ⊕-Never, least-⊕, ⊕-least}
use Rattle.model.specs.declared.Model.{Model}
use Rattle.model.specs.declared.Thread.{Thread}
use Rattle.model.specs.Record.{thread_at, awaited_by}
use Rattle.tables.specs.Word.{all_ones}
use Rattle.early.specs.declared.Notification.{Notification}
use Rattle.early.specs.Earliest.{source_of}
use Rattle.early_limits.specs.declared.Crew.{Crew}
use Rattle.early_limits.specs.Limit.{limit_of, at_most}
use Rattle.early_limits.specs.Ahead.{nearest, reach_of, reach_in, relaxed_at, relaxed_limits, event_awaited, since_awaited, segments_of, events_of, since_of, source_limits}

-- least bounds

-- a sum with the least is the least of the sums, on either side
pub least_below-⊕ : (n : ℕ) (f : ℕ → Bound) (d : Bound) → least_below n f ⊕ d ≡ least_below n (λ i. f i ⊕ d)
unfolding least_below
least_below-⊕ zero f d = Never-⊕ d
least_below-⊕ (suc n) f d = least-⊕ (least_below n f) (f n) d ∙ rw (least_below-⊕ n f d) refl

pub ⊕-least_below : (n : ℕ) (a : Bound) (f : ℕ → Bound) → a ⊕ least_below n f ≡ least_below n (λ i. a ⊕ f i)
unfolding least_below
⊕-least_below zero a f = ⊕-Never a
⊕-least_below (suc n) a f = ⊕-least a (least_below n f) (f n) ∙ rw (⊕-least_below n a f) refl

-- lists filled by an index

filled_at : {A : Type 0} (n k : ℕ) (f : ℕ → A) (d : A) → k < n → get_or (tabulate n 0 f) k d ≡ f k
filled_at n k f d h = tabulate-at n 0 k f d h ∙ ap f (zero-add k)

pub at_most-is : (k x : ℕ) → x ≤ k → at_most k x ≡ x
unfolding at_most
at_most-is k x h = go (dec_lt x k)
  where
    go : Dec (x < k) → cond (ltb x k) x k ≡ x
    go (yes p) = rw (lt-ltb x k p) refl
    go (no p) = rw (le-ltb x k (omega arith)) (omega arith)

-- a list of 32 places: f below t, g from t on
module _ (t k : ℕ) (f g : ℕ → ℕ) (d : ℕ) where
  below_at : t ≤ 32 → k < t → get_or (tabulate 32 0 (λ i. cond (ltb i t) (f i) (g i))) k d ≡ f k
  below_at few h = filled_at 32 k (λ i. cond (ltb i t) (f i) (g i)) d (omega arith) ∙ rw (lt-ltb k t h) refl

  past-at : t ≤ k → g k ≡ d → get_or (tabulate 32 0 (λ i. cond (ltb i t) (f i) (g i))) k d ≡ d
  past-at h e = go (dec_lt k 32)
    where
      go : Dec (k < 32) → get_or (tabulate 32 0 (λ i. cond (ltb i t) (f i) (g i))) k d ≡ d
      go (yes p) = filled_at 32 k (λ i. cond (ltb i t) (f i) (g i)) d p ∙ rw (le-ltb k t h) e
      go (no p) = get_or-eq_default (tabulate 32 0 (λ i. cond (ltb i t) (f i) (g i))) d (omega (arith, tabulate-length 32 0 (λ i. cond (ltb i t) (f i) (g i))))

module _ (t : ℕ) (ts : List Thread) (k : ℕ) (few : t ≤ 32) (h : k < t) where
  pub segments_of-at : get_or (segments_of t ts) k 0 ≡ (thread_at ts k).segment
  unfolding segments_of
  segments_of-at = below_at t k (λ i. (thread_at ts i).segment) (λ i. 0) 0 few h

  pub events_of-at : get_or (events_of t ts) k 255 ≡ event_awaited (awaited_by (thread_at ts k).state)
  unfolding events_of
  events_of-at = below_at t k (λ i. event_awaited (awaited_by (thread_at ts i).state)) (λ i. 255) 255 few h

  pub since_of-at : get_or (since_of t ts) k 0 ≡ since_awaited (awaited_by (thread_at ts k).state)
  unfolding since_of
  since_of-at = below_at t k (λ i. since_awaited (awaited_by (thread_at ts i).state)) (λ i. 0) 0 few h

  pub source_limits-at : (l : List Notification) → get_or (source_limits t l ts) k all_ones ≡ limit_of (source_of l (thread_at ts k).state)
  unfolding source_limits
  source_limits-at l = below_at t k (λ i. limit_of (source_of l (thread_at ts i).state)) (λ i. all_ones) all_ones few h

pub source_limits-past : (t : ℕ) (l : List Notification) (ts : List Thread) (k : ℕ) → t ≤ k → get_or (source_limits t l ts) k all_ones ≡ all_ones
unfolding source_limits
source_limits-past t l ts k h = past-at t k (λ i. limit_of (source_of l (thread_at ts i).state)) (λ i. all_ones) all_ones h refl

module _ (reach : List ℕ) (crew : Crew) (t : ℕ) (xs : List ℕ) (k : ℕ) where
  pub relaxed_limits-at : t ≤ 32 → k < t → get_or (relaxed_limits reach crew t xs) k all_ones ≡ relaxed_at reach crew xs t k
  unfolding relaxed_limits
  relaxed_limits-at few h = below_at t k (λ i. relaxed_at reach crew xs t i) (λ i. get_or xs i all_ones) all_ones few h

  pub relaxed_limits-past : t ≤ k → get_or xs k all_ones ≡ all_ones → get_or (relaxed_limits reach crew t xs) k all_ones ≡ all_ones
  unfolding relaxed_limits
  relaxed_limits-past h e = past-at t k (λ i. relaxed_at reach crew xs t i) (λ i. get_or xs i all_ones) all_ones h e

-- from segment r to event e
pub reach_of-at : (m : Model) (ws : List ℕ) (r e : ℕ) → m.n ≤ 64 → r < m.n → e < 32 → get_or (reach_of m ws) (r * 32 + e) all_ones ≡ nearest m ws r e
unfolding reach_of
reach_of-at m ws r e few h p =
    filled_at 2048 (r * 32 + e) (λ i. cond (ltb (i / 32) m.n) (nearest m ws (i / 32) (i % 32)) all_ones) all_ones (omega arith) ∙ rw (row, column, lt-ltb r m.n h) refl
  where
    row : (r * 32 + e) / 32 ≡ r
    row = omega arith

    column : (r * 32 + e) % 32 ≡ e
    column = omega arith

pub reach_of-length : (m : Model) (ws : List ℕ) → length (reach_of m ws) ≡ 2048
unfolding reach_of
reach_of-length m ws = tabulate-length 2048 0 (λ i. cond (ltb (i / 32) m.n) (nearest m ws (i / 32) (i % 32)) all_ones)

-- a buffer of that length is filled whole; the places of a longer one are those, too
pub reach_in-all : (m : Model) (ws buffer : List ℕ) → length buffer ≡ 2048 → reach_in m ws buffer ≡ reach_of m ws
unfolding reach_in
reach_in-all m ws buffer e =
    let none : drop 2048 buffer ≡ [] = drop_of_length-le buffer {i = 2048} (omega arith) in
    rw (le-ltb (length buffer) 2048 (omega arith), none, append-nil (reach_of m ws)) refl

pub reach_in-at : (m : Model) (ws buffer : List ℕ) (i d : ℕ) → 2048 ≤ length buffer → i < 2048 → get_or (reach_in m ws buffer) i d ≡ get_or (reach_of m ws) i d
unfolding reach_in
reach_in-at m ws buffer i d h p =
    rw (le-ltb (length buffer) 2048 h) (get_or-append (reach_of m ws) (drop 2048 buffer) d i (omega (arith, reach_of-length m ws)))
