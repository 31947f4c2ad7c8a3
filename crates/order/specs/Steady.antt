-- What holds between two moments of lists of requests, beside demand 3, once bounds are raised (document 02, slip 5): no bound falls, a thread that
-- may be issued may be issued at any later moment, and the state hangs on nothing but how often each thread was granted.
use Rattle.std.specs.Prelude.{ℕ, ◌<◌, ◌≡◌, ◌⊎◌, ◌↔◌, Bool, true, length, get_or}
use mathlib.Core.List.{List, [], ◌∷◌, ◌++◌, Memᴰ}
use Rattle.clock.specs.declared.Cycle.{Cycle}
use Rattle.clock.specs.declared.Bound.{Bound}
use Rattle.clock.specs.declared.Bound.TheVariants.{Never, At}
use Rattle.clock.specs.Order.{◌≼◌}
use Rattle.model.specs.declared.Model.{Model}
use Rattle.model.specs.declared.Thread.{Thread}
use Rattle.model.specs.Refusal.{accepted, log_full}
use Rattle.model.specs.Limits.{is_up_to_horizon}
use Rattle.model.specs.Record.{thread_at}
use Rattle.reader.specs.File.{read_file}
use Rattle.tables.specs.Conflict.{marks_of}
use Rattle.plain.specs.History.{Item, ran, heard}
use Rattle.early.specs.declared.Notification.{Notification}
use Rattle.early.specs.declared.Answer.{Answer}
use Rattle.early.specs.Log.{log_of}
use Rattle.early.specs.Earliest.{earliest_of}
use Rattle.early.specs.Answer.{number_of}
use Rattle.early.specs.Request.{Listed}
use Rattle.order.specs.Claim.{FreshBelow, TableBelow, after_list_with, request_next}

-- the segments with their cycles in a history, and how often its thread was granted
unfoldable pub ran_items : List Item → List Item
ran_items [] = []
ran_items (ran s c ∷ is) = ran s c ∷ ran_items is
ran_items (heard e c ∷ is) = ran_items is

abbrev pub run_count : List Item → ℕ
run_count is = length (ran_items is)

-- the earliest of thread k in what a list has left
abbrev pub earliest_after : Model → List ℕ → Listed → ℕ → Bound
earliest_after m ws a k = get_or (earliest_of m ws (log_of a.site) a.threads) k Never

-- granted, or refused for want of places in the log alone
abbrev pub MayIssue : Answer → Type 0
MayIssue a = (number_of a ≡ accepted) ⊎ (number_of a ≡ log_full)

-- after the list ks, and after it has gone on by js
pub record Onward (m : Model) (marks : List (List Bool)) (ws : List ℕ) (ts : List Thread) (ks js : List ℕ) : Type 0 where
  -- no earliest falls: one that is not after a cycle up to the horizon was not after it before. Above 1,000,000,000 units a distance is
  -- never, so that past the horizon an earliest may come down from never.
  pub earliest_kept : (k : ℕ) (x : Cycle) → k < m.t → is_up_to_horizon m x ≡ true
      → earliest_after m ws (after_list_with m marks ws ts (ks ++ js)) k ≼ At x → earliest_after m ws (after_list_with m marks ws ts ks) k ≼ At x
  -- a thread that may be issued may be issued at any later moment, until it is granted
  pub asked_again : (i : ℕ) → run_count ((after_list_with m marks ws ts (ks ++ js)).history i) ≡ run_count ((after_list_with m marks ws ts ks).history i)
      → MayIssue (request_next m marks ws ts ks i).answer → MayIssue (request_next m marks ws ts (ks ++ js) i).answer

-- what two lists have left: the same, but for the order of the pairs in the log
pub record SameLeft (m : Model) (a b : Listed) : Type 0 where
  pub variables : a.site.variables.at ≡ b.site.variables.at
  pub records : (k : ℕ) → k < m.t → thread_at a.threads k ≡ thread_at b.threads k
  pub history : (k : ℕ) → k < m.t → a.history k ≡ b.history k
  pub logged : (y : Notification) → Memᴰ y (log_of a.site) ↔ Memᴰ y (log_of b.site)

-- for every accepted file, with the reader's tables
abbrev pub IssueSteady : Type 0
IssueSteady =
    (bytes : List ℕ) → (read_file bytes).number ≡ accepted →
    let m = (read_file bytes).model in
    (ws : List ℕ) → TableBelow m ws → (ts : List Thread) → FreshBelow m ts → (ks js : List ℕ) → Onward m (marks_of m) ws ts ks js

-- two lists, each on words and records of its own, after which every thread was granted equally often
abbrev pub CountsDecide : Type 0
CountsDecide =
    (bytes : List ℕ) → (read_file bytes).number ≡ accepted →
    let m = (read_file bytes).model in
    (vs ws : List ℕ) → TableBelow m vs → TableBelow m ws → (rs ts : List Thread) → FreshBelow m rs → FreshBelow m ts → (ks js : List ℕ) →
    let a = after_list_with m (marks_of m) vs rs ks in
    let b = after_list_with m (marks_of m) ws ts js in
    ((k : ℕ) → k < m.t → run_count (a.history k) ≡ run_count (b.history k)) → SameLeft m a b
