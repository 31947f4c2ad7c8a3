-- A call by rows, exit by exit: below 64 words, and with 64; and what a call and a request by rows are where 11 does not apply.
use Prim.Native.Nat.{ℕ, ◌<◌, ◌≤◌}
use mathlib.Core.Path.{◌≡◌, refl}
use mathlib.Core.Bool.{Bool, true, false, cond, ◌||◌}
use mathlib.Core.List.{List}
use lib.Dec.{ltb}
use borrow.Author.Tests.{lt-ltb, le-ltb}
use Rattle.model.specs.declared.Model.{Model}
use Rattle.model.specs.declared.Thread.{Thread}
use Rattle.tables.specs.Word.{words_of}
use Rattle.tables.specs.Outcome.{row_words}
use Rattle.early.specs.declared.Site.{Site}
use Rattle.early.specs.declared.Call.{Call}
use Rattle.early.specs.declared.Call.TheVariants.{Both}
use Rattle.early.specs.Fit.{is_unfit_state}
use Rattle.early.specs.Request.{request_fit, refused_with}
use Rattle.early.specs.ByRows.{request_by_rows}
use Rattle.early.specs.Call.{is_unfit_held, called_with, call_fit, call_by_rows}
use Rattle.early_request.specs.Rows.{rows_fit}

module _ (m : Model) (marks : List (List Bool)) (lent : ℕ) (site : Site) (ts : List Thread) (held : List ℕ) where
  module _ (call : Call) where
    pub rows_fit-short : lent < 64 → called_with 16 site ts held ≡ rows_fit m marks lent site ts held call
    unfolding rows_fit
    rows_fit-short h = rw (lt-ltb lent 64 h) refl

    pub rows_fit-enough : 64 ≤ lent → call_fit m marks (words_of m) site ts held call ≡ rows_fit m marks lent site ts held call
    unfolding rows_fit
    rows_fit-enough h = rw (le-ltb lent 64 h) refl

    pub rows_fit-call : (is_unfit_state m site ts || is_unfit_held m held) ≡ false → rows_fit m marks lent site ts held call ≡ call_by_rows m marks lent site ts held call
    unfolding rows_fit call_by_rows
    rows_fit-call e = rw e refl

  pub rows_fit-request : (k : ℕ) → is_unfit_state m site ts ≡ false → (rows_fit m marks lent site ts held (Both k)).left ≡ request_by_rows m marks lent site ts k
  unfolding rows_fit call_fit request_by_rows
  rows_fit-request k e = rw e (go (ltb lent row_words))
    where
      go : (b : Bool) → (cond b (called_with 16 site ts held) (record { left = request_fit m marks (words_of m) site ts k; held = held })).left ≡ cond b (refused_with 16 site ts) (request_fit m marks (words_of m) site ts k)
      go true = refl
      go false = refl
