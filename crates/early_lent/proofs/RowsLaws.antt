-- A request and a call by rows are moved as those by the whole table, whether 64 words are lent or fewer.
use Prim.Native.Nat.{ℕ, ◌<◌, ◌≤◌}
use mathlib.Core.Path.{◌≡◌, refl, ap, ◌∙◌}
use mathlib.Core.Bool.{Bool, true, false, cond, ◌||◌}
use mathlib.Core.List.{List, []}
use native.Mathlib.Omega.{arith}
use native.Mathlib.Decide.{dec_lt}
use lib.ListN.{length}
use Rattle.model.specs.declared.Model.{Model}
use Rattle.model.specs.declared.Thread.{Thread}
use Rattle.model.specs.Refusal.{accepted, unfit, short_table}
use Rattle.model.specs.Rules.{model_fault}
use Rattle.early.specs.declared.Site.{Site}
use Rattle.early.specs.declared.Call.{Call}
use Rattle.early.specs.Fit.{is_unfit_state}
use Rattle.early.specs.Request.{request_of}
use Rattle.early.specs.ByRows.{request_by_rows}
use Rattle.early.specs.Call.{is_unfit_held, Called, called_with, call_of, call_by_rows}
use Rattle.early_laws.proofs.FitLaws.{is_unfit_threads→, state-fit}
use Rattle.early_laws.proofs.AgreeLaws.{Agree, is_unfit_threads-same}
use Rattle.early_laws.proofs.AlikeLaws.{is_unfit_places-same}
use Rattle.early_laws.proofs.ByRowsLaws.{by_rows-enough, by_rows-unfit, by_rows-short}
use Rattle.early_laws.proofs.CallLaws.{call_by_rows-enough, call_by_rows-unfit, call_by_rows-few}
use Rattle.early_lent.proofs.MovedLaws.{Moves, holding_none, request_of-moves, call_of-moves}

-- whether 11 applies to a state

unfit_state-same : (m : Model) (site : Site) (ts us : List Thread) → Agree m ts us → is_unfit_state m site ts ≡ is_unfit_state m site us
unfolding is_unfit_state
unfit_state-same m site ts us agree = rw (is_unfit_threads-same m ts us agree, is_unfit_places-same m ts us agree site) refl

-- what a fit state would say, and what is against it
unfit_state-if : (m : Model) (site : Site) (ts : List Thread) → ((model_fault m ≡ accepted) → m.t ≤ length ts → ⊥) → is_unfit_state m site ts ≡ true
unfit_state-if m site ts against = go (is_unfit_state m site ts) refl
  where
    go : (b : Bool) → is_unfit_state m site ts ≡ b → b ≡ true
    go true e = refl
    go false e = let (kept, threads, log, counted) = state-fit m site ts e in absurd (against kept (is_unfit_threads→ m ts threads).0)

module _ (m : Model) (site : Site) (held : List ℕ) (Q : List Thread → Called) where
  -- refused with a number that the state alone decides, with something else that 11 is for
  refused-moves : (other : Bool) → ((ts : List Thread) → Q ts ≡ called_with (cond (is_unfit_state m site ts || other) unfit short_table) site ts held) → Moves m site held Q
  refused-moves other refused =
      record {
        unread = λ ts us agree. rw (refused ts, refused us, unfit_state-same m site ts us agree) (record { left = record { answer = refl; site = refl; threads = agree; items = λ j. refl }; held = refl });
        unwritten = λ ts j h. rw (refused ts) refl;
        long = λ ts. rw (refused ts) refl;
        short = λ ts h. unfit-if ts (λ kept enough. omega arith);
        faulty = λ ts broken. unfit-if ts (λ kept enough. broken kept);
      }
    where
      unfit-if : (ts : List Thread) → ((model_fault m ≡ accepted) → m.t ≤ length ts → ⊥) → Q ts ≡ called_with unfit site ts held
      unfit-if ts against = refused ts ∙ rw (unfit_state-if m site ts against) refl

  -- as another that is moved
  same-moves : (P : List Thread → Called) → ((ts : List Thread) → Q ts ≡ P ts) → Moves m site held P → Moves m site held Q
  same-moves P same whole =
      record {
        unread = λ ts us agree. rw (same ts, same us) (whole.unread ts us agree);
        unwritten = λ ts j h. rw (same ts) (whole.unwritten ts j h);
        long = λ ts. rw (same ts) (whole.long ts);
        short = λ ts h. same ts ∙ whole.short ts h;
        faulty = λ ts other. same ts ∙ whole.faulty ts other;
      }

pub request_by_rows-moves : (m : Model) (marks : List (List Bool)) (lent : ℕ) (site : Site) (k : ℕ) → Moves m site [] (λ ts. holding_none (request_by_rows m marks lent site ts k))
request_by_rows-moves m marks lent site k = go (dec_lt lent 64)
  where
    Q : List Thread → Called
    Q ts = holding_none (request_by_rows m marks lent site ts k)

    refused : lent < 64 → (ts : List Thread) (b : Bool) → is_unfit_state m site ts ≡ b → Q ts ≡ called_with (cond (b || false) unfit short_table) site ts []
    refused few ts true e = ap holding_none (by_rows-unfit m site ts marks lent k e)
    refused few ts false e = ap holding_none (by_rows-short m site ts marks lent k e few)

    whole : (ws : List ℕ) → ((ts : List Thread) → request_by_rows m marks lent site ts k ≡ request_of m marks ws site ts k) → Moves m site [] Q
    whole ws same = same-moves m site [] Q (λ ts. holding_none (request_of m marks ws site ts k)) (λ ts. ap holding_none (same ts)) (request_of-moves m marks ws site k)

    go : Dec (lent < 64) → Moves m site [] Q
    go (yes few) = refused-moves m site [] Q false (λ ts. refused few ts (is_unfit_state m site ts) refl)
    go (no enough) = whole _ (λ ts. by_rows-enough m site ts marks lent k (omega arith))

pub call_by_rows-moves : (m : Model) (marks : List (List Bool)) (lent : ℕ) (site : Site) (held : List ℕ) (call : Call) → Moves m site held (λ ts. call_by_rows m marks lent site ts held call)
call_by_rows-moves m marks lent site held call = go (dec_lt lent 64)
  where
    Q : List Thread → Called
    Q ts = call_by_rows m marks lent site ts held call

    refused : lent < 64 → (ts : List Thread) (b : Bool) → (is_unfit_state m site ts || is_unfit_held m held) ≡ b → Q ts ≡ called_with (cond b unfit short_table) site ts held
    refused few ts true e = call_by_rows-unfit m marks lent site ts held call e
    refused few ts false e = call_by_rows-few m marks lent site ts held call e few

    whole : (ws : List ℕ) → ((ts : List Thread) → Q ts ≡ call_of m marks ws site ts held call) → Moves m site held Q
    whole ws same = same-moves m site held Q (λ ts. call_of m marks ws site ts held call) same (call_of-moves m marks ws site held call)

    go : Dec (lent < 64) → Moves m site held Q
    go (yes few) = refused-moves m site held Q (is_unfit_held m held) (λ ts. refused few ts (is_unfit_state m site ts || is_unfit_held m held) refl)
    go (no enough) = whole _ (λ ts. call_by_rows-enough m marks lent site ts held call (omega arith))
