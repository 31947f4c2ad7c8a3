-- A fit state, as a request finds it and as it stays while deliveries are made; what it says of words, records, segments and the log.
use Prim.Native.Nat.{ℕ, ◌*◌, ◌<◌}
use mathlib.Core.Path.{◌≡◌, subst}
use mathlib.Core.Bool.{false}
use mathlib.Core.List.{List}
use native.Mathlib.Omega.{arith}
use lib.Dec.{T}
use lib.ListN.{get_or}
use Rattle.clock.specs.Wait.{last_delta}
use Rattle.clock.specs.declared.Cycle.{Cycle}
use Rattle.clock.specs.declared.Bound.TheVariants.{At}
use Rattle.model.specs.declared.Model.{Model}
use Rattle.model.specs.declared.Thread.{Thread}
use Rattle.model.specs.Limits.{cut_time, record_time}
use Rattle.model.specs.Record.{thread_at, ready_cycle, view_of}
use Rattle.model.specs.Reach.{lacks_from}
use Rattle.model.specs.Rules.{model_fault}
use Rattle.model_rules.proofs.RuleLaws.{Counts, model_fault-counts}
use Rattle.plain_laws.proofs.RecordLaws.{ready-cycle, ready_cycle→ready}
use Rattle.early.specs.declared.Notification.{Notification}
use Rattle.early.specs.declared.Site.{Site}
use Rattle.early.specs.Log.{log_of, least_heard}
use Rattle.early.specs.Fit.{is_fit_thread, is_fit_word, is_unfit_threads, is_unfit_words, is_unfit}
use Rattle.early_laws.proofs.LogLaws.{In}
use Rattle.early_laws.proofs.FitLaws.{FitCycle, is_fit_thread→, FitPair, is_unfit_threads→, is_unfit_words→, is_unfit→, fit-logged}
use Rattle.early_laws.proofs.RangeLaws.{within-heard}
use Rattle.early_limits.proofs.LimitLaws.{Limited, within-limited}

-- a model that keeps the rules, with fit words, fit records and a log of fit pairs
pub record FitState (m : Model) (ws : List ℕ) (l : List Notification) (ts : List Thread) : Type 0 where
  pub model : model_fault m ≡ 0
  pub words : is_unfit_words m ws ≡ false
  pub threads : is_unfit_threads m ts ≡ false
  pub log : (x : Notification) → In x l → FitPair m x

-- a state that is not refused with 11
pub is_unfit→FitState : (m : Model) (ws : List ℕ) (site : Site) (ts : List Thread) → is_unfit m ws site ts ≡ false → FitState m ws (log_of site) ts
is_unfit→FitState m ws site ts e =
    let f = is_unfit→ m ws site ts e in
    record { model = f.model; words = f.words; threads = f.threads; log = λ x h. fit-logged m site x f.log h }

module _ {m : Model} {ws : List ℕ} {l : List Notification} {ts : List Thread} (fit : FitState m ws l ts) where
  pub fit-counts : Counts m
  fit-counts = model_fault-counts m fit.model

  pub fit-threads : (k : ℕ) → k < m.t → T (is_fit_thread m k (thread_at ts k))
  fit-threads = (is_unfit_threads→ m ts fit.threads).1

  pub fit_words : (i : ℕ) → i < m.n * m.n → T (is_fit_word (get_or ws i 0))
  fit_words = (is_unfit_words→ m ws fit.words).1

  pub fit-segment : (k : ℕ) → k < m.t → (thread_at ts k).segment < m.n
  fit-segment k h = (is_fit_thread→ m k (thread_at ts k) (fit-threads k h)).segment

  -- no record leads to a port that its thread leaves unused
  pub fit-lacks : (k : ℕ) → k < m.t → lacks_from m k (thread_at ts k).segment ≡ false
  fit-lacks k h = (is_fit_thread→ m k (thread_at ts k) (fit-threads k h)).lacks

  -- the cycle of a ready thread
  pub ready-fit : (i : ℕ) (c : Cycle) → i < m.t → ready_cycle (thread_at ts i).state ≡ At c → FitCycle record_time c
  ready-fit i c h p =
      let s = (thread_at ts i).state in
      subst (FitCycle record_time) (ready-cycle s c (ready_cycle→ready (view_of s) c p)) (is_fit_thread→ m i (thread_at ts i) (fit-threads i h)).cycle

  pub least_heard-range : (e : ℕ) (since : Cycle) → Limited (least_heard l e since)
  least_heard-range e since =
      within-limited cut_time last_delta (least_heard l e since) (omega arith) (omega arith) (within-heard m ws l ts fit-threads fit.log fit_words e since)
