-- Lists of calls: what every call keeps, a list keeps; a list of requests is the list of calls that are those requests; and on a fit state a running thread's
-- finish is not refused.
-- Assumes nothing.
use Prim.Native.Nat.{ℕ, ◌*◌, ◌<◌, ◌≤◌}
use mathlib.Core.Path.{◌≡◌, refl, sym, ◌∙◌, subst, fun_ext}
use mathlib.Core.Bool.{Bool, true, false}
use mathlib.Core.List.{List, [], ◌∷◌, ◌++◌, map, append_assoc, append-nil}
use lib.ListN.{length, replicate}
use borrow.Author.Tests.{lt-ltb, le-ltb}
use Rattle.model.specs.declared.Model.{Model}
use Rattle.model.specs.declared.Thread.{Thread}
use Rattle.model.specs.Record.{thread_at, is_running}
use Rattle.plain.specs.History.{Item}
use Rattle.early.specs.declared.Site.{Site}
use Rattle.early.specs.declared.Call.{Call}
use Rattle.early.specs.declared.Call.TheVariants.{Both, Finish}
use Rattle.early.specs.Fit.{is_unfit}
use Rattle.early.specs.Request.{answered_by, request_of, listed_by, requests_of}
use Rattle.early.specs.Call.{held_count, with_held, is_unfit_held, finished_from, finish_number, call_fit, call_of, served_by, calls_of}
use Rattle.early_laws.proofs.CallLaws.{call_of-fitting, call_of-both}

-- a set of held values for each thread
pub held-fit : (m : Model) (held : List ℕ) → held_count * m.t ≤ length held → is_unfit_held m held ≡ false
unfolding is_unfit_held
held-fit m held enough = le-ltb (length held) (held_count * m.t) enough

-- "no later number refuses a finish"
pub call_of-finish : (m : Model) (marks : List (List Bool)) (ws : List ℕ) (site : Site) (ts : List Thread) (held : List ℕ) (k : ℕ)
    → is_unfit m ws site ts ≡ false → held_count * m.t ≤ length held → k < m.t → is_running (thread_at ts k).state ≡ true
    → call_of m marks ws site ts held (Finish k) ≡ record { left = finished_from m ws site ts held k; held = with_held held k (replicate held_count 0) }
unfolding call_fit answered_by finish_number
call_of-finish m marks ws site ts held k fit enough below runs =
    call_of-fitting m marks ws site ts held (Finish k) (record { state = fit; enough = held-fit m held enough }) ∙ rw (lt-ltb k m.t below, runs) refl

-- what every call keeps, a list keeps, with each thread's history grown at its end
module _ (m : Model) (marks : List (List Bool)) (ws : List ℕ) (P : Site → List Thread → List ℕ → (ℕ → List Item) → Type 0)
    (each : (site : Site) (ts : List Thread) (held : List ℕ) (is : ℕ → List Item) (call : Call) → P site ts held is
    → let a = call_of m marks ws site ts held call in P a.left.site a.left.threads a.held (λ j. is j ++ a.left.items j))
  where
    pub calls_of-carries : (cs : List Call) (site : Site) (ts : List Thread) (held : List ℕ) (is : ℕ → List Item) → P site ts held is
        → let a = calls_of m marks ws site ts held cs in P a.listed.site a.listed.threads a.held (λ j. is j ++ a.listed.history j)
    unfolding served_by
    calls_of-carries [] site ts held is p = subst (P site ts held) (fun_ext (λ j. sym (append-nil (is j)))) p
    calls_of-carries (c ∷ cs) site ts held is p =
        let a = call_of m marks ws site ts held c in
        let r = calls_of m marks ws a.left.site a.left.threads a.held cs in
        subst (P r.listed.site r.listed.threads r.held) (fun_ext (λ j. append_assoc (is j) (a.left.items j) (r.listed.history j)))
        (calls_of-carries cs a.left.site a.left.threads a.held (λ j. is j ++ a.left.items j) (each site ts held is c p))

-- the answers, the state, the records and the histories of a list of requests are those of the calls that are these requests
pub requests-are-calls : (m : Model) (marks : List (List Bool)) (ws : List ℕ) (ks : List ℕ) (site : Site) (ts : List Thread) (held : List ℕ) → held_count * m.t ≤ length held
    → (calls_of m marks ws site ts held (map Both ks)).listed ≡ requests_of m marks ws site ts ks
unfolding served_by listed_by
requests-are-calls m marks ws [] site ts held enough = refl
requests-are-calls m marks ws (k ∷ ks) site ts held enough =
    let a = request_of m marks ws site ts k in
    rw (call_of-both m marks ws site ts held k (held-fit m held enough), requests-are-calls m marks ws ks a.site a.threads held enough) refl
