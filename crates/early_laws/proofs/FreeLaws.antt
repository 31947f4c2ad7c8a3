-- What document 01 leaves free of a request, and what holds of it: which marks are read, what lies past the counts, equal pairs that are handed in. That threads are
-- looked at in any order is `settled-any` of AnyOrderLaws.
use Prim.Native.Nat.{ℕ, ◌<◌}
use mathlib.Core.Path.{◌≡◌, refl, ap, sym, fun_ext, ◌∙◌}
use mathlib.Core.Bool.{Bool, true, false, cond, not, ◌&&◌, ◌||◌}
use mathlib.Core.List.{List, [], ◌∷◌, ◌++◌, append_assoc, append-nil}
use native.Mathlib.Omega.{arith}
use native.Mathlib.Decide.{ℕ_discrete}
use lib.Dec.{ltb, eqb}
use lib.ListN.{get_or}
use lib.Seq.{get_or-take}
use borrow.Author.Tests.{eq-eqb, ne_eqb}
use Rattle.base.specs.Index.{any_below}
use Rattle.base.proofs.IndexLaws.{any_below-same}
use Rattle.clock.specs.declared.Cycle.{Cycle}
use Rattle.clock.specs.declared.Bound.{Bound}
use Rattle.clock.specs.declared.Bound.TheVariants.{Never}
use Rattle.clock.specs.Cycle.{cycle_at, stamp_at}
use Rattle.clock.specs.Advance.{◌⊕◌}
use Rattle.model.specs.declared.Model.{Model}
use Rattle.model.specs.declared.Thread.{Thread}
use Rattle.model.specs.Rules.{model_fault}
use Rattle.model.specs.Refusal.{accepted, unfit}
use Rattle.model.specs.Record.{thread_at, cycle_of, is_live}
use Rattle.tables.specs.Conflict.{mark_at}
use Rattle.tables.specs.Word.{distance_in}
use Rattle.plain.specs.Wake.{floor_of}
use Rattle.early.specs.declared.Site.{Site}
use Rattle.early.specs.declared.Notification.{Notification}
use Rattle.early.specs.Log.{places, pair_of, log_of, holds, with_pair, with_pairs, drop_before, is_dropped}
use Rattle.early.specs.Earliest.{earliest_of}
use Rattle.early.specs.Hazard.{ports_conflict, threads_conflict, is_sooner, threatens, hazard}
use Rattle.early.specs.Fit.{is_fit_pair, is_unfit_threads, is_unfit_log, is_unfit_places, is_unfit_words, is_unfit, is_unfit_state}
use Rattle.early.specs.Grant.{effect_at, log_after, threads_after, site_after}
use Rattle.early.specs.Answer.{number_of}
use Rattle.early.specs.Request.{number_in, Requested, refused_with, granted_to, answered_by, request_fit, request_of}
use Rattle.early_laws.proofs.LogLaws.{log_of-site_of}

-- marks that are not symmetric: those in the row of the asking thread's segment are read, and no others
module _ (m : Model) (ws : List ℕ) (ts : List Thread) (k : ℕ) (marks others : List (List Bool))
    (row : (s : ℕ) → s < m.n → mark_at marks (thread_at ts k).segment s ≡ mark_at others (thread_at ts k).segment s) where
  threatens-row : (c : Cycle) (j : ℕ) (b : Bound) → threatens m marks ws ts k c j b ≡ threatens m others ws ts k c j b
  unfolding threatens threads_conflict
  threatens-row c j b =
      any_below-same
      m.n
      (λ s. threads_conflict m marks k (thread_at ts k).segment j s && is_sooner (b ⊕ distance_in m ws (thread_at ts j).segment s) j (stamp_at c k))
      (λ s. threads_conflict m others k (thread_at ts k).segment j s && is_sooner (b ⊕ distance_in m ws (thread_at ts j).segment s) j (stamp_at c k))
      (λ s h. ap (λ (x : Bool). (x || ports_conflict m k (thread_at ts k).segment j s) && is_sooner (b ⊕ distance_in m ws (thread_at ts j).segment s) j (stamp_at c k)) (row s h))

  pub hazard-row : (l : List Notification) (c : Cycle) → hazard m marks ws l ts k c ≡ hazard m others ws l ts k c
  unfolding hazard
  hazard-row l c =
      any_below-same
      m.t
      (λ j. (not (eqb j k) && is_live (thread_at ts j).state) && threatens m marks ws ts k c j (get_or (earliest_of m ws l ts) j Never))
      (λ j. (not (eqb j k) && is_live (thread_at ts j).state) && threatens m others ws ts k c j (get_or (earliest_of m ws l ts) j Never))
      (λ j h. ap (λ (x : Bool). (not (eqb j k) && is_live (thread_at ts j).state) && x) (threatens-row c j (get_or (earliest_of m ws l ts) j Never)))

  pub request_of-row : (site : Site) → request_of m marks ws site ts k ≡ request_of m others ws site ts k
  unfolding request_of request_fit number_in
  request_of-row site = rw (fun_ext (hazard-row (log_of site))) refl

-- places past the log's count: answers, records and what a grant leaves do not depend on them
pub record Alike (a b : Requested) : Type 0 where
  pub answer : a.answer ≡ b.answer
  pub threads : a.threads ≡ b.threads
  pub granted : number_of a.answer ≡ 0 → a.site ≡ b.site

module _ (m : Model) (marks : List (List Bool)) (ws : List ℕ) (ts : List Thread) (k : ℕ) (site other : Site)
    (variables : site.variables ≡ other.variables) (count : site.count ≡ other.count) (held : log_of site ≡ log_of other) where
  refused-alike : (n : ℕ) → (n ≡ 0 → ⊥) → Alike (refused_with n site ts) (refused_with n other ts)
  refused-alike n other-number = record { answer = refl; threads = refl; granted = λ e. absurd (other-number e) }

  is_unfit-held : is_unfit m ws site ts ≡ is_unfit m ws other ts
  unfolding is_unfit is_unfit_state is_unfit_log is_unfit_places log_of
  is_unfit-held =
      rw (held, count)
      (ap (λ (x : Bool). (not (eqb (model_fault m) accepted) || (is_unfit_threads m ts || ((ltb places other.count || x) || is_unfit_places m other ts))) || is_unfit_words m ws) judged)
    where
      at : (i : ℕ) → i < other.count → get_or site.log i (pair_of 0 (cycle_at 0 0)) ≡ get_or other.log i (pair_of 0 (cycle_at 0 0))
      at i h = sym (get_or-take site.count site.log i (pair_of 0 (cycle_at 0 0)) (omega (arith, count))) ∙ ap (λ (l : List Notification). get_or l i (pair_of 0 (cycle_at 0 0))) held ∙ get_or-take other.count other.log i (pair_of 0 (cycle_at 0 0)) h

      judged : any_below other.count (λ i. not (is_fit_pair m (get_or site.log i (pair_of 0 (cycle_at 0 0))))) ≡ any_below other.count (λ i. not (is_fit_pair m (get_or other.log i (pair_of 0 (cycle_at 0 0)))))
      judged =
          any_below-same
          other.count
          (λ i. not (is_fit_pair m (get_or site.log i (pair_of 0 (cycle_at 0 0)))))
          (λ i. not (is_fit_pair m (get_or other.log i (pair_of 0 (cycle_at 0 0)))))
          (λ i h. ap (λ (x : Notification). not (is_fit_pair m x)) (at i h))

  granted-held : (c : Cycle) → Alike (granted_to m ws site ts k c) (granted_to m ws other ts k c)
  unfolding granted_to effect_at
  granted-held c = record { answer = refl; threads = rw (held, variables) refl; granted = λ e. rw (held, variables) refl }

  number-held : number_in m marks ws site ts k ≡ number_in m marks ws other ts k
  unfolding number_in
  number-held = rw held refl

  pub request_of-held : Alike (request_of m marks ws site ts k) (request_of m marks ws other ts k)
  unfolding request_of request_fit answered_by
  request_of-held = rw (is_unfit-held, number-held) (whole (is_unfit m ws other ts))
    where
      n : ℕ
      n = number_in m marks ws other ts k

      c : Cycle
      c = cycle_of (thread_at ts k).state

      decided : Dec (n ≡ accepted) → Alike (answered_by n site ts (granted_to m ws site ts k c)) (answered_by n other ts (granted_to m ws other ts k c))
      decided (yes e) = rw (eq-eqb n accepted e) (granted-held c)
      decided (no e) = rw (ne_eqb n accepted e) (refused-alike n e)

      whole : (b : Bool) → Alike (cond b (refused_with unfit site ts) (answered_by n site ts (granted_to m ws site ts k c))) (cond b (refused_with unfit other ts) (answered_by n other ts (granted_to m ws other ts k c)))
      whole true = refused-alike unfit (λ e. omega arith)
      whole false = decided (ℕ_discrete n accepted)

-- pairs that are handed in, equal ones too, keep their order and their number, but for those before the floor; the new ones stand behind them
with_pair-front : (l : List Notification) (x : Notification) → (more : List Notification) × (with_pair l x ≡ l ++ more)
unfolding with_pair
with_pair-front l x = go (holds l x)
  where
    go : (b : Bool) → (more : List Notification) × (cond b l (l ++ (x ∷ [])) ≡ l ++ more)
    go true = ([], sym (append-nil l))
    go false = (x ∷ [], refl)

with_pairs-front : (l : List Notification) (c : Cycle) (es : List ℕ) → (more : List Notification) × (with_pairs l c es ≡ l ++ more)
unfolding with_pairs
with_pairs-front l c [] = ([], sym (append-nil l))
with_pairs-front l c (e ∷ es) =
    let (one, p) = with_pair-front l (pair_of e c) in
    let (more, q) = with_pairs-front (with_pair l (pair_of e c)) c es in
    (one ++ more, q ∙ ap (λ (x : List Notification). x ++ more) p ∙ append_assoc l one more)

drop_before-append : (f : Bound) (l more : List Notification) → drop_before f (l ++ more) ≡ drop_before f l ++ drop_before f more
unfolding drop_before
drop_before-append f [] more = refl
drop_before-append f (x ∷ l) more = rw (drop_before-append f l more) (go (is_dropped f x))
  where
    go : (b : Bool) → cond b (drop_before f l ++ drop_before f more) (x ∷ (drop_before f l ++ drop_before f more)) ≡ cond b (drop_before f l) (x ∷ drop_before f l) ++ drop_before f more
    go true = refl
    go false = refl

pub site_after-front : (m : Model) (ws : List ℕ) (site : Site) (ts : List Thread) (k : ℕ) (c : Cycle)
    → (more : List Notification) × (log_of (site_after m ws site ts k c) ≡ drop_before (floor_of m (threads_after m ws site ts k c)) (log_of site) ++ more)
unfolding site_after log_after
site_after-front m ws site ts k c =
    let f = floor_of m (threads_after m ws site ts k c) in
    let es = (effect_at m site ts k c).notified in
    let (more, p) = with_pairs-front (log_of site) c es in (
      drop_before f more,
      log_of-site_of (effect_at m site ts k c).variables (drop_before f (with_pairs (log_of site) c es)) ∙ ap (drop_before f) p ∙ drop_before-append f (log_of site) more,
    )
