-- A request is refused, and then changes nothing, or is granted; 11 is answered on an unfit state only; and demand 2 as a sentence: on a fit
-- state, for a thread ready up to the horizon and with places left, it is granted exactly where no hazard stands.
use Prim.Native.Nat.{ℕ, ◌<◌}
use mathlib.Core.Path.{◌≡◌, refl, ap, sym, ◌∙◌, subst, fun_ext}
use mathlib.Core.Logic.{◌↔◌, ◌⊎◌, inl, inr}
use mathlib.Core.Bool.{Bool, true, false, not}
use mathlib.Core.List.{List, [], ◌∷◌, ◌++◌, append_assoc, append-nil}
use native.Mathlib.Decide.{ℕ_discrete}
use native.Mathlib.Omega.{arith}
use lib.Dec.{T, T_not}
use borrow.Author.Tests.{ne_eqb}
use Rattle.base.proofs.BoolLaws.{cond-case, T-case, T→true, T→false, true→T, false→T}
use Rattle.clock.specs.declared.Cycle.{Cycle}
use Rattle.clock.specs.declared.Bound.TheVariants.{At}
use Rattle.model.specs.declared.Model.{Model}
use Rattle.model.specs.declared.Thread.{Thread}
use Rattle.model.specs.Refusal.{accepted, unfit}
use Rattle.model.specs.Limits.{end_time, is_up_to_horizon}
use Rattle.model.specs.Record.{thread_at, ready_cycle, cycle_of, is_running}
use Rattle.model.specs.Footprint.{listed_in}
use Rattle.plain.specs.Wake.{floor_of}
use Rattle.plain.specs.History.{Item}
use Rattle.early.specs.declared.Site.{Site}
use Rattle.early.specs.declared.Answer.TheVariants.{Granted, Refused}
use Rattle.early.specs.Log.{log_of, counted_log, counted_places}
use Rattle.early.specs.Hazard.{hazard}
use Rattle.early.specs.Fit.{is_unfit}
use Rattle.early.specs.Answer.{number_of}
use Rattle.early.specs.Request.{is_full, number_in, Requested, refused_with, granted_to, answered_by, request_fit, request_of, answer_number, answer_values, Answers, listed_by, requests_of}
use Rattle.early_laws.proofs.NumberLaws.{ready_cycle→cycle, ZeroOrFull, Decided, refuses, passes, number_for-decided, passed→number_for, clear→number_for, number_for→clear}

module _ (m : Model) (marks : List (List Bool)) (ws : List ℕ) (site : Site) (ts : List Thread) (k : ℕ) where
  -- what stands where a request is granted at c
  pub record Grantable (c : Cycle) : Type 0 where
    pub fit : is_unfit m ws site ts ≡ false
    pub thread : k < m.t
    pub unbegun : is_running (thread_at ts k).state ≡ false
    pub ready : ready_cycle (thread_at ts k).state ≡ At c
    pub in-time : is_up_to_horizon m c ≡ true
    pub no_hazard : hazard m marks ws (log_of site) ts k c ≡ false
    pub room : is_full m site ts k c ≡ false

  -- the answers, by case
  pub data Asked : Requested → Type 0 where
    refused : (n : ℕ) → (n ≡ 0 → ⊥) → (n ≡ unfit → is_unfit m ws site ts ≡ true) → Asked (refused_with n site ts)
    granted : (c : Cycle) → Grantable c → Asked (granted_to m ws site ts k c)

  -- the number of the model
  DecidedIn : ℕ → Type 0
  DecidedIn = Decided m.t (end_time m) (hazard m marks ws (log_of site) ts k) (floor_of m ts) (listed_in m k (thread_at ts k).segment) (counted_log m ts (log_of site)) ts k

  pub request_of-asked : Asked (request_of m marks ws site ts k)
  unfolding request_of request_fit answered_by number_in is_up_to_horizon is_full counted_places DecidedIn
  request_of-asked =
      cond-case
      Asked
      (is_unfit m ws site ts)
      (λ t. refused unfit (λ e. omega arith) (λ e. T→true (is_unfit m ws site ts) t))
      (λ t. go (T→false (is_unfit m ws site ts) t) (number_for-decided m.t (end_time m) (hazard m marks ws (log_of site) ts k) (floor_of m ts) (listed_in m k (thread_at ts k).segment) (counted_log m ts (log_of site)) ts k))
    where
      go : is_unfit m ws site ts ≡ false → {n : ℕ} → DecidedIn n → Asked (answered_by n site ts (granted_to m ws site ts k (cycle_of (thread_at ts k).state)))
      go fit (refuses n other u) = rw (ne_eqb n accepted other) (refused n other (λ e. absurd (u e)))
      go fit (passes c p) =
          rw (ready_cycle→cycle (thread_at ts k).state c p.ready)
          (granted c (record { fit = fit; thread = p.thread; unbegun = p.unbegun; ready = p.ready; in-time = p.in-time; no_hazard = p.no_hazard; room = p.room }))

  -- the answer by its number and its values
  pub request_of-answers : Answers m marks ws site ts k (request_of m marks ws site ts k).answer
  unfolding request_of request_fit answered_by granted_to answer_number answer_values
  request_of-answers = go (T-case (is_unfit m ws site ts)) (ℕ_discrete (number_in m marks ws site ts k) accepted)
    where
      go : T (is_unfit m ws site ts) ⊎ T (not (is_unfit m ws site ts)) → Dec (number_in m marks ws site ts k ≡ accepted) → Answers m marks ws site ts k (request_of m marks ws site ts k).answer
      go (inl t) d = let e = T→true (is_unfit m ws site ts) t in record { number = rw e refl; values = rw e refl }
      go (inr t) (yes z) =
          let e = T→false (is_unfit m ws site ts) t in
          record { number = rw (e, z) refl; values = rw (e, z) refl }
      go (inr t) (no other) =
          let e = T→false (is_unfit m ws site ts) t in
          let n = ne_eqb (number_in m marks ws site ts k) accepted other in
          record { number = rw (e, n) refl; values = rw (e, n) refl }

  -- "A refused request returns the number with state and thread records as handed in."
  pub request_of-refused : (number_of (request_of m marks ws site ts k).answer ≡ 0 → ⊥)
      → ((request_of m marks ws site ts k).site ≡ site) × ((request_of m marks ws site ts k).threads ≡ ts) × ((j : ℕ) → (request_of m marks ws site ts k).items j ≡ [])
  unfolding granted_to
  request_of-refused other = go request_of-asked other
    where
      go : {r : Requested} → Asked r → (number_of r.answer ≡ 0 → ⊥) → (r.site ≡ site) × (r.threads ≡ ts) × ((j : ℕ) → r.items j ≡ [])
      go (refused n h u) f = (refl, refl, λ j. refl)
      go (granted c g) f = absurd (f refl)

  -- on a fit state no request answers 11
  pub request_of-fit : is_unfit m ws site ts ≡ false → (request_of m marks ws site ts k).answer ≡ Refused unfit → ⊥
  unfolding granted_to
  request_of-fit fit e = T_not (is_unfit m ws site ts) (false→T (is_unfit m ws site ts) fit) (true→T (is_unfit m ws site ts) (go request_of-asked e))
    where
      go : {r : Requested} → Asked r → r.answer ≡ Refused unfit → is_unfit m ws site ts ≡ true
      go (refused n h u) f = u (cc)
      go (granted c g) f = let z : ◌≡◌ {A = ℕ} 0 1 = cc in absurd (omega arith)

  pub request_of-granted : (c : Cycle) → Grantable c → request_of m marks ws site ts k ≡ granted_to m ws site ts k c
  unfolding request_of request_fit answered_by number_in is_up_to_horizon is_full counted_places
  request_of-granted c g =
      let number =
      passed→number_for m.t (end_time m) (hazard m marks ws (log_of site) ts k) (floor_of m ts) (listed_in m k (thread_at ts k).segment) (counted_log m ts (log_of site)) ts k c
      (record { thread = g.thread; unbegun = g.unbegun; ready = g.ready; in-time = g.in-time; no_hazard = g.no_hazard; room = g.room }) in
      rw (g.fit, number, ready_cycle→cycle (thread_at ts k).state c g.ready) refl

  -- a grant's answer says the segment and the cycle, and that everything stood for it
  pub granted→ : (s : ℕ) (c : Cycle) → (request_of m marks ws site ts k).answer ≡ Granted s c → (s ≡ (thread_at ts k).segment) × Grantable c
  unfolding granted_to
  granted→ s c e = go request_of-asked e
    where
      go : {r : Requested} → Asked r → r.answer ≡ Granted s c → (s ≡ (thread_at ts k).segment) × Grantable c
      go (refused n h u) f = let z : ◌≡◌ {A = ℕ} 0 1 = cc in absurd (omega arith)
      go (granted d g) f =
          let same : d ≡ c = cc in
          ((cc), subst Grantable same g)

  -- on a fit state it is granted, or refused with 15, exactly where its thread is ready up to the horizon and no hazard stands
  pub record Unhindered (c : Cycle) : Type 0 where
    pub thread : k < m.t
    pub unbegun : is_running (thread_at ts k).state ≡ false
    pub ready : ready_cycle (thread_at ts k).state ≡ At c
    pub in-time : is_up_to_horizon m c ≡ true
    pub no_hazard : hazard m marks ws (log_of site) ts k c ≡ false

  number-fit : is_unfit m ws site ts ≡ false → number_of (request_of m marks ws site ts k).answer ≡ number_in m marks ws site ts k
  unfolding answer_number
  number-fit fit = request_of-answers.number ∙ rw fit refl

  pub unhindered→number : is_unfit m ws site ts ≡ false → (c : Cycle) → Unhindered c → ZeroOrFull (number_of (request_of m marks ws site ts k).answer)
  unfolding number_in is_up_to_horizon
  unhindered→number fit c u =
      rw (number-fit fit)
      (clear→number_for m.t (end_time m) (hazard m marks ws (log_of site) ts k) (floor_of m ts) (listed_in m k (thread_at ts k).segment) (counted_log m ts (log_of site)) ts k c
      (record { thread = u.thread; unbegun = u.unbegun; ready = u.ready; in-time = u.in-time; no_hazard = u.no_hazard }))

  pub number→unhindered : is_unfit m ws site ts ≡ false → ZeroOrFull (number_of (request_of m marks ws site ts k).answer) → (c : Cycle) × Unhindered c
  unfolding number_in is_up_to_horizon
  number→unhindered fit e =
      let (c, u) =
      number_for→clear m.t (end_time m) (hazard m marks ws (log_of site) ts k) (floor_of m ts) (listed_in m k (thread_at ts k).segment) (counted_log m ts (log_of site)) ts k
      (subst ZeroOrFull (number-fit fit) e) in
      (c, record { thread = u.thread; unbegun = u.unbegun; ready = u.ready; in-time = u.in-time; no_hazard = u.no_hazard })

  -- Demand 2: on a fit state, for a thread ready up to the horizon at c, with places left
  module _ (c : Cycle) (fit : is_unfit m ws site ts ≡ false) (thread : k < m.t) (unbegun : is_running (thread_at ts k).state ≡ false) (ready : ready_cycle (thread_at ts k).state ≡ At c)
      (in-time : is_up_to_horizon m c ≡ true) (room : is_full m site ts k c ≡ false)
    where
      pub granted-exactly : ((request_of m marks ws site ts k).answer ≡ Granted (thread_at ts k).segment c) ↔ (hazard m marks ws (log_of site) ts k c ≡ false)
      unfolding granted_to
      granted-exactly = (
        λ e. (granted→ (thread_at ts k).segment c e).1.no_hazard,
        λ h.
            ap
            (λ (r : Requested). r.answer)
            (request_of-granted c (record { fit = fit; thread = thread; unbegun = unbegun; ready = ready; in-time = in-time; no_hazard = h; room = room })),
      )

-- A list: what every request keeps, a list keeps, with each thread's history grown at its end.
module _ (m : Model) (marks : List (List Bool)) (ws : List ℕ) (P : Site → List Thread → (ℕ → List Item) → Type 0)
    (each : (site : Site) (ts : List Thread) (is : ℕ → List Item) (k : ℕ) → P site ts is
    → P (request_of m marks ws site ts k).site (request_of m marks ws site ts k).threads (λ j. is j ++ (request_of m marks ws site ts k).items j))
  where
    pub requests_of-carries : (ks : List ℕ) (site : Site) (ts : List Thread) (is : ℕ → List Item) → P site ts is
        → P (requests_of m marks ws site ts ks).site (requests_of m marks ws site ts ks).threads (λ j. is j ++ (requests_of m marks ws site ts ks).history j)
    unfolding listed_by
    requests_of-carries [] site ts is p = subst (P site ts) (fun_ext (λ j. sym (append-nil (is j)))) p
    requests_of-carries (k ∷ ks) site ts is p =
        let a = request_of m marks ws site ts k in
        let r = requests_of m marks ws a.site a.threads ks in
        subst
        (P r.site r.threads)
        (fun_ext (λ j. append_assoc (is j) (a.items j) (r.history j)))
        (requests_of-carries ks a.site a.threads (λ j. is j ++ a.items j) (each site ts is k p))

-- one list after another
pub requests_of-append : (m : Model) (marks : List (List Bool)) (ws : List ℕ) (ks more : List ℕ) (site : Site) (ts : List Thread)
    → (requests_of m marks ws site ts (ks ++ more)).threads
    ≡ (requests_of m marks ws (requests_of m marks ws site ts ks).site (requests_of m marks ws site ts ks).threads more).threads
unfolding listed_by
requests_of-append m marks ws [] more site ts = refl
requests_of-append m marks ws (k ∷ ks) more site ts =
    requests_of-append m marks ws ks more (request_of m marks ws site ts k).site (request_of m marks ws site ts k).threads

pub requests_of-append-site : (m : Model) (marks : List (List Bool)) (ws : List ℕ) (ks more : List ℕ) (site : Site) (ts : List Thread)
    → (requests_of m marks ws site ts (ks ++ more)).site
    ≡ (requests_of m marks ws (requests_of m marks ws site ts ks).site (requests_of m marks ws site ts ks).threads more).site
unfolding listed_by
requests_of-append-site m marks ws [] more site ts = refl
requests_of-append-site m marks ws (k ∷ ks) more site ts =
    requests_of-append-site m marks ws ks more (request_of m marks ws site ts k).site (request_of m marks ws site ts k).threads

pub requests_of-append-history : (m : Model) (marks : List (List Bool)) (ws : List ℕ) (ks more : List ℕ) (site : Site) (ts : List Thread) (j : ℕ)
    → (requests_of m marks ws site ts (ks ++ more)).history j
    ≡ (requests_of m marks ws site ts ks).history j
    ++ (requests_of m marks ws (requests_of m marks ws site ts ks).site (requests_of m marks ws site ts ks).threads more).history j
unfolding listed_by
requests_of-append-history m marks ws [] more site ts j = refl
requests_of-append-history m marks ws (k ∷ ks) more site ts j =
    let a = request_of m marks ws site ts k in
    let b = requests_of m marks ws a.site a.threads ks in
    ap (λ (is : List Item). a.items j ++ is) (requests_of-append-history m marks ws ks more a.site a.threads j)
    ∙ sym (append_assoc (a.items j) (b.history j) ((requests_of m marks ws b.site b.threads more).history j))
