-- What holds of every state that a list of calls can reach. Without what is running it is a reached one (`Reached`); each history ends with the segment that
-- is running; there is a set of held values for each thread; and of each that is running the facts of its grant hold (`Issued`). A run of a thread, by a
-- combined request or by its finish, keeps all that of whoever else is running.
-- Takes as given the facts of the plain run (PlainFacts) and the laws of the kit (KitLaws).
use Prim.Native.Nat.{ℕ, ◌*◌, ◌<◌, ◌≤◌}
use mathlib.Core.Path.{◌≡◌, refl, ap, ap₂, sym, ◌∙◌, subst}
use mathlib.Core.Bool.{Bool, true, false, cond}
use mathlib.Core.List.{List, [], ◌∷◌, ◌++◌, append_assoc, append-nil}
use native.Mathlib.Omega.{arith}
use native.Mathlib.Decide.{ℕ_discrete}
use lib.ListN.{length}
use Rattle.clock.specs.declared.Cycle.{Cycle}
use Rattle.model.specs.declared.Model.{Model}
use Rattle.model.specs.declared.Thread.{Thread}
use Rattle.model.specs.Record.{thread_at, cycle_of, is_running, nothing, awaited_by, awaited_of}
use Rattle.plain.specs.History.{Item, ran, history_at}
use Rattle.early.specs.declared.Notification.{Notification}
use Rattle.early.specs.declared.Site.{Site}
use Rattle.early.specs.Deliver.{look_items, settled_items}
use Rattle.early.specs.Grant.{log_after, closed_threads, threads_after, site_after, items_after}
use Rattle.early.specs.Call.{held_count, held_at}
use Rattle.early_laws.proofs.LookLaws.{heard_at-other, looked_at-kept, look_items-other, look_items-none}
use Rattle.early_laws.proofs.SettleLaws.{settled-carries}
use Rattle.early_laws.proofs.GrantLaws.{closed_threads-other, threads_after-kept, items_after-other}
use Rattle.order.specs.Steady.{run_count}
use Rattle.order.proofs.Seen.{running-ready}
use Rattle.order.proofs.PlainFacts.{PlainFacts}
use Rattle.order.proofs.KitLaws.{KitLaws}
use Rattle.order.proofs.Reached.{Reached}
use Rattle.order.proofs.Stepped.{after-running}
use Rattle.order.proofs.SamePlaces.{run_count-append, more-done}
use Rattle.order.proofs.Issued.{Issued, issued-kept}

-- the segment that a thread is running, as its history has it since the grant
abbrev pending_of : Bool → ℕ → Cycle → List Item
pending_of b s c = cond b (ran s c ∷ []) []

abbrev pub pending : Thread → List Item
pending t = pending_of (is_running t.state) t.segment (cycle_of t.state)

pub pending-none : (t : Thread) → is_running t.state ≡ false → pending t ≡ []
pending-none t e = ap (λ (b : Bool). pending_of b t.segment (cycle_of t.state)) e

pub pending-ran : (t : Thread) → is_running t.state ≡ true → pending t ≡ ran t.segment (cycle_of t.state) ∷ []
pending-ran t e = ap (λ (b : Bool). pending_of b t.segment (cycle_of t.state)) e

pub record Underway (m : Model) (site : Site) (ts : List Thread) (held : List ℕ) (h : ℕ → List Item) : Type 0 where
  -- the histories of what has been run to its end
  pub ended : ℕ → List Item
  pub reached : Reached m site ts ended
  pub history : (k : ℕ) → k < m.t → h k ≡ ended k ++ pending (thread_at ts k)
  pub enough : held_count * m.t ≤ length held
  pub issued : (k : ℕ) → k < m.t → is_running (thread_at ts k).state ≡ true → Issued m reached.cut ended ts held k

-- a thread that does not wait hears nothing
silent : (m : Model) (ws : List ℕ) (l : List Notification) (ts : List Thread) (j : ℕ) → awaited_by (thread_at ts j).state ≡ nothing → settled_items m ws l ts j ≡ []
silent m ws l ts j deaf =
    (settled-carries m ws l (λ us is. (thread_at us j ≡ thread_at ts j) × (is j ≡ []))
    (λ us is k below (same, none).
    let still = ap (λ (t : Thread). awaited_by t.state) same ∙ deaf in
    (looked_at-kept m ws l us k j still ∙ same, ap₂ (λ (a b : List Item). a ++ b) none (look us k still (ℕ_discrete j k)))) ts (refl, refl)).1
  where
    look : (us : List Thread) (k : ℕ) → awaited_by (thread_at us j).state ≡ nothing → Dec (j ≡ k) → look_items m ws l us k j ≡ []
    look us k still (no other) = look_items-other m ws l us k j other
    look us k still (yes e) = look_items-none m ws l us k j (heard_at-other m ws l us k (subst (λ (i : ℕ). awaited_by (thread_at us i).state ≡ nothing) e still))

-- after a run of thread k at c
module _ (m : Model) (ws : List ℕ) (site : Site) (ts : List Thread) (k : ℕ) (c : Cycle) (inside : k < length ts) where
  abbrev vs : List Thread
  vs = threads_after m ws site ts k c

  -- what thread j hears then
  abbrev told : ℕ → List Item
  told j = settled_items m ws (log_after m site ts k c) (closed_threads m site ts k c) j

  -- k is not running
  self-unbegun : is_running (thread_at vs k).state ≡ false
  self-unbegun = go (is_running (thread_at vs k).state) refl
    where
      go : (b : Bool) → is_running (thread_at vs k).state ≡ b → b ≡ false
      go false e = refl
      go true e = absurd ((after-running m ws site ts k c inside k e).0 refl)

  -- whoever else was running is as it was, and hears nothing
  module _ (j : ℕ) (other : j ≡ k → ⊥) (runs : is_running (thread_at ts j).state ≡ true) where
    deaf : awaited_by (thread_at ts j).state ≡ nothing
    deaf = ap awaited_of (running-ready (thread_at ts j).state runs)

    other-kept : thread_at vs j ≡ thread_at ts j
    other-kept = threads_after-kept m site ts k c ws j other deaf

    other-silent : told j ≡ []
    other-silent =
        silent m ws (log_after m site ts k c) (closed_threads m site ts k c) j
        (ap (λ (t : Thread). awaited_by t.state) (closed_threads-other m site ts k c j other) ∙ deaf)

  other-pending : (j : ℕ) → (j ≡ k → ⊥) → told j ++ pending (thread_at vs j) ≡ pending (thread_at ts j) ++ told j
  other-pending j other = go (is_running (thread_at ts j).state) refl (is_running (thread_at vs j).state) refl
    where
      go : (a : Bool) → is_running (thread_at ts j).state ≡ a → (b : Bool) → is_running (thread_at vs j).state ≡ b
          → told j ++ pending (thread_at vs j) ≡ pending (thread_at ts j) ++ told j
      go true e b f = rw (other-silent j other e, other-kept j other e) (sym (append-nil (pending (thread_at ts j))))
      go false e true f =
          let z = sym f ∙ ap (λ (t : Thread). is_running t.state) (after-running m ws site ts k c inside j f).1 ∙ e in
          absurd (let z : ◌≡◌ {A = ℕ} 0 1 = cc in omega arith)
      go false e false f = rw (pending-none (thread_at ts j) e, pending-none (thread_at vs j) f) (append-nil (told j))

  -- The histories, where so much is added to them: what is heard, and to that of k what completes its run.
  pub stepped-history : (h ended added : ℕ → List Item) → ((j : ℕ) → (j ≡ k → ⊥) → added j ≡ told j)
      → pending (thread_at ts k) ++ added k ≡ items_after m ws site ts k c k
      → ((j : ℕ) → j < m.t → h j ≡ ended j ++ pending (thread_at ts j))
      → (j : ℕ) → j < m.t → h j ++ added j ≡ (ended j ++ items_after m ws site ts k c j) ++ pending (thread_at vs j)
  stepped-history h ended added others self old j below = rw (old j below) (append_assoc (ended j) (pending (thread_at ts j)) (added j) ∙ go (ℕ_discrete j k))
    where
      go : Dec (j ≡ k) → ended j ++ (pending (thread_at ts j) ++ added j) ≡ (ended j ++ items_after m ws site ts k c j) ++ pending (thread_at vs j)
      go (yes e) =
          rw (e, self, pending-none (thread_at vs k) self-unbegun) (sym (append-nil (ended k ++ items_after m ws site ts k c k)))
      go (no other) =
          rw (others j other, items_after-other m site ts k c ws j other, ← other-pending j other) (sym (append_assoc (ended j) (told j) (pending (thread_at vs j))))

-- whoever is running after a run was so before, and the facts of its grant are kept
pub stepped-issued : (m : Model) (pf : PlainFacts m) {marks : List (List Bool)} {ws : List ℕ} (kl : KitLaws m marks ws) (site : Site) (ts : List Thread) (k : ℕ) (c : Cycle) (h : ℕ → List Item) (held held' : List ℕ)
    (r : Reached m site ts h) (r' : Reached m (site_after m ws site ts k c) (threads_after m ws site ts k c) (λ j. h j ++ items_after m ws site ts k c j))
    → k < m.t → ((j : ℕ) → (j ≡ k → ⊥) → held_at held' j ≡ held_at held j)
    → ((j : ℕ) → j < m.t → is_running (thread_at ts j).state ≡ true → Issued m r.cut h ts held j)
    → (j : ℕ) → j < m.t → is_running (thread_at (threads_after m ws site ts k c) j).state ≡ true
    → Issued m r'.cut (λ j. h j ++ items_after m ws site ts k c j) (threads_after m ws site ts k c) held' j
stepped-issued m pf {ws = ws} kl site ts k c h held held' r r' kt values old j below runs =
    let (other, same) = after-running m ws site ts k c inside j runs in
    let before = ap (λ (t : Thread). is_running t.state) (sym same) ∙ runs in
    issued-kept (more-done m pf kl r.cut r'.cut counts)
    (ap (λ (a : List Item). h j ++ a) (items_after-other m site ts k c ws j other ∙ other-silent m ws site ts k c inside j other before) ∙ append-nil (h j))
    same (values j other) (old j below before)
  where
    inside : k < length ts
    inside = omega (arith, r.is_cut.size)

    counts : (i : ℕ) → i < m.t → run_count (history_at m i (r.cut i)) ≤ run_count (history_at m i (r'.cut i))
    counts i b =
        let p = ap run_count (r.is_cut.history i b) in
        let q = ap run_count (r'.is_cut.history i b) in
        let s = run_count-append (h i) (items_after m ws site ts k c i) in
        omega arith
