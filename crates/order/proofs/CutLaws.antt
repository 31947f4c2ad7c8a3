-- How a cut is moved: only its own thread's cut changes, what was done stays done, and what becomes done lies between
-- the old cut and the new one. Likewise for records with one thread's changed, and histories with one thread's items more.
-- And what a cut says of one record: its view and its segment; of a thread that is not running, the record itself.
-- Assumes nothing.
use Prim.Native.Nat.{ℕ, suc, ◌≤◌, ◌<◌}
use mathlib.Core.Path.{◌≡◌, refl, ap, sym, ◌∙◌, subst}
use mathlib.Core.Logic.{◌⊎◌, inl, inr}
use mathlib.Core.Bool.{false}
use mathlib.Core.List.{List, ◌++◌, append-nil}
use native.Mathlib.Omega.{arith}
use native.Mathlib.Decide.{dec_lt, ℕ_discrete}
use lib.ListN.{length, set}
use borrow.Author.Tests.{eq-eqb, ne_eqb}
use Rattle.clock.specs.declared.Cycle.{Cycle}
use Rattle.clock.specs.declared.Bound.{Bound}
use Rattle.model.specs.declared.Model.{Model}
use Rattle.model.specs.declared.Thread.{Thread}
use Rattle.model.specs.Record.{thread_at, is_running, view_of}
use Rattle.plain.specs.History.{Item, history_at}
use Rattle.plain_laws.proofs.RecordLaws.{thread_at-set, thread_at-other}
use Rattle.early.specs.declared.Notification.{Notification}
use Rattle.order.proofs.Seen.{seen, seen-view, seen_self}
use Rattle.order.proofs.Places.{now_at, record_at, Runs}
use Rattle.order.proofs.Invariant.{Done, Known, IsCut, moved, adding}

module _ {m : Model} {x : List ℕ} {l : List Notification} {ts : List Thread} {h : ℕ → List Item} {cut : ℕ → ℕ} {low : Bound}
    (ic : IsCut m x l ts h cut low) (k : ℕ) (below : k < m.t) where
  pub cut-view : view_of (thread_at ts k).state ≡ view_of (record_at m (cut k) k).state
  cut-view = sym (seen-view (thread_at ts k)) ∙ ap (λ (t : Thread). view_of t.state) (ic.records k below)

  pub cut-segment : (thread_at ts k).segment ≡ (record_at m (cut k) k).segment
  cut-segment = ap (λ (t : Thread). t.segment) (ic.records k below)

  pub cut_record : is_running (thread_at ts k).state ≡ false → thread_at ts k ≡ record_at m (cut k) k
  cut_record e = sym (seen_self (thread_at ts k) e) ∙ ic.records k below

-- records that are seen the same have the same views, and are a cut together
pub view-same : (t u : Thread) → seen u ≡ seen t → view_of u.state ≡ view_of t.state
view-same t u e = sym (seen-view u) ∙ ap (λ (x : Thread). view_of x.state) e ∙ seen-view t

pub cut-seen : {m : Model} {x : List ℕ} {l : List Notification} {ts us : List Thread} {h : ℕ → List Item} {cut : ℕ → ℕ} {low : Bound}
    → length us ≡ length ts → ((k : ℕ) → seen (thread_at us k) ≡ seen (thread_at ts k)) → IsCut m x l ts h cut low → IsCut m x l us h cut low
cut-seen {m} {x} {l} {ts} {us} {h} {cut} {low} long same ic =
    record {
      size = rw long ic.size;
      records = λ k below. same k ∙ ic.records k below;
      history = ic.history;
      good = ic.good;
      low-ready = λ k c below r. ic.low-ready k c below (sym (view-same (thread_at ts k) (thread_at us k) (same k)) ∙ r);
      low-logged = ic.low-logged;
      logged = λ q k e d s. known e (now_at m q) (ic.logged q k e d s);
      notified = ic.notified;
      once = ic.once;
    }
  where
    known : (e : ℕ) (c : Cycle) → Known m l ts low e c → Known m l us low e c
    known e c (inl i) = inl i
    known e c (inr g) = inr (record { dropped = g.dropped; unheard = λ k since below w. g.unheard k since below (sym (view-same (thread_at ts k) (thread_at us k) (same k)) ∙ w) })

pub moved_same : (cut : ℕ → ℕ) (k n j : ℕ) → j ≡ k → moved cut k n j ≡ n
unfolding moved
moved_same cut k n j e = rw (eq-eqb j k e) refl

pub moved_other : (cut : ℕ → ℕ) (k n j : ℕ) → (j ≡ k → ⊥) → moved cut k n j ≡ cut j
unfolding moved
moved_other cut k n j other = rw (ne_eqb j k other) refl

pub adding-same : (h : ℕ → List Item) (k : ℕ) (items : List Item) (j : ℕ) → j ≡ k → adding h k items j ≡ h j ++ items
unfolding adding
adding-same h k items j e = rw (eq-eqb j k e) refl

pub adding_other : (h : ℕ → List Item) (k : ℕ) (items : List Item) (j : ℕ) → (j ≡ k → ⊥) → adding h k items j ≡ h j
unfolding adding
adding_other h k items j other = rw (ne_eqb j k other) (append-nil (h j))

-- what holds of the record that thread k gets, and of every other, holds of all after
pub set-each : (P : ℕ → Thread → Type 0) (ts : List Thread) (k : ℕ) (t : Thread) → k < length ts → P k t
    → ((j : ℕ) → (j ≡ k → ⊥) → P j (thread_at ts j)) → (j : ℕ) → P j (thread_at (set ts k t) j)
set-each P ts k t inside new old j = go (ℕ_discrete j k)
  where
    go : Dec (j ≡ k) → P j (thread_at (set ts k t) j)
    go (yes e) = rw e (subst (P k) (sym (thread_at-set ts k t inside)) new)
    go (no n) = subst (P j) (sym (thread_at-other ts k j t n)) (old j n)

-- thread k gets the record that it has at place n: the records are those of the cut moved there
pub moved-records : (m : Model) (ts : List Thread) (cut : ℕ → ℕ) (k n : ℕ) (t : Thread) → k < length ts → seen t ≡ record_at m n k
    → ((j : ℕ) → j < m.t → seen (thread_at ts j) ≡ record_at m (cut j) j) → (j : ℕ) → j < m.t → seen (thread_at (set ts k t) j) ≡ record_at m (moved cut k n j) j
moved-records m ts cut k n t inside there old =
    set-each (λ j u. j < m.t → seen u ≡ record_at m (moved cut k n j) j) ts k t inside (λ b. rw (moved_same cut k n k refl) there)
    (λ j other b. rw (moved_other cut k n j other) (old j b))

-- and its history there
pub moved-history : (m : Model) (h : ℕ → List Item) (cut : ℕ → ℕ) (k n : ℕ) (items : List Item) → h k ++ items ≡ history_at m k n
    → ((j : ℕ) → j < m.t → h j ≡ history_at m j (cut j)) → (j : ℕ) → j < m.t → adding h k items j ≡ history_at m j (moved cut k n j)
moved-history m h cut k n items there old j b = go (ℕ_discrete j k)
  where
    go : Dec (j ≡ k) → adding h k items j ≡ history_at m j (moved cut k n j)
    go (yes e) = rw (adding-same h k items j e, moved_same cut k n j e, e) there
    go (no other) = rw (adding_other h k items j other, moved_other cut k n j other) (old j b)

module _ (m : Model) (cut : ℕ → ℕ) (k n : ℕ) (on : cut k ≤ n) where
  -- what was done stays done
  pub done-kept : (q j : ℕ) → Done m cut q j → Done m (moved cut k n) q j
  done-kept q j d = record { runs = d.runs; passed = go (ℕ_discrete j k) }
    where
      go : Dec (j ≡ k) → q < moved cut k n j
      go (yes e) = rw (moved_same cut k n j e) (let p : q < cut k = subst (λ (i : ℕ). q < cut i) e d.passed in omega arith)
      go (no e) = rw (moved_other cut k n j e) d.passed

  -- what is done now was done, or is a run of k between the two cuts
  pub done-moved : (q j : ℕ) → Done m (moved cut k n) q j → Done m cut q j ⊎ ((j ≡ k) × (cut k ≤ q) × (q < n))
  done-moved q j d = go (ℕ_discrete j k) (dec_lt q (cut k))
    where
      go : Dec (j ≡ k) → Dec (q < cut k) → Done m cut q j ⊎ ((j ≡ k) × (cut k ≤ q) × (q < n))
      go (no e) _ = inl (record { runs = d.runs; passed = rw (moved_other cut k n j e) at d.passed })
      go (yes e) (yes h) = inl (record { runs = d.runs; passed = rw e h })
      go (yes e) (no h) = inr (e, omega arith, rw (moved_same cut k n j e) at d.passed)

  -- nothing of k runs between the two cuts: what is done now was done
  pub done-back : ((q : ℕ) → cut k ≤ q → q < n → Runs m q k → ⊥) → (q j : ℕ) → Done m (moved cut k n) q j → Done m cut q j
  done-back quiet q j d = go (done-moved q j d)
    where
      go : Done m cut q j ⊎ ((j ≡ k) × (cut k ≤ q) × (q < n)) → Done m cut q j
      go (inl old) = old
      go (inr (e, from, to)) = absurd (quiet q from to (rw e at d.runs))

-- the cut of k moved just past place r, the next that runs k
module _ (m : Model) (cut : ℕ → ℕ) (k r : ℕ) (from : cut k ≤ r) (here : Runs m r k) (quiet : (q : ℕ) → cut k ≤ q → q < r → Runs m q k → ⊥) where
  pub done-here : Done m (moved cut k (suc r)) r k
  done-here = record { runs = here; passed = rw (moved_same cut k (suc r) k refl) (omega arith) }

  -- what is done now was done, or is this place
  pub done-now : (q j : ℕ) → Done m (moved cut k (suc r)) q j → Done m cut q j ⊎ ((q ≡ r) × (j ≡ k))
  done-now q j d = go (done-moved m cut k (suc r) (omega arith) q j d) (ℕ_discrete q r)
    where
      go : Done m cut q j ⊎ ((j ≡ k) × (cut k ≤ q) × (q < suc r)) → Dec (q ≡ r) → Done m cut q j ⊎ ((q ≡ r) × (j ≡ k))
      go (inl old) _ = inl old
      go (inr (e, f, t)) (yes p) = inr (p, e)
      go (inr (e, f, t)) (no p) = absurd (quiet q f (omega arith) (rw e at d.runs))
