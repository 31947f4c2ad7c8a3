-- Two lists of requests after which every thread has run equally often have run the same places: so they leave the same
-- variables, and each thread has run the same segments at the same cycles. (What was heard is the same too: SameStates.)
-- Takes as given the facts of the plain run (PlainFacts) and the laws of the kit (KitLaws).
use Prim.Native.Nat.{ℕ, zero, suc, ◌+◌, ◌-◌, ◌≤◌, ◌<◌}
use mathlib.Core.Path.{◌≡◌, refl, ap, sym, ◌∙◌, subst, subst₂}
use mathlib.Core.Logic.{◌⊎◌, inl, inr}
use mathlib.Core.Bool.{Bool, not}
use mathlib.Core.List.{List, [], ◌∷◌, ◌++◌, append-nil}
use native.Mathlib.Omega.{arith}
use native.Mathlib.Decide.{dec_lt, dec_le, ℕ_discrete}
use lib.Dec.{T, T_not}
use lib.ListN.{length, get_or, length-append}
use lib.Seq.{ext_get_or}
use Rattle.base.proofs.BoolLaws.{T-case}
use Rattle.base.proofs.IndexLaws.{FirstOf, find_first}
use Rattle.model.specs.declared.Model.{Model}
use Rattle.model.specs.declared.Thread.{Thread}
use Rattle.model.specs.Footprint.{writes_in}
use Rattle.plain.specs.Step.{place_at}
use Rattle.plain.specs.History.{Item, ran, heard, history_at, items_at}
use Rattle.plain_laws.proofs.RecordLaws.{ready-not-waits}
use Rattle.plain_laws.proofs.HappenLaws.{history_at-more}
use Rattle.early.specs.declared.Site.{Site}
use Rattle.order.specs.Steady.{ran_items, run_count}
use Rattle.order.proofs.Places.{record_at, Runs, Happens, idle, runs, hears}
use Rattle.order.proofs.PlainFacts.{PlainFacts}
use Rattle.order.proofs.KitLaws.{KitLaws}
use Rattle.order.proofs.Invariant.{Done, Good}
use Rattle.order.proofs.PlaceLaws.{same-runner}
use Rattle.order.proofs.Reached.{Reached, reached-variables}

ran_items-append : (a b : List Item) → ran_items (a ++ b) ≡ ran_items a ++ ran_items b
unfolding ran_items
ran_items-append [] b = refl
ran_items-append (ran s c ∷ a) b = ap (λ (is : List Item). ran s c ∷ is) (ran_items-append a b)
ran_items-append (heard e c ∷ a) b = ran_items-append a b

pub run_count-append : (a b : List Item) → run_count (a ++ b) ≡ run_count a + run_count b
run_count-append a b = ap length (ran_items-append a b) ∙ length-append (ran_items a) (ran_items b)

module _ (m : Model) (pf : PlainFacts m) (k : ℕ) (below : k < m.t) where
  -- what thread k has run up to a place
  abbrev ran_up_to : ℕ → List Item
  ran_up_to i = ran_items (history_at m k i)

  next-append : (i : ℕ) → ran_up_to (suc i) ≡ ran_up_to i ++ ran_items (items_at m (place_at m i) k)
  next-append i = ap ran_items (history_at-more m k i) ∙ ran_items-append (history_at m k i) (items_at m (place_at m i) k)

  next-same : (i : ℕ) → (Runs m i k → ⊥) → ran_up_to (suc i) ≡ ran_up_to i
  unfolding ran_items
  next-same i none = next-append i ∙ ap (λ (a : List Item). ran_up_to i ++ a) (empty (pf.happens i k below)) ∙ append-nil (ran_up_to i)
    where
      empty : Happens m i k → ran_items (items_at m (place_at m i) k) ≡ []
      empty (idle stays items not-runs not-hears) = ap ran_items items
      empty (runs r new items) = absurd (none r)
      empty (hears e since h new items) = ap ran_items items

  next_more : (i : ℕ) → Runs m i k → length (ran_up_to (suc i)) ≡ suc (length (ran_up_to i))
  unfolding ran_items
  next_more i r =
      let a = ap length (next-append i ∙ ap (λ (b : List Item). ran_up_to i ++ b) (one (pf.happens i k below)).1) in
      let b = length-append (ran_up_to i) ((one (pf.happens i k below)).0 ∷ []) in
      omega arith
    where
      one : Happens m i k → (x : Item) × (ran_items (items_at m (place_at m i) k) ≡ x ∷ [])
      one (idle stays items not-runs not-hears) = absurd (not-runs r)
      one (runs u new items) = (ran (record_at m i k).segment (place_at m i).now, ap ran_items items)
      one (hears e since h new items) = absurd (ready-not-waits r.ready h.waits)

  -- it never gets less
  next-mono : (i : ℕ) → length (ran_up_to i) ≤ length (ran_up_to (suc i))
  next-mono i =
      let a = ap length (next-append i) in
      let b = length-append (ran_up_to i) (ran_items (items_at m (place_at m i) k)) in
      omega arith

  ran-mono : (i d : ℕ) → length (ran_up_to i) ≤ length (ran_up_to (i + d))
  ran-mono i zero = let e : i + 0 ≡ i = omega arith in rw e (omega arith)
  ran-mono i (suc d) = let e : i + suc d ≡ suc (i + d) = omega arith in rw e (let a = ran-mono i d in let b = next-mono (i + d) in omega arith)

  pub ran-≤ : (i j : ℕ) → i ≤ j → length (ran_up_to i) ≤ length (ran_up_to j)
  ran-≤ i j h = let e : i + (j - i) ≡ j = omega arith in subst (λ (n : ℕ). length (ran_up_to i) ≤ length (ran_up_to n)) e (ran-mono i (j - i))

  -- a run between two places counts
  pub ran-between : (i q j : ℕ) → i ≤ q → q < j → Runs m q k → length (ran_up_to i) < length (ran_up_to j)
  ran-between i q j from to r = let a = ran-≤ i q from in let b = next_more q r in let c = ran-≤ (suc q) j to in omega arith

  -- equal counts: nothing was run in between
  ran-still : (i d : ℕ) → length (ran_up_to i) ≡ length (ran_up_to (i + d)) → ran_up_to (i + d) ≡ ran_up_to i
  ran-still i zero same = let e : i + 0 ≡ i = omega arith in ap ran_up_to e
  ran-still i (suc d) same =
      let e : i + suc d ≡ suc (i + d) = omega arith in
      ap ran_up_to e ∙ next-same (i + d) (λ r. busy r) ∙ ran-still i d (let a = ran-mono i d in let b = next-mono (i + d) in let c = ap (λ (n : ℕ). length (ran_up_to n)) e in omega arith)
    where
      busy : Runs m (i + d) k → ⊥
      busy r = let a = ran-between i (i + d) (i + suc d) (omega arith) (omega arith) r in omega arith

  pub ran-same : (i j : ℕ) → length (ran_up_to i) ≡ length (ran_up_to j) → ran_up_to i ≡ ran_up_to j
  ran-same i j same = go (dec_le i j)
    where
      go : Dec (i ≤ j) → ran_up_to i ≡ ran_up_to j
      go (yes h) = let e : i + (j - i) ≡ j = omega arith in sym (ran-still i (j - i) (rw e same)) ∙ ap ran_up_to e
      go (no h) = let e : j + (i - j) ≡ i = omega arith in ap ran_up_to (sym e) ∙ ran-still j (i - j) (rw e (sym same))

module _ (m : Model) (pf : PlainFacts m) {marks : List (List Bool)} {ws : List ℕ} (kl : KitLaws m marks ws) where
  -- where the threads have run no less often, no fewer places are done
  pub more-done : (cut cut' : ℕ → ℕ) → ((k : ℕ) → k < m.t → run_count (history_at m k (cut k)) ≤ run_count (history_at m k (cut' k)))
      → (q k : ℕ) → Done m cut q k → Done m cut' q k
  more-done cut cut' more q k d = record { runs = d.runs; passed = go (dec_lt q (cut' k)) }
    where
      go : Dec (q < cut' k) → q < cut' k
      go (yes h) = h
      go (no h) =
          let a = ran-between m pf k d.runs.below (cut' k) q (cut k) (omega arith) d.passed d.runs in
          let b = more k d.runs.below in
          absurd (omega arith)

  -- place q runs a thread that writes v there, and is not done
  record Undone (cut : ℕ → ℕ) (v q : ℕ) : Type 0 where
    thread : ℕ
    runs-it : Runs m q thread
    writes : T (writes_in m thread (record_at m q thread).segment v)
    late : q < cut thread → ⊥

  dec_undone : (cut : ℕ → ℕ) (v q : ℕ) → Dec (Undone cut v q)
  dec_undone cut v q = go (pf.runs_one q)
    where
      go : ((a : ℕ) × Runs m q a) ⊎ ((a : ℕ) → Runs m q a → ⊥) → Dec (Undone cut v q)
      go (inr none) = no (λ u. none u.thread u.runs-it)
      go (inl (a, r)) = case (T-case (writes_in m a (record_at m q a).segment v)) (dec_lt q (cut a))
        where
          same_thread : (u : Undone cut v q) → u.thread ≡ a
          same_thread u = same-runner m q u.thread a u.runs-it r

          case : T (writes_in m a (record_at m q a).segment v) ⊎ T (not (writes_in m a (record_at m q a).segment v)) → Dec (q < cut a)
              → Dec (Undone cut v q)
          case (inl w) (no h) = yes (record { thread = a; runs-it = r; writes = w; late = h })
          case (inl w) (yes h) = no (λ u. u.late (subst (λ (b : ℕ). q < cut b) (sym (same_thread u)) h))
          case (inr w) _ = no (λ u. T_not (writes_in m a (record_at m q a).segment v) w (subst (λ (b : ℕ). T (writes_in m b (record_at m q b).segment v)) (same_thread u) u.writes))

  -- A place that parts the writers of v: those before it are done, those from it on are not. The first writer that is not
  -- done, or the end of the run: a later one that is done would touch it.
  record Parts (cut : ℕ → ℕ) (v q : ℕ) : Type 0 where
    early : (p a : ℕ) → p < q → Runs m p a → T (writes_in m a (record_at m p a).segment v) → Done m cut p a
    none-later : (p a : ℕ) → q ≤ p → Runs m p a → T (writes_in m a (record_at m p a).segment v) → Done m cut p a → ⊥

  parted : (cut : ℕ → ℕ) (x : List ℕ) → Good m cut x → (v : ℕ) → (q : ℕ) × Parts cut v q
  parted cut x g v = go (find_first pf.ending.place (Undone cut v) (λ q. dec_undone cut v q))
    where
      done-by : (p a : ℕ) → Runs m p a → T (writes_in m a (record_at m p a).segment v) → (Undone cut v p → ⊥) → Done m cut p a
      done-by p a r w none = record { runs = r; passed = case (dec_lt p (cut a)) }
        where
          case : Dec (p < cut a) → p < cut a
          case (yes h) = h
          case (no h) = absurd (none (record { thread = a; runs-it = r; writes = w; late = h }))

      go : FirstOf pf.ending.place (Undone cut v) ⊎ ((q : ℕ) → q < pf.ending.place → Undone cut v q → ⊥) → (q : ℕ) × Parts cut v q
      go (inr none) = (
        pf.ending.place,
        record {
          early = λ p a h r w. done-by p a r w (none p h);
          none-later = λ p a h r w d. pf.ending.no_run p a h r;
        },
      )
      go (inl first) = (
        first.index,
        record {
          early = λ p a h r w. done-by p a r w (first.first p h);
          none-later = λ p a h r w d. later p a h r w d (ℕ_discrete first.index p);
        },
      )
        where
          u : Undone cut v first.index
          u = first.holds

          later : (p a : ℕ) → first.index ≤ p → Runs m p a → T (writes_in m a (record_at m p a).segment v) → Done m cut p a
              → Dec (first.index ≡ p) → ⊥
          later p a h r w d (yes e) =
              let s : u.thread ≡ a = same-runner m p u.thread a (subst (λ (i : ℕ). Runs m i u.thread) e u.runs-it) r in
              u.late (subst₂ (λ (i b : ℕ). i < cut b) (sym e) (sym s) d.passed)
          later p a h r w d (no other) =
              g.ordered first.index u.thread p a (omega arith) u.runs-it (λ e. u.late e.passed) d
              (record { variable = v; shared = inl (u.writes, kl.footprints.writes_uses a (record_at m p a).segment v w) })

  -- the same places done: the same variables
  pub same-done-variables : (cut cut' : ℕ → ℕ) (x x' : List ℕ) → ((q k : ℕ) → Done m cut q k → Done m cut' q k)
      → ((q k : ℕ) → Done m cut' q k → Done m cut q k) → Good m cut x → Good m cut' x' → x ≡ x'
  same-done-variables cut cut' x x' there back g g' = ext_get_or 0 x x' (g.size ∙ sym g'.size) (λ v h. at v (parted cut x g v))
    where
      at : (v : ℕ) → (q : ℕ) × Parts cut v q → get_or x v 0 ≡ get_or x' v 0
      at v (q, ps) =
          g.value v q ps.early ps.none-later ∙
          sym (g'.value v q (λ p a h r w. there p a (ps.early p a h r w)) (λ p a h r w d. ps.none-later p a h r w (back p a d)))

  -- two reached states in which the threads have run equally often
  module _ {site site' : Site} {ts ts' : List Thread} {h h' : ℕ → List Item} (r : Reached m site ts h) (r' : Reached m site' ts' h') (same : (k : ℕ) → k < m.t → run_count (h k) ≡ run_count (h' k)) where
    counts : (k : ℕ) → k < m.t → run_count (history_at m k (r.cut k)) ≡ run_count (history_at m k (r'.cut k))
    counts k below = ap run_count (sym (r.is_cut.history k below)) ∙ same k below ∙ ap run_count (r'.is_cut.history k below)

    pub reached-variables-same : site.variables.at ≡ site'.variables.at
    reached-variables-same =
        reached-variables r ∙
        same-done-variables r.cut r'.cut r.variables r'.variables (more-done r.cut r'.cut (λ k below. omega (arith, counts k below)))
        (more-done r'.cut r.cut (λ k below. omega (arith, counts k below))) r.is_cut.good r'.is_cut.good ∙
        sym (reached-variables r')

    pub reached-ran-same : (k : ℕ) → k < m.t → ran_items (h k) ≡ ran_items (h' k)
    reached-ran-same k below =
        ap ran_items (r.is_cut.history k below) ∙ ran-same m pf k below (r.cut k) (r'.cut k) (counts k below) ∙ sym (ap ran_items (r'.is_cut.history k below))
