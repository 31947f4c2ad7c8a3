-- The row of a segment. The words of the least advances from r are a floor of the model's steps (`floor`), which steps attain (`attained`); so a row at
-- rest above it holds them (`settled`), and the cut brings the stored words (`row_done`).
use Prim.Native.Nat.{ℕ, min, ◌+◌, ◌*◌, ◌≤◌, ◌<◌}
use mathlib.Core.Path.{◌≡◌, refl, ap, sym, ◌∙◌, subst}
use mathlib.Core.Logic.{◌⊎◌, inl, inr}
use mathlib.Core.Bool.{cond}
use mathlib.Core.List.{List, ◌++◌}
use native.Mathlib.Omega.{arith}
use native.Mathlib.Decide.{ℕ_discrete}
use lib.Dec.{eqb}
use lib.ListN.{length, get_or, take, drop, get_or-append}
use lib.Seq.{length-take-le}
use Rattle.base.proofs.IndexLaws.{store_to-length}
use Rattle.clock.specs.declared.Bound.{Bound}
use Rattle.clock.specs.Cycle.{cycle_at}
use Rattle.clock.specs.Order.{◌≼◌}
use Rattle.clock.specs.Advance.{◌⊕◌, no_advance}
use Rattle.clock.proofs.OrderLaws.{≼_refl, ≼-antisym}
use Rattle.clock.proofs.AdvanceLaws.{⊕-assoc, ⊕-mono, no_advance-⊕, ⊕-no_advance}
use Rattle.model.specs.declared.Model.{Model}
use Rattle.model.specs.Rules.{model_fault}
use Rattle.model_rules.proofs.RuleLaws.{model_fault-counts}
use Rattle.tables.specs.Distance.{edge, GraphPath, here, step, distance_table, distance_of}
use Rattle.tables.specs.Word.{words_of}
use Rattle.tables_laws.proofs.PathLaws.{rounds-least_via, IsLeast-after, IsLeast-self}
use Rattle.tables_laws.proofs.DeltaLaws.{IsStep, time_step, delta_step, least_via-delta}
use Rattle.tables_laws.proofs.DistanceLaws.{edge-step, uncut_of, uncut_of-least}
use Rattle.tables_laws.proofs.WordLaws.{words_of-at}
use Rattle.tables_distance.specs.Store.{far, held_word, sum_word, cut_word, cut_to}
use Rattle.tables_distance.proofs.HeldLaws.{SmallDelta, held_word-≤, held_word-never, held_word-near, held_word-mono, held_word-sum, cut_word-held_word}
use Rattle.tables_distance.proofs.FilledLaws.{cut_to-at}
use Rattle.tables_row.specs.Row.{step_words, IsRow}
use Rattle.tables_row.specs.Lower.{start_to, IsFloor, IsAbove, Settles}
use Rattle.tables_row.proofs.LowerLaws.{sum_word-near, LastStep, settled}
use Rattle.tables_row.proofs.StepLaws.{start-self, start-other, start_to-at, edge-some, leads-edge, edge_leads}

-- a path of some steps, taken apart at its last
pub record LastEdge (n : ℕ) (E : ℕ → ℕ → Bound) (r t : ℕ) (w : Bound) : Type 0 where
  pub from : ℕ
  pub below : from < n
  pub front : Bound
  pub path : GraphPath n E r from front
  pub whole : w ≡ front ⊕ E from t

pub GraphPath-last : {n : ℕ} {E : ℕ → ℕ → Bound} {r t : ℕ} {w : Bound} → r < n → GraphPath n E r t w → ((r ≡ t) × (w ≡ no_advance)) ⊎ LastEdge n E r t w
GraphPath-last h here = inl (refl, refl)
GraphPath-last {n} {E} h (step {r = r} {s = s} {t = t} {w = w} l p) = inr (go (GraphPath-last l p))
  where
    go : ((s ≡ t) × (w ≡ no_advance)) ⊎ LastEdge n E s t w → LastEdge n E r t (E r s ⊕ w)
    go (inl (e, f)) =
        record { from = r; below = h; front = no_advance; path = here; whole = rw (f, ⊕-no_advance (E r s), no_advance-⊕ (E r t), e) refl }
    go (inr x) =
        record {
          from = x.from;
          below = x.below;
          front = E r s ⊕ x.front;
          path = step l x.path;
          whole = ap (λ (b : Bound). E r s ⊕ b) x.whole ∙ sym (⊕-assoc (E r s) x.front (E x.from t));
        }

module _ (m : Model) (fit : model_fault m ≡ 0) (r : ℕ) (rn : r < m.n) where
  -- the least advance to s before the cut, and its word
  abbrev U : ℕ → Bound
  U s = uncut_of m r s

  abbrev pub floor_of : ℕ → ℕ
  floor_of s = held_word (uncut_of m r s)

  U-small : (s : ℕ) → s < m.n → SmallDelta 1023 (U s)
  unfolding distance_table
  U-small s sn c e =
      let d = least_via-delta (edge m) (edge-step m) m.n r s (sym (rounds-least_via m.n (edge m) m.n r s (omega arith) rn sn) ∙ e) in
      omega (arith, (model_fault-counts m fit).segments)

  edge-small : (s t : ℕ) → SmallDelta 1023 (edge m s t)
  edge-small s t c e = go (edge-step m s t c e)
    where
      go : IsStep c → c.delta.0 ≤ 1023
      go (time_step z) = omega arith
      go (delta_step y z) = omega arith

  sum-word : (s t : ℕ) → s < m.n → min far (sum_word (floor_of s) (held_word (edge m s t))) ≡ held_word (U s ⊕ edge m s t)
  sum-word s t sn = held_word-sum (U s) (edge m s t) (U-small s sn) (edge-small s t)

  pub floor : IsFloor (step_words m) m.n floor_of
  floor s t sn tn leads =
      rw (leads-edge m fit s sn t leads)
      (omega (arith, sum-word s t sn, held_word-mono (U t) (U s ⊕ edge m s t) (U-small t tn) (IsLeast-after (U t) (U s) tn (uncut_of-least m r t rn tn) (uncut_of-least m r s rn sn))))

  floor-own : floor_of r ≡ 0
  floor-own = rw (IsLeast-self (uncut_of-least m r r rn rn)) (held_word-near (cycle_at 0 0) (omega arith) (omega arith))

  pub attained : (t : ℕ) → t < m.n → floor_of t < far → (t ≡ r) ⊎ LastStep (step_words m) m.n floor_of t
  attained t tn near = go (GraphPath-last rn ((uncut_of-least m r t rn tn).attained (λ e. omega (arith, held_word-never, ap held_word e))))
    where
      last : (x : LastEdge m.n (edge m) r t (U t)) → LastStep (step_words m) m.n floor_of t
      last x =
          let s = x.from in
          let sn = x.below in
          let least = uncut_of-least m r s rn sn in
          let same : U t ≡ U s ⊕ edge m s t =
          ≼-antisym (U t) (U s ⊕ edge m s t) (IsLeast-after (U t) (U s) tn (uncut_of-least m r t rn tn) least)
          (subst (λ (b : Bound). U s ⊕ edge m s t ≼ b) (sym x.whole) (⊕-mono (U s) x.front (edge m s t) (edge m s t) (least.below x.path) (≼_refl (edge m s t)))) in
          let e : floor_of t ≡ sum_word (floor_of s) (held_word (edge m s t)) = omega (arith, sum-word s t sn, ap held_word same) in
          let leads = edge_leads m fit s sn t (sum_word-near (floor_of s) (held_word (edge m s t)) (omega arith)).1 in
          record { from = s; below = sn; leads = leads; some = edge-some m fit s sn; sum = rw (leads-edge m fit s sn t leads) e }

      go : ((r ≡ t) × (U t ≡ no_advance)) ⊎ LastEdge m.n (edge m) r t (U t) → (t ≡ r) ⊎ LastStep (step_words m) m.n floor_of t
      go (inl (e, _)) = inl (sym e)
      go (inr x) = inr (last x)

  -- the cut brings the stored word
  pub floor-cut : (s : ℕ) → s < m.n → cut_word (floor_of s) ≡ get_or (words_of m) (r * m.n + s) 0
  unfolding distance_of
  floor-cut s sn = cut_word-held_word (U s) (U-small s sn) ∙ sym (words_of-at m r s rn sn)

  -- the row at its start
  module _ (row : List ℕ) (room : m.n ≤ length row) where
    start-far : (s : ℕ) → s < m.n → get_or (start_to r row m.n) s 0 ≤ far
    start-far s sn = rw (start_to-at r row m.n s sn room) (go (ℕ_discrete s r))
      where
        go : Dec (s ≡ r) → cond (eqb s r) 0 far ≤ far
        go (yes e) = omega (arith, start-self s r e)
        go (no e) = omega (arith, start-other s r e)

    start-own : get_or (start_to r row m.n) r 0 ≡ 0
    start-own = start_to-at r row m.n r rn room ∙ sym (start-self r r refl)

    start-above : IsAbove m.n floor_of (start_to r row m.n)
    start-above s sn = rw (start_to-at r row m.n s sn room) (go (ℕ_discrete s r))
      where
        go : Dec (s ≡ r) → floor_of s ≤ cond (eqb s r) 0 far
        go (yes e) = omega (arith, start-self s r e, floor-own, ap floor_of e)
        go (no e) = omega (arith, start-other s r e, held_word-≤ (U s))

  module _ (row relaxed : List ℕ) (room : m.n ≤ length row) (p : Settles (step_words m) m.n (start_to r row m.n) relaxed) where
    row_settled : (s : ℕ) → s < m.n → get_or relaxed s 0 ≡ floor_of s
    row_settled =
        settled (step_words m) m.n r floor_of attained relaxed (λ s sn. omega (arith, p.fall.falls s sn, start-far row room s sn))
        (omega (arith, p.fall.falls r rn, start-own row room)) p.rests (p.fall.above floor_of floor (start-above row room))

    pub row_cut : IsRow m r (cut_to relaxed m.n)
    row_cut =
        record {
          at = λ s sn.
              cut_to-at relaxed m.n s sn (omega (arith, p.fall.length_kept, store_to-length (λ s vs. cond (eqb s r) 0 far) 0 row m.n))
              ∙ (ap cut_word (row_settled s sn) ∙ floor-cut s sn);
        }

-- for the code: the start, the passes, the cut, in the first k words of a row
pub row_done :
    (m : Model) (r n k : ℕ) (steps row started relaxed cut : List ℕ) → k ≡ min n 64 → 64 ≤ length row → started ≡ start_to r (take k row) (length (take k row)) →
    Settles steps (length started) started relaxed → cut ≡ cut_to relaxed k → model_fault m ≡ 0 → n ≡ m.n → steps ≡ step_words m → r < m.n → IsRow m r (cut ++ drop k row)
row_done m r n k steps row started relaxed cut e room s p f fit g h rn =
    let same : k ≡ m.n = omega (arith, (model_fault-counts m fit).segments) in
    let size : length (take k row) ≡ m.n = length-take-le k row (omega arith) ∙ same in
    let s' : started ≡ start_to r (take k row) m.n = rw size at s in
    let long : length started ≡ m.n = ap length s' ∙ (store_to-length _ 0 (take k row) m.n ∙ size) in
    let f' : cut ≡ cut_to relaxed m.n = rw same at f in
    let cut_size : length cut ≡ m.n = ap length f' ∙ (store_to-length _ 0 relaxed m.n ∙ (p.fall.length_kept ∙ long)) in
    let is = row_cut m fit r rn (take k row) relaxed (omega arith) (rw (h, long, s') at p) in
    record { at = λ t tn. get_or-append cut (drop k row) 0 t (omega arith) ∙ (ap (λ (us : List ℕ). get_or us t 0) f' ∙ is.at t tn) }
