-- The log after the first of the events: the first 128 of the log with its new pairs.
-- A pair that the places hold changes nothing; a new one goes to the first free place, if there is one.
use Prim.Native.Nat.{ℕ, ◌≤◌, ◌<◌, ◌+◌}
use mathlib.Core.Path.{◌≡◌, refl, ap, sym, subst, ◌∙◌}
use mathlib.Core.Logic.{◌⊎◌, inl, inr}
use mathlib.Core.Bool.{true, false}
use mathlib.Core.List.Memᴰ
use mathlib.Core.List.{List, [], ◌∷◌, ◌++◌}
use native.Mathlib.Omega.{arith}
use lib.Dec.{T, T_not, not_T}
use lib.ListN.{length, get_or, take, drop, set, length-append, length-take, take-append-drop}
use lib.Seq.{take_all, take-append-le}
use Rattle.base.proofs.BoolLaws.{cond-case, T→true, T→false, true→T, false→T}
use Rattle.clock.specs.declared.Cycle.{Cycle}
use Rattle.model.specs.declared.Variables.{Variables}
use Rattle.model.specs.Footprint.{has}
use Rattle.early.specs.declared.Notification.{Notification}
use Rattle.early.specs.declared.Site.{Site}
use Rattle.early.specs.Log.{places, pair_of, log_of, site_of, holds, with_pair, with_pairs, places_with}
use Rattle.early_laws.proofs.LogLaws.{In, holds→In, In→holds, with_pairs-kept, with_pairs-new, with_pairs-only, log_of-site_of}
use Rattle.early_log.specs.Noted.{noted_of}
use Rattle.early_log.proofs.HeldLaws.{with_pairs-none, with_pairs-more}
use Rattle.early_log.proofs.PlaceLaws.{padded, padded-take, padded-more, site_of-padded}

-- the places and their count hold the log l as far as there is room
pub record Holding (l log : List Notification) (count : ℕ) : Type 0 where
  pub held : log ≡ padded (take places l)
  pub counted : count ≡ length (take places l)

with_pair-held : (l : List Notification) (x : Notification) → holds l x ≡ true → with_pair l x ≡ l
unfolding with_pair
with_pair-held l x e = rw e refl

with_pair-new : (l : List Notification) (x : Notification) → holds l x ≡ false → with_pair l x ≡ l ++ (x ∷ [])
unfolding with_pair
with_pair-new l x e = rw e refl

-- a full log keeps its places
with_pair-full : (l : List Notification) (x : Notification) → places ≤ length l → take places (with_pair l x) ≡ take places l
unfolding with_pair
with_pair-full l x h = cond-case (λ (y : List Notification). take places y ≡ take places l) (holds l x) (λ t. refl) (λ t. take-append-le places l (x ∷ []) h)

module _ (l log : List Notification) (count : ℕ) (h : Holding l log count) where
  first : take count log ≡ take places l
  first = rw (h.held, h.counted) (padded-take (take places l))

  module _ (k : ℕ) (x : Notification) (here : k ≡ count) where
    -- "an equal pair held once"
    pub holding-held : true ≡ holds (take k log) x → Holding (with_pair l x) log count
    holding-held e =
        let t : T (holds (take places l) x) = true→T (holds (take places l) x) (rw (here, first) at (sym e)) in
        let i : In x l = subst (λ (y : List Notification). In x y) (take-append-drop places l) (Memᴰ.append_left (drop places l) (holds→In (take places l) x t)) in
        rw (with_pair-held l x (T→true (holds l x) (In→holds i))) h

    -- "New pairs go to its end"
    pub holding-new : false ≡ holds (take k log) x → k < places → Holding (with_pair l x) (set log k x) (count + 1)
    holding-new e room =
        let few : length l < places = omega (arith, h.counted, length-take places l) in
        let whole : take places l ≡ l = take_all places l (omega arith) in
        let new = with_pair-new l x (sym (rw (here, first, whole) at e)) in
        let size : length (l ++ (x ∷ [])) ≡ length l + 1 = length-append l (x ∷ []) in
        let all : take places (l ++ (x ∷ [])) ≡ l ++ (x ∷ []) = take_all places (l ++ (x ∷ [])) (omega arith) in
        let n : k ≡ length l = here ∙ h.counted ∙ ap length whole in
        record {
          held = rw (new, all, h.held, whole, n) (padded-more l x few);
          counted = rw (new, all, size, h.counted, whole) refl;
        }

    -- no room
    pub holding-full : places ≤ k → Holding (with_pair l x) log count
    holding-full none =
        let same = with_pair-full l x (omega (arith, h.counted, length-take places l)) in
        record { held = rw same h.held; counted = rw same h.counted }

-- a log that fits is held whole
holding-start : (l log : List Notification) (count : ℕ) → length l ≤ places → log ≡ padded l → count ≡ length l → Holding l log count
holding-start l log count h e f =
    let whole : take places l ≡ l = take_all places l h in
    record { held = rw whole e; counted = rw whole f }

-- a state whose places hold l, and then nothing
module _ (s : Site) (v : List ℕ) (l : List Notification) (e : s ≡ site_of v l) where
  pub cleared-log : take s.count s.log ≡ l
  unfolding log_of
  cleared-log = ap log_of e ∙ log_of-site_of v l

  pub cleared-variables : s.variables.at ≡ v
  unfolding site_of
  cleared-variables = ap (λ (x : Site). x.variables.at) e

  pub cleared-start : length l ≤ places → Holding (take s.count s.log) s.log s.count
  unfolding site_of padded
  cleared-start h = rw cleared-log (holding-start l s.log s.count h (ap (λ (x : Site). x.log) e) (ap (λ (x : Site). x.count) e))

-- all events done
pub holding-noted : (site : Site) (c : Cycle) (es : List ℕ) (v : Variables) (log : List Notification) (count : ℕ) → v.at ≡ site.variables.at → Holding (with_pairs (log_of site) c es) log count → record { variables = v; log = log; count = count } ≡ noted_of site c es
unfolding noted_of
holding-noted site c es v log count e h = rw (site_of-padded v (take places (with_pairs (log_of site) c es)) log count h.held h.counted, e) refl

-- new pairs that fit are all held
pub noted_of-fits : (site : Site) (c : Cycle) (es : List ℕ) → places_with (log_of site) c es ≤ places → noted_of site c es ≡ site_of site.variables.at (with_pairs (log_of site) c es)
unfolding noted_of
noted_of-fits site c es h = rw (take_all places (with_pairs (log_of site) c es) h) refl

-- no event, and one more: it is listed before or its pair is logged, or it takes a place
pub places_with-none : (l : List Notification) (c : Cycle) (es : List ℕ) → places_with l c (take 0 es) ≡ length l
places_with-none l c es = ap length (with_pairs-none l c es)

module _ (l : List Notification) (c : Cycle) (es : List ℕ) (j : ℕ) (below : j < length es) where
  pub places_with-held : T (has (take j es) (get_or es j 0)) ⊎ T (holds l (pair_of (get_or es j 0) c)) → places_with l c (take j es) ≡ places_with l c (take (j + 1) es)
  places_with-held held =
      rw (with_pairs-more l c es j below, with_pair-held (with_pairs l c (take j es)) (pair_of (get_or es j 0) c) (T→true _ (In→holds (go held)))) refl
    where
      go : T (has (take j es) (get_or es j 0)) ⊎ T (holds l (pair_of (get_or es j 0) c)) → In (pair_of (get_or es j 0) c) (with_pairs l c (take j es))
      go (inl t) = with_pairs-new l c (take j es) (get_or es j 0) t
      go (inr t) = with_pairs-kept l c (take j es) (holds→In l (pair_of (get_or es j 0) c) t)

  pub places_with-new : has (take j es) (get_or es j 0) ≡ false → holds l (pair_of (get_or es j 0) c) ≡ false → places_with l c (take j es) + 1 ≡ places_with l c (take (j + 1) es)
  places_with-new unlisted unlogged =
      rw (with_pairs-more l c es j below, with_pair-new (with_pairs l c (take j es)) x new) (sym (length-append (with_pairs l c (take j es)) (x ∷ [])))
    where
      x : Notification
      x = pair_of (get_or es j 0) c

      only : In x l ⊎ ((x.cycle ≡ c) × T (has (take j es) x.event)) → ⊥
      only (inl i) = T_not (holds l x) (false→T (holds l x) unlogged) (In→holds i)
      only (inr (p, t)) = T_not (has (take j es) (get_or es j 0)) (false→T (has (take j es) (get_or es j 0)) unlisted) t

      new : holds (with_pairs l c (take j es)) x ≡ false
      new =
          T→false (holds (with_pairs l c (take j es)) x)
          (not_T (holds (with_pairs l c (take j es)) x) (λ t. only (with_pairs-only l c (take j es) (holds→In (with_pairs l c (take j es)) x t))))
