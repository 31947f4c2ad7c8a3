-- One place of a log after the other: the least that is heard, what a drop leaves, what new pairs add.
use Prim.Native.Nat.{ℕ, suc, ◌≤◌, ◌<◌, ◌+◌, ◌-◌, min}
use mathlib.Core.Path.{◌≡◌, refl, ap, sym, subst, ◌∙◌}
use mathlib.Core.Bool.{Bool, true, false, cond, not}
use mathlib.Core.List.{List, [], ◌∷◌, ◌++◌}
use native.Mathlib.Omega.{arith}
use native.Mathlib.Numerals.{add-one}
use lib.ListN.{length, take, drop, get_or, set, replicate, length-take, length-drop, length-append}
use lib.Seq.{take-suc, drop-cons, drop-length, get_or-take}
use borrow.Author.Tests.{eq-eqb, ne_eqb}
use borrow.Rule.Slice.PartMut.{put_mid}
use Rattle.std.proofs.lemmas.List.{append-nil, drop_all}
use Rattle.clock.specs.declared.Cycle.{Cycle}
use Rattle.clock.specs.declared.Bound.{Bound}
use Rattle.clock.specs.declared.Bound.TheVariants.{Never, At}
use Rattle.clock.specs.Cycle.{is_before}
use Rattle.clock.specs.Advance.{least}
use Rattle.clock.proofs.LeastLaws.{least-Never-left}
use Rattle.early.specs.declared.Notification.{Notification}
use Rattle.early.specs.declared.Site.{Site}
use Rattle.early.specs.Log.{places, pair_of, log_of, with_pair, with_pairs, is_heard, least_heard, is_dropped, drop_before}
use Rattle.early_laws.proofs.OnceLaws.{with_pairs-append, drop_before-length}
use Rattle.early_laws.proofs.FitLaws.{place_of}
use Rattle.early_log.specs.Noted.{no_pair}
use Rattle.early_log.proofs.LengthLaws.{take_within}
use Rattle.early_log.proofs.PlaceLaws.{padded, padded-more}

-- the log of a state, place by place
module _ (site : Site) (size : length site.log ≡ places) where
  pub log_of-length : length (log_of site) ≡ min site.count places
  unfolding log_of
  log_of-length = length-take site.count site.log ∙ ap (min site.count) size

  pub log_of-first : (n : ℕ) → n ≡ min site.count places → take n site.log ≡ log_of site
  unfolding log_of
  log_of-first n e = rw e (take_within site.log site.count places size)

  pub log_of-at : (i : ℕ) → i < length (log_of site) → get_or (log_of site) i no_pair ≡ place_of site i
  unfolding log_of
  log_of-at i h = get_or-take site.count site.log i no_pair (omega (arith, length-take site.count site.log))

  -- the places from its count on, written over
  pub cleared-places : (used : ℕ) (ys : List Notification) → used ≡ min site.count places → ys ≡ replicate (length (take (places - used) (drop used site.log))) no_pair → put_mid used (places - used) site.log ys ≡ padded (log_of site)
  unfolding padded
  cleared-places used ys e f =
      let rest : length (take (places - used) (drop used site.log)) ≡ places - used = simp (length-take, length-drop) (omega arith) in
      let past : drop (places - used) (drop used site.log) ≡ [] = drop_all (places - used) (drop used site.log) (simp length-drop (omega arith)) in
      let n : used ≡ length (log_of site) = omega (arith, log_of-length) in
      rw (past, append-nil, f, rest, log_of-first used e) (ap (λ k. log_of site ++ replicate (places - k) no_pair) n)

-- "the least logged notification not before its wait": one notification
module _ (e : ℕ) (since : Cycle) (x : Notification) where
  pub is_heard-same : x.event ≡ e → not (is_before x.cycle since) ≡ is_heard e since x
  unfolding is_heard
  is_heard-same p = rw (eq-eqb x.event e p) refl

  pub is_heard-other : (x.event ≡ e → ⊥) → false ≡ is_heard e since x
  unfolding is_heard
  is_heard-other p = rw (ne_eqb x.event e p) refl

-- the least of all, the last place first
pub least_heard-none : (l : List Notification) (e : ℕ) (since : Cycle) (n : ℕ) → n ≡ length l → Never ≡ least_heard (drop n l) e since
unfolding least_heard
least_heard-none l e since n h = rw (h, drop-length l) refl

least_heard-more : (l : List Notification) (e : ℕ) (since : Cycle) (j : ℕ) (x : Notification) (b : Bound) → j < length l → get_or l j no_pair ≡ x → b ≡ least_heard (drop (suc j) l) e since → least_heard (drop j l) e since ≡ least (cond (is_heard e since x) (At x.cycle) Never) b
unfolding least_heard
least_heard-more l e since j x b h p r = rw (drop-cons l j no_pair h, p, r) refl

module _
    (l : List Notification)
    (e : ℕ)
    (since : Cycle)
    (i : ℕ)
    (b : Bound)
    (x : Notification)
    (above : 0 < i)
    (within : i ≤ length l)
    (here : get_or l (i - 1) no_pair ≡ x)
    (known : b ≡ least_heard (drop i l) e since)
  where
    step : least_heard (drop (i - 1) l) e since ≡ least (cond (is_heard e since x) (At x.cycle) Never) b
    step =
        let next : i ≡ suc (i - 1) = omega arith in
        least_heard-more l e since (i - 1) x b (omega arith) here (subst (λ (n : ℕ). b ≡ least_heard (drop n l) e since) next known)

    pub least_heard-heard : (a : Bound) → is_heard e since x ≡ true → a ≡ least (At x.cycle) b → a ≡ least_heard (drop (i - 1) l) e since
    least_heard-heard a p r = rw (step, p) r

    pub least_heard-passed : is_heard e since x ≡ false → b ≡ least_heard (drop (i - 1) l) e since
    least_heard-passed p = rw (step, p) (sym (least-Never-left b))

-- a floor at a cycle
pub is_dropped-At : {g : Bound} {f : Cycle} (x : Notification) → g ≡ At f → is_before x.cycle f ≡ is_dropped g x
unfolding is_dropped
is_dropped-At x e = rw e refl

-- "dropped ones close up in order": one place more
drop_before-end : (f : Bound) (l : List Notification) (x : Notification) → drop_before f (l ++ (x ∷ [])) ≡ cond (is_dropped f x) (drop_before f l) (drop_before f l ++ (x ∷ []))
unfolding drop_before
drop_before-end f [] x = refl
drop_before-end f (y ∷ l) x = rw (drop_before-end f l x) (choice (is_dropped f y) (is_dropped f x))
  where
    rest : List Notification
    rest = drop_before f l

    choice :
        (a b : Bool) →
        cond a (cond b rest (rest ++ (x ∷ []))) (y ∷ cond b rest (rest ++ (x ∷ []))) ≡ cond b (cond a rest (y ∷ rest)) (cond a rest (y ∷ rest) ++ (x ∷ []))
    choice true true = refl
    choice true false = refl
    choice false true = refl
    choice false false = refl

pub drop_before-start : (f : Bound) (l : List Notification) → drop_before f (take 0 l) ≡ []
unfolding drop_before
drop_before-start f l = refl

module _ (f : Bound) (l : List Notification) (d : Notification) where
  drop_before-stays : (i : ℕ) → i < length l → is_dropped f (get_or l i d) ≡ false → drop_before f (take (i + 1) l) ≡ drop_before f (take i l) ++ (get_or l i d ∷ [])
  drop_before-stays i h e = rw (add-one, take-suc l i d h, drop_before-end f (take i l) (get_or l i d), e) refl

  drop_before-goes : (i : ℕ) → i < length l → is_dropped f (get_or l i d) ≡ true → drop_before f (take (i + 1) l) ≡ drop_before f (take i l)
  drop_before-goes i h e = rw (add-one, take-suc l i d h, drop_before-end f (take i l) (get_or l i d), e) refl

-- what stays of the first places, and the places that hold it
module _ (f : Bound) (l log : List Notification) (d : Notification) (i count : ℕ) (below : i < length l) (size : length l ≤ places) (counted : count ≡ length (drop_before f (take i l))) (held : log ≡ padded (drop_before f (take i l))) where
  pub dropped-stays : (k : ℕ) → k ≡ count → is_dropped f (get_or l i d) ≡ false → (count + 1 ≡ length (drop_before f (take (i + 1) l))) × (set log k (get_or l i d) ≡ padded (drop_before f (take (i + 1) l)))
  dropped-stays k p e =
      let short = drop_before-length f (take i l) in
      let q = drop_before-stays f l d i below e in (
        rw (q, counted) (sym (length-append (drop_before f (take i l)) (get_or l i d ∷ []))),
        rw (q, p, counted, held) (padded-more (drop_before f (take i l)) (get_or l i d) (omega (arith, length-take i l))),
      )

  pub dropped-goes : is_dropped f (get_or l i d) ≡ true → (count ≡ length (drop_before f (take (i + 1) l))) × (log ≡ padded (drop_before f (take (i + 1) l)))
  dropped-goes e = rw (drop_before-goes f l d i below e) (counted, held)

-- one event more
module _ (l : List Notification) (c : Cycle) (es : List ℕ) where
  pub with_pairs-none : with_pairs l c (take 0 es) ≡ l
  unfolding with_pairs
  with_pairs-none = refl

  pub with_pairs-more : (j : ℕ) → j < length es → with_pairs l c (take (j + 1) es) ≡ with_pair (with_pairs l c (take j es)) (pair_of (get_or es j 0) c)
  unfolding with_pairs
  with_pairs-more j h = rw (add-one, take-suc es j 0 h) (with_pairs-append l c (take j es) (get_or es j 0 ∷ []))
