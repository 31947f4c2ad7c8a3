-- The loops of forecast and earliest, as the code leaves them.
--     forecast_to-..     the least over the first threads
--     after_rounds-done     once a round changes nothing, no later one does
use Prim.Native.Nat.{ℕ, zero, suc, ◌+◌, ◌*◌, ◌≤◌, ◌<◌}
use mathlib.Core.Path.{◌≡◌, refl, ap, sym, ◌∙◌}
use mathlib.Core.Bool.{cond}
use mathlib.Core.List.{List}
use native.Mathlib.Omega.{arith}
use native.Mathlib.Decide.{dec_lt, ℕ_discrete}
use native.Mathlib.Numerals.{add-one}
use native.Mathlib.Nat.{zero-add}
use lib.Dec.{ltb}
use lib.ListN.{length, get_or, set, length-set}
use lib.Seq.{get_or-set_same, get_or-set_other, ext_get_or}
use borrow.Author.Tests.{lt-ltb, le-ltb}
use Rattle.base.specs.Index.{tabulate}
use Rattle.base.proofs.IndexLaws.{tabulate-at, tabulate-length}
use Rattle.base.proofs.ListLaws.{get_d_any}
use Rattle.tables.specs.Word.{all_ones}
use Rattle.early_limits.specs.declared.Crew.{Crew}
use Rattle.early_limits.specs.Limit.{lesser, lesser_below, sum_of, raised_limit, at_most}
use Rattle.early_limits.specs.Ahead.{forecast_at, relaxed_by, relaxed_at, relaxed_limits, after_rounds, earliest_limits}
use Rattle.early_ahead.proofs.LimitLaws.{at_most-below, at_most-≤}

-- the first j threads of a forecast
unfoldable pub forecast_to : List ℕ → List ℕ → List ℕ → ℕ → ℕ → ℕ
forecast_to reach segments xs e j = lesser_below j (λ j. sum_of (get_or xs j all_ones) (get_or reach (get_or segments j 0 * 32 + e) all_ones))

module _ (reach segments xs : List ℕ) (e : ℕ) where
  pub forecast_to-none : all_ones ≡ forecast_to reach segments xs e 0
  unfolding forecast_to lesser_below
  forecast_to-none = refl

  pub forecast_to-more :
      (j w x y z : ℕ) → w ≡ forecast_to reach segments xs e j → j < length xs → x ≡ get_or reach (get_or segments j 0 * 32 + e) all_ones → y ≡ sum_of (get_or xs j 0) x → z ≡ lesser w y →
      z ≡ forecast_to reach segments xs e (j + 1)
  unfolding forecast_to lesser_below
  forecast_to-more j w x y z a h d f g = let any = get_d_any xs j 0 all_ones h in rw (add-one j) (cc)

  pub forecast_to-all : (t j w : ℕ) → j ≡ at_most 32 t → w ≡ forecast_to reach segments xs e j → w ≡ forecast_at reach segments xs t e
  unfolding forecast_to forecast_at
  forecast_to-all t j w h d = rw h at d

module _ (reach segments xs : List ℕ) (t x e since : ℕ) where
  pub relaxed_by-ready : 32 ≤ e → x ≡ relaxed_by reach segments xs t x e since
  unfolding relaxed_by
  relaxed_by-ready h = rw (le-ltb e 32 h) refl

  pub relaxed_by-waiting : (f r y z : ℕ) → e < 32 → f ≡ forecast_at reach segments xs t e → r ≡ raised_limit since f → y ≡ sum_of r 1 → z ≡ lesser x y → z ≡ relaxed_by reach segments xs t x e since
  unfolding relaxed_by
  relaxed_by-waiting f r y z h a b c d = rw (lt-ltb e 32 h, ← a, ← b, ← c) d

module _ (reach : List ℕ) (crew : Crew) (xs : List ℕ) (t : ℕ) where
  -- thread k, by what the code reads of it
  pub relaxed_at-read : (k w : ℕ) → k < length xs → k < length crew.events → w ≡ relaxed_by reach crew.segments xs t (get_or xs k 0) (get_or crew.events k 0) (get_or crew.since k 0)
      → w ≡ relaxed_at reach crew xs t k
  unfolding relaxed_at
  relaxed_at-read k w h l e = rw (← get_d_any xs k 0 all_ones h, ← get_d_any crew.events k 0 255 l) e

  -- the first k limits of the next round, the others as they were
  pub record RelaxedTo (k : ℕ) (ys : List ℕ) : Type 0 where
    pub size : length ys ≡ 32
    pub done : (i : ℕ) → i < k → get_or ys i 0 ≡ relaxed_at reach crew xs t i
    pub left : (i : ℕ) → k ≤ i → get_or ys i 0 ≡ get_or xs i 0

  pub relaxed_to-none : length xs ≡ 32 → RelaxedTo 0 xs
  relaxed_to-none h = record { size = h; done = λ i l. absurd (omega arith); left = λ i l. refl }

  pub relaxed_to-more : (k w : ℕ) (ys : List ℕ) → RelaxedTo k ys → k < 32 → w ≡ relaxed_at reach crew xs t k → RelaxedTo (k + 1) (set ys k w)
  relaxed_to-more k w ys r h e =
      record {
        size = length-set ys k w ∙ r.size;
        done = λ i l. go i l (ℕ_discrete i k);
        left = λ i l. get_or-set_other ys k i w 0 (λ z. omega arith) ∙ r.left i (omega arith);
      }
    where
      go : (i : ℕ) → i < k + 1 → Dec (i ≡ k) → get_or (set ys k w) i 0 ≡ relaxed_at reach crew xs t i
      go i l (yes z) = rw z (get_or-set_same ys k w 0 (omega (arith, r.size)) ∙ e)
      go i l (no z) = get_or-set_other ys k i w 0 z ∙ r.done i (omega arith)

  pub relaxed_to-all : (k : ℕ) (ys : List ℕ) → RelaxedTo k ys → k ≡ at_most 32 t → length xs ≡ 32 → ys ≡ relaxed_limits reach crew t xs
  unfolding relaxed_limits
  relaxed_to-all k ys r e size =
      ext_get_or 0 ys (tabulate 32 0 f) (r.size ∙ sym (tabulate-length 32 0 f))
      (λ i l. let l' : i < 32 = omega (arith, r.size) in go i l' (dec_lt i t) ∙ sym (tabulate-at 32 0 i f 0 l' ∙ ap f (zero-add i)))
    where
      f : ℕ → ℕ
      f i = cond (ltb i t) (relaxed_at reach crew xs t i) (get_or xs i all_ones)

      go : (i : ℕ) → i < 32 → Dec (i < t) → get_or ys i 0 ≡ f i
      go i l (yes h) = rw (lt-ltb i t h) (r.done i (omega (arith, at_most-below 32 t i l h)))
      go i l (no h) = rw (le-ltb i t (omega arith)) (r.left i (omega (arith, (at_most-≤ 32 t).1)) ∙ get_d_any xs i 0 all_ones (omega arith))

  pub after_rounds-none : xs ≡ after_rounds reach crew t 0 xs
  unfolding after_rounds
  after_rounds-none = refl

  pub after_rounds-more : (n : ℕ) (ys zs : List ℕ) → ys ≡ after_rounds reach crew t n xs → zs ≡ relaxed_limits reach crew t ys → zs ≡ after_rounds reach crew t (n + 1) xs
  unfolding after_rounds
  after_rounds-more n ys zs e f = rw (add-one n, ← e) f

  -- a round that changes nothing is the last that could
  after_rounds-done : (n m : ℕ) (ys : List ℕ) → n ≤ m → ys ≡ after_rounds reach crew t n xs → ys ≡ relaxed_limits reach crew t ys → ys ≡ after_rounds reach crew t m xs
  unfolding after_rounds
  after_rounds-done n zero ys h e f = let z : n ≡ 0 = omega arith in rw z at e
  after_rounds-done n (suc m) ys h e f = go (λ l. after_rounds-done n m ys l e f) (ℕ_discrete n (suc m))
    where
      go : (n ≤ m → ys ≡ after_rounds reach crew t m xs) → Dec (n ≡ suc m) → ys ≡ after_rounds reach crew t (suc m) xs
      go ih (yes z) = rw z at e
      go ih (no z) = let same = ih (omega arith) in f ∙ ap (relaxed_limits reach crew t) same

  pub earliest_limits-done :
      (n : ℕ) (ys zs : List ℕ) → n ≤ t → ys ≡ after_rounds reach crew t n xs → zs ≡ relaxed_limits reach crew t ys → ys ≡ zs → zs ≡ earliest_limits reach crew t xs
  unfolding earliest_limits
  earliest_limits-done n ys zs h e f g = sym g ∙ after_rounds-done n t ys h e (g ∙ f)

  pub earliest_limits-all : (n : ℕ) (ys : List ℕ) → n ≡ t → ys ≡ after_rounds reach crew t n xs → ys ≡ earliest_limits reach crew t xs
  unfolding earliest_limits
  earliest_limits-all n ys h e = rw h at e
