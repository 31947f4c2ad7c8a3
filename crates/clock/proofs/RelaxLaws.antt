-- Rounds of relaxation come to rest: bounds over n places, each round lowering them along links that make a bound strictly later, are at rest after n rounds.
-- A place that gets a lower bound in a round got it from one that was lowered in the round before, to a bound strictly sooner. After n rounds such
-- a trail would have n + 1 places, so one place twice; but a bound that was lowered again is not later.
use Rattle.std.proofs.Common.{◌≡◌, ℕ, zero, suc, ◌<◌, ◌≤◌, cond, not, T, eqb, ◌⊎◌, sym, refl, ap, ◌∙◌, subst, inl, inr, arith, eq-eqb, ne_eqb}
use native.Mathlib.Decide.{ℕ_discrete}
use Rattle.base.proofs.BoolLaws.{T-case}
use Rattle.base.proofs.PigeonLaws.{Twice, pigeon}
use Rattle.clock.specs.declared.Bound.{Bound}
use Rattle.clock.specs.declared.Bound.TheVariants.{Never}
use Rattle.clock.specs.Advance.{is_bound_before, least, least_below}
use Rattle.clock.specs.Order.{◌≼◌}
use Rattle.clock.proofs.OrderLaws.{≼_refl, ≼_trans, ≼-antisym, ≼-total}
use Rattle.clock.proofs.LeastLaws.{is_bound_before→, not-is_bound_before→≼, least-left, least-right, least-one, least_below-≼, least_below-one}

-- a is strictly sooner than b
abbrev pub Sooner : Bound → Bound → Type 0
Sooner a b = b ≼ a → ⊥

pub sooner→≼ : (a b : Bound) → Sooner a b → a ≼ b
sooner→≼ a b h = go (≼-total a b)
  where
    go : (a ≼ b) ⊎ (b ≼ a) → a ≼ b
    go (inl k) = k
    go (inr k) = absurd (h k)

pub sooner-trans : (a b c : Bound) → Sooner a b → Sooner b c → Sooner a c
sooner-trans a b c h k l = k (≼_trans c a b l (sooner→≼ a b h))

-- nothing is sooner than never is later: what is sooner than another is a cycle
pub sooner-finite : (a b : Bound) → Sooner a b → a ≡ Never → ⊥
sooner-finite a b h e = h (subst (λ (x : Bound). b ≼ x) (sym e) tt)

-- places up to n as f says, and k at the next
extended : (ℕ → ℕ) → ℕ → ℕ → ℕ → ℕ
extended f n k i = cond (eqb i (suc n)) k (f i)

extended-next : (f : ℕ → ℕ) (n k i : ℕ) → i ≡ suc n → extended f n k i ≡ k
unfolding extended
extended-next f n k i e = rw (eq-eqb i (suc n) e) refl

extended-other : (f : ℕ → ℕ) (n k i : ℕ) → (i ≡ suc n → ⊥) → extended f n k i ≡ f i
unfolding extended
extended-other f n k i e = rw (ne_eqb i (suc n) e) refl

-- n places; the bound of a place at the start; what a link makes of a bound; the bounds after each round
module _ (n : ℕ) (source : ℕ → Bound) (link : ℕ → ℕ → Bound → Bound) (x : ℕ → ℕ → Bound)
    (start : (k : ℕ) → k < n → x 0 k ≡ source k)
    (round : (i k : ℕ) → k < n → x (suc i) k ≡ least (x i k) (least_below n (λ j. link j k (x i j))))
    (link-later : (j k : ℕ) (b : Bound) → (link j k b ≡ Never → ⊥) → Sooner b (link j k b))
  where
    round-falls : (i k : ℕ) → k < n → x (suc i) k ≼ x i k
    round-falls i k h = rw (round i k h) (least-left (x i k) (least_below n (λ j. link j k (x i j))))

    round-link : (i j k : ℕ) → j < n → k < n → x (suc i) k ≼ link j k (x i j)
    round-link i j k h l =
        rw
        (round i k l)
        (≼_trans
        (least (x i k) (least_below n (λ j. link j k (x i j))))
        (least_below n (λ j. link j k (x i j)))
        (link j k (x i j))
        (least-right (x i k) (least_below n (λ j. link j k (x i j))))
        (least_below-≼ n (λ j. link j k (x i j)) j h))

    rounds-fall : (i j k : ℕ) → i ≤ j → k < n → x j k ≼ x i k
    rounds-fall i zero k h l = let e : i ≡ 0 = omega arith in rw e (≼_refl (x 0 k))
    rounds-fall i (suc j) k h l = go (ℕ_discrete i (suc j)) (λ p. rounds-fall i j k p l)
      where
        go : Dec (i ≡ suc j) → (i ≤ j → x j k ≼ x i k) → x (suc j) k ≼ x i k
        go (yes e) ih = rw e (≼_refl (x (suc j) k))
        go (no e) ih = ≼_trans (x (suc j) k) (x j k) (x i k) (round-falls j k l) (ih (omega arith))

    -- a bound is what it was a round before, or comes over a link from one that was
    round-one : (i k : ℕ) → k < n → (x (suc i) k ≡ Never → ⊥) → (x (suc i) k ≡ x i k) ⊎ ((j : ℕ) × (j < n) × (x (suc i) k ≡ link j k (x i j)))
    round-one i k h finite = go (least-one (x i k) over) (least_below-one n (λ j. link j k (x i j)))
      where
        over : Bound
        over = least_below n (λ j. link j k (x i j))

        go :
            (least (x i k) over ≡ x i k) ⊎ (least (x i k) over ≡ over) →
            (over ≡ Never) ⊎ ((j : ℕ) × (j < n) × (over ≡ link j k (x i j))) →
            (x (suc i) k ≡ x i k) ⊎ ((j : ℕ) × (j < n) × (x (suc i) k ≡ link j k (x i j)))
        go (inl e) r = inl (round i k h ∙ e)
        go (inr e) (inl f) = absurd (finite (round i k h ∙ e ∙ f))
        go (inr e) (inr (j, p, f)) = inr (j, p, round i k h ∙ e ∙ f)

    -- place k gets its bound in round i
    abbrev New : ℕ → ℕ → Type 0
    New zero k = x 0 k ≡ Never → ⊥
    New (suc i) k = Sooner (x (suc i) k) (x i k)

    new-before : (i k : ℕ) → k < n → New (suc i) k → (j : ℕ) × (j < n) × New i j × Sooner (x i j) (x (suc i) k)
    new-before i k h new = go (round-one i k h finite)
      where
        finite : x (suc i) k ≡ Never → ⊥
        finite e = sooner-finite (x (suc i) k) (x i k) new e

        sooner : (j : ℕ) → x (suc i) k ≡ link j k (x i j) → Sooner (x i j) (x (suc i) k)
        sooner j e = rw e (link-later j k (x i j) (λ f. finite (e ∙ f)))

        fresh : (i : ℕ) → Sooner (x (suc i) k) (x i k) → (j : ℕ) → j < n → x (suc i) k ≡ link j k (x i j) → Sooner (x i j) (x (suc i) k) → New i j
        fresh zero new j p e s = sooner-finite (x 0 j) (x 1 k) s
        fresh (suc i) new j p e s = λ old.
            new
            (subst
            (λ (b : Bound). x (suc i) k ≼ b)
            (sym (e ∙ ap (link j k) (≼-antisym (x (suc i) j) (x i j) (round-falls i j p) old)))
            (round-link i j k p h))

        go : (x (suc i) k ≡ x i k) ⊎ ((j : ℕ) × (j < n) × (x (suc i) k ≡ link j k (x i j))) → (j : ℕ) × (j < n) × New i j × Sooner (x i j) (x (suc i) k)
        go (inl e) = absurd (new (rw e (≼_refl (x i k))))
        go (inr (j, p, e)) = (j, p, fresh i new j p e (sooner j e), sooner j e)

    -- a trail: places that were lowered in the rounds up to i, to bounds that are strictly later each time
    record Trail (i k : ℕ) : Type 0 where
      place : ℕ → ℕ
      ends : place i ≡ k
      below : (j : ℕ) → j ≤ i → place j < n
      rises : (j : ℕ) → j < i → Sooner (x j (place j)) (x (suc j) (place (suc j)))

    trail_more : (i j k : ℕ) → k < n → Sooner (x i j) (x (suc i) k) → Trail i j → Trail (suc i) k
    trail_more i j k h s t = record { place = f; ends = last; below = low; rises = up }
      where
        f : ℕ → ℕ
        f = extended t.place i k

        last : f (suc i) ≡ k
        last = extended-next t.place i k (suc i) refl

        kept : (a : ℕ) → a ≤ i → f a ≡ t.place a
        kept a p = extended-other t.place i k a (λ e. omega arith)

        low : (a : ℕ) → a ≤ suc i → f a < n
        low a p = go (ℕ_discrete a (suc i))
          where
            go : Dec (a ≡ suc i) → f a < n
            go (yes e) = rw (extended-next t.place i k a e) h
            go (no e) = rw (kept a (omega arith)) (t.below a (omega arith))

        up : (a : ℕ) → a < suc i → Sooner (x a (f a)) (x (suc a) (f (suc a)))
        up a p = go (ℕ_discrete a i)
          where
            go : Dec (a ≡ i) → Sooner (x a (f a)) (x (suc a) (f (suc a)))
            go (yes e) =
                subst
                (λ (z : ℕ). Sooner (x z (f z)) (x (suc z) (f (suc z))))
                (sym e)
                (rw (last, kept i (omega arith), t.ends) s)
            go (no e) = rw (kept a (omega arith), kept (suc a) (omega arith)) (t.rises a (omega arith))

    trail-to : (i k : ℕ) → k < n → New i k → Trail i k
    trail-to zero k h new = record { place = λ j. k; ends = refl; below = λ j p. h; rises = λ j p. absurd (omega arith) }
    trail-to (suc i) k h new =
        let (j, p, old, s) = new-before i k h new in
        trail_more i j k h s (trail-to i j p old)

    trail-rises : (i k : ℕ) (t : Trail i k) (a b : ℕ) → a < b → b ≤ i → Sooner (x a (t.place a)) (x b (t.place b))
    trail-rises i k t a zero p q = absurd (omega arith)
    trail-rises i k t a (suc b) p q = go (ℕ_discrete a b) (λ r. trail-rises i k t a b r (omega arith))
      where
        last : Sooner (x b (t.place b)) (x (suc b) (t.place (suc b)))
        last = t.rises b (omega arith)

        go : Dec (a ≡ b) → (a < b → Sooner (x a (t.place a)) (x b (t.place b))) → Sooner (x a (t.place a)) (x (suc b) (t.place (suc b)))
        go (yes e) ih = subst (λ (z : ℕ). Sooner (x z (t.place z)) (x (suc b) (t.place (suc b)))) (sym e) last
        go (no e) ih =
            sooner-trans (x a (t.place a)) (x b (t.place b)) (x (suc b) (t.place (suc b))) (ih (omega arith)) last

    -- no place gets its bound in round n
    none-new : (k : ℕ) → k < n → New n k → ⊥
    none-new k h new = twice (pigeon n t.place (λ i p. t.below i (omega arith)))
      where
        t : Trail n k
        t = trail-to n k h new

        twice : Twice (suc n) t.place → ⊥
        twice (i, j, p, q, e) =
            trail-rises
            n
            k
            t
            i
            j
            p
            (omega arith)
            (subst
            (λ (a : ℕ). x j (t.place j) ≼ x i a)
            (sym e)
            (rounds-fall i j (t.place j) (omega arith) (t.below j (omega arith))))

    at_rest : (k : ℕ) → k < n → (i : ℕ) → n ≡ suc i → x n k ≡ x i k
    at_rest k h i e = rw e (≼-antisym (x (suc i) k) (x i k) (round-falls i k h) (go (T-case (is_bound_before (x (suc i) k) (x i k)))))
      where
        go : T (is_bound_before (x (suc i) k) (x i k)) ⊎ T (not (is_bound_before (x (suc i) k) (x i k))) → x i k ≼ x (suc i) k
        go (inl t) =
            absurd (none-new k h (subst (λ (a : ℕ). New a k) (sym e) (is_bound_before→ (x (suc i) k) (x i k) t)))
        go (inr t) = not-is_bound_before→≼ (x (suc i) k) (x i k) t

    -- after n rounds: not after the start, not after what a link makes of another's bound
    pub relaxed-source : (k : ℕ) → k < n → x n k ≼ source k
    relaxed-source k h = subst (λ (b : Bound). x n k ≼ b) (start k h) (rounds-fall 0 n k (omega arith) h)

    pub relaxed-link : (j k : ℕ) → j < n → k < n → x n k ≼ link j k (x n j)
    relaxed-link j k h l = go n refl
      where
        go : (i : ℕ) → n ≡ i → x n k ≼ link j k (x n j)
        go zero e = absurd (omega arith)
        go (suc i) e =
            rw (at_rest j h i e) (subst (λ (a : ℕ). x a k ≼ link j k (x i j)) (sym e) (round-link i j k h l))

    -- and what holds at the start and is kept by links holds of each finite bound
    pub relaxed-attained : (P : ℕ → Bound → Type 0) → ((k : ℕ) → k < n → P k (source k)) → ((j k : ℕ) (b : Bound) → k < n → P j b → P k (link j k b))
        → (i k : ℕ) → k < n → (x i k ≡ Never → ⊥) → P k (x i k)
    relaxed-attained P first next zero k h finite = rw (start k h) (first k h)
    relaxed-attained P first next (suc i) k h finite =
        go (λ j p f. relaxed-attained P first next i j p f) (round-one i k h finite)
      where
        go :
            ((j : ℕ) → j < n → (x i j ≡ Never → ⊥) → P j (x i j)) →
            (x (suc i) k ≡ x i k) ⊎ ((j : ℕ) × (j < n) × (x (suc i) k ≡ link j k (x i j))) →
            P k (x (suc i) k)
        go ih (inl e) = rw e (ih k h (λ f. finite (e ∙ f)))
        go ih (inr (j, p, e)) =
            rw
            e
            (next
            j
            k
            (x i j)
            h
            (ih
            j
            p
            (sooner-finite (x i j) (link j k (x i j)) (link-later j k (x i j) (λ f. finite (e ∙ f))))))
