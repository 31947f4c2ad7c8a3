-- What a segment names after mapping, below 64: what it names directly, or through a port.
--     writes-split, uses-split
--     unnamed-kept     where no port is named, mapping changes nothing that is run
--     segment_with-runs, segment_with-listed     so that a thread that uses no port can run its segment as it is
use Prim.Native.Nat.{ℕ, ◌+◌, ◌-◌, ◌<◌}
use mathlib.Core.Path.{◌≡◌, refl, ap, ap₂, sym, ◌∙◌, subst}
use mathlib.Core.Logic.{◌⊎◌, inl, inr}
use mathlib.Core.Bool.{Bool, true, false, cond, not, ◌&&◌, ◌||◌}
use mathlib.Core.List.{List, [], ◌∷◌}
use native.Mathlib.Omega.{arith}
use native.Mathlib.Decide.{dec_lt}
use lib.Dec.{T, eqb, eqb→eq, T_not, not_T}
use lib.ListN.{get_or}
use Rattle.base.specs.Index.{any_below}
use Rattle.base.proofs.BoolLaws.{T-same, T→false, false→T, not-not, and→both, both→and, or→either, either→or, eq→eqb}
use Rattle.base.proofs.IndexLaws.{any_below-some, any_below-found, any_below-none}
use Rattle.model.specs.declared.Op.{Op}
use Rattle.model.specs.declared.Op.TheVariants.{Set, Add, Copy, AddVariable, SubVariable, Notify}
use Rattle.model.specs.declared.Statement.{Statement}
use Rattle.model.specs.declared.Next.{Next}
use Rattle.model.specs.declared.Closer.{Closer}
use Rattle.model.specs.declared.Closer.TheVariants.{End, Time, Event}
use Rattle.model.specs.declared.Segment.{Segment}
use Rattle.model.specs.declared.Model.{Model}
use Rattle.model.specs.Port.{unused, port_of, uses_ports, mapped, map_op, map_statements, map_next, map_closer, map_segment}
use Rattle.model.specs.Values.{no_statement, segment_at, ports_at, segment_for, body_of}
use Rattle.model.specs.Statement.{notified_by}
use Rattle.model.specs.Effect.{no_test}
use Rattle.model.specs.Footprint.{writes_op, reads_op, writes, reads, tests_next, tests, writes_of, uses_of, names_port}
use Rattle.model.specs.Reach.{lacks_port}
use Rattle.model_effect.proofs.FootprintLaws.{Asks, asks_at, asks-found, writes-asks, reads-asks}
use Rattle.model_effect.proofs.FrameLaws.{writes_of→uses_of, reads_of→uses_of, tests_of→uses_of}
use Rattle.model_effect.proofs.PortLaws.{mapped-port, mapped-below, mapped-above, map_statements-length, map_statements-at, body-mapped, listed-mapped, writes-mapped, uses-mapped}
use Rattle.early_ports.specs.Cross.{segment_with}

-- what is named before mapping is named after it, by its variable

module _ (ps : List ℕ) where
  same_name : (x a : ℕ) → T (eqb x a) → T (eqb (mapped ps x) (mapped ps a))
  same_name x a t = eq→eqb (mapped ps x) (mapped ps a) (ap (mapped ps) (eqb→eq x a t))

  two-names : (x y a : ℕ) → T (eqb x a || eqb y a) → T (eqb (mapped ps x) (mapped ps a) || eqb (mapped ps y) (mapped ps a))
  two-names x y a t = either→or (eqb (mapped ps x) (mapped ps a)) (eqb (mapped ps y) (mapped ps a)) (go (or→either (eqb x a) (eqb y a) t))
    where
      go : T (eqb x a) ⊎ T (eqb y a) → T (eqb (mapped ps x) (mapped ps a)) ⊎ T (eqb (mapped ps y) (mapped ps a))
      go (inl u) = inl (same_name x a u)
      go (inr u) = inr (same_name y a u)

  op-writes : (o : Op) (a : ℕ) → T (writes_op o a) → T (writes_op (map_op ps o) (mapped ps a))
  op-writes (Set x y) a t = same_name x a t
  op-writes (Add x y) a t = same_name x a t
  op-writes (Copy x y) a t = same_name x a t
  op-writes (AddVariable x y) a t = same_name x a t
  op-writes (SubVariable x y) a t = same_name x a t
  op-writes (Notify w) a t = absurd t

  op-reads : (o : Op) (a : ℕ) → T (reads_op o a) → T (reads_op (map_op ps o) (mapped ps a))
  op-reads (Set x y) a t = absurd t
  op-reads (Add x y) a t = same_name x a t
  op-reads (Copy x y) a t = same_name y a t
  op-reads (AddVariable x y) a t = two-names x y a t
  op-reads (SubVariable x y) a t = two-names x y a t
  op-reads (Notify w) a t = absurd t

  module _ {f : ℕ → List Statement → Bool} {g : ℕ → Op → Bool} (asks : (i : ℕ) → Asks (f i) (g i))
      (op : (o : Op) (a : ℕ) → T (g a o) → T (g (mapped ps a) (map_op ps o))) where
    body_kept : (xs : List Statement) (a : ℕ) → T (f a xs) → T (f (mapped ps a) (map_statements ps xs))
    body_kept xs a t =
        let (j, h, u) = asks_at (asks a) xs t in
        let there : T (g (mapped ps a) (get_or (map_statements ps xs) j no_statement).op) =
        subst (λ (x : Statement). T (g (mapped ps a) x.op)) (sym (map_statements-at ps xs j h)) (op (get_or xs j no_statement).op a u) in
        asks-found (asks (mapped ps a)) (map_statements ps xs) j (omega (arith, map_statements-length ps xs)) there

  module _ (g : Segment) (a : ℕ) where
    writes_kept : T (writes_of g a) → T (writes_of (map_segment ps g) (mapped ps a))
    unfolding writes_of
    writes_kept t = subst (λ (xs : List Statement). T (writes xs (mapped ps a))) (sym (body-mapped ps g)) (body_kept writes-asks op-writes (body_of g) a t)

    reads_kept : T (reads (body_of g) a) → T (reads (body_of (map_segment ps g)) (mapped ps a))
    reads_kept t = subst (λ (xs : List Statement). T (reads xs (mapped ps a))) (sym (body-mapped ps g)) (body_kept reads-asks op-reads (body_of g) a t)

    module _ (there : mapped ps a ≡ no_test → ⊥) where
      next-kept : (x : Next) → T (tests_next x a) → T (tests_next (map_next ps x) (mapped ps a))
      unfolding tests_next
      next-kept x t =
          let (n, e) = and→both (not (eqb x.test no_test)) (eqb x.test a) t in
          let same = ap (mapped ps) (eqb→eq x.test a e) in
          both→and (not (eqb (mapped ps x.test) no_test)) (eqb (mapped ps x.test) (mapped ps a))
          (not_T (eqb (mapped ps x.test) no_test) (λ u. there (sym same ∙ eqb→eq (mapped ps x.test) no_test u)))
          (eq→eqb (mapped ps x.test) (mapped ps a) same)

      closer-kept : (z : Closer) → T (tests z a) → T (tests (map_closer ps z) (mapped ps a))
      unfolding tests
      closer-kept End t = absurd t
      closer-kept (Time k x) t = next-kept x t
      closer-kept (Event e x) t = next-kept x t

      uses-kept : T (uses_of g a) → T (uses_of (map_segment ps g) (mapped ps a))
      unfolding uses_of map_segment
      uses-kept t = go (or→either (writes_of g a || reads (body_of g) a) (tests g.closer a) t)
        where
          body : T (writes_of g a) ⊎ T (reads (body_of g) a) → T (uses_of (map_segment ps g) (mapped ps a))
          body (inl u) = writes_of→uses_of (map_segment ps g) (mapped ps a) (writes_kept u)
          body (inr u) = reads_of→uses_of (map_segment ps g) (mapped ps a) (reads_kept u)

          go : T (writes_of g a || reads (body_of g) a) ⊎ T (tests g.closer a) → T (uses_of (map_segment ps g) (mapped ps a))
          go (inl u) = body (or→either (writes_of g a) (reads (body_of g) a) u)
          go (inr u) = tests_of→uses_of (map_segment ps g) (mapped ps a) (closer-kept g.closer u)

-- A question before mapping and the same after it, at a number below 64: of that number, or of a port that is it.
module _ (ps : List ℕ) (f g : ℕ → Bool) (v : ℕ) (small : v < 64)
    (named : T (g v) → (a : ℕ) × T (f a) × (mapped ps a ≡ v)) (kept : (a : ℕ) → mapped ps a ≡ v → T (f a) → T (g (mapped ps a))) where
  by_port : ℕ → Bool
  by_port p = f (128 + p) && eqb (port_of ps p) v

  split : g v ≡ (f v || any_below 8 (λ p. f (128 + p) && eqb (port_of ps p) v))
  unfolding by_port
  split = T-same (g v) (f v || any_below 8 by_port) into (λ t. back (or→either (f v) (any_below 8 by_port) t))
    where
      here : (a : ℕ) → mapped ps a ≡ v → T (f a) → Dec (a < 128) → Dec (a < 136) → T (f v) ⊎ T (any_below 8 by_port)
      here a e t (yes l) _ = inl (subst (λ (x : ℕ). T (f x)) (sym (mapped-below ps a l) ∙ e) t)
      here a e t (no l) (no h) = absurd (omega (arith, mapped-above ps a (omega arith)))
      here a e t (no l) (yes h) =
          let p : ℕ = a - 128 in
          let same : 128 + p ≡ a = omega arith in
          inr
          (any_below-found 8 by_port p (omega arith)
          (both→and (f (128 + p)) (eqb (port_of ps p) v) (subst (λ (x : ℕ). T (f x)) (sym same) t)
          (eq→eqb (port_of ps p) v (sym (mapped-port ps a (omega arith) h) ∙ e))))

      into : T (g v) → T (f v || any_below 8 by_port)
      into t = let (a, u, e) = named t in either→or (f v) (any_below 8 by_port) (here a e u (dec_lt a 128) (dec_lt a 136))

      back : T (f v) ⊎ T (any_below 8 by_port) → T (g v)
      back (inl t) = let e = mapped-below ps v (omega arith) in subst (λ (x : ℕ). T (g x)) e (kept v e t)
      back (inr t) =
          let (p, l, u) = any_below-some 8 by_port t in
          let (w, e) = and→both (f (128 + p)) (eqb (port_of ps p) v) u in
          let q : 128 + p - 128 ≡ p = omega arith in
          let same : mapped ps (128 + p) ≡ v = mapped-port ps (128 + p) (omega arith) (omega arith) ∙ (ap (port_of ps) q ∙ eqb→eq (port_of ps p) v e) in
          subst (λ (x : ℕ). T (g x)) same (kept (128 + p) same w)

module _ (ps : List ℕ) (g : Segment) (v : ℕ) (small : v < 64) where
  pub writes-split : writes_of (map_segment ps g) v ≡ (writes_of g v || any_below 8 (λ p. writes_of g (128 + p) && eqb (port_of ps p) v))
  writes-split = split ps (writes_of g) (writes_of (map_segment ps g)) v small (writes-mapped ps g v) (λ a e t. writes_kept ps g a t)

  pub uses-split : uses_of (map_segment ps g) v ≡ (uses_of g v || any_below 8 (λ p. uses_of g (128 + p) && eqb (port_of ps p) v))
  uses-split = split ps (uses_of g) (uses_of (map_segment ps g)) v small (uses-mapped ps g v) (λ a e t. uses-kept ps g a (λ z. omega (arith, e, z)) t)

-- where no port is named, mapping changes nothing that is run

module _ (ps : List ℕ) where
  Free : (ℕ → Bool) → Type 0
  Free f = (p : ℕ) → p < 8 → T (f (128 + p)) → ⊥

  name_free : (a : ℕ) → Free (λ x. eqb a x) → mapped ps a ≡ a
  unfolding Free
  name_free a none = go (dec_lt a 128) (dec_lt a 136)
    where
      go : Dec (a < 128) → Dec (a < 136) → mapped ps a ≡ a
      go (yes l) _ = mapped-below ps a l
      go (no l) (no h) = mapped-above ps a (omega arith)
      go (no l) (yes h) =
          let p : ℕ = a - 128 in
          let same : a ≡ 128 + p = omega arith in
          absurd (none p (omega arith) (eq→eqb a (128 + p) same))

  op-free : (o : Op) → Free (λ x. writes_op o x || reads_op o x) → map_op ps o ≡ o
  unfolding Free
  op-free (Set a b) none = ap (λ (x : ℕ). Set x b) (name_free a (λ p h t. none p h (either→or (eqb a (128 + p)) _ (inl t))))
  op-free (Add a b) none = ap (λ (x : ℕ). Add x b) (name_free a (λ p h t. none p h (either→or (eqb a (128 + p)) (eqb a (128 + p)) (inl t))))
  op-free (Copy a b) none =
      ap₂ Copy (name_free a (λ p h t. none p h (either→or (eqb a (128 + p)) (eqb b (128 + p)) (inl t))))
      (name_free b (λ p h t. none p h (either→or (eqb a (128 + p)) (eqb b (128 + p)) (inr t))))
  op-free (AddVariable a b) none =
      ap₂ AddVariable (name_free a (λ p h t. none p h (either→or (eqb a (128 + p)) (eqb a (128 + p) || eqb b (128 + p)) (inl t))))
      (name_free b (λ p h t. none p h (either→or (eqb a (128 + p)) (eqb a (128 + p) || eqb b (128 + p)) (inr (either→or (eqb a (128 + p)) (eqb b (128 + p)) (inr t))))))
  op-free (SubVariable a b) none =
      ap₂ SubVariable (name_free a (λ p h t. none p h (either→or (eqb a (128 + p)) (eqb a (128 + p) || eqb b (128 + p)) (inl t))))
      (name_free b (λ p h t. none p h (either→or (eqb a (128 + p)) (eqb a (128 + p) || eqb b (128 + p)) (inr (either→or (eqb a (128 + p)) (eqb b (128 + p)) (inr t))))))
  op-free (Notify w) none = refl

  statements-free : (xs : List Statement) → Free (writes xs) → Free (reads xs) → map_statements ps xs ≡ xs
  unfolding Free map_statements writes reads
  statements-free [] w r = refl
  statements-free (x ∷ xs) w r =
      ap₂ ◌∷◌ (ap (λ (o : Op). record { op = o }) (op-free x.op (λ p h t. go p h (or→either (writes_op x.op (128 + p)) (reads_op x.op (128 + p)) t))))
      (statements-free xs (λ p h t. w p h (either→or (writes_op x.op (128 + p)) (writes xs (128 + p)) (inr t))) (λ p h t. r p h (either→or (reads_op x.op (128 + p)) (reads xs (128 + p)) (inr t))))
    where
      go : (p : ℕ) → p < 8 → T (writes_op x.op (128 + p)) ⊎ T (reads_op x.op (128 + p)) → ⊥
      go p h (inl t) = w p h (either→or (writes_op x.op (128 + p)) (writes xs (128 + p)) (inl t))
      go p h (inr t) = r p h (either→or (reads_op x.op (128 + p)) (reads xs (128 + p)) (inl t))

  next-free : (x : Next) → Free (tests_next x) → map_next ps x ≡ x
  unfolding Free tests_next
  next-free x none = ap (λ (t : ℕ). record { a = x.a; b = x.b; test = t; limit = x.limit }) (name_free x.test named)
    where
      named : (p : ℕ) → p < 8 → T (eqb x.test (128 + p)) → ⊥
      named p h t =
          none p h
          (both→and (not (eqb x.test no_test)) (eqb x.test (128 + p))
          (not_T (eqb x.test no_test) (λ u. omega (arith, eqb→eq x.test no_test u, eqb→eq x.test (128 + p) t))) t)

  closer-free : (z : Closer) → Free (tests z) → map_closer ps z ≡ z
  unfolding Free tests
  closer-free End none = refl
  closer-free (Time k x) none = ap (Time k) (next-free x none)
  closer-free (Event e x) none = ap (Event e) (next-free x none)

  pub unnamed-kept : (g : Segment) → ((p : ℕ) → p < 8 → uses_of g (128 + p) ≡ false) → (body_of (map_segment ps g) ≡ body_of g) × ((map_segment ps g).closer ≡ g.closer)
  unfolding Free map_segment writes_of
  unnamed-kept g none =
      let un : (p : ℕ) → p < 8 → T (uses_of g (128 + p)) → ⊥ = λ p h t. T_not (uses_of g (128 + p)) (false→T (uses_of g (128 + p)) (none p h)) t in (
        body-mapped ps g ∙ statements-free (body_of g) (λ p h t. un p h (writes_of→uses_of g (128 + p) t)) (λ p h t. un p h (reads_of→uses_of g (128 + p) t)),
        closer-free g.closer (λ p h t. un p h (tests_of→uses_of g (128 + p) t)),
      )

-- with no port used and none lacked, none is named
unnamed-all : (m : Model) (k s : ℕ) → uses_ports (ports_at m k) ≡ false → lacks_port m k s ≡ false → (p : ℕ) → p < 8 → uses_of (segment_at m s) (128 + p) ≡ false
unfolding uses_ports lacks_port names_port
unnamed-all m k s unused-all none p h =
    T→false (uses_of (segment_at m s) (128 + p))
    (not_T (uses_of (segment_at m s) (128 + p))
    (λ t. T_not (names_port m s p && eqb (port_of (ports_at m k) p) unused)
    (any_below-none 8 (λ p. names_port m s p && eqb (port_of (ports_at m k) p) unused) (false→T _ none) p h)
    (both→and (names_port m s p) (eqb (port_of (ports_at m k) p) unused) t
    (not-not (eqb (port_of (ports_at m k) p) unused) (any_below-none 8 (λ p. not (eqb (port_of (ports_at m k) p) unused)) (false→T _ unused-all) p h)))))

-- a segment that a fit record runs: as its thread runs it
pub segment_with-runs : (m : Model) (k s : ℕ) → lacks_port m k s ≡ false
    → (body_of (segment_with (ports_at m k) (segment_at m s)) ≡ body_of (segment_for m k s)) × ((segment_with (ports_at m k) (segment_at m s)).closer ≡ (segment_for m k s).closer)
unfolding segment_with segment_for
segment_with-runs m k s none = go (uses_ports (ports_at m k)) refl
  where
    ps : List ℕ
    ps = ports_at m k

    go : (b : Bool) → uses_ports (ports_at m k) ≡ b
        → (body_of (cond b (map_segment (ports_at m k) (segment_at m s)) (segment_at m s)) ≡ body_of (map_segment (ports_at m k) (segment_at m s)))
        × ((cond b (map_segment (ports_at m k) (segment_at m s)) (segment_at m s)).closer ≡ (map_segment (ports_at m k) (segment_at m s)).closer)
    go true e = (refl, refl)
    go false e = let (b, z) = unnamed-kept ps (segment_at m s) (unnamed-all m k s e none) in (sym b, sym z)

pub segment_with-listed : (ps : List ℕ) (g : Segment) → notified_by (body_of (segment_with ps g)) ≡ notified_by (body_of g)
unfolding segment_with
segment_with-listed ps g = go (uses_ports ps)
  where
    go : (b : Bool) → notified_by (body_of (cond b (map_segment ps g) g)) ≡ notified_by (body_of g)
    go true = listed-mapped ps g
    go false = refl
