-- Ports that are used, and a segment after mapping: place by place, what it names, what it lists as notifying, where it leads.
use Rattle.std.proofs.Common.{◌≡◌, ℕ, zero, suc, ◌-◌, ◌<◌, ◌≤◌, Bool, true, false, not, ◌||◌, T, eqb, ◌⊎◌, List, [], ◌∷◌, length, get_or, take, sym, refl, ap, ◌∙◌, subst, inl, inr, arith, eqb→eq, T_not, le-ltb, lt-ltb, eq-eqb, ne_eqb, le-leb}
use borrow.Author.Tests.{lt-leb}
use Rattle.base.specs.Index.{store_to}
use Rattle.base.proofs.BoolLaws.{T-case, and→both, both→and, or→either, either→or, eq→eqb}
use Rattle.base.proofs.IndexLaws.{any_below-here, any_below-empty, tabulate-is, store_to-length, store_to-at}
use Rattle.model.specs.declared.Op.{Op}
use Rattle.model.specs.declared.Op.TheVariants.{Set, Add, Copy, AddVariable, SubVariable, Notify}
use Rattle.model.specs.declared.Statement.{Statement}
use Rattle.model.specs.declared.Next.{Next}
use Rattle.model.specs.declared.Closer.{Closer}
use Rattle.model.specs.declared.Closer.TheVariants.{End, Time, Event}
use Rattle.model.specs.declared.Segment.{Segment}
use Rattle.model.specs.declared.Model.{Model}
use Rattle.model.specs.Port.{unused, is_port, port_of, uses_ports, mapped, map_op, map_statement, map_statements, map_next, map_closer, map_segment}
use Rattle.model.specs.Values.{no_statement, segment_at, ports_at, segment_for, body_of}
use Rattle.model.specs.Statement.{notified_by_op, notified_by}
use Rattle.model.specs.Effect.{no_test}
use Rattle.model.specs.Footprint.{writes_op, reads_op, writes, reads, tests_next, tests, writes_of, uses_of, listed_in}
use Rattle.model.specs.Reach.{goes_to, steps_to}
use Rattle.model.specs.Rules.{leaves_model}
use Rattle.model_effect.proofs.FootprintLaws.{Asks, asks_at, asks-found, writes-asks, reads-asks}
use Rattle.model_effect.proofs.EffectLaws.{delay_of}
use Rattle.model_effect.proofs.FrameLaws.{writes_of→uses_of, reads_of→uses_of, tests_of→uses_of}

-- a number that is a port, and one that is not

pub mapped-port : (ps : List ℕ) (x : ℕ) → 128 ≤ x → x < 136 → mapped ps x ≡ port_of ps (x - 128)
unfolding mapped is_port
mapped-port ps x h l = rw (le-leb 128 x h, lt-ltb x 136 l) refl

pub mapped-below : (ps : List ℕ) (x : ℕ) → x < 128 → mapped ps x ≡ x
unfolding mapped is_port
mapped-below ps x h = rw (lt-leb 128 x h) refl

pub mapped-above : (ps : List ℕ) (x : ℕ) → 136 ≤ x → mapped ps x ≡ x
unfolding mapped is_port
mapped-above ps x h = rw (le-leb 128 x (omega arith), le-ltb x 136 h) refl

-- ports that are used, one after the other

-- whether port p is used
unfoldable pub port_used : List ℕ → ℕ → Bool
port_used ps p = not (eqb (port_of ps p) unused)

module _ (ps : List ℕ) where
  pub port_used-some : (p : ℕ) → (port_of ps p ≡ 255 → ⊥) → port_used ps p ≡ true
  unfolding port_used
  port_used-some p n = rw (ne_eqb (port_of ps p) 255 n) refl

  pub port_used-none : (p : ℕ) → port_of ps p ≡ 255 → port_used ps p ≡ false
  unfolding port_used
  port_used-none p e = rw (eq-eqb (port_of ps p) 255 e) refl

  pub uses_ports-here : (p : ℕ) → p < 8 → port_used ps p ≡ true → true ≡ uses_ports ps
  unfolding uses_ports port_used
  uses_ports-here p l e = sym (any_below-here 8 (port_used ps) p l e)

  pub uses_ports-end : (p : ℕ) → 8 ≤ p → ((i : ℕ) → i < p → port_used ps i ≡ false) → false ≡ uses_ports ps
  unfolding uses_ports port_used
  uses_ports-end p h all = sym (any_below-empty 8 (port_used ps) (λ i l. all i (omega arith)))

-- place by place

pub map_statements-length : (ps : List ℕ) (xs : List Statement) → length (map_statements ps xs) ≡ length xs
unfolding map_statements
map_statements-length ps [] = refl
map_statements-length ps (x ∷ xs) = ap suc (map_statements-length ps xs)

pub map_statements-at : (ps : List ℕ) (xs : List Statement) (j : ℕ) → j < length xs → get_or (map_statements ps xs) j no_statement ≡ map_statement ps (get_or xs j no_statement)
unfolding map_statements
map_statements-at ps [] j h = absurd (omega arith)
map_statements-at ps (x ∷ xs) zero h = refl
map_statements-at ps (x ∷ xs) (suc j) h = map_statements-at ps xs j (omega arith)

pub map_statements-take : (ps : List ℕ) (n : ℕ) (xs : List Statement) → take n (map_statements ps xs) ≡ map_statements ps (take n xs)
unfolding map_statements
map_statements-take ps zero xs = refl
map_statements-take ps (suc n) [] = refl
map_statements-take ps (suc n) (x ∷ xs) = ap (λ (ys : List Statement). map_statement ps x ∷ ys) (map_statements-take ps n xs)

pub body-mapped : (ps : List ℕ) (g : Segment) → body_of (map_segment ps g) ≡ map_statements ps (body_of g)
unfolding body_of map_segment
body-mapped ps g = map_statements-take ps g.n g.statements

-- for the code: one place after the other
abbrev pub statement_for : List ℕ → List Statement → ℕ → List Statement → Statement
statement_for ps xs j ys = map_statement ps (get_or xs j no_statement)

pub map_statements-stored : (ps : List ℕ) (xs : List Statement) → length xs ≡ 32 → store_to (statement_for ps xs) 0 xs 32 ≡ map_statements ps xs
map_statements-stored ps xs e =
    tabulate-is no_statement (store_to (statement_for ps xs) 0 xs 32) 32 (λ j. map_statement ps (get_or xs j no_statement)) (store_to-length (statement_for ps xs) 0 xs 32 ∙ e)
    (λ i h. store_to-at (statement_for ps xs) 0 xs no_statement (λ j. map_statement ps (get_or xs j no_statement)) 32 i i (omega arith) (λ j l. refl) h (omega arith))
    ∙ sym (tabulate-is no_statement (map_statements ps xs) 32 (λ j. map_statement ps (get_or xs j no_statement)) (map_statements-length ps xs ∙ e)
    (λ i h. map_statements-at ps xs i (omega arith)))

pub map_segment-stored : (ps : List ℕ) (g : Segment) (z : Closer) (xs : List Statement) (j : ℕ) → length g.statements ≡ 32 → j ≡ 32
    → z ≡ map_closer ps g.closer → xs ≡ store_to (statement_for ps g.statements) 0 g.statements j
    → record { closer = z; n = g.n; statements = xs } ≡ map_segment ps g
unfolding map_segment
map_segment-stored ps g z xs j e l f h = rw (f, h, l, map_statements-stored ps g.statements e) refl

-- what is notified

op-notifies : (ps : List ℕ) (o : Op) (es : List ℕ) → notified_by_op (map_op ps o) es ≡ notified_by_op o es
op-notifies ps (Set a b) es = refl
op-notifies ps (Add a b) es = refl
op-notifies ps (Copy a b) es = refl
op-notifies ps (AddVariable a b) es = refl
op-notifies ps (SubVariable a b) es = refl
op-notifies ps (Notify w) es = refl

notified-mapped : (ps : List ℕ) (xs : List Statement) → notified_by (map_statements ps xs) ≡ notified_by xs
unfolding map_statements notified_by
notified-mapped ps [] = refl
notified-mapped ps (x ∷ xs) = op-notifies ps x.op (notified_by (map_statements ps xs)) ∙ ap (notified_by_op x.op) (notified-mapped ps xs)

pub listed-mapped : (ps : List ℕ) (g : Segment) → notified_by (body_of (map_segment ps g)) ≡ notified_by (body_of g)
listed-mapped ps g = ap notified_by (body-mapped ps g) ∙ notified-mapped ps (body_of g)

-- "events have no ports": whichever the thread
pub listed_in-any : (m : Model) (k s : ℕ) → listed_in m k s ≡ notified_by (body_of (segment_at m s))
unfolding listed_in segment_for
listed_in-any m k s = listed-mapped (ports_at m k) (segment_at m s)

-- what a segment names after mapping comes from what it named before

-- a name that is asked for, before mapping
abbrev Named : List ℕ → (ℕ → Bool) → ℕ → Type 0
Named ps f i = (a : ℕ) × T (f a) × (mapped ps a ≡ i)

one_name : (ps : List ℕ) (a i : ℕ) → T (eqb (mapped ps a) i) → Named ps (λ x. eqb a x) i
one_name ps a i t = (a, eq→eqb a a refl, eqb→eq (mapped ps a) i t)

two-names : (ps : List ℕ) (a b i : ℕ) → T (eqb (mapped ps a) i || eqb (mapped ps b) i) → Named ps (λ x. eqb a x || eqb b x) i
two-names ps a b i t = go (or→either (eqb (mapped ps a) i) (eqb (mapped ps b) i) t)
  where
    go : T (eqb (mapped ps a) i) ⊎ T (eqb (mapped ps b) i) → Named ps (λ x. eqb a x || eqb b x) i
    go (inl u) = (a, either→or (eqb a a) (eqb b a) (inl (eq→eqb a a refl)), eqb→eq (mapped ps a) i u)
    go (inr u) = (b, either→or (eqb a b) (eqb b b) (inr (eq→eqb b b refl)), eqb→eq (mapped ps b) i u)

op-writes : (ps : List ℕ) (o : Op) (i : ℕ) → T (writes_op (map_op ps o) i) → Named ps (writes_op o) i
op-writes ps (Set a b) i t = one_name ps a i t
op-writes ps (Add a b) i t = one_name ps a i t
op-writes ps (Copy a b) i t = one_name ps a i t
op-writes ps (AddVariable a b) i t = one_name ps a i t
op-writes ps (SubVariable a b) i t = one_name ps a i t
op-writes ps (Notify w) i t = absurd t

op-reads : (ps : List ℕ) (o : Op) (i : ℕ) → T (reads_op (map_op ps o) i) → Named ps (reads_op o) i
op-reads ps (Set a b) i t = absurd t
op-reads ps (Add a b) i t = one_name ps a i t
op-reads ps (Copy a b) i t = one_name ps b i t
op-reads ps (AddVariable a b) i t = two-names ps a b i t
op-reads ps (SubVariable a b) i t = two-names ps a b i t
op-reads ps (Notify w) i t = absurd t

-- a question of a body, for each name
module _ {f : ℕ → List Statement → Bool} {g : ℕ → Op → Bool} (asks : (i : ℕ) → Asks (f i) (g i)) (ps : List ℕ)
    (op : (o : Op) (i : ℕ) → T (g i (map_op ps o)) → (a : ℕ) × T (g a o) × (mapped ps a ≡ i)) where
  body-named : (xs : List Statement) (i : ℕ) → T (f i (map_statements ps xs)) → (a : ℕ) × T (f a xs) × (mapped ps a ≡ i)
  body-named xs i t =
      let (j, h, u) = asks_at (asks i) (map_statements ps xs) t in
      let l : j < length xs = omega (arith, map_statements-length ps xs) in
      let (a, w, e) = op (get_or xs j no_statement).op i (subst (λ (x : Statement). T (g i x.op)) (map_statements-at ps xs j l) u) in
      (a, asks-found (asks a) xs j l w, e)

module _ (ps : List ℕ) (g : Segment) (i : ℕ) where
  pub writes-mapped : T (writes_of (map_segment ps g) i) → (a : ℕ) × T (writes_of g a) × (mapped ps a ≡ i)
  unfolding writes_of
  writes-mapped t = body-named writes-asks ps (op-writes ps) (body_of g) i (subst (λ (xs : List Statement). T (writes xs i)) (body-mapped ps g) t)

  reads-mapped : T (reads (body_of (map_segment ps g)) i) → (a : ℕ) × T (reads (body_of g) a) × (mapped ps a ≡ i)
  reads-mapped t = body-named reads-asks ps (op-reads ps) (body_of g) i (subst (λ (xs : List Statement). T (reads xs i)) (body-mapped ps g) t)

  next-tests : (x : Next) → T (tests_next (map_next ps x) i) → (a : ℕ) × T (tests_next x a) × (mapped ps a ≡ i)
  unfolding tests_next
  next-tests x t =
      let (n, e) = and→both (not (eqb (mapped ps x.test) no_test)) (eqb (mapped ps x.test) i) t in
      (x.test, both→and (not (eqb x.test no_test)) (eqb x.test x.test) (go n (T-case (eqb x.test no_test))) (eq→eqb x.test x.test refl), eqb→eq (mapped ps x.test) i e)
    where
      -- 255 is no port
      go : T (not (eqb (mapped ps x.test) no_test)) → T (eqb x.test no_test) ⊎ T (not (eqb x.test no_test)) → T (not (eqb x.test no_test))
      go n (inr u) = u
      go n (inl u) =
          let e = eqb→eq x.test no_test u in
          absurd (T_not (eqb (mapped ps x.test) no_test) n (eq→eqb (mapped ps x.test) no_test (mapped-above ps x.test (omega arith) ∙ e)))

  closer-tests : (z : Closer) → T (tests (map_closer ps z) i) → (a : ℕ) × T (tests z a) × (mapped ps a ≡ i)
  unfolding tests
  closer-tests End t = absurd t
  closer-tests (Time k x) t = next-tests x t
  closer-tests (Event e x) t = next-tests x t

  pub uses-mapped : T (uses_of (map_segment ps g) i) → (a : ℕ) × T (uses_of g a) × (mapped ps a ≡ i)
  unfolding uses_of map_segment
  uses-mapped t = go (or→either (writes_of (map_segment ps g) i || reads (body_of (map_segment ps g)) i) (tests (map_closer ps g.closer) i) t)
    where
      body : T (writes_of (map_segment ps g) i) ⊎ T (reads (body_of (map_segment ps g)) i) → (a : ℕ) × T (uses_of g a) × (mapped ps a ≡ i)
      body (inl u) = let (a, w, e) = writes-mapped u in (a, writes_of→uses_of g a w, e)
      body (inr u) = let (a, w, e) = reads-mapped u in (a, reads_of→uses_of g a w, e)

      go : T (writes_of (map_segment ps g) i || reads (body_of (map_segment ps g)) i) ⊎ T (tests (map_closer ps g.closer) i) → (a : ℕ) × T (uses_of g a) × (mapped ps a ≡ i)
      go (inl u) = body (or→either (writes_of (map_segment ps g) i) (reads (body_of (map_segment ps g)) i) u)
      go (inr u) = let (a, w, e) = closer-tests g.closer u in (a, tests_of→uses_of g a w, e)

-- where a segment leads, and how long it waits, hang on no port
pub closer-leads : (ps : List ℕ) (n : ℕ) (z : Closer) → leaves_model n (map_closer ps z) ≡ leaves_model n z
unfolding leaves_model
closer-leads ps n End = refl
closer-leads ps n (Time k x) = refl
closer-leads ps n (Event e x) = refl

pub closer-delay : (ps : List ℕ) (z : Closer) → delay_of (map_closer ps z) ≡ delay_of z
closer-delay ps End = refl
closer-delay ps (Time k x) = refl
closer-delay ps (Event e x) = refl

pub closer-steps : (ps : List ℕ) (z : Closer) (s : ℕ) → steps_to (map_closer ps z) s ≡ steps_to z s
unfolding steps_to goes_to
closer-steps ps End s = refl
closer-steps ps (Time k x) s = refl
closer-steps ps (Event e x) s = refl

-- a closer that waits on an event after mapping waited on it before
pub closer-event : (ps : List ℕ) (z : Closer) (e : ℕ) (x : Next) → map_closer ps z ≡ Event e x → (y : Next) × (z ≡ Event e y)
closer-event ps End e x f = let z : ◌≡◌ {A = ℕ} 0 1 = cc in absurd (omega arith)
closer-event ps (Time k y) e x f = let z : ◌≡◌ {A = ℕ} 0 1 = cc in absurd (omega arith)
closer-event ps (Event w y) e x f = let same : w ≡ e = cc in (y, ap (λ (q : ℕ). Event q y) same)
