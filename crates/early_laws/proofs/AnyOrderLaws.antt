-- Deliveries do not depend on the order in which threads are looked at: every sequence of looks after which nobody hears anything leaves the
-- same records and the same events heard, and the sweeps are such a sequence.
use Prim.Native.Nat.{ℕ, ◌<◌}
use mathlib.Core.Path.{◌≡◌, refl, ap, ap₂, sym, ◌∙◌, subst}
use mathlib.Core.List.{List, [], ◌∷◌, ◌++◌, append_assoc, append-nil}
use native.Mathlib.Omega.{arith}
use native.Mathlib.Decide.{ℕ_discrete}
use lib.ListN.{set}
use lib.Seq.{set_comm}
use Rattle.clock.specs.declared.Cycle.{Cycle}
use Rattle.clock.specs.declared.Bound.TheVariants.{At}
use Rattle.model.specs.declared.Model.{Model}
use Rattle.model.specs.declared.Thread.{Thread}
use Rattle.model.specs.Record.{thread_at, view_of}
use Rattle.plain.specs.History.{Item}
use Rattle.early.specs.declared.Notification.{Notification}
use Rattle.early.specs.Deliver.{looked_at, look_items, settled, settled_items}
use Rattle.early_laws.proofs.LookLaws.{heard_at, heard_thread, heard_at-waits, looked_at-none, looked_at-heard, looked_at-other, Looked, unheard, hears, looked, look_items-other, look_items-none, look_items-heard}
use Rattle.early_laws.proofs.HearLaws.{heard_at-kept}
use Rattle.early_laws.proofs.RestLaws.{Rest, settled-rest}
use Rattle.early_laws.proofs.SettleLaws.{settled-carries}

-- a sequence of looks, at these threads one after the other, and what thread j hears in it

unfoldable pub looked_all : Model → List ℕ → List Notification → List Thread → List ℕ → List Thread
looked_all m ws l ts [] = ts
looked_all m ws l ts (k ∷ ks) = looked_all m ws l (looked_at m ws l ts k) ks

unfoldable pub looked_items : Model → List ℕ → List Notification → List Thread → List ℕ → ℕ → List Item
looked_items m ws l ts [] j = []
looked_items m ws l ts (k ∷ ks) j = look_items m ws l ts k j ++ looked_items m ws l (looked_at m ws l ts k) ks j

-- numbers of threads
abbrev pub Threads : ℕ → List ℕ → Type 0
Threads t [] = Unit {0}
Threads t (k ∷ ks) = (k < t) × Threads t ks

module _ (m : Model) (ws : List ℕ) (l : List Notification) where
  -- where nobody hears anything, nothing changes

  rest-looked_all : (ts : List Thread) (ks : List ℕ) → Rest m ws l ts → Threads m.t ks → looked_all m ws l ts ks ≡ ts
  unfolding looked_all
  rest-looked_all ts [] rest h = refl
  rest-looked_all ts (k ∷ ks) rest (p, h) = rw (looked_at-none m ws l ts k (rest k p)) (rest-looked_all ts ks rest h)

  rest-looked_items : (ts : List Thread) (ks : List ℕ) (j : ℕ) → Rest m ws l ts → Threads m.t ks → looked_items m ws l ts ks j ≡ []
  unfolding looked_items
  rest-looked_items ts [] j rest h = refl
  rest-looked_items ts (k ∷ ks) j rest (p, h) =
      rw (looked_at-none m ws l ts k (rest k p), look_items-none m ws l ts k j (rest k p)) (rest-looked_items ts ks j rest h)

  -- two threads that both hear: either first

  look-comm : (ts : List Thread) (j k : ℕ) (x y : Cycle) → j < m.t → k < m.t → (j ≡ k → ⊥) → heard_at m ws l ts k ≡ At x → heard_at m ws l ts j ≡ At y
      → looked_at m ws l (looked_at m ws l ts k) j ≡ looked_at m ws l (looked_at m ws l ts j) k
  look-comm ts j k x y p q other hears-k hears-j =
      one j k x y p q other hears-k hears-j
      ∙ set_comm ts k j (heard_thread x (thread_at ts k)) (heard_thread y (thread_at ts j)) (λ e. other (sym e))
      ∙ sym (one k j y x q p (λ e. other (sym e)) hears-j hears-k)
    where
      one : (j k : ℕ) (x y : Cycle) → j < m.t → k < m.t → (j ≡ k → ⊥) → heard_at m ws l ts k ≡ At x → heard_at m ws l ts j ≡ At y
          → looked_at m ws l (looked_at m ws l ts k) j ≡ set (set ts k (heard_thread x (thread_at ts k))) j (heard_thread y (thread_at ts j))
      one j k x y p q other e f =
          looked_at-heard m ws l (looked_at m ws l ts k) j y (heard_at-kept m ws l ts k q j y other f)
          ∙ ap₂
          (λ (us : List Thread) (t : Thread). set us j (heard_thread y t))
          (looked_at-heard m ws l ts k x e)
          (looked_at-other m ws l ts k j other)

  -- what a look adds stays what it is when another thread is looked at first
  items_kept : (ts : List Thread) (j k : ℕ) (y : Cycle) (i : ℕ) → k < m.t → (j ≡ k → ⊥) → heard_at m ws l ts j ≡ At y → look_items m ws l (looked_at m ws l ts k) j i ≡ look_items m ws l ts j i
  items_kept ts j k y i q other f = go (ℕ_discrete i j)
    where
      us : List Thread
      us = looked_at m ws l ts k

      go : Dec (i ≡ j) → look_items m ws l us j i ≡ look_items m ws l ts j i
      go (no away) = look_items-other m ws l us j i away ∙ sym (look_items-other m ws l ts j i away)
      go (yes same) =
          let (e, since, w, p) = heard_at-waits m ws l ts j y f in
          rw
          same
          (look_items-heard m ws l us j e since y (ap (λ (t : Thread). view_of t.state) (looked_at-other m ws l ts k j other) ∙ w) (heard_at-kept m ws l ts k q j y other f)
          ∙ sym (look_items-heard m ws l ts j e since y w f))

  -- two threads add to different histories
  items-comm : (ts us : List Thread) (j k i : ℕ) (is : List Item) → (j ≡ k → ⊥) → look_items m ws l ts k i ++ (look_items m ws l us j i ++ is) ≡ look_items m ws l us j i ++ (look_items m ws l ts k i ++ is)
  items-comm ts us j k i is other = go (ℕ_discrete i k)
    where
      go : Dec (i ≡ k) → look_items m ws l ts k i ++ (look_items m ws l us j i ++ is) ≡ look_items m ws l us j i ++ (look_items m ws l ts k i ++ is)
      go (yes same) = rw (look_items-other m ws l us j i (λ e. other (sym e ∙ same))) refl
      go (no away) = rw (look_items-other m ws l ts k i away) refl

  -- a sequence from us that comes to where ks comes from ts, and hears the rest
  record Rejoined (ts : List Thread) (k : ℕ) (ks : List ℕ) : Type 0 where
    looks : List ℕ
    threads : Threads m.t looks
    same : looked_all m ws l (looked_at m ws l ts k) looks ≡ looked_all m ws l ts ks
    items : (i : ℕ) → look_items m ws l ts k i ++ looked_items m ws l (looked_at m ws l ts k) looks i ≡ looked_items m ws l ts ks i

  -- Thread k hears, and ks comes to rest: then k may as well be looked at first. Up to the look at k in ks, k still hears the same; a look at another
  -- thread j before that either hears, and then does so after k as well, or does nothing, and is left out.
  rejoined : (ts : List Thread) (k : ℕ) (x : Cycle) (ks : List ℕ) → k < m.t → heard_at m ws l ts k ≡ At x → Threads m.t ks → Rest m ws l (looked_all m ws l ts ks) → Rejoined ts k ks
  unfolding looked_all looked_items
  rejoined ts k x [] h e all rest = let f = rest k h in let z : ◌≡◌ {A = ℕ} 0 1 = cc in absurd (omega arith)
  rejoined ts k x (j ∷ ks) h e (p, all) rest = go (ℕ_discrete j k) (looked m ws l ts j) (λ f. rejoined (looked_at m ws l ts j) k x ks h f all rest)
    where
      us : List Thread
      us = looked_at m ws l ts j

      go : Dec (j ≡ k) → Looked m ws l ts j → (heard_at m ws l us k ≡ At x → Rejoined us k ks) → Rejoined ts k (j ∷ ks)
      go (yes same) _ ih =
          record {
            looks = ks;
            threads = all;
            same = ap (λ (i : ℕ). looked_all m ws l (looked_at m ws l ts i) ks) (sym same);
            items = λ i. ap (λ (a : ℕ). look_items m ws l ts a i ++ looked_items m ws l (looked_at m ws l ts a) ks i) (sym same);
          }
      go (no other) (unheard none) ih =
          let r = ih (heard_at-kept m ws l ts j p k x (λ f. other (sym f)) e) in
          let idle : us ≡ ts = looked_at-none m ws l ts j none in
          record {
            looks = r.looks;
            threads = r.threads;
            same = subst (λ (vs : List Thread). looked_all m ws l (looked_at m ws l vs k) r.looks ≡ looked_all m ws l us ks) idle r.same;
            items =
                λ i.
                subst
                (λ (vs : List Thread). look_items m ws l vs k i ++ looked_items m ws l (looked_at m ws l vs k) r.looks i ≡ looked_items m ws l us ks i)
                idle
                (r.items i)
                ∙ ap (λ (is : List Item). is ++ looked_items m ws l us ks i) (sym (look_items-none m ws l ts j i none));
          }
      go (no other) (hears y f) ih =
          let r = ih (heard_at-kept m ws l ts j p k x (λ g. other (sym g)) e) in
          let swap = look-comm ts j k x y p h other e f in
          record {
            looks = j ∷ r.looks;
            threads = (p, r.threads);
            same = ap (λ (vs : List Thread). looked_all m ws l vs r.looks) swap ∙ r.same;
            items =
                λ i.
                let more = looked_items m ws l (looked_at m ws l us k) r.looks i in
                ap
                (λ (vs : List Thread). look_items m ws l ts k i ++ (look_items m ws l (looked_at m ws l ts k) j i ++ looked_items m ws l vs r.looks i))
                swap
                ∙ ap (λ (is : List Item). look_items m ws l ts k i ++ (is ++ more)) (items_kept ts j k y i h other f)
                ∙ items-comm ts ts j k i more other
                ∙ ap
                (λ (is : List Item). look_items m ws l ts j i ++ (is ++ more))
                (sym (items_kept ts k j x i p (λ g. other (sym g)) e))
                ∙ ap (λ (is : List Item). look_items m ws l ts j i ++ is) (r.items i);
          }

  -- every two sequences of looks that come to rest leave the same
  pub looks-same : (ts : List Thread) (ks js : List ℕ) → Threads m.t ks → Threads m.t js → Rest m ws l (looked_all m ws l ts ks) → Rest m ws l (looked_all m ws l ts js)
      → (looked_all m ws l ts ks ≡ looked_all m ws l ts js) × ((i : ℕ) → looked_items m ws l ts ks i ≡ looked_items m ws l ts js i)
  unfolding looked_all looked_items
  looks-same ts ks [] a b r s = (rest-looked_all ts ks s a, λ i. rest-looked_items ts ks i s a)
  looks-same ts ks (k ∷ js) a (p, b) r s =
      go (looked m ws l ts k) (λ ns c t. looks-same (looked_at m ws l ts k) ns js c b t s)
    where
      us : List Thread
      us = looked_at m ws l ts k

      Same : List Thread → List ℕ → Type 0
      Same vs ns = (looked_all m ws l vs ns ≡ looked_all m ws l us js) × ((i : ℕ) → looked_items m ws l vs ns i ≡ looked_items m ws l us js i)

      go :
          Looked m ws l ts k →
          ((ns : List ℕ) → Threads m.t ns → Rest m ws l (looked_all m ws l us ns) → Same us ns) →
          (looked_all m ws l ts ks ≡ looked_all m ws l us js) × ((i : ℕ) → looked_items m ws l ts ks i ≡ look_items m ws l ts k i ++ looked_items m ws l us js i)
      go (unheard none) ih =
          let idle : us ≡ ts = looked_at-none m ws l ts k none in
          let q = ih ks a (subst (λ (vs : List Thread). Rest m ws l (looked_all m ws l vs ks)) (sym idle) r) in (
            ap (λ (vs : List Thread). looked_all m ws l vs ks) (sym idle) ∙ q.0,
            λ i.
                ap (λ (vs : List Thread). looked_items m ws l vs ks i) (sym idle)
                ∙ q.1 i
                ∙ ap (λ (is : List Item). is ++ looked_items m ws l us js i) (sym (look_items-none m ws l ts k i none)),
          )
      go (hears x e) ih =
          let j = rejoined ts k x ks p e a r in
          let q = ih j.looks j.threads (subst (Rest m ws l) (sym j.same) r) in
          (sym j.same ∙ q.0, λ i. sym (j.items i) ∙ ap (λ (is : List Item). look_items m ws l ts k i ++ is) (q.1 i))

  -- one look more, at the end

  looked_all-end : (ts : List Thread) (ks : List ℕ) (k : ℕ) → looked_all m ws l ts (ks ++ (k ∷ [])) ≡ looked_at m ws l (looked_all m ws l ts ks) k
  unfolding looked_all
  looked_all-end ts [] k = refl
  looked_all-end ts (j ∷ ks) k = looked_all-end (looked_at m ws l ts j) ks k

  looked_items-end : (ts : List Thread) (ks : List ℕ) (k i : ℕ) → looked_items m ws l ts (ks ++ (k ∷ [])) i ≡ looked_items m ws l ts ks i ++ look_items m ws l (looked_all m ws l ts ks) k i
  unfolding looked_all looked_items
  looked_items-end ts [] k i = append-nil (look_items m ws l ts k i)
  looked_items-end ts (j ∷ ks) k i =
      let us = looked_at m ws l ts j in
      ap (λ (is : List Item). look_items m ws l ts j i ++ is) (looked_items-end us ks k i)
      ∙ sym (append_assoc (look_items m ws l ts j i) (looked_items m ws l us ks i) (look_items m ws l (looked_all m ws l us ks) k i))

  Threads-end : (ks : List ℕ) (k : ℕ) → Threads m.t ks → k < m.t → Threads m.t (ks ++ (k ∷ []))
  Threads-end [] k a h = (h, tt)
  Threads-end (j ∷ ks) k (p, a) h = (p, Threads-end ks k a h)

  -- the sweeps are a sequence of looks

  record Sequence (ts us : List Thread) (is : ℕ → List Item) : Type 0 where
    looks : List ℕ
    threads : Threads m.t looks
    records : looked_all m ws l ts looks ≡ us
    items : (i : ℕ) → looked_items m ws l ts looks i ≡ is i

  settled-sequence : (ts : List Thread) → Sequence ts (settled m ws l ts) (settled_items m ws l ts)
  unfolding looked_all looked_items
  settled-sequence ts =
      settled-carries
      m
      ws
      l
      (Sequence ts)
      (λ us is k h r.
      record {
        looks = r.looks ++ (k ∷ []);
        threads = Threads-end r.looks k r.threads h;
        records = looked_all-end ts r.looks k ∙ ap (λ (vs : List Thread). looked_at m ws l vs k) r.records;
        items =
            λ i.
            looked_items-end ts r.looks k i
            ∙ ap₂ (λ (a : List Item) (vs : List Thread). a ++ look_items m ws l vs k i) (r.items i) r.records;
      })
      ts
      (record { looks = []; threads = tt; records = refl; items = λ i. refl })

  -- what is heard does not depend on the order of looking
  pub settled-any : (ts : List Thread) (ks : List ℕ) → Threads m.t ks → Rest m ws l (looked_all m ws l ts ks)
      → (looked_all m ws l ts ks ≡ settled m ws l ts) × ((i : ℕ) → looked_items m ws l ts ks i ≡ settled_items m ws l ts i)
  settled-any ts ks a r =
      let q = settled-sequence ts in
      let s = looks-same ts ks q.looks a q.threads r (subst (Rest m ws l) (sym q.records) (settled-rest m ws l ts)) in
      (s.0 ∙ q.records, λ i. s.1 i ∙ q.items i)
