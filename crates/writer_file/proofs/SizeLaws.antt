-- How many bytes: the records beside a segment's, and the whole file.
--     end_bytes-frame     a record as the code puts it
--     starts_none, starts-read, starts-all     the length of the threads, counted one by one
--     counted_none, counted-read, counted-all     the length, counted segment by segment
--     file_of-longest     no more than 13,934 for a model that keeps the file rules
-- Assumes nothing.
use Prim.Native.Nat.{ℕ, zero, suc, ◌+◌, ◌*◌, ◌<◌, ◌≤◌}
use mathlib.Core.Path.{◌≡◌, refl, sym, ap, ◌∙◌}
use mathlib.Core.List.{List, ◌++◌}
use native.Mathlib.Nat.{zero-add}
use native.Mathlib.Numerals.{add-one}
use native.Mathlib.Omega.{arith}
use lib.ListN.{length, length-append}
use Rattle.model.specs.declared.Start.{Start}
use Rattle.model.specs.declared.Model.{Model}
use Rattle.model.specs.Values.{segment_at, start_at}
use Rattle.model.specs.Rules.{model_fault}
use Rattle.model_rules.proofs.RuleLaws.{model_fault-counts, model_fault-statements}
use Rattle.reader.specs.Record.{end_kind}
use Rattle.writer.specs.Bytes.{bytes_of, joined}
use Rattle.writer.specs.File.{record_bytes, head_bytes, segment_bytes, ports_bytes, start_bytes, end_bytes, file_of}
use Rattle.writer_laws.proofs.JoinLaws.{joined-more}
use Rattle.writer_laws.proofs.SegmentLaws.{segment_bytes-length}
use Rattle.writer_file.proofs.PortLaws.{ports_bytes-most}

pub start_bytes-length : (s : Start) → length (start_bytes s) ≡ 5 + length (ports_bytes s.ports)
unfolding start_bytes record_bytes bytes_of
start_bytes-length s = omega arith

pub head_bytes-length : (m : Model) → length (head_bytes m) ≡ 10
unfolding head_bytes record_bytes bytes_of
head_bytes-length m = refl

pub end_bytes-length : length end_bytes ≡ 4
unfolding end_bytes record_bytes bytes_of
end_bytes-length = refl

-- the end is a frame alone
pub end_bytes-frame : bytes_of 2 4 ++ bytes_of 2 end_kind ≡ end_bytes
unfolding end_bytes record_bytes bytes_of
end_bytes-frame = refl

-- parts of at most one length
joined-longest : (k n i : ℕ) (f : ℕ → List ℕ) → ((j : ℕ) → j < i + n → length (f j) ≤ k) → length (joined n i f) ≤ k * n
unfolding joined
joined-longest k zero i f h = omega arith
joined-longest k (suc n) i f h =
    simp length-append (omega (arith, h i (omega arith), joined-longest k n (i + 1) f (λ j l. h j (omega arith))))

-- the bytes of the threads; each has at most 17
abbrev pub starts_of : Model → ℕ → List ℕ
starts_of m k = joined k 0 (λ k. start_bytes (start_at m k))

pub starts_of-longest : (m : Model) (k : ℕ) → length (starts_of m k) ≤ 17 * k
starts_of-longest m k =
    joined-longest 17 k 0 (λ k. start_bytes (start_at m k)) (λ j h. omega (arith, start_bytes-length (start_at m j), ports_bytes-most (start_at m j).ports))

-- the bytes of the first k threads
abbrev pub CountedTo : Model → ℕ → ℕ → Type 0
CountedTo m k size = (size ≤ 17 * k) × (size ≡ length (starts_of m k))

pub starts_none : (m : Model) → CountedTo m 0 0
unfolding joined
starts_none m = (omega arith, refl)

module _ (m : Model) (k size more : ℕ) (c : CountedTo m k size) where
  starts_more : (n : ℕ) → length (start_bytes (start_at m k)) ≡ n → more ≡ size + n → CountedTo m (k + 1) more
  starts_more n e p =
      let f : ℕ → List ℕ = λ k. start_bytes (start_at m k) in
      let l : more ≡ length (starts_of m (k + 1)) = rw (add-one, joined-more k 0 f, zero-add k) (simp length-append (omega (arith, c.1))) in
      (omega (arith, starts_of-longest m (k + 1)), l)

  -- thread k, as the code reads it
  pub starts-read : (s : Start) (n : ℕ) → s ≡ start_at m k → n ≡ 5 + length (ports_bytes s.ports) → more ≡ size + n → CountedTo m (k + 1) more
  starts-read s n is e p = starts_more n (sym (e ∙ ap (λ (s : Start). 5 + length (ports_bytes s.ports)) is ∙ sym (start_bytes-length (start_at m k)))) p

-- at most 255 threads
pub starts-all : (m : Model) (k size : ℕ) → k ≡ m.t → k < 256 → CountedTo m k size → (size ≡ length (starts_of m m.t)) × (size ≤ 4335)
starts-all m k size e h c = (rw e at c.1, omega (arith, c.0))

pub file_of-length : (m : Model) → length (file_of m) ≡ 14 + length (starts_of m m.t) + length (joined m.n 0 (λ i. segment_bytes (segment_at m i)))
unfolding file_of
file_of-length m = simp length-append (omega (arith, head_bytes-length m, end_bytes-length))

-- the bytes of the head, the threads, the end and the first i segments; a segment has at most 1,547
abbrev pub Counted : Model → ℕ → ℕ → Type 0
Counted m i size =
    (size ≤ 4349 + 1547 * i) × (size ≡ 14 + length (starts_of m m.t) + length (joined i 0 (λ s. segment_bytes (segment_at m s))))

pub counted_none : (m : Model) (size : ℕ) → m.t < 256 → size ≡ 14 + length (starts_of m m.t) → Counted m 0 size
unfolding joined
counted_none m size h e = (omega (arith, starts_of-longest m m.t), omega arith)

pub counted-all : (m : Model) (i size : ℕ) → i ≡ m.n → Counted m i size → size ≡ length (file_of m)
counted-all m i size e c = (rw e at c.1) ∙ sym (file_of-length m)

module _ (m : Model) (i size more : ℕ) (c : Counted m i size) where
  counted-more : (k : ℕ) → length (segment_bytes (segment_at m i)) ≡ k → k ≤ 1547 → more ≡ size + k → Counted m (i + 1) more
  counted-more k e h p =
      let f : ℕ → List ℕ = λ s. segment_bytes (segment_at m s) in
      (omega (arith, c.0), rw (add-one, joined-more i 0 f, zero-add i) (simp length-append (omega (arith, c.1))))

  -- segment i, as the code reads it
  pub counted-read : (x : ℕ) → x ≡ (segment_at m i).n → x < 256 → more ≡ size + (17 + 6 * x) → Counted m (i + 1) more
  counted-read x is l p = counted-more (17 + 6 * x) (omega (arith, segment_bytes-length (segment_at m i))) (omega arith) p

-- a model that keeps the file rules: at most a head of 10 bytes, 64 segments of 209, 32 threads of 17, an end of 4
pub file_of-longest : (m : Model) → model_fault m ≡ 0 → length (file_of m) ≤ 13934
file_of-longest m ok =
    let c = model_fault-counts m ok in
    let f : ℕ → List ℕ = λ s. segment_bytes (segment_at m s) in
    let few : (i : ℕ) → i < 0 + m.n → length (f i) ≤ 209 =
    λ i h. omega (arith, segment_bytes-length (segment_at m i), model_fault-statements m ok i (omega arith)) in
    omega (arith, file_of-length m, joined-longest 209 m.n 0 f few, starts_of-longest m m.t, c.segments, c.threads)
