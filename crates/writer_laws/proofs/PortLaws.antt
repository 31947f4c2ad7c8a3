-- A thread's ports and their record, read and written.
--     port_of-trimmed, uses_ports-trimmed, ports_fault-trimmed     the eight numbers are all that counts
--     unused-trimmed, unused-fault     ports that are all unused
--     ports_bytes-used, ports_bytes-unused, ports_bytes-below, ports_bytes-trimmed     a record of 12 bytes, or none
--     ports_from-written, ports_bytes_fault-written     bytes of ports that fit say those ports
--     ports_from-trimmed, ports_bytes-again     bytes that are a record of ports are written again
--     with_ports-last     ports for the thread that was added last
use Prim.Native.Nat.{ℕ, ◌+◌, ◌-◌, ◌*◌, ◌%◌, ◌<◌}
use mathlib.Core.Path.{◌≡◌, refl, sym, ap, ap₂, ◌∙◌}
use mathlib.Core.Bool.{Bool, true, false, cond, not, ◌||◌}
use mathlib.Core.List.{List, [], ◌∷◌}
use native.Mathlib.Omega.{arith}
use native.Mathlib.Nat.{zero-add}
use lib.Dec.{ltb, eqb, eqb→eq}
use lib.ListN.{length, get_or, set, take, drop, length-drop}
use lib.Seq.{set-set, get_or-set_same, drop-drop}
use borrow.Author.Tests.{eq-eqb}
use Rattle.base.specs.Index.{or_else, tabulate}
use Rattle.base.proofs.BoolLaws.{false→T, not-not}
use Rattle.base.proofs.IndexLaws.{any_below-none, any_below-same, any_below-empty, or_else-none, or_else-zero, tabulate-length, tabulate-at, tabulate-same, tabulate-is}
use Rattle.model.specs.declared.Start.{Start}
use Rattle.model.specs.declared.Model.{Model}
use Rattle.model.specs.Port.{no_ports, port_of, uses_ports}
use Rattle.model.specs.Values.{no_start, start_at, with_start, with_ports}
use Rattle.model.specs.Rules.{unless, ports_fault}
use Rattle.model_rules.proofs.FaultLaws.{unless-zero}
use Rattle.reader.specs.Word.{byte_at, word_at}
use Rattle.reader.specs.Record.{ports_from, ports_bytes_fault}
use Rattle.writer.specs.Bytes.{bytes_of, joined}
use Rattle.writer.specs.File.{record_bytes, ports_bytes}
use Rattle.writer_laws.proofs.ByteLaws.{AllBytes, bytes_of-below, byte_at-again}
use Rattle.writer_laws.proofs.JoinLaws.{joined_same, joined-below, joined-again}
use Rattle.writer_laws.proofs.RecordLaws.{record_bytes-below, record-again}

module _ (ps : List ℕ) where
  -- the eight numbers of a thread
  abbrev pub eight_of : List ℕ
  eight_of = tabulate 8 0 (λ p. port_of ps p)

  pub port_of-trimmed : (p : ℕ) → p < 8 → port_of eight_of p ≡ port_of ps p
  port_of-trimmed p h = tabulate-at 8 0 p (λ p. port_of ps p) 0 h ∙ ap (port_of ps) (zero-add p)

  pub uses_ports-trimmed : uses_ports eight_of ≡ uses_ports ps
  unfolding uses_ports
  uses_ports-trimmed =
      any_below-same 8 (λ p. not (eqb (port_of eight_of p) 255)) (λ p. not (eqb (port_of ps p) 255))
      (λ p h. ap (λ (x : ℕ). not (eqb x 255)) (port_of-trimmed p h))

  pub ports_fault-trimmed : (v : ℕ) → ports_fault v eight_of ≡ ports_fault v ps
  unfolding ports_fault
  ports_fault-trimmed v =
      ap (λ (b : Bool). unless (not b) 17)
      (any_below-same 8 (λ p. not (eqb (port_of eight_of p) 255 || ltb (port_of eight_of p) v)) (λ p. not (eqb (port_of ps p) 255 || ltb (port_of ps p) v))
      (λ p h. ap (λ (x : ℕ). not (eqb x 255 || ltb x v)) (port_of-trimmed p h)))

  -- its record
  abbrev pub ports_body : List ℕ
  ports_body = joined 8 0 (λ p. bytes_of 1 (port_of ps p))

  pub ports_body-length : length ports_body ≡ 8
  unfolding joined bytes_of
  ports_body-length = refl

  pub ports_bytes-below : AllBytes (ports_bytes ps)
  unfolding ports_bytes
  ports_bytes-below = go (uses_ports ps)
    where
      go : (b : Bool) → AllBytes (cond b (record_bytes 5 ports_body) [])
      go true = record_bytes-below 5 ports_body (joined-below 8 0 (λ p. bytes_of 1 (port_of ps p)) (λ p. bytes_of-below 1 (port_of ps p)))
      go false = λ i. omega arith

  pub ports_bytes-trimmed : ports_bytes eight_of ≡ ports_bytes ps
  unfolding ports_bytes
  ports_bytes-trimmed =
      ap₂ (λ (b : Bool) (c : List ℕ). cond b (record_bytes 5 c) []) uses_ports-trimmed
      (joined_same 8 0 (λ p. bytes_of 1 (port_of eight_of p)) (λ p. bytes_of 1 (port_of ps p)) (λ p _ h. ap (bytes_of 1) (port_of-trimmed p h)))

  -- of ports that are all unused
  module _ (none : uses_ports ps ≡ false) where
    unused-at : (p : ℕ) → p < 8 → port_of ps p ≡ 255
    unfolding uses_ports
    unused-at p h =
        eqb→eq (port_of ps p) 255
        (not-not (eqb (port_of ps p) 255) (any_below-none 8 (λ p. not (eqb (port_of ps p) 255)) (false→T (uses_ports ps) none) p h))

    pub unused-trimmed : eight_of ≡ no_ports
    unfolding tabulate
    unused-trimmed = tabulate-same 8 0 (λ p. port_of ps p) (λ p. 255) (λ p h. unused-at p (omega arith))

    pub unused-fault : (v : ℕ) → ports_fault v ps ≡ 0
    unfolding ports_fault
    unused-fault v =
        ap (λ (b : Bool). unless (not b) 17)
        (any_below-empty 8 (λ p. not (eqb (port_of ps p) 255 || ltb (port_of ps p) v)) (λ p h. rw (eq-eqb (port_of ps p) 255 (unused-at p h)) refl))

    pub ports_bytes-unused : ports_bytes ps ≡ []
    unfolding ports_bytes
    ports_bytes-unused = rw none refl

  -- of ports of which one is used
  module _ (some : uses_ports ps ≡ true) where
    pub ports_bytes-used : ports_bytes ps ≡ record_bytes 5 ports_body
    unfolding ports_bytes
    ports_bytes-used = rw some refl

    module _ (fits : (p : ℕ) → p < 8 → port_of ps p < 256) where
      pub ports_from-written : ports_from (record_bytes 5 ports_body) ≡ eight_of
      unfolding ports_from record_bytes joined bytes_of tabulate
      ports_from-written =
          λ i.
          same 0 (omega arith) i ∷
          same 1 (omega arith) i ∷
          same 2 (omega arith) i ∷
          same 3 (omega arith) i ∷
          same 4 (omega arith) i ∷
          same 5 (omega arith) i ∷
          same 6 (omega arith) i ∷
          same 7 (omega arith) i ∷
          []
        where
          same : (p : ℕ) → p < 8 → port_of ps p % 256 ≡ port_of ps p
          same p h = omega (arith, fits p h)

      pub ports_bytes_fault-written : (v : ℕ) → ports_bytes_fault v (record_bytes 5 ports_body) ≡ ports_fault v ps
      unfolding ports_bytes_fault
      ports_bytes_fault-written v =
          ap (λ (qs : List ℕ). or_else (unless (uses_ports qs) 17) (ports_fault v qs)) ports_from-written
          ∙ or_else-none (unless (uses_ports eight_of) 17) (ports_fault v eight_of) (ap (λ (b : Bool). unless b 17) (uses_ports-trimmed ∙ some))
          ∙ ports_fault-trimmed v

-- the ports that a record says
module _ (r : List ℕ) where
  pub ports_from-trimmed : eight_of (ports_from r) ≡ ports_from r
  unfolding ports_from
  ports_from-trimmed = sym (tabulate-is 0 (ports_from r) 8 (λ p. port_of (ports_from r) p) (tabulate-length 8 4 (λ i. byte_at r i)) (λ p h. refl))

  port-said : (p : ℕ) → p < 8 → port_of (ports_from r) p ≡ byte_at r (4 + p)
  unfolding ports_from
  port-said p h = tabulate-at 8 4 p (λ i. byte_at r i) 0 h

  ports-used : (v : ℕ) → ports_bytes_fault v r ≡ 0 → uses_ports (ports_from r) ≡ true
  unfolding ports_bytes_fault
  ports-used v none = unless-zero (uses_ports (ports_from r)) 17 (λ e. omega arith) (or_else-zero _ _ none).0

  pub ports_bytes-again : (v : ℕ) → AllBytes r → length r ≡ 12 → ports_bytes_fault v r ≡ 0 → word_at r 0 ≡ length r → word_at r 2 ≡ 5
      → ports_bytes (ports_from r) ≡ r
  ports_bytes-again v below size none whole kind =
      ports_bytes-used (ports_from r) (ports-used v none)
      ∙ ap (record_bytes 5) (joined-again 1 8 (λ p. bytes_of 1 (port_of (ports_from r) p)) (drop 4 r) (omega (arith, length-drop 4 r)) part)
      ∙ record-again 5 r below (omega arith) whole kind
    where
      part : (p : ℕ) → p < 8 → bytes_of 1 (port_of (ports_from r) p) ≡ take 1 (drop (p * 1) (drop 4 r))
      part p h =
          let e : 4 + p ≡ 4 + p * 1 = omega arith in
          ap (bytes_of 1) (port-said p h)
          ∙ byte_at-again r (4 + p) below (omega arith)
          ∙ ap (λ (k : ℕ). take 1 (drop k r)) e
          ∙ ap (take 1) (sym (drop-drop (p * 1) 4 r))

-- ports for the thread that was added last
pub with_ports-last : (m : Model) (x : ℕ) (qs ps : List ℕ) → m.t < length m.starts
    → with_ports (with_start m (record { first = x; ports = qs })) ps ≡ with_start m (record { first = x; ports = ps })
unfolding with_ports with_start start_at
with_ports-last m x qs ps h =
    let s : Start = record { first = x; ports = qs } in
    let l : List Start = set m.starts m.t s in
    let e : m.t + 1 - 1 ≡ m.t = omega arith in
    let q : set l (m.t + 1 - 1) (record { first = (get_or l (m.t + 1 - 1) no_start).first; ports = ps }) ≡ set m.starts m.t (record { first = x; ports = ps }) =
    ap (λ (k : ℕ). set l k (record { first = (get_or l k no_start).first; ports = ps })) e
    ∙ ap (λ (y : Start). set l m.t (record { first = y.first; ports = ps })) (get_or-set_same m.starts m.t s no_start h)
    ∙ set-set m.starts m.t s (record { first = x; ports = ps }) in
    λ i. record { horizon = m.horizon; v = m.v; e = m.e; n = m.n; t = m.t + 1; segments = m.segments; starts = q i }
