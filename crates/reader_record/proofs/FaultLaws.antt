-- What a record's body says: 4, then a segment's 5 to 7 or the 17 of a thread's ports.
--     record_fault-.., own_fault-..     1 to 7 and 17 in the parts that the code computes
--     count-segment, count-thread     there is room for a segment, for a thread
use Prim.Native.Nat.{ℕ, ◌<◌}
use mathlib.Core.Path.{sym, ◌∙◌, ◌≡◌, refl}
use mathlib.Core.Bool.{true}
use mathlib.Core.List.{List}
use native.Mathlib.Omega.{arith}
use lib.Dec.{ltb}
use lib.ListN.{take}
use borrow.Author.Tests.{ltb-true, ne_eqb}
use Rattle.base.specs.Index.{or_else}
use Rattle.base.proofs.IndexLaws.{or_else-none, or_else-zero}
use Rattle.model_rules.proofs.FaultLaws.{fault-here, unless-zero}
use Rattle.reader.specs.Word.{word_at}
use Rattle.reader.specs.Record.{follows, framing_fault, ports_bytes_fault}
use Rattle.reader_segment.specs.Parts.{fits, segment_record_fault}
use Rattle.reader_segment.proofs.SegmentLaws.{segment_record_fault-fits}
use Rattle.reader_record.specs.declared.Counts.{Counts}
use Rattle.reader_record.specs.Parts.{count_fault, own_fault, record_fault}
use Rattle.reader_record.proofs.RecordLaws.{Opened}

module _ (last : ℕ) (c : Counts) (b : List ℕ) where
  pub record_fault-framing : (x : ℕ) → x ≡ framing_fault last b → (x ≡ 0 → ⊥) → x ≡ record_fault last c b
  unfolding record_fault
  record_fault-framing x p z = fault-here _ _ x p z

  pub record_fault-framed : record_fault last c b ≡ 0 → framing_fault last b ≡ 0
  unfolding record_fault
  record_fault-framed z = (or_else-zero _ _ z).0

-- what came last counts for what may follow alone
pub record_fault-last : (a d : ℕ) (c : Counts) (b : List ℕ) → ((n : ℕ) → follows a n ≡ follows d n) → record_fault a c b ≡ record_fault d c b
unfolding record_fault framing_fault
record_fault-last a d c b same = rw (same (word_at b 2)) refl

module _ {last s k : ℕ} {b : List ℕ} (o : Opened last b s k) (c : Counts) where
  record_fault-opened : record_fault last c b ≡ or_else (count_fault k c (take s b)) (own_fault k c.v c.e (take s b))
  unfolding record_fault
  record_fault-opened = rw (o.is_size, o.is_kind) (or_else-none _ _ o.none)

  pub record_fault-counts : record_fault last c b ≡ 0 → count_fault k c (take s b) ≡ 0
  record_fault-counts z = (or_else-zero _ _ (sym record_fault-opened ∙ z)).0

  module _ (x : ℕ) (is : x ≡ count_fault k c (take s b)) where
    pub record_fault-count : (x ≡ 0 → ⊥) → x ≡ record_fault last c b
    record_fault-count n = fault-here _ _ x is n ∙ sym record_fault-opened

    pub record_fault-own : (y : ℕ) → x ≡ 0 → y ≡ own_fault k c.v c.e (take s b) → y ≡ record_fault last c b
    record_fault-own y z p = p ∙ sym (record_fault-opened ∙ or_else-none _ _ (sym is ∙ z))

-- a segment's own faults, those of a thread's ports, and no others
module _ (k : ℕ) (v e : ℕ) (r : List ℕ) where
  pub own_fault-segment : (y : ℕ) → k ≡ 2 → fits r ≡ true → y ≡ segment_record_fault v e r → y ≡ own_fault k v e r
  unfolding own_fault
  own_fault-segment y is f p = p ∙ (segment_record_fault-fits v e r f ∙ rw is refl)

  pub own_fault-ports : (y : ℕ) → k ≡ 5 → y ≡ ports_bytes_fault v r → y ≡ own_fault k v e r
  unfolding own_fault
  own_fault-ports y is p = p ∙ rw is refl

  pub own_fault-other : (k ≡ 2 → ⊥) → (k ≡ 5 → ⊥) → 0 ≡ own_fault k v e r
  unfolding own_fault
  own_fault-other n m = rw (ne_eqb k 2 n, ne_eqb k 5 m) refl

module _ (k : ℕ) (c : Counts) (r : List ℕ) (none : count_fault k c r ≡ 0) where
  pub count-segment : k ≡ 2 → c.n < 64
  unfolding count_fault
  count-segment e = ltb-true c.n 64 (unless-zero (ltb c.n 64) 4 (λ z. omega arith) (rw e at none))

  pub count-thread : k ≡ 3 → c.t < 32
  unfolding count_fault
  count-thread e = ltb-true c.t 32 (unless-zero (ltb c.t 32) 4 (λ z. omega arith) (rw e at none))
