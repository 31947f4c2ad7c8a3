-- One record: what its head says, and what follows of a head with no 1, 2 or 3.
--     is_whole-head, follows-no_kind, follows-unknown, framing_fault-..     the exits of `framing_fault`
--     opened-..     what no fault says of the length and the kind
use Prim.Native.Nat.{ℕ, ◌≤◌, ◌<◌}
use mathlib.Core.Path.{◌∙◌, ◌≡◌, refl, sym}
use mathlib.Core.Bool.{Bool, true, false, cond}
use mathlib.Core.List.{List}
use native.Mathlib.Omega.{arith}
use lib.Dec.{eqb}
use lib.ListN.{length, take}
use lib.Seq.{length-take-le}
use borrow.Author.Tests.{eqb-true, lt-leb, ne_eqb}
use Rattle.base.specs.Index.{or_else}
use Rattle.reader.specs.Word.{word_at}
use Rattle.reader.specs.Record.{follows, length_fits, framing_fault}
use Rattle.reader_laws.proofs.FrameLaws.{framed, head-length, thread-length, ports-length, follows-end}
use Rattle.reader_segment.specs.Parts.{fits}
use Rattle.reader_record.specs.declared.Kind.{Kind}
use Rattle.reader_record.specs.declared.Kind.TheVariants.{Head, Segment, Thread, End, Ports}
use Rattle.reader_record.specs.Kinds.{kind_number}
use Rattle.reader_record.specs.Parts.{is_whole}

pub is_whole-head : (b : List ℕ) → length b < 4 → false ≡ is_whole b
unfolding is_whole
is_whole-head b h = rw (lt-leb 4 (length b) h) refl

-- a number of no kind comes after nothing
pub follows-no_kind : (last n : ℕ) → ((k : Kind) → kind_number k ≡ n → ⊥) → follows last n ≡ false
unfolding follows
follows-no_kind last n none = rw (ne_eqb n 1 (λ z. none Head (sym z)), ne_eqb n 2 (λ z. none Segment (sym z)), ne_eqb n 3 (λ z. none Thread (sym z)), ne_eqb n 4 (λ z. none End (sym z)), ne_eqb n 5 (λ z. none Ports (sym z))) (go (eqb last 0) (eqb last 1) (eqb last 2) (eqb last 3) (eqb last 5))
  where
    go : (s t u w p : Bool) → cond s false (cond t false (cond u false (cond w false (cond p false false)))) ≡ false
    go true t u w p = refl
    go false true u w p = refl
    go false false true w p = refl
    go false false false true p = refl
    go false false false false true = refl
    go false false false false false = refl

-- nothing comes after a number of no kind, as after an end
pub follows-unknown : (last : ℕ) → (last ≡ 0 → ⊥) → ((k : Kind) → kind_number k ≡ last → ⊥) → (n : ℕ) → follows 4 n ≡ follows last n
unfolding follows
follows-unknown last first none n =
    rw (ne_eqb last 0 first, ne_eqb last 1 (λ z. none Head (sym z)), ne_eqb last 2 (λ z. none Segment (sym z)), ne_eqb last 3 (λ z. none Thread (sym z)), ne_eqb last 5 (λ z. none Ports (sym z))) refl

module _ (last : ℕ) (b : List ℕ) where
  pub framing_fault-short : is_whole b ≡ false → 1 ≡ framing_fault last b
  unfolding framing_fault is_whole or_else
  framing_fault-short w = rw w refl

  module _ (k : ℕ) (is_kind : k ≡ word_at b 2) where
    pub framing_fault-kind : is_whole b ≡ true → follows last k ≡ false → 2 ≡ framing_fault last b
    unfolding framing_fault is_whole or_else
    framing_fault-kind w f = rw (w, ← is_kind, f) refl

    pub framing_fault-length : (l : ℕ) → l ≡ word_at b 0 → is_whole b ≡ true → follows last k ≡ true → length_fits k l ≡ false → 3 ≡ framing_fault last b
    unfolding framing_fault is_whole or_else
    framing_fault-length l e w f h = rw (w, ← is_kind, ← e, f, h) refl

    pub framing_fault-none : (l : ℕ) → l ≡ word_at b 0 → is_whole b ≡ true → follows last k ≡ true → length_fits k l ≡ true → 0 ≡ framing_fault last b
    unfolding framing_fault is_whole or_else
    framing_fault-none l e w f h = rw (w, ← is_kind, ← e, f, h) refl

-- a record of s bytes and of kind k that begins b, with no 1, 2 or 3
pub record Opened (last : ℕ) (b : List ℕ) (s k : ℕ) : Type 0 where
  pub none : framing_fault last b ≡ 0
  pub is_size : s ≡ word_at b 0
  pub is_kind : k ≡ word_at b 2

module _ {last s k : ℕ} {b : List ℕ} (o : Opened last b s k) where
  pub opened_some : 0 < length b
  opened_some = omega (arith, (framed last b o.none).whole.head)

  pub opened-least : 4 ≤ s
  opened-least = rw o.is_size (framed last b o.none).whole.least

  pub opened-left : s ≤ length b
  opened-left = rw o.is_size (framed last b o.none).whole.left

  pub opened-length : length (take s b) ≡ s
  opened-length = length-take-le s b opened-left

  pub opened_after : follows last k ≡ true
  opened_after = rw o.is_kind (framed last b o.none).after

  pub opened-size : length_fits k s ≡ true
  opened-size = rw (o.is_size, o.is_kind) (framed last b o.none).fits

  pub opened-fits : k ≡ 2 → fits (take s b) ≡ true
  opened-fits e = rw (opened-length, ← e) opened-size

  pub opened-head : k ≡ 1 → length (take s b) ≡ 10
  opened-head e = opened-length ∙ head-length s k opened-size e

  pub opened-thread : k ≡ 3 → length (take s b) ≡ 5
  opened-thread e = opened-length ∙ thread-length s k opened-size e

  pub opened-last : k ≡ 4 → s ≡ 4
  unfolding length_fits
  opened-last e = eqb-true s 4 (rw e at opened-size)

  pub opened-ports : k ≡ 5 → length (take s b) ≡ 12
  opened-ports e = opened-length ∙ ports-length s k opened-size e

  pub opened-end : (k ≡ 1 → ⊥) → (k ≡ 2 → ⊥) → (k ≡ 3 → ⊥) → (k ≡ 5 → ⊥) → k ≡ 4
  opened-end = follows-end last k opened_after
