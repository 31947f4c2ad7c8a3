-- Notes of which segments notify which events, and what they lower.
--     lowered_by-..     one note more, of the event or of another; ways that are the same at the noted segments
--     notes_of-..     the notes of one segment, statement after statement
--     all_notes-..     those of all segments: what they lower from never is the least over the segments that notify
use Prim.Native.Nat.{ℕ, zero, suc, ◌+◌, ◌*◌, ◌/◌, ◌%◌, ◌≤◌, ◌<◌}
use mathlib.Core.Path.{◌≡◌, refl, ap, sym, ◌∙◌}
use mathlib.Core.Bool.{Bool, true, false, cond, ◌||◌, or-false}
use mathlib.Core.List.{List, []}
use native.Mathlib.Omega.{arith}
use native.Mathlib.Decide.{dec_lt, ℕ_discrete}
use native.Mathlib.Numerals.{add-one}
use lib.Dec.{eqb}
use lib.ListN.{length, get_or, set, take, length-set}
use lib.Seq.{get_or-set_same, get_or-set_other, take_all}
use Rattle.std.proofs.lemmas.List.{length-take, length-take-le, get_or-take}
use Rattle.base.proofs.ListLaws.{get_d_any}
use borrow.Author.Tests.{eq-eqb, ne_eqb}
use Rattle.base.proofs.BoolLaws.{cond-case}
use Rattle.model.specs.declared.Op.{Op}
use Rattle.model.specs.declared.Op.TheVariants.{Set, Add, Copy, AddVariable, SubVariable, Notify}
use Rattle.model.specs.declared.Statement.{Statement}
use Rattle.model.specs.declared.Segment.{Segment}
use Rattle.model.specs.declared.Model.{Model}
use Rattle.model.specs.Values.{segment_at, body_of}
use Rattle.model.specs.Statement.{notified_by, notified_by_op}
use Rattle.model.specs.Footprint.{has}
use Rattle.model_effect.proofs.StatementLaws.{notified_by-none, notified_by-more}
use Rattle.model_effect.proofs.FootprintLaws.{has-append}
use Rattle.tables.specs.Word.{all_ones}
use Rattle.early_limits.specs.Limit.{lesser, lesser_below, at_most}
use Rattle.early_ahead.proofs.LimitLaws.{lesser-≤, lesser-again, lesser-never, lesser_below-most, at_most-less, at_most-full}
use Rattle.early_reach.specs.Store.{event_of, lowered_by, NotesBelow, NotesOf}

module _ (notes : List ℕ) (f : ℕ → ℕ) (e w : ℕ) where
  pub lowered_by-here : (k : ℕ) → get_or notes k 0 % 32 ≡ e → lowered_by notes (suc k) f e w ≡ lesser (lowered_by notes k f e w) (f (get_or notes k 0 / 32))
  unfolding lowered_by
  lowered_by-here k h = rw (eq-eqb (get_or notes k 0 % 32) e h) refl

  pub lowered_by-other : (k : ℕ) → (get_or notes k 0 % 32 ≡ e → ⊥) → lowered_by notes (suc k) f e w ≡ lowered_by notes k f e w
  unfolding lowered_by
  lowered_by-other k h = rw (ne_eqb (get_or notes k 0 % 32) e h) refl

  pub lowered_by-most : (k : ℕ) → lowered_by notes k f e w ≤ w
  unfolding lowered_by
  lowered_by-most zero = omega arith
  lowered_by-most (suc k) =
      let before = lowered_by-most k in
      cond-case (λ (z : ℕ). z ≤ w) (eqb (get_or notes k 0 % 32) e) (λ t. omega (arith, lesser-≤ (lowered_by notes k f e w) (f (get_or notes k 0 / 32)))) (λ t. before)

  pub lowered_by-ways : (g : ℕ → ℕ) (k : ℕ) → ((q : ℕ) → q < k → g (get_or notes q 0 / 32) ≡ f (get_or notes q 0 / 32)) → lowered_by notes k g e w ≡ lowered_by notes k f e w
  unfolding lowered_by
  lowered_by-ways g zero same = refl
  lowered_by-ways g (suc k) same = rw (lowered_by-ways g k (λ q h. same q (omega arith)), same k (omega arith)) refl

  lowered_by-notes : (other : List ℕ) (k : ℕ) → ((q : ℕ) → q < k → get_or other q 0 ≡ get_or notes q 0) → lowered_by other k f e w ≡ lowered_by notes k f e w
  unfolding lowered_by
  lowered_by-notes other zero same = refl
  lowered_by-notes other (suc k) same = rw (lowered_by-notes other k (λ q h. same q (omega arith)), same k (omega arith)) refl

  -- a note v stored at k
  lowered_by-set : (k v : ℕ) → k < length notes
      → lowered_by (set notes k v) (k + 1) f e w ≡ cond (eqb (v % 32) e) (lesser (lowered_by notes k f e w) (f (v / 32))) (lowered_by notes k f e w)
  unfolding lowered_by
  lowered_by-set k v h =
      rw (add-one k, get_or-set_same notes k v 0 h, lowered_by-notes (set notes k v) k (λ q l. get_or-set_other notes k q v 0 (λ z. omega arith))) refl

-- the notes of one segment

has-op : (o : Op) (q : ℕ) → q < 32 → has (notified_by_op o []) q ≡ eqb (event_of o) q
unfolding has event_of
has-op (Set a b) q h = sym (ne_eqb 255 q (λ e. omega arith))
has-op (Add a b) q h = sym (ne_eqb 255 q (λ e. omega arith))
has-op (Copy a b) q h = sym (ne_eqb 255 q (λ e. omega arith))
has-op (AddVariable a b) q h = sym (ne_eqb 255 q (λ e. omega arith))
has-op (SubVariable a b) q h = sym (ne_eqb 255 q (λ e. omega arith))
has-op (Notify w) q h = or-false (eqb w q)

-- an operation that notifies, and any other
pub event_of-event : (o : Op) (w : ℕ) → o ≡ Notify w → w ≡ event_of o
unfolding event_of
event_of-event o w e = rw e refl

pub event_of-other : (o : Op) → ((w : ℕ) → o ≡ Notify w → ⊥) → event_of o ≡ 255
unfolding event_of
event_of-other (Set a b) n = refl
event_of-other (Add a b) n = refl
event_of-other (Copy a b) n = refl
event_of-other (AddVariable a b) n = refl
event_of-other (SubVariable a b) n = refl
event_of-other (Notify w) n = absurd (n w refl)

-- lowered for some events, then for one more
cond-join : (a b : Bool) (w d : ℕ) → cond b (lesser (cond a (lesser w d) w) d) (cond a (lesser w d) w) ≡ cond (a || b) (lesser w d) w
cond-join true true w d = lesser-again w d
cond-join true false w d = refl
cond-join false true w d = refl
cond-join false false w d = refl

-- a statement as a loop over the first n reads it
pub statement-read : (ss : List Statement) (n j : ℕ) (d : Statement) → j < length (take n ss) → get_or ss j (get_or (take n ss) j d) ≡ get_or (take n ss) j d
statement-read ss n j d h =
    get_d_any ss j (get_or (take n ss) j d) d (omega (arith, length-take n ss)) ∙ sym (get_or-take n ss j d (omega (arith, length-take n ss)))

module _ (s from : ℕ) (first : List ℕ) (ss : List Statement) where
  pub notes_of-none : NotesOf s (notified_by (take 0 ss)) from first 0 from first
  unfolding has
  notes_of-none = record { same_length = refl; most = omega arith; lowers = λ f e w l. rw (notified_by-none ss) refl; below = λ n h b. b }

  has_more : (j e : ℕ) (x : Statement) → j < length ss → get_or ss j x ≡ x → e < 32 → has (notified_by (take (j + 1) ss)) e ≡ (has (notified_by (take j ss)) e || eqb (event_of x.op) e)
  has_more j e x h d l =
      rw (add-one j, notified_by-more ss j x h, d)
      (has-append (notified_by (take j ss)) (notified_by_op x.op []) e ∙ ap (λ (b : Bool). has (notified_by (take j ss)) e || b) (has-op x.op e l))

  -- a statement that notifies an event below 32; any other
  pub notes_of-event :
      (j k d v : ℕ) (x : Statement) (notes : List ℕ) → NotesOf s (notified_by (take j ss)) from first j k notes → j < length ss → get_or ss j x ≡ x → d ≡ event_of x.op → d < 32 →
      k < length notes → v ≡ s * 32 + d → NotesOf s (notified_by (take (j + 1) ss)) from first (j + 1) (k + 1) (set notes k v)
  notes_of-event j k d v x notes had h read is l fits made =
      record {
        same_length = length-set notes k v ∙ had.same_length;
        most = omega (arith, had.most);
        lowers = λ f e w b. lowers f e w b;
        below = λ n b before q c. below n b (had.below n b before) q c (ℕ_discrete q k);
      }
    where
      segment : v / 32 ≡ s
      segment = omega arith

      event : v % 32 ≡ d
      event = omega arith

      lowers : (f : ℕ → ℕ) (e w : ℕ) → e < 32
          → lowered_by (set notes k v) (k + 1) f e w ≡ cond (has (notified_by (take (j + 1) ss)) e) (lesser (lowered_by first from f e w) (f s)) (lowered_by first from f e w)
      lowers f e w b =
          lowered_by-set notes f e w k v fits
          ∙ rw (segment, event, is, had.lowers f e w b, has_more j e x h read b)
          (cond-join (has (notified_by (take j ss)) e) (eqb (event_of x.op) e) (lowered_by first from f e w) (f s))

      below : (n : ℕ) → s < n → NotesBelow n notes k → (q : ℕ) → q < k + 1 → Dec (q ≡ k) → get_or (set notes k v) q 0 / 32 < n
      below n b before q c (yes z) = rw (z, get_or-set_same notes k v 0 fits, segment) b
      below n b before q c (no z) = rw (get_or-set_other notes k q v 0 z) (before q (omega arith))

  pub notes_of-other :
      (j k d : ℕ) (x : Statement) (notes : List ℕ) → NotesOf s (notified_by (take j ss)) from first j k notes → j < length ss → get_or ss j x ≡ x → d ≡ event_of x.op → 32 ≤ d →
      NotesOf s (notified_by (take (j + 1) ss)) from first (j + 1) k notes
  notes_of-other j k d x notes had h read is far =
      record {
        same_length = had.same_length;
        most = omega (arith, had.most);
        lowers =
            λ f e w b.
            rw (has_more j e x h read b, ne_eqb (event_of x.op) e (λ z. omega arith), or-false (has (notified_by (take j ss)) e)) (had.lowers f e w b);
        below = had.below;
      }

pub notes_of-body :
    (s from : ℕ) (first : List ℕ) (g : Segment) (j k : ℕ) (notes : List ℕ) → length g.statements ≡ 32 → j ≡ at_most 32 g.n →
    NotesOf s (notified_by (take j g.statements)) from first j k notes → j ≤ 32 → NotesOf s (notified_by (body_of g)) from first 32 k notes
unfolding body_of
notes_of-body s from first g j k notes size e had most = go (dec_lt g.n 32)
  where
    wide : NotesOf s (notified_by (take j g.statements)) from first 32 k notes
    wide = record { same_length = had.same_length; most = omega (arith, had.most); lowers = had.lowers; below = had.below }

    go : Dec (g.n < 32) → NotesOf s (notified_by (take g.n g.statements)) from first 32 k notes
    go (yes h) = rw (e ∙ sym (at_most-less 32 g.n h)) at wide
    go (no h) = rw (take_all g.n g.statements (omega arith), ← take_all j g.statements (let f = at_most-full 32 g.n (omega arith) in omega arith)) wide

-- k notes, of the first s segments
pub record AllNotes (m : Model) (s k : ℕ) (notes : List ℕ) : Type 0 where
  pub most : k ≤ s * 32
  pub lowers : (f : ℕ → ℕ) (e : ℕ) → e < 32 → lowered_by notes k f e all_ones ≡ lesser_below s (λ i. cond (has (notified_by (body_of (segment_at m i))) e) (f i) all_ones)
  pub below : NotesBelow s notes k

-- the first k of the places are the notes
pub all_notes-taken : (m : Model) (s k : ℕ) (notes : List ℕ) → k ≤ length notes → AllNotes m s k notes → AllNotes m s (length (take k notes)) (take k notes)
all_notes-taken m s k notes fits had =
    rw (length-take-le k notes fits)
    (record {
      most = had.most;
      lowers = λ f e l. lowered_by-notes notes f e all_ones (take k notes) k (λ q b. get_or-take k notes q 0 b) ∙ had.lowers f e l;
      below = λ q b. rw (get_or-take k notes q 0 b) (had.below q b);
    })

cond-lesser : (a : Bool) (x d : ℕ) → x ≤ all_ones → cond a (lesser x d) x ≡ lesser x (cond a d all_ones)
cond-lesser true x d h = refl
cond-lesser false x d h = sym (lesser-never x h)

module _ (m : Model) where
  pub all_notes-none : (notes : List ℕ) → AllNotes m 0 0 notes
  unfolding lowered_by lesser_below
  all_notes-none notes = record { most = omega arith; lowers = λ f e l. refl; below = λ q l. absurd (omega arith) }

  pub all_notes-more :
      (s k k' : ℕ) (g : Segment) (notes notes' : List ℕ) → AllNotes m s k notes → g ≡ segment_at m s → NotesOf s (notified_by (body_of g)) k notes 32 k' notes' →
      AllNotes m (s + 1) k' notes'
  unfolding lesser_below
  all_notes-more s k k' g notes notes' had e more =
      record {
        most = omega (arith, had.most, more.most);
        lowers = λ f e l. lowers f e l;
        below = more.below (s + 1) (omega arith) (λ q l. omega (arith, had.below q l));
      }
    where
      least : (ℕ → ℕ) → ℕ → ℕ → ℕ
      least f e i = cond (has (notified_by (body_of (segment_at m i))) e) (f i) all_ones

      lowers : (f : ℕ → ℕ) (e : ℕ) → e < 32 → lowered_by notes' k' f e all_ones ≡ lesser_below (s + 1) (λ i. cond (has (notified_by (body_of (segment_at m i))) e) (f i) all_ones)
      lowers f q l =
          rw (add-one s)
          (more.lowers f q all_ones l
          ∙ rw (e, had.lowers f q l) (cond-lesser (has (notified_by (body_of (segment_at m s))) q) (lesser_below s (least f q)) (f s) (lesser_below-most (least f q) s)))
