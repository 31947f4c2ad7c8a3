-- The exits of `load` and `load_by_rows`, and the marks of what was loaded.
use Prim.Native.Nat.{ℕ, ◌<◌, ◌≤◌}
use mathlib.Core.Path.{◌≡◌, refl, sym, ap, ◌∙◌}
use mathlib.Core.Bool.{Bool, true, false, cond}
use mathlib.Core.List.{List}
use native.Mathlib.Omega.{arith}
use lib.Dec.{ltb, eqb}
use borrow.Author.Tests.{ne_eqb, lt-ltb, le-ltb}
use Rattle.base.specs.Index.{or_else}
use Rattle.base.proofs.IndexLaws.{or_else-none, or_else-some, or_else-zero}
use Rattle.model.specs.Refusal.{accepted, short_table}
use Rattle.model.specs.Values.{no_model}
use Rattle.model.specs.Rules.{model_fault, head_fault}
use Rattle.reader.specs.Read.{Read}
use Rattle.reader.specs.File.{read_or, read_file}
use Rattle.reader_laws.proofs.Reading.{read_or-accepted}
use Rattle.reader_laws.proofs.Accepted.{accepted-kept, read_or-refused, refused-zero}
use Rattle.tables.specs.Conflict.{marks_of, no_marks}
use Rattle.tables.specs.Word.{stored}
use Rattle.tables.specs.Outcome.{is_short, distances_number, distances_buffer}
use Rattle.tables.proofs.OutcomeLaws.{if_held-yes, conflict-unfit, conflict-held}
use Rattle.reader_load.specs.Load.{load_number, load_of, load_buffer, load_marks, by_rows_number, load_by_rows}

abbrev pub Loads : List ℕ → List ℕ → Read → List ℕ → Type 0
Loads bytes ws r us = (r ≡ load_of bytes ws) × (us ≡ load_buffer bytes ws)

read_or-some : (n : ℕ) (m : _) → (n ≡ 0 → ⊥) → read_or n m ≡ record { number = n; model = no_model }
read_or-some n m h = rw (ne_eqb n 0 h) refl

-- a zero model has no horizon
no-head : model_fault no_model ≡ 4
unfolding model_fault head_fault or_else
no-head = refl

module _ (bytes ws : List ℕ) where
  pub load-refused : (r : Read) → r ≡ read_file bytes → (r.number ≡ 0 → ⊥) → Loads bytes ws r ws
  unfolding load_of load_buffer load_number
  load-refused r e h =
      let g : (read_file bytes).number ≡ 0 → ⊥ = rw e at h in
      let n = or_else-some (read_file bytes).number (cond (is_short (read_file bytes).model ws) short_table accepted) g in
      (rw (n, read_or-some (read_file bytes).number (read_file bytes).model g, ← refused-zero bytes g, e) refl, rw (n, ne_eqb (read_file bytes).number 0 g) refl)

  -- on an accepted file the tables' answer is the buffer's
  module _ (r : Read) (e : r ≡ read_file bytes) (z : r.number ≡ 0) where
    held : model_fault r.model ≡ 0
    held = rw e (accepted-kept bytes (rw e at z))

    number : load_number r ws ≡ distances_number r.model ws
    unfolding load_number distances_number
    number = or_else-none r.number _ z ∙ sym (if_held-yes r.model _ 11 held)

    -- short, or not
    buffer_of : Bool → ℕ × List ℕ
    buffer_of short = (cond short short_table accepted, cond short ws (stored r.model ws))

    tables : (distances_number r.model ws ≡ (buffer_of (is_short r.model ws)).0) × (distances_buffer r.model ws ≡ (buffer_of (is_short r.model ws)).1)
    unfolding distances_number distances_buffer buffer_of
    tables = (if_held-yes r.model _ 11 held, if_held-yes r.model _ ws held)

    buffer : distances_buffer r.model ws ≡ cond (eqb (distances_number r.model ws) accepted) (stored r.model ws) ws
    unfolding buffer_of
    buffer = rw (tables.0, tables.1) (go (is_short r.model ws))
      where
        go : (b : Bool) → cond b ws (stored r.model ws) ≡ cond (eqb (cond b short_table accepted) accepted) (stored r.model ws) ws
        go true = refl
        go false = refl

    same : Loads bytes ws (read_or (distances_number r.model ws) r.model) (distances_buffer r.model ws)
    unfolding load_of load_buffer
    same = rw (← e, number, buffer) (refl, refl)

    pub load-short : (n : ℕ) (us : List ℕ) → n ≡ distances_number r.model ws → (n ≡ 0 → ⊥) → us ≡ distances_buffer r.model ws → Loads bytes ws (record { number = n; model = no_model }) us
    load-short n us p h q = rw (q, ← read_or-some n r.model h, p) same

    pub load-done : (n : ℕ) (us : List ℕ) → n ≡ distances_number r.model ws → n ≡ 0 → us ≡ distances_buffer r.model ws → Loads bytes ws r us
    load-done n us p h q =
        let d : distances_number r.model ws ≡ 0 = sym p ∙ h in
        let (x, y) = same in
        (ap (λ (k : ℕ). record { number = k; model = r.model }) z ∙ (rw d at x), q ∙ y)

  -- the marks: those of the model, or unset beside a number
  pub loaded-marks : (load_of bytes ws).number ≡ 0 → load_marks bytes ws ≡ marks_of (read_file bytes).model
  unfolding load_marks load_of load_number
  loaded-marks e =
      let (z, same) = read_or-accepted (load_number (read_file bytes) ws) (read_file bytes).model e in
      let kept = accepted-kept bytes (or_else-zero (read_file bytes).number _ z).0 in
      rw same (sym (conflict-held (read_file bytes).model kept).1)

  pub refused-marks : ((load_of bytes ws).number ≡ 0 → ⊥) → load_marks bytes ws ≡ no_marks
  unfolding load_marks load_of
  refused-marks h = rw (read_or-refused (load_number (read_file bytes) ws) (read_file bytes).model h) (sym (conflict-unfit no_model none).1)
    where
      none : model_fault no_model ≡ 0 → ⊥
      none e = absurd (omega (arith, no-head))

-- the entry by rows
module _ (bytes : List ℕ) (lent : ℕ) (r : Read) (e : r ≡ read_file bytes) where
  pub rows-refused : (r.number ≡ 0 → ⊥) → r ≡ load_by_rows bytes lent
  unfolding load_by_rows by_rows_number
  rows-refused h =
      let g : (read_file bytes).number ≡ 0 → ⊥ = rw e at h in
      rw (or_else-some (read_file bytes).number (cond (ltb lent 64) short_table accepted) g, read_or-some (read_file bytes).number (read_file bytes).model g, ← refused-zero bytes g, e) refl

  module _ (z : r.number ≡ 0) where
    number-rows : by_rows_number (read_file bytes) lent ≡ cond (ltb lent 64) short_table accepted
    unfolding by_rows_number
    number-rows = or_else-none (read_file bytes).number _ (rw e at z)

    pub rows_short : lent < 64 → record { number = 16; model = no_model } ≡ load_by_rows bytes lent
    unfolding load_by_rows
    rows_short h = rw (number-rows, lt-ltb lent 64 h) refl

    pub rows-done : 64 ≤ lent → r ≡ load_by_rows bytes lent
    unfolding load_by_rows
    rows-done h = rw (number-rows, le-ltb lent 64 h, ← e) (ap (λ (k : ℕ). record { number = k; model = r.model }) z)
