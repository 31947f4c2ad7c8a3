-- Document 01, "Early issue": "the public request then works on a lent slice of thread records". What it returns beside the records.
use Rattle.std.specs.Prelude.{ℕ, min, Bool, List, ◌++◌, take, drop}
use Rattle.model.specs.declared.Model.{Model}
use Rattle.model.specs.declared.Thread.{Thread}
use Rattle.early.specs.declared.Site.{Site}
use Rattle.early.specs.Request.{Requested, request_of}
use Rattle.early_lent.specs.declared.Asked.{Asked}
use Rattle.early_lent.specs.declared.Lent.{Lent}

abbrev pub asked_of : Requested → Asked
asked_of r = record { answer = r.answer; site = r.site }

-- beside the records that were lent stand the others
abbrev pub lent_of : Requested → List Thread → Lent
lent_of r rest = record { asked = asked_of r; records = r.threads ++ rest }

-- a request on a slice of the first so many of 40 records, or of all
unfoldable pub request_first : Model → List (List Bool) → List ℕ → Site → List Thread → ℕ → ℕ → Lent
request_first m marks ws site ts lent k =
    let n = min lent 40 in
    lent_of (request_of m marks ws site (take n ts) k) (drop n ts)
