-- What the code reads of a model: the number of places of each array, as owning its record tells it, and elements as the definitions name them.
--     statements-length, segments-length, starts-length, ports-length; segment_at-read, ports_at-read
use Prim.Native.Nat.{ℕ, ◌<◌}
use mathlib.Core.Path.{◌≡◌, ap}
use mathlib.Core.List.{List}
use mir.Val.{Val}
use denote.Laws.{Is}
use denote.Struct.Laws as LL
use lib.ListN.{length, get_or}
use Rattle.base.proofs.ListLaws.{get_d_any}
use Rattle.model.specs.declared.Segment.{Segment}
use Rattle.model.specs.declared.Start.{Start}
use Rattle.model.specs.declared.Model.{Model}
use Rattle.model.specs.Values.{no_segment, no_start, segment_at, start_at, ports_at}
use Rattle.model.specs.contracts.Segment as segment
use Rattle.model.proofs.Segment.TheLaws as segment'
use Rattle.model.specs.contracts.Start as start
use Rattle.model.proofs.Start.TheLaws as start'
use Rattle.model.specs.contracts.Model as model
use Rattle.model.proofs.Model.TheLaws as model'

pub statements-length : (g : Segment) (vs : List Val) → Is segment.the_row g vs → length g.statements ≡ 32
statements-length g vs h = (LL.owed segment.the_type segment'.the_laws g vs h).1.1.0.1.0.1

pub ports-length : (x : Start) (vs : List Val) → Is start.the_row x vs → length x.ports ≡ 8
ports-length x vs h = (LL.owed start.the_type start'.the_laws x vs h).1.0.1.0.1

pub segments-length : (m : Model) (vs : List Val) → Is model.the_row m vs → length m.segments ≡ 64
segments-length m vs g = (LL.owed model.the_type model'.the_laws m vs g).1.1.1.1.1.0.1.0.1

pub starts-length : (m : Model) (vs : List Val) → Is model.the_row m vs → length m.starts ≡ 32
starts-length m vs g = (LL.owed model.the_type model'.the_laws m vs g).1.1.1.1.1.1.0.1.0.1

pub segment_at-read : (m : Model) (i : ℕ) (d : Segment) → i < length m.segments → get_or m.segments i d ≡ segment_at m i
unfolding segment_at
segment_at-read m i d h = get_d_any m.segments i d no_segment h

pub ports_at-read : (m : Model) (k : ℕ) (d : Start) → k < length m.starts → (get_or m.starts k d).ports ≡ ports_at m k
unfolding ports_at start_at
ports_at-read m k d h = ap (λ (x : Start). x.ports) (get_d_any m.starts k d no_start h)
