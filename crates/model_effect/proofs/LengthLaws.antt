-- The number of places of each declared array, as owning its record tells it.
--     variables_length, statements-length, segments-length, starts-length, threads-length, events-length
use Rattle.std.proofs.Common.{◌≡◌, List, length}
use mir.Val.{Val}
use denote.Laws.{Is}
use denote.Struct.Laws as LL
use Rattle.model.specs.declared.Variables.{Variables}
use Rattle.model.specs.declared.Segment.{Segment}
use Rattle.model.specs.declared.Model.{Model}
use Rattle.model.specs.declared.Threads.{Threads}
use Rattle.model.specs.declared.Events.{Events}
use Rattle.model.specs.contracts.Variables as variables
use Rattle.model.proofs.Variables.TheLaws as variables'
use Rattle.model.specs.contracts.Segment as segment
use Rattle.model.proofs.Segment.TheLaws as segment'
use Rattle.model.specs.contracts.Model as model
use Rattle.model.proofs.Model.TheLaws as model'
use Rattle.model.specs.contracts.Threads as threads
use Rattle.model.proofs.Threads.TheLaws as threads'
use Rattle.model.specs.contracts.Events as events
use Rattle.model.proofs.Events.TheLaws as events'

pub variables_length : (v : Variables) (vs : List Val) → Is variables.the_row v vs → length v.at ≡ 64
variables_length v vs g = (LL.owed variables.the_type variables'.the_laws v vs g).0.1.0.1

pub statements-length : (g : Segment) (vs : List Val) → Is segment.the_row g vs → length g.statements ≡ 32
statements-length g vs h = (LL.owed segment.the_type segment'.the_laws g vs h).1.1.0.1.0.1

pub segments-length : (m : Model) (vs : List Val) → Is model.the_row m vs → length m.segments ≡ 64
segments-length m vs g = (LL.owed model.the_type model'.the_laws m vs g).1.1.1.1.1.0.1.0.1

pub starts-length : (m : Model) (vs : List Val) → Is model.the_row m vs → length m.starts ≡ 32
starts-length m vs g = (LL.owed model.the_type model'.the_laws m vs g).1.1.1.1.1.1.0.1.0.1

pub threads-length : (t : Threads) (vs : List Val) → Is threads.the_row t vs → length t.at ≡ 32
threads-length t vs g = (LL.owed threads.the_type threads'.the_laws t vs g).0.1.0.1

pub events-length : (x : Events) (vs : List Val) → Is events.the_row x vs → length x.at ≡ 32
events-length x vs g = (LL.owed events.the_type events'.the_laws x vs g).1.0.1.0.1
