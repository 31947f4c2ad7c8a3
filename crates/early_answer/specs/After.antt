-- What a request on values returns: the answer, the state and the records of `request_of`.
use Rattle.early.specs.declared.After.{After}
use Rattle.early.specs.Request.{Requested}

unfoldable pub after_of : Requested → After
after_of r = record { answer = r.answer; site = r.site; threads = record { at = r.threads } }
