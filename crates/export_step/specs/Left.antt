-- What a request on some of 40 records leaves, as a request by value would: the first 32 of them.
use Rattle.std.specs.Prelude.{take}
use Rattle.early.specs.declared.After.{After}
use Rattle.early_lent.specs.declared.Lent.{Lent}

unfoldable pub left_of : Lent → After
left_of x = record { answer = x.asked.answer; site = x.asked.site; threads = record { at = take 32 x.records } }
