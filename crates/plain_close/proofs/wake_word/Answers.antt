-- `plain_close::wake_word` meets its contract.
use Rattle.std.proofs.Common.{not, ap, ◌∙◌}
use borrow.Author.Tests.{not-true, not-false}
use Rattle.plain_state.proofs.ExitLaws.{wake_word-ready, wake_word-over, wake_word-unmarked, wake_word-later, wake_word-wakes}
use Rattle.plain_close.proofs.wake_word.Goals.{then-w-lt-WAITING-via-then-w-lt-WAITING, then-w-lt-WAITING-via-else-w-lt-WAITING+then-w-ge-ENDED, then-not-told-e-via-then-not-told-e, then-not-told-e-via-else-not-told-e+then-key-x}
use Rattle.plain_close.proofs.wake_word.Goals as goal

pub returns-then-w-lt-WAITING : goal.returns-then-w-lt-WAITING
returns-then-w-lt-WAITING c = let a = c.args in
    elim c.then-w-lt-WAITING.branch [
      | then-w-lt-WAITING-via-then-w-lt-WAITING w ↦ wake_word-ready a.told.now a.key a.w w.if-w-lt-WAITING.true
      | then-w-lt-WAITING-via-else-w-lt-WAITING+then-w-ge-ENDED w ↦ wake_word-over a.told.now a.key a.w w.if-w-ge-ENDED.true
    ]

pub returns-then-not-told-e : goal.returns-then-not-told-e
returns-then-not-told-e c = let a = c.args in
    let waiting = c.if-w-lt-WAITING.false in
    let on = c.if-w-ge-ENDED.false in
    elim c.then-not-told-e.branch [
      | then-not-told-e-via-then-not-told-e w ↦ wake_word-unmarked a.told.now a.key a.w waiting on (not-true _ (ap not w.if-not-told-e.true))
      | then-not-told-e-via-else-not-told-e+then-key-x w ↦ wake_word-later a.told.now a.key a.w waiting on (not-false _ (ap not w.if-not-told-e.false)) w.if-key-x.true
    ]

pub returns : goal.returns
returns c = let a = c.args in
    c.next_delta.ensures ∙ wake_word-wakes a.told.now a.key a.w c.if-w-lt-WAITING.false c.if-w-ge-ENDED.false (not-false _ (ap not c.if-not-told-e.false)) c.if-key-x.false
