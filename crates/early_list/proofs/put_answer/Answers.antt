-- `early_list::put_answer` meets its contract.
use Rattle.early_list.proofs.put_answer.Goals as goal

pub returns-in-Granted : goal.returns-in-Granted
returns-in-Granted c = rw c.in-Granted.is (rw (c.from.ensures, c.from-in-Granted.ensures, c.from-in-Granted-2.ensures) at c.put_words.ensures)

pub returns-in-Refused : goal.returns-in-Refused
returns-in-Refused c = rw c.in-Refused.is (rw (c.from-in-Refused.ensures, c.from-in-Refused-2.ensures) at c.put_words-in-Refused.ensures)
