-- `reader_file::lack_number` meets its contract: 18 of the model that was built.
use Rattle.reader_file.proofs.LackLaws.{lack-asked}
use Rattle.reader_file.proofs.lack_number.Goals as goal

pub returns : goal.returns
returns c = lack-asked _ _ c.model_from.ensures _ c.lack_fault.ensures
