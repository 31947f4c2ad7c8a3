-- `early_request::fresh_site` meets its contract.
use Rattle.early_request.proofs.FreshLaws.{fresh_site-made}
use Rattle.early_request.proofs.fresh_site.Goals as goal

pub returns : goal.returns
returns c = fresh_site-made
