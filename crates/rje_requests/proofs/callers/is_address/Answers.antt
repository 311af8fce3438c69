use Rattle.rje_requests.proofs.Addresses.{address_told}
use Rattle.rje_requests.proofs.callers.is_address.Goals as goal

pub returns : goal.returns
returns c = address_told c.args.text.now c.parse.result c.is_ok.result c.is_ok.ensures.value c.parse.ensures.value
