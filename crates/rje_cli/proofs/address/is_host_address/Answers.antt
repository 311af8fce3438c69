use Rattle.std.proofs.Common.{◌≡◌, false}
use Rattle.std.specs.Prelude.{is_some}
use Rattle.rje_cli.proofs.Hosts.{no_address, other_told}
use Rattle.rje_cli.proofs.address.is_host_address.Goals as goal

pub returns-else-is_some : goal.returns-else-is_some
returns-else-is_some c =
    let off : is_some c.address_of.result ≡ false = cc in
    other_told c.is_named_address.result (no_address c.args.text.now c.address_of.result off c.address_of.ensures) c.is_named_address.ensures
