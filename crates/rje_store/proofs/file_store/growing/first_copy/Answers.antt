use Rattle.std.proofs.Common.{[], refl, arith}
use Rattle.std.specs.Prelude.{string_bytes}
use Rattle.rje_store.proofs.Replacing.{name_of_new, new_is_apart, new_is_empty, new_private, new_stands}
use Rattle.rje_store.specs.declared.new_access.NewAccess.{NewAccess}
use Rattle.rje_store.proofs.file_store.growing.first_copy.Goals as goal

pub returns-clause-older : goal.returns-clause-older
returns-clause-older g c = λ told had.
    let path = c.args.path.now in
    let file = g.D.Disk.opened c.in_ok-beside.beside.file in
    let new = c.in_ok-beside.ensures.new told in
    record {
      bytes = [];
      apart = new_is_apart NewAccess.Private path file (string_bytes c.in_ok-beside.beside.path) _ new;
      private = new_private path file (string_bytes c.in_ok-beside.beside.path) _ new;
      beside = name_of_new NewAccess.Private path file (string_bytes c.in_ok-beside.beside.path) _ new;
      stands = new_stands NewAccess.Private path file (string_bytes c.in_ok-beside.beside.path) _ new;
      has = new_is_empty NewAccess.Private path file (string_bytes c.in_ok-beside.beside.path) _ new;
      len = refl;
      agrees = (omega arith, refl);
    }
