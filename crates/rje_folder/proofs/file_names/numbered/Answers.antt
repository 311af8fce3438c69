use Rattle.std.proofs.Common.{◌≡◌, rules}
use Rattle.std.specs.Prelude.{string_bytes}
use Rattle.rje_folder.specs.ReadyFile.{file_of_name}
use Rattle.rje_folder.proofs.file_names.numbered.Goals as goal

pub returns-then-eq : goal.returns-then-eq
returns-then-eq c =
    let kind : file_of_name (string_bytes c.in_ok-other.other) ≡ file_of_name c.args.path.now = search rules in record {
      front = c.front_of-front.result.now;
      ending = c.ending_of-ending.result.now;
      number = c.args.number;
      begins = search rules;
      ends = search rules;
      folder = search rules;
      is = search rules;
      kind = kind;
    }
