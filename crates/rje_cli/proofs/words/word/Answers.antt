use Rattle.std.proofs.Common.{ap, [], refl, ◌∙◌}
use Rattle.std.specs.Prelude.{unwrap_or}
use Rattle.clap.specs.Words.{found_of, first_value}
use Rattle.clap.proofs.WalkLemmas.{first_value-rows}
use Rattle.rje_cli.proofs.Found.{word_read}
use Rattle.rje_cli.proofs.words.word.Goals as goal

pub returns : goal.returns
returns c =
    let found = found_of c.args.matches.now in
    ap (λ s. s.now) c.unwrap_or.ensures ∙ word_read c.get_str.result _ (first_value found c.args.id.now) c.get_str.ensures refl
    ∙ ap (λ o. unwrap_or o []) (first_value-rows found c.args.id.now)
