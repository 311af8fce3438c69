use Rattle.std.proofs.Common.{codes, subst, ℕ, Result}
use Rattle.std.specs.Str.Parse.{ExplainsUnsignedError, HasUnsignedDigitsIfOk, ParsesUnsigned}
use Rattle.std.specs.declared.num.ParseIntError.{ParseIntError}
use Rattle.clap.specs.Words.{Text, found_of, one_text}
use Rattle.clap.proofs.WalkLemmas.{one_text-rows}
use Rattle.rje_cli.specs.Asking.{IsNumberOf}
use Rattle.rje_cli.proofs.Found.{number_read}
use Rattle.rje_cli.proofs.words.number_in.Goals as goal

-- how a text is read as a number of 64 bits
abbrev gives : Text → Result ℕ ParseIntError → Type 0
gives text r = ParsesUnsigned 64 10 text r × ExplainsUnsignedError 10 text r × HasUnsignedDigitsIfOk text r

pub returns : goal.returns
returns c =
    let found = found_of c.args.matches.now in
    subst (λ o. IsNumberOf o c.get_one.result) (one_text-rows found (codes "job"))
    (number_read ParseIntError gives (λ text r h. h.0) (one_text found (codes "job")) c.get_one.result c.get_one.ensures.none c.get_one.ensures.value)
