use Rattle.std.proofs.Common.{codes, subst, sym, ℕ, Result}
use Rattle.std.specs.Str.Parse.{ExplainsUnsignedError, HasUnsignedDigitsIfOk, ParsesUnsigned}
use Rattle.std.specs.declared.num.ParseIntError.{ParseIntError}
use Rattle.clap.specs.Words.{Text, found_of, one_text}
use Rattle.clap.proofs.WalkLemmas.{one_text-rows}
use Rattle.rje_cli.specs.Asking.{IsPatienceOf}
use Rattle.rje_cli.proofs.Found.{given_read}
use Rattle.rje_cli.proofs.words.patience_of.Goals as goal

-- how a text is read as a number of 32 bits
abbrev gives : Text → Result ℕ ParseIntError → Type 0
gives text r = ParsesUnsigned 32 10 text r × ExplainsUnsignedError 10 text r × HasUnsignedDigitsIfOk text r

pub returns : goal.returns
returns c =
    let found = found_of c.args.matches.now in
    subst (λ o. IsPatienceOf o c.unwrap_or.result) (one_text-rows found (codes "patience")) (subst (IsPatienceOf (one_text found (codes "patience"))) (sym c.unwrap_or.ensures)
    (given_read ParseIntError gives 32 40 (λ text r h. h.0) (one_text found (codes "patience")) c.get_one.result c.get_one.ensures.none c.get_one.ensures.value))
