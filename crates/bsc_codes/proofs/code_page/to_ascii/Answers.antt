use Rattle.std.proofs.Common.{sym, ◌∙◌}
use Rattle.bsc_codes.proofs.Reverse.{none_at}
use Rattle.bsc_codes.proofs.code_page.to_ascii.Goals as goal

pub returns-then-character-eq0 : goal.returns-then-character-eq0
returns-then-character-eq0 c = sym (none_at c.args.ebcdic (sym c.character_or_zero-character.ensures ∙ c.if-character-eq0.true))
