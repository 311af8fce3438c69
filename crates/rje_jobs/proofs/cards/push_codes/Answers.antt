use Rattle.std.proofs.Common.{rules, ◌≡◌, length, map, List, ℕ, sym, ◌∙◌, ap, drop, take, ◌++◌}
use Rattle.std.proofs.lemmas.List.{length-map}
use Rattle.std.proofs.Math.Seq.{take-append_seam}
use Rattle.rje_jobs.specs.Deck.{code_or_zero}
use Rattle.rje_jobs.proofs.Coded.{codes_are}
use Rattle.rje_jobs.proofs.cards.push_codes.Goals as goal

pub returns-clause-codes : goal.returns-clause-codes
returns-clause-codes c =
    let line : List ℕ = c.args.line.now in
    let whole : c.try_extend_from_slice.new.self.items ≡ line = search rules in
    let made : c.make_codes.new.characters ≡ map code_or_zero line = search rules in
    let codes : List ℕ = map code_or_zero line in
    let same : length line ≡ length codes = sym (length-map line code_or_zero) in
    rw (whole, made) (ap (λ n. take n (codes ++ drop (length codes) line)) same ∙ take-append_seam codes (drop (length codes) line) ∙ codes_are line c.requires.coded)
