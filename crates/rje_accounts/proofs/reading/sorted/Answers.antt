use Rattle.std.proofs.Common.{◌≡◌, ◌<◌, ◌∙◌, ◌++◌, ◌∷◌, [], ℕ, List, length, map, take, string_bytes, subst, sym, ap, arith}
use Rattle.std.specs.Option.{option_to_list}
use Rattle.std.proofs.lemmas.List.{map-append, take_more}
use Rattle.rje_accounts.specs.Names.{AreNamesOf, IsRead}
use Rattle.rje_accounts.proofs.Sorted.{names_more}
use Rattle.rje_accounts.proofs.reading.sorted.Goals as goal

pub loop-text-preserved : goal.loop-text-preserved
loop-text-preserved c =
    let texts = c.args.texts.now in
    let i = c.loop-text.text-index in
    let within : i < length texts = omega arith in
    let (all, names, sorted) = c.loop-text.invariant in
    let (read, is_read, more) = c.in_ok-push_text.ensures all sorted in
    let one = ap (λ (l : List _). map string_bytes l) (take_more texts i c.text-item.result within) ∙ map-append string_bytes (take i texts) (_ ∷ []) in
    (all ++ option_to_list read, subst (λ (l : List (List ℕ)). AreNamesOf l (all ++ option_to_list read)) (sym one) (names_more _ _ all read names (subst (λ (item : _). IsRead (string_bytes item) read) c.text-item.is (rw c.as_str.ensures.value at is_read))), more)
