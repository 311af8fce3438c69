use Rattle.std.proofs.Common.{rules, subst, sym}
use Rattle.std.specs.Prelude.{string_eq}
use Rattle.std.specs.List.Sorted.{IsPermutation}
use Rattle.std.proofs.lemmas.Fn.{filter_same}
use Rattle.std.proofs.lemmas.List.Filters.{dedup_is}
use Rattle.rje_folder.specs.ReadyFile.{AreReady}
use Rattle.rje_folder.proofs.Ready.{is_taken, ready_is}
use Rattle.rje_folder.proofs.ready_file.ready_names.Goals as goal

pub returns : goal.returns
returns c =
    let kept = filter_same _ is_taken _ (λ x b f' k. search rules) _ _ c.retain.ensures.filtered in
    subst (AreReady c.args.names.items) (sym (dedup_is string_eq _ _ c.dedup.ensures.filtered))
    (ready_is c.args.names.items _ (subst (λ l. IsPermutation l c.sort.new.self.items) kept c.sort.ensures.permutation) c.in_ok-sort.ensures.sorted)
