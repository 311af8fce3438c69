use Rattle.std.proofs.Common.{◌∙◌, ℕ, List, subst, rules}
use Rattle.std.specs.Prelude.{IsPermutation}
use Rattle.std.proofs.lemmas.List.Sorted.{IsNonDecreasingBy-from_sort, IsNonDecreasingBy-from_sort_by_key}
use Rattle.rje_settle.specs.declared.promise.Promise.{Promise}
use Rattle.rje_settle.specs.declared.receipt.Receipt.{Receipt}
use Rattle.rje_accounts.specs.Accounts.{IsHighest}
use Rattle.rje_accounts.proofs.Highest.{kept_is}
use Rattle.rje_accounts.proofs.accounts.Accounts.of_names.Goals as goal

pub returns-clause-accounts : goal.returns-clause-accounts
returns-clause-accounts c = λ all sorted. record {
  sent = subst (λ (l : List Receipt). IsHighest l c.in_ok-sent.sent) (c.as_slice.ensures.value ∙ sorted.sent) c.in_ok-sent.ensures.highest;
  kept = kept_is _ c.in_ok-kept.kept _ c.unwrap_or.result (subst (λ (l : List Receipt). IsHighest l c.in_ok-kept.kept) (c.as_slice-2.ensures.value ∙ sorted.kept) c.in_ok-kept.ensures.highest) c.of_none.ensures c.unwrap_or.ensures;
  promises = subst (λ (l : List Promise). IsPermutation l c.sort_by_key.new.self.items) sorted.promises c.sort_by_key.ensures.permutation;
  in_order = IsNonDecreasingBy-from_sort_by_key (λ (p : Promise). p.receipt.kept) _ c.in_ok-sort_by_key.ensures.sorted (λ a r q k. search rules);
  come = subst (λ (l : List ℕ). IsPermutation l c.sort.new.self.items) sorted.come c.sort.ensures.permutation;
  come_in_order = IsNonDecreasingBy-from_sort (λ (number : ℕ). number) _ c.in_ok-sort.ensures.sorted;
}
