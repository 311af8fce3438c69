-- What the names in settle/ come to (own profile).
use Rattle.std.specs.Prelude.{◌≡◌, ◌≢◌, ◌⊎◌, ◌<◌, ◌≤◌, ℕ, List, [], Option, Some, None, Contains, All, IsPermutation}
use Rattle.std.specs.List.{filter_map}
use Rattle.std.specs.List.Sorted.{IsNonDecreasingBy}
use Rattle.rje_settle.specs.declared.promise.Promise.{Promise}
use Rattle.rje_settle.specs.declared.receipt.Receipt.{Receipt}
use Rattle.rje_settle.specs.declared.settle_name.SettleName.{SettleName}
use Rattle.rje_settle.specs.Receipt.{no_receipt}
use Rattle.rje_accounts.specs.declared.accounts.Accounts.{Accounts}
use Rattle.rje_accounts.specs.Names.{AreNamesOf, come_of, kept_of, promise_of, sent_of}

-- one of these counts, which none is above
pub record IsMost (counts : List Receipt) (r : Receipt) : Type 0 where
  pub is_one : Contains counts r
  pub none_above : All (λ q. q.kept ≤ r.kept) counts

-- the highest of these counts: each other one is lower; none, where there are none
abbrev pub IsHighest : List Receipt → Option Receipt → Type 0
IsHighest counts None = counts ≡ []
IsHighest counts (Some r) = Contains counts r × All (λ q. (q.kept < r.kept) ⊎ (q ≡ r)) counts

-- two of these counts are of one number, and not the same
abbrev pub HasTwo : List Receipt → Type 0
HasTwo counts = (q r : Receipt) × Contains counts q × Contains counts r × (q.kept ≡ r.kept) × (q ≢ r)

-- what was kept: the highest of these counts, or nothing, where there are none
abbrev pub IsKept : List Receipt → Receipt → Type 0
IsKept counts r = IsHighest counts (Some r) ⊎ ((counts ≡ []) × (r ≡ no_receipt))

-- a job is among those that are known to have been kept: its number is no higher than theirs
abbrev pub IsOver : Option Receipt → Receipt → Type 0
IsOver None r = ⊥
IsOver (Some known) r = r.kept ≤ known.kept

-- The accounts are those of these names: of the counts of what was sent, and of what was kept, the highest; the promises, in the order of their numbers;
-- and the jobs that came, in order.
pub record AreAccounts (all : List SettleName) (a : Accounts) : Type 0 where
  pub sent : IsHighest (filter_map sent_of all) a.sent
  pub kept : IsKept (filter_map kept_of all) a.kept
  pub promises : IsPermutation (filter_map promise_of all) a.promises.items
  pub in_order : IsNonDecreasingBy (λ (p : Promise). p.receipt.kept) a.promises.items
  pub come : IsPermutation (filter_map come_of all) a.come.items
  pub come_in_order : IsNonDecreasingBy (λ (number : ℕ). number) a.come.items

-- the accounts are those of these texts, which are the names in settle/; a text that is no name's is passed over
abbrev pub AreAccountsOf : (texts : List (List ℕ)) → Accounts → Type 0
AreAccountsOf texts a = (all : List SettleName) × AreNamesOf texts all × AreAccounts all a
