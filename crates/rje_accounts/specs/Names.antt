-- The names in settle/, each kind by itself.
use Rattle.std.specs.Prelude.{◌≡◌, ◌≢◌, ℕ, List, [], ◌∷◌, ◌++◌, Option, Some, None}
use Rattle.std.specs.List.{filter_map}
use Rattle.std.specs.Option.{option_to_list}
use Rattle.rje_settle.specs.declared.promise.Promise.{Promise}
use Rattle.rje_settle.specs.declared.receipt.Receipt.{Receipt}
use Rattle.rje_settle.specs.declared.settle_name.SettleName.{SettleName}
use Rattle.rje_settle.specs.Names.{CanBeNamed, name_text}
use Rattle.rje_accounts.specs.declared.settle_names.SettleNames.{SettleNames}

-- what a name says that was sent, or kept; the job that it promises; the number of the job that came
abbrev pub sent_of : SettleName → Option Receipt
sent_of (SettleName.Sent r) = Some r
sent_of _ = None

abbrev pub kept_of : SettleName → Option Receipt
kept_of (SettleName.Kept r) = Some r
kept_of _ = None

abbrev pub promise_of : SettleName → Option Promise
promise_of (SettleName.Out p) = Some p
promise_of _ = None

abbrev pub come_of : SettleName → Option ℕ
come_of (SettleName.Come number) = Some number
come_of _ = None

-- a text is this name's; where there is none, it is no name's
abbrev pub IsRead : (text : List ℕ) → Option SettleName → Type 0
IsRead text (Some name) = (text ≡ name_text name) × CanBeNamed name
IsRead text None = (name : SettleName) → CanBeNamed name → text ≢ name_text name

-- these names are those of the texts, one after another, without the texts that are no name's
abbrev pub AreNamesOf : (texts : List (List ℕ)) → List SettleName → Type 0
AreNamesOf [] all = all ≡ []
AreNamesOf (text ∷ texts) all = (read : Option SettleName) × (later : List SettleName) × IsRead text read × AreNamesOf texts later × (all ≡ option_to_list read ++ later)

-- some names, each kind by itself, in their order
pub record AreSorted (all : List SettleName) (names : SettleNames) : Type 0 where
  pub sent : names.sent.items ≡ filter_map sent_of all
  pub kept : names.kept.items ≡ filter_map kept_of all
  pub promises : names.promises.items ≡ filter_map promise_of all
  pub come : names.come.items ≡ filter_map come_of all
