-- The names in settle/ (own profile).
use Rattle.std.specs.Prelude.{◌<◌, ◌^◌, ℕ, Bool, true, false, List, ◌∷◌, ◌++◌, Option, Some, None, codes, decimal}
use Rattle.rje_settle.specs.declared.job_place.JobPlace.{JobPlace}
use Rattle.rje_settle.specs.declared.settle_name.SettleName.{SettleName}
use Rattle.rje_settle.specs.Receipt.{CanBeSaid, counted_text}

-- where a job is marked: in a deck x
abbrev pub mark_text : Option ℕ → List ℕ
mark_text None = codes "x"
mark_text (Some mark) = decimal mark

-- 1 for the last job of its file, else 0
abbrev pub last_text : Bool → List ℕ
last_text true = codes "1"
last_text false = codes "0"

-- both, each behind a dash
unfoldable pub place_text : JobPlace → List ℕ
place_text place = 0x2D ∷ mark_text place.mark ++ 0x2D ∷ last_text place.is_last

-- a number with its digest, a dash between them, stands in three of the names
unfoldable pub name_text : SettleName → List ℕ
name_text (SettleName.Sent r) = codes "sent-" ++ counted_text 0x2D r
name_text (SettleName.Out p) = codes "out-" ++ (counted_text 0x2D p.receipt ++ place_text p.place)
name_text (SettleName.Kept r) = codes "kept-" ++ counted_text 0x2D r
name_text (SettleName.Come number) = codes "come-" ++ decimal number

-- the numbers fit, and the digests have twenty bytes
abbrev pub IsMark : Option ℕ → Type 0
IsMark None = Unit {0}
IsMark (Some mark) = mark < 2 ^ 64

abbrev pub CanBeNamed : SettleName → Type 0
CanBeNamed (SettleName.Sent r) = CanBeSaid r
CanBeNamed (SettleName.Out p) = CanBeSaid p.receipt × IsMark p.place.mark
CanBeNamed (SettleName.Kept r) = CanBeSaid r
CanBeNamed (SettleName.Come number) = number < 2 ^ 64
