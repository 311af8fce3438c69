-- A job that came, and is counted: call after call.
use Rattle.std.proofs.Common.{◌≡◌, ◌≢◌, ◌⊎◌, inl, inr, ℕ, ◌<◌, List, [], ◌∷◌, ◌++◌, length, get_or, Option, Some, Bool, true, false, if◌then◌else◌, refl, sym, ◌∙◌, ap, subst, arith}
use Rattle.std.specs.Prelude.{bytes_eq, nat_eq, codes, decimal}
use Rattle.std.proofs.lemmas.Bool.Decides.{nat_tests}
use Rattle.std.proofs.lemmas.List.{append_cancel_left}
use Rattle.rje_store.specs.declared.new_access.NewAccess.{NewAccess}
use Rattle.rje_store.specs.Disk.{Asked, Call, Opened, Done, Refused, Failed, Create, Fill, Sync, SyncFolder, Remove, call_of, standing, bytes_of, is_synced, has_synced_name}
use Rattle.rje_store.specs.Replacing.{Adds, IsOnDisk, IsWhole}
use Rattle.rje_store.specs.Inside.Filling.{AddsSync}
use Rattle.rje_store.proofs.Replacing.{added_weaker, same_name, same_number, standing_below, whatever_came, whole_synced}
use Rattle.rje_folder.proofs.Taken.{other_name, sync_keeps_names}
use Rattle.rje_settle.specs.declared.receipt.Receipt.{Receipt}
use Rattle.rje_settle.specs.declared.settle_name.SettleName.{SettleName}
use Rattle.rje_settle.specs.Names.{name_text}
use Rattle.rje_accounts.specs.Noting.{IsNoted, MayDropOlder, MayMake, is_older}
use Rattle.rje_accounts.specs.Paths.{settle_path}
use Rattle.rje_accounts.specs.Receiving.{MayKeepJob, MayReceive}
use Rattle.rje_accounts.proofs.Asked.{added_stays}

-- a new file that is written and put on disk has these bytes
pub received_whole : (path bytes : List ℕ) (file : Opened) (a b c d : List Asked) → b ≡ Done (Create NewAccess.Private path) ∷ a → file ≡ record { name = path; number = length a }
    → c ≡ Done (Fill file bytes) ∷ b → d ≡ Done (Sync file) ∷ c → IsWhole path bytes d
received_whole path bytes file a b c d made is filled synced =
    let all : d ≡ Done (Sync file) ∷ Done (Fill file bytes) ∷ Done (Create NewAccess.Private path) ∷ a =
    synced ∙ ap (λ (l : List Asked). Done (Sync file) ∷ l) (filled ∙ ap (λ (l : List Asked). Done (Fill file bytes) ∷ l) made) in
    subst (IsWhole path bytes) (sym all) (subst (λ (f : Opened). IsWhole path bytes (Done (Sync f) ∷ Done (Fill f bytes) ∷ Done (Create NewAccess.Private path) ∷ a)) (sym is)
    (length a, rw (same_name path) refl, rw (same_number (length a)) refl, rw (same_number (length a)) refl))

-- and its name is on disk then
pub received_on_disk : (path bytes : List ℕ) (a b : List Asked) → IsWhole path bytes a → AddsSync path a b → has_synced_name path b ≡ true → IsOnDisk path bytes b
received_on_disk path bytes a b whole sync synced = (whole_synced path path bytes a b sync whole, synced)

-- a new file is empty
pub received_empty : (path : List ℕ) (file : Opened) (a b : List Asked) → b ≡ Done (Create NewAccess.Private path) ∷ a → file ≡ record { name = path; number = length a } → bytes_of file.number b ≡ Some []
received_empty path file a b made is = ap (bytes_of file.number) made ∙ subst (λ (f : Opened). bytes_of f.number (Done (Create NewAccess.Private path) ∷ a) ≡ Some []) (sym is) (rw (same_number (length a)) refl)

-- names of two kinds are two
come_is_not_kept : (station : List ℕ) (number : ℕ) (receipt : Receipt) → settle_path station (SettleName.Come number) ≢ settle_path station (SettleName.Kept receipt)
unfolding name_text
come_is_not_kept station number receipt e =
    let f : codes "/settle/" ++ name_text (SettleName.Come number) ≡ codes "/settle/" ++ name_text (SettleName.Kept receipt) = append_cancel_left station _ _ e in
    let g : 99 ≡ 107 = ap (λ (l : List ℕ). get_or l 8 0) f in
    omega (arith, g)

-- the names older than that of what is kept are of its kind
older_is_not_come : (station : List ℕ) (number : ℕ) (older : SettleName) (receipt : Receipt) → is_older older (SettleName.Kept receipt) ≡ true → settle_path station (SettleName.Come number) ≢ settle_path station older
older_is_not_come station number (SettleName.Kept r) receipt old = come_is_not_kept station number r
older_is_not_come station number (SettleName.Sent r) receipt old = cc
older_is_not_come station number (SettleName.Out p) receipt old = cc
older_is_not_come station number (SettleName.Come n) receipt old = cc

-- whatever came of the calls that note a count, a job that is on disk under another name is so still
abbrev Stays : (path bytes : List ℕ) (before : List Asked) → Call → Type 0
Stays path bytes before call = IsOnDisk path bytes (Done call ∷ before) × IsOnDisk path bytes (Refused call ∷ before) × IsOnDisk path bytes (Failed call ∷ before)

stays_one : (path bytes : List ℕ) (asked : Asked) (before : List Asked) → Stays path bytes before (call_of asked) → IsOnDisk path bytes (asked ∷ before)
stays_one path bytes asked before parts = whatever_came (λ x. IsOnDisk path bytes (x ∷ before)) asked parts.0 parts.1 parts.2

create_stays : (path bytes other : List ℕ) (before : List Asked) → path ≢ other → IsOnDisk path bytes before → Stays path bytes before (Create NewAccess.Private other)
create_stays path bytes other before differ ((number, stands, has, synced), named) =
    let no : bytes_eq path other ≡ false = other_name path other differ in
    let below : number < length before = standing_below path before number stands in
    let older : nat_eq number (length before) ≡ false = grind (arith, nat_tests) in
    (((number, rw no stands, rw older has, synced), rw no named), ((number, stands, has, synced), rw no named), ((number, stands, has, synced), rw no named))

remove_stays : (path bytes other : List ℕ) (before : List Asked) → path ≢ other → IsOnDisk path bytes before → Stays path bytes before (Remove other)
remove_stays path bytes other before differ ((number, stands, has, synced), named) =
    let no : bytes_eq path other ≡ false = other_name path other differ in
    (((number, rw no stands, has, synced), rw no named), ((number, rw no stands, has, synced), rw no named), ((number, rw no stands, has, synced), rw no named))

sync_stays : (path bytes folder : List ℕ) (a b : List Asked) → AddsSync folder a b → IsOnDisk path bytes a → IsOnDisk path bytes b
sync_stays path bytes folder a b sync (whole, named) = (whole_synced folder path bytes a b sync whole, sync_keeps_names folder path a b sync named)

-- what is asked to note what is kept leaves the job that came on disk
abbrev MayCount : (station : List ℕ) → Receipt → Call → List Asked → Type 0
MayCount station now call before = MayMake (settle_path station (SettleName.Kept now)) call before ⊎ MayDropOlder station (SettleName.Kept now) call before

count_stays : (station bytes : List ℕ) (now : Receipt) (asked : Asked) (before : List Asked) → MayCount station now (call_of asked) before
    → IsOnDisk (settle_path station (SettleName.Come now.kept)) bytes before → IsOnDisk (settle_path station (SettleName.Come now.kept)) bytes (asked ∷ before)
count_stays station bytes now asked before (inl (inl e)) disk =
    let come = settle_path station (SettleName.Come now.kept) in
    stays_one come bytes asked before (subst (Stays come bytes before) (sym e) (create_stays come bytes (settle_path station (SettleName.Kept now)) before (come_is_not_kept station now.kept now) disk))
count_stays station bytes now asked before (inl (inr e)) disk =
    sync_stays (settle_path station (SettleName.Come now.kept)) bytes (settle_path station (SettleName.Kept now)) before (asked ∷ before) (asked, refl, e) disk
count_stays station bytes now asked before (inr (older, old, e, noted)) disk =
    let come = settle_path station (SettleName.Come now.kept) in
    stays_one come bytes asked before (subst (Stays come bytes before) (sym e) (remove_stays come bytes (settle_path station older) before (older_is_not_come station now.kept older now old) disk))

-- so it may be asked once that is on disk, and it is on disk then
pub counted_keeps : (station bytes : List ℕ) (now : Receipt) (a b : List Asked) → Adds (MayCount station now) a b → IsOnDisk (settle_path station (SettleName.Come now.kept)) bytes a
    → Adds (MayKeepJob station now bytes) a b × IsOnDisk (settle_path station (SettleName.Come now.kept)) bytes b
counted_keeps station bytes now a b adds disk =
    let Is : List Asked → Type 0 = IsOnDisk (settle_path station (SettleName.Come now.kept)) bytes in
    let both : Adds (λ call before. MayCount station now call before × Is before) a b × Is b = added_stays (MayCount station now) Is (count_stays station bytes now) a b adds disk in
    (added_weaker (λ call before. MayCount station now call before × Is before) (MayKeepJob station now bytes) (λ call before may. inr may) a b both.0, both.1)

pub make_counts : (station : List ℕ) (now : Receipt) (a b : List Asked) → Adds (MayMake (settle_path station (SettleName.Kept now))) a b → Adds (MayCount station now) a b
make_counts station now a b adds = added_weaker (MayMake (settle_path station (SettleName.Kept now))) (MayCount station now) (λ call before may. inl may) a b adds

pub drop_counts : (station : List ℕ) (now : Receipt) (a b : List Asked) → Adds (MayDropOlder station (SettleName.Kept now)) a b → Adds (MayCount station now) a b
drop_counts station now a b adds = added_weaker (MayDropOlder station (SettleName.Kept now)) (MayCount station now) (λ call before may. inr may) a b adds

pub receive_keeps : (station bytes : List ℕ) (now : Receipt) (a b : List Asked) → Adds (MayReceive (settle_path station (SettleName.Come now.kept)) bytes) a b → Adds (MayKeepJob station now bytes) a b
receive_keeps station bytes now a b adds = added_weaker (MayReceive (settle_path station (SettleName.Come now.kept)) bytes) (MayKeepJob station now bytes) (λ call before may. inl may) a b adds
