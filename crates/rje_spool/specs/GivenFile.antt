-- What becomes of a file of out/ whose jobs are in a transmission (own profile).
use Rattle.std.specs.Prelude.{◌≡◌, ℕ, List, string_bytes, true}
use Rattle.rje_store.specs.Disk.{Asked, Call, has_synced_name}
use Rattle.rje_folder.specs.declared.file_identity.FileIdentity.{FileIdentity}
use Rattle.rje_folder.specs.declared.folder.Folder.{Folder}
use Rattle.rje_folder.specs.FileNames.{IsNumbered}
use Rattle.rje_folder.specs.Folder.{path_in}
use Rattle.rje_folder.specs.Moving.{IsSecond}
use Rattle.rje_folder.specs.Promising.{IsSent}
use Rattle.rje_spool.specs.declared.given_file.Standing.{Standing}

-- it has a name in doubt/, on disk, beside the one in out/
abbrev pub IsPromised : (station name : List ℕ) → Standing → (before after : List Asked) → Type 0
IsPromised station name (Standing.Promised doubt) before after = IsSecond (path_in station Folder.Out name) (string_bytes doubt) before after
IsPromised station name _ before after = ⊥

-- its name in doubt/ stands for the file that was read, as the disk said
abbrev pub IsOfRead : (is_file : List ℕ → FileIdentity → Type 0) → Standing → FileIdentity → Type 0
IsOfRead is_file (Standing.Promised doubt) file = is_file (string_bytes doubt) file
IsOfRead is_file _ file = ⊥

-- what may be asked of a file with a name in doubt/, by that name; of any other nothing is asked
abbrev pub OfPromised : (May : List ℕ → Call → List Asked → Type 0) → Standing → Call → List Asked → Type 0
OfPromised May (Standing.Promised doubt) call before = May (string_bytes doubt) call before
OfPromised May _ call before = ⊥

-- what stood under its name in doubt/ stands under one in sent/, on disk
abbrev pub HasSent : (station name doubt : List ℕ) → Standing → (before after : List Asked) → Type 0
HasSent station name doubt (Standing.Sent sent) before after = IsSent station name doubt (string_bytes sent) before after
HasSent station name doubt _ before after = ⊥

-- its name in doubt/, where it has one that is on disk, is on disk still
abbrev pub StaysInDoubt : Standing → (before after : List Asked) → Type 0
StaysInDoubt (Standing.Promised doubt) before after = has_synced_name (string_bytes doubt) before ≡ true → has_synced_name (string_bytes doubt) after ≡ true
StaysInDoubt _ before after = Unit {0}

-- it has a name in doubt/ beside the one in out/
abbrev pub HasSecondName : Standing → Type 0
HasSecondName (Standing.Promised doubt) = Unit {0}
HasSecondName _ = ⊥

-- nothing became of its jobs yet: it stands in out/
abbrev pub IsUnsettled : Standing → Type 0
IsUnsettled Standing.Ready = Unit {0}
IsUnsettled (Standing.Promised doubt) = Unit {0}
IsUnsettled _ = ⊥

-- it stands in sent/, on disk
abbrev pub IsInSent : (station name : List ℕ) → Standing → List Asked → Type 0
IsInSent station name (Standing.Sent sent) after = IsNumbered (path_in station Folder.Sent name) (string_bytes sent) × (has_synced_name (string_bytes sent) after ≡ true)
IsInSent station name _ after = ⊥

-- it stands in doubt/ alone, as far as the station knows
abbrev pub IsDoubted : Standing → Type 0
IsDoubted (Standing.Doubted doubt) = Unit {0}
IsDoubted _ = ⊥

-- it stands in sent/ under this path
abbrev pub IsSentUnder : Standing → (path : List ℕ) → Type 0
IsSentUnder (Standing.Sent sent) path = path ≡ string_bytes sent
IsSentUnder _ path = ⊥

-- it does so under this path
abbrev pub IsDoubtedUnder : Standing → (path : List ℕ) → Type 0
IsDoubtedUnder (Standing.Doubted doubt) path = path ≡ string_bytes doubt
IsDoubtedUnder _ path = ⊥
