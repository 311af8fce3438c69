-- A file that is taken over: call after call.
use Rattle.std.proofs.Common.{◌≡◌, ◌≢◌, ◌⊎◌, ℕ, inl, inr, List, [], ◌∷◌, ◌++◌, Option, Some, None, Result, Ok, Err, IfOk, true, refl, sym, ◌∙◌, ap, subst, arith}
use Rattle.std.specs.Prelude.{codes, decimal, IfSome}
use Rattle.std.proofs.lemmas.List.{append_assoc, append_cancel_left}
use Rattle.std.specs.declared.io.Error.{Error}
use Rattle.rje_store.specs.Disk.{Asked, Call, Opened, Done, Refused, Failed, Rename, Remove, call_of, came_to, standing, bytes_of, is_synced}
use Rattle.rje_store.specs.Replacing.{Adds, Each, IsOnDisk, IsWhole}
use Rattle.rje_store.specs.Inside.Filling.{AddsSync, Fills}
use Rattle.rje_store.proofs.Replacing.{added_call, added_none, added_weaker, filled_keeps, whatever_came, whole_renamed, whole_synced, same_name}
use Rattle.rje_folder.specs.declared.file_identity.FileIdentity.{FileIdentity}
use Rattle.rje_folder.specs.declared.folder.Folder.{Folder}
use Rattle.rje_folder.specs.declared.reading.FileRead.{FileRead}
use Rattle.rje_folder.specs.Folder.{path_in, path_of}
use Rattle.rje_folder.specs.FileNames.{IsNamedAfter, IsNumbered}
use Rattle.rje_folder.specs.Keeping.{IsTemporary, WasMade}
use Rattle.rje_folder.specs.Moving.{IsMoved, MayDrop, MayMove}
use Rattle.rje_folder.specs.Promising.{IsKeptElsewhere}
use Rattle.rje_folder.specs.Reading.{IsReadOf}
use Rattle.rje_folder.specs.TakenName.{IsTakenName, IsTakenPath}
use Rattle.rje_folder.specs.TakingOver.{IsTakenOver, MayCopy, MayFinish, MayGiveBack, MayTakeOver, WasRead}
use Rattle.rje_folder.specs.Inside.Calls.{HasCopy, IsHidden, IsNewIn, MayCreate, MayHide, MayWrite}
use Rattle.rje_folder.proofs.NewFile.{file_temporary, new_is_empty, new_stands, write_fills}
use Rattle.rje_folder.proofs.Taken.{other_name, sync_keeps_standing}

-- THE COPY

-- what is asked to make it
pub create_copies : (folder : List ℕ) (a b : List Asked) → Adds (MayCreate folder) a b → Adds (MayCopy folder) a b
create_copies folder a b adds =
    added_weaker (MayCreate folder) (MayCopy folder) (λ call before (name, temporary, e). subst (λ c. MayCopy folder c before) (sym e) temporary) a b adds

-- what is asked to write it
pub write_copies : (folder : List ℕ) (file : Opened) (name : List ℕ) (a b : List Asked) → IsNewIn folder file name a → Adds (MayWrite file) a b → Adds (MayCopy folder) a b
write_copies folder file name a b new adds = added_weaker (MayWrite file) (MayCopy folder) (write_may folder file (file_temporary folder file name a new)) a b adds where
  write_may : (folder : List ℕ) (file : Opened) → IsTemporary folder file.name → (call : Call) (before : List Asked) → MayWrite file call before → MayCopy folder call before
  write_may folder file temporary call before (inl (written, e, empty)) = subst (λ c. MayCopy folder c before) (sym e) (temporary, empty)
  write_may folder file temporary call before (inr e) = subst (λ c. MayCopy folder c before) (sym e) temporary

-- the name that is left alone stands for it
pub copy_stands : (folder : List ℕ) (file : Opened) (name : List ℕ) (a b : List Asked) → IsNewIn folder file name a → Adds (MayWrite file) a b → standing name b ≡ Some file.number
copy_stands folder file name a b new adds = filled_keeps file name a b (write_fills file a b adds) ∙ new_stands folder file name a new

-- once it is written it is whole there
pub copy_whole : (folder : List ℕ) (file : Opened) (name bytes : List ℕ) (a b : List Asked) → IsNewIn folder file name a → Adds (MayWrite file) a b → Fills file.number bytes a b → IsWhole name bytes b
copy_whole folder file name bytes a b new adds fills =
    let has : (bytes_of file.number b ≡ Some bytes) × (is_synced file.number b ≡ true) = fills (new_is_empty folder file name a new) in
    (file.number, copy_stands folder file name a b new adds, has.0, has.1)

-- THE HIDDEN NAME

abbrev second : List ℕ → ℕ
second (x ∷ y ∷ rest) = y
second _ = 0

-- a copy in refused/ is none of the files of out/
pub copy_elsewhere : (station copy name : List ℕ) → IsTemporary (path_of station Folder.Refused) copy → copy ≢ path_in station Folder.Out name
copy_elsewhere station copy name (number, is) same =
    let behind = codes "/.rje-" ++ (decimal number ++ codes ".part") in
    let parts : station ++ ((codes "/" ++ codes "refused") ++ behind) ≡ station ++ (codes "/" ++ (codes "out" ++ (codes "/" ++ name))) = sym (append_assoc station (codes "/" ++ codes "refused") behind) ∙ sym is ∙ same in
    let rest : (codes "/" ++ codes "refused") ++ behind ≡ codes "/" ++ (codes "out" ++ (codes "/" ++ name)) = append_cancel_left station _ _ parts in
    let letters : 114 ≡ 111 = ap second rest in
    omega (arith, letters)

-- a file that is whole under a name is so still, once another one is renamed
pub whole_left : (name from to bytes : List ℕ) (a : List Asked) → name ≢ from → name ≢ to → IsWhole name bytes a → IsWhole name bytes (Done (Rename from to) ∷ a)
whole_left name from to bytes a one other (number, stands, has, is) = (number, rw (other_name name to other, other_name name from one) stands, has, is)

pub stands_left : (name from to : List ℕ) (a : List Asked) → name ≢ from → name ≢ to → standing name (Done (Rename from to) ∷ a) ≡ standing name a
stands_left name from to a one other = rw (other_name name to other, other_name name from one) refl

-- what was read was so whatever is asked after it
pub read_before : {F : Type 0} (opened : F → Opened) (remaining : F → Option (List ℕ)) (is_open : List Asked → F → FileIdentity → Type 0) (read : FileRead) (calls a b : List Asked) → b ≡ calls ++ a
    → WasRead opened remaining is_open read a → WasRead opened remaining is_open read b
read_before opened remaining is_open read calls a b made (path, moment, later, is, was) =
    (path, moment, calls ++ later, made ∙ ap (λ (l : List Asked). calls ++ l) is ∙ sym (append_assoc calls later moment), was)

pub read_at : {F : Type 0} (opened : F → Opened) (remaining : F → Option (List ℕ)) (is_open : List Asked → F → FileIdentity → Type 0) (path : List ℕ) (read : FileRead) (P : Call → List Asked → Type 0) (a b : List Asked)
    → IsReadOf opened remaining (is_open a) path read → Adds P a b → WasRead opened remaining is_open read b
read_at opened remaining is_open path read P a b was (calls, made, each) = (path, a, calls, made, was)

-- so there is a copy still, once the file is hidden
pub copy_hidden : {F : Type 0} (opened : F → Opened) (remaining : F → Option (List ℕ)) (is_open : List Asked → F → FileIdentity → Type 0) (station name hidden copy : List ℕ) (read : FileRead) (a b : List Asked)
    → IsHidden station name hidden a b → HasCopy opened remaining is_open station copy read a → HasCopy opened remaining is_open station copy read b
copy_hidden opened remaining is_open station name hidden copy read a b made (temporary, whole, was) = (
  temporary,
  subst (λ (l : List Asked). IsWhole copy read.bytes.items l) (sym made) (whole_left copy (path_in station Folder.Out name) (path_in station Folder.Out hidden) read.bytes.items a
      (copy_elsewhere station copy name temporary) (copy_elsewhere station copy hidden temporary) whole),
  read_before opened remaining is_open read (Done (Rename (path_in station Folder.Out name) (path_in station Folder.Out hidden)) ∷ []) a b made was,
)

pub stands_hidden : (station name hidden copy : List ℕ) (a b : List Asked) → IsHidden station name hidden a b → IsTemporary (path_of station Folder.Refused) copy → standing copy b ≡ standing copy a
stands_hidden station name hidden copy a b made temporary = ap (standing copy) made
    ∙ stands_left copy (path_in station Folder.Out name) (path_in station Folder.Out hidden) a (copy_elsewhere station copy name temporary) (copy_elsewhere station copy hidden temporary)

-- THE PLACE

-- the path of a hidden name
pub taken_path : (station name hidden path : List ℕ) → IsTakenName name hidden → path ≡ path_in station Folder.Out hidden → IsTakenPath station name path
taken_path station name hidden path named is = (hidden, named, is)

-- what is asked while a file is moved writes to none
abbrev KeepsFile : (number : ℕ) (before : List Asked) → Asked → Type 0
KeepsFile number before asked = (bytes_of number (asked ∷ before) ≡ bytes_of number before) × (is_synced number (asked ∷ before) ≡ is_synced number before)

abbrev KeepsAll : (number : ℕ) (before : List Asked) → Call → Type 0
KeepsAll number before call = KeepsFile number before (Done call) × KeepsFile number before (Refused call) × KeepsFile number before (Failed call)

drop_writes : (are_one : List Asked → List ℕ → List ℕ → Type 0) (kept name : List ℕ) (number : ℕ) (call : Call) (before : List Asked) → MayDrop are_one kept name call before → KeepsAll number before call
drop_writes are_one kept name number call before (inl e) = subst (KeepsAll number before) (sym e) ((refl, refl), (refl, refl), (refl, refl))
drop_writes are_one kept name number call before (inr (inl e)) = subst (KeepsAll number before) (sym e) ((refl, refl), (refl, refl), (refl, refl))
drop_writes are_one kept name number call before (inr (inr (e, spare))) = subst (KeepsAll number before) (sym e) ((refl, refl), (refl, refl), (refl, refl))

move_writes : (are_one : List Asked → List ℕ → List ℕ → Type 0) (from : List ℕ) (IsNew : List ℕ → Type 0) (number : ℕ) (call : Call) (before : List Asked) → MayMove are_one from IsNew call before → KeepsAll number before call
move_writes are_one from IsNew number call before (inl (name, named, e)) = subst (KeepsAll number before) (sym e) ((refl, refl), (refl, refl), (refl, refl))
move_writes are_one from IsNew number call before (inr (name, named, may)) = drop_writes are_one name from number call before may

moves_write : (are_one : List Asked → List ℕ → List ℕ → Type 0) (from : List ℕ) (IsNew : List ℕ → Type 0) (number : ℕ) (calls before : List Asked) → Each (MayMove are_one from IsNew) calls before
    → (bytes_of number (calls ++ before) ≡ bytes_of number before) × (is_synced number (calls ++ before) ≡ is_synced number before)
moves_write are_one from IsNew number [] before each = (refl, refl)
moves_write are_one from IsNew number (asked ∷ calls) before (one, each) =
    let all = calls ++ before in
    let parts : KeepsAll number all (call_of asked) = move_writes are_one from IsNew number (call_of asked) all one in
    let now : KeepsFile number all asked = whatever_came (KeepsFile number all) asked parts.0 parts.1 parts.2 in
    let then : (bytes_of number all ≡ bytes_of number before) × (is_synced number all ≡ is_synced number before) = moves_write are_one from IsNew number calls before each in
    (now.0 ∙ then.0, now.1 ∙ then.1)

-- so a file that is whole is on disk where it was moved to
pub moved_on_disk : (are_one : List Asked → List ℕ → List ℕ → Type 0) (from to bytes : List ℕ) (IsNew : List ℕ → Type 0) (a b : List Asked) → Adds (MayMove are_one from IsNew) a b → IsMoved from to a b → IsWhole from bytes a → IsOnDisk to bytes b
moved_on_disk are_one from to bytes IsNew a b (calls, made, each) (stands, named, gone) (number, stood, has, is) =
    let keeps : (bytes_of number (calls ++ a) ≡ bytes_of number a) × (is_synced number (calls ++ a) ≡ is_synced number a) = moves_write are_one from IsNew number calls a each in
    ((number, stands ∙ stood, ap (bytes_of number) made ∙ keeps.0 ∙ has, ap (is_synced number) made ∙ keeps.1 ∙ is), named)

-- WHAT IS ASKED

-- a hidden name is put on disk
pub sync_gives : {F : Type 0} (opened : F → Opened) (remaining : F → Option (List ℕ)) (is_open : List Asked → F → FileIdentity → Type 0) (is_file : List Asked → List ℕ → FileIdentity → Type 0) (are_one : List Asked → List ℕ → List ℕ → Type 0) (station name hidden : List ℕ) (a b : List Asked) → IsTakenPath station name hidden → AddsSync hidden a b → Adds (MayGiveBack opened remaining is_open is_file are_one station name) a b
sync_gives opened remaining is_open is_file are_one station name hidden a b taken (asked, made, call) = (asked ∷ [], made, (inr (inl (hidden, taken, call)), tt))

-- there is a copy still then
pub copy_synced : {F : Type 0} (opened : F → Opened) (remaining : F → Option (List ℕ)) (is_open : List Asked → F → FileIdentity → Type 0) (station folder copy : List ℕ) (read : FileRead) (a b : List Asked)
    → AddsSync folder a b → HasCopy opened remaining is_open station copy read a → HasCopy opened remaining is_open station copy read b
copy_synced opened remaining is_open station folder copy read a b (asked, made, call) (temporary, whole, was) =
    (temporary, whole_synced folder copy read.bytes.items a b (asked, made, call) whole, read_before opened remaining is_open read (asked ∷ []) a b made was)

-- the copy comes in the place of the file that was read
pub put_gives : {A : Type 0} (result : Result A Error) {F : Type 0} (opened : F → Opened) (remaining : F → Option (List ℕ)) (is_open : List Asked → F → FileIdentity → Type 0) (is_file : List Asked → List ℕ → FileIdentity → Type 0) (are_one : List Asked → List ℕ → List ℕ → Type 0) (station name hidden copy : List ℕ) (read : FileRead) (a b : List Asked) → IsTakenPath station name hidden → HasCopy opened remaining is_open station copy read a
    → is_file a hidden read.file → b ≡ came_to result (Rename copy hidden) ∷ a → Adds (MayGiveBack opened remaining is_open is_file are_one station name) a b
put_gives result opened remaining is_open is_file are_one station name hidden copy read a b taken (temporary, whole, was) is made =
    added_call (MayGiveBack opened remaining is_open is_file are_one station name) a a b result (Rename copy hidden) (added_none (MayGiveBack opened remaining is_open is_file are_one station name) a) made (inr (inr (inl (hidden, copy, taken, temporary, refl, (read, whole, is, was)))))

-- a file is moved to the name that it had
pub move_gives : {F : Type 0} (opened : F → Opened) (remaining : F → Option (List ℕ)) (is_open : List Asked → F → FileIdentity → Type 0) (is_file : List Asked → List ℕ → FileIdentity → Type 0) (are_one : List Asked → List ℕ → List ℕ → Type 0) (station name hidden : List ℕ) (a b : List Asked) → IsTakenPath station name hidden → Adds (MayMove are_one hidden (IsNumbered (path_in station Folder.Out name))) a b → Adds (MayGiveBack opened remaining is_open is_file are_one station name) a b
move_gives opened remaining is_open is_file are_one station name hidden a b taken moves =
    added_weaker (MayMove are_one hidden (IsNumbered (path_in station Folder.Out name))) (MayGiveBack opened remaining is_open is_file are_one station name) (λ call before may. inr (inr (inr (hidden, taken, may)))) a b moves

-- a copy is made, or taken away
pub copy_gives : {F : Type 0} (opened : F → Opened) (remaining : F → Option (List ℕ)) (is_open : List Asked → F → FileIdentity → Type 0) (is_file : List Asked → List ℕ → FileIdentity → Type 0) (are_one : List Asked → List ℕ → List ℕ → Type 0) (station name : List ℕ) (a b : List Asked) → Adds (MayCopy (path_of station Folder.Refused)) a b → Adds (MayGiveBack opened remaining is_open is_file are_one station name) a b
copy_gives opened remaining is_open is_file are_one station name a b copies = added_weaker (MayCopy (path_of station Folder.Refused)) (MayGiveBack opened remaining is_open is_file are_one station name) (λ call before may. inl may) a b copies

pub remove_gives : {A : Type 0} (result : Result A Error) {F : Type 0} (opened : F → Opened) (remaining : F → Option (List ℕ)) (is_open : List Asked → F → FileIdentity → Type 0) (is_file : List Asked → List ℕ → FileIdentity → Type 0) (are_one : List Asked → List ℕ → List ℕ → Type 0) (station name copy : List ℕ) (a b : List Asked) → IsTemporary (path_of station Folder.Refused) copy → b ≡ came_to result (Remove copy) ∷ a → Adds (MayGiveBack opened remaining is_open is_file are_one station name) a b
remove_gives result opened remaining is_open is_file are_one station name copy a b temporary made = added_call (MayGiveBack opened remaining is_open is_file are_one station name) a a b result (Remove copy) (added_none (MayGiveBack opened remaining is_open is_file are_one station name) a) made (inl temporary)

-- all that is asked to take a file over
pub gives_takes : {F : Type 0} (opened : F → Opened) (remaining : F → Option (List ℕ)) (is_open : List Asked → F → FileIdentity → Type 0) (is_file : List Asked → List ℕ → FileIdentity → Type 0) (are_one : List Asked → List ℕ → List ℕ → Type 0) (station name : List ℕ) (a b : List Asked) → Adds (MayGiveBack opened remaining is_open is_file are_one station name) a b → Adds (MayTakeOver opened remaining is_open is_file are_one station name) a b
gives_takes opened remaining is_open is_file are_one station name a b gives = added_weaker (MayGiveBack opened remaining is_open is_file are_one station name) (MayTakeOver opened remaining is_open is_file are_one station name) (λ call before may. inr may) a b gives

pub hide_takes : {F : Type 0} (opened : F → Opened) (remaining : F → Option (List ℕ)) (is_open : List Asked → F → FileIdentity → Type 0) (is_file : List Asked → List ℕ → FileIdentity → Type 0) (are_one : List Asked → List ℕ → List ℕ → Type 0) (station name : List ℕ) (a b : List Asked) → Adds (MayHide station name) a b → Adds (MayTakeOver opened remaining is_open is_file are_one station name) a b
hide_takes opened remaining is_open is_file are_one station name a b hides = added_weaker (MayHide station name) (MayTakeOver opened remaining is_open is_file are_one station name) (λ call before may. inl may) a b hides

-- a copy that is put in its place is whole there, and is the one that it was
pub put_whole : (folder copy path bytes : List ℕ) (a b c d : List Asked) → AddsSync folder a b → c ≡ Done (Rename copy path) ∷ b → AddsSync path c d → IsWhole copy bytes a → IsWhole path bytes d
put_whole folder copy path bytes a b c d first made last whole =
    whole_synced path path bytes c d last (subst (λ (l : List Asked). IsWhole path bytes l) (sym made) (whole_renamed copy path bytes b (whole_synced folder copy bytes a b first whole)))

pub put_stands : (folder copy path : List ℕ) (a b c d : List Asked) → AddsSync folder a b → c ≡ Done (Rename copy path) ∷ b → AddsSync path c d → standing path d ≡ standing copy a
put_stands folder copy path a b c d first made last =
    sync_keeps_standing path path c d last ∙ ap (standing path) made ∙ rw (same_name path) (sync_keeps_standing folder copy a b first)

-- what holds of a value that may be there, where something else does
pub some_weaker : {A E : Type 0} (P Q : A → Type 0) (result : Result (Option A) E) → ((a : A) → P a → Q a) → IfOk result (λ o. IfSome o P) → IfOk result (λ o. IfSome o Q)
some_weaker P Q (Ok (Some a)) turn holds = turn a holds
some_weaker P Q (Ok None) turn holds = tt
some_weaker P Q (Err error) turn holds = tt

-- what was read and copied is the file of the name that it has got
pub taken_over : {K E F : Type 0} (path : K → List ℕ) (result : Result K E) (opened : F → Opened) (remaining : F → Option (List ℕ)) (is_open : List Asked → F → FileIdentity → Type 0) (name copy : List ℕ) (read : FileRead) (a b c d : List Asked)
    → IsReadOf opened remaining (is_open a) name read → WasMade copy a b → standing copy c ≡ standing copy b → IfOk result (λ k. IsOnDisk (path k) read.bytes.items d) → IfOk result (λ k. standing (path k) d ≡ standing copy c)
    → IfOk result (λ k. IsTakenOver opened remaining is_open name (path k) a d)
taken_over path (Ok k) opened remaining is_open name copy read a b c d was (number, since, stood) still disk stands = (read, was, disk, (number, since, stands ∙ still ∙ stood))
taken_over path (Err error) opened remaining is_open name copy read a b c d was made still disk stands = tt

-- what is asked at a begin
pub give_finishes : {F : Type 0} (opened : F → Opened) (remaining : F → Option (List ℕ)) (is_open : List Asked → F → FileIdentity → Type 0) (is_file : List Asked → List ℕ → FileIdentity → Type 0) (are_one : List Asked → List ℕ → List ℕ → Type 0) (station name : List ℕ) (a b : List Asked) → Adds (MayGiveBack opened remaining is_open is_file are_one station name) a b → Adds (MayFinish opened remaining is_open is_file are_one station) a b
give_finishes opened remaining is_open is_file are_one station name a b gives = added_weaker (MayGiveBack opened remaining is_open is_file are_one station name) (MayFinish opened remaining is_open is_file are_one station) (λ call before may. (name, inl may)) a b gives

pub drop_finishes : {F : Type 0} (opened : F → Opened) (remaining : F → Option (List ℕ)) (is_open : List Asked → F → FileIdentity → Type 0) (is_file : List Asked → List ℕ → FileIdentity → Type 0) (are_one : List Asked → List ℕ → List ℕ → Type 0) (station name hidden kept : List ℕ) (a b : List Asked) → IsTakenPath station name hidden → IsKeptElsewhere station name kept ⊎ IsNamedAfter (path_in station Folder.Out name) kept
    → Adds (MayDrop are_one kept hidden) a b → Adds (MayFinish opened remaining is_open is_file are_one station) a b
drop_finishes opened remaining is_open is_file are_one station name hidden kept a b taken named drops =
    added_weaker (MayDrop are_one kept hidden) (MayFinish opened remaining is_open is_file are_one station) (λ call before may. (name, inr (hidden, kept, taken, named, may))) a b drops
