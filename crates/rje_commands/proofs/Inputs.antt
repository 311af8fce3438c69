-- What holds of the bytes that were read holds of the file, and of the deck, that they are.
use Rattle.std.proofs.Common.{◌≡◌, ◌⊎◌, ◌≤◌, ℕ, Bor, Bool, true, false, List, length, Option, Some, None, Result, Ok, Err, OnOk, IfErr, inl, inr, refl, sym, subst, ◌∙◌}
use Rattle.std.specs.Prelude.{◌≢◌, IfSome}
use Rattle.std.specs.Option.{IsSomeAnd}
use Rattle.std.specs.Result.{IsErrAnd}
use Rattle.rje_text.specs.declared.record.Record.{Record}
use Rattle.rje_jobs.specs.declared.job.Job.{Job}
use Rattle.rje_jobs.specs.Deck.{cards_of, deck_fault}
use Rattle.rje_jobs.specs.declared.file_fault.FileFault.TheVariants.{NotJobFile}
use Rattle.rje_files.specs.declared.entry.Entry.{Entry}
use Rattle.rje_files.specs.FileFault.{IsFileFault}
use Rattle.rje_files.specs.JobFile.{HasJobs, IsEntryFile}
use Rattle.line_world.specs.declared.turn.Turn.{Turn}
use Rattle.line_world.specs.declared.world_fault.WorldFault.{WorldFault}
use Rattle.line_world.specs.Run.{IsRunFault}
use Rattle.rje_print.specs.Script.{IsScript}
use Rattle.rje_store.proofs.Changes.{same_twice, set_after}
use Rattle.rje_commands.specs.CommandFault.{of_world}
use Rattle.rje_requests.specs.Device.{writing}
use Rattle.rje_requests.specs.declared.order.CardsOrder.{CardsOrder}
use Rattle.rje_monitor.specs.Turns.{IsFirstBadLine}
use Rattle.rje_requests.specs.declared.order.MarkOrder.{MarkOrder}
use Rattle.rje_requests.specs.declared.order.MonitorOrder.{MonitorOrder}
use Rattle.rje_requests.specs.declared.order.PrintOrder.{PrintOrder}
use Rattle.rje_requests.specs.declared.order.ShowOrder.{ShowOrder}
use Rattle.rje_requests.specs.declared.order.TakeOrder.{TakeOrder}
use Rattle.rje_requests.specs.declared.order.TryOrder.{TryOrder}
use Rattle.rje_requests.specs.declared.order.FileOrder.{FileOrder}
use Rattle.rje_commands.specs.declared.command_fault.CommandFault.{CommandFault}
use Rattle.rje_commands.specs.declared.command_fault.CommandFault.TheVariants as told
use Rattle.rje_commands.specs.Commands.{AreEntriesOf, AreInFront, AreKept, HasCutJob, IsThere, LacksJob, OfFile, OfFiles, OfDeck, HasFewer, IsFault, MakesFile, MarksEntries, TakesEntries}
use Rattle.rje_commands.specs.NamedFile.{IsHoldFault, IsWriteFault}
use Rattle.rje_commands.specs.Inside.Commands.{cards_entry, IsMadeFault, IsHeld, IsHeldFault, IsMade, IsTryFault, IsTextFault, IsCaptureFault, IsCheckFault, IsChoiceFault, IsFound, IsMarkedFault, IsMarkedOf, IsNamedFault, IsNumbersFault, IsTakenFault, IsTakenOf}
use Rattle.rje_store.specs.Store.{FileMap, Discloses, IsSame, Sets}

module _ (P Q : List ℕ → Type 0) (more : (file : List ℕ) → P file → Q file) where
  known_more : (known : Option (List ℕ)) → IsSomeAnd known P → IsSomeAnd known Q
  known_more None is = absurd is
  known_more (Some file) is = more file is

  pub of_file_more : (name : List ℕ) (files : Option FileMap) → OfFile name files P → OfFile name files Q
  of_file_more name None is = tt
  of_file_more name (Some known) is = known_more (known name) is

module _ (P : List ℕ → Type 0) (bytes : List ℕ) (holds : P bytes) where
  of_known : (known : Option (List ℕ)) → IsSomeAnd known (λ file. bytes ≡ file) → IsSomeAnd known P
  of_known = known_more (λ file. bytes ≡ file) P (λ file is. subst P is holds)

  pub of_file : (name : List ℕ) (files : Option FileMap) → OfFile name files (λ file. bytes ≡ file) → OfFile name files P
  of_file = of_file_more (λ file. bytes ≡ file) P (λ file is. subst P is holds)

  of_input : (input : Option (List ℕ)) → IfSome input (λ deck. bytes ≡ deck) → IfSome input P
  of_input None is = tt
  of_input (Some deck) is = subst P is holds

  pub of_deck : (name : List ℕ) (files : Option FileMap) (input : Option (List ℕ)) → OfDeck name files input (λ deck. bytes ≡ deck) → OfDeck name files input P
  of_deck name files input is = (λ hyphen. of_input input (is.0 hyphen), λ other. of_file name files (is.1 other))

-- two files that were read one after the other
pub of_files : (P : List ℕ → List ℕ → Type 0) (first second : List ℕ) (f g : Option FileMap) (a b : List ℕ) → P a b
    → OfFile first f (λ file. a ≡ file) → Discloses f g IsSame → OfFile second g (λ file. b ≡ file) → OfFiles first second f P
of_files P first second None g a b holds one same two = tt
of_files P first second (Some f) None a b holds one same two = absurd same
of_files P first second (Some f) (Some g) a b holds one same two =
    of_known (λ x. IsSomeAnd (f second) (λ y. P x y)) a
    (of_known (P a) b holds (f second) (subst (λ (known : Option (List ℕ)). IsSomeAnd known (λ file. b ≡ file)) (same second) two)) (f first) one

-- what holds of a fault holds of it as it is reported
pub told_as : {T : Type 0} (result : Result T CommandFault) (fault : CommandFault) (P : CommandFault → Type 0)
    → IsErrAnd result (λ e. e ≡ fault) → P fault → IfErr result P
told_as (Err e) fault P is holds = subst P (sym is) holds
told_as (Ok x) fault P is holds = absurd is

-- what a name has after a read that left the files as they were, it had before
pub there_before : (name : List ℕ) (f g : Option FileMap) (held : Option (List ℕ)) → Discloses f g IsSame → IsThere name g held → IsThere name f held
there_before name None g held same is = tt
there_before name (Some f) None held same is = absurd same
there_before name (Some f) (Some g) held same is = sym (same name) ∙ is

-- a job file that was read
pub there_file : (name : List ℕ) (f : Option FileMap) (held : Option (List ℕ)) (P : List ℕ → Type 0) → IsThere name f held → IsSomeAnd held P → OfFile name f P
there_file name None held P is h = tt
there_file name (Some f) held P is h = subst (λ (known : Option (List ℕ)). IsSomeAnd known P) (sym is) h

-- the entries of the job file that was read stand in front
pub in_front : (order : CardsOrder) (f g : Option FileMap) (held : Option (List ℕ)) (front : List Entry) → Discloses f g IsSame → IsHeld order g held
    → AreEntriesOf held front → AreInFront order f front
in_front order f g held front same is h = (
  λ on. go f (there_before order.jobs.now f g held same (is.0 on)),
  λ off. subst (λ (known : Option (List ℕ)). AreEntriesOf known front) (is.1 off) h,
)
  where
    go : (f : Option FileMap) → IsThere order.jobs.now f held → IfSome f (λ known. AreEntriesOf (known order.jobs.now) front)
    go None there = tt
    go (Some known) there = subst (λ (file : Option (List ℕ)). AreEntriesOf file front) (sym there) h

-- a file that can't be written is a fault of `cards`
pub write_fault : (order : CardsOrder) (files : Option FileMap) (input : Option (List ℕ)) (fault : CommandFault) → IsWriteFault order.jobs.now fault
    → IsFault (FileOrder.Cards order) files input fault
write_fault order files input told.OutOfMemory h = tt
write_fault order files input (told.CannotWrite name cause) h = h
write_fault order files input (told.InUse name) h = h
write_fault order files input (told.Unsynced name) h = h
write_fault order files input _ h = absurd h

-- a job file that can't be read is a fault of `cards`
pub held_fault : (order : CardsOrder) (files : Option FileMap) (input : Option (List ℕ)) (fault : CommandFault) → IsHeldFault order fault
    → IsFault (FileOrder.Cards order) files input fault
held_fault order files input told.OutOfMemory h = tt
held_fault order files input (told.CannotRead name fault) h = inr (h.0, h.1)
held_fault order files input _ h = absurd h.1

-- the fault of a job file to which the job is added is one of `cards`
pub made_fault : (order : CardsOrder) (f g : Option FileMap) (input : Option (List ℕ)) (held : Option (List ℕ)) (fault : CommandFault)
    → Discloses f g IsSame → IsHeld order g held → IsMadeFault held fault → IsFault (FileOrder.Cards order) f input fault
made_fault order f g input held told.OutOfMemory same kept h = tt
made_fault order f g input held (told.File fault) same kept h = go order.append refl
  where
    some_none : (o : Option (List ℕ)) → o ≡ None → IsSomeAnd o (λ file. IsFileFault IsEntryFile file fault) → ⊥
    some_none None e is = is
    some_none (Some file) e is = cc

    go : (b : Bool) → order.append ≡ b → (order.append ≡ true) × OfFile order.jobs.now f (λ file. IsFileFault IsEntryFile file fault)
    go true on = (on, there_file order.jobs.now f held _ (there_before order.jobs.now f g held same (kept.0 on)) h)
    go false off = absurd (some_none held (kept.1 off) h)
made_fault order f g input held _ same kept h = absurd h

-- the fault of a run of two files is one of `try`
module _ (order : TryOrder) (f g : Option FileMap) (a b : List ℕ)
    (one : OfFile order.jobs.now f (λ file. a ≡ file)) (same : Discloses f g IsSame) (two : OfFile order.script.now g (λ file. b ≡ file)) where
  both : (P : List ℕ → List ℕ → Type 0) → P a b → OfFiles order.jobs.now order.script.now f P
  both P holds = of_files P order.jobs.now order.script.now f g a b holds one same two

  pub try_fault : (fault : CommandFault) → IsTryFault a b fault → IsFault (FileOrder.Try order) f None fault
  try_fault told.OutOfMemory h = tt
  try_fault (told.File fault) h = of_file (λ file. IsTryFault file b (told.File fault)) a h order.jobs.now f one
  try_fault (told.Script line) h = both (λ file script. IsTryFault file script (told.Script line)) h
  try_fault (told.BadJob number) h = both (λ file script. IsTryFault file script (told.BadJob number)) h
  try_fault (told.NotDamage turn) h = both (λ file script. IsTryFault file script (told.NotDamage turn)) h
  try_fault (told.BadCut turn) h = both (λ file script. IsTryFault file script (told.BadCut turn)) h
  try_fault _ h = absurd h

-- the file that `cards` makes of a deck, after that was read, the file had for itself, and what it held read
pub made_file : (order : CardsOrder) (deck bytes : List ℕ) (cards : List Record) (held : Option (List ℕ)) (f g h i j : Option FileMap)
    → (deck_fault deck ≡ None) × (cards ≡ cards_of (writing order.device) deck) → IsMade held (cards_entry order cards) bytes
    → length bytes ≤ 16777216 → Discloses f g IsSame → Discloses g h IsSame → IsHeld order h held → Discloses h i IsSame
    → Discloses i j (Sets order.jobs.now bytes) → MakesFile order deck f j
made_file order deck bytes cards held f g h i j of_deck made few read locked kept still sets =
    let same = same_twice f g h read locked in
    let made = subst (λ (cards : List Record). IsMade held (cards_entry order cards) bytes) of_deck.1 made in (
      made.0,
      bytes,
      in_front order f h held made.0 same kept made.1,
      record { good = of_deck.0; file = made.2; few = few },
      set_after order.jobs.now bytes f i j (same_twice f h i same still) sets,
    )

-- two things that were done at once
pub done_both : {T E : Type 0} (result : Result T E) (P Q : Type 0) → OnOk result P → OnOk result Q → OnOk result (P × Q)
done_both (Ok x) P Q p q = (p, q)
done_both (Err e) P Q p q = tt

-- the fault of a run is reported as one of `try`
pub run_fault : (file script : List ℕ) (jobs : List Job) (turns : List Turn) (fault : WorldFault) → HasJobs jobs file → IsScript turns script
    → IsRunFault jobs turns fault → IsTryFault file script (of_world fault)
run_fault file script jobs turns WorldFault.OutOfMemory has is h = tt
run_fault file script jobs turns (WorldFault.BadJob number) has is h = (jobs, turns, has, is, h)
run_fault file script jobs turns (WorldFault.NotDamage attempt turn) has is h = (attempt, (jobs, turns, has, is, h))
run_fault file script jobs turns (WorldFault.BadCut attempt turn) has is h = (attempt, (jobs, turns, has, is, h))

-- what holds whatever fault is reported
pub whatever : {T E : Type 0} (result : Result T E) (P : E → Type 0) (Q : Type 0) → Q → IfErr result (λ e. P e → Q)
whatever (Ok x) P Q q = tt
whatever (Err e) P Q q = λ _. q

-- why there is no such text is why the command isn't carried out
module _ (name : Bor (List ℕ)) (files : Option FileMap) (bytes : List ℕ) (is : OfFile name.now files (λ file. bytes ≡ file)) where
  pub check_fault : (fault : CommandFault) → IsCheckFault bytes fault → IsFault (FileOrder.Check name) files None fault
  check_fault told.OutOfMemory h = tt
  check_fault (told.File fault) h = of_file (λ file. IsCheckFault file (told.File fault)) bytes h name.now files is
  check_fault (told.BadJob number) h = of_file (λ file. IsCheckFault file (told.BadJob number)) bytes h name.now files is
  check_fault _ h = absurd h

-- why there is no text of the chosen jobs is why `show` isn't carried out
pub show_fault : (order : ShowOrder) (files : Option FileMap) (bytes : List ℕ) → OfFile order.jobs.now files (λ file. bytes ≡ file)
    → (fault : CommandFault) → IsChoiceFault order.choice bytes fault → IsFault (FileOrder.Show order) files None fault
show_fault order files bytes is told.OutOfMemory h = tt
show_fault order files bytes is (told.File fault) h = of_file (λ file. IsTextFault file (told.File fault)) bytes h order.jobs.now files is
show_fault order files bytes is (told.NoJob number) h = (h.0, of_file (HasFewer number) bytes h.1 order.jobs.now files is)
show_fault order files bytes is _ h = absurd h

-- and so it is of `print`
pub print_fault : (order : PrintOrder) (files : Option FileMap) (bytes : List ℕ) → OfFile order.jobs.now files (λ file. bytes ≡ file)
    → (fault : CommandFault) → IsChoiceFault order.choice bytes fault → IsFault (FileOrder.Print order) files None fault
print_fault order files bytes is told.OutOfMemory h = tt
print_fault order files bytes is (told.File fault) h = of_file (λ file. IsTextFault file (told.File fault)) bytes h order.jobs.now files is
print_fault order files bytes is (told.NoJob number) h = (h.0, of_file (HasFewer number) bytes h.1 order.jobs.now files is)
print_fault order files bytes is _ h = absurd h

-- and of `monitor`
pub monitor_fault : (order : MonitorOrder) (files : Option FileMap) (input : Option (List ℕ)) (bytes : List ℕ)
    → OfDeck order.capture.now files input (λ deck. bytes ≡ deck) → (fault : CommandFault) → IsCaptureFault order.hex bytes fault
    → IsFault (FileOrder.Monitor order) files input fault
monitor_fault order files input bytes is told.OutOfMemory h = tt
monitor_fault order files input bytes is (told.NotHex line) h =
    (h.0, of_deck (λ read. IsFirstBadLine read line) bytes h.1 order.capture.now files input is)
monitor_fault order files input bytes is _ h = absurd h

-- why a file can't be had is why `take` isn't carried out, of the file that jobs are taken from and of the one that is made
pub take_hold_fault : (order : TakeOrder) (files : Option FileMap) (name : List ℕ) → (name ≡ order.jobs.now) ⊎ (name ≡ order.new.now) → (fault : CommandFault)
    → IsHoldFault name fault → IsFault (FileOrder.Take order) files None fault
take_hold_fault order files name one told.OutOfMemory h = tt
take_hold_fault order files name one (told.CannotRead named fault) h = subst (λ n. (n ≡ order.jobs.now) ⊎ (n ≡ order.new.now)) (sym h) one
take_hold_fault order files name one (told.CannotWrite named cause) h = subst (λ n. (n ≡ order.jobs.now) ⊎ (n ≡ order.new.now)) (sym h) one
take_hold_fault order files name one (told.InUse named) h = subst (λ n. (n ≡ order.jobs.now) ⊎ (n ≡ order.new.now)) (sym h) one
take_hold_fault order files name one (told.Unsynced named) h = subst (λ n. (n ≡ order.jobs.now) ⊎ (n ≡ order.new.now)) (sym h) one
take_hold_fault order files name one _ h = absurd h

-- and so it is of `mark`
pub mark_hold_fault : (order : MarkOrder) (files : Option FileMap) (fault : CommandFault) → IsHoldFault order.jobs.now fault
    → IsFault (FileOrder.Mark order) files None fault
mark_hold_fault order files told.OutOfMemory h = tt
mark_hold_fault order files (told.CannotRead named fault) h = h
mark_hold_fault order files (told.CannotWrite named cause) h = h
mark_hold_fault order files (told.InUse named) h = h
mark_hold_fault order files (told.Unsynced named) h = h
mark_hold_fault order files _ h = absurd h

-- a file that can't be written can't be had
pub hold_of_write : (name : List ℕ) (fault : CommandFault) → IsWriteFault name fault → IsHoldFault name fault
hold_of_write name told.OutOfMemory h = tt
hold_of_write name (told.CannotWrite named cause) h = h
hold_of_write name (told.InUse named) h = h
hold_of_write name (told.Unsynced named) h = h
hold_of_write name _ h = absurd h

-- why there is no file with marks is why `mark` isn't carried out
pub marked_fault : (order : MarkOrder) (files : Option FileMap) (bytes : List ℕ) → OfFile order.jobs.now files (λ file. bytes ≡ file)
    → (fault : CommandFault) → IsMarkedFault order bytes fault → IsFault (FileOrder.Mark order) files None fault
marked_fault order files bytes is told.OutOfMemory h = tt
marked_fault order files bytes is (told.File fault) h = of_file (λ file. IsFileFault IsEntryFile file fault) bytes h order.jobs.now files is
marked_fault order files bytes is (told.BadJob number) h = of_file (HasCutJob order number) bytes h order.jobs.now files is
marked_fault order files bytes is (told.NoJob number) h = of_file (LacksJob order.numbers.text.now number) bytes h order.jobs.now files is
marked_fault order files bytes is (told.NoJobFile name) h = (
  h.0,
  subst (λ n. OfFile n files (λ file. IsFileFault IsEntryFile file NotJobFile)) (sym h.0)
      (of_file (λ file. IsFileFault IsEntryFile file NotJobFile) bytes h.1 order.jobs.now files is),
)
marked_fault order files bytes is _ h = absurd h

-- a fault of the entries of the file of a name that was read is one of `take`
take_named_fault : (order : TakeOrder) (files : Option FileMap) (name bytes : List ℕ)
    → (name ≡ order.jobs.now) ⊎ ((order.append ≡ true) × (name ≡ order.new.now)) → ((P : List ℕ → Type 0) → P bytes → OfFile name files P)
    → (fault : CommandFault) → IsNamedFault name bytes fault → IsFault (FileOrder.Take order) files None fault
take_named_fault order files name bytes one of told.OutOfMemory h = tt
take_named_fault order files name bytes (inl is) of (told.File fault) h =
    inl (subst (λ n. OfFile n files (λ file. IsFileFault IsEntryFile file fault)) is (of (λ file. IsFileFault IsEntryFile file fault) h))
take_named_fault order files name bytes (inr (on, is)) of (told.File fault) h =
    inr (on, subst (λ n. OfFile n files (λ file. IsFileFault IsEntryFile file fault)) is (of (λ file. IsFileFault IsEntryFile file fault) h))
take_named_fault order files name bytes one of (told.NoJobFile named) h = (
  subst (λ n. (n ≡ order.jobs.now) ⊎ ((order.append ≡ true) × (n ≡ order.new.now))) (sym h.0) one,
  subst (λ n. OfFile n files (λ file. IsFileFault IsEntryFile file NotJobFile)) (sym h.0) (of (λ file. IsFileFault IsEntryFile file NotJobFile) h.1),
)
take_named_fault order files name bytes one of _ h = absurd h

-- and so is one of the numbers
take_numbers_fault : (order : TakeOrder) (files : Option FileMap) (bytes : List ℕ) → OfFile order.jobs.now files (λ file. bytes ≡ file)
    → (fault : CommandFault) → IsNumbersFault order.jobs.now order.numbers.text.now bytes fault → IsFault (FileOrder.Take order) files None fault
take_numbers_fault order files bytes is (told.NoJob number) h = of_file (LacksJob order.numbers.text.now number) bytes h order.jobs.now files is
take_numbers_fault order files bytes is told.OutOfMemory h = tt
take_numbers_fault order files bytes is (told.File fault) h =
    take_named_fault order files order.jobs.now bytes (inl refl) (λ P p. of_file P bytes p order.jobs.now files is) (told.File fault) h
take_numbers_fault order files bytes is (told.NoJobFile name) h =
    take_named_fault order files order.jobs.now bytes (inl refl) (λ P p. of_file P bytes p order.jobs.now files is) (told.NoJobFile name) h
take_numbers_fault order files bytes is _ h = absurd h

-- why there is no file of taken jobs is why `take` isn't carried out
pub taken_fault : (order : TakeOrder) (f g : Option FileMap) (bytes : List ℕ) (found : Option (List ℕ)) → OfFile order.jobs.now f (λ file. bytes ≡ file)
    → Discloses f g IsSame → IsFound order g found → (fault : CommandFault) → IsTakenFault order bytes found fault
    → IsFault (FileOrder.Take order) f None fault
taken_fault order f g bytes found is same kept fault (inl h) = take_numbers_fault order f bytes is fault h
taken_fault order f g bytes found is same kept fault (inr (inl memory)) = subst (IsFault (FileOrder.Take order) f None) (sym memory) tt
taken_fault order f g bytes found is same kept fault (inr (inr h)) = go found kept h
  where
    on : (b : Bool) (file : List ℕ) → (b ≡ false → Some file ≡ None) → b ≡ true
    on true file k = refl
    on false file k = let no : Some file ≡ None = k refl in cc

    go : (found : Option (List ℕ)) → IsFound order g found → IsSomeAnd found (λ file. IsNamedFault order.new.now file fault)
        → IsFault (FileOrder.Take order) f None fault
    go None kept h = absurd h
    go (Some file) kept h =
        take_named_fault order f order.new.now file (inr (on order.append file kept.1, refl))
        (λ P p. there_file order.new.now f (Some file) P (there_before order.new.now f g (Some file) same kept.0) p) fault h

-- a fault of the entries of a file is one of entries of some numbers
pub numbers_named : (name numbers file : List ℕ) (fault : CommandFault) → IsNamedFault name file fault → IsNumbersFault name numbers file fault
numbers_named name numbers file told.OutOfMemory h = tt
numbers_named name numbers file (told.File fault) h = h
numbers_named name numbers file (told.NoJobFile named) h = h
numbers_named name numbers file _ h = absurd h

-- and that is one of a file with marks
pub marked_numbers : (order : MarkOrder) (file : List ℕ) (fault : CommandFault) → IsNumbersFault order.jobs.now order.numbers.text.now file fault
    → IsMarkedFault order file fault
marked_numbers order file told.OutOfMemory h = tt
marked_numbers order file (told.File fault) h = h
marked_numbers order file (told.NoJobFile named) h = h
marked_numbers order file (told.NoJob number) h = h
marked_numbers order file _ h = absurd h

-- what the file that was found holds stands in front
pub kept_in_front : (order : TakeOrder) (f g : Option FileMap) (found : Option (List ℕ)) (front : List Entry) → Discloses f g IsSame → IsFound order g found
    → AreEntriesOf found front → AreKept order f front
kept_in_front order f g found front same kept h = (
  λ on. held f (there_before order.new.now f g found same kept.0),
  λ off. (
    none f (subst (IsThere order.new.now f) (kept.1 off) (there_before order.new.now f g found same kept.0)),
    subst (λ (known : Option (List ℕ)). AreEntriesOf known front) (kept.1 off) h,
  ),
)
  where
    held : (f : Option FileMap) → IsThere order.new.now f found → IfSome f (λ known. AreEntriesOf (known order.new.now) front)
    held None there = tt
    held (Some known) there = subst (λ (file : Option (List ℕ)). AreEntriesOf file front) (sym there) h

    none : (f : Option FileMap) → IsThere order.new.now f None → IfSome f (λ known. known order.new.now ≡ None)
    none None there = tt
    none (Some known) there = there

-- the file that `take` makes, after both were had and read
pub takes_entries : (order : TakeOrder) (file bytes : List ℕ) (found : Option (List ℕ)) (jobs cards : ℕ) (f g h i : Option FileMap)
    → (made : IsTakenOf order file found bytes jobs cards) → length bytes ≤ 16777216 → Discloses f g IsSame → IsFound order g found → Discloses g h IsSame
    → order.jobs.now ≢ order.new.now → Discloses h i (Sets order.new.now bytes) → TakesEntries order made.entries f i
takes_entries order file bytes found jobs cards f g h i made few read kept still two sets = record {
  front = made.made.0;
  bytes = bytes;
  kept = kept_in_front order f g found made.made.0 read kept made.made.1;
  taken_file = record { there = made.there; file = made.made.2; few = few };
  two = two;
  sets = set_after order.new.now bytes f h i (same_twice f g h read still) sets;
}

-- the file that `mark` makes, after it was had
pub marks_entries : (order : MarkOrder) (file bytes : List ℕ) (jobs : ℕ) (f g h : Option FileMap) → (made : IsMarkedOf order file bytes jobs)
    → length bytes ≤ 16777216 → Discloses f g IsSame → Discloses g h (Sets order.jobs.now bytes) → MarksEntries order made.entries f h
marks_entries order file bytes jobs f g h made few same sets = record {
  bytes = bytes;
  there = made.there;
  file = made.made;
  few = few;
  sets = set_after order.jobs.now bytes f g h same sets;
}
