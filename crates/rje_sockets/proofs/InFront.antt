-- What stands in front of the jobs that come stays while other files change.
use Rattle.std.proofs.Common.{◌≡◌, ℕ, List, [], Option, Some, None, true, false, Bool, if◌then◌else◌, refl, sym, ◌∙◌, subst}
use Rattle.std.proofs.lemmas.Slice.Eq.{bytes_eq-Decides}
use Rattle.std.specs.Prelude.{◌≢◌, bytes_eq}
use Rattle.rje_files.specs.declared.entry.Entry.{Entry}
use Rattle.rje_requests.specs.declared.order.Existing.{Existing}
use Rattle.rje_requests.specs.declared.order.Existing.TheVariants.{Replace, Refuse, Append}
use Rattle.rje_commands.specs.Commands.{AreEntriesOf}
use Rattle.rje_sockets.specs.declared.kept_file.KeptFile.{KeptFile}
use Rattle.rje_sockets.specs.InFront.{StandInFront}
use Rattle.rje_sockets.specs.Inside.Opening.{IsOpened}
use Rattle.rje_store.specs.Store.{FileMap, Discloses, IsSame, Sets}

stand_as : (existing : Existing) (name : List ℕ) (front : List Entry) (f g : FileMap) → g name ≡ f name → StandInFront existing name (Some f) front → StandInFront existing name (Some g) front
stand_as Replace name front f g same stand = stand
stand_as Refuse name front f g same (none, has) = (none, subst (λ (file : Option (List ℕ)). AreEntriesOf file []) (sym same) has)
stand_as Append name front f g same has = subst (λ (file : Option (List ℕ)). AreEntriesOf file front) (sym same) has

stand_untold : (existing : Existing) (name : List ℕ) (front : List Entry) (f : Option FileMap) → StandInFront existing name f front → StandInFront existing name None front
stand_untold Replace name front f stand = stand
stand_untold Refuse name front f (none, has) = (none, tt)
stand_untold Append name front f has = tt

module _ (front : List Entry) (file : KeptFile) where
  -- where the file has what it had
  pub opened_as : (f g : FileMap) → g file.into.jobs.now ≡ f file.into.jobs.now → IsOpened front file (Some f) → IsOpened front file (Some g)
  opened_as f g same opened =
      record { stand = stand_as file.into.existing file.into.jobs.now front f g same opened.stand; has = opened.has; once = opened.once; grows = opened.grows }

  -- where the files aren't told
  pub opened_untold : (f : Option FileMap) → IsOpened front file f → IsOpened front file None
  opened_untold f opened = record { stand = stand_untold file.into.existing file.into.jobs.now front f opened.stand; has = opened.has; once = opened.once; grows = tt }

  -- before a look that left the files as they were
  pub opened_before : (f g : Option FileMap) → Discloses f g IsSame → IsOpened front file g → IsOpened front file f
  opened_before None g same opened = opened_untold g opened
  opened_before (Some f) None same opened = absurd same
  opened_before (Some f) (Some g) same opened = opened_as g f (sym (same file.into.jobs.now)) opened

-- a file of another name was set
pub left_alone : (send own bytes : List ℕ) (f g : FileMap) → send ≢ own → Sets send bytes f g → g own ≡ f own
left_alone send own bytes f g two sets = sets own ∙ go (bytes_eq own send) refl where
  go : (b : Bool) → bytes_eq own send ≡ b → (if b then Some bytes else f own) ≡ f own
  go true is = absurd (two (sym ((bytes_eq-Decides own send).0 is)))
  go false is = refl
