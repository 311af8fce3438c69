-- The mode after a block: whether the block is read in its job.
use Rattle.std.proofs.Common.{◌≡◌, ◌≢◌, Option, Some, None, Bool, true, false, refl, ap}
use Rattle.std.specs.Prelude.{is_some, ◌&&◌}
use Rattle.bsc_codes.specs.declared.block.Block.{Block}
use Rattle.rje_text.specs.declared.mode.Mode.{Mode}
use Rattle.rje_text.specs.declared.counted.Counted.{Counted}
use Rattle.rje_text.specs.declared.text_fault.TextFault.{TextFault}
use Rattle.rje_text.specs.Reading.{Agrees, IsCounted, mode_of}
use Rattle.rje_text.specs.TextFault.{IsTextFault}
use Rattle.rje_text.specs.Laws.{OneFault}
use Rattle.rje_monitor.specs.Hearing.{agrees, is_read}

-- a mode agrees just where it is that of the job's earlier blocks
agrees_holds : (so_far : Option Mode) (mode : Mode) → Agrees mode so_far → agrees so_far mode ≡ true
agrees_holds None mode h = refl
agrees_holds (Some Mode.Normal) Mode.Normal h = refl
agrees_holds (Some Mode.Transparent) Mode.Transparent h = refl
agrees_holds (Some Mode.Normal) Mode.Transparent h = cc
agrees_holds (Some Mode.Transparent) Mode.Normal h = cc

agrees_only : (so_far : Option Mode) (mode : Mode) → agrees so_far mode ≡ true → Agrees mode so_far
agrees_only None mode h = tt
agrees_only (Some Mode.Normal) Mode.Normal h = refl
agrees_only (Some Mode.Transparent) Mode.Transparent h = refl
agrees_only (Some Mode.Normal) Mode.Transparent h = cc
agrees_only (Some Mode.Transparent) Mode.Normal h = cc

both_hold : (a b : Bool) → a ≡ true → b ≡ true → (a && b) ≡ true
both_hold true b refl h = h
both_hold false b h k = cc

both_held : (a b : Bool) → (a && b) ≡ true → (a ≡ true) × (b ≡ true)
both_held true true h = (refl, refl)
both_held true false h = cc
both_held false b h = cc

-- a block whose records are counted is read
pub read_counted : (block : Block) (so_far : Option Mode) (counted : Counted) → IsCounted block so_far counted → is_read so_far block ≡ true
read_counted block so_far counted (of, mode) =
    both_hold _ _ (ap is_some of.1) (agrees_holds so_far (mode_of block.transparent) mode)

not_true : (b : Bool) → (b ≡ true → ⊥) → b ≡ false
not_true true h = absurd (h refl)
not_true false h = refl

-- a block with another fault than out of memory isn't read: else it would have two
pub unread_refused : (block : Block) (so_far : Option Mode) (fault : TextFault) → OneFault → IsTextFault block so_far fault → fault ≢ TextFault.OutOfMemory
    → is_read so_far block ≡ false
unread_refused block so_far fault one h ne = not_true _ (λ read.
    let both = both_held _ _ read in
    ne (one block so_far fault TextFault.OutOfMemory h (both.0, agrees_only so_far _ both.1)))
