-- What a packer holds, and what it returns.
use Rattle.std.specs.Prelude.{◌≡◌, ℕ, Bool, true, false, List, [], ◌∷◌, ◌++◌, length, None, Some, Result, Ok, Err, nat_le, if◌then◌else◌}
use Rattle.bsc_codes.specs.declared.block.Block.{Block}
use Rattle.bsc_codes.specs.declared.block.Closing.TheVariants.{Etb, Etx}
use Rattle.rje_text.specs.declared.mode.Mode.{Mode}
use Rattle.rje_text.specs.declared.select.Select.{Select}
use Rattle.rje_text.specs.declared.record.Record.{Record}
use Rattle.rje_text.specs.declared.pack_fault.PackFault.{PackFault}
use Rattle.rje_text.specs.declared.pushed.Pushed.{Pushed}
use Rattle.rje_text.specs.declared.pushed.Pushed.TheVariants.{Taken, Full}
use Rattle.rje_text.specs.Spelling.{spelling, selection}
use Rattle.rje_text.specs.PackFault.{pack_fault}
use Rattle.rje_text.specs.Cut.{block}

-- a packer: the job's selection and mode, and the text of the block in hand
pub record Packing : Type 0 where
  pub select : Select
  pub mode : Mode
  pub text : List ℕ

-- a packer that has taken nothing of its job
abbrev pub new_packing : Select → Mode → Packing
new_packing select mode = record { select = select; mode = mode; text = selection select mode }

-- a record goes into the block in hand: the text and its spelling together are at most 510 bytes
abbrev pub has_room : Packing → Record → Bool
has_room p r = nat_le (length (p.text ++ spelling p.mode r)) 510

-- the packer after a record that it takes
abbrev pub with_record : Packing → Record → Packing
with_record p r = record p { text = p.text ++ spelling p.mode r }

-- what a push of r to p returns, and the packer after it
abbrev pub Pushes : Packing → Record → Result Pushed PackFault → Packing → Type 0
Pushes p r (Err fault) q = (pack_fault p.select p.mode r ≡ Some fault) × (q ≡ p)
Pushes p r (Ok Taken) q = (pack_fault p.select p.mode r ≡ None) × (has_room p r ≡ true) × (q ≡ with_record p r)
Pushes p r (Ok (Full back)) q = (pack_fault p.select p.mode r ≡ None) × (has_room p r ≡ false) × (back ≡ r) × (q ≡ p)

-- the block in hand, closed by ETX where it is the job's last
abbrev pub block_in_hand : Packing → Bool → Block
block_in_hand p last = block p.mode (if last then Etx else Etb) p.text

-- the packer after a block was closed: in the middle of the job, or as new
abbrev pub after_close : Packing → Bool → Packing
after_close p true = new_packing p.select p.mode
after_close p false = record p { text = [] }

-- the blocks of records that are pushed one after another: a record that finds the block in hand full is pushed again after
-- a close(false), and at the end comes a close(true)
abbrev pub packed : Packing → List Record → List Block
packed p [] = block_in_hand p true ∷ []
packed p (r ∷ rs) =
    if has_room p r
    then packed (with_record p r) rs
    else block_in_hand p false ∷ packed (with_record (after_close p false) r) rs
