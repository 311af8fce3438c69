-- What `blocks` prints for a deck (own profile).
use Rattle.std.specs.Prelude.{◌≡◌, ℕ, ◌+◌, ◌<◌, ◌^◌, List, ◌++◌, length, Option, Some, None, sum_by, ⊤}
use Rattle.bsc_codes.specs.declared.block.Block.{Block}
use Rattle.rje_text.specs.declared.mode.Mode.{Mode}
use Rattle.rje_text.specs.declared.mode.Mode.TheVariants.{Normal}
use Rattle.rje_text.specs.declared.select.Select.TheVariants.{Unset}
use Rattle.rje_text.specs.declared.record.Record.{Record}
use Rattle.rje_text.specs.declared.unpacked.Unpacked.{Unpacked}
use Rattle.rje_text.specs.Reading.{IsRead}
use Rattle.rje_text.specs.Cut.{cut}
use Rattle.rje_text.specs.Laws.{AreRead}
use Rattle.rje_jobs.specs.Deck.{deck_fault, job_of}
use Rattle.rje_print.specs.declared.listing_fault.ListingFault.{ListingFault}
use Rattle.rje_print.specs.declared.listing_fault.ListingFault.TheVariants.{Deck, Output}
use Rattle.rje_print.specs.BlockLines.{block_lines, back_line}

-- how many records were read
abbrev pub record_count : List Unpacked → ℕ
record_count us = sum_by (λ u. length u.records) us

-- the text is a line for each block of the canonical cut of these records, and the number of records that reading these blocks gives
pub record ListsBlocks (records : List Record) (text : List ℕ) : Type 0 where
  pub us : List Unpacked
  pub read : AreRead None (cut Unset Normal records) us
  pub same : text ≡ block_lines 1 (cut Unset Normal records) ++ back_line (record_count us)

-- the deck has no fault, and the text lists the blocks of its job
pub record IsBlockListing (deck text : List ℕ) : Type 0 where
  pub good : deck_fault deck ≡ None
  pub lists : ListsBlocks (job_of Unset Normal deck).records text

-- why a deck's listing isn't printed: the deck has a fault, or the output fails
abbrev pub IsListingFault : List ℕ → ListingFault → Type 0
IsListingFault deck (Deck fault) = deck_fault deck ≡ Some fault
IsListingFault deck (Output error) = ⊤

-- the fault is the deck's
abbrev pub IsOfDeck : ListingFault → Type 0
IsOfDeck (Deck fault) = ⊤
IsOfDeck (Output error) = ⊥

-- Below, the listing as it grows; private functions cite it.

-- the block reads, and its records can be counted
abbrev pub CanAdd : Block → Option Mode → ℕ → Type 0
CanAdd b so_far count = (u : Unpacked) × IsRead b so_far u × (count + length u.records < 2 ^ 64)

-- the block was read, and its records counted
abbrev pub CountsBlock : Block → Option Mode → Option Mode → ℕ → ℕ → Type 0
CountsBlock b before after count more = (u : Unpacked) × IsRead b before u × (after ≡ Some u.mode) × (more ≡ count + length u.records)
