-- What a sender has marked in its file while its jobs are counted (own profile); no promise rests on it.
use Rattle.rje_files.specs.Marks.{AreMarks}
use Rattle.rje_store.specs.Store.{FileMap}
use Rattle.rje_sockets.specs.declared.sent_marker.SentMarker.{SentMarker}
use Rattle.rje_sockets.specs.Ending.{MarksSent}
use Rattle.std.specs.Prelude.{Option, false, ℕ, List, ◌≡◌}
use Rattle.bsc_history.specs.History.{History}
use Rattle.line_world.specs.AnyLines.{SenderTook}
use Rattle.rje_station.specs.Sending.{Sending}

-- What a marker has marked since the files were these, where so many jobs are counted: just these, unless it gave up; and what it has marked
-- is in the file, which is its own copy from before anything was said. Its places are those of the marks.
pub record Marks (marker : SentMarker) (counted : ℕ) (files made : Option FileMap) : Type 0 where
  pub places : AreMarks marker.file.items marker.places.items
  pub all : marker.gave_up ≡ false → marker.marked ≡ counted
  pub file : MarksSent marker.file.items marker.marked marker.name.now files made

-- a marker of the same file went on to mark what is counted
abbrev pub GoesOnMarking : (old new : SentMarker) → (counted more : ℕ) → (before after : Option FileMap) → Type 0
GoesOnMarking old new counted more before after =
    (new.name ≡ old.name) × (new.file ≡ old.file)
    × ((files : Option FileMap) → Marks old counted files before → Marks new more files after)

-- a sending station that took some turns has counted so many jobs
abbrev pub WereCounted : Sending → ℕ → Type 0
WereCounted s n = (h : History) × (near : Sending) × SenderTook s h near × (near.counted ≡ n)

-- the file of this name became that of the same entries as this file's, in which just so many of those that were not Sent are Sent as a sending
-- station counted that took some turns, and no other file changed
abbrev pub MarksCounted : Sending → (file name : List ℕ) → (files made : Option FileMap) → Type 0
MarksCounted s file name files made = (n : ℕ) × WereCounted s n × MarksSent file n name files made
