-- The items of a text's line, one after another, and what the plain listener has heard in front of them; no promise rests on this file.
use Rattle.std.specs.Prelude.{◌≡◌, ◌≢◌, ◌⊎◌, ℕ, ◌==◌, ◌||◌, Bool, true, false, List, [], ◌∷◌, ◌++◌, Some, None}
use Rattle.std.specs.Bool.{OnFalse}
use Rattle.bsc_codes.specs.Bytes.{DLE, ETB, ETX, SYN}
use Rattle.bsc_frame.specs.Body.{IsNormalText, on_line, start_of_text, dle, closing_byte}
use Rattle.bsc_frame.specs.Transmission.{SyncPattern}
use Rattle.bsc_frame.specs.Inside.Listening.HeardSoFar.{HeardSoFar, Pads}
use Rattle.bsc_frame.specs.Inside.Listening.Run.{Waits, run}
use Rattle.rje_monitor.specs.declared.item.Item.{Item}
use Rattle.rje_monitor.specs.Hearing.{is_pad}

-- the byte stands for no data
abbrev pub IsNoData : Bool → ℕ → Type 0
IsNoData false c = ¬ (IsNormalText c)
IsNoData true c = c ≢ DLE

-- the item in front of the line, and what is behind it
abbrev pub IsItem : Bool → Item → (line rest : List ℕ) → Type 0
IsItem transparent (Item.Data c) line rest = OnFalse transparent (IsNormalText c) × (line ≡ on_line transparent (Some c) ++ rest)
IsItem transparent Item.Fill line rest = line ≡ on_line transparent None ++ rest
IsItem transparent (Item.End closing) line rest = line ≡ dle transparent ++ (closing_byte closing ∷ rest)
IsItem transparent Item.Other line rest =
    (c : ℕ) × (line ≡ dle transparent ++ (c ∷ rest)) × IsNoData transparent c × (c ≢ SYN) × (c ≢ ETB) × (c ≢ ETX)

-- the line ends before an item is whole
abbrev pub IsLineEnd : Bool → List ℕ → Type 0
IsLineEnd false line = line ≡ []
IsLineEnd true line = (line ≡ []) ⊎ (line ≡ DLE ∷ [])

-- so much has come of the bytes in front of the rest
abbrev pub IsAt : List ℕ → HeardSoFar → List ℕ → Type 0
IsAt bytes so_far rest = (front : List ℕ) × (bytes ≡ front ++ rest) × (run Pads front ≡ Waits so_far)

-- the byte may stand in front of a body
abbrev pub is_lead : ℕ → Bool
is_lead byte = is_pad byte || (byte == SYN)

-- behind a synchronization pattern the bytes go on with this body, which starts a text
abbrev pub HasBody : (bytes body : List ℕ) → Type 0
HasBody bytes body =
    (sync : List ℕ) × (transparent : Bool) × (rest : List ℕ) × SyncPattern sync × (bytes ≡ sync ++ body) × (body ≡ start_of_text transparent ++ rest)
