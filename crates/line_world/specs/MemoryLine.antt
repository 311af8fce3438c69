-- A line in memory: the pieces that come, and the last transmission (own profile).
use Rattle.std.specs.Prelude.{ℕ, ◌+◌, ◌-◌, ◌^◌, ◌≡◌, ◌==◌, ◌<◌, ◌⊎◌, Bool, true, false, List, Option, Some, None, [], ◌∷◌, ◌++◌, length, map, min, take, drop, flat_map, if◌then◌else◌}
use Rattle.rje_station.specs.declared.came.Came.{Came}
use Rattle.rje_station.specs.declared.came.Came.TheVariants.{Bytes, Quiet}
use Rattle.rje_station.specs.declared.line_fault.LineFault.{LineFault}
use Rattle.rje_station.specs.declared.line_fault.LineFault.TheVariants.{Failed}
use Rattle.rje_station.specs.Line.{Talk, one_more}

-- a line in memory
pub record LineInMemory : Type 0 where
  -- the pieces that weren't given yet, the first of them what is left of it
  pub waiting : List (List ℕ)
  -- the last transmission
  pub sent : List ℕ
  -- how many transmissions were begun
  pub transmissions : ℕ
  -- how many calls failed
  pub failures : ℕ
  -- which call from now on fails, counted from 1; 0: none
  pub until_failure : ℕ

-- a line on which nothing comes, nothing was sent and no call fails
abbrev pub empty_line : LineInMemory
empty_line = record { waiting = []; sent = []; transmissions = 0; failures = 0; until_failure = 0 }

-- what it tells: the last transmission, and the bytes of the pieces
abbrev pub talk_of : LineInMemory → Talk
talk_of l = record { sent = l.sent; coming = flat_map (λ p. p) l.waiting }

-- a call fails that was named, and a transmission of more than 1,033 bytes; nothing else does
abbrev pub may_fail_on : LineInMemory → ℕ → ℕ → Type 0
may_fail_on l bytes calls = (l.until_failure ≡ calls + 1) ⊎ (1033 < bytes)

-- its last fault: every failure is of one kind
abbrev pub last_fault_of : LineInMemory → Option LineFault
last_fault_of l = if l.failures == 0 then None else Some Failed

-- pieces are handed in, in place of those that weren't given yet
abbrev pub after_put : List (List ℕ) → LineInMemory → LineInMemory
after_put pieces l = record l { waiting = pieces }

-- a call from now on is named to fail
abbrev pub after_fail_at : ℕ → LineInMemory → LineInMemory
after_fail_at call l = record l { until_failure = call }

-- after a call that failed or didn't, but for what it did; the number of failures fits 64 bits
abbrev pub after_call : Bool → LineInMemory → LineInMemory
after_call failed l = record l { failures = if failed then min (l.failures + 1) (2 ^ 64 - 1) else l.failures; until_failure = l.until_failure - 1 }

-- after a transmission that failed: it was begun
abbrev pub after_failing : LineInMemory → LineInMemory
after_failing l = record (after_call true l) { transmissions = one_more l.transmissions }

-- after a transmission: just its bytes are kept
abbrev pub after_transmitting : List ℕ → LineInMemory → LineInMemory
after_transmitting bytes l = record (after_call false l) { sent = bytes; transmissions = one_more l.transmissions }

-- empty pieces are passed over
abbrev pub ready : List (List ℕ) → List (List ℕ)
ready [] = []
ready ([] ∷ ps) = ready ps
ready ((x ∷ xs) ∷ ps) = (x ∷ xs) ∷ ps

-- what a slice of so many bytes gets of these pieces: of the first, as far as there is room
abbrev pub given_to : ℕ → List (List ℕ) → List ℕ
given_to room [] = []
given_to room (p ∷ ps) = take room p

-- and the pieces that are left then
abbrev pub pieces_left : ℕ → List (List ℕ) → List (List ℕ)
pieces_left room [] = []
pieces_left room (p ∷ ps) = drop room p ∷ ps

-- the answer to a call that got these bytes: it is quiet where there are none
abbrev pub came_with : List ℕ → Came
came_with [] = Quiet
came_with (x ∷ xs) = Bytes (length (x ∷ xs))

-- the bytes at the front of a slice, and the rest of it as it was
abbrev pub laid : List ℕ → List ℕ → List ℕ
laid bytes slice = bytes ++ drop (length bytes) slice

-- after listening with a slice of so many bytes
abbrev pub after_listening : ℕ → LineInMemory → LineInMemory
after_listening room l = record (after_call false l) { waiting = pieces_left room (ready l.waiting) }

-- ---- What its fields mean.

-- the pieces from the one in hand on, of which so many bytes were given
abbrev pub pieces_in : {X : Type 0} → (X → List ℕ) → ℕ → List X → List (List ℕ)
pieces_in bytes given [] = []
pieces_in bytes given (p ∷ ps) = drop given (bytes p) ∷ map bytes ps
