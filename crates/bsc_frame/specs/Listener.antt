-- What a listener has taken since it was as new. Callers know this relation by the listener's clauses alone: a new one has taken no bytes,
-- and `feed`, `quiet` and `reset` say what it has taken then.
use Rattle.std.specs.Prelude.{ℕ, ◌≡◌, List}
use Rattle.bsc_frame.specs.Inside.Listening.HeardSoFar.{HeardSoFar, Pads}
use Rattle.bsc_frame.specs.Inside.Listening.Run.{Waits, run}

-- a listener of this value has taken these bytes: no frame was heard in them, and so much has come
unfoldable pub HasTaken : HeardSoFar → List ℕ → Type 0
HasTaken so_far bytes = run Pads bytes ≡ Waits so_far
