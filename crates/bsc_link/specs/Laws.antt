-- What the receiver's table is for.
use Rattle.std.specs.Prelude.{◌≤◌, List}
use Rattle.bsc_link.specs.Receiver.{first_receiver_state}
use Rattle.bsc_link.specs.Runs.{ReceiverStep, rvi_made_in}

-- a new receiver makes at most one RVI, whatever it hears
abbrev pub MakesAtMostOneRvi : Type 0
MakesAtMostOneRvi = (steps : List ReceiverStep) → rvi_made_in first_receiver_state steps ≤ 1
