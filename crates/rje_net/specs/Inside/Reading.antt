-- What one read of a connection comes to (own profile).
use Rattle.std.specs.Prelude.{ℕ, zero, suc, Bool, true, false, if◌then◌else◌, Result, Ok, Err}
use Rattle.std.specs.IoError.{error_kind}
use Rattle.std.specs.declared.io.ErrorKind.{ErrorKind}
use Rattle.std.specs.declared.io.Error.{Error}
use Rattle.rje_station.specs.declared.came.Came.{Came}
use Rattle.rje_station.specs.declared.line_fault.LineFault.{LineFault}

-- a read that fails so waited in vain
abbrev pub waited_in_vain : ErrorKind → Bool
waited_in_vain ErrorKind.WouldBlock = true
waited_in_vain ErrorKind.TimedOut = true
waited_in_vain _ = false

-- it is quiet where the read waited in vain, and the line is closed where no byte came; else so many did, or the line failed
abbrev pub came_of : Result ℕ Error → Result Came LineFault
came_of (Ok zero) = Err LineFault.Closed
came_of (Ok (suc n)) = Ok (Came.Bytes (suc n))
came_of (Err error) = if waited_in_vain (error_kind error) then Ok Came.Quiet else Err LineFault.Failed
