-- Who comes to a connection with a station that listens (own profile).
use Rattle.std.specs.Prelude.{◌≡◌, Bool, true, false}
use Rattle.std.specs.declared.net.socket_addr.SocketAddr.{SocketAddr}
use Rattle.std.specs.declared.io.ErrorKind.{ErrorKind}
use Rattle.rje_requests.specs.declared.callers.Callers.{Callers}
use Rattle.rje_requests.specs.Callers.{IsLetIn}
use Rattle.rje_daemon.specs.declared.doorway.Caller.{Caller}

-- a caller that is let in is one of these
abbrev pub IsOneOf : {S : Type 0} → Callers → Caller S → Type 0
IsOneOf callers (Caller.LetIn stream peer) = IsLetIn callers peer
IsOneOf callers _ = Unit {0}

-- a caller that is hung up is none of these
abbrev pub IsNoneOf : {S : Type 0} → Callers → Caller S → Type 0
IsNoneOf callers (Caller.HungUp peer) = IsLetIn callers peer → ⊥
IsNoneOf callers _ = Unit {0}

-- the one that called has this address
abbrev pub IsOf : {S : Type 0} → SocketAddr → Caller S → Type 0
IsOf address (Caller.LetIn stream peer) = peer ≡ address
IsOf address (Caller.HungUp peer) = peer ≡ address
IsOf address Caller.Nobody = ⊥

-- a call that can't be taken for this is no reason to take no more: none waited, or it was over before it was taken
abbrev pub is_nobody : ErrorKind → Bool
is_nobody ErrorKind.WouldBlock = true
is_nobody ErrorKind.TimedOut = true
is_nobody ErrorKind.Interrupted = true
is_nobody ErrorKind.ConnectionAborted = true
is_nobody ErrorKind.ConnectionReset = true
is_nobody _ = false
