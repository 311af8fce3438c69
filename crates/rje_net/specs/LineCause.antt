-- Why a connection failed, by how a call of it did (own profile).
use Rattle.std.specs.declared.io.ErrorKind.{ErrorKind}
use Rattle.rje_net.specs.declared.line_cause.LineCause.{LineCause}

-- by the kind of the call's error: the other end is gone, or it took nothing in time, or what the system says
abbrev pub cause_of_kind : ErrorKind → LineCause
cause_of_kind ErrorKind.BrokenPipe = LineCause.HungUp
cause_of_kind ErrorKind.ConnectionReset = LineCause.HungUp
cause_of_kind ErrorKind.ConnectionAborted = LineCause.HungUp
cause_of_kind ErrorKind.WouldBlock = LineCause.TakesNothing
cause_of_kind ErrorKind.TimedOut = LineCause.TakesNothing
cause_of_kind kind = LineCause.Failed kind
