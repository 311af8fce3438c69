-- Whom a connection leads to, why there is none, and whether a caller spoke (own profile).
use Rattle.std.specs.Prelude.{◌≡◌, ℕ, List, Option, Some, None, ⊤}
use Rattle.std.specs.declared.io.ErrorKind.{ErrorKind}
use Rattle.std.specs.declared.net.socket_addr.SocketAddr.{SocketAddr}
use Rattle.rje_requests.specs.declared.connection.Meeting.{Meeting}
use Rattle.rje_requests.specs.declared.connection.Meeting.TheVariants.{Calls, Listens}
use Rattle.rje_requests.specs.Callers.{IsLetIn}
use Rattle.rje_net.specs.declared.line_cause.LineCause.{LineCause}
use Rattle.rje_net.specs.Words.{HasWord}

-- the other end is the one that was called, or a caller that is let in
abbrev pub IsPeerAt : Meeting → SocketAddr → Type 0
IsPeerAt (Calls address) peer = peer ≡ address
IsPeerAt (Listens address callers) peer = IsLetIn callers peer

-- there is no connection: the end at this address can't be called, or nobody can be awaited at it, for an error of this kind
abbrev pub IsUnmet : Meeting → LineCause → Type 0
IsUnmet (Calls address) cause = (kind : ErrorKind) × (cause ≡ LineCause.NotCalled address kind)
IsUnmet (Listens address callers) cause = (kind : ErrorKind) × (cause ≡ LineCause.NotAwaited address kind)

-- where a caller has to speak within so many hearings, what is heard of it first has a word
abbrev pub HasSpokenWhereAwaited : Meeting → Option ℕ → (first : List ℕ) → Type 0
HasSpokenWhereAwaited (Calls address) hearings first = ⊤
HasSpokenWhereAwaited (Listens address callers) None first = ⊤
HasSpokenWhereAwaited (Listens address callers) (Some hearings) first = HasWord first
