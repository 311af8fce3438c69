-- Whose calls are taken by a command that listens, as the words of `--from` choose it (own profile).
use Rattle.std.specs.Prelude.{ℕ, ◌==◌, ⊤, Bool, false, List}
use Rattle.std.specs.List.{All, Contains, list_any, slice_split}
use Rattle.std.specs.Net.Grammar.{IsIpv4Text}
use Rattle.std.specs.Net.Socket.{v4_ip}
use Rattle.std.specs.declared.net.ipv4_addr.Ipv4Addr.{Ipv4Addr}
use Rattle.std.specs.declared.net.socket_addr.SocketAddr.{SocketAddr}
use Rattle.std.specs.declared.net.socket_addr.SocketAddr.TheVariants.{V4, V6}
use Rattle.rje_requests.specs.declared.callers.Callers.{Callers}
use Rattle.rje_requests.specs.declared.callers.Callers.TheVariants.{Anyone, These}

-- the parts of a text between its commas
abbrev pub parts_of : List ℕ → List (List ℕ)
parts_of = slice_split (λ c. c == 44)

-- the text is an address of four numbers with dots between
abbrev pub IsAddress : List ℕ → Type 0
IsAddress text = (address : Ipv4Addr) × IsIpv4Text text address

-- each part between the commas is one
abbrev pub AreAddresses : List ℕ → Type 0
AreAddresses text = All IsAddress (parts_of text)

-- one of the parts between the commas is this address
abbrev pub IsAmong : (text : List ℕ) → Ipv4Addr → Type 0
IsAmong text address = (part : List ℕ) × Contains (parts_of text) part × IsIpv4Text part address

-- this caller's call is taken: anyone's, or just that from one of the addresses, whatever its port
abbrev pub IsLetIn : Callers → SocketAddr → Type 0
IsLetIn Anyone caller = ⊤
IsLetIn (These addresses) (V4 caller) = IsAmong addresses.now (v4_ip caller)
IsLetIn (These addresses) (V6 caller) = ⊥

-- more than one address is named: there is a comma
abbrev pub are_several : Callers → Bool
are_several Anyone = false
are_several (These addresses) = list_any (λ c. c == 44) addresses.now
