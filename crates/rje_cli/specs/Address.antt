-- Addresses on the command line (own profile).
use Rattle.std.specs.Prelude.{◌≡◌, ◌==◌, ◌||◌, ◌<◌, ◌≤◌, ◌^◌, ◌⊎◌, ℕ, Bool, true, false, [], ◌∷◌, length, Option, Some, None}
use Rattle.std.specs.Char.{is_ascii_alphabetic, is_ascii_alphanumeric}
use Rattle.std.specs.List.{after_first, before_first, list_all, list_any}
use Rattle.std.specs.Str.Parse.{IsNumeral, digits_value}
use Rattle.std.specs.Net.Grammar.{IsSocketV4Text}
use Rattle.std.specs.declared.net.socket_addr.SocketAddr.{SocketAddr}
use Rattle.std.specs.declared.net.socket_addr.SocketAddr.TheVariants.{V4, V6}
use Rattle.std.specs.declared.net.socket_addr.SocketAddrV4.{SocketAddrV4}
use Rattle.clap.specs.Words.{Text}

-- what stands after the first colon, and nothing where there is no colon
abbrev pub port_text : Text → Text
port_text = after_first (λ c. c == 58)

-- more than one character, the first of them 0
abbrev pub has_leading_zero : Text → Bool
has_leading_zero (c ∷ next ∷ rest) = c == 48
has_leading_zero _ = false

-- the text is of this address: four decimal numbers with dots between, a colon and a port, none of them with leading zeros
abbrev pub IsAddressText : Text → SocketAddrV4 → Type 0
IsAddressText text address = IsSocketV4Text text address × (has_leading_zero (port_text text) ≡ false)

-- the address of the text; none where it is of no address
abbrev pub IsAddressOf : Text → Option SocketAddr → Type 0
IsAddressOf text (Some (V4 address)) = IsAddressText text address
IsAddressOf text (Some (V6 address)) = ⊥
IsAddressOf text None = (address : SocketAddrV4) → ¬ (IsAddressText text address)

-- the text is that of an address
abbrev pub IsSomeAddress : Text → Type 0
IsSomeAddress text = (address : SocketAddr) × IsAddressOf text (Some address)

-- what stands before the first colon, and all of it where there is no colon
abbrev pub host_text : Text → Text
host_text = before_first (λ c. c == 58)

-- a letter or a digit, a dot or a hyphen
abbrev pub is_host_character : ℕ → Bool
is_host_character c = is_ascii_alphanumeric c || (c == 46) || (c == 45)

-- the first character is a letter or a digit
abbrev pub starts_as_host : Text → Bool
starts_as_host [] = false
starts_as_host (c ∷ rest) = is_ascii_alphanumeric c

-- a host's name: up to 253 such characters, at least one of them a letter, and the first of them a letter or a digit
pub record IsHostName (name : Text) : Type 0 where
  pub short : length name ≤ 253
  pub start : starts_as_host name ≡ true
  pub characters : list_all is_host_character name ≡ true
  pub letter : list_any is_ascii_alphabetic name ≡ true

-- a decimal number from 0 to 65535 without leading zeros
abbrev pub IsPort : Text → Type 0
IsPort text = IsNumeral 10 text × (digits_value 10 text < 2 ^ 16) × (has_leading_zero text ≡ false)

-- a host's name, a colon and a port
abbrev pub IsNamedAddress : Text → Type 0
IsNamedAddress text = IsHostName (host_text text) × IsPort (port_text text)

-- where a station that calls finds the other end: an address, or a host's name and a port
abbrev pub IsHostAddress : Text → Type 0
IsHostAddress text = IsSomeAddress text ⊎ IsNamedAddress text

-- the text begins with a plus, which std passes over where it reads a number
abbrev pub starts_with_plus : Text → Bool
starts_with_plus [] = false
starts_with_plus (c ∷ rest) = c == 43
