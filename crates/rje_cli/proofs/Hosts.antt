-- What is told of where a station calls.
use Rattle.std.proofs.Common.{◌≡◌, ◌↔◌, ◌⊎◌, Option, Some, None, Bool, false, IsTrue, inl, inr}
use Rattle.std.specs.Prelude.{is_some}
use Rattle.std.specs.declared.net.socket_addr.SocketAddr.{SocketAddr}
use Rattle.std.specs.declared.net.socket_addr.SocketAddr.TheVariants.{V4, V6}
use Rattle.clap.specs.Words.{Text}
use Rattle.rje_cli.specs.Address.{IsAddressOf, IsSomeAddress}

pub some_address : (text : Text) → IsSomeAddress text → IsAddressOf text None → ⊥
some_address text (V4 address, is) none = none address is
some_address text (V6 address, is) none = is

-- what is read as no address is none
pub no_address : (text : Text) (o : Option SocketAddr) → is_some o ≡ false → IsAddressOf text o → IsSomeAddress text → ⊥
no_address text None off h some = some_address text some h
no_address text (Some address) off h some = cc

-- a test tells of two facts where the first fails
pub other_told : {A N : Type 0} (b : Bool) → (A → ⊥) → IsTrue b ↔ N → IsTrue b ↔ (A ⊎ N)
other_told {A} {N} b none h = ((λ e. inr (h.0 e)), go)
  where
    go : A ⊎ N → IsTrue b
    go (inl a) = absurd (none a)
    go (inr n) = h.1 n
