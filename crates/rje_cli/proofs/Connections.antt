-- What is found of a connection by the usual words of a command over one.
use Rattle.std.proofs.Common.{List, ◌≡◌, Option, Some, None, Bool, false, codes, ap, ◌∙◌, subst}
use Rattle.std.proofs.lemmas.Option.{none-some}
use Rattle.clap.specs.Words.{Row, Text, first_of, one_of}
use Rattle.rje_requests.specs.declared.connection.Connection.{Connection}
use Rattle.rje_cli.specs.declared.words_fault.WordsFault.{WordsFault}
use Rattle.rje_cli.specs.declared.words_fault.WordsFault.TheVariants.{BadAddress, BadCallers}
use Rattle.rje_cli.specs.Address.{IsSomeAddress}
use Rattle.rje_cli.specs.Asking.{IsConnectionFault, IsConnectionOf, IsMeetingFault, IsMeetingOf, IsTimeoutOf, is_on}
use Rattle.rje_cli.specs.Canonical.{IsUsual}
use Rattle.rje_cli.proofs.Hosts.{some_address}

-- what is seen of the rows of a connection
abbrev pub Linked : Type 0
Linked = Option Text × Option Text × Option Text × Option Text × Bool × Bool × Bool

abbrev pub link_in : List Row → Linked
link_in rows = (
  first_of (codes "to") rows,
  first_of (codes "listen") rows,
  first_of (codes "from") rows,
  one_of (codes "timeout") rows,
  is_on (codes "adapter") rows,
  is_on (codes "trace") rows,
  is_on (codes "quiet") rows,
)

-- what is seen where only an address is given
abbrev pub usual : (to listen : Option Text) → Linked
usual to listen = (to, listen, None, Some (codes "3000"), false, false, false)

module _ (to listen : Option Text) (rows : List Row) (e : link_in rows ≡ usual to listen) where
  pub usual_read : (link : Connection) → IsConnectionOf rows link → IsUsual to listen link
  usual_read link h = record {
    place = subst (λ (v : Linked). IsMeetingOf v.0 v.1 v.2 link.place) e h.place;
    timeout = subst (λ (v : Linked). IsTimeoutOf v.3 link.timeout) e h.timeout;
    adapter = h.adapter ∙ ap (λ (v : Linked). v.4) e;
    trace = h.trace ∙ ap (λ (v : Linked). v.5) e;
    quiet = h.quiet ∙ ap (λ (v : Linked). v.6) e;
  }

  pub usual_fault : (fault : WordsFault) → IsConnectionFault rows fault → IsMeetingFault to listen None fault
  usual_fault fault h = subst (λ (v : Linked). IsMeetingFault v.0 v.1 v.2 fault) e h

-- an address is no fault of a meeting
pub called_well : (text : Text) → IsSomeAddress text → (fault : WordsFault) → IsMeetingFault (Some text) None None fault → ⊥
called_well text some (BadAddress word) h = some_address text some h.0
called_well text some _ h = h

pub awaited_well : (text : Text) → IsSomeAddress text → (fault : WordsFault) → IsMeetingFault None (Some text) None fault → ⊥
awaited_well text some (BadAddress word) h = some_address text some h.0
awaited_well text some (BadCallers word) h = none-some word.now h.1.0
awaited_well text some _ h = h
