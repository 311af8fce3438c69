-- What clap makes of the usual words of `send`, and what they ask for.
use Rattle.std.proofs.Common.{List, [], ◌∷◌, ◌≡◌, Some, None, refl, codes, ap, ◌∙◌, inl, inr}
use Rattle.clap.specs.Words.{Row, Text, fault_of, subcommand_of}
use Rattle.clap.proofs.OnLiterals.{clap_on_literals}
use Rattle.rje_requests.specs.declared.order.Order.{Order}
use Rattle.rje_requests.specs.declared.order.Order.TheVariants.{Files, Sockets, Station, Status}
use Rattle.rje_requests.specs.declared.order.SocketOrder.TheVariants.{Send}
use Rattle.rje_cli.specs.declared.words_fault.WordsFault.{WordsFault}
use Rattle.rje_cli.specs.Address.{IsSomeAddress}
use Rattle.rje_cli.specs.Asking.{IsFaultOf, IsOrderOf, word_in}
use Rattle.rje_cli.specs.Canonical.{IsSend, SendAsked}
use Rattle.rje_cli.specs.CommandLine.{rje_app}
use Rattle.rje_cli.proofs.PlainWords.{IsPlain, jobs_plain}
use Rattle.rje_cli.proofs.FileWords.{AreTaken, apart, no_file, only_memory, only_order, seen}
use Rattle.rje_cli.proofs.Connections.{Linked, called_well, link_in, usual, usual_fault, usual_read}

-- what is seen of the rows of `send`
abbrev Seen : Type 0
Seen = Text × Linked

abbrev send_in : List Row → Seen
send_in rows = (word_in (codes "JOBS") rows, link_in rows)

abbrev value : (jobs address : Text) → Seen
value jobs address = (jobs, usual (Some address) None)

module _ (jobs address : Text) (h : IsPlain jobs) (k : IsPlain address) where
  send_taken : fault_of rje_app (codes "send" ∷ jobs ∷ codes "--to" ∷ address ∷ []) ≡ []
  unfolding clap_on_literals
  send_taken = rw (h.0, h.1, h.2) rw (k.0, k.1, k.2) refl

  send_found : seen send_in (subcommand_of rje_app (codes "send" ∷ jobs ∷ codes "--to" ∷ address ∷ [])) ≡ Some (codes "send", value jobs address)
  unfolding clap_on_literals
  send_found = rw (h.0, h.1, h.2) rw (k.0, k.1, k.2) refl

module _ (jobs address : Text) (rows : List Row) (e : send_in rows ≡ value jobs address) where
  order_read : (order : Order) → IsOrderOf (codes "send") rows order → IsSend jobs address order
  order_read (Sockets (Send order)) h = (
    h.1.jobs ∙ ap (λ (v : Seen). v.0) e,
    usual_read (Some address) None rows (ap (λ (v : Seen). v.1) e) order.connection h.1.connection,
  )
  order_read (Sockets _) h = absurd (apart _ _ h.0 refl)
  order_read (Station order) h = absurd (apart _ _ h.0 refl)
  order_read (Status order) h = absurd (apart _ _ h.0 refl)
  order_read (Files order) h = absurd (no_file (codes "send") rows order refl refl refl refl refl refl refl refl refl h)

  none_told : IsSomeAddress address → (fault : WordsFault) → IsFaultOf (codes "send") rows fault → ⊥
  none_told some fault (inl h) = apart _ _ h.0 refl
  none_told some fault (inr (inl h)) = called_well address some fault (usual_fault (Some address) None rows (ap (λ (v : Seen). v.1) e) fault h.1)
  none_told some fault (inr (inr (inl h))) = apart _ _ h.0 refl
  none_told some fault (inr (inr (inr (inl h)))) = apart _ _ h.0 refl
  none_told some fault (inr (inr (inr (inr (inl h))))) = apart _ _ h.0 refl
  none_told some fault (inr (inr (inr (inr (inr (inl h)))))) = apart _ _ h.0 refl
  none_told some fault (inr (inr (inr (inr (inr (inr h)))))) = apart _ _ h.0 refl

pub send_asked : SendAsked
send_asked jobs address h k some =
    let words : List Text = jobs ∷ codes "--to" ∷ address ∷ [] in
    let taken : AreTaken send_in (codes "send" ∷ words) (codes "send") (value jobs address) = record {
      faultless = send_taken jobs address (jobs_plain jobs h) (jobs_plain address k);
      found = send_found jobs address (jobs_plain jobs h) (jobs_plain address k);
    } in record {
      order = only_order send_in (codes "send") words (codes "send") (value jobs address) taken (IsSend jobs address) (order_read jobs address);
      fault = only_memory send_in (codes "send") words (codes "send") (value jobs address) taken (λ rows e. none_told jobs address rows e some);
    }
