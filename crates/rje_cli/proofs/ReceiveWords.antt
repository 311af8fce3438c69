-- What clap makes of the usual words of `receive`, and what they ask for.
use Rattle.std.proofs.Common.{List, [], ◌∷◌, ◌≡◌, Option, Some, None, Bool, false, refl, codes, ap, ◌∙◌, sym, subst, inl, inr}
use Rattle.std.proofs.lemmas.Option.{none-some, same_Some}
use Rattle.clap.specs.Words.{Row, Text, fault_of, one_of, subcommand_of}
use Rattle.clap.proofs.OnLiterals.{clap_on_literals}
use Rattle.rje_requests.specs.declared.order.Existing.{Existing}
use Rattle.rje_requests.specs.declared.order.Existing.TheVariants.{Replace, Refuse, Append}
use Rattle.rje_requests.specs.declared.order.Order.{Order}
use Rattle.rje_requests.specs.declared.order.Order.TheVariants.{Files, Sockets, Station, Status}
use Rattle.rje_requests.specs.declared.order.SocketOrder.TheVariants.{Receive}
use Rattle.rje_cli.specs.declared.words_fault.WordsFault.{WordsFault}
use Rattle.rje_requests.specs.declared.connection.Meeting.{Meeting}
use Rattle.rje_requests.specs.declared.connection.Meeting.TheVariants.{Calls, Listens}
use Rattle.rje_cli.specs.declared.words_fault.WordsFault.TheVariants.{NewAndAppend, WaitCalled}
use Rattle.rje_cli.specs.Address.{IsSomeAddress}
use Rattle.rje_cli.specs.Asking.{IsFaultOf, IsOrderOf, IsPatienceOf, IsReceivingFault, existing_in, is_on, waits_in, word_in}
use Rattle.rje_cli.specs.Canonical.{IsReceive, ReceiveAsked, existing_words}
use Rattle.rje_cli.specs.CommandLine.{rje_app}
use Rattle.rje_cli.proofs.PlainWords.{IsPlain, jobs_plain}
use Rattle.rje_cli.proofs.FileWords.{AreTaken, apart, no_file, only_memory, only_order, seen}
use Rattle.rje_cli.proofs.Connections.{Linked, awaited_well, link_in, usual, usual_fault, usual_read}

-- what is seen of the rows of `receive`
abbrev Seen : Type 0
Seen = Text × Linked × Option Existing × Option Text × Bool

abbrev receive_in : List Row → Seen
receive_in rows = (word_in (codes "JOBS") rows, link_in rows, existing_in rows, one_of (codes "patience") rows, is_on (codes "wait") rows)

abbrev value : (jobs address : Text) → Existing → Seen
value jobs address existing = (jobs, usual None (Some address), Some existing, Some (codes "40"), false)

module _ (jobs address : Text) (h : IsPlain jobs) (k : IsPlain address) where
  receive_taken : (existing : Existing) → fault_of rje_app (codes "receive" ∷ jobs ∷ codes "--listen" ∷ address ∷ existing_words existing) ≡ []
  unfolding clap_on_literals
  receive_taken Replace = rw (h.0, h.1, h.2) rw (k.0, k.1, k.2) refl
  receive_taken Refuse = rw (h.0, h.1, h.2) rw (k.0, k.1, k.2) refl
  receive_taken Append = rw (h.0, h.1, h.2) rw (k.0, k.1, k.2) refl

  receive_found : (existing : Existing) → seen receive_in (subcommand_of rje_app (codes "receive" ∷ jobs ∷ codes "--listen" ∷ address ∷ existing_words existing))
      ≡ Some (codes "receive", value jobs address existing)
  unfolding clap_on_literals
  receive_found Replace = rw (h.0, h.1, h.2) rw (k.0, k.1, k.2) refl
  receive_found Refuse = rw (h.0, h.1, h.2) rw (k.0, k.1, k.2) refl
  receive_found Append = rw (h.0, h.1, h.2) rw (k.0, k.1, k.2) refl

-- without that option no end waits so
not_waiting : (place : Meeting) (rows : List Row) → is_on (codes "wait") rows ≡ false → waits_in place rows ≡ Some false
not_waiting (Calls address) rows off = rw off refl
not_waiting (Listens address callers) rows off = rw off refl

module _ (jobs address : Text) (existing : Existing) (rows : List Row) (e : receive_in rows ≡ value jobs address existing) where
  order_read : (order : Order) → IsOrderOf (codes "receive") rows order → IsReceive jobs address existing order
  order_read (Sockets (Receive order)) h = (
    h.1.into.jobs ∙ ap (λ (v : Seen). v.0) e,
    same_Some order.into.existing existing (sym h.1.into.existing ∙ ap (λ (v : Seen). v.2) e),
    usual_read None (Some address) rows (ap (λ (v : Seen). v.1) e) order.connection h.1.connection,
    same_Some order.waits false (sym h.1.waits ∙ not_waiting order.connection.place rows (ap (λ (v : Seen). v.4) e)),
    subst (λ o. IsPatienceOf o order.patience) (ap (λ (v : Seen). v.3) e) h.1.patience,
  )
  order_read (Sockets _) h = absurd (apart _ _ h.0 refl)
  order_read (Station order) h = absurd (apart _ _ h.0 refl)
  order_read (Status order) h = absurd (apart _ _ h.0 refl)
  order_read (Files order) h = absurd (no_file (codes "receive") rows order refl refl refl refl refl refl refl refl refl h)

  both_told : (place : Meeting) (fault : WordsFault) → IsReceivingFault place rows fault → ⊥
  both_told place WaitCalled h = none-some false (sym h ∙ not_waiting place rows (ap (λ (v : Seen). v.4) e))
  both_told place NewAndAppend h = none-some existing (sym h.1 ∙ ap (λ (v : Seen). v.2) e)
  both_told place _ h = h

  none_told : IsSomeAddress address → (fault : WordsFault) → IsFaultOf (codes "receive") rows fault → ⊥
  none_told some fault (inl h) = apart _ _ h.0 refl
  none_told some fault (inr (inl h)) = apart _ _ h.0 refl
  none_told some fault (inr (inr (inl (is, inl h)))) =
      awaited_well address some fault (usual_fault None (Some address) rows (ap (λ (v : Seen). v.1) e) fault h)
  none_told some fault (inr (inr (inl (is, inr h)))) = both_told h.0.place fault h.2
  none_told some fault (inr (inr (inr (inl h)))) = apart _ _ h.0 refl
  none_told some fault (inr (inr (inr (inr (inl h))))) = apart _ _ h.0 refl
  none_told some fault (inr (inr (inr (inr (inr (inl h)))))) = apart _ _ h.0 refl
  none_told some fault (inr (inr (inr (inr (inr (inr h)))))) = apart _ _ h.0 refl

pub receive_asked : ReceiveAsked
receive_asked jobs address existing h k some =
    let words : List Text = jobs ∷ codes "--listen" ∷ address ∷ existing_words existing in
    let taken : AreTaken receive_in (codes "receive" ∷ words) (codes "receive") (value jobs address existing) = record {
      faultless = receive_taken jobs address (jobs_plain jobs h) (jobs_plain address k) existing;
      found = receive_found jobs address (jobs_plain jobs h) (jobs_plain address k) existing;
    } in record {
      order = only_order receive_in (codes "receive") words (codes "receive") (value jobs address existing) taken (IsReceive jobs address existing)
          (order_read jobs address existing);
      fault = only_memory receive_in (codes "receive") words (codes "receive") (value jobs address existing) taken
          (λ rows e. none_told jobs address existing rows e some);
    }
