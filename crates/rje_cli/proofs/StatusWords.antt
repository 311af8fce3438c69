-- What clap makes of the words of `status`, and what they ask for.
use Rattle.std.proofs.Common.{List, [], ◌∷◌, ◌≡◌, Some, Bool, true, false, refl, codes, ap, ◌∙◌}
use Rattle.clap.specs.Words.{Row, Text, fault_of, subcommand_of}
use Rattle.clap.proofs.OnLiterals.{clap_on_literals}
use Rattle.rje_requests.specs.declared.order.Order.{Order}
use Rattle.rje_requests.specs.declared.order.Order.TheVariants.{Files, Sockets, Station, Status}
use Rattle.rje_cli.specs.Asking.{IsOrderOf, is_on, word_in}
use Rattle.rje_cli.specs.Canonical.{StatusAsked, flag_words}
use Rattle.rje_cli.specs.CommandLine.{rje_app}
use Rattle.rje_cli.specs.Orders.{IsStatus}
use Rattle.rje_cli.proofs.PlainWords.{IsPlain, jobs_plain}
use Rattle.rje_cli.proofs.FileWords.{apart, ask_only, no_file, no_socket, seen}

-- what is seen of the rows of `status`
abbrev Seen : Type 0
Seen = Text × Bool

abbrev status_in : List Row → Seen
status_in rows = (word_in (codes "FOLDER") rows, is_on (codes "json") rows)

module _ (folder : Text) (h : IsPlain folder) where
  status_taken : (json : Bool) → fault_of rje_app (codes "status" ∷ folder ∷ flag_words json (codes "--json")) ≡ []
  unfolding clap_on_literals
  status_taken false = rw (h.0, h.1, h.2) refl
  status_taken true = rw (h.0, h.1, h.2) refl

  status_found : (json : Bool) → seen status_in (subcommand_of rje_app (codes "status" ∷ folder ∷ flag_words json (codes "--json")))
      ≡ Some (codes "status", (folder, json))
  unfolding clap_on_literals
  status_found false = rw (h.0, h.1, h.2) refl
  status_found true = rw (h.0, h.1, h.2) refl

status_read : (folder : Text) (json : Bool) (rows : List Row) → status_in rows ≡ (folder, json) → (order : Order) → IsOrderOf (codes "status") rows order
    → IsStatus folder json order
status_read folder json rows e (Status order) h = (h.1.folder ∙ ap (λ (v : Seen). v.0) e, h.1.json ∙ ap (λ (v : Seen). v.1) e)
status_read folder json rows e (Station order) h = absurd (apart _ _ h.0 refl)
status_read folder json rows e (Files order) h = absurd (no_file (codes "status") rows order refl refl refl refl refl refl refl refl refl h)
status_read folder json rows e (Sockets order) h = absurd (no_socket (codes "status") rows order refl refl refl refl h)

pub status_asked : StatusAsked
status_asked folder json h = ask_only status_in (codes "status") (folder ∷ flag_words json (codes "--json")) (codes "status") (folder, json)
    (IsStatus folder json) (status_taken folder (jobs_plain folder h) json) (status_found folder (jobs_plain folder h) json)
    refl refl refl refl refl refl refl (status_read folder json)
