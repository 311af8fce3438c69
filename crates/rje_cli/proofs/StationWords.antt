-- What clap makes of the usual words of `station`, and what they ask for.
use Rattle.std.proofs.Common.{List, [], ◌∷◌, ◌≡◌, Option, Some, None, Bool, false, refl, codes, ap, ◌∙◌, sym, subst, inl, inr}
use Rattle.std.proofs.lemmas.Bool.{true≢false}
use Rattle.std.proofs.lemmas.Option.{none-some, same_Some}
use Rattle.clap.specs.Words.{Row, Text, fault_of, first_of, one_of, subcommand_of}
use Rattle.clap.proofs.OnLiterals.{clap_on_literals}
use Rattle.bsc_link.specs.declared.rank.Rank.{Rank}
use Rattle.rje_requests.specs.declared.order.Order.{Order}
use Rattle.rje_requests.specs.declared.order.Order.TheVariants.{Files, Sockets, Station, Status}
use Rattle.rje_requests.specs.declared.station.Partner.{Partner}
use Rattle.rje_requests.specs.declared.station.Partner.TheVariants.{Calls, Listens}
use Rattle.rje_requests.specs.Station.{station_rank}
use Rattle.rje_cli.specs.declared.words_fault.WordsFault.{WordsFault}
use Rattle.rje_cli.specs.declared.words_fault.WordsFault.TheVariants.{BadHost, EveryListens, TwoRanks}
use Rattle.rje_cli.specs.Address.{IsHostAddress}
use Rattle.rje_cli.specs.Asking.{IsEveryOf, IsFaultOf, IsOrderOf, IsPartnerFault, IsPartnerIn, IsPartnerOf, IsPatienceOf, IsProgressOf, IsSettlingFaultIn, IsStandingFault, IsTimeoutOf, every_goes, is_on, word_in}
use Rattle.rje_cli.specs.Canonical.{IsStation, StationAsked}
use Rattle.rje_cli.specs.CommandLine.{rje_app}
use Rattle.rje_cli.proofs.PlainWords.{IsPlain, jobs_plain}
use Rattle.rje_cli.proofs.FileWords.{AreTaken, apart, no_file, no_socket, only_memory, only_order, seen}

-- what is seen of the rows of `station`: its folder, how it comes to its connections, its numbers and its flags
abbrev Seen : Type 0
Seen = Text × (Option Text × Option Text × Option Text) × (Option Text × Option Text × Option Text × Option Text) × (Bool × Bool) × (Bool × Bool × Bool × Bool)

abbrev station_in : List Row → Seen
station_in rows = (
  word_in (codes "FOLDER") rows,
  (first_of (codes "to") rows, first_of (codes "listen") rows, first_of (codes "from") rows),
  (one_of (codes "every") rows, one_of (codes "timeout") rows, one_of (codes "patience") rows, one_of (codes "progress") rows),
  (is_on (codes "primary") rows, is_on (codes "secondary") rows),
  (is_on (codes "adapter") rows, is_on (codes "once") rows, is_on (codes "settle") rows, is_on (codes "quiet") rows),
)

abbrev value : (folder host : Text) → Seen
value folder host = (folder, (Some host, None, None), (None, Some (codes "3000"), Some (codes "40"), Some (codes "21600")), (false, false), (false, false, false, false))

module _ (folder host : Text) (h : IsPlain folder) (k : IsPlain host) where
  station_taken : fault_of rje_app (codes "station" ∷ folder ∷ codes "--to" ∷ host ∷ []) ≡ []
  unfolding clap_on_literals
  station_taken = rw (h.0, h.1, h.2) rw (k.0, k.1, k.2) refl

  station_found : seen station_in (subcommand_of rje_app (codes "station" ∷ folder ∷ codes "--to" ∷ host ∷ [])) ≡ Some (codes "station", value folder host)
  unfolding clap_on_literals
  station_found = rw (h.0, h.1, h.2) rw (k.0, k.1, k.2) refl

module _ (host : Text) where
  -- a station that calls is the primary where no rank is asked for
  calls_first : (partner : Partner) (rank : Rank) → IsPartnerOf (Some host) None None partner → station_rank partner false false ≡ Some rank → rank ≡ Rank.Primary
  calls_first (Calls named) rank h e = sym (same_Some Rank.Primary rank e)
  calls_first (Listens address callers) rank h e = absurd h

  some_rank : (partner : Partner) → IsPartnerOf (Some host) None None partner → station_rank partner false false ≡ None → ⊥
  some_rank (Calls named) h e = none-some Rank.Primary (sym e)
  some_rank (Listens address callers) h e = h

  goes : (partner : Partner) (rows : List Row) → IsPartnerOf (Some host) None None partner → every_goes partner rows ≡ false → ⊥
  goes (Calls named) rows h e = true≢false e
  goes (Listens address callers) rows h e = h

  -- a host is no fault
  called_well : IsHostAddress host → (fault : WordsFault) → IsPartnerFault (Some host) None None fault → ⊥
  called_well some (BadHost word) h = h.0 some
  called_well some _ h = h

module _ (folder host : Text) (rows : List Row) (e : station_in rows ≡ value folder host) where
  partner_read : (partner : Partner) → IsPartnerIn rows partner → IsPartnerOf (Some host) None None partner
  partner_read partner h = subst (λ (v : Seen). IsPartnerOf v.1.0 v.1.1 v.1.2 partner) e h

  order_read : (order : Order) → IsOrderOf (codes "station") rows order → IsStation folder host order
  order_read (Station order) h = record {
    folder = h.1.folder ∙ ap (λ (v : Seen). v.0) e;
    partner = partner_read order.partner h.1.partner;
    rank = calls_first host order.partner order.rank (partner_read order.partner h.1.partner)
        (ap (λ (v : Seen). station_rank order.partner v.3.0 v.3.1) (sym e) ∙ h.1.rank);
    every = subst (λ (v : Seen). IsEveryOf v.2.0 order.every) e h.1.every;
    timeout = subst (λ (v : Seen). IsTimeoutOf v.2.1 order.timeout) e h.1.timeout;
    patience = subst (λ (v : Seen). IsPatienceOf v.2.2 order.patience) e h.1.patience;
    progress = subst (λ (v : Seen). IsProgressOf v.2.3 order.progress) e h.1.progress;
    adapter = h.1.adapter ∙ ap (λ (v : Seen). v.4.0) e;
    once = h.1.once ∙ ap (λ (v : Seen). v.4.1) e;
    settle = h.1.settle ∙ ap (λ (v : Seen). v.4.2) e;
    quiet = h.1.quiet ∙ ap (λ (v : Seen). v.4.3) e;
  }
  order_read (Status order) h = absurd (apart _ _ h.0 refl)
  order_read (Sockets order) h = absurd (no_socket (codes "station") rows order refl refl refl refl h)
  order_read (Files order) h = absurd (no_file (codes "station") rows order refl refl refl refl refl refl refl refl refl h)

  standing_told : (partner : Partner) → IsPartnerIn rows partner → (fault : WordsFault) → IsStandingFault partner rows fault → ⊥
  standing_told partner is EveryListens h = goes host partner rows (partner_read partner is) h
  standing_told partner is TwoRanks h =
      some_rank host partner (partner_read partner is) (ap (λ (v : Seen). station_rank partner v.3.0 v.3.1) (sym e) ∙ h.1)
  standing_told partner is _ h = h

  settling_told : (partner : Partner) (fault : WordsFault) → IsSettlingFaultIn partner rows fault → ⊥
  settling_told partner fault h = true≢false (sym h.2 ∙ ap (λ (v : Seen). v.4.2) e)

  none_told : IsHostAddress host → (fault : WordsFault) → IsFaultOf (codes "station") rows fault → ⊥
  none_told some fault (inl h) = apart _ _ h.0 refl
  none_told some fault (inr (inl h)) = apart _ _ h.0 refl
  none_told some fault (inr (inr (inl h))) = apart _ _ h.0 refl
  none_told some fault (inr (inr (inr (inl h)))) = apart _ _ h.0 refl
  none_told some fault (inr (inr (inr (inr (inl (is, inl h)))))) =
      called_well host some fault (subst (λ (v : Seen). IsPartnerFault v.1.0 v.1.1 v.1.2 fault) e h)
  none_told some fault (inr (inr (inr (inr (inl (is, inr (partner, there, inl h))))))) = standing_told partner there fault h
  none_told some fault (inr (inr (inr (inr (inl (is, inr (partner, there, inr h))))))) = settling_told partner fault h
  none_told some fault (inr (inr (inr (inr (inr (inl h)))))) = apart _ _ h.0 refl
  none_told some fault (inr (inr (inr (inr (inr (inr h)))))) = apart _ _ h.0 refl

pub station_asked : StationAsked
station_asked folder host h k some =
    let words : List Text = folder ∷ codes "--to" ∷ host ∷ [] in
    let taken : AreTaken station_in (codes "station" ∷ words) (codes "station") (value folder host) = record {
      faultless = station_taken folder host (jobs_plain folder h) (jobs_plain host k);
      found = station_found folder host (jobs_plain folder h) (jobs_plain host k);
    } in record {
      order = only_order station_in (codes "station") words (codes "station") (value folder host) taken (IsStation folder host) (order_read folder host);
      fault = only_memory station_in (codes "station") words (codes "station") (value folder host) taken (λ rows e. none_told folder host rows e some);
    }
