-- What clap makes of canonical words over files, and what they ask for.
use Rattle.std.proofs.Common.{ℕ, List, [], ◌∷◌, ◌≡◌, ◌==◌, arith, Option, Some, None, Bool, true, false, refl, codes, ap, ◌∙◌, inl, inr, sym, subst}
use Rattle.std.specs.Prelude.{option_map, unwrap_or}
use Rattle.std.specs.Option.{IsSomeAnd}
use Rattle.std.specs.Str.{bytes_eq}
use Rattle.std.proofs.lemmas.Bool.{true≢false, not-true}
use Rattle.std.proofs.lemmas.Bool.Decides.{nat_tests}
use Rattle.std.proofs.lemmas.Slice.Eq.{bytes_eq-Decides}
use Rattle.clap.specs.Words.{HasKind, Row, Text, fault_of, first_of, one_of, subcommand_of}
use Rattle.clap.proofs.OnLiterals.{clap_on_literals}
use Rattle.clap.specs.declared.error.Error.{Error}
use Rattle.rje_requests.specs.declared.order.Order.{Order}
use Rattle.rje_requests.specs.declared.order.Order.TheVariants.{Files, Sockets, Station, Status}
use Rattle.rje_requests.specs.declared.order.FileOrder.{FileOrder}
use Rattle.rje_requests.specs.declared.order.FileOrder.TheVariants.{Blocks, Cards, Show, Check, Print, Try, Monitor, Take, Mark}
use Rattle.rje_requests.specs.declared.order.SocketOrder.{SocketOrder}
use Rattle.rje_requests.specs.declared.order.SocketOrder.TheVariants.{Loop, Send, Receive, Exchange}
use Rattle.rje_cli.specs.declared.words_fault.WordsFault.{WordsFault}
use Rattle.rje_cli.specs.declared.words_fault.WordsFault.TheVariants.{Refused}
use Rattle.rje_requests.specs.Choice.{devices_chosen}
use Rattle.rje_cli.specs.Asking.{AsksFor, form_chosen, IsFaultOf, IsNumberOf, IsOrderOf, IsWordsFault, is_on, word_in}
use Rattle.rje_cli.specs.Canonical.{AskOnlyFor, flag_words, print_words, BlocksAsked, ShowAsked, CheckAsked, PrintAsked, TryAsked, MonitorAsked}
use Rattle.rje_cli.specs.CommandLine.{rje_app, is_file, names_file}
use Rattle.rje_cli.specs.Orders.{IsBlocks, IsShow, IsCheck, IsPrint, IsTry, IsMonitor}
use Rattle.rje_cli.specs.WordsFault.{IsWantOfMemory}
use Rattle.rje_cli.proofs.PlainWords.{IsPlain, deck_plain, jobs_plain}

-- WHAT IS FOUND OF ANY COMMAND

-- the command that was met, and what is seen of its rows
abbrev pub seen : {V : Type 0} → (List Row → V) → Option (Text × List Row) → Option (Text × V)
seen view = option_map (λ found. (found.0, view found.1))

-- what holds of the command that was met holds of its name and of what was seen
pub as_seen : {V : Type 0} (view : List Row → V) (met : Option (Text × List Row)) (name : Text) (value : V) (P : Text → List Row → Type 0)
    → seen view met ≡ Some (name, value) → IsSomeAnd met (λ m. P m.0 m.1) → (rows : List Row) × (view rows ≡ value) × P name rows
as_seen view None name value P e h = absurd h
as_seen {V} view (Some m) name value P e h =
    let both = ap (λ (o : Option (Text × V)). unwrap_or o (name, value)) e in
    (m.1, ap (λ (p : Text × V). p.1) both, subst (λ n. P n m.1) (ap (λ (p : Text × V). p.0) both) h)

pub memory_only : (error : Error) → HasKind [] error → IsWantOfMemory (Refused error)
memory_only error (inl h) = h
memory_only error (inr h) = absurd h

pub apart : (a b : Text) → a ≡ b → bytes_eq a b ≡ false → ⊥
apart a b e h = true≢false (sym ((bytes_eq-Decides a b).1 e) ∙ h)

-- words in which clap finds no fault, and what is seen of the command that they name
pub record AreTaken {V : Type 0} (view : List Row → V) (words : List Text) (name : Text) (value : V) : Type 0 where
  pub faultless : fault_of rje_app words ≡ []
  pub found : seen view (subcommand_of rje_app words) ≡ Some (name, value)

module _ {V : Type 0} (view : List Row → V) (word : Text) (words : List Text) (name : Text) (value : V) (taken : AreTaken view (word ∷ words) name value) where
  -- no fault but out of memory, where what was seen leaves no other
  pub only_memory : ((rows : List Row) → view rows ≡ value → (fault : WordsFault) → IsFaultOf name rows fault → ⊥)
      → (fault : WordsFault) → IsWordsFault (word ∷ words) fault → IsWantOfMemory fault
  only_memory none (Refused error) h = memory_only error (subst (λ kinds. HasKind kinds error) taken.faultless h)
  only_memory none fault h = let r = as_seen view _ name value (λ n rows. IsFaultOf n rows fault) taken.found h.1 in absurd (none r.0 r.1 fault r.2)

  pub only_order : (P : Order → Type 0) → ((rows : List Row) → view rows ≡ value → (order : Order) → IsOrderOf name rows order → P order)
      → (order : Order) → AsksFor (word ∷ words) order → P order
  only_order P reads order h = let r = as_seen view _ name value (λ n rows. IsOrderOf n rows order) taken.found h.1 in reads r.0 r.1 order r.2

-- `blocks DECK`

abbrev pub deck_in : List Row → Text
deck_in = word_in (codes "DECK")

deck_name : (c : ℕ) (rest : List ℕ) → (c == 45) ≡ false
    → seen deck_in (subcommand_of rje_app (codes "blocks" ∷ (c ∷ rest) ∷ [])) ≡ Some (codes "blocks", c ∷ rest)
unfolding clap_on_literals
deck_name c rest h = rw (h, h) refl

deck_name_taken : (c : ℕ) (rest : List ℕ) → (c == 45) ≡ false → fault_of rje_app (codes "blocks" ∷ (c ∷ rest) ∷ []) ≡ []
unfolding clap_on_literals
deck_name_taken c rest h = rw (h, h) refl

deck_hyphen : seen deck_in (subcommand_of rje_app (codes "blocks" ∷ codes "-" ∷ [])) ≡ Some (codes "blocks", codes "-")
unfolding clap_on_literals
deck_hyphen = refl

deck_hyphen_taken : fault_of rje_app (codes "blocks" ∷ codes "-" ∷ []) ≡ []
unfolding clap_on_literals
deck_hyphen_taken = refl

deck_single : (c : ℕ) (hyphen : Bool) → (c == 45) ≡ hyphen
    → seen deck_in (subcommand_of rje_app (codes "blocks" ∷ (c ∷ []) ∷ [])) ≡ Some (codes "blocks", c ∷ [])
deck_single c true h = let is : c ≡ 45 = grind (arith, nat_tests) in rw is deck_hyphen
deck_single c false h = deck_name c [] h

deck_single_taken : (c : ℕ) (hyphen : Bool) → (c == 45) ≡ hyphen → fault_of rje_app (codes "blocks" ∷ (c ∷ []) ∷ []) ≡ []
deck_single_taken c true h = let is : c ≡ 45 = grind (arith, nat_tests) in rw is deck_hyphen_taken
deck_single_taken c false h = deck_name_taken c [] h

-- clap finds the deck
pub blocks_found : (deck : List ℕ) → is_file deck ≡ true → seen deck_in (subcommand_of rje_app (codes "blocks" ∷ deck ∷ [])) ≡ Some (codes "blocks", deck)
blocks_found [] h = cc
blocks_found (c ∷ []) h = deck_single c (c == 45) refl
blocks_found (c ∷ d ∷ rest) h = deck_name c (d ∷ rest) (not-true (c == 45) h)

-- clap takes the words
pub blocks_taken : (deck : List ℕ) → is_file deck ≡ true → fault_of rje_app (codes "blocks" ∷ deck ∷ []) ≡ []
blocks_taken [] h = cc
blocks_taken (c ∷ []) h = deck_single_taken c (c == 45) refl
blocks_taken (c ∷ d ∷ rest) h = deck_name_taken c (d ∷ rest) (not-true (c == 45) h)

-- `show JOBS`, `check JOBS` AND `print JOBS`

-- what is seen of the rows of `show`
abbrev pub Showing : Type 0
Showing = Text × Option Text × Bool

abbrev pub show_in : List Row → Showing
show_in rows = (word_in (codes "JOBS") rows, one_of (codes "job") rows, is_on (codes "records") rows)

module _ (jobs : Text) (h : IsPlain jobs) where
  pub show_taken : (records : Bool) → fault_of rje_app (codes "show" ∷ jobs ∷ flag_words records (codes "--records")) ≡ []
  unfolding clap_on_literals
  show_taken false = rw (h.0, h.1, h.2) refl
  show_taken true = rw (h.0, h.1, h.2) refl

  pub show_found : (records : Bool) → seen show_in (subcommand_of rje_app (codes "show" ∷ jobs ∷ flag_words records (codes "--records")))
      ≡ Some (codes "show", (jobs, None, records))
  unfolding clap_on_literals
  show_found false = rw (h.0, h.1, h.2) refl
  show_found true = rw (h.0, h.1, h.2) refl

-- what is seen of the rows of `print`
abbrev pub Printing : Type 0
Printing = Text × Option Text × Bool × Bool × Bool

abbrev pub print_in : List Row → Printing
print_in rows =
    (word_in (codes "JOBS") rows, one_of (codes "job") rows, is_on (codes "printer") rows, is_on (codes "punch") rows, is_on (codes "raw") rows)

module _ (jobs : Text) (h : IsPlain jobs) where
  pub print_taken : (printer punch raw : Bool) → fault_of rje_app (codes "print" ∷ jobs ∷ print_words printer punch raw) ≡ []
  unfolding clap_on_literals
  print_taken false false false = rw (h.0, h.1, h.2) refl
  print_taken false false true = rw (h.0, h.1, h.2) refl
  print_taken false true false = rw (h.0, h.1, h.2) refl
  print_taken false true true = rw (h.0, h.1, h.2) refl
  print_taken true false false = rw (h.0, h.1, h.2) refl
  print_taken true false true = rw (h.0, h.1, h.2) refl
  print_taken true true false = rw (h.0, h.1, h.2) refl
  print_taken true true true = rw (h.0, h.1, h.2) refl

  pub print_found : (printer punch raw : Bool) → seen print_in (subcommand_of rje_app (codes "print" ∷ jobs ∷ print_words printer punch raw))
      ≡ Some (codes "print", (jobs, None, printer, punch, raw))
  unfolding clap_on_literals
  print_found false false false = rw (h.0, h.1, h.2) refl
  print_found false false true = rw (h.0, h.1, h.2) refl
  print_found false true false = rw (h.0, h.1, h.2) refl
  print_found false true true = rw (h.0, h.1, h.2) refl
  print_found true false false = rw (h.0, h.1, h.2) refl
  print_found true false true = rw (h.0, h.1, h.2) refl
  print_found true true false = rw (h.0, h.1, h.2) refl
  print_found true true true = rw (h.0, h.1, h.2) refl

abbrev pub jobs_in : List Row → Text
jobs_in = word_in (codes "JOBS")

check_name : (c : ℕ) (rest : List ℕ) → (c == 45) ≡ false
    → seen jobs_in (subcommand_of rje_app (codes "check" ∷ (c ∷ rest) ∷ [])) ≡ Some (codes "check", c ∷ rest)
unfolding clap_on_literals
check_name c rest h = rw (h, h) refl

check_name_taken : (c : ℕ) (rest : List ℕ) → (c == 45) ≡ false → fault_of rje_app (codes "check" ∷ (c ∷ rest) ∷ []) ≡ []
unfolding clap_on_literals
check_name_taken c rest h = rw (h, h) refl

pub check_found : (jobs : List ℕ) → names_file jobs ≡ true → seen jobs_in (subcommand_of rje_app (codes "check" ∷ jobs ∷ [])) ≡ Some (codes "check", jobs)
check_found [] h = cc
check_found (c ∷ rest) h = check_name c rest (not-true (c == 45) h)

pub check_taken : (jobs : List ℕ) → names_file jobs ≡ true → fault_of rje_app (codes "check" ∷ jobs ∷ []) ≡ []
check_taken [] h = cc
check_taken (c ∷ rest) h = check_name_taken c rest (not-true (c == 45) h)

-- `try JOBS SCRIPT`

-- the two files that were found
pub record TwoFiles : Type 0 where
  pub jobs : Text
  pub script : Text

abbrev pub files_in : List Row → TwoFiles
files_in rows = record { jobs = word_in (codes "JOBS") rows; script = word_in (codes "SCRIPT") rows }

try_names : (c d : ℕ) (cs ds : List ℕ) → (c == 45) ≡ false → (d == 45) ≡ false
    → seen files_in (subcommand_of rje_app (codes "try" ∷ (c ∷ cs) ∷ (d ∷ ds) ∷ [])) ≡ Some (codes "try", record { jobs = c ∷ cs; script = d ∷ ds })
unfolding clap_on_literals
try_names c d cs ds h k = rw (h, h, k, k) refl

try_names_taken : (c d : ℕ) (cs ds : List ℕ) → (c == 45) ≡ false → (d == 45) ≡ false → fault_of rje_app (codes "try" ∷ (c ∷ cs) ∷ (d ∷ ds) ∷ []) ≡ []
unfolding clap_on_literals
try_names_taken c d cs ds h k = rw (h, h, k, k) refl

pub try_found : (jobs script : List ℕ) → names_file jobs ≡ true → names_file script ≡ true
    → seen files_in (subcommand_of rje_app (codes "try" ∷ jobs ∷ script ∷ [])) ≡ Some (codes "try", record { jobs = jobs; script = script })
try_found [] script h k = cc
try_found (c ∷ cs) [] h k = cc
try_found (c ∷ cs) (d ∷ ds) h k = try_names c d cs ds (not-true (c == 45) h) (not-true (d == 45) k)

pub try_taken : (jobs script : List ℕ) → names_file jobs ≡ true → names_file script ≡ true → fault_of rje_app (codes "try" ∷ jobs ∷ script ∷ []) ≡ []
try_taken [] script h k = cc
try_taken (c ∷ cs) [] h k = cc
try_taken (c ∷ cs) (d ∷ ds) h k = try_names_taken c d cs ds (not-true (c == 45) h) (not-true (d == 45) k)

-- `monitor CAPTURE`, AND WITHOUT A CAPTURE

-- what is seen of the rows of `monitor`
abbrev pub Monitoring : Type 0
Monitoring = Text × Bool

abbrev pub monitor_in : List Row → Monitoring
monitor_in rows = (unwrap_or (first_of (codes "CAPTURE") rows) (codes "-"), is_on (codes "hex") rows)

module _ (capture : Text) (h : IsPlain capture) where
  pub monitor_taken : (hex : Bool) → fault_of rje_app (codes "monitor" ∷ capture ∷ flag_words hex (codes "--hex")) ≡ []
  unfolding clap_on_literals
  monitor_taken false = rw (h.0, h.1, h.2) refl
  monitor_taken true = rw (h.0, h.1, h.2) refl

  pub monitor_found : (hex : Bool) → seen monitor_in (subcommand_of rje_app (codes "monitor" ∷ capture ∷ flag_words hex (codes "--hex")))
      ≡ Some (codes "monitor", (capture, hex))
  unfolding clap_on_literals
  monitor_found false = rw (h.0, h.1, h.2) refl
  monitor_found true = rw (h.0, h.1, h.2) refl

pub input_taken : (hex : Bool) → fault_of rje_app (codes "monitor" ∷ flag_words hex (codes "--hex")) ≡ []
unfolding clap_on_literals
input_taken false = refl
input_taken true = refl

pub input_found : (hex : Bool) → seen monitor_in (subcommand_of rje_app (codes "monitor" ∷ flag_words hex (codes "--hex"))) ≡ Some (codes "monitor", (codes "-", hex))
unfolding clap_on_literals
input_found false = refl
input_found true = refl

-- WHAT THE WORDS ASK FOR

pub no_socket : (name : Text) (rows : List Row) (order : SocketOrder) → bytes_eq name (codes "loop") ≡ false → bytes_eq name (codes "send") ≡ false
    → bytes_eq name (codes "receive") ≡ false → bytes_eq name (codes "exchange") ≡ false → IsOrderOf name rows (Sockets order) → ⊥
no_socket name rows (Loop order) loop send receive exchange h = apart _ _ h.0 loop
no_socket name rows (Send order) loop send receive exchange h = apart _ _ h.0 send
no_socket name rows (Receive order) loop send receive exchange h = apart _ _ h.0 receive
no_socket name rows (Exchange order) loop send receive exchange h = apart _ _ h.0 exchange

pub no_file : (name : Text) (rows : List Row) (order : FileOrder) → bytes_eq name (codes "blocks") ≡ false → bytes_eq name (codes "cards") ≡ false
    → bytes_eq name (codes "show") ≡ false → bytes_eq name (codes "check") ≡ false → bytes_eq name (codes "print") ≡ false
    → bytes_eq name (codes "try") ≡ false → bytes_eq name (codes "monitor") ≡ false → bytes_eq name (codes "take") ≡ false
    → bytes_eq name (codes "mark") ≡ false → IsOrderOf name rows (Files order) → ⊥
no_file name rows (Blocks deck) blocks cards show check print attempt monitor take mark h = apart _ _ h.0 blocks
no_file name rows (Cards order) blocks cards show check print attempt monitor take mark h = apart _ _ h.0 cards
no_file name rows (Show order) blocks cards show check print attempt monitor take mark h = apart _ _ h.0 show
no_file name rows (Check jobs) blocks cards show check print attempt monitor take mark h = apart _ _ h.0 check
no_file name rows (Print order) blocks cards show check print attempt monitor take mark h = apart _ _ h.0 print
no_file name rows (Try order) blocks cards show check print attempt monitor take mark h = apart _ _ h.0 attempt
no_file name rows (Monitor order) blocks cards show check print attempt monitor take mark h = apart _ _ h.0 monitor
no_file name rows (Take order) blocks cards show check print attempt monitor take mark h = apart _ _ h.0 take
no_file name rows (Mark order) blocks cards show check print attempt monitor take mark h = apart _ _ h.0 mark

blocks_read : (deck : Text) (rows : List Row) → deck_in rows ≡ deck → (order : Order) → IsOrderOf (codes "blocks") rows order → IsBlocks deck order
blocks_read deck rows e (Files (Blocks named)) h = h.1 ∙ e
blocks_read deck rows e (Files _) h = absurd (apart _ _ h.0 refl)
blocks_read deck rows e (Station order) h = absurd (apart _ _ h.0 refl)
blocks_read deck rows e (Status order) h = absurd (apart _ _ h.0 refl)
blocks_read deck rows e (Sockets order) h = absurd (no_socket (codes "blocks") rows order refl refl refl refl h)

show_read : (jobs : Text) (records : Bool) (rows : List Row) → show_in rows ≡ (jobs, None, records) → (order : Order) → IsOrderOf (codes "show") rows order
    → IsShow jobs records order
show_read jobs records rows e (Files (Show order)) h = (
  h.1.jobs ∙ ap (λ (v : Showing). v.0) e,
  (subst (λ o. IsNumberOf o order.choice.job) (ap (λ (v : Showing). v.1) e) h.1.job, h.1.devices),
  h.1.records ∙ ap (λ (v : Showing). v.2) e,
)
show_read jobs records rows e (Files _) h = absurd (apart _ _ h.0 refl)
show_read jobs records rows e (Station order) h = absurd (apart _ _ h.0 refl)
show_read jobs records rows e (Status order) h = absurd (apart _ _ h.0 refl)
show_read jobs records rows e (Sockets order) h = absurd (no_socket (codes "show") rows order refl refl refl refl h)

check_read : (jobs : Text) (rows : List Row) → jobs_in rows ≡ jobs → (order : Order) → IsOrderOf (codes "check") rows order → IsCheck jobs order
check_read jobs rows e (Files (Check named)) h = h.1 ∙ e
check_read jobs rows e (Files _) h = absurd (apart _ _ h.0 refl)
check_read jobs rows e (Station order) h = absurd (apart _ _ h.0 refl)
check_read jobs rows e (Status order) h = absurd (apart _ _ h.0 refl)
check_read jobs rows e (Sockets order) h = absurd (no_socket (codes "check") rows order refl refl refl refl h)

print_read : (jobs : Text) (printer punch raw : Bool) (rows : List Row) → print_in rows ≡ (jobs, None, printer, punch, raw) → (order : Order)
    → IsOrderOf (codes "print") rows order → IsPrint jobs (devices_chosen printer punch) (form_chosen raw) order
print_read jobs printer punch raw rows e (Files (Print order)) h = (
  h.1.jobs ∙ ap (λ (v : Printing). v.0) e,
  (
    subst (λ o. IsNumberOf o order.choice.job) (ap (λ (v : Printing). v.1) e) h.1.job,
    h.1.devices ∙ ap (λ (v : Printing). devices_chosen v.2 v.3) e,
  ),
  h.1.form ∙ ap (λ (v : Printing). form_chosen v.4) e,
)
print_read jobs printer punch raw rows e (Files _) h = absurd (apart _ _ h.0 refl)
print_read jobs printer punch raw rows e (Station order) h = absurd (apart _ _ h.0 refl)
print_read jobs printer punch raw rows e (Status order) h = absurd (apart _ _ h.0 refl)
print_read jobs printer punch raw rows e (Sockets order) h = absurd (no_socket (codes "print") rows order refl refl refl refl h)

try_read : (jobs script : Text) (rows : List Row) → files_in rows ≡ record { jobs = jobs; script = script } → (order : Order) → IsOrderOf (codes "try") rows order
    → IsTry jobs script order
try_read jobs script rows e (Files (Try order)) h = (h.1.jobs ∙ ap (λ f. f.jobs) e, h.1.script ∙ ap (λ f. f.script) e)
try_read jobs script rows e (Files _) h = absurd (apart _ _ h.0 refl)
try_read jobs script rows e (Station order) h = absurd (apart _ _ h.0 refl)
try_read jobs script rows e (Status order) h = absurd (apart _ _ h.0 refl)
try_read jobs script rows e (Sockets order) h = absurd (no_socket (codes "try") rows order refl refl refl refl h)

monitor_read : (capture : Text) (hex : Bool) (rows : List Row) → monitor_in rows ≡ (capture, hex) → (order : Order) → IsOrderOf (codes "monitor") rows order
    → IsMonitor capture hex order
monitor_read capture hex rows e (Files (Monitor order)) h = (h.1.capture ∙ ap (λ (v : Monitoring). v.0) e, h.1.hex ∙ ap (λ (v : Monitoring). v.1) e)
monitor_read capture hex rows e (Files _) h = absurd (apart _ _ h.0 refl)
monitor_read capture hex rows e (Station order) h = absurd (apart _ _ h.0 refl)
monitor_read capture hex rows e (Status order) h = absurd (apart _ _ h.0 refl)
monitor_read capture hex rows e (Sockets order) h = absurd (no_socket (codes "monitor") rows order refl refl refl refl h)

-- only the values of these commands can be such that they can't be carried out
no_fault : (name : Text) (rows : List Row) → bytes_eq name (codes "cards") ≡ false → bytes_eq name (codes "send") ≡ false
    → bytes_eq name (codes "receive") ≡ false → bytes_eq name (codes "exchange") ≡ false → bytes_eq name (codes "station") ≡ false
    → bytes_eq name (codes "take") ≡ false → bytes_eq name (codes "mark") ≡ false → (fault : WordsFault) → IsFaultOf name rows fault → ⊥
no_fault name rows cards send receive exchange station take mark fault (inl h) = apart _ _ h.0 cards
no_fault name rows cards send receive exchange station take mark fault (inr (inl h)) = apart _ _ h.0 send
no_fault name rows cards send receive exchange station take mark fault (inr (inr (inl h))) = apart _ _ h.0 receive
no_fault name rows cards send receive exchange station take mark fault (inr (inr (inr (inl h)))) = apart _ _ h.0 exchange
no_fault name rows cards send receive exchange station take mark fault (inr (inr (inr (inr (inl h))))) = apart _ _ h.0 station
no_fault name rows cards send receive exchange station take mark fault (inr (inr (inr (inr (inr (inl h)))))) = apart _ _ h.0 take
no_fault name rows cards send receive exchange station take mark fault (inr (inr (inr (inr (inr (inr h)))))) = apart _ _ h.0 mark

module _ {V : Type 0} (view : List Row → V) (word : Text) (words : List Text) (name : Text) (value : V) (P : Order → Type 0) where
  pub ask_only : fault_of rje_app (word ∷ words) ≡ [] → seen view (subcommand_of rje_app (word ∷ words)) ≡ Some (name, value)
      → bytes_eq name (codes "cards") ≡ false → bytes_eq name (codes "send") ≡ false → bytes_eq name (codes "receive") ≡ false
      → bytes_eq name (codes "exchange") ≡ false → bytes_eq name (codes "station") ≡ false → bytes_eq name (codes "take") ≡ false
      → bytes_eq name (codes "mark") ≡ false → ((rows : List Row) → view rows ≡ value → (order : Order) → IsOrderOf name rows order → P order) → AskOnlyFor (word ∷ words) P
  ask_only none found cards send receive exchange station take mark reads = let taken : AreTaken view (word ∷ words) name value = record { faultless = none; found = found } in record {
    order = only_order view word words name value taken P reads;
    fault = only_memory view word words name value taken (λ rows _. no_fault name rows cards send receive exchange station take mark);
  }

pub blocks_asked : BlocksAsked
blocks_asked deck h = ask_only deck_in (codes "blocks") (deck ∷ []) (codes "blocks") deck (IsBlocks deck) (blocks_taken deck h) (blocks_found deck h)
    refl refl refl refl refl refl refl (blocks_read deck)

pub show_asked : ShowAsked
show_asked jobs records h = ask_only show_in (codes "show") (jobs ∷ flag_words records (codes "--records")) (codes "show") (jobs, None, records)
    (IsShow jobs records) (show_taken jobs (jobs_plain jobs h) records) (show_found jobs (jobs_plain jobs h) records) refl refl refl refl refl refl refl
    (show_read jobs records)

pub check_asked : CheckAsked
check_asked jobs h = ask_only jobs_in (codes "check") (jobs ∷ []) (codes "check") jobs (IsCheck jobs) (check_taken jobs h) (check_found jobs h)
    refl refl refl refl refl refl refl (check_read jobs)

pub print_asked : PrintAsked
print_asked jobs printer punch raw h = ask_only print_in (codes "print") (jobs ∷ print_words printer punch raw) (codes "print")
    (jobs, None, printer, punch, raw) (IsPrint jobs (devices_chosen printer punch) (form_chosen raw))
    (print_taken jobs (jobs_plain jobs h) printer punch raw) (print_found jobs (jobs_plain jobs h) printer punch raw) refl refl refl refl refl refl refl
    (print_read jobs printer punch raw)

pub try_asked : TryAsked
try_asked jobs script h k = ask_only files_in (codes "try") (jobs ∷ script ∷ []) (codes "try") (record { jobs = jobs; script = script }) (IsTry jobs script)
    (try_taken jobs script h k) (try_found jobs script h k) refl refl refl refl refl refl refl (try_read jobs script)

capture_asked : (capture : Text) (hex : Bool) → is_file capture ≡ true → AskOnlyFor (codes "monitor" ∷ capture ∷ flag_words hex (codes "--hex")) (IsMonitor capture hex)
capture_asked capture hex h = ask_only monitor_in (codes "monitor") (capture ∷ flag_words hex (codes "--hex")) (codes "monitor") (capture, hex) (IsMonitor capture hex)
    (monitor_taken capture (deck_plain capture h) hex) (monitor_found capture (deck_plain capture h) hex) refl refl refl refl refl refl refl (monitor_read capture hex)

input_asked : (hex : Bool) → AskOnlyFor (codes "monitor" ∷ flag_words hex (codes "--hex")) (IsMonitor (codes "-") hex)
input_asked hex = ask_only monitor_in (codes "monitor") (flag_words hex (codes "--hex")) (codes "monitor") (codes "-", hex) (IsMonitor (codes "-") hex)
    (input_taken hex) (input_found hex) refl refl refl refl refl refl refl (monitor_read (codes "-") hex)

pub monitor_asked : MonitorAsked
monitor_asked = record { named = capture_asked; unnamed = input_asked }
