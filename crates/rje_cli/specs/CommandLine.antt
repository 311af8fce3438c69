-- The command line that clap is given, and the words that name files and devices.
use Rattle.std.specs.Prelude.{◌≡◌, ◌⊎◌, [], ◌∷◌, List, Some, Bool, true, false, not, codes, pos, ◌==◌}
use Rattle.clap.specs.Words.{App, Rule, Text, app_of, new_app, new_rule, rule_of, with_rule, with_subcommand}
use Rattle.clap.specs.Simple.{on_top}
use Rattle.clap.specs.declared.builder.Command.TheViews.{out-Command as fields_of}
use Rattle.clap.specs.declared.builder.arg.Arg.{Arg}
use Rattle.clap.specs.declared.builder.command.Command.{Command}
use Rattle.clap.specs.declared.builder.action.ArgAction.TheVariants.{Set, SetTrue}
use Rattle.clap.specs.declared.builder.value_parser.ValueParser.TheVariants as parser

-- the argument has this rule, and is its command's own
abbrev pub IsArg : Rule → Arg → Type 0
IsArg rule arg = (rule_of arg ≡ rule) × (arg.global ≡ false)

-- the command has this form, and no argument that is every command's
abbrev pub IsApp : App → Command → Type 0
IsApp app command = (app_of command ≡ app) × ((fields_of command).has_globals ≡ false)

-- a file that must be named
abbrev pub file_rule : Text → Rule
file_rule id = record (new_rule id) { required = true; action = Some Set }

-- a capture, which may be left out
abbrev pub capture_rule : Rule
capture_rule = record (new_rule (codes "CAPTURE")) { action = Some Set }

-- an option of this name
abbrev pub flag_rule : Text → Rule
flag_rule id = record (new_rule id) { long = Some id; action = Some SetTrue }

-- an option of this name that is given a value
abbrev pub value_rule : Text → Rule
value_rule id = record (new_rule id) { long = Some id; value_names = 1; action = Some Set }

-- the option for how long a hearing waits, in milliseconds
abbrev pub timeout_rule : Rule
timeout_rule = record (value_rule (codes "timeout")) {
  parser = Some (parser.Signed (pos 1) (pos 60000));
  defaults = codes "3000" ∷ [];
}

-- the option for after how many hearings in a row without a word it leaves
abbrev pub patience_rule : Rule
patience_rule = record (value_rule (codes "patience")) {
  parser = Some (parser.Signed (pos 0) (pos 1000000000));
  defaults = codes "40" ∷ [];
}

-- the option for how long a station waits before its next call, in seconds
abbrev pub every_rule : Rule
every_rule = record (value_rule (codes "every")) { parser = Some (parser.Signed (pos 1) (pos 86400)) }

-- the option for how long another end has the line while no job comes whole and none is counted, in seconds
abbrev pub progress_rule : Rule
progress_rule = record (value_rule (codes "progress")) {
  parser = Some (parser.Signed (pos 0) (pos 1000000));
  defaults = codes "21600" ∷ [];
}

-- the option to report each turn
abbrev pub trace_rule : Rule
trace_rule = flag_rule (codes "trace")

-- the option to show nothing of how far it is
abbrev pub quiet_rule : Rule
quiet_rule = flag_rule (codes "quiet")

-- the option for the number of the one job, from 1
abbrev pub number_rule : Rule
number_rule = record (value_rule (codes "job")) { parser = Some (parser.Unsigned 1 18446744073709551615) }

-- the option for the numbers of jobs, which must be given
abbrev pub numbers_rule : Rule
numbers_rule = record (value_rule (codes "job")) { required = true }

-- a command of this name with one file
abbrev pub file_app : Text → Text → App
file_app name id = with_rule (new_app name) (file_rule id)

-- `blocks DECK`
abbrev pub blocks_app : App
blocks_app = file_app (codes "blocks") (codes "DECK")

-- the options that choose a job's device
abbrev pub with_device_rules : App → App
with_device_rules app =
    with_rule (with_rule (with_rule app (flag_rule (codes "printer"))) (flag_rule (codes "punch"))) (flag_rule (codes "transparent"))

-- `cards DECK JOBS`, with the options for the device and the job's name, and the one to add the job to those of the file
abbrev pub cards_app : App
cards_app =
    with_rule (with_rule (with_device_rules (with_rule (file_app (codes "cards") (codes "DECK")) (file_rule (codes "JOBS"))))
    (value_rule (codes "name"))) (flag_rule (codes "append"))

-- the program: its words hold no name of the program, a command is required, and it has a version
abbrev pub rje_top : App
rje_top = on_top (λ s. record s { no_binary_name = true; subcommand_required = true; has_version = true }) (new_app (codes "rje"))

-- `show JOBS`, with the options for one job, and for records
abbrev pub show_app : App
show_app = with_rule (with_rule (file_app (codes "show") (codes "JOBS")) number_rule) (flag_rule (codes "records"))

-- the options that choose jobs: one job, and the devices
abbrev pub with_choice_rules : App → App
with_choice_rules app = with_rule (with_rule (with_rule app number_rule) (flag_rule (codes "printer"))) (flag_rule (codes "punch"))

-- `print JOBS`, with the options for one job, for its device, and for cards as they are
abbrev pub print_app : App
print_app = with_rule (with_choice_rules (file_app (codes "print") (codes "JOBS"))) (flag_rule (codes "raw"))

-- `try JOBS SCRIPT`
abbrev pub try_app : App
try_app = with_rule (file_app (codes "try") (codes "JOBS")) (file_rule (codes "SCRIPT"))

-- `monitor CAPTURE`, whose file may be left out, with the option for hexadecimal digits
abbrev pub monitor_app : App
monitor_app = with_rule (with_rule (new_app (codes "monitor")) capture_rule) (flag_rule (codes "hex"))

-- `take JOBS NEW`, with the options for the numbers of jobs, and to add the jobs to those of the file
abbrev pub take_app : App
take_app =
    with_rule (with_rule (with_rule (file_app (codes "take") (codes "JOBS")) (file_rule (codes "NEW"))) numbers_rule) (flag_rule (codes "append"))

-- `mark JOBS`, with the options for the numbers of jobs, and for either mark
abbrev pub mark_app : App
mark_app =
    with_rule (with_rule (with_rule (file_app (codes "mark") (codes "JOBS")) numbers_rule) (flag_rule (codes "sent"))) (flag_rule (codes "waiting"))

-- `loop JOBS`
abbrev pub loop_app : App
loop_app = with_rule (with_rule (with_rule (file_app (codes "loop") (codes "JOBS")) timeout_rule) trace_rule) quiet_rule

-- the options for whom is called, for where it is listened, and for whose calls are taken
abbrev pub with_meeting_rules : App → App
with_meeting_rules app =
    with_rule (with_rule (with_rule app (value_rule (codes "to"))) (value_rule (codes "listen"))) (value_rule (codes "from"))

-- the options for a connection
abbrev pub with_connection_rules : App → App
with_connection_rules app =
    with_rule (with_rule (with_rule (with_rule (with_meeting_rules app) timeout_rule) (flag_rule (codes "adapter"))) trace_rule) quiet_rule

-- the options for the jobs that the file which is received into holds already
abbrev pub with_existing_rules : App → App
with_existing_rules app = with_rule (with_rule app (flag_rule (codes "new"))) (flag_rule (codes "append"))

-- the options for the rank
abbrev pub with_rank_rules : App → App
with_rank_rules app = with_rule (with_rule app (flag_rule (codes "primary"))) (flag_rule (codes "secondary"))

-- `send JOBS`, with the options for the connection
abbrev pub send_app : App
send_app = with_connection_rules (file_app (codes "send") (codes "JOBS"))

-- `receive JOBS`, with the options for the connection, for patience, to wait for a call that brings something, and for the jobs of the file
abbrev pub receive_app : App
receive_app =
    with_existing_rules (with_rule (with_rule (with_connection_rules (file_app (codes "receive") (codes "JOBS"))) patience_rule)
    (flag_rule (codes "wait")))

-- `exchange SEND RECEIVED`, with the options for the connection, for patience, for the rank, and for the jobs of RECEIVED
abbrev pub exchange_app : App
exchange_app =
    with_existing_rules (with_rank_rules (with_rule (with_connection_rules (with_rule (file_app (codes "exchange") (codes "SEND"))
    (file_rule (codes "RECEIVED")))) patience_rule))

-- the options for how a station comes to its connections, and what it keeps to there
abbrev pub with_partner_rules : App → App
with_partner_rules app =
    with_rank_rules (with_rule (with_rule (with_rule (with_rule (with_meeting_rules app) every_rule) timeout_rule) patience_rule) progress_rule)

-- `station FOLDER`, with the options for its connections, for a line adapter, for one connection, for receipts, and to show nothing of how far it is
abbrev pub station_app : App
station_app =
    with_rule (with_rule (with_rule (with_rule (with_partner_rules (file_app (codes "station") (codes "FOLDER"))) (flag_rule (codes "adapter")))
    (flag_rule (codes "once"))) (flag_rule (codes "settle"))) quiet_rule

-- `status FOLDER`, with the option for JSON
abbrev pub status_app : App
status_app = with_rule (file_app (codes "status") (codes "FOLDER")) (flag_rule (codes "json"))

-- the commands over decks
abbrev pub with_deck_apps : App → App
with_deck_apps app = with_subcommand (with_subcommand app cards_app.top) blocks_app.top

-- the commands over job files alone, and the one over a capture
abbrev pub with_file_apps : App → App
with_file_apps app =
    with_subcommand (with_subcommand (with_subcommand (with_subcommand (with_subcommand (with_subcommand (with_subcommand app show_app.top)
    (file_app (codes "check") (codes "JOBS")).top) print_app.top) try_app.top) monitor_app.top) take_app.top) mark_app.top

-- the commands over connections, and the one over a station's folder
abbrev pub with_line_apps : App → App
with_line_apps app =
    with_subcommand (with_subcommand (with_subcommand (with_subcommand (with_subcommand (with_subcommand app loop_app.top) send_app.top)
    receive_app.top) exchange_app.top) station_app.top) status_app.top

-- the program with all its commands
abbrev pub rje_app : App
rje_app = with_line_apps (with_file_apps (with_deck_apps rje_top))

-- a word that names a file: more than nothing, without a hyphen in front
abbrev pub names_file : Text → Bool
names_file [] = false
names_file (c ∷ rest) = not (c == 45)

-- a word that names a deck: a single character, which may be the hyphen, or more without a hyphen in front
abbrev pub is_file : Text → Bool
is_file [] = false
is_file (c ∷ []) = true
is_file (c ∷ d ∷ rest) = not (c == 45)

-- the names of the commands
abbrev pub command_names : List Text
command_names =
    codes "cards" ∷ codes "blocks" ∷ codes "show" ∷ codes "check" ∷ codes "print" ∷ codes "try" ∷ codes "monitor" ∷ codes "take" ∷ codes "mark" ∷ codes "loop" ∷ codes "send" ∷ codes "receive" ∷ codes "exchange" ∷ codes "station" ∷ codes "status" ∷ []

-- the text is one of these
abbrev pub IsOneOf : Text → List Text → Type 0
IsOneOf text [] = ⊥
IsOneOf text (name ∷ names) = (text ≡ name) ⊎ IsOneOf text names
