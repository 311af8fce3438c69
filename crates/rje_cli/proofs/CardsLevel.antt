-- What clap makes of `cards`, its two files and its options after them.
use Rattle.std.proofs.Common.{ℕ, List, [], ◌∷◌, ◌++◌, ◌≡◌, Option, Some, None, Bool, true, false, refl, codes, ap, ap₂, ◌∙◌, sym, append_assoc, append-nil}
use Rattle.std.specs.Prelude.{unwrap_or, is_some, find, fold, map, slice_get}
use Rattle.std.specs.List.{flat_map}
use Rattle.std.specs.Str.{bytes_eq}
use Rattle.clap.specs.Words.{Kinds, Row, Rule, Shape, Text, built, fault_of, first_of, new_rule, subcommand_of}
use Rattle.clap.specs.Kinds.{or_else}
use Rattle.clap.specs.Simple.{entered, names_of, new_shape}
use Rattle.clap.specs.Faults.{check_fault, defaults_fault, entered_fault, level_fault, react_fault, settle_fault, turn_fault, walk_fault}
use Rattle.clap.specs.Walk.{Held, Names, Walk, finished, idle, nothing_held, positional_held, reacted, rows_after, settled, walk, walk_from, walked}
use Rattle.clap.specs.Walk.{option as waits_for}
use Rattle.clap.proofs.OnLiterals.{clap_on_literals}
use Rattle.rje_requests.specs.declared.device.Device.{Device}
use Rattle.rje_requests.specs.declared.device.Device.TheVariants.{Default, Printer, Punch, Transparent}
use Rattle.rje_cli.specs.Asking.{device_in, is_on, word_in}
use Rattle.rje_cli.specs.Canonical.{cards_options, in_each_order}
use Rattle.rje_cli.specs.CommandLine.{rje_app}
use Rattle.rje_cli.proofs.FileWords.{AreTaken, seen}
use Rattle.rje_cli.proofs.PlainWords.{IsPlain}

-- THE COMMAND `cards`

abbrev cards : Shape
cards = unwrap_or (find (λ s. bytes_eq s.name (codes "cards")) (built rje_app).subs) (new_shape [])

abbrev rules : List Rule
rules = cards.rules

abbrev rule_at : ℕ → Rule
rule_at i = unwrap_or (slice_get rules i) (new_rule [])

-- the walk between two words, before any of them stops it
abbrev at : Held → ℕ → Walk
at h position = record { held = h; waiting = idle; position = position; is_trailing = false; stopped = None }

-- AN OPTION

-- an option that takes no value
pub data Flag : Type 0 where
  printer : Flag
  punch : Flag
  transparent : Flag
  append : Flag

abbrev flag_text : Flag → Text
flag_text printer = codes "--printer"
flag_text punch = codes "--punch"
flag_text transparent = codes "--transparent"
flag_text append = codes "--append"

abbrev rule_of_flag : Flag → Rule
rule_of_flag printer = rule_at 2
rule_of_flag punch = rule_at 3
rule_of_flag transparent = rule_at 4
rule_of_flag append = rule_at 6

flag_walked : (f : Flag) (h : Held) (position : ℕ) → walked rules [] (at h position) (flag_text f) ≡ at (reacted rules (rule_of_flag f) [] h) position
unfolding clap_on_literals
flag_walked printer h position = refl
flag_walked punch h position = refl
flag_walked transparent h position = refl
flag_walked append h position = refl

flag_turn : (f : Flag) (h : Held) (position : ℕ) → turn_fault cards [] (at h position) (flag_text f) ≡ or_else (react_fault rules false (rule_of_flag f) [] h) []
unfolding clap_on_literals
flag_turn printer h position = refl
flag_turn punch h position = refl
flag_turn transparent h position = refl
flag_turn append h position = refl

-- the walk after the option for a name, whose value comes next
abbrev asked : Held → ℕ → Walk
asked h position = record {
  held = record (settled rules h) { pending = Some (codes "name", []) };
  waiting = waits_for (codes "name");
  position = position;
  is_trailing = false;
  stopped = None;
}

-- and after that
abbrev with_name : Text → Held → Held
with_name text h = record h { rows = (settled rules h).rows; pending = Some (codes "name", text ∷ []) }

name_walked : (h : Held) (position : ℕ) → walked rules [] (at h position) (codes "--name") ≡ asked h position
unfolding clap_on_literals
name_walked h position = refl

name_turn : (h : Held) (position : ℕ) → turn_fault cards [] (at h position) (codes "--name") ≡ or_else (settle_fault rules false h) []
unfolding clap_on_literals
name_turn h position = refl

value_walked : (text : Text) (h : Held) (position : ℕ) → IsPlain text → walked rules [] (asked h position) text ≡ at (with_name text h) position
unfolding clap_on_literals
value_walked text h position p = rw (p.0, p.1, p.2) refl

value_turn : (text : Text) (h : Held) (position : ℕ) → IsPlain text → turn_fault cards [] (asked h position) text ≡ []
unfolding clap_on_literals
value_turn text h position p = rw (p.0, p.1, p.2) refl

-- ALL WORDS

-- an option, with its value
pub data Part : Type 0 where
  flag : Flag → Part
  named : Text → Part

abbrev pub part_words : Part → List Text
part_words (flag f) = flag_text f ∷ []
part_words (named text) = codes "--name" ∷ text ∷ []

-- what is held after them
abbrev pub held_after : List Part → Held → Held
held_after [] h = h
held_after (flag f ∷ parts) h = held_after parts (reacted rules (rule_of_flag f) [] h)
held_after (named text ∷ parts) h = held_after parts (with_name text h)

-- the kinds that are found of them
abbrev pub told_of : List Part → Held → Kinds
told_of [] h = []
told_of (flag f ∷ parts) h = or_else (or_else (react_fault rules false (rule_of_flag f) [] h) []) (told_of parts (reacted rules (rule_of_flag f) [] h))
told_of (named text ∷ parts) h = or_else (or_else (settle_fault rules false h) []) (told_of parts (with_name text h))

-- each name among them is taken for no option
abbrev pub ArePlain : List Part → Type 0
ArePlain [] = Unit {0}
ArePlain (flag f ∷ parts) = ArePlain parts
ArePlain (named text ∷ parts) = IsPlain text × ArePlain parts

parts_walked : (parts : List Part) (h : Held) → ArePlain parts → fold (walked rules []) (at h 3) (flat_map part_words parts) ≡ at (held_after parts h) 3
parts_walked [] h p = refl
parts_walked (flag f ∷ parts) h p = ap (λ w. fold (walked rules []) w (flat_map part_words parts)) (flag_walked f h 3) ∙ parts_walked parts _ p
parts_walked (named text ∷ parts) h p =
    ap (λ w. fold (walked rules []) (walked rules [] w text) (flat_map part_words parts)) (name_walked h 3)
    ∙ ap (λ w. fold (walked rules []) w (flat_map part_words parts)) (value_walked text h 3 p.0) ∙ parts_walked parts _ p.1

parts_told : (parts : List Part) (h : Held) → ArePlain parts → walk_fault cards [] (at h 3) (flat_map part_words parts) ≡ told_of parts h
unfolding walk_fault
parts_told [] h p = refl
parts_told (flag f ∷ parts) h p =
    ap₂ or_else (flag_turn f h 3) (ap (λ w. walk_fault cards [] w (flat_map part_words parts)) (flag_walked f h 3) ∙ parts_told parts _ p)
parts_told (named text ∷ parts) h p =
    ap₂ or_else (name_turn h 3) (ap (λ w. or_else (turn_fault cards [] w text) (walk_fault cards [] (walked rules [] w text) (flat_map part_words parts))) (name_walked h 3)
    ∙ ap₂ or_else (value_turn text h 3 p.0) (ap (λ w. walk_fault cards [] w (flat_map part_words parts)) (value_walked text h 3 p.0) ∙ parts_told parts _ p.1))

-- what is held after the two files
abbrev pub files_held : (deck jobs : Text) → Held
files_held deck jobs = positional_held rules (rule_at 1) jobs (positional_held rules (rule_at 0) deck nothing_held)

module _ (deck jobs : Text) (h : IsPlain deck) (k : IsPlain jobs) (words : List Text) where
  files_walked : walk rules [] nothing_held (deck ∷ jobs ∷ words) ≡ fold (walked rules []) (at (files_held deck jobs) 3) words
  unfolding clap_on_literals
  files_walked = rw (h.0, h.1, h.2) rw (k.0, k.1, k.2) refl

  files_told : walk_fault cards [] (walk_from nothing_held) (deck ∷ jobs ∷ words) ≡ walk_fault cards [] (at (files_held deck jobs) 3) words
  unfolding clap_on_literals
  files_told = rw (h.0, h.1, h.2) rw (k.0, k.1, k.2) refl

-- the kinds that are found after the words
abbrev told_behind : Held → Kinds
told_behind h = or_else (settle_fault rules false h) (or_else (defaults_fault (settled rules h).rows rules) (check_fault cards (finished rules h) false))

or_else-right : (ks : Kinds) → or_else ks [] ≡ ks
or_else-right [] = refl
or_else-right (k ∷ ks) = refl

-- THE PROGRAM'S LEVEL

abbrev top : Shape
top = (built rje_app).top

abbrev names : Names
names = names_of (built rje_app)

-- the walk that a command stopped
abbrev entered_walk : Text → List Text → Walk
entered_walk name words = record { held = nothing_held; waiting = idle; position = 1; is_trailing = false; stopped = Some (name, words) }

entered_on : (c : List Rule) (ns : Names) (name : Text) (before words : List Text)
    → fold (walked c ns) (entered_walk name before) words ≡ entered_walk name (before ++ words)
unfolding walked
entered_on c ns name before [] = ap (entered_walk name) (sym (append-nil before))
entered_on c ns name before (w ∷ ws) = entered_on c ns name (before ++ w ∷ []) ws ∙ ap (entered_walk name) (append_assoc before (w ∷ []) ws)

entered_quiet : (s : Shape) (ns : Names) (name : Text) (before words : List Text) → walk_fault s ns (entered_walk name before) words ≡ []
unfolding walk_fault walked
entered_quiet s ns name before [] = refl
entered_quiet s ns name before (w ∷ ws) = entered_quiet s ns name (before ++ w ∷ []) ws

-- the program's walk over the command's name and the words after it
top_walk : (words : List Text) → walk top.rules names nothing_held (codes "cards" ∷ words) ≡ entered_walk (codes "cards") words
unfolding clap_on_literals
top_walk words = entered_on top.rules names (codes "cards") [] words

top_quiet : (words : List Text) → walk_fault top names (walk_from nothing_held) (codes "cards" ∷ words) ≡ []
unfolding clap_on_literals
top_quiet words = entered_quiet top names (codes "cards") [] words

cards_met : (words : List Text) → subcommand_of rje_app (codes "cards" ∷ words) ≡ Some (codes "cards", rows_after rules [] words)
cards_met words = ap (λ (w : Walk). entered (built rje_app) w.stopped) (top_walk words)

-- what comes after the walk
abbrev after_walk : Walk → Kinds
after_walk w = or_else (entered_fault (built rje_app) w.stopped) (or_else (settle_fault top.rules top.args_override_self w.held)
    (or_else (defaults_fault (settled top.rules w.held).rows top.rules) (check_fault top (finished top.rules w.held) (is_some (entered (built rje_app) w.stopped)))))

after_entered : (words : List Text) → after_walk (entered_walk (codes "cards") words) ≡ or_else (level_fault cards [] nothing_held words false []) []
unfolding clap_on_literals
after_entered words = refl

cards_fault : (words : List Text) → fault_of rje_app (codes "cards" ∷ words) ≡ level_fault cards [] nothing_held words false []
cards_fault words =
    ap₂ or_else (top_quiet words) (ap after_walk (top_walk words) ∙ after_entered words)
    ∙ or_else-right (level_fault cards [] nothing_held words false [])

-- WHAT IS SEEN OF THE ROWS

-- the two files, the device, the name and whether the job is added
abbrev pub Seen : Type 0
Seen = Text × Text × Option Device × Option Text × Bool

abbrev pub cards_in : List Row → Seen
cards_in rows = (word_in (codes "DECK") rows, word_in (codes "JOBS") rows, device_in rows, first_of (codes "name") rows, is_on (codes "append") rows)

-- the kinds that are found of these options after the files, and what is seen
abbrev pub Summary : Type 0
Summary = Kinds × Kinds × Seen

abbrev pub summary : (deck jobs : Text) → List Part → Summary
summary deck jobs parts =
    let h = held_after parts (files_held deck jobs) in
    (told_of parts (files_held deck jobs), told_behind h, cards_in (finished rules h))

module _ (deck jobs : Text) (h : IsPlain deck) (k : IsPlain jobs) (parts : List Part) (p : ArePlain parts) (value : Seen) (is : summary deck jobs parts ≡ ([], [], value)) where
  abbrev words : List Text
  words = flat_map part_words parts

  all_walked : walk rules [] nothing_held (deck ∷ jobs ∷ words) ≡ at (held_after parts (files_held deck jobs)) 3
  all_walked = files_walked deck jobs h k words ∙ parts_walked parts (files_held deck jobs) p

  pub cards_taken : AreTaken cards_in (codes "cards" ∷ deck ∷ jobs ∷ words) (codes "cards") value
  cards_taken = record {
    faultless = cards_fault (deck ∷ jobs ∷ words)
        ∙ ap₂ or_else (files_told deck jobs h k words ∙ parts_told parts (files_held deck jobs) p ∙ ap (λ (s : Summary). s.0) is)
        (ap (λ (w : Walk). told_behind w.held) all_walked ∙ ap (λ (s : Summary). s.1) is);
    found = ap (λ o. seen cards_in o) (cards_met (deck ∷ jobs ∷ words))
        ∙ ap (λ (w : Walk). Some (codes "cards", cards_in (finished rules w.held))) all_walked ∙ ap (λ (s : Summary). Some (codes "cards", s.2)) is;
  }

-- THE OPTIONS IN EACH ORDER

abbrev pub device_parts : Device → List Part
device_parts Default = []
device_parts Printer = flag printer ∷ []
device_parts Punch = flag punch ∷ []
device_parts Transparent = flag transparent ∷ []

abbrev pub name_parts : Option Text → List Part
name_parts None = []
name_parts (Some text) = named text ∷ []

abbrev pub append_parts : Bool → List Part
append_parts false = []
append_parts true = flag append ∷ []

abbrev pub cards_parts : Device → Option Text → Bool → List (List Part)
cards_parts device given adds = in_each_order (device_parts device) (name_parts given) (append_parts adds)

-- each of them is these words, has no kind found of it, and gives these values
abbrev AreSeen : (deck jobs : Text) → Device → Option Text → Bool → Type 0
AreSeen deck jobs device given adds =
    (map (flat_map part_words) (cards_parts device given adds) ≡ cards_options device given adds)
    × (map (summary deck jobs) (cards_parts device given adds) ≡ map (λ _. ([], [], (deck, jobs, Some device, given, adds))) (cards_parts device given adds))

pub are_seen : (deck jobs : Text) (device : Device) (given : Option Text) (adds : Bool) → AreSeen deck jobs device given adds
unfolding clap_on_literals
are_seen deck jobs Default None false = (refl, refl)
are_seen deck jobs Default None true = (refl, refl)
are_seen deck jobs Default (Some text) false = (refl, refl)
are_seen deck jobs Default (Some text) true = (refl, refl)
are_seen deck jobs Printer None false = (refl, refl)
are_seen deck jobs Printer None true = (refl, refl)
are_seen deck jobs Printer (Some text) false = (refl, refl)
are_seen deck jobs Printer (Some text) true = (refl, refl)
are_seen deck jobs Punch None false = (refl, refl)
are_seen deck jobs Punch None true = (refl, refl)
are_seen deck jobs Punch (Some text) false = (refl, refl)
are_seen deck jobs Punch (Some text) true = (refl, refl)
are_seen deck jobs Transparent None false = (refl, refl)
are_seen deck jobs Transparent None true = (refl, refl)
are_seen deck jobs Transparent (Some text) false = (refl, refl)
are_seen deck jobs Transparent (Some text) true = (refl, refl)
