-- Which files lie ready, and what they are, by their names (own profile).
use Rattle.std.specs.Prelude.{◌≡◌, ◌||◌, ℕ, List, Option, Some, None, Bool, false, Contains, String, codes, string_bytes, string_cmp, nat_eq, if◌then◌else◌}
use Rattle.std.specs.List.{Any, starts_with, ends_with}
use Rattle.std.specs.List.Sorted.{IsStrictlySortedBy}
use Rattle.std.specs.declared.alloc.Global.{Global}
use Rattle.rje_text.specs.declared.mode.Mode.{Mode}
use Rattle.rje_text.specs.declared.select.Select.{Select}
use Rattle.rje_folder.specs.declared.ready_file.ReadyFile.{ReadyFile}
use Rattle.rje_folder.specs.declared.ready_file.ReadyFile.TheVariants.{JobFile, Deck}

-- a file is left alone whose name begins with a dot, or ends in .part, in .hold, or as a command's new file does beside the one that it replaces
abbrev pub is_left_alone : List ℕ → Bool
is_left_alone name = starts_with nat_eq name (codes ".") || (ends_with nat_eq name (codes ".part") || (ends_with nat_eq name (codes ".hold")
    || (ends_with nat_eq name (codes ".rje-0") || ends_with nat_eq name (codes ".rje-1"))))

-- What a file is, by the ending of its name: a job file, or a deck for the printer, for the punch, for the punch as it is, or for the receiving
-- station's own choice.
abbrev pub file_of_name : List ℕ → Option ReadyFile
file_of_name name =
    if ends_with nat_eq name (codes ".job") then Some JobFile
    else (if ends_with nat_eq name (codes ".printer.deck") then Some (Deck Select.Printer Mode.Normal)
    else (if ends_with nat_eq name (codes ".punch.deck") then Some (Deck Select.Punch Mode.Normal)
    else (if ends_with nat_eq name (codes ".transparent.deck") then Some (Deck Select.Punch Mode.Transparent)
    else (if ends_with nat_eq name (codes ".deck") then Some (Deck Select.Unset Mode.Normal) else None))))

-- Names none of which is left alone, each before those after it in the order of their bytes: so none is there twice.
abbrev pub AreInOrder : List (String Global) → Type 0
AreInOrder names = ((name : String Global) → Contains names name → is_left_alone (string_bytes name) ≡ false) × IsStrictlySortedBy string_cmp names

-- Those of some names that aren't left alone, in order: each is one of them, and each of them that isn't left alone is there.
abbrev pub AreReady : (names ready : List (String Global)) → Type 0
AreReady names ready = AreInOrder ready × ((name : String Global) → Contains ready name → Contains names name)
    × ((name : String Global) → Contains names name → is_left_alone (string_bytes name) ≡ false → Any (λ other. string_bytes other ≡ string_bytes name) ready)
