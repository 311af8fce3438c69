-- What is shown of a block that was heard (own profile).
use Rattle.std.specs.Prelude.{◌≡◌, ◌≢◌, ◌⊎◌, ℕ, List, [], ◌++◌, length, Option, Some, None, option_map, codes, decimal}
use Rattle.std.specs.List.{flat_map}
use Rattle.std.specs.Option.{option_to_list}
use Rattle.bsc_codes.specs.declared.block.Block.{Block}
use Rattle.rje_text.specs.declared.action.Action.{Action}
use Rattle.rje_text.specs.declared.mode.Mode.{Mode}
use Rattle.rje_text.specs.declared.record.Record.{Record}
use Rattle.rje_text.specs.declared.select.Select.{Select}
use Rattle.rje_text.specs.declared.text_fault.TextFault.{TextFault}
use Rattle.rje_text.specs.declared.unpacked.Unpacked.{Unpacked}
use Rattle.rje_text.specs.Action.{code_of}
use Rattle.rje_text.specs.Reading.{IsRead}
use Rattle.rje_text.specs.TextFault.{IsTextFault}
use Rattle.rje_monitor.specs.Words.{shown, ascii, closing_name, form_name, select_name, fault_text}

-- the mark of an action: its code's character; Plain has none
abbrev pub mark : Action → List ℕ
mark action = option_to_list (option_map shown (code_of action))

-- a record: a blank, the mark of its action, and its data in ASCII between vertical bars
abbrev pub record_words : Record → List ℕ
record_words r = codes " " ++ mark r.action ++ codes "|" ++ ascii r.bytes.items ++ codes "|"

-- a job's first block shows the device that it selects
abbrev pub select_words : Option Mode → Select → List ℕ
select_words None select = codes " " ++ select_name select
select_words (Some earlier) select = []

-- what a text stands for: the selection of a first block, how many records, and each of them
abbrev pub unpacked_words : Option Mode → Unpacked → List ℕ
unpacked_words so_far u =
    select_words so_far u.select ++ codes " " ++ decimal (length u.records) ++ codes " records" ++ flat_map record_words u.records

-- a text that isn't read, and why
abbrev pub unread_words : TextFault → List ℕ
unread_words fault = codes " unread " ++ fault_text fault

-- what a block's text stands for, in a job whose earlier blocks have this mode, or why it isn't read; out of memory is no fault of a text
abbrev pub AreReadingWords : Option Mode → Block → List ℕ → Type 0
AreReadingWords so_far block words =
    ((u : Unpacked) × IsRead block so_far u × (words ≡ unpacked_words so_far u))
    ⊎ ((fault : TextFault) × IsTextFault block so_far fault × (fault ≢ TextFault.OutOfMemory) × (words ≡ unread_words fault))

-- a block's head: what closes it, the form of its text, and how many data bytes that has
abbrev pub block_head : Block → List ℕ
block_head block =
    codes "block " ++ closing_name block.closing ++ codes " " ++ form_name block.transparent ++ codes " " ++ decimal (length block.text.items)

-- a block: its head, and what its text stands for
abbrev pub AreBlockWords : Option Mode → Block → List ℕ → Type 0
AreBlockWords so_far block words = (reading : List ℕ) × AreReadingWords so_far block reading × (words ≡ block_head block ++ reading)
