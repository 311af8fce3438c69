-- Job files from the front, byte by byte: a device of the proofs; no promise rests on this file.
-- The records that stand at the front of some bytes.
use Rattle.std.specs.Prelude.{◌≡◌, ℕ, zero, suc, ◌≤◌, true, List, [], ◌∷◌, length, take, drop, slice_index, unwrap_or}
use Rattle.rje_text.specs.declared.action.Action.{Action}
use Rattle.rje_text.specs.declared.action.Action.TheVariants.{Plain}
use Rattle.rje_text.specs.declared.record.Record.{Record}
use Rattle.rje_text.specs.Action.{action_of}
use Rattle.rje_files.specs.Inside.Reading.Grammar.{is_action_byte}

-- the action of a byte: that of its code, and Plain where it is no code
abbrev pub action_in : ℕ → Action
action_in byte = unwrap_or (action_of byte) Plain

-- the record at the front: an action, a length, and as many bytes of data
abbrev pub record_in : List ℕ → Record
record_in bytes = record { action = action_in (slice_index bytes 0); bytes = record { items = take (slice_index bytes 1) (drop 2 bytes) } }

-- what stands after it
abbrev pub behind_record : List ℕ → List ℕ
behind_record bytes = drop (slice_index bytes 1) (drop 2 bytes)

-- the first `n` records
abbrev pub records_in : ℕ → List ℕ → List Record
records_in zero bytes = []
records_in (suc n) bytes = record_in bytes ∷ records_in n (behind_record bytes)

-- what stands after them
abbrev pub behind_records : ℕ → List ℕ → List ℕ
behind_records zero bytes = bytes
behind_records (suc n) bytes = behind_records n (behind_record bytes)

-- a record is at the front
pub record IsRecordHere (bytes : List ℕ) : Type 0 where
  pub head : 2 ≤ length bytes
  pub action : is_action_byte (slice_index bytes 0) ≡ true
  pub limit : slice_index bytes 1 ≤ 144
  pub room : slice_index bytes 1 ≤ length (drop 2 bytes)

-- `n` records are at the front
abbrev pub AreRecordsHere : ℕ → List ℕ → Type 0
AreRecordsHere zero bytes = Unit {0}
AreRecordsHere (suc n) bytes = IsRecordHere bytes × AreRecordsHere n (behind_record bytes)
