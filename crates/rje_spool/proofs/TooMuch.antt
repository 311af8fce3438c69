-- A file whose jobs can't all be held.
use Rattle.std.proofs.Common.{ℕ, List, Some}
use Rattle.rje_folder.specs.declared.ready_file.ReadyFile.{ReadyFile}
use Rattle.rje_spool.specs.declared.refused_file.RefusedFile.{RefusedFile}
use Rattle.rje_spool.specs.Outgoing.{HasTooMuch, IsRefusal}

pub too_much : (kind : ReadyFile) (bytes : List ℕ) → HasTooMuch (Some kind) bytes → IsRefusal (Some kind) bytes RefusedFile.TooMuch
too_much (ReadyFile.Deck select mode) bytes has = has
too_much ReadyFile.JobFile bytes has = has
