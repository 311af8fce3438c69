-- The punched cards of a job (own profile).
use Rattle.std.specs.Prelude.{ℕ, ◌-◌, List, [], ◌∷◌, ◌++◌, length, replicate}
use Rattle.std.specs.List.{flat_map}
use Rattle.bsc_codes.specs.Bytes.{BLANK}
use Rattle.rje_text.specs.declared.record.Record.{Record}
use Rattle.rje_jobs.specs.declared.job.Job.{Job}
use Rattle.rje_jobs.specs.declared.punch.Form.{Form}
use Rattle.rje_jobs.specs.declared.punch.Form.TheVariants.{Ascii, Raw}
use Rattle.rje_jobs.specs.Ascii.{ascii}

-- a record's card: in ASCII, a line; raw, its data as they are, filled with blanks to 80 where they are fewer
abbrev pub card : Form → Record → List ℕ
card Ascii r = ascii r.bytes.items ++ 0x0A ∷ []
card Raw r = r.bytes.items ++ replicate (80 - length r.bytes.items) BLANK

-- the cards of a job: one for each record, whether it is whole or cut
abbrev pub punched : Form → Job → List ℕ
punched form job = flat_map (card form) job.records
