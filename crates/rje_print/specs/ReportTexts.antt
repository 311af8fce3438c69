-- What the program prints of a transmission (own profile).
use Rattle.std.specs.Prelude.{ℕ, ◌+◌, Bool, true, false, List, [], ◌∷◌, ◌++◌, length, count_by, Option, Some, None, codes, decimal}
use Rattle.bsc_link.specs.declared.outcome.Outcome.{Outcome}
use Rattle.bsc_link.specs.declared.reply.Reply.{Reply}
use Rattle.bsc_link.specs.declared.say.Say.{Say}
use Rattle.bsc_link.specs.declared.sound.Sound.{Sound}
use Rattle.line_world.specs.declared.spoken.Spoken.{Spoken}
use Rattle.rje_jobs.specs.declared.job.Job.{Job}

-- how what a sender says is printed
abbrev pub say_name : Say → List ℕ
say_name Say.Bid = codes "bid"
say_name Say.Block = codes "block"
say_name Say.Again = codes "again"
say_name Say.Delay = codes "delay"
say_name Say.Ask = codes "ask"
say_name Say.End = codes "end"
say_name Say.Nothing = codes "-"

-- how a sound is printed
abbrev pub sound_name : Sound → List ℕ
sound_name Sound.Enq = codes "enq"
sound_name Sound.Ack0 = codes "ack0"
sound_name Sound.Ack1 = codes "ack1"
sound_name Sound.Nak = codes "nak"
sound_name Sound.Wack = codes "wack"
sound_name Sound.Rvi = codes "rvi"
sound_name Sound.Ttd = codes "ttd"
sound_name Sound.Abort = codes "abort"
sound_name Sound.Eot = codes "eot"
sound_name Sound.Block = codes "block"
sound_name Sound.Bad = codes "bad"
sound_name Sound.Noise = codes "noise"
sound_name Sound.Quiet = codes "quiet"

-- how what arrived is printed: a block that was refused has a mark
abbrev pub arrived_name : Sound → Bool → List ℕ
arrived_name arrived true = codes "block!"
arrived_name arrived false = sound_name arrived

-- how a reply is printed
abbrev pub reply_name : Option Reply → List ℕ
reply_name (Some Reply.Ack0) = codes "ack0"
reply_name (Some Reply.Ack1) = codes "ack1"
reply_name (Some Reply.Nak) = codes "nak"
reply_name (Some Reply.Wack) = codes "wack"
reply_name (Some Reply.Rvi) = codes "rvi"
reply_name None = codes "-"

-- the line of the turn of this number: what was said, what arrived, what was replied, what was heard
unfoldable pub turn_line : ℕ → Spoken → List ℕ
turn_line number t =
    decimal number ++ codes " " ++ say_name t.said ++ codes " " ++ arrived_name t.arrived t.refused ++ codes " " ++ reply_name t.reply ++ codes " "
    ++ sound_name t.heard ++ codes "\n"

-- the lines of turns that are numbered from here on
abbrev pub turn_lines : ℕ → List Spoken → List ℕ
turn_lines number [] = []
turn_lines number (t ∷ turns) = turn_line number t ++ turn_lines (number + 1) turns

-- the line that says how many jobs of how many are counted
abbrev pub counted_line : ℕ → ℕ → List ℕ
counted_line counted given = codes "counted " ++ decimal counted ++ codes " of " ++ decimal given ++ codes " jobs\n"

-- the line that says how many jobs were handed out, and how many of them whole
abbrev pub handed_line : ℕ → ℕ → List ℕ
handed_line handed whole = codes "handed " ++ decimal handed ++ codes " jobs, " ++ decimal whole ++ codes " whole\n"

-- how an outcome is printed; open: the schedule ended first, or a line failed
abbrev pub outcome_name : Option Outcome → List ℕ
outcome_name (Some Outcome.Done) = codes "done"
outcome_name (Some Outcome.Turned) = codes "turned"
outcome_name (Some Outcome.GaveUp) = codes "gave up"
outcome_name (Some Outcome.Ended) = codes "ended"
outcome_name None = codes "open"

-- the line that says how a transmission ended
abbrev pub outcome_line : Option Outcome → List ℕ
outcome_line outcome = codes "outcome " ++ outcome_name outcome ++ codes "\n"

-- how many of these jobs are whole
abbrev pub whole_jobs : List Job → ℕ
whole_jobs jobs = count_by (λ job. job.whole) jobs

-- the text of a run of `given` jobs: a line for each turn, and the three lines of the whole
abbrev pub run_text : ℕ → List Spoken → List Job → ℕ → Option Outcome → List ℕ
run_text given turns handed counted outcome =
    turn_lines 1 turns ++ counted_line counted given ++ handed_line (length handed) (whole_jobs handed) ++ outcome_line outcome
