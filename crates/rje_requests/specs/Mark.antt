-- Which mark the jobs of a job file are given, as the words of `mark` choose it (own profile).
use Rattle.std.specs.Prelude.{Bool, true, false, Option, Some, None}
use Rattle.rje_requests.specs.declared.mark.Mark.{Mark}

-- what the options for the mark of a sent job and for that of a waiting one choose: nothing where both are given, or neither
abbrev pub mark_chosen : (sent waiting : Bool) → Option Mark
mark_chosen true false = Some Mark.Sent
mark_chosen false true = Some Mark.Waiting
mark_chosen true true = None
mark_chosen false false = None
