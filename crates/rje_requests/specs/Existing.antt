-- What becomes of the jobs that a file which is received into holds already, as the words of `receive` and `exchange` choose it (own profile).
use Rattle.std.specs.Prelude.{Bool, true, false, Option, Some, None}
use Rattle.rje_requests.specs.declared.order.Existing.{Existing}

-- what the options for a new file and for adding to one choose: the jobs are replaced where neither is given, and nothing is chosen where
-- both are
abbrev pub existing_chosen : (new append : Bool) → Option Existing
existing_chosen false false = Some Existing.Replace
existing_chosen true false = Some Existing.Refuse
existing_chosen false true = Some Existing.Append
existing_chosen true true = None
