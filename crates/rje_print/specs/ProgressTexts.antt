-- The line on a terminal that tells how far a transmission is (own profile, by the control sequences of ECMA-48 and DEC's for wrapping).
use Rattle.std.specs.Prelude.{ℕ, ◌+◌, ◌/◌, ◌%◌, List, [], ◌∷◌, ◌++◌, Option, Some, None, codes, decimal}
use Rattle.std.specs.Net.Text.{socket_text}
use Rattle.std.specs.declared.net.socket_addr.SocketAddr.{SocketAddr}
use Rattle.rje_print.specs.declared.progress.Progress.{Progress}
use Rattle.rje_print.specs.JobTexts.{name_letters, name_text}

-- a number below 100 in two digits
abbrev pub two_digits : ℕ → List ℕ
two_digits n = (48 + n / 10) ∷ (48 + n % 10) ∷ []

-- what is done with jobs: they are sent where their number is known
abbrev pub doing_name : Option ℕ → List ℕ
doing_name (Some jobs) = codes "sending job "
doing_name None = codes "receiving job "

-- how many jobs there are, where that is known
abbrev pub jobs_text : Option ℕ → List ℕ
jobs_text (Some jobs) = codes " of " ++ decimal jobs
jobs_text None = []

-- how much it is, and how fast it goes
abbrev pub amount_text : (records blocks rate : ℕ) → List ℕ
amount_text records blocks rate =
    codes ": " ++ decimal records ++ codes " records, " ++ decimal blocks ++ codes " blocks, " ++ decimal rate ++ codes " bytes/s"

-- how many seconds are left, in minutes and seconds, where that is known
abbrev pub left_text : Option ℕ → List ℕ
left_text None = []
left_text (Some seconds) = codes ", " ++ decimal (seconds / 60) ++ codes ":" ++ two_digits (seconds % 60) ++ codes " left"

-- a text in place of the line before: from the first column on, cut off at the last one, and nothing behind it
abbrev pub shown : List ℕ → List ℕ
shown text = 13 ∷ 27 ∷ codes "[?7l" ++ text ++ 27 ∷ codes "[K" ++ 27 ∷ codes "[?7h"

-- it says at which address calls are awaited
abbrev pub shown_listening : SocketAddr → List ℕ
shown_listening address = shown (codes "listening on " ++ socket_text address)

-- it says who is connected
abbrev pub shown_peer : SocketAddr → List ℕ
shown_peer peer = shown (codes "connected " ++ socket_text peer)

-- it says how far it is
abbrev pub shown_progress : Progress → List ℕ
shown_progress p =
    shown (doing_name p.jobs ++ decimal p.job ++ jobs_text p.jobs ++ name_text (name_letters p.name) ++ amount_text p.records p.blocks p.rate ++ left_text p.left)
