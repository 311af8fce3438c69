-- What is in a receiver's file of what it answered, whatever ends the transmission (own profile).
use Rattle.std.specs.Prelude.{◌≡◌, ◌⊎◌, ◌++◌, ℕ, Bool, List, [], ◌∷◌, take, Option}
use Rattle.bsc_frame.specs.declared.heard.Heard.{Heard}
use Rattle.bsc_link.specs.declared.wish.Wish.{Wish}
use Rattle.bsc_history.specs.History.{History}
use Rattle.rje_jobs.specs.declared.job.Job.{Job}
use Rattle.rje_station.specs.JoinedJobs.{begun_in}
use Rattle.rje_station.specs.Line.{one_more}
use Rattle.rje_station.specs.Receiving.{Receiving, MayRefuse, after_receiving, first_receiving, with_reply}
use Rattle.line_world.specs.AnyLines.{ReceiverTook}
use Rattle.rje_requests.specs.declared.order.Destination.{Destination}
use Rattle.rje_sockets.specs.Ending.{MakesJobFile}
use Rattle.rje_store.specs.Store.{FileMap, Discloses, IsSame}
use Rattle.std.specs.List.{prefix_len}

-- how many jobs, from the first on, have come to their ends
abbrev pub whole_in_front : List Job → ℕ
whole_in_front jobs = prefix_len (λ job. job.whole) jobs

-- how many transmissions there are after some turns of a receiving station, the newest first: one more for each of its replies
abbrev pub answers : History → ℕ → ℕ
answers [] n = n
answers (t ∷ past) n = with_reply t.reply (answers past n)

-- a receiving station took some turns, and the line transmitted just its replies
pub record Answered (r r' : Receiving) (before after : ℕ) : Type 0 where
  pub history : History
  pub took : ReceiverTook r history r'
  pub sent : after ≡ answers history before

-- of these jobs the file of the destination has all in front that have come whole, after the entries that stay, and may have more, and no other
-- file changed; where there are none, all files may be as they were
abbrev pub HasWhole : List Job → (into : Destination) → (files made : Option FileMap) → Type 0
HasWhole jobs into files made =
    (kept : List Job) × (rest : List Job) × (kept ≡ take (whole_in_front jobs) jobs ++ rest)
    × (MakesJobFile kept into files made ⊎ ((kept ≡ []) × Discloses files made IsSame))

-- Whatever ended the transmission: a new station took some turns, in which the line transmitted just its replies, and the file has what had
-- come whole by then; or it heard one thing more, what had come whole by then is in the file, and the line failed as it replied.
abbrev pub KeepsAnswered : (into : Destination) → (files made : Option FileMap) → (before after : ℕ) → Type 0
KeepsAnswered into files made before after =
    (far : Receiving) × (sent : ℕ) × Answered first_receiving far before sent
    × (((after ≡ sent) × HasWhole far.jobs into files made)
    ⊎ ((after ≡ one_more sent) × ((what : Heard) × (refused : Bool) × MayRefuse what (begun_in far.jobs) refused
    × HasWhole (after_receiving far what refused Wish.Go).jobs into files made)))
