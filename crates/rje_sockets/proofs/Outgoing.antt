-- What a transmission of what is left of a file did, which a new station and a marker that has marked nothing began.
use Rattle.std.proofs.Common.{◌≡◌, ℕ, List, Option, Result, IfOk, OnOk, length, ap, subst}
use Rattle.std.specs.Io.KnownBytes.{Appends}
use Rattle.rje_jobs.specs.declared.job.Job.{Job}
use Rattle.rje_station.specs.Sending.{Sending, first_sending, outcome_of}
use Rattle.rje_commands.specs.declared.command_fault.CommandFault.{CommandFault}
use Rattle.rje_session.specs.Stations.{LineTells}
use Rattle.rje_sockets.specs.declared.sent_marker.SentMarker.{SentMarker}
use Rattle.rje_sockets.specs.declared.socket_commands.ending.Ending.{Ending}
use Rattle.rje_sockets.specs.Ending.{MarksSent, SendsLeft, ending_of, sent_text}
use Rattle.rje_sockets.specs.Inside.Sending.{IsOutgoing}
use Rattle.rje_sockets.specs.Inside.Marking.{Marks}
use Rattle.rje_sockets.specs.OverLine.{SendsOut, SendsOver}
use Rattle.rje_sockets.specs.Watching.{SawEnd, SawSender}
use Rattle.rje_sockets.proofs.Watched.{out_unseen}
use Rattle.std.proofs.lemmas.Result.{on_ok_weaker}
use Rattle.rje_sockets.proofs.Marked.{begun}
use Rattle.rje_sockets.proofs.Sending.{sends_left}
use Rattle.rje_store.specs.Store.{FileMap}

pub sends_outgoing : {W : Type 0} (Saw : SawSender W) (End : SawEnd W) (r : Result Ending CommandFault) (t u : LineTells) (w w' : W) (name : List ℕ) (jobs : List Job) (marker : SentMarker) (s s' : Sending)
    (f g h : Option FileMap) (before after : Option (List ℕ)) → IsOutgoing name f jobs marker → MarksSent marker.file.items 0 marker.name.now f g → s ≡ first_sending jobs
    → OnOk r (SendsOut Saw End (s, t, w) (s', u, w')) → IfOk r (λ ending. ending ≡ ending_of (outcome_of s'))
    → OnOk r (Appends before after (sent_text s'.counted (length s.jobs) (outcome_of s')))
    → OnOk r ((files : Option FileMap) → Marks marker s.counted files g → MarksSent marker.file.items s'.counted marker.name.now files h)
    → IfOk r (λ ending. SendsLeft ending name (t, f, before) (u, h, after))
sends_outgoing Saw End r t u w w' name jobs marker s s' f g h before after out copy first took ended printed marked =
    sends_left r t u name marker.file.items jobs s' f h before after out.read out.left
    (subst (λ (x : Sending). OnOk r (SendsOver x t s' u)) first (on_ok_weaker r (out_unseen Saw End s s' t u w w') took)) ended
    (subst (λ (n : ℕ). OnOk r (Appends before after (sent_text s'.counted n (outcome_of s')))) (ap (λ (x : Sending). length x.jobs) first) printed)
    (begun r marker name s.counted s'.counted f g h out.named out.none (ap (λ (x : Sending). x.counted) first) out.marks copy marked)
