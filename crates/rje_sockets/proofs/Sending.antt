-- What a transmission of a job file did, from what was read before it.
use Rattle.std.proofs.Common.{◌≡◌, ℕ, List, Option, Result, Ok, Err, IfOk, OnOk, length, ap, ◌∙◌, subst}
use Rattle.std.specs.Io.KnownBytes.{Appends}
use Rattle.std.proofs.lemmas.List.{length-map}
use Rattle.rje_jobs.specs.declared.job.Job.{Job}
use Rattle.rje_files.specs.Unsent.{IsLeft, unsent}
use Rattle.rje_station.specs.Sending.{Sending, first_sending, outcome_of}
use Rattle.rje_store.proofs.Changes.{set_after}
use Rattle.rje_commands.specs.declared.command_fault.CommandFault.{CommandFault}
use Rattle.rje_session.specs.Stations.{LineTells}
use Rattle.rje_sockets.specs.declared.socket_commands.ending.Ending.{Ending}
use Rattle.rje_commands.specs.Commands.{OfFile}
use Rattle.rje_sockets.specs.Ending.{MarksSent, SendsLeft, ending_of, sent_text}
use Rattle.rje_sockets.specs.OverLine.{SendsOver}
use Rattle.rje_store.specs.Store.{FileMap, IsSame, Discloses}

-- what is marked after a read that left the files as they were
pub marked_after : (file name : List ℕ) (counted : ℕ) (f g h : Option FileMap) → Discloses f g IsSame → MarksSent file counted name g h → MarksSent file counted name f h
marked_after file name counted f g h same m = (m.0, m.1, m.2, set_after name m.0 f g h same m.3)

pub sends_left : (r : Result Ending CommandFault) (t u : LineTells) (name file : List ℕ) (jobs : List Job) (station : Sending) (f g : Option FileMap) (before after : Option (List ℕ))
    → OfFile name f (λ read. file ≡ read) → IsLeft file jobs → OnOk r (SendsOver (first_sending jobs) t station u) → IfOk r (λ ending. ending ≡ ending_of (outcome_of station))
    → OnOk r (Appends before after (sent_text station.counted (length jobs) (outcome_of station))) → OnOk r (MarksSent file station.counted name f g)
    → IfOk r (λ ending. SendsLeft ending name (t, f, before) (u, g, after))
sends_left (Err fault) t u name file jobs station f g before after read left took ended printed marked = tt
sends_left (Ok ending) t u name file jobs station f g before after read left took ended printed marked =
    let given : length jobs ≡ length (unsent left.0) = ap length left.3 ∙ length-map (unsent left.0) (λ e. e.job) in
    record {
      file = file;
      entries = left.0;
      station = station;
      read = read;
      file_is = left.1;
      sends = subst (λ js. SendsOver (first_sending js) t station u) left.3 took;
      marks = marked;
      ending_is = ended;
      text_is = subst (λ n. Appends before after (sent_text station.counted n (outcome_of station))) given printed;
    }
