-- A worked example, oldest first from below: the first bid comes late, when its sender has given it up, and the answer to it is lost. Own
-- profile.
use Rattle.std.specs.Prelude.{◌≡◌, Bool, true, false, List, [], ◌∷◌, Option, Some, None}
use Rattle.bsc_codes.specs.declared.block.Block.{Block}
use Rattle.bsc_codes.specs.declared.block.Closing.TheVariants.{Etx}
use Rattle.bsc_frame.specs.declared.frame.Frame.{Frame}
use Rattle.bsc_frame.specs.declared.frame.Frame.TheVariants as frame
use Rattle.bsc_frame.specs.declared.heard.Heard.TheVariants as heard
use Rattle.bsc_link.specs.declared.outcome.Outcome.{Outcome}
use Rattle.bsc_link.specs.declared.reply.Reply.{Reply}
use Rattle.bsc_link.specs.declared.wish.Wish.{Wish}
use Rattle.rje_answers.specs.declared.rest.Rest.{Rest}
use Rattle.rje_text.specs.declared.unpacked.Unpacked.{Unpacked}
use Rattle.rje_text.specs.Reading.{IsRead}
use Rattle.rje_jobs.specs.declared.job.Job.{Job}
use Rattle.rje_jobs.specs.Blocks.{blocks}
use Rattle.rje_jobs.specs.Joined.{with_records}
use Rattle.rje_station.specs.Receiving.{Receiving}
use Rattle.rje_station.specs.Sending.{Sending, outcome_of}
use Rattle.connection_world.specs.Connection.{AtReceiver, AtSender, Says, Comes, InVain, Arrives, NothingArrives, OneHearing, IsOverConnection}

-- At the sending end: a bid, and two hearings in vain; it bids again, and the answer counts only after four quiet hearings, since one too many
-- might come; then the block is said, and answered at once, and EOT.
abbrev pub at_sender : Block → List AtSender
at_sender b =
    Says frame.Eot
    ∷ Comes (record { thing = 2; reply = Reply.Ack1 })
    ∷ Says (frame.Block b)
    ∷ InVain Rest.Quiet
    ∷ InVain Rest.Quiet
    ∷ InVain Rest.Quiet
    ∷ InVain Rest.Quiet
    ∷ Comes (record { thing = 1; reply = Reply.Ack0 })
    ∷ Says frame.Enq
    ∷ InVain Rest.Quiet
    ∷ InVain Rest.Quiet
    ∷ Says frame.Enq
    ∷ []

abbrev pub heard_so : Frame → Option Reply → OneHearing
heard_so f reply = record { what = heard.Frame f; refused = false; wish = Wish.Go; reply = reply }

-- at the receiving end: a quiet hearing, both bids, the block and EOT
abbrev pub at_receiver : Block → List AtReceiver
at_receiver b =
    Arrives 3 (heard_so frame.Eot None)
    ∷ Arrives 2 (heard_so (frame.Block b) (Some Reply.Ack1))
    ∷ Arrives 1 (heard_so frame.Enq (Some Reply.Ack0))
    ∷ Arrives 0 (heard_so frame.Enq (Some Reply.Ack0))
    ∷ NothingArrives (record { what = heard.Quiet; refused = false; wish = Wish.Go; reply = None })
    ∷ []

-- so a job of one block comes over a connection: it is counted, the transmission is done, and what was read of the block is handed out
abbrev pub LateBidComesThrough : Type 0
LateBidComesThrough =
    (job : Job) (b : Block) (u : Unpacked) (gives_way : Bool) → blocks (job ∷ []) ≡ b ∷ [] → b.closing ≡ Etx → IsRead b None u
    → (s : Sending) × (r : Receiving) × IsOverConnection (job ∷ []) gives_way (at_sender b) s (at_receiver b) r
    × (s.counted ≡ 1) × (outcome_of s ≡ Some Outcome.Done) × (r.jobs ≡ with_records None u true ∷ [])
