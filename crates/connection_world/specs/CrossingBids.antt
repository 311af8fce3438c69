-- A worked example of both ways, oldest first from below: both ends bid at once, and the secondary gives way. Own profile.
use Rattle.std.specs.Prelude.{◌≡◌, true, false, List, [], ◌∷◌, Some, None}
use Rattle.bsc_codes.specs.declared.block.Block.{Block}
use Rattle.bsc_codes.specs.declared.block.Closing.TheVariants.{Etx}
use Rattle.bsc_frame.specs.declared.frame.Frame.TheVariants as frame
use Rattle.bsc_frame.specs.declared.heard.Heard.TheVariants as heard
use Rattle.bsc_link.specs.declared.reply.Reply.{Reply}
use Rattle.bsc_link.specs.declared.say.Say.{Say}
use Rattle.bsc_link.specs.declared.wish.Wish.{Wish}
use Rattle.rje_text.specs.declared.unpacked.Unpacked.{Unpacked}
use Rattle.rje_text.specs.Reading.{IsRead}
use Rattle.rje_jobs.specs.declared.job.Job.{Job}
use Rattle.rje_jobs.specs.Blocks.{blocks}
use Rattle.rje_jobs.specs.Joined.{with_records}
use Rattle.rje_station.specs.Station.{Contending, due_at}
use Rattle.connection_world.specs.BothWays.{AtEnd, Own, Crosses, Others, Bid, IsExchange}
use Rattle.connection_world.specs.Connection.{Says, Comes, Arrives, NothingArrives}
use Rattle.connection_world.specs.LateBid.{heard_so}

-- the primary bids, passes over the other's bid, is granted its own, says the block, and EOT
abbrev pub at_primary : Block → List AtEnd
at_primary b =
    Own (Says frame.Eot)
    ∷ Own (Comes (record { thing = 1; reply = Reply.Ack1 }))
    ∷ Own (Says (frame.Block b))
    ∷ Own (Comes (record { thing = 0; reply = Reply.Ack0 }))
    ∷ Crosses Bid
    ∷ Own (Says frame.Enq)
    ∷ []

-- the secondary listens, bids, takes the other's bid in place of an answer, and then hears that one's transmission
abbrev pub at_secondary : Block → List AtEnd
at_secondary b =
    Others (Arrives 2 (heard_so frame.Eot None))
    ∷ Others (Arrives 1 (heard_so (frame.Block b) (Some Reply.Ack1)))
    ∷ Others (Arrives 0 (heard_so frame.Enq (Some Reply.Ack0)))
    ∷ Crosses Bid
    ∷ Own (Says frame.Enq)
    ∷ Others (NothingArrives (record { what = heard.Quiet; refused = false; wish = Wish.Go; reply = None }))
    ∷ []

-- so the primary's job of one block comes over a connection, and then the secondary is to bid again
abbrev pub CrossingBidsComeThrough : Type 0
CrossingBidsComeThrough =
    (job other : Job) (b : Block) (u : Unpacked) → blocks (job ∷ []) ≡ b ∷ [] → b.closing ≡ Etx → IsRead b None u
    → (p : Contending) × (s : Contending) × IsExchange (job ∷ []) (other ∷ []) (at_primary b) (at_secondary b) p s
    × (p.sender.counted ≡ 1) × (s.receiver.jobs ≡ with_records None u true ∷ []) × (due_at s ≡ Say.Bid)
