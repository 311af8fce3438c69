-- The worked example, step by step.
use Rattle.std.proofs.Common.{◌≡◌, refl, sym, ap, ◌∙◌, subst, ◌<◌, ◌≤◌, Bool, true, false, Some, None, List, [], ◌∷◌, inl, inr, arith}
use Rattle.bsc_codes.specs.declared.block.Block.{Block}
use Rattle.bsc_codes.specs.declared.block.Closing.TheVariants.{Etx}
use Rattle.bsc_frame.specs.declared.frame.Frame.{Frame}
use Rattle.bsc_frame.specs.declared.frame.Frame.TheVariants as frame
use Rattle.bsc_frame.specs.declared.heard.Heard.{Heard}
use Rattle.bsc_frame.specs.declared.heard.Heard.TheVariants as heard
use Rattle.bsc_link.specs.declared.sound.Sound.{Sound}
use Rattle.bsc_link.specs.declared.wish.Wish.{Wish}
use Rattle.rje_text.specs.declared.unpacked.Unpacked.{Unpacked}
use Rattle.rje_text.specs.Reading.{IsRead}
use Rattle.rje_jobs.specs.declared.job.Job.{Job}
use Rattle.rje_jobs.specs.Joined.{ends_job, with_records}
use Rattle.rje_station.specs.Hearing.{sound_of_frame}
use Rattle.rje_station.specs.JoinedJobs.{with_read}
use Rattle.rje_station.specs.Receiving.{Receiving, after_receiving, after_replying, first_receiving}
use Rattle.rje_station.specs.Sending.{Sending, after_hearing, after_speaking, counted_by, first_sending}
use Rattle.rje_answers.specs.Law.{AllHappen}
use Rattle.connection_world.specs.Connection.{ComeDown, ComeUp, MayComeAs, ReceiverWent, SenderWent, told}
use Rattle.connection_world.specs.LateBid.{LateBidComesThrough, at_receiver, at_sender}
use Rattle.connection_world.proofs.Stations.{all_arrives}

-- ---- The sending end, whose station has these blocks.

abbrev with_blocks : Job → List Block → Sending
with_blocks job rest = record (first_sending (job ∷ [])) { rest = rest }

abbrev bids : Sending → Sending
bids s = after_hearing (after_speaking s) Sound.Quiet false

abbrev granted : Sending → Sending
granted s = after_hearing (after_speaking s) Sound.Ack0 false

abbrev acknowledged : Sending → Sending
acknowledged s = after_hearing (after_speaking s) Sound.Ack1 false

abbrev done : Job → List Block → Sending
done job rest = after_speaking (acknowledged (granted (bids (with_blocks job rest))))

sender_went : (job : Job) (b : Block) (gives_way : Bool) → SenderWent gives_way (with_blocks job (b ∷ [])) (at_sender b) (done job (b ∷ []))
sender_went job b gives_way =
    let s0 = with_blocks job (b ∷ []) in
    let s1 = bids s0 in
    let s2 = granted s1 in
    let s3 = acknowledged s2 in (
      s3,
      (
        after_speaking s2,
        (
          s2,
          (
            after_speaking s1,
            (
              after_speaking s1,
              (
                after_speaking s1,
                (
                  after_speaking s1,
                  (
                    after_speaking s1,
                    (
                      s1,
                      (
                        after_speaking s0,
                        (after_speaking s0, (s0, refl, record { live = refl; due = refl; state = refl }), refl),
                        (false, refl),
                      ),
                      record { live = refl; due = refl; state = refl },
                    ),
                    refl,
                  ),
                  refl,
                ),
                refl,
              ),
              refl,
            ),
            (false, refl),
          ),
          record { live = refl; due = refl; state = refl },
        ),
        (false, refl),
      ),
      record { live = refl; due = refl; state = refl },
    )

-- ---- The receiving end.

abbrev hears : Receiving → Heard → Receiving
hears r what = after_replying (after_receiving r what false Wish.Go)

abbrev received : Block → Receiving
received b =
    hears (hears (hears (hears (hears first_receiving heard.Quiet) (heard.Frame frame.Enq)) (heard.Frame frame.Enq)) (heard.Frame (frame.Block b))) (heard.Frame frame.Eot)

receiver_went : (b : Block) (u : Unpacked) → IsRead b None u → ReceiverWent first_receiving (at_receiver b) (received b)
receiver_went b u is_read =
    let r1 = hears first_receiving heard.Quiet in
    let r2 = hears r1 (heard.Frame frame.Enq) in
    let r3 = hears r2 (heard.Frame frame.Enq) in
    let r4 = hears r3 (heard.Frame (frame.Block b)) in (
      r4,
      (
        r3,
        (
          r2,
          (r1, (first_receiving, refl, record { live = refl; may = refl; reply = refl; state = refl }), record { live = refl; may = refl; reply = refl; state = refl }),
          record { live = refl; may = refl; reply = refl; state = refl },
        ),
        record { live = refl; may = (u, is_read); reply = refl; state = refl },
      ),
      record { live = refl; may = refl; reply = refl; state = refl },
    )

handed : (b : Block) (u : Unpacked) → b.closing ≡ Etx → IsRead b None u → (received b).jobs ≡ with_records None u true ∷ []
handed b u closing is_read =
    ap (λ o. elim o [ None ↦ [] | Some x ↦ with_read [] x (ends_job b.closing) ]) is_read.0 ∙ ap (λ c. with_records None u (ends_job c) ∷ []) closing

-- ---- Between them.

abbrev frame_in : Heard → Frame → Frame
frame_in (heard.Frame f) other = f
frame_in _ other = other

pub comes_whole : (f : Frame) → MayComeAs f (heard.Frame f)
comes_whole f = record { sound = all_arrives (sound_of_frame f); block = λ b is. ap (λ x. frame_in x f) is }

come_up : (b : Block) → ComeUp (at_sender b) (at_receiver b)
come_up b = (
  (omega arith, (frame.Eot, inl (refl, refl), comes_whole frame.Eot)),
  (
    (omega arith, (frame.Block b, inr (inl (refl, refl)), comes_whole (frame.Block b))),
    (
      (omega arith, (frame.Enq, inr (inr (inl (refl, refl))), comes_whole frame.Enq)),
      ((omega arith, (frame.Enq, inr (inr (inr (inl (refl, refl)))), comes_whole frame.Enq)), (refl, tt)),
    ),
  ),
)

come_down : (b : Block) → ComeDown (at_sender b) (at_receiver b)
come_down b = (inr (inl (refl, refl)), (inr (inr (inl (refl, refl))), tt))

in_time : (gives_way : Bool) (b : Block) → AllHappen gives_way (told (at_sender b))
in_time gives_way b = (refl, (two, (refl, (tt, (tt, (tt, (tt, (one, (refl, (tt, (tt, (refl, tt))))))))))))
  where
    one : (0 ≤ 1) × (1 < 2) × (0 < 2)
    one = (omega arith, omega arith, omega arith)

    two : (2 ≤ 2) × (2 < 3) × (0 < 2)
    two = (omega arith, omega arith, omega arith)

pub late_bid_comes_through : LateBidComesThrough
late_bid_comes_through job b u gives_way is_block closing is_read = (
  done job (b ∷ []),
  received b,
  record {
    sends = subst (λ rest. SenderWent gives_way (with_blocks job rest) (at_sender b) (done job (b ∷ []))) (sym is_block) (sender_went job b gives_way);
    receives = receiver_went b u is_read;
    up = come_up b;
    down = come_down b;
    in_time = in_time gives_way b;
  },
  ap (λ c. counted_by c 0) closing,
  refl,
  handed b u closing is_read,
)
