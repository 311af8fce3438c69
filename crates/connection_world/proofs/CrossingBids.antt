-- The worked example of both ways, step by step.
use Rattle.std.proofs.Common.{◌≡◌, refl, sym, ap, ◌∙◌, ◌<◌, ◌≤◌, false, Some, None, List, [], ◌∷◌, inl, inr, arith}
use Rattle.bsc_codes.specs.declared.block.Block.{Block}
use Rattle.bsc_frame.specs.declared.frame.Frame.TheVariants as frame
use Rattle.bsc_frame.specs.declared.heard.Heard.{Heard}
use Rattle.bsc_frame.specs.declared.heard.Heard.TheVariants as heard
use Rattle.bsc_link.specs.declared.rank.Rank.{Rank}
use Rattle.bsc_link.specs.declared.sound.Sound.{Sound}
use Rattle.bsc_link.specs.declared.wish.Wish.{Wish}
use Rattle.rje_text.specs.declared.unpacked.Unpacked.{Unpacked}
use Rattle.rje_text.specs.Reading.{IsRead}
use Rattle.rje_jobs.specs.declared.job.Job.{Job}
use Rattle.rje_jobs.specs.Blocks.{blocks}
use Rattle.rje_jobs.specs.Joined.{ends_job, with_records}
use Rattle.rje_station.specs.JoinedJobs.{with_read}
use Rattle.rje_station.specs.Sending.{counted_by, first_sending}
use Rattle.rje_station.specs.Station.{Contending, after_answer, after_other, after_other_ended, after_own_reply, after_own_speaking, first_contending}
use Rattle.connection_world.specs.BothWays.{AreConnected, EndWent}
use Rattle.connection_world.specs.CrossingBids.{CrossingBidsComeThrough, at_primary, at_secondary}
use Rattle.connection_world.proofs.LateBid.{comes_whole}

-- ---- The primary, whose station has these blocks.

abbrev pub with_blocks : Job → List Block → Contending
with_blocks job rest = record (first_contending Rank.Primary (job ∷ [])) { sender = record (first_sending (job ∷ [])) { rest = rest } }

abbrev pub answered : Contending → Sound → Contending
answered s sound = after_answer (after_own_speaking s) sound false

abbrev pub done : Job → List Block → Contending
done job rest = after_own_speaking (answered (answered (with_blocks job rest) Sound.Ack0) Sound.Ack1)

abbrev pub primary_went : (job : Job) (b : Block) → blocks (job ∷ []) ≡ b ∷ [] → EndWent Rank.Primary (job ∷ []) (at_primary b) (done job (b ∷ []))
primary_went job b is_block =
    let s0 = with_blocks job (b ∷ []) in
    let s1 = answered s0 Sound.Ack0 in
    let s2 = answered s1 Sound.Ack1 in (
      s2,
      (
        after_own_speaking s1,
        (
          s1,
          (
            after_own_speaking s0,
            (after_own_speaking s0, (s0, ap (with_blocks job) (sym is_block), record { due = refl; state = refl }), refl),
            (false, refl),
          ),
          record { due = refl; state = refl },
        ),
        (false, refl),
      ),
      record { due = refl; state = refl },
    )

-- ---- The secondary.

abbrev pub listened : Contending → Heard → Contending
listened s what = after_own_reply (after_other s what false Wish.Go)

abbrev pub begun : Job → Contending
begun job = answered (listened (first_contending Rank.Secondary (job ∷ [])) heard.Quiet) Sound.Quiet

abbrev pub heard_out : Job → Block → Contending
heard_out job b = after_other_ended (after_other (listened (listened (begun job) (heard.Frame frame.Enq)) (heard.Frame (frame.Block b))) (heard.Frame frame.Eot) false Wish.Go)

abbrev pub secondary_went : (job : Job) (b : Block) (u : Unpacked) → IsRead b None u → EndWent Rank.Secondary (job ∷ []) (at_secondary b) (heard_out job b)
secondary_went job b u is_read =
    let s0 = first_contending Rank.Secondary (job ∷ []) in
    let s1 = listened s0 heard.Quiet in
    let s2 = begun job in
    let s3 = listened s2 (heard.Frame frame.Enq) in
    let s4 = listened s3 (heard.Frame (frame.Block b)) in (
      s4,
      (
        s3,
        (
          s2,
          (
            after_own_speaking s1,
            (s1, (s0, refl, (refl, record { live = refl; may = refl; reply = refl; state = refl })), record { due = refl; state = refl }),
            (false, refl),
          ),
          (refl, record { live = refl; may = refl; reply = refl; state = refl }),
        ),
        (refl, record { live = refl; may = (u, is_read); reply = refl; state = refl }),
      ),
      (refl, record { live = refl; may = refl; reply = refl; state = refl }),
    )

-- ---- Between them.

pub up : (b : Block) → AreConnected Rank.Primary (at_primary b) (at_secondary b)
up b = record {
  up = (
    (omega arith, (frame.Eot, inl (refl, refl), comes_whole frame.Eot)),
    (
      (omega arith, (frame.Block b, inr (inl (refl, refl)), comes_whole (frame.Block b))),
      ((omega arith, (frame.Enq, inr (inr (inl (refl, refl))), comes_whole frame.Enq)), (refl, tt)),
    ),
  );
  down = (inr (inl (refl, refl)), (inr (inr (inl (refl, refl))), tt));
  in_time = (refl, (second, (refl, (first, (tt, (refl, tt))))));
}
  where
    first : (0 ≤ 0) × (0 < 1) × (0 < 2)
    first = (omega arith, omega arith, omega arith)

    second : (1 ≤ 1) × (1 < 2) × (0 < 2)
    second = (omega arith, omega arith, omega arith)

pub down : (b : Block) → AreConnected Rank.Secondary (at_secondary b) (at_primary b)
down b = record { up = tt; down = tt; in_time = (refl, (refl, (tt, (refl, tt)))) }

pub crossing_bids_come_through : CrossingBidsComeThrough
crossing_bids_come_through job other b u is_block closing is_read = (
  done job (b ∷ []),
  heard_out other b,
  record { primary = primary_went job b is_block; secondary = secondary_went other b u is_read; up = up b; down = down b },
  ap (λ c. counted_by c 0) closing,
  ap (λ o. elim o [ None ↦ [] | Some x ↦ with_read [] x (ends_job b.closing) ]) is_read.0 ∙ ap (λ c. with_records None u (ends_job c) ∷ []) closing,
  refl,
)
