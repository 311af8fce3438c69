-- Frames without a block's text (own profile; which frames there are: GA27-3004).
use Rattle.std.specs.Prelude.{ℕ, Bool, true, false, List}
use Rattle.bsc_frame.specs.declared.frame.Frame.{Frame}
use Rattle.bsc_frame.specs.declared.frame.Frame.TheVariants as frame
use Rattle.bsc_frame.specs.declared.frame_kind.FrameKind.{FrameKind}
use Rattle.bsc_frame.specs.declared.frame_kind.FrameKind.TheVariants as kind

-- the frame of a kind; a block has these data bytes
abbrev pub frame_of : FrameKind → List ℕ → Frame
frame_of kind.Enq text = frame.Enq
frame_of kind.Ack0 text = frame.Ack0
frame_of kind.Ack1 text = frame.Ack1
frame_of kind.Nak text = frame.Nak
frame_of kind.Wack text = frame.Wack
frame_of kind.Rvi text = frame.Rvi
frame_of kind.Ttd text = frame.Ttd
frame_of kind.Abort text = frame.Abort
frame_of kind.Eot text = frame.Eot
frame_of (kind.Block transparent closing) text = frame.Block (record { text = record { items = text }; closing = closing; transparent = transparent })

-- the kind is a block's
abbrev pub is_block : FrameKind → Bool
is_block (kind.Block transparent closing) = true
is_block kind.Enq = false
is_block kind.Ack0 = false
is_block kind.Ack1 = false
is_block kind.Nak = false
is_block kind.Wack = false
is_block kind.Rvi = false
is_block kind.Ttd = false
is_block kind.Abort = false
is_block kind.Eot = false
