-- What is heard of bytes, one thing after another, and the words for it (what is heard by GA27-3004 and bsc_frame, the words own profile).
use Rattle.std.specs.Prelude.{◌≡◌, ℕ, ◌==◌, ◌&&◌, ◌||◌, Bool, true, false, if◌then◌else◌, List, [], ◌++◌, drop, Option, Some, None, is_some, codes}
use Rattle.std.specs.List.{prefix_len}
use Rattle.bsc_codes.specs.Bytes.{PAD}
use Rattle.bsc_codes.specs.declared.block.Block.{Block}
use Rattle.bsc_codes.specs.declared.block.Closing.{Closing}
use Rattle.bsc_frame.specs.declared.frame.Frame.{Frame}
use Rattle.bsc_frame.specs.declared.heard.Heard.{Heard}
use Rattle.bsc_frame.specs.Bytes.{LEADING_PAD}
use Rattle.bsc_frame.specs.Heard.{IsHeard}
use Rattle.bsc_frame.specs.Transmission.{Transmission}
use Rattle.rje_text.specs.declared.mode.Mode.{Mode}
use Rattle.rje_text.specs.Reading.{mode_of, reading}
use Rattle.rje_monitor.specs.declared.reason.Reason.{Reason}
use Rattle.rje_monitor.specs.Reasons.{IsReason, reason_name}
use Rattle.rje_monitor.specs.Words.{hex}
use Rattle.rje_monitor.specs.BlockWords.{AreBlockWords}

-- what is heard first of these bytes: a frame, whose transmission is the front of them, or else what is heard of them all
abbrev pub IsHeardFirst : Heard → (bytes front rest : List ℕ) → Type 0
IsHeardFirst (Heard.Frame f) bytes front rest = Transmission f front × (bytes ≡ front ++ rest)
IsHeardFirst Heard.Bad bytes front rest = IsHeard bytes Heard.Bad × (front ≡ bytes) × (rest ≡ [])
IsHeardFirst Heard.Noise bytes front rest = IsHeard bytes Heard.Noise × (front ≡ bytes) × (rest ≡ [])
IsHeardFirst Heard.Quiet bytes front rest = IsHeard bytes Heard.Quiet × (front ≡ bytes) × (rest ≡ [])

-- the mode that a block leaves to the next one: its own where ETB says that more blocks of its job follow
abbrev pub mode_left : Closing → Bool → Option Mode
mode_left Closing.Etb transparent = Some (mode_of transparent)
mode_left Closing.Etx transparent = None

-- a mode is that of the job's earlier blocks; a job's first block may have either
abbrev pub agrees : Option Mode → Mode → Bool
agrees None mode = true
agrees (Some Mode.Normal) Mode.Normal = true
agrees (Some Mode.Transparent) Mode.Transparent = true
agrees (Some earlier) mode = false

-- the block is read: its text stands for something, in its job's mode
abbrev pub is_read : Option Mode → Block → Bool
is_read so_far block = is_some (reading block so_far) && agrees so_far (mode_of block.transparent)

-- the mode of the job's earlier blocks after a block; one that isn't read is none of them, as a receiver refuses it
abbrev pub mode_after_block : Option Mode → Block → Option Mode
mode_after_block so_far block = if is_read so_far block then mode_left block.closing block.transparent else so_far

-- the mode of the job's earlier blocks after a frame; an EOT ends the job too
abbrev pub mode_after_frame : Option Mode → Frame → Option Mode
mode_after_frame so_far (Frame.Block block) = mode_after_block so_far block
mode_after_frame so_far Frame.Eot = None
mode_after_frame so_far Frame.Enq = so_far
mode_after_frame so_far Frame.Ack0 = so_far
mode_after_frame so_far Frame.Ack1 = so_far
mode_after_frame so_far Frame.Nak = so_far
mode_after_frame so_far Frame.Wack = so_far
mode_after_frame so_far Frame.Rvi = so_far
mode_after_frame so_far Frame.Ttd = so_far
mode_after_frame so_far Frame.Abort = so_far

-- the mode of the job's earlier blocks after what was heard
abbrev pub mode_after : Option Mode → Heard → Option Mode
mode_after so_far (Heard.Frame f) = mode_after_frame so_far f
mode_after so_far Heard.Bad = so_far
mode_after so_far Heard.Noise = so_far
mode_after so_far Heard.Quiet = so_far

-- the byte is a pad
abbrev pub is_pad : ℕ → Bool
is_pad byte = (byte == PAD) || (byte == LEADING_PAD)

-- how many pads stand in front
abbrev pub pads_before : List ℕ → ℕ
pads_before bytes = prefix_len is_pad bytes

-- the words for a frame; a block's tell what it carries
abbrev pub AreFrameWords : Option Mode → Frame → List ℕ → Type 0
AreFrameWords so_far Frame.Enq words = words ≡ codes "enq"
AreFrameWords so_far Frame.Ack0 words = words ≡ codes "ack0"
AreFrameWords so_far Frame.Ack1 words = words ≡ codes "ack1"
AreFrameWords so_far Frame.Nak words = words ≡ codes "nak"
AreFrameWords so_far Frame.Wack words = words ≡ codes "wack"
AreFrameWords so_far Frame.Rvi words = words ≡ codes "rvi"
AreFrameWords so_far Frame.Ttd words = words ≡ codes "ttd"
AreFrameWords so_far Frame.Abort words = words ≡ codes "abort"
AreFrameWords so_far Frame.Eot words = words ≡ codes "eot"
AreFrameWords so_far (Frame.Block block) words = AreBlockWords so_far block words

-- the words for bytes that are heard as bad: why they are no transmission
abbrev pub AreBadWords : (bytes words : List ℕ) → Type 0
AreBadWords bytes words = (reason : Reason) × IsReason bytes reason × (words ≡ codes "bad " ++ reason_name reason)

-- the words for what was heard of these bytes; of noise its bytes, without the pads in front
abbrev pub AreWords : Option Mode → Heard → (bytes words : List ℕ) → Type 0
AreWords so_far (Heard.Frame f) bytes words = AreFrameWords so_far f words
AreWords so_far Heard.Bad bytes words = AreBadWords bytes words
AreWords so_far Heard.Noise bytes words = words ≡ codes "noise " ++ hex (drop (pads_before bytes) bytes)
AreWords so_far Heard.Quiet bytes words = words ≡ codes "quiet"
