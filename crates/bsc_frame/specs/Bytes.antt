-- The second bytes of the acknowledgements that DLE begins (GA27-3004, EBCDIC), and the second pad.
use Rattle.std.specs.Prelude.{ℕ}

-- of ACK0, an acknowledgement of a block with an even number, and the grant of a bid: 10 70
abbrev pub ACK0 : ℕ
ACK0 = 0x70

-- of ACK1, an acknowledgement of a block with an odd number: 10 61
abbrev pub ACK1 : ℕ
ACK1 = 0x61

-- of WACK, wait: 10 6B
abbrev pub WACK : ℕ
WACK = 0x6B

-- of RVI, reverse interrupt: 10 7C
abbrev pub RVI : ℕ
RVI = 0x7C

-- the pad that may stand in front of a transmission, as FF may
abbrev pub LEADING_PAD : ℕ
LEADING_PAD = 0x55
