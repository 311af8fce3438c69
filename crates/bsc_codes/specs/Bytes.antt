-- The bytes of the line that have a name (GA27-3004, EBCDIC).
use Rattle.std.specs.Prelude.{ℕ, List, [], ◌∷◌}

-- start of heading
abbrev pub SOH : ℕ
SOH = 0x01

-- start of text
abbrev pub STX : ℕ
STX = 0x02

-- end of text: the last block of a job
abbrev pub ETX : ℕ
ETX = 0x03

-- data link escape
abbrev pub DLE : ℕ
DLE = 0x10

-- device control 1: selects the printer
abbrev pub DC1 : ℕ
DC1 = 0x11

-- device control 2: selects the punch
abbrev pub DC2 : ℕ
DC2 = 0x12

-- device control 3: selects the punch too
abbrev pub DC3 : ℕ
DC3 = 0x13

-- interchange group separator: a count of blanks follows
abbrev pub IGS : ℕ
IGS = 0x1D

-- interchange record separator: ends a record
abbrev pub IRS : ℕ
IRS = 0x1E

-- end of an intermediate block
abbrev pub ITB : ℕ
ITB = 0x1F

-- end of transmission block: more blocks of the job follow
abbrev pub ETB : ℕ
ETB = 0x26

-- escape: a carriage control follows
abbrev pub ESC : ℕ
ESC = 0x27

-- enquiry
abbrev pub ENQ : ℕ
ENQ = 0x2D

-- synchronous idle
abbrev pub SYN : ℕ
SYN = 0x32

-- end of transmission
abbrev pub EOT : ℕ
EOT = 0x37

-- negative acknowledgement
abbrev pub NAK : ℕ
NAK = 0x3D

-- the blank of EBCDIC
abbrev pub BLANK : ℕ
BLANK = 0x40

-- the pad that is written after a transmission
abbrev pub PAD : ℕ
PAD = 0xFF

-- the bytes that can't stand in normal text
abbrev pub control_bytes : List ℕ
control_bytes = SOH ∷ STX ∷ ETX ∷ DLE ∷ ITB ∷ ETB ∷ ENQ ∷ SYN ∷ EOT ∷ NAK ∷ []
