-- What holds of the named bytes and of the code page.
use Rattle.std.specs.Prelude.{◌≡◌, ℕ, ◌≤◌, ◌↔◌, Some, IsSome}
use Rattle.bsc_codes.specs.declared.bytes.TheConstants as code
use Rattle.bsc_codes.specs.CodePage.{ebcdic_of, ascii_of}

-- a character's code stands for that character and for no other
abbrev pub CodePageIsInverse : Type 0
CodePageIsInverse = (a e : ℕ) → (ebcdic_of a ≡ Some e) ↔ (ascii_of e ≡ Some a)

-- the characters that have a code are those from the blank to the tilde
abbrev pub PrintableHaveCodes : Type 0
PrintableHaveCodes = (a : ℕ) → IsSome (ebcdic_of a) ↔ ((0x20 ≤ a) × (a ≤ 0x7E))

-- the code's constants are the bytes that have these names (GA27-3004, EBCDIC)
pub record NamedBytesHaveTheirCodes : Type 0 where
  pub soh : code.SOH ≡ 0x01
  pub stx : code.STX ≡ 0x02
  pub etx : code.ETX ≡ 0x03
  pub dle : code.DLE ≡ 0x10
  pub dc1 : code.DC1 ≡ 0x11
  pub dc2 : code.DC2 ≡ 0x12
  pub dc3 : code.DC3 ≡ 0x13
  pub igs : code.IGS ≡ 0x1D
  pub irs : code.IRS ≡ 0x1E
  pub itb : code.ITB ≡ 0x1F
  pub etb : code.ETB ≡ 0x26
  pub esc : code.ESC ≡ 0x27
  pub enq : code.ENQ ≡ 0x2D
  pub syn : code.SYN ≡ 0x32
  pub eot : code.EOT ≡ 0x37
  pub nak : code.NAK ≡ 0x3D
  pub blank : code.BLANK ≡ 0x40
  pub pad : code.PAD ≡ 0xFF
