-- How a character of a name is printed in a message (own profile).
use Rattle.std.specs.Prelude.{ℕ, Bool, ◌&&◌, ◌||◌, ◌==◌, nat_le, if◌then◌else◌}

-- one of these two, or between them
abbrev pub is_from_to : (first last c : ℕ) → Bool
is_from_to first last c = nat_le first c && nat_le c last

-- a control character: C0, DEL or C1
abbrev pub is_control : ℕ → Bool
is_control c = nat_le c 0x1F || is_from_to 0x7F 0x9F c

-- a line separator or a paragraph separator (Unicode, Zl and Zp)
abbrev pub is_separator : ℕ → Bool
is_separator c = is_from_to 0x2028 0x2029 c

-- a mark that turns the direction of the text around it (Unicode, Bidi_Control)
abbrev pub is_direction_mark : ℕ → Bool
is_direction_mark c = c == 0x61C || is_from_to 0x200E 0x200F c || is_from_to 0x202A 0x202E c || is_from_to 0x2066 0x2069 c

-- a character that a message doesn't print: one by which a name could pass for another, or for a line of its own
abbrev pub is_masked : ℕ → Bool
is_masked c = is_control c || is_separator c || is_direction_mark c

-- a question mark for such a character, and each other one as it is
abbrev pub printed : ℕ → ℕ
printed c = if is_masked c then 0x3F else c
