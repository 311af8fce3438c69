-- How much a station sends before it leaves the line to the other end (own profile).
use Rattle.std.specs.Prelude.{ℕ, Bool, ◌==◌, ◌*◌, ◌/◌, ◌||◌, nat_le, min, max, if◌then◌else◌}

-- a transmission that may have so many jobs has as much as it may: so many jobs, or so many times a hundred cards
abbrev pub has_as_much : (most jobs cards : ℕ) → Bool
has_as_much most jobs cards = nat_le most jobs || nat_le (min (most * 100) 18446744073709551615) cards

-- the most jobs of a transmission after one that had as many as it might: twice as many where it took less than a second, but 512 at most; half as many where it took a minute or more, but one at least; and else as many
abbrev pub most_after : ℕ → ℕ → ℕ
most_after seconds most = if seconds == 0 then min (2 * most) 512 else (if nat_le 60 seconds then max (most / 2) 1 else most)

-- how many seconds pass until a station that has stopped sending tries a file: twice as many as before, but an hour at most
abbrev pub longer_wait : ℕ → ℕ
longer_wait wait = min (2 * wait) 3600
