-- The sequence number of one more line of an access list.
use Rattle.std.specs.Prelude.{ℕ, ◌+◌, ◌&&◌, not, nat_le, List, Option, Some, None, if◌then◌else◌}
use Rattle.rc_config.specs.AccessList.{has_sequence, last_sequence}
use Rattle.rc_config.specs.declared.access_list.AccessListLine.{AccessListLine}

-- a number that no line has, from 1 to 2147483647
abbrev pub if_free : List AccessListLine → ℕ → Option ℕ
if_free lines n = if nat_le 1 n && nat_le n 2147483647 && not (has_sequence lines n) then Some n else None

-- 10 in a list without lines, and else 10 above the number of the last line, which is the greatest
abbrev pub number_behind : Option ℕ → ℕ
number_behind None = 10
number_behind (Some last) = last + 10

-- the number that a line gets, which may have one written in front of it; none where it would be too large, or where a line has it already
abbrev pub sequence_for : List AccessListLine → Option ℕ → Option ℕ
sequence_for lines (Some written) = if_free lines written
sequence_for lines None = if_free lines (number_behind (last_sequence lines))
