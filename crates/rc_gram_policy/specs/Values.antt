-- The words of policies that are values.
use Rattle.std.specs.Prelude.{ℕ, ◌+◌, ◌*◌, ◌==◌, List, [], ◌∷◌, Option, Some, None, if◌then◌else◌, codes}
use Rattle.std.specs.List.{slice_split}
use Rattle.std.specs.Str.{bytes_eq}
use Rattle.rc_openings.specs.Values.{number_of, number_within}

-- the AS in the upper half of the number, and a number of its own in the lower (RFC 1997)
abbrev pub from_halves : Option ℕ → Option ℕ → Option ℕ
from_halves (Some upper) (Some lower) = Some (upper * 65536 + lower)
from_halves _ _ = None

-- `N:N` with both parts to 65535, or a number to 4294967295
abbrev pub community_of_parts : List (List ℕ) → Option ℕ
community_of_parts (whole ∷ []) = number_of whole
community_of_parts (upper ∷ lower ∷ []) = from_halves (number_within 0 65535 upper) (number_within 0 65535 lower)
community_of_parts _ = None

-- the community that a word is: two have names, NO_EXPORT and NO_ADVERTISE (RFC 1997)
abbrev pub community_of : List ℕ → Option ℕ
community_of w =
    if bytes_eq w (codes "no-export") then Some 0xffffff01
    else (if bytes_eq w (codes "no-advertise") then Some 0xffffff02
    else community_of_parts (slice_split (λ b. b == 58) w))

-- the number of an AS (RFC 6793 s.4.1)
abbrev pub as_number_of : List ℕ → Option ℕ
as_number_of w = number_within 1 4294967295 w
