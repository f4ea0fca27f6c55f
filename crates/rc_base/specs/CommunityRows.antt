-- Worked cases of communities, each by computation.
use Rattle.std.specs.Prelude.{◌≡◌, ℕ, ◌+◌, ◌*◌, true, false, [], ◌∷◌, refl}
use Rattle.rc_base.specs.Communities.{community_set, has_community, has_all, joined}

-- 65000:n as a number of 32 bits: the AS in the upper half (RFC 1997)
abbrev of_65000 : ℕ → ℕ
of_65000 n = 65000 * 65536 + n

pub in_the_upper_half : of_65000 1 ≡ 4259840001
in_the_upper_half = refl

-- numbers rise, however they are written, and each stands once
pub rising_once : community_set (30 ∷ 10 ∷ 20 ∷ 10 ∷ []) ≡ 10 ∷ 20 ∷ 30 ∷ []
rising_once = refl

pub nothing : community_set [] ≡ []
nothing = refl

pub one_of_them : has_community (10 ∷ 30 ∷ []) 30 ≡ true
one_of_them = refl

pub none_of_them : has_community (10 ∷ 30 ∷ []) 20 ≡ false
none_of_them = refl

-- all must be there, and one does not suffice
pub all_there : has_all (10 ∷ 20 ∷ 30 ∷ []) (10 ∷ 30 ∷ []) ≡ true
all_there = refl

pub one_does_not_suffice : has_all (10 ∷ 20 ∷ []) (10 ∷ 30 ∷ []) ≡ false
one_does_not_suffice = refl

-- further ones don't count
pub fewer_wanted : has_all (10 ∷ []) [] ≡ true
fewer_wanted = refl

pub from_both : joined (10 ∷ 30 ∷ []) (20 ∷ 30 ∷ []) ≡ 10 ∷ 20 ∷ 30 ∷ []
from_both = refl

pub from_one_alone : joined [] (20 ∷ 30 ∷ []) ≡ 20 ∷ 30 ∷ []
from_one_alone = refl
