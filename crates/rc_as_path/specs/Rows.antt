-- Worked cases of AS paths, each by computation.
use Rattle.std.specs.Prelude.{◌≡◌, ℕ, ◌==◌, true, false, List, [], ◌∷◌, ◌++◌, Some, None, length, map, nat_eq, slice_get, refl}
use Rattle.std.specs.Cmp.Lexicographic.{pointwise}
use Rattle.std.specs.List.{list_any}

-- 65001 in front of 65002 65001: three numbers, though two of them are one AS
abbrev path : List ℕ
path = 65001 ∷ (65002 ∷ 65001 ∷ []) ++ []

pub three_numbers : length path ≡ 3
three_numbers = refl

pub nearest_first : slice_get path 0 ≡ Some 65001
nearest_first = refl

pub holds_one : list_any (λ a. a == 65002) path ≡ true
holds_one = refl

pub holds_no_other : list_any (λ a. a == 65003) path ≡ false
holds_no_other = refl

-- the empty path has no number, no first one, and holds none
abbrev nothing : List ℕ
nothing = []

pub no_number : length nothing ≡ 0
no_number = refl

pub no_first : slice_get nothing 0 ≡ None
no_first = refl

pub holds_none : list_any (λ a. a == 0) nothing ≡ false
holds_none = refl

-- paths are equal by all their numbers: not to a tail, to a front, to one of other numbers or to the empty one, from either side
abbrev others : List (List ℕ)
others = (65003 ∷ 65002 ∷ 65001 ∷ []) ∷ (65002 ∷ 65001 ∷ []) ∷ (65003 ∷ 65002 ∷ []) ∷ (65003 ∷ 65002 ∷ 65009 ∷ []) ∷ [] ∷ []

pub equal_by_numbers : map (pointwise nat_eq (65003 ∷ 65002 ∷ 65001 ∷ [])) others ≡ true ∷ false ∷ false ∷ false ∷ false ∷ []
equal_by_numbers = refl

pub equal_back : map (λ other. pointwise nat_eq other (65003 ∷ 65002 ∷ 65001 ∷ [])) others ≡ true ∷ false ∷ false ∷ false ∷ false ∷ []
equal_back = refl
