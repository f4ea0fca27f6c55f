-- BGP communities (RFC 1997): the attribute is a set of 32-bit numbers, seen as their list, rising, each once.
use Rattle.std.specs.Prelude.{ℕ, ◌==◌, Bool, List, [], ◌++◌, Option, Some, None}
use Rattle.std.specs.Arc.{arc_value}
use Rattle.std.specs.declared.alloc.Global.{Global}
use Rattle.std.specs.declared.sync.Arc.{Arc}
use Rattle.std.specs.List.{list_any, list_all}
use Rattle.std.specs.Ordering.{nat_cmp}
use Rattle.rc_base.specs.Lists.{in_order}

-- the set of these numbers
abbrev pub community_set : List ℕ → List ℕ
community_set numbers = in_order nat_cmp numbers

-- a number is one of these
abbrev pub has_community : List ℕ → ℕ → Bool
has_community numbers n = list_any (λ m. m == n) numbers

-- each of the others is one of these
abbrev pub has_all : List ℕ → List ℕ → Bool
has_all numbers others = list_all (has_community numbers) others

-- the numbers of either set
abbrev pub joined : List ℕ → List ℕ → List ℕ
joined numbers others = community_set (numbers ++ others)

-- the numbers that are kept of a set
abbrev pub kept_numbers : Option (Arc (List ℕ) Global) → List ℕ
kept_numbers None = []
kept_numbers (Some numbers) = arc_value numbers
