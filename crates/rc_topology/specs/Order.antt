-- The order of interfaces: by router, then as declared.
use Rattle.std.specs.Prelude.{◌≡◌, ◌==◌, Bool, true, ◌&&◌, ◌||◌, nat_lt, if◌then◌else◌, List, [], ◌∷◌, Option, Some, None}
use Rattle.std.specs.List.{AllByRecursion}
use Rattle.rc_base.specs.declared.position.IfId.{IfId}

-- i stands before j
abbrev pub is_before : IfId → IfId → Bool
is_before i j = nat_lt i.router j.router || (i.router == j.router) && nat_lt i.index j.index

-- each stands before all that come after it
abbrev pub AreInPositionOrder : List IfId → Type 0
AreInPositionOrder [] = Unit {0}
AreInPositionOrder (i ∷ is) = AllByRecursion (λ j. is_before i j ≡ true) is × AreInPositionOrder is

-- j stands behind the last one; all stand behind none
abbrev pub is_behind : Option IfId → IfId → Bool
is_behind None j = true
is_behind (Some i) j = is_before i j

-- the one that stands first
abbrev pub earlier : Option IfId → Option IfId → Option IfId
earlier None o = o
earlier o None = o
earlier (Some i) (Some j) = if is_before j i then Some j else Some i
