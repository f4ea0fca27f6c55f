-- The numbers of a path, the nearest first.
use Rattle.std.specs.Prelude.{◌≡◌, ℕ, suc, ◌+◌, ◌*◌, ◌≤◌, length, take, List, [], ◌++◌, Option, Some, None}
use Rattle.std.proofs.Common.{arith}
use Rattle.std.proofs.lemmas.Grind.{common_steps}
use Rattle.std.specs.declared.sync.Arc.{Arc}
use Rattle.std.specs.Arc.{arc_value}
use Rattle.std.specs.declared.alloc.Global.{Global}

-- none where there is no segment, else those that the segment is seen as
abbrev pub numbers : Option (Arc (List ℕ) Global) → List ℕ
numbers None = []
numbers (Some segment) = arc_value segment

-- how many segments may be left to drop
abbrev pub height : Option (Arc (List ℕ) Global) → ℕ
height None = 0
height (Some segment) = suc (length (arc_value segment))

-- a segment has room for 16 numbers and holds some, so many segments stand behind it, each of 16, and so many numbers as there are can be counted
pub record IsSegment (room : List ℕ) (held behind : ℕ) (rest : List ℕ) : Type 0 where
  pub wide : length room ≡ 16
  pub some : 1 ≤ held
  pub few : held ≤ 16
  pub full : length rest ≡ 16 * behind
  pub short : held + 16 * behind ≤ 4294967295

pub length-whole : (room : List ℕ) (held behind : ℕ) (rest : List ℕ) → IsSegment room held behind rest → length (take held room ++ rest) ≡ held + length rest
length-whole room held behind rest h = Prim.grind (arith, common_steps, h.wide, h.few)
