-- The orders that others rely on: which origin is preferred, and in which order interfaces stand.
use Rattle.std.specs.Prelude.{ℕ, [], ◌∷◌}
use Rattle.std.specs.Ordering.{nat_cmp}
use Rattle.std.specs.Cmp.Lexicographic.{slice_cmp}
use Rattle.std.specs.declared.cmp.Ordering.{Ordering}
use Rattle.rc_base.specs.declared.origin.Origin.{Origin}
use Rattle.rc_base.specs.declared.origin.Origin.TheVariants.{Igp, Egp, Incomplete}
use Rattle.rc_base.specs.declared.position.IfId.{IfId}

-- the number of an origin on the wire (RFC 4271 s.4.3); the lowest is preferred (RFC 4271 s.9.1.2.2 b)
abbrev pub origin_number : Origin → ℕ
origin_number Igp = 0
origin_number Egp = 1
origin_number Incomplete = 2

-- interfaces by router, then in the order of declaration
abbrev pub interface_cmp : IfId → IfId → Ordering
interface_cmp i j = slice_cmp nat_cmp (i.router ∷ i.index ∷ []) (j.router ∷ j.index ∷ [])
