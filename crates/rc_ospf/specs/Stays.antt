-- From a router least walks lead inside its own areas alone, as each step leaves by an interface.
use Rattle.std.specs.Prelude.{◌≡◌, ℕ, suc, ◌==◌, true, false, List, [], ◌∷◌, is_some}
use Rattle.rc_link_state.specs.Tables.{reach_in}
use Rattle.rc_ospf.specs.RouterAreas.{is_in}
use Rattle.rc_ospf.specs.declared.known_walks.KnownWalks.{KnownWalks}
use Rattle.rc_ospf.specs.declared.member.Areas.{Areas}
use Rattle.rc_ospf.specs.declared.router_area.RouterArea.{RouterArea}

-- where all are known, none is told from router r, which is in these areas, to another router inside any other area
pub record StaysIn (walks : KnownWalks) (r : ℕ) (areas : List RouterArea) : Type 0 where
  pub none : walks.are_all ≡ true → (area s : ℕ) → is_in area areas ≡ false → (s == r) ≡ false → is_some (reach_in walks.table r area s) ≡ false

-- that holds of the routers with these areas, from one on
abbrev pub StayFrom : KnownWalks → ℕ → List Areas → Type 0
StayFrom walks r [] = Unit {0}
StayFrom walks r (a ∷ all) = StaysIn walks r a.all × StayFrom walks (suc r) all
