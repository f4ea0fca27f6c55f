-- Costs and first hops that are kept.
use Rattle.std.specs.Prelude.{◌≡◌, ℕ, ◌-◌, ◌<◌, ◌^◌, IfSome, List, Some, All, length, slice_get}
use Rattle.std.specs.List.Sorted.{IsStrictlySortedBy}
use Rattle.rc_link_state.specs.Tables.{cost_of, hops_of}
use Rattle.rc_ospf.specs.Members.{reach_of}
use Rattle.rc_ospf.specs.declared.first_hops.FoundHops.{FoundHops}
use Rattle.rc_ospf.specs.declared.first_hops.Towards.{Towards}
use Rattle.rc_ospf.specs.declared.ospf_router.Member.{Member}
use Rattle.rc_route.specs.Hops.{hop_cmp}
use Rattle.rc_route.specs.declared.route.Hop.{Hop}

-- they are those of the least walks from a router to the one that is named inside the area, the hops in order and at their place in a list
pub record IsTowards (m : Member) (found : List (List Hop)) (t : Towards) : Type 0 where
  pub cost : t.cost ≡ cost_of (reach_of m t.area t.router)
  pub small : IfSome t.cost (λ c. c < 2 ^ 26)
  pub value : slice_get found t.place ≡ Some (hops_of (reach_of m t.area t.router))
  pub in_order : IsStrictlySortedBy hop_cmp (hops_of (reach_of m t.area t.router))

-- all that is found is so
abbrev pub AreFound : Member → FoundHops → Type 0
AreFound m f = All (IsTowards m f.hops) f.towards

-- what stands in a list stands there still, and these hops are the last
pub record AreLast (old new : List (List Hop)) (hops : List Hop) : Type 0 where
  pub stay : (i : ℕ) (others : List Hop) → slice_get old i ≡ Some others → slice_get new i ≡ Some others
  pub last : slice_get new (length new - 1) ≡ Some hops
