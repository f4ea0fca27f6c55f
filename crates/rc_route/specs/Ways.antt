-- Ways to a destination, each at a cost, and the best of them.
use Rattle.std.specs.Prelude.{◌≡◌, if◌then◌else◌, false, All, Any, List, [], ◌∷◌, ◌++◌, filter, Option, Some, None}
use Rattle.std.specs.List.{flat_map, fold}
use Rattle.std.specs.Ordering.{eq_by_cmp, is_lt, match_ordering}
use Rattle.std.specs.declared.cmp.Ordering.{Ordering}
use Rattle.rc_route.specs.declared.route.Hop.{Hop}

-- its cost, and its hops as they were found
pub record Way (C : Type 0) : Type 0 where
  pub cost : C
  pub hops : List Hop

module _ {C : Type 0} (cmp : C → C → Ordering) where
  -- the lower of two costs
  abbrev pub lower : C → C → C
  lower b c = if is_lt (cmp c b) then c else b

  -- the least cost of some ways, the first of which is given
  abbrev pub least_cost : Way C → List (Way C) → C
  least_cost w ws = fold (λ c (x : Way C). lower c x.cost) w.cost ws

  -- the hops of all ways of a cost
  abbrev pub hops_at : C → List (Way C) → List Hop
  hops_at c ways = flat_map (λ (w : Way C). w.hops) (filter (λ (w : Way C). eq_by_cmp cmp c w.cost) ways)

  -- the best of some ways: their least cost, and the hops of all that cost as much
  abbrev pub best_of : List (Way C) → Option (Way C)
  best_of [] = None
  best_of (w ∷ ws) = Some (record { cost = least_cost w ws; hops = hops_at (least_cost w ws) (w ∷ ws) })

  -- what makes a way the best of some: none costs less, some one costs as much, and its hops are those of all that do
  pub record IsBestOf (ways : List (Way C)) (best : Way C) : Type 0 where
    pub no_less : All (λ (w : Way C). is_lt (cmp w.cost best.cost) ≡ false) ways
    pub as_much : Any (λ (w : Way C). w.cost ≡ best.cost) ways
    pub hops : best.hops ≡ hops_at best.cost ways

  -- the better of a way that is known and one more, or both where they cost the same
  abbrev pub with_way : Option (Way C) → Way C → Way C
  with_way None w = w
  with_way (Some v) w = match_ordering (cmp w.cost v.cost) w (record { cost = v.cost; hops = v.hops ++ w.hops }) v

  abbrev pub then_way : Option (Way C) → Way C → Option (Way C)
  then_way best w = Some (with_way best w)
