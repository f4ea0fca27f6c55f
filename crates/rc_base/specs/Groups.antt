-- Things put under their prefixes one by one, as a map does it.
use Rattle.std.specs.Prelude.{List, [], Option, Some, None}
use Rattle.std.specs.List.{fold, filter}
use Rattle.std.specs.Map.{lookup}
use Rattle.std.specs.BTreeMap.{insert_entry, is_at}
use Rattle.rc_base.specs.Prefix.{Cidr, prefix_cmp, same_prefix}

-- what stands under a prefix
abbrev pub under : {V : Type 0} → List (Cidr × V) → Cidr → Option V
under rows p = lookup (is_at (prefix_cmp p)) rows

module _ {X V : Type 0} (key : X → Cidr) (joined : Option V → X → V) where
  -- one thing more under its prefix
  abbrev pub with_thing : List (Cidr × V) → X → List (Cidr × V)
  with_thing rows x = insert_entry prefix_cmp rows (key x) (joined (under rows (key x)) x)

  abbrev pub grouped : List X → List (Cidr × V)
  grouped xs = fold with_thing [] xs

  -- what the things of a prefix make, one after another
  abbrev pub value_of : List X → Option V
  value_of xs = fold (λ v x. Some (joined v x)) None xs

  abbrev pub value_at : Cidr → List X → Option V
  value_at p xs = value_of (filter (λ x. same_prefix p (key x)) xs)
