-- What holds of all that is kept.
use Rattle.std.specs.Prelude.{◌≡◌, ℕ, List, map, All}
use Rattle.std.specs.List.Sorted.{IsStrictlySortedBy}
use Rattle.std.specs.Ordering.{nat_cmp}
use Rattle.rc_link_state.specs.declared.columns.Column.{Column}
use Rattle.rc_link_state.specs.declared.table.AreaWalks.{AreaWalks}
use Rattle.rc_link_state.specs.Columns.{AreSmall}

abbrev pub IsSmallColumn : Column → Type 0
IsSmallColumn c = AreSmall c.costs

-- each cost inside the area is below 2^26
pub record HasSmallCosts (w : AreaWalks) : Type 0 where
  pub small : All IsSmallColumn w.columns

abbrev pub area_of : AreaWalks → ℕ
area_of w = w.area

-- the numbers are those of the areas, which rise, and no cost is large
pub record AreKept (areas : List AreaWalks) (listed : List ℕ) : Type 0 where
  pub numbers : map area_of areas ≡ listed
  pub rise : IsStrictlySortedBy nat_cmp listed
  pub small : All HasSmallCosts areas
