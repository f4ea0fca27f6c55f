-- The areas that are kept, and the routers to which walks are wanted.
use Rattle.std.specs.Prelude.{◌≡◌, ℕ, ◌<◌, ◌⊎◌, ◌++◌, Bool, true, false, List, map, length, All, Contains}
use Rattle.std.specs.List.{slice_index_or}
use Rattle.rc_link_state.specs.declared.end.End.{End}
use Rattle.rc_link_state.specs.declared.step.Step.{Step}
use Rattle.rc_link_state.specs.declared.table.AreaWalks.{AreaWalks}
use Rattle.rc_link_state.specs.declared.transit.Transit.{Transit}
use Rattle.rc_link_state.specs.Areas.{IsArea}
use Rattle.rc_link_state.specs.Kept.{area_of}

abbrev pub step_area : Step → ℕ
step_area x = x.area

abbrev pub network_area : Transit → ℕ
network_area t = t.area

abbrev pub end_area : End → ℕ
end_area e = e.area

-- the areas of steps and networks
abbrev pub areas_in : List Step → List Transit → List ℕ
areas_in listed transits = map step_area listed ++ map network_area transits

abbrev pub end_at : ℕ → ℕ → End
end_at area s = record { area = area; router = s }

-- all are asked for, or this one among some ends
abbrev pub IsAsked : Bool → List End → ℕ → ℕ → Type 0
IsAsked all ends area s = (all ≡ true) ⊎ Contains ends (end_at area s)

-- each router that is asked for in an area is wanted
pub record AreAsked (all : Bool) (ends : List End) (area : ℕ) (wanted : List Bool) : Type 0 where
  pub each : (s : ℕ) → s < length wanted → IsAsked all ends area s → slice_index_or wanted s false ≡ true

-- it is kept of an area what is left to those that are asked for
pub record IsAskedArea (n : ℕ) (listed : List Step) (transits : List Transit) (all : Bool) (ends : List End) (w : AreaWalks) : Type 0 where
  pub wanted : List Bool
  pub len : length wanted ≡ n
  pub asked : AreAsked all ends w.area wanted
  pub is : IsArea n listed transits wanted w

-- of each of some areas
pub record AreAreas (n : ℕ) (listed : List Step) (transits : List Transit) (all : Bool) (ends : List End) (areas : List ℕ) (walks : List AreaWalks) : Type 0 where
  pub each : All (IsAskedArea n listed transits all ends) walks
  pub which : map area_of walks ≡ areas
