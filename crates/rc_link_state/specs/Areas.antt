-- What is kept of an area.
use Rattle.std.specs.Prelude.{◌≡◌, ℕ, suc, ◌==◌, ◌<◌, nat_lt, Bool, true, false, ◌&&◌, if◌then◌else◌, List, [], ◌∷◌, map, length, Contains, slice_set}
use Rattle.std.specs.List.{list_any, slice_index_or}
use Rattle.rc_link_state.specs.declared.end.End.{End}
use Rattle.rc_link_state.specs.declared.step.Step.{Step}
use Rattle.rc_link_state.specs.declared.table.AreaWalks.{AreaWalks}
use Rattle.rc_link_state.specs.declared.transit.Attached.{Attached}
use Rattle.rc_link_state.specs.declared.transit.Transit.{Transit}
use Rattle.rc_link_state.specs.ByRouter.{AreByRouter, of_router}
use Rattle.rc_link_state.specs.Graph.{edges_by, steps_in, transits_in, turned}
use Rattle.rc_link_state.specs.Inward.{IsColumn}
use Rattle.rc_link_state.specs.Kept.{HasSmallCosts}
use Rattle.rc_link_state.specs.Tables.{column_of}

-- the router that a step leaves
abbrev pub start_of : Step → ℕ
start_of x = x.out.router

abbrev pub IsLeavingOne : ℕ → Step → Type 0
IsLeavingOne n x = x.out.router < n

abbrev pub is_of : ℕ → Attached → Bool
is_of r i = i.out.router == r

-- a router is attached to a network
abbrev pub is_attached : ℕ → Transit → Bool
is_attached r t = list_any (is_of r) t.attached

-- the numbers of the networks that it is attached to, where the first one has that number
abbrev pub attached_to : ℕ → ℕ → List Transit → List ℕ
attached_to r k [] = []
attached_to r k (t ∷ ts) = if is_attached r t then k ∷ attached_to r (suc k) ts else attached_to r (suc k) ts

-- those of each of n routers
pub record AreAttachedTo (n : ℕ) (networks : List Transit) (lists : List (List ℕ)) : Type 0 where
  pub own : (r : ℕ) → r < n → of_router lists r ≡ attached_to r 0 networks

-- one more end is wanted, where it is in the area and one of the routers
abbrev pub with_end : ℕ → List Bool → End → List Bool
with_end area wanted e = if (e.area == area) && nat_lt e.router (length wanted) then slice_set wanted e.router true else wanted

-- it is told of each end in the area that it is wanted
pub record HasEnds (area : ℕ) (ends : List End) (wanted : List Bool) : Type 0 where
  pub has : (e : End) → Contains ends e → e.area ≡ area → e.router < length wanted → slice_index_or wanted e.router false ≡ true

-- it is kept of an area of n routers what these listed steps and networks are inside it, and what is left to those that are wanted
pub record IsArea (n : ℕ) (listed : List Step) (transits : List Transit) (wanted : List Bool) (w : AreaWalks) : Type 0 where
  pub steps : AreByRouter start_of n (steps_in w.area listed) w.steps
  pub networks : w.networks ≡ transits_in w.area transits
  pub attached : AreAttachedTo n w.networks w.attached
  pub len : length w.columns ≡ n
  pub small : HasSmallCosts w
  pub columns : (s : ℕ) → s < n → slice_index_or wanted s false ≡ true → IsColumn n (map turned (edges_by n w.area listed transits)) s (column_of w s)
