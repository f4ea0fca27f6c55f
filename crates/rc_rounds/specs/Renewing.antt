-- What a round makes of all routers, put together.
use Rattle.std.specs.Prelude.{◌==◌, ◌&&◌, Bool, true, List, [], ◌∷◌, Option, Some, None, drop, length}
use Rattle.rc_config.specs.declared.network.Network.{Network}
use Rattle.rc_ospf.specs.declared.model.Internal.{Internal}
use Rattle.rc_reads.specs.Stayed.{IsMadeAnew}
use Rattle.rc_rib.specs.declared.made.Made.{Made}
use Rattle.rc_route.specs.declared.state.RouterState.{RouterState}
use Rattle.rc_shares.specs.Stretches.{IsStretch}

abbrev pub nothing_known : RouterState
nothing_known = record { table = []; paths = [] }

-- what the first of some routers knows
abbrev pub first_known : List RouterState → RouterState
first_known [] = nothing_known
first_known (s ∷ ss) = s

-- who isn't made anew knows this, and nothing changes in its table and in its best paths
abbrev pub renewed : Option Made → RouterState → Made
renewed None known = record { state = known; has_same_table = true; changed = [] }
renewed (Some made) known = made

-- so it is with all routers and what they know in a state
abbrev pub all_renewed : List (Option Made) → List RouterState → List Made
all_renewed [] known = []
all_renewed (made ∷ more) known = renewed made (first_known known) ∷ all_renewed more (drop 1 known)

-- nothing changed, as it is told
abbrev pub has_stayed : Made → Bool
has_stayed m = m.has_same_table && (length m.changed == 0)

-- this is made anew of all routers that read a state
pub record AreMadeAnew (net : Network) (internal : Internal) (old : List RouterState) (all : List (Option Made)) : Type 0 where
  pub flags : List Bool
  pub made : IsStretch (IsMadeAnew net internal flags old) 0 (length net.routers) all
