-- Interfaces: what their blocks say.
use Rattle.std.specs.Prelude.{ℕ, Bool, false, if◌then◌else◌, List, [], ◌∷◌, ◌++◌, Option, Some, None}
use Rattle.std.specs.Option.{option_map_or}
use Rattle.rc_config.specs.declared.interface.Direction.{Direction}
use Rattle.rc_config.specs.declared.interface.Direction.TheVariants.{In, Out}
use Rattle.rc_config.specs.declared.interface.IfAddr.{IfAddr}
use Rattle.rc_config.specs.declared.interface.Interface.{Interface}
use Rattle.rc_config.specs.declared.interface.InterfaceLine.{InterfaceLine}
use Rattle.rc_config.specs.declared.interface.InterfaceLine.TheVariants.{Address, Shutdown, Bandwidth, AccessGroup, Ospf}
use Rattle.rc_config.specs.Ospf.{no_settings, with_setting}

-- an interface with no line in its block
abbrev pub fresh : Interface
fresh = record { primary = None; secondary = []; shutdown = false; bandwidth = None; access_group_in = None; access_group_out = None; ospf = no_settings }

-- a secondary address is one more, and a primary one stands in place of any other
abbrev pub with_address : Interface → IfAddr → Bool → Interface
with_address i a secondary = if secondary then record i { secondary = i.secondary ++ a ∷ [] } else record i { primary = Some a }

-- the list of a direction stands in place of any other
abbrev pub with_group : Interface → List ℕ → Direction → Interface
with_group i list In = record i { access_group_in = Some list }
with_group i list Out = record i { access_group_out = Some list }

-- The interface with one more line of its block: a secondary address is one more, and any other line counts in place of an earlier one of its
-- kind.
abbrev pub with_line : Interface → InterfaceLine → Interface
with_line i (Address a secondary) = with_address i a secondary
with_line i (Shutdown down) = record i { shutdown = down }
with_line i (Bandwidth kbits) = record i { bandwidth = Some kbits }
with_line i (AccessGroup list direction) = with_group i list direction
with_line i (Ospf setting) = record i { ospf = with_setting i.ospf setting }

-- the access list of an interface in a direction, where a line names one
abbrev pub group_of : Interface → Direction → Option (List ℕ)
group_of i In = i.access_group_in
group_of i Out = i.access_group_out

-- the addresses of an interface, the primary one first, then the others as written
abbrev pub declared_addresses : Interface → List IfAddr
declared_addresses i = option_map_or (λ a. a ∷ []) i.primary [] ++ i.secondary
