-- The lines in the block of a BGP process (RFC 4271): what a line of each form says, by its words behind the opening, where it fits its
-- row.
use Rattle.std.specs.Prelude.{ℕ, List, [], ◌∷◌, Option, Some, None, if◌then◌else◌, codes}
use Rattle.std.specs.Option.{option_and_then, option_map}
use Rattle.std.specs.Str.{bytes_eq}
use Rattle.rc_base.specs.Prefix.{Cidr}
use Rattle.rc_config.specs.Classes.{natural_length}
use Rattle.rc_config.specs.declared.bgp.BgpLine.{BgpLine}
use Rattle.rc_config.specs.declared.bgp.BgpLine.TheVariants.{RouterId, MaximumExternalPaths, MaximumInternalPaths, Network, Setting, RedistributeConnected, RedistributeStatic, RedistributeOspf}
use Rattle.rc_config.specs.declared.bgp.NeighborSetting.{NeighborSetting}
use Rattle.rc_config.specs.declared.peering.Peer.{Peer}
use Rattle.rc_openings.specs.Values.{address_of, mask_length_of, number_within, prefix_from}
use Rattle.rc_gram_bgp.specs.Redistributions.{options, ospf_redistribution}

-- `bgp router-id A`
abbrev pub router_id : List (List ℕ) → Option BgpLine
router_id (a ∷ []) = option_map RouterId (address_of a)
router_id _ = None

-- how many paths of a prefix a word allows
abbrev pub path_number : List ℕ → Option ℕ
path_number w = number_within 1 32 w

-- `maximum-paths N`, and `maximum-paths ibgp N`, from 1 to 32
abbrev pub maximum_paths : List (List ℕ) → Option BgpLine
maximum_paths (n ∷ []) = option_map MaximumExternalPaths (path_number n)
maximum_paths _ = None

abbrev pub maximum_paths_ibgp : List (List ℕ) → Option BgpLine
maximum_paths_ibgp (n ∷ []) = option_map MaximumInternalPaths (path_number n)
maximum_paths_ibgp _ = None

-- the prefix of the network of an address by its class; from 224.0.0.0 on there is none
abbrev pub natural_prefix : Option ℕ → Option Cidr
natural_prefix a = prefix_from a (option_and_then natural_length a)

abbrev pub network_of : Option Cidr → Option BgpLine
network_of prefix = option_map Network prefix

-- `network A [mask M]`: the host bits of A are cleared
abbrev pub network : List (List ℕ) → Option BgpLine
network (a ∷ []) = network_of (natural_prefix (address_of a))
network (a ∷ word ∷ m ∷ []) = if bytes_eq word (codes "mask") then network_of (prefix_from (address_of a) (mask_length_of m)) else None
network _ = None

-- what a line sets of a neighbour or of a peer group
abbrev pub about : Option Peer → Option NeighborSetting → Option BgpLine
about (Some whom) (Some setting) = Some (Setting whom setting)
about _ _ = None

-- `redistribute connected`, `redistribute static` and `redistribute ospf`, in the line of this number
abbrev pub redistribute_connected : ℕ → List (List ℕ) → Option BgpLine
redistribute_connected number behind = option_map RedistributeConnected (options number behind)

abbrev pub redistribute_static : ℕ → List (List ℕ) → Option BgpLine
redistribute_static number behind = option_map RedistributeStatic (options number behind)

abbrev pub redistribute_ospf : ℕ → List (List ℕ) → Option BgpLine
redistribute_ospf number behind = option_map RedistributeOspf (ospf_redistribution number behind)
