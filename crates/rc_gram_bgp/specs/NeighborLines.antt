-- The lines about a neighbour or a peer group (RFC 4271): what a line of each form sets, by its words behind the opening, where it fits its row.
use Rattle.std.specs.Prelude.{ℕ, Bool, ◌||◌, List, [], ◌∷◌, Option, Some, None, if◌then◌else◌, codes}
use Rattle.std.specs.Option.{option_map}
use Rattle.std.specs.Str.{bytes_eq}
use Rattle.rc_base.specs.Name.{name_of}
use Rattle.rc_config.specs.DirectionWord.{direction_of}
use Rattle.rc_config.specs.declared.bgp.NeighborSetting.{NeighborSetting}
use Rattle.rc_config.specs.declared.bgp.NeighborSetting.TheVariants.{RemoteAs, UpdateSource, EbgpMultihop, SendCommunity, Weight, RouteMap, PrefixList}
use Rattle.rc_config.specs.declared.interface.Direction.{Direction}
use Rattle.rc_config.specs.declared.route_map.Mention.{Mention}
use Rattle.rc_openings.specs.Values.{interface_of, number_of, number_within}

-- `remote-as N`
abbrev pub remote_as : List (List ℕ) → Option NeighborSetting
remote_as (n ∷ []) = option_map RemoteAs (number_of n)
remote_as _ = None

-- `update-source IF`
abbrev pub update_source : List (List ℕ) → Option NeighborSetting
update_source (name ∷ []) = option_map UpdateSource (interface_of name)
update_source _ = None

-- `ebgp-multihop [N]`, N from 1 to 255, which has no further effect
abbrev pub ebgp_multihop : List (List ℕ) → Option NeighborSetting
ebgp_multihop [] = Some EbgpMultihop
ebgp_multihop (n ∷ []) = option_map (λ hops. EbgpMultihop) (number_within 1 255 n)
ebgp_multihop _ = None

-- a setting whose opening is the whole line
abbrev pub alone : NeighborSetting → List (List ℕ) → Option NeighborSetting
alone setting [] = Some setting
alone setting (w ∷ ws) = None

-- `weight N`, to 65535
abbrev pub weight : List (List ℕ) → Option NeighborSetting
weight (n ∷ []) = option_map Weight (number_within 0 65535 n)
weight _ = None

abbrev pub sends_communities : List ℕ → Bool
sends_communities w = bytes_eq w (codes "standard") || bytes_eq w (codes "both")

-- `send-community`, or with `standard` or `both` behind it
abbrev pub send_community : List (List ℕ) → Option NeighborSetting
send_community [] = Some SendCommunity
send_community (w ∷ []) = if sends_communities w then Some SendCommunity else None
send_community _ = None

-- a name that the line of this number gives
abbrev pub mention_of : ℕ → List ℕ → Option Mention
mention_of number name = option_map (λ n. record { name = n; line = number }) (name_of name)

abbrev pub map_in : Option Mention → Option Direction → Option NeighborSetting
map_in (Some map) (Some direction) = Some (RouteMap map direction)
map_in _ _ = None

-- `route-map NAME in`, or `route-map NAME out`
abbrev pub route_map : ℕ → List (List ℕ) → Option NeighborSetting
route_map number (name ∷ way ∷ []) = map_in (mention_of number name) (direction_of way)
route_map number _ = None

abbrev pub list_in : Option Mention → Option Direction → Option NeighborSetting
list_in (Some list) (Some direction) = Some (PrefixList list direction)
list_in _ _ = None

-- `prefix-list NAME in`, or `prefix-list NAME out`
abbrev pub prefix_list : ℕ → List (List ℕ) → Option NeighborSetting
prefix_list number (name ∷ way ∷ []) = list_in (mention_of number name) (direction_of way)
prefix_list number _ = None
