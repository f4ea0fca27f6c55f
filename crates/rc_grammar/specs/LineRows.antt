-- Lines of OSPF and of policies where they stand, with all their values, by computation.
use Rattle.std.specs.Fmt.{digits}
use Rattle.std.specs.Prelude.{◌≡◌, refl, true, [], ◌∷◌, replicate, Some, None, Ok, Err, codes}
use Rattle.rc_openings.specs.GlobalOpenings.{global, global_forms, global_refused, global_ignored}
use Rattle.rc_openings.specs.Opening.{decisive_row}
use Rattle.rc_openings.specs.OspfOpenings.{ospf, ospf_forms, ospf_refused, ospf_ignored}
use Rattle.rc_openings.specs.Reading.{decided}
use Rattle.rc_openings.specs.RouteMapOpenings.{route_map, route_map_forms, route_map_refused, route_map_ignored}
use Rattle.rc_openings.specs.Values.{area_of, interface_of}
use Rattle.rc_openings.specs.Words.{words_of}
use Rattle.rc_openings.specs.declared.reading.LineRefusal.TheVariants.{Unsupported, BadValue}
use Rattle.rc_config.specs.declared.access_list.Action.TheVariants.{Permit, Deny}
use Rattle.rc_config.specs.declared.command.Command.TheVariants.{MapOpened, MapLine, OspfLine, ListLine}
use Rattle.rc_config.specs.declared.lists.ListLine.TheVariants as list_line
use Rattle.rc_config.specs.declared.context.OpenBlock.TheVariants as place
use Rattle.rc_config.specs.declared.map_line.MapLine.TheVariants.{Match, Set}
use Rattle.rc_config.specs.declared.map_line.MatchKind.TheVariants as match_kind
use Rattle.rc_config.specs.declared.map_line.SetLine.TheVariants as set
use Rattle.rc_config.specs.declared.ospf.OspfLine.{OspfLine as Line}
use Rattle.rc_config.specs.declared.ospf.OspfLine.TheVariants.{Network, Redistribute, DefaultInformation}
use Rattle.rc_config.specs.declared.ospf.RedistributedSource.TheVariants.{Static}
use Rattle.rc_config.specs.declared.sets.MetricType.TheVariants.{Type1}
use Rattle.rc_gram_ospf.specs.Rows.{refused_words as of_ospf}
use Rattle.rc_gram_policy.specs.Refused.{refused_in_entry, refused_in_list}
use Rattle.rc_grammar.specs.PolicyRows.{Says, in_map}

-- static routes with the least metric that is none, of type 1
abbrev costly : Line
costly = Redistribute (record { source = Static; metric = Some 16777214; metric_type = Some Type1; subnets = true; route_map = None })

-- the options of a redistribution in any order, the greatest area, and a default of a metric
pub of_processes :
    Says place.Ospf (codes " redistribute static metric 16777214 subnets metric-type 1") (Ok (OspfLine costly))
    × Says place.Ospf (codes " redistribute static metric-type 1 metric 16777214 subnets") (Ok (OspfLine costly))
    × Says place.Ospf (codes " network 0.0.0.0 255.255.255.255 area 4294967295") (Ok (OspfLine (Network (record { address = 0; wildcard = 0xffffffff; area = 0xffffffff }))))
    × Says place.Ospf (codes " default-information originate always metric 7") (Ok (OspfLine (DefaultInformation (record { always = true; metric = Some 7; metric_type = None }))))
    × Says place.Ospf (codes " area 1 nssa") (Err Unsupported)
unfolding ospf ospf_forms ospf_refused ospf_ignored decisive_row decided words_of of_ospf
of_processes = (refl, refl, refl, refl, refl)

-- a prefix of which the host bits are cleared; communities as a set, and a list by the digits of its number
pub of_lists :
    Says place.Global (codes "ip prefix-list P permit 10.9.1.1/16 ge 24 le 24")
    (Ok (ListLine (codes "P") (list_line.PrefixLine (record { sequence = 5; action = Permit; prefix = record { network = 0x0a090000; len = 16 }; ge = Some 24; le = Some 24 }))))
    × Says place.Global (codes "ip community-list 007 permit 65000:2 no-export 65000:1 65000:2")
    (Ok (ListLine (codes "7") (list_line.CommunityLine (record { action = Permit; communities = 4259840001 ∷ 4259840002 ∷ 0xffffff01 ∷ [] }))))
    × Says place.Global (codes "ip community-list standard C deny no-advertise") (Ok (ListLine (codes "C") (list_line.CommunityLine (record { action = Deny; communities = 0xffffff02 ∷ [] }))))
    × Says place.Global (codes "ip community-list standard C permit internet") (Err Unsupported)
unfolding global global_forms global_refused global_ignored decisive_row decided words_of digits refused_in_entry refused_in_list
of_lists = (refl, refl, refl, refl)

-- an entry of a map, and lines in its block
pub of_maps :
    Says place.Global (codes "route-map M permit 10") (Ok (MapOpened (codes "M") 10 Permit))
    × Says in_map (codes " match ip address prefix-list A 7") (Ok (MapLine (codes "M") 10 (Match match_kind.PrefixList (codes "A" ∷ codes "7" ∷ []) 7)))
    × Says in_map (codes " set community 65000:2 additive") (Ok (MapLine (codes "M") 10 (Set (set.Communities (4259840002 ∷ []) true))))
    × Says in_map (codes " set community additive") (Err BadValue)
unfolding global global_forms global_refused global_ignored route_map route_map_forms route_map_refused route_map_ignored decisive_row decided words_of digits refused_in_entry refused_in_list
of_maps = (refl, refl, refl, refl)

-- words that are no area and no interface: the empty one, and one of 64 bytes
pub no_such_words : (area_of [] ≡ None) × (area_of (codes "x") ≡ None) × (interface_of [] ≡ None) × (interface_of (replicate 64 97) ≡ None)
no_such_words = (refl, refl, refl, refl)
