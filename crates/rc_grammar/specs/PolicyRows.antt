-- Lines of policies where they stand, by computation.
use Rattle.std.specs.Prelude.{◌≡◌, refl, ℕ, List, [], ◌∷◌, None, Ok, Err, codes}
use Rattle.std.specs.Fmt.{digits}
use Rattle.rc_openings.specs.AccessListOpenings.{access_list, access_list_forms, access_list_refused, access_list_ignored}
use Rattle.rc_openings.specs.BgpOpenings.{bgp, bgp_forms, bgp_refused, bgp_ignored}
use Rattle.rc_openings.specs.GlobalOpenings.{global, global_forms, global_refused, global_ignored}
use Rattle.rc_openings.specs.InterfaceOpenings.{interface, interface_forms, interface_refused, interface_ignored}
use Rattle.rc_openings.specs.Opening.{decisive_row}
use Rattle.rc_openings.specs.OspfOpenings.{ospf, ospf_forms, ospf_refused, ospf_ignored}
use Rattle.rc_openings.specs.Reading.{decided}
use Rattle.rc_openings.specs.RouteMapOpenings.{route_map, route_map_forms, route_map_refused, route_map_ignored}
use Rattle.rc_openings.specs.Words.{words_of}
use Rattle.rc_openings.specs.declared.reading.LineRefusal.TheVariants.{Unsupported, OutOfPlace}
use Rattle.rc_config.specs.Update.{empty}
use Rattle.rc_config.specs.declared.command.Command.TheVariants.{Passed, MapOpened, MapLine, ListLine}
use Rattle.rc_config.specs.declared.lists.ListLine.TheVariants as list_line
use Rattle.rc_config.specs.declared.context.OpenBlock.{OpenBlock}
use Rattle.rc_config.specs.declared.context.OpenBlock.TheVariants as place
use Rattle.rc_config.specs.declared.access_list.Action.TheVariants.{Permit, Deny}
use Rattle.rc_config.specs.declared.map_line.MapLine.TheVariants.{Match, Set}
use Rattle.rc_config.specs.declared.map_line.MatchKind.TheVariants as match_kind
use Rattle.rc_config.specs.declared.map_line.SetLine.TheVariants as set
use Rattle.rc_gram_policy.specs.Refused.{refused_in_entry, refused_in_list}
use Rattle.rc_grammar.specs.File.{open_after}
use Rattle.rc_grammar.specs.Grammars.{Answer, says}

-- the seventh line of a file that said nothing before
abbrev pub Says : OpenBlock → List ℕ → Answer → Type 0
Says at text answer = says at empty 7 (words_of text) ≡ answer

-- the block of an entry
abbrev pub in_map : OpenBlock
in_map = place.Map (codes "M") 10

-- without indent
pub lists :
    Says place.Global (codes "ip prefix-list P seq 7 deny 10.1.2.3/8")
    (Ok (ListLine (codes "P") (list_line.PrefixLine (record { sequence = 7; action = Deny; prefix = record { network = 0x0a000000; len = 8 }; ge = None; le = None }))))
    × Says place.Global (codes "ip community-list 07 permit 1:2") (Ok (ListLine (codes "7") (list_line.CommunityLine (record { action = Permit; communities = 65538 ∷ [] }))))
    × Says place.Global (codes "ip community-list standard 7 deny 1:2") (Ok (ListLine (codes "7") (list_line.CommunityLine (record { action = Deny; communities = 65538 ∷ [] }))))
    × Says place.Global (codes "ip prefix-list P description of nothing") (Ok Passed)
    × Says place.Global (codes "ip community-list expanded 100 permit 1") (Err Unsupported)
unfolding access_list access_list_forms access_list_refused access_list_ignored bgp bgp_forms bgp_refused bgp_ignored global global_forms global_refused global_ignored interface interface_forms interface_refused interface_ignored ospf ospf_forms ospf_refused ospf_ignored route_map route_map_forms route_map_refused route_map_ignored decisive_row decided words_of digits refused_in_entry refused_in_list
lists = (refl, refl, refl, refl, refl)

-- an entry, and lines in its block and elsewhere
pub entries :
    Says place.Global (codes "route-map M deny 10") (Ok (MapOpened (codes "M") 10 Deny))
    × Says in_map (codes " match ip address prefix-list P") (Ok (MapLine (codes "M") 10 (Match match_kind.PrefixList (codes "P" ∷ []) 7)))
    × Says in_map (codes " set weight 5") (Ok (MapLine (codes "M") 10 (Set (set.Weight 5))))
    × Says in_map (codes " set tag 5") (Ok Passed)
    × Says in_map (codes " set origin egp") (Err Unsupported)
    × Says in_map (codes " bandwidth 10") (Err OutOfPlace)
    × Says (place.Interface (codes "Serial0")) (codes " set weight 5") (Err OutOfPlace)
    × Says place.Closed (codes " set weight 5") (Err OutOfPlace)
unfolding access_list access_list_forms access_list_refused access_list_ignored bgp bgp_forms bgp_refused bgp_ignored global global_forms global_refused global_ignored interface interface_forms interface_refused interface_ignored ospf ospf_forms ospf_refused ospf_ignored route_map route_map_forms route_map_refused route_map_ignored decisive_row decided words_of digits refused_in_entry refused_in_list
entries = (refl, refl, refl, refl, refl, refl, refl, refl)

-- an entry opens its block, and a list none; in the block of an entry its lines leave it open
pub blocks :
    (open_after place.Global (MapOpened (codes "M") 10 Deny) ≡ in_map)
    × (open_after place.Global (ListLine (codes "P") (list_line.PrefixLine (record { sequence = 7; action = Deny; prefix = record { network = 0; len = 0 }; ge = None; le = None }))) ≡ place.Closed)
    × (open_after place.Global (ListLine (codes "C") (list_line.CommunityLine (record { action = Deny; communities = [] }))) ≡ place.Closed)
    × (open_after in_map (MapLine (codes "M") 10 (Set (set.Weight 5))) ≡ in_map)
blocks = (refl, refl, refl, refl)
