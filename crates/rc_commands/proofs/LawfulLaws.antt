-- A command whose values are in range keeps a file's interfaces lawful.
use Rattle.std.proofs.Common.{◌≡◌, ℕ, Bool, true, false, not, filter, cond, List, [], ◌∷◌, ◌++◌, Option, Some, None, Result, Ok, Err, OnOk, IsSome, refl, sym, subst, arith}
use Rattle.std.specs.Prelude.{All, IfSome, unwrap_or}
use Rattle.std.specs.declared.alloc.AllocError.{AllocError}
use Rattle.std.specs.Option.{option_map, option_map_or}
use Rattle.std.proofs.lemmas.List.Elements.{All-nil, All-cons, All-filter, All-head, All-tail, All-push}
use Rattle.std.specs.Cmp.Lexicographic.{bytes_decides}
use Rattle.rc_base.specs.Name.{same_name}
use Rattle.rc_config.specs.declared.command.Command.{Command}
use Rattle.rc_config.specs.declared.command.Command.TheVariants.{Interface, InterfaceLine, StaticRoute, ListLine, MapOpened, MapLine, OspfOpened, OspfLine, BgpOpened, BgpLine}
use Rattle.rc_config.specs.declared.access_list.AccessListKind.{AccessListKind}
use Rattle.rc_config.specs.declared.bgp.BgpLine.{BgpLine as BgpRow}
use Rattle.rc_config.specs.declared.bgp.BgpLine.TheVariants as bgp_line
use Rattle.rc_config.specs.declared.bgp.BgpProcess.{BgpProcess}
use Rattle.rc_config.specs.declared.peering.Peer.TheVariants as whom
use Rattle.rc_config.specs.declared.interface.Direction.{Direction}
use Rattle.rc_config.specs.declared.interface.Direction.TheVariants.{In, Out}
use Rattle.rc_config.specs.declared.interface.IfAddr.{IfAddr}
use Rattle.rc_config.specs.declared.interface.Interface.{Interface as Block}
use Rattle.rc_config.specs.declared.interface.InterfaceLine.{InterfaceLine as InterfaceRow}
use Rattle.rc_config.specs.declared.interface.InterfaceLine.TheVariants as interface_line
use Rattle.rc_config.specs.declared.lists.ListLine.{ListLine as ListRow}
use Rattle.rc_config.specs.declared.lists.ListLine.TheVariants as list_line
use Rattle.rc_config.specs.declared.ospf.OspfArea.{OspfArea}
use Rattle.rc_config.specs.declared.ospf.OspfLine.{OspfLine as OspfRow}
use Rattle.rc_config.specs.declared.ospf.OspfLine.TheVariants.{RouterId, Network, PassiveDefault, Passive, ReferenceBandwidth, Stub, Redistribute, DefaultInformation}
use Rattle.rc_config.specs.declared.ospf.OspfProcess.{OspfProcess}
use Rattle.rc_config.specs.declared.ospf.OspfSetting.{OspfSetting}
use Rattle.rc_config.specs.declared.ospf.OspfSetting.TheVariants.{Cost, HelloInterval, DeadInterval, NetworkType, Area}
use Rattle.rc_config.specs.declared.ospf.OspfSettings.{OspfSettings}
use Rattle.rc_config.specs.declared.ospf.Redistribution.{Redistribution}
use Rattle.rc_config.specs.declared.router_text.RouterText.{RouterText}
use Rattle.rc_config.specs.declared.static_route.StaticRoute.{StaticRoute as Route}
use Rattle.rc_config.specs.IfType.{type_of}
use Rattle.rc_config.specs.Bgp.{address_of as neighbor_address, with_line as with_bgp_line, IsAsn, IsLawfulBgp, IsLawfulBgpLine}
use Rattle.rc_config.specs.AccessList.{IsLawfulAccessList, IsLawfulLine}
use Rattle.rc_config.specs.Interface.{fresh, with_address, with_group, with_line as with_block_line}
use Rattle.rc_config.specs.LawfulInterface.{IsLawfulInterface, IsLawfulInterfaceLine}
use Rattle.rc_config.specs.Lawful.{HasLawfulInterfaces, HasLawfulRoutes, HasLawfulLists, HasLawfulOspf, HasLawfulBgp, IsDistance, IsInRange, IsLawfulFile, FitsFile}
use Rattle.rc_config.specs.Lists.{access_list_named, prefix_list_named, with_access_list_line, with_line as with_list_line, with_prefix_line, FitsLists, IsLawfulListLine}
use Rattle.rc_config.specs.Ospf.{area_of, is_same_source, no_settings, process_of, with_redistribution, with_setting, with_line as with_ospf_line, IsLawfulOspf, IsLawfulOspfLine, IsLawfulProcess, IsLawfulSetting, IsOspfNumber, IsRedistribution, IsStubArea}
use Rattle.rc_config.specs.PrefixList.{IsLawfulLine as IsLawfulPrefixLine, IsLawfulList as IsLawfulPrefixList}
use Rattle.rc_config.specs.RouteMap.{IsLawfulMap}
use Rattle.rc_config.specs.declared.access_list.AccessListLine.{AccessListLine as AccessListRow}
use Rattle.rc_config.specs.declared.lists.Lists.{Lists}
use Rattle.rc_config.specs.declared.prefix_list.PrefixLine.{PrefixLine as PrefixRow}
use Rattle.rc_config.specs.MaskedAddr.{IsMaskLen}
use Rattle.rc_config.specs.Named.{named, with_value}
use Rattle.rc_config.specs.Update.{after, bgp_opened, interface_named, ospf_opened, route_map_named, settled_router}
use Rattle.rc_commands.proofs.SettleLaws.{settled_lawful}
use Rattle.rc_commands.proofs.PlacedLaws.{placed_in_order}
use Rattle.rc_config.proofs.AccessListLaws.{no_lines_lawful}
use Rattle.rc_commands.proofs.AccessListLaws.{placed_lawful}
use Rattle.rc_commands.proofs.PlacedLaws.{placed-All}
use Rattle.rc_config.proofs.PolicyLaws.{no_entries_lawful, no_lines_lawful as no_prefix_lines_lawful}
use Rattle.rc_commands.proofs.PolicyLaws.{line_lawful as prefix_line_lawful, map_line_lawful, opened_lawful}

module _ {V : Type 0} (P : List ℕ → V → Type 0) where
  -- what holds of each value under its name, and of a value under a name, holds after that value is put there
  All-with_value : (es : List (List ℕ × V)) (name : List ℕ) (v : V) → All (λ e. P e.0 e.1) es → P name v → All (λ e. P e.0 e.1) (with_value es name v)
  All-with_value [] name v h p = All-cons (λ e. P e.0 e.1) (name, v) [] p (All-nil (λ e. P e.0 e.1))
  All-with_value (e ∷ es) name v h p = by (same_name name e.0) refl (All-with_value es name v (All-tail (λ e. P e.0 e.1) e es h) p)
    where
      by : (b : Bool) → same_name name e.0 ≡ b → All (λ e. P e.0 e.1) (with_value es name v) → All (λ e. P e.0 e.1) (cond b ((e.0, v) ∷ es) (e ∷ with_value es name v))
      by true q rest = All-cons (λ e. P e.0 e.1) (e.0, v) es (subst (λ n. P n v) ((bytes_decides name e.0).0 q) p) (All-tail (λ e. P e.0 e.1) e es h)
      by false q rest = All-cons (λ e. P e.0 e.1) e (with_value es name v) (All-head (λ e. P e.0 e.1) e es h) rest

  -- and of the value that is found under a name, or of the one that stands for it
  named-or : (es : List (List ℕ × V)) (name : List ℕ) (d : V) → All (λ e. P e.0 e.1) es → P name d → P name (unwrap_or (named es name) d)
  named-or [] name d h p = p
  named-or (e ∷ es) name d h p = by (same_name name e.0) refl (named-or es name d (All-tail (λ e. P e.0 e.1) e es h) p)
    where
      by : (b : Bool) → same_name name e.0 ≡ b → P name (unwrap_or (named es name) d) → P name (unwrap_or (cond b (Some e.1) (named es name)) d)
      by true q rest = subst (λ n. P n e.1) (sym ((bytes_decides name e.0).0 q)) (All-head (λ e. P e.0 e.1) e es h)
      by false q rest = rest

unset-lawful : IsLawfulOspf no_settings
unset-lawful = record { cost = tt; hello = tt; dead = tt; areas = All-nil (λ (a : OspfArea). IsOspfNumber a.process) }

fresh-lawful : (name : List ℕ) → IsLawfulInterface name fresh
fresh-lawful name = record { has_type = λ some. absurd (some refl); masks = All-nil (λ (a : IfAddr). IsMaskLen a.len); bandwidth = tt; ospf = unset-lawful }

block-lawful : (r : RouterText) (name : List ℕ) → HasLawfulInterfaces r → IsLawfulInterface name (interface_named r name)
block-lawful r name h = named-or IsLawfulInterface r.interfaces name fresh h (fresh-lawful name)

abbrev AllMasks : List IfAddr → Type 0
AllMasks = All (λ (a : IfAddr). IsMaskLen a.len)

-- the masks of the secondary addresses, where the primary one is there or not
secondary-masks : (primary : Option IfAddr) (more : List IfAddr) → AllMasks (option_map_or (λ a. a ∷ []) primary [] ++ more) → AllMasks more
secondary-masks None more h = h
secondary-masks (Some p) more h = All-tail (λ (a : IfAddr). IsMaskLen a.len) p more h

more-masks : (primary : Option IfAddr) (more : List IfAddr) (a : IfAddr) → IsMaskLen a.len → AllMasks (option_map_or (λ a. a ∷ []) primary [] ++ more)
    → AllMasks (option_map_or (λ a. a ∷ []) primary [] ++ (more ++ a ∷ []))
more-masks None more a m h = All-push (λ (a : IfAddr). IsMaskLen a.len) more a h m
more-masks (Some p) more a m h = All-push (λ (a : IfAddr). IsMaskLen a.len) (p ∷ more) a h m

address-lawful : (name : List ℕ) (i : Block) (a : IfAddr) (secondary : Bool) → IsSome (type_of name) → IsMaskLen a.len → IsLawfulInterface name i
    → IsLawfulInterface name (with_address i a secondary)
address-lawful name i a true t m h = record { has_type = λ _. t; masks = more-masks i.primary i.secondary a m h.masks; bandwidth = h.bandwidth; ospf = h.ospf }
address-lawful name i a false t m h = record {
  has_type = λ _. t;
  masks = All-cons (λ (a : IfAddr). IsMaskLen a.len) a i.secondary m (secondary-masks i.primary i.secondary h.masks);
  bandwidth = h.bandwidth;
  ospf = h.ospf;
}

group-lawful : (name : List ℕ) (i : Block) (list : List ℕ) (direction : Direction) → IsLawfulInterface name i → IsLawfulInterface name (with_group i list direction)
group-lawful name i list In h = record { has_type = h.has_type; masks = h.masks; bandwidth = h.bandwidth; ospf = h.ospf }
group-lawful name i list Out h = record { has_type = h.has_type; masks = h.masks; bandwidth = h.bandwidth; ospf = h.ospf }

set-lawful : (s : OspfSettings) (setting : OspfSetting) → IsLawfulOspf s → IsLawfulSetting setting → IsLawfulOspf (with_setting s setting)
set-lawful s (Cost n) h k = record { cost = k; hello = h.hello; dead = h.dead; areas = h.areas }
set-lawful s (HelloInterval n) h k = record { cost = h.cost; hello = k; dead = h.dead; areas = h.areas }
set-lawful s (DeadInterval n) h k = record { cost = h.cost; hello = h.hello; dead = k; areas = h.areas }
set-lawful s (NetworkType type) h k = record { cost = h.cost; hello = h.hello; dead = h.dead; areas = h.areas }
set-lawful s (Area area) h k = record {
  cost = h.cost;
  hello = h.hello;
  dead = h.dead;
  areas = placed-All process_of (λ (a : OspfArea). IsOspfNumber a.process) area s.areas k h.areas;
}

interface_line-lawful : (name : List ℕ) (i : Block) (line : InterfaceRow) → IsLawfulInterface name i → IsLawfulInterfaceLine name line → IsLawfulInterface name (with_block_line i line)
interface_line-lawful name i (interface_line.Address a secondary) h k = address-lawful name i a secondary k.0 k.1 h
interface_line-lawful name i (interface_line.Shutdown down) h k = record { has_type = h.has_type; masks = h.masks; bandwidth = h.bandwidth; ospf = h.ospf }
interface_line-lawful name i (interface_line.Bandwidth kbits) h k = record { has_type = h.has_type; masks = h.masks; bandwidth = k; ospf = h.ospf }
interface_line-lawful name i (interface_line.AccessGroup list direction) h k = group-lawful name i list direction h
interface_line-lawful name i (interface_line.Ospf setting) h k = record { has_type = h.has_type; masks = h.masks; bandwidth = h.bandwidth; ospf = set-lawful _ setting h.ospf k }

after-lawful : (r : RouterText) (c : Command) → HasLawfulInterfaces r → IsInRange c → HasLawfulInterfaces (after r c)
after-lawful r (Interface name line) h k = All-with_value IsLawfulInterface r.interfaces name _ h (block-lawful r name h)
after-lawful r (InterfaceLine name line) h k = All-with_value IsLawfulInterface r.interfaces name _ h (interface_line-lawful name (interface_named r name) line (block-lawful r name h) k)
after-lawful r c h k = h

-- and its static routes
after-routes : (r : RouterText) (c : Command) → HasLawfulRoutes r → IsInRange c → HasLawfulRoutes (after r c)
after-routes r (StaticRoute route) h k = All-push (λ (s : Route). IsDistance s.distance) r.static_routes route h k
after-routes r c h k = h

-- and its OSPF process
redistributed-lawful : (known : List Redistribution) (line : Redistribution) → All IsRedistribution known → IsRedistribution line → All IsRedistribution (with_redistribution known line)
redistributed-lawful known line h k =
    All-push IsRedistribution (filter (λ (other : Redistribution). not (is_same_source other.source line.source)) known) line
    (All-filter (λ (other : Redistribution). not (is_same_source other.source line.source)) IsRedistribution known h) k

process-lawful : (p : OspfProcess) (line : OspfRow) → IsLawfulProcess p → IsLawfulOspfLine line → IsLawfulProcess (with_ospf_line p line)
process-lawful p (RouterId id) h k = record { process = h.process; reference_bandwidth = h.reference_bandwidth; stub_areas = h.stub_areas; redistributions = h.redistributions }
process-lawful p (Network network) h k = record { process = h.process; reference_bandwidth = h.reference_bandwidth; stub_areas = h.stub_areas; redistributions = h.redistributions }
process-lawful p PassiveDefault h k = record { process = h.process; reference_bandwidth = h.reference_bandwidth; stub_areas = h.stub_areas; redistributions = h.redistributions }
process-lawful p (Passive interface passive) h k = record { process = h.process; reference_bandwidth = h.reference_bandwidth; stub_areas = h.stub_areas; redistributions = h.redistributions }
process-lawful p (ReferenceBandwidth mbits) h k = record { process = h.process; reference_bandwidth = k; stub_areas = h.stub_areas; redistributions = h.redistributions }
process-lawful p (Stub area) h k = record {
  process = h.process;
  reference_bandwidth = h.reference_bandwidth;
  stub_areas = placed-All area_of IsStubArea area p.stub_areas k h.stub_areas;
  redistributions = h.redistributions;
}
process-lawful p (Redistribute line) h k = record {
  process = h.process;
  reference_bandwidth = h.reference_bandwidth;
  stub_areas = h.stub_areas;
  redistributions = redistributed-lawful p.redistributions line h.redistributions k;
}
process-lawful p (DefaultInformation line) h k = record { process = h.process; reference_bandwidth = h.reference_bandwidth; stub_areas = h.stub_areas; redistributions = h.redistributions }

opened-lawful : (ospf : Option OspfProcess) (n : ℕ) → IfSome ospf IsLawfulProcess → IsOspfNumber n → IsLawfulProcess (ospf_opened ospf n)
opened-lawful None n h k = record { process = k; reference_bandwidth = (omega arith, omega arith); stub_areas = All-nil IsStubArea; redistributions = All-nil IsRedistribution }
opened-lawful (Some p) n h k = h

lined-lawful : (ospf : Option OspfProcess) (line : OspfRow) → IfSome ospf IsLawfulProcess → IsLawfulOspfLine line → IfSome (option_map (λ p. with_ospf_line p line) ospf) IsLawfulProcess
lined-lawful None line h k = tt
lined-lawful (Some p) line h k = process-lawful p line h k

after-ospf : (r : RouterText) (c : Command) → HasLawfulOspf r → IsInRange c → HasLawfulOspf (after r c)
after-ospf r (OspfOpened process) h k = opened-lawful r.ospf process h k
after-ospf r (OspfLine line) h k = lined-lawful r.ospf line h k
after-ospf r c h k = h

-- and its BGP process
bgp_line-lawful : (p : BgpProcess) (line : BgpRow) → IsLawfulBgp p → IsLawfulBgpLine line → IsLawfulBgp (with_bgp_line p line)
bgp_line-lawful p (bgp_line.RouterId id) h k = record { asn = h.asn; external_paths = h.external_paths; internal_paths = h.internal_paths; in_order = h.in_order }
bgp_line-lawful p (bgp_line.MaximumExternalPaths number) h k = record { asn = h.asn; external_paths = k; internal_paths = h.internal_paths; in_order = h.in_order }
bgp_line-lawful p (bgp_line.MaximumInternalPaths number) h k = record { asn = h.asn; external_paths = h.external_paths; internal_paths = k; in_order = h.in_order }
bgp_line-lawful p (bgp_line.Network prefix) h k = record { asn = h.asn; external_paths = h.external_paths; internal_paths = h.internal_paths; in_order = h.in_order }
bgp_line-lawful p (bgp_line.Setting (whom.Address address) setting) h k = record {
  asn = h.asn;
  external_paths = h.external_paths;
  internal_paths = h.internal_paths;
  in_order = placed_in_order neighbor_address _ p.neighbors h.in_order;
}
bgp_line-lawful p (bgp_line.Setting (whom.Group name) setting) h k = record { asn = h.asn; external_paths = h.external_paths; internal_paths = h.internal_paths; in_order = h.in_order }
bgp_line-lawful p (bgp_line.Active (whom.Address address) is_active) h k = record { asn = h.asn; external_paths = h.external_paths; internal_paths = h.internal_paths; in_order = h.in_order }
bgp_line-lawful p (bgp_line.Active (whom.Group name) is_active) h k = record { asn = h.asn; external_paths = h.external_paths; internal_paths = h.internal_paths; in_order = h.in_order }
bgp_line-lawful p (bgp_line.GroupDeclared name) h k = record { asn = h.asn; external_paths = h.external_paths; internal_paths = h.internal_paths; in_order = h.in_order }
bgp_line-lawful p (bgp_line.MemberOf address name) h k = record {
  asn = h.asn;
  external_paths = h.external_paths;
  internal_paths = h.internal_paths;
  in_order = placed_in_order neighbor_address _ p.neighbors h.in_order;
}
bgp_line-lawful p bgp_line.InactiveByDefault h k = record { asn = h.asn; external_paths = h.external_paths; internal_paths = h.internal_paths; in_order = h.in_order }
bgp_line-lawful p (bgp_line.RedistributeConnected r) h k = record { asn = h.asn; external_paths = h.external_paths; internal_paths = h.internal_paths; in_order = h.in_order }
bgp_line-lawful p (bgp_line.RedistributeStatic r) h k = record { asn = h.asn; external_paths = h.external_paths; internal_paths = h.internal_paths; in_order = h.in_order }
bgp_line-lawful p (bgp_line.RedistributeOspf r) h k = record { asn = h.asn; external_paths = h.external_paths; internal_paths = h.internal_paths; in_order = h.in_order }

bgp_opened-lawful : (bgp : Option BgpProcess) (asn : ℕ) → IfSome bgp IsLawfulBgp → IsAsn asn → IsLawfulBgp (bgp_opened bgp asn)
bgp_opened-lawful None asn h k = record { asn = k; external_paths = (omega arith, omega arith); internal_paths = (omega arith, omega arith); in_order = λ i j d less within. absurd (omega arith) }
bgp_opened-lawful (Some p) asn h k = h

bgp_lined-lawful : (bgp : Option BgpProcess) (line : BgpRow) → IfSome bgp IsLawfulBgp → IsLawfulBgpLine line → IfSome (option_map (λ p. with_bgp_line p line) bgp) IsLawfulBgp
bgp_lined-lawful None line h k = tt
bgp_lined-lawful (Some p) line h k = bgp_line-lawful p line h k

after-bgp : (r : RouterText) (c : Command) → HasLawfulBgp r → IsInRange c → HasLawfulBgp (after r c)
after-bgp r (BgpOpened asn) h k = bgp_opened-lawful r.bgp asn h k
after-bgp r (BgpLine line) h k = bgp_lined-lawful r.bgp line h k
after-bgp r c h k = h

-- and its lists and route maps, where the command fits the file
abbrev AreLawfulAccessLists : Lists → Type 0
AreLawfulAccessLists l = All (λ e. IsLawfulAccessList e.1) l.access_lists

access_list-lawful : (l : Lists) (name : List ℕ) (kind : AccessListKind) → AreLawfulAccessLists l → IsLawfulAccessList (access_list_named l name kind)
access_list-lawful l name kind h = named-or (λ n f. IsLawfulAccessList f) l.access_lists name _ h (no_lines_lawful kind)

access_list_line-lawful : (l : Lists) (name : List ℕ) (kind : AccessListKind) (line : AccessListRow) → AreLawfulAccessLists l → IsLawfulLine kind line → (access_list_named l name kind).kind ≡ kind
    → AreLawfulAccessLists (with_access_list_line l name kind line)
access_list_line-lawful l name kind line h k same =
    let of_kind : IsLawfulLine (access_list_named l name kind).kind line = subst (λ (at : AccessListKind). IsLawfulLine at line) (sym same) k in
    All-with_value (λ n g. IsLawfulAccessList g) l.access_lists name _ h (placed_lawful (access_list_named l name kind) line (access_list-lawful l name kind h) of_kind)

prefix_line-lawful : (l : Lists) (name : List ℕ) (line : PrefixRow) → All (λ e. IsLawfulPrefixList e.1) l.prefix_lists → IsLawfulPrefixLine line
    → All (λ e. IsLawfulPrefixList e.1) (with_prefix_line l name line).prefix_lists
prefix_line-lawful l name line h k =
    All-with_value (λ n p. IsLawfulPrefixList p) l.prefix_lists name _ h (prefix_line_lawful (prefix_list_named l name) line (named-or (λ n p. IsLawfulPrefixList p) l.prefix_lists name _ h no_prefix_lines_lawful) k)

map-lawful : (r : RouterText) (name : List ℕ) → HasLawfulLists r → IsLawfulMap (route_map_named r name)
map-lawful r name h = named-or (λ n m. IsLawfulMap m) r.route_maps name _ h.route_maps no_entries_lawful

list_line-lawful : (r : RouterText) (name : List ℕ) (line : ListRow) → HasLawfulLists r → IsLawfulListLine line → FitsLists r.lists name line
    → HasLawfulLists (record r { lists = with_list_line r.lists name line })
list_line-lawful r name (list_line.AccessListOpened kind) h k f = record {
  access_lists = All-with_value (λ n g. IsLawfulAccessList g) r.lists.access_lists name _ h.access_lists (access_list-lawful r.lists name kind h.access_lists);
  prefix_lists = h.prefix_lists;
  route_maps = h.route_maps;
}
list_line-lawful r name (list_line.AccessListLine kind line) h k f = record {
  access_lists = access_list_line-lawful r.lists name kind line h.access_lists k f.0;
  prefix_lists = h.prefix_lists;
  route_maps = h.route_maps;
}
list_line-lawful r name (list_line.PrefixLine line) h k f = record {
  access_lists = h.access_lists;
  prefix_lists = prefix_line-lawful r.lists name line h.prefix_lists k;
  route_maps = h.route_maps;
}
list_line-lawful r name (list_line.CommunityLine line) h k f = record { access_lists = h.access_lists; prefix_lists = h.prefix_lists; route_maps = h.route_maps }

after-lists : (r : RouterText) (c : Command) → HasLawfulLists r → IsInRange c → FitsFile r c → HasLawfulLists (after r c)
after-lists r (ListLine name line) h k f = list_line-lawful r name line h k f
after-lists r (MapOpened name n action) h k f = record {
  access_lists = h.access_lists;
  prefix_lists = h.prefix_lists;
  route_maps = All-with_value (λ s m. IsLawfulMap m) r.route_maps name _ h.route_maps (opened_lawful (route_map_named r name) n action (map-lawful r name h) k);
}
after-lists r (MapLine name n line) h k f = record {
  access_lists = h.access_lists;
  prefix_lists = h.prefix_lists;
  route_maps = All-with_value (λ s m. IsLawfulMap m) r.route_maps name _ h.route_maps (map_line_lawful (route_map_named r name) n line (map-lawful r name h) k);
}
after-lists r c h k f = record { access_lists = h.access_lists; prefix_lists = h.prefix_lists; route_maps = h.route_maps }

-- what a call leaves that makes just this model, or runs out of memory
pub put-lawful : {T : Type 0} (result : Result T AllocError) (r n : RouterText) (c : Command) → OnOk result (n ≡ after r c)
    → OnOk result (HasLawfulInterfaces r → IsInRange c → HasLawfulInterfaces n)
put-lawful (Ok x) r n c e = λ h k. subst HasLawfulInterfaces (sym e) (after-lawful r c h k)
put-lawful (Err x) r n c e = e

pub put-routes : {T : Type 0} (result : Result T AllocError) (r n : RouterText) (c : Command) → OnOk result (n ≡ after r c)
    → OnOk result (HasLawfulRoutes r → IsInRange c → HasLawfulRoutes n)
put-routes (Ok x) r n c e = λ h k. subst HasLawfulRoutes (sym e) (after-routes r c h k)
put-routes (Err x) r n c e = e

pub put-lists : {T : Type 0} (result : Result T AllocError) (r n : RouterText) (c : Command) → OnOk result (n ≡ after r c)
    → OnOk result (HasLawfulLists r → IsInRange c → FitsFile r c → HasLawfulLists n)
put-lists (Ok x) r n c e = λ h k f. subst HasLawfulLists (sym e) (after-lists r c h k f)
put-lists (Err x) r n c e = e

pub put-ospf : {T : Type 0} (result : Result T AllocError) (r n : RouterText) (c : Command) → OnOk result (n ≡ after r c)
    → OnOk result (HasLawfulOspf r → IsInRange c → HasLawfulOspf n)
put-ospf (Ok x) r n c e = λ h k. subst HasLawfulOspf (sym e) (after-ospf r c h k)
put-ospf (Err x) r n c e = e

pub put-bgp : {T : Type 0} (result : Result T AllocError) (r n : RouterText) (c : Command) → OnOk result (n ≡ after r c)
    → OnOk result (HasLawfulBgp r → IsInRange c → HasLawfulBgp n)
put-bgp (Ok x) r n c e = λ h k. subst HasLawfulBgp (sym e) (after-bgp r c h k)
put-bgp (Err x) r n c e = e

-- and once its neighbours are settled
pub put-settled : {T : Type 0} (result : Result T AllocError) (r n : RouterText) → OnOk result (n ≡ settled_router r) → OnOk result (IsLawfulFile r → IsLawfulFile n)
put-settled (Ok x) r n e = λ h. subst IsLawfulFile (sym e) (settled_lawful r h)
put-settled (Err x) r n e = e
