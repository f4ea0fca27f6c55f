-- What the lines of the BGP process say of it, of its neighbours and of its peer groups: of each value the last line counts that says it, and no other
-- line matters.
use Rattle.std.proofs.Common.{◌≡◌, ◌∙◌, ap, refl, sym, subst, ℕ, ◌==◌, Bool, true, false, cond, List, [], ◌++◌, Option, Some, None}
use Rattle.std.specs.Prelude.{unwrap_or}
use Rattle.std.specs.List.{cons_option, filter_map, fold}
use Rattle.std.specs.Map.{keys_of}
use Rattle.std.specs.Option.{option_map, option_map_or, option_or}
use Rattle.std.proofs.lemmas.Bool.{eqb-true}
use Rattle.indexmap.specs.IndexSet.{insert_key}
use Rattle.rc_config.proofs.NamedLaws.{keys_with_value}
use Rattle.rc_base.specs.Name.{same_name}
use Rattle.rc_commands.specs.LastLine as said
use Rattle.rc_commands.specs.BgpLines as said_of_bgp
use Rattle.rc_commands.specs.BgpLines.{IsBgpByLines, IsSettingsByLines}
use Rattle.rc_config.specs.Bgp as bgp
use Rattle.rc_config.specs.ByNumber.{placed, with_number}
use Rattle.rc_config.specs.Named.{named}
use Rattle.rc_config.specs.Peering.{activity_address, group_named, member_address, no_group, own_activity, with_group}
use Rattle.rc_config.specs.Settings.{no_settings, with_setting}
use Rattle.rc_config.specs.Update.{after}
use Rattle.rc_config.specs.declared.bgp.BgpLine.{BgpLine}
use Rattle.rc_config.specs.declared.bgp.BgpLine.TheVariants as bgp_line
use Rattle.rc_config.specs.declared.bgp.BgpProcess.{BgpProcess}
use Rattle.rc_config.specs.declared.bgp.Neighbor.{Neighbor}
use Rattle.rc_config.specs.declared.bgp.NeighborSetting.{NeighborSetting}
use Rattle.rc_config.specs.declared.bgp.NeighborSetting.TheVariants as peer
use Rattle.rc_config.specs.declared.command.Command.{Command}
use Rattle.rc_config.specs.declared.command.Command.TheVariants as command
use Rattle.rc_config.specs.declared.interface.Direction.TheVariants.{In, Out}
use Rattle.rc_config.specs.declared.peering.Activity.{Activity}
use Rattle.rc_config.specs.declared.peering.Group.{Group}
use Rattle.rc_config.specs.declared.peering.Member.{Member}
use Rattle.rc_config.specs.declared.peering.Peer.TheVariants as whom
use Rattle.rc_config.specs.declared.peering.Peering.{Peering}
use Rattle.rc_config.specs.declared.router_text.RouterText.{RouterText}
use Rattle.rc_config.specs.declared.settings.Settings.{Settings}
use Rattle.rc_commands.proofs.PlacedLaws.{found_number}
use Rattle.rc_commands.proofs.SaidLaws.{all-in-order, all-in-turn, either-way, found-placed, kept, last-counts, last-or-default, named-change, nothing-more, number-said, opened}

-- ---- the BGP process
abbrev pub bgp_after : BgpProcess → Command → BgpProcess
bgp_after p (command.BgpLine line) = bgp.with_line p line
bgp_after p _ = p

pub bgp-step : (r : RouterText) (c : Command) → (after r c).bgp ≡ option_map (λ p. bgp_after p c) (opened bgp.no_lines r.bgp (said.asn_said c))
bgp-step r (command.BgpOpened n) = by r.bgp
  where
    by : (g : Option BgpProcess) → Some (unwrap_or g (bgp.no_lines n)) ≡ option_map (λ p. p) (opened bgp.no_lines g (Some n))
    by None = refl
    by (Some p) = refl
bgp-step r (command.BgpLine line) = by r.bgp
  where
    by : (g : Option BgpProcess) → option_map (λ p. bgp.with_line p line) g ≡ option_map (λ p. bgp.with_line p line) (opened bgp.no_lines g None)
    by None = refl
    by (Some p) = refl
bgp-step r c = kept bgp.no_lines r.bgp

abbrev pub asn_at : Option BgpProcess → Option ℕ
asn_at o = option_map (λ p. p.asn) o

line-asn : (p : BgpProcess) (c : Command) → (bgp_after p c).asn ≡ p.asn
line-asn p (command.BgpLine (bgp_line.RouterId id)) = refl
line-asn p (command.BgpLine (bgp_line.Setting (whom.Address a) s)) = refl
line-asn p (command.BgpLine (bgp_line.Setting (whom.Group name) s)) = refl
line-asn p c = refl

pub asn-step : (r : RouterText) (c : Command) → asn_at (after r c).bgp ≡ option_or (asn_at r.bgp) (said.asn_said c)
asn-step r c = ap asn_at (bgp-step r c) ∙ by r.bgp (said.asn_said c)
  where
    by : (g : Option BgpProcess) (o : Option ℕ) → asn_at (option_map (λ p. bgp_after p c) (opened bgp.no_lines g o)) ≡ option_or (asn_at g) o
    by None None = refl
    by None (Some n) = ap Some (line-asn (bgp.no_lines n) c)
    by (Some p) o = ap Some (line-asn p c)

bgp_router_id-step : (p : BgpProcess) (l : BgpLine) → (bgp.with_line p l).router_id ≡ option_or (said_of_bgp.bgp_router_id_said l) p.router_id
bgp_router_id-step p (bgp_line.RouterId id) = refl
bgp_router_id-step p (bgp_line.Setting (whom.Address a) s) = refl
bgp_router_id-step p (bgp_line.Setting (whom.Group name) s) = refl
bgp_router_id-step p (bgp_line.Active (whom.Address a) is_active) = refl
bgp_router_id-step p (bgp_line.Active (whom.Group name) is_active) = refl
bgp_router_id-step p l = refl

external_paths-step : (p : BgpProcess) (l : BgpLine) → (bgp.with_line p l).maximum_paths.external ≡ unwrap_or (said_of_bgp.external_paths_said l) p.maximum_paths.external
external_paths-step p (bgp_line.MaximumExternalPaths number) = refl
external_paths-step p (bgp_line.MaximumInternalPaths number) = refl
external_paths-step p (bgp_line.Setting (whom.Address a) s) = refl
external_paths-step p (bgp_line.Setting (whom.Group name) s) = refl
external_paths-step p (bgp_line.Active (whom.Address a) is_active) = refl
external_paths-step p (bgp_line.Active (whom.Group name) is_active) = refl
external_paths-step p l = refl

internal_paths-step : (p : BgpProcess) (l : BgpLine) → (bgp.with_line p l).maximum_paths.internal ≡ unwrap_or (said_of_bgp.internal_paths_said l) p.maximum_paths.internal
internal_paths-step p (bgp_line.MaximumExternalPaths number) = refl
internal_paths-step p (bgp_line.MaximumInternalPaths number) = refl
internal_paths-step p (bgp_line.Setting (whom.Address a) s) = refl
internal_paths-step p (bgp_line.Setting (whom.Group name) s) = refl
internal_paths-step p (bgp_line.Active (whom.Address a) is_active) = refl
internal_paths-step p (bgp_line.Active (whom.Group name) is_active) = refl
internal_paths-step p l = refl

bgp_networks-step : (p : BgpProcess) (l : BgpLine) → (bgp.with_line p l).networks ≡ p.networks ++ cons_option (said_of_bgp.bgp_network_said l) []
bgp_networks-step p (bgp_line.Network prefix) = refl
bgp_networks-step p (bgp_line.Setting (whom.Address a) s) = nothing-more p.networks
bgp_networks-step p (bgp_line.Setting (whom.Group name) s) = nothing-more p.networks
bgp_networks-step p (bgp_line.Active (whom.Address a) is_active) = nothing-more p.networks
bgp_networks-step p (bgp_line.Active (whom.Group name) is_active) = nothing-more p.networks
bgp_networks-step p l = nothing-more p.networks

connected-step : (p : BgpProcess) (l : BgpLine) → (bgp.with_line p l).redistributions.connected ≡ option_or (said_of_bgp.redistributed_connected_said l) p.redistributions.connected
connected-step p (bgp_line.RedistributeConnected line) = refl
connected-step p (bgp_line.Setting (whom.Address a) s) = refl
connected-step p (bgp_line.Setting (whom.Group name) s) = refl
connected-step p (bgp_line.Active (whom.Address a) is_active) = refl
connected-step p (bgp_line.Active (whom.Group name) is_active) = refl
connected-step p l = refl

static_routes-step : (p : BgpProcess) (l : BgpLine) → (bgp.with_line p l).redistributions.static_routes ≡ option_or (said_of_bgp.redistributed_static_said l) p.redistributions.static_routes
static_routes-step p (bgp_line.RedistributeStatic line) = refl
static_routes-step p (bgp_line.Setting (whom.Address a) s) = refl
static_routes-step p (bgp_line.Setting (whom.Group name) s) = refl
static_routes-step p (bgp_line.Active (whom.Address a) is_active) = refl
static_routes-step p (bgp_line.Active (whom.Group name) is_active) = refl
static_routes-step p l = refl

redistributed_ospf-step : (process : ℕ) (p : BgpProcess) (l : BgpLine) → with_number bgp.process_of process (bgp.with_line p l).redistributions.ospf ≡ option_or (said_of_bgp.redistributed_ospf_said process l) (with_number bgp.process_of process p.redistributions.ospf)
redistributed_ospf-step process p (bgp_line.RedistributeOspf line) = number-said bgp.process_of process line p.redistributions.ospf
redistributed_ospf-step process p (bgp_line.Setting (whom.Address a) s) = refl
redistributed_ospf-step process p (bgp_line.Setting (whom.Group name) s) = refl
redistributed_ospf-step process p (bgp_line.Active (whom.Address a) is_active) = refl
redistributed_ospf-step process p (bgp_line.Active (whom.Group name) is_active) = refl
redistributed_ospf-step process p l = refl

-- ---- neighbours

-- the neighbour of an address, where one is put in its place that keeps the address
found-address : (a : ℕ) (g : Option Neighbor) → ((n : Neighbor) → g ≡ Some n → n.address ≡ a) → (unwrap_or g (bgp.fresh a)).address ≡ a
found-address a None found = refl
found-address a (Some n) found = found n refl

own-address : (a : ℕ) (ns : List Neighbor) → (bgp.neighbor_at ns a).address ≡ a
own-address a ns = found-address a (with_number bgp.address_of a ns) (found_number bgp.address_of a ns)

put-neighbor : (f : Neighbor → Neighbor) → ((n : Neighbor) → (f n).address ≡ n.address) → (address a : ℕ) (ns : List Neighbor)
    → bgp.neighbor_at (placed bgp.address_of (f (bgp.neighbor_at ns a)) ns) address ≡ cond (a == address) (f (bgp.neighbor_at ns address)) (bgp.neighbor_at ns address)
put-neighbor f keeps address a ns =
    ap (λ g. unwrap_or g (bgp.fresh address)) (found-placed bgp.address_of address (f (bgp.neighbor_at ns a)) ns)
    ∙ ap (λ m. unwrap_or (cond (m == address) (Some (f (bgp.neighbor_at ns a))) (with_number bgp.address_of address ns)) (bgp.fresh address))
    (keeps (bgp.neighbor_at ns a) ∙ own-address a ns)
    ∙ by (a == address) refl
  where
    by : (b : Bool) → (a == address) ≡ b → unwrap_or (cond b (Some (f (bgp.neighbor_at ns a))) (with_number bgp.address_of address ns)) (bgp.fresh address)
        ≡ cond b (f (bgp.neighbor_at ns address)) (bgp.neighbor_at ns address)
    by true is = ap (λ m. f (bgp.neighbor_at ns m)) (eqb-true a address is)
    by false other = refl

neighbor-step : (address : ℕ) (p : BgpProcess) (l : BgpLine)
    → (bgp.neighbor_at (bgp.with_line p l).neighbors address).settings
    ≡ option_map_or (with_setting (bgp.neighbor_at p.neighbors address).settings) (said_of_bgp.setting_said address l) (bgp.neighbor_at p.neighbors address).settings
neighbor-step address p (bgp_line.Setting (whom.Address a) s) = ap (λ (n : Neighbor). n.settings) (put-neighbor (λ n. bgp.with_own n s) (λ n. refl) address a p.neighbors) ∙ by (a == address)
  where
    by : (b : Bool) → (cond b (bgp.with_own (bgp.neighbor_at p.neighbors address) s) (bgp.neighbor_at p.neighbors address)).settings
        ≡ option_map_or (with_setting (bgp.neighbor_at p.neighbors address).settings) (cond b (Some s) None) (bgp.neighbor_at p.neighbors address).settings
    by true = refl
    by false = refl
neighbor-step address p (bgp_line.Setting (whom.Group name) s) = refl
neighbor-step address p (bgp_line.Active (whom.Group name) is_active) = refl
neighbor-step address p (bgp_line.MemberOf a name) = ap (λ (n : Neighbor). n.settings) (put-neighbor (λ n. n) (λ n. refl) address a p.neighbors ∙ either-way (a == address) (bgp.neighbor_at p.neighbors address))
neighbor-step address p l = refl

-- which neighbours there are
abbrev address_at : ℕ → List Neighbor → Option ℕ
address_at address ns = option_map bgp.address_of (with_number bgp.address_of address ns)

put-address : (address a : ℕ) (n : Neighbor) (ns : List Neighbor) → n.address ≡ a → address_at address (placed bgp.address_of n ns) ≡ option_or (cond (a == address) (Some a) None) (address_at address ns)
put-address address a n ns is =
    ap (option_map bgp.address_of) (found-placed bgp.address_of address n ns)
    ∙ by (n.address == address)
    ∙ ap (λ m. option_or (cond (m == address) (Some m) None) (address_at address ns)) is
  where
    by : (b : Bool) → option_map bgp.address_of (cond b (Some n) (with_number bgp.address_of address ns)) ≡ option_or (cond b (Some n.address) None) (address_at address ns)
    by true = refl
    by false = refl

neighbors-step : (address : ℕ) (p : BgpProcess) (l : BgpLine) → address_at address (bgp.with_line p l).neighbors ≡ option_or (said_of_bgp.neighbor_said address l) (address_at address p.neighbors)
neighbors-step address p (bgp_line.Setting (whom.Address a) s) = put-address address a (bgp.with_own (bgp.neighbor_at p.neighbors a) s) p.neighbors (own-address a p.neighbors)
neighbors-step address p (bgp_line.Setting (whom.Group name) s) = refl
neighbors-step address p (bgp_line.Active (whom.Group name) is_active) = refl
neighbors-step address p (bgp_line.MemberOf a name) = put-address address a (bgp.neighbor_at p.neighbors a) p.neighbors (own-address a p.neighbors)
neighbors-step address p l = refl

-- ---- peer groups
groups-step : (p : BgpProcess) (l : BgpLine) → keys_of (bgp.with_line p l).peering.groups ≡ option_map_or (insert_key same_name (keys_of p.peering.groups)) (said_of_bgp.group_said l) (keys_of p.peering.groups)
groups-step p (bgp_line.Setting (whom.Group name) s) = keys_with_value p.peering.groups name _
groups-step p (bgp_line.Active (whom.Group name) is_active) = keys_with_value p.peering.groups name _
groups-step p (bgp_line.GroupDeclared name) = keys_with_value p.peering.groups name _
groups-step p (bgp_line.Setting (whom.Address a) s) = refl
groups-step p (bgp_line.Active (whom.Address a) is_active) = refl
groups-step p l = refl

put-group : (f : Group → Group) (q : Peering) (n name : List ℕ)
    → group_named (with_group q n (f (group_named q n))) name ≡ cond (same_name name n) (f (group_named q name)) (group_named q name)
put-group f q n name = ap (λ o. unwrap_or o no_group) (named-change q.groups n name (λ o. f (unwrap_or o no_group))) ∙ by (same_name name n) (named q.groups name)
  where
    by : (b : Bool) (o : Option Group) → unwrap_or (cond b (Some (f (unwrap_or o no_group))) o) no_group ≡ cond b (f (unwrap_or o no_group)) (unwrap_or o no_group)
    by true o = refl
    by false o = refl

-- what a line about a group changes of one value of it alone
same-of : {V : Type 0} (value : Group → V) (f : Group → Group) → ((g : Group) → value (f g) ≡ value g) → (q : Peering) (n name : List ℕ)
    → value (group_named (with_group q n (f (group_named q n))) name) ≡ value (group_named q name)
same-of value f keeps q n name = ap value (put-group f q n name) ∙ by (same_name name n)
  where
    by : (b : Bool) → value (cond b (f (group_named q name)) (group_named q name)) ≡ value (group_named q name)
    by true = keeps (group_named q name)
    by false = refl

group-step : (name : List ℕ) (p : BgpProcess) (l : BgpLine)
    → (group_named (bgp.with_line p l).peering name).settings ≡ option_map_or (with_setting (group_named p.peering name).settings) (said_of_bgp.shared_said name l) (group_named p.peering name).settings
group-step name p (bgp_line.Setting (whom.Group n) s) = ap (λ (g : Group). g.settings) (put-group (λ g. record g { settings = with_setting g.settings s }) p.peering n name) ∙ by (same_name name n)
  where
    by : (b : Bool) → (cond b (record (group_named p.peering name) { settings = with_setting (group_named p.peering name).settings s }) (group_named p.peering name)).settings
        ≡ option_map_or (with_setting (group_named p.peering name).settings) (cond b (Some s) None) (group_named p.peering name).settings
    by true = refl
    by false = refl
group-step name p (bgp_line.Active (whom.Group n) is_active) = same-of (λ g. g.settings) (λ g. record g { is_active = Some is_active }) (λ g. refl) p.peering n name
group-step name p (bgp_line.GroupDeclared n) = same-of (λ g. g.settings) (λ g. g) (λ g. refl) p.peering n name
group-step name p (bgp_line.Setting (whom.Address a) s) = refl
group-step name p (bgp_line.Active (whom.Address a) is_active) = refl
group-step name p l = refl

group_activity-step : (name : List ℕ) (p : BgpProcess) (l : BgpLine)
    → (group_named (bgp.with_line p l).peering name).is_active ≡ option_or (said_of_bgp.shared_activity_said name l) (group_named p.peering name).is_active
group_activity-step name p (bgp_line.Setting (whom.Group n) s) = same-of (λ g. g.is_active) (λ g. record g { settings = with_setting g.settings s }) (λ g. refl) p.peering n name
group_activity-step name p (bgp_line.Active (whom.Group n) is_active) = ap (λ (g : Group). g.is_active) (put-group (λ g. record g { is_active = Some is_active }) p.peering n name) ∙ by (same_name name n)
  where
    by : (b : Bool) → (cond b (record (group_named p.peering name) { is_active = Some is_active }) (group_named p.peering name)).is_active ≡ option_or (cond b (Some is_active) None) (group_named p.peering name).is_active
    by true = refl
    by false = refl
group_activity-step name p (bgp_line.GroupDeclared n) = same-of (λ g. g.is_active) (λ g. g) (λ g. refl) p.peering n name
group_activity-step name p (bgp_line.Setting (whom.Address a) s) = refl
group_activity-step name p (bgp_line.Active (whom.Address a) is_active) = refl
group_activity-step name p l = refl

-- ---- members and activity

-- a part of what was put by its number
part-said : {A V : Type 0} (value : A → V) (b : Bool) (x : A) (o : Option A) → option_map value (option_or (cond b (Some x) None) o) ≡ option_or (cond b (Some (value x)) None) (option_map value o)
part-said value true x o = refl
part-said value false x o = refl

abbrev membership_at : ℕ → List Member → Option (List ℕ)
membership_at address members = option_map (λ (m : Member). m.group) (with_number member_address address members)

member-step : (address : ℕ) (p : BgpProcess) (l : BgpLine) → membership_at address (bgp.with_line p l).peering.members ≡ option_or (said_of_bgp.membership_said address l) (membership_at address p.peering.members)
member-step address p (bgp_line.MemberOf a name) =
    ap (option_map (λ (m : Member). m.group)) (number-said member_address address (record { address = a; group = name }) p.peering.members)
    ∙ part-said (λ (m : Member). m.group) (a == address) (record { address = a; group = name }) (with_number member_address address p.peering.members)
member-step address p (bgp_line.Setting (whom.Address a) s) = refl
member-step address p (bgp_line.Active (whom.Address a) is_active) = refl
member-step address p (bgp_line.Setting (whom.Group name) s) = refl
member-step address p (bgp_line.Active (whom.Group name) is_active) = refl
member-step address p l = refl

activity-step : (address : ℕ) (p : BgpProcess) (l : BgpLine) → own_activity (bgp.with_line p l).peering address ≡ option_or (said_of_bgp.activity_said address l) (own_activity p.peering address)
activity-step address p (bgp_line.Active (whom.Address a) is_active) =
    ap (option_map (λ (x : Activity). x.is_active)) (number-said activity_address address (record { address = a; is_active = is_active }) p.peering.activities)
    ∙ part-said (λ (x : Activity). x.is_active) (a == address) (record { address = a; is_active = is_active }) (with_number activity_address address p.peering.activities)
activity-step address p (bgp_line.Setting (whom.Address a) s) = refl
activity-step address p (bgp_line.Setting (whom.Group name) s) = refl
activity-step address p (bgp_line.Active (whom.Group name) is_active) = refl
activity-step address p l = refl

default_activity-step : (p : BgpProcess) (l : BgpLine) → (bgp.with_line p l).peering.is_active_by_default ≡ unwrap_or (said_of_bgp.default_activity_said l) p.peering.is_active_by_default
default_activity-step p bgp_line.InactiveByDefault = refl
default_activity-step p (bgp_line.Setting (whom.Address a) s) = refl
default_activity-step p (bgp_line.Active (whom.Address a) is_active) = refl
default_activity-step p (bgp_line.Setting (whom.Group name) s) = refl
default_activity-step p (bgp_line.Active (whom.Group name) is_active) = refl
default_activity-step p l = refl

-- ---- settings
remote_as-step : (n : Settings) (s : NeighborSetting) → (with_setting n s).remote_as ≡ option_or (said_of_bgp.remote_as_said s) n.remote_as
remote_as-step n (peer.RemoteAs asn) = refl
remote_as-step n (peer.RouteMap m In) = refl
remote_as-step n (peer.PrefixList m In) = refl
remote_as-step n s = refl

update_source-step : (n : Settings) (s : NeighborSetting) → (with_setting n s).update_source ≡ option_or (said_of_bgp.update_source_said s) n.update_source
update_source-step n (peer.UpdateSource interface) = refl
update_source-step n (peer.RouteMap m In) = refl
update_source-step n (peer.PrefixList m In) = refl
update_source-step n s = refl

is_multihop-step : (n : Settings) (s : NeighborSetting) → (with_setting n s).is_multihop ≡ unwrap_or (said_of_bgp.multihop_said s) n.is_multihop
is_multihop-step n peer.EbgpMultihop = refl
is_multihop-step n (peer.RouteMap m In) = refl
is_multihop-step n (peer.PrefixList m In) = refl
is_multihop-step n s = refl

is_shutdown-step : (n : Settings) (s : NeighborSetting) → (with_setting n s).is_shutdown ≡ unwrap_or (said_of_bgp.neighbor_shutdown_said s) n.is_shutdown
is_shutdown-step n peer.Shutdown = refl
is_shutdown-step n (peer.RouteMap m In) = refl
is_shutdown-step n (peer.PrefixList m In) = refl
is_shutdown-step n s = refl

next_hop_self-step : (n : Settings) (s : NeighborSetting) → (with_setting n s).next_hop_self ≡ unwrap_or (said_of_bgp.next_hop_self_said s) n.next_hop_self
next_hop_self-step n peer.NextHopSelf = refl
next_hop_self-step n (peer.RouteMap m In) = refl
next_hop_self-step n (peer.PrefixList m In) = refl
next_hop_self-step n s = refl

default_originate-step : (n : Settings) (s : NeighborSetting) → (with_setting n s).default_originate ≡ unwrap_or (said_of_bgp.default_originate_said s) n.default_originate
default_originate-step n peer.DefaultOriginate = refl
default_originate-step n (peer.RouteMap m In) = refl
default_originate-step n (peer.PrefixList m In) = refl
default_originate-step n s = refl

send_community-step : (n : Settings) (s : NeighborSetting) → (with_setting n s).send_community ≡ unwrap_or (said_of_bgp.send_community_said s) n.send_community
send_community-step n peer.SendCommunity = refl
send_community-step n (peer.RouteMap m In) = refl
send_community-step n (peer.PrefixList m In) = refl
send_community-step n s = refl

weight-step : (n : Settings) (s : NeighborSetting) → (with_setting n s).weight ≡ option_or (said_of_bgp.neighbor_weight_said s) n.weight
weight-step n (peer.Weight weight) = refl
weight-step n (peer.RouteMap m In) = refl
weight-step n (peer.PrefixList m In) = refl
weight-step n s = refl

map_in-step : (n : Settings) (s : NeighborSetting) → (with_setting n s).map_in ≡ option_or (said_of_bgp.map_in_said s) n.map_in
map_in-step n (peer.RouteMap m In) = refl
map_in-step n (peer.PrefixList m In) = refl
map_in-step n s = refl

map_out-step : (n : Settings) (s : NeighborSetting) → (with_setting n s).map_out ≡ option_or (said_of_bgp.map_out_said s) n.map_out
map_out-step n (peer.RouteMap m Out) = refl
map_out-step n (peer.RouteMap m In) = refl
map_out-step n (peer.PrefixList m In) = refl
map_out-step n s = refl

list_in-step : (n : Settings) (s : NeighborSetting) → (with_setting n s).list_in ≡ option_or (said_of_bgp.list_in_said s) n.list_in
list_in-step n (peer.PrefixList m In) = refl
list_in-step n (peer.RouteMap m In) = refl
list_in-step n s = refl

list_out-step : (n : Settings) (s : NeighborSetting) → (with_setting n s).list_out ≡ option_or (said_of_bgp.list_out_said s) n.list_out
list_out-step n (peer.PrefixList m Out) = refl
list_out-step n (peer.RouteMap m In) = refl
list_out-step n (peer.PrefixList m In) = refl
list_out-step n s = refl

settings-by-lines : (lines : List NeighborSetting) → IsSettingsByLines (fold with_setting no_settings lines) lines
settings-by-lines lines = record {
  remote_as = last-counts with_setting (λ x. x.remote_as) said_of_bgp.remote_as_said remote_as-step lines no_settings;
  update_source = last-counts with_setting (λ x. x.update_source) said_of_bgp.update_source_said update_source-step lines no_settings;
  is_multihop = last-or-default with_setting (λ x. x.is_multihop) said_of_bgp.multihop_said is_multihop-step lines no_settings;
  is_shutdown = last-or-default with_setting (λ x. x.is_shutdown) said_of_bgp.neighbor_shutdown_said is_shutdown-step lines no_settings;
  next_hop_self = last-or-default with_setting (λ x. x.next_hop_self) said_of_bgp.next_hop_self_said next_hop_self-step lines no_settings;
  default_originate = last-or-default with_setting (λ x. x.default_originate) said_of_bgp.default_originate_said default_originate-step lines no_settings;
  send_community = last-or-default with_setting (λ x. x.send_community) said_of_bgp.send_community_said send_community-step lines no_settings;
  weight = last-counts with_setting (λ x. x.weight) said_of_bgp.neighbor_weight_said weight-step lines no_settings;
  map_in = last-counts with_setting (λ x. x.map_in) said_of_bgp.map_in_said map_in-step lines no_settings;
  map_out = last-counts with_setting (λ x. x.map_out) said_of_bgp.map_out_said map_out-step lines no_settings;
  list_in = last-counts with_setting (λ x. x.list_in) said_of_bgp.list_in_said list_in-step lines no_settings;
  list_out = last-counts with_setting (λ x. x.list_out) said_of_bgp.list_out_said list_out-step lines no_settings;
}

-- the settings of a neighbour or of a group, by its own lines among those of the process
settings-told : (settings : BgpProcess → Settings) (says : BgpLine → Option NeighborSetting) → ((p : BgpProcess) (l : BgpLine) → settings (bgp.with_line p l) ≡ option_map_or (with_setting (settings p)) (says l) (settings p))
    → (p : BgpProcess) → settings p ≡ no_settings → (lines : List BgpLine) → IsSettingsByLines (settings (fold bgp.with_line p lines)) (filter_map says lines)
settings-told settings says step p none lines =
    subst (λ x. IsSettingsByLines x (filter_map says lines))
    (sym (all-in-turn bgp.with_line settings says with_setting step lines p ∙ ap (λ x. fold with_setting x (filter_map says lines)) none))
    (settings-by-lines (filter_map says lines))

bgp-lines : (n : ℕ) (lines : List BgpLine) → IsBgpByLines (fold bgp.with_line (bgp.no_lines n) lines) lines
bgp-lines n lines =
    let p = bgp.no_lines n in
    record {
      router_id = last-counts bgp.with_line (λ x. x.router_id) said_of_bgp.bgp_router_id_said bgp_router_id-step lines p;
      external_paths = last-or-default bgp.with_line (λ x. x.maximum_paths.external) said_of_bgp.external_paths_said external_paths-step lines p;
      internal_paths = last-or-default bgp.with_line (λ x. x.maximum_paths.internal) said_of_bgp.internal_paths_said internal_paths-step lines p;
      networks = all-in-order bgp.with_line (λ x. x.networks) said_of_bgp.bgp_network_said bgp_networks-step lines p;
      neighbors = λ address. last-counts bgp.with_line (λ x. address_at address x.neighbors) (said_of_bgp.neighbor_said address) (neighbors-step address) lines p;
      neighbor = λ address. settings-told (λ x. (bgp.neighbor_at x.neighbors address).settings) (said_of_bgp.setting_said address) (neighbor-step address) p refl lines;
      groups = all-in-turn bgp.with_line (λ x. keys_of x.peering.groups) said_of_bgp.group_said (insert_key same_name) groups-step lines p;
      group = λ name. settings-told (λ x. (group_named x.peering name).settings) (said_of_bgp.shared_said name) (group-step name) p refl lines;
      member = λ address. last-counts bgp.with_line (λ x. membership_at address x.peering.members) (said_of_bgp.membership_said address) (member-step address) lines p;
      activity = λ address. last-counts bgp.with_line (λ x. own_activity x.peering address) (said_of_bgp.activity_said address) (activity-step address) lines p;
      group_activity = λ name. last-counts bgp.with_line (λ x. (group_named x.peering name).is_active) (said_of_bgp.shared_activity_said name) (group_activity-step name) lines p;
      is_active_by_default = last-or-default bgp.with_line (λ x. x.peering.is_active_by_default) said_of_bgp.default_activity_said default_activity-step lines p;
      connected = last-counts bgp.with_line (λ x. x.redistributions.connected) said_of_bgp.redistributed_connected_said connected-step lines p;
      static_routes = last-counts bgp.with_line (λ x. x.redistributions.static_routes) said_of_bgp.redistributed_static_said static_routes-step lines p;
      ospf = λ process. last-counts bgp.with_line (λ x. with_number bgp.process_of process x.redistributions.ospf) (said_of_bgp.redistributed_ospf_said process) (redistributed_ospf-step process) lines p;
    }

bgp_after-step : (p : BgpProcess) (c : Command) → bgp_after p c ≡ option_map_or (bgp.with_line p) (said.bgp_line_said c) p
bgp_after-step p (command.BgpLine line) = refl
bgp_after-step p c = refl

pub bgp-by-lines : (n : ℕ) (lines : List Command) → IsBgpByLines (fold bgp_after (bgp.no_lines n) lines) (filter_map said.bgp_line_said lines)
bgp-by-lines n lines =
    subst (λ p. IsBgpByLines p (filter_map said.bgp_line_said lines)) (sym (all-in-turn bgp_after (λ p. p) said.bgp_line_said bgp.with_line bgp_after-step lines (bgp.no_lines n)))
    (bgp-lines n (filter_map said.bgp_line_said lines))
