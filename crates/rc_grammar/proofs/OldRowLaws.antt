-- What a line said when address families and peer groups were refused: what it says now, but for activity.
use Rattle.std.proofs.Common.{◌≡◌, ◌∙◌, ℕ, ◌==◌, nat_lt, ◌&&◌, Bool, true, false, cond, List, [], ◌∷◌, Option, Some, None, is_none, is_some, Result, Ok, Err, refl, sym, ap, subst}
use Rattle.std.specs.List.{AllByRecursion}
use Rattle.std.specs.Option.{option_and_then, option_map, option_map_or, option_or}
use Rattle.std.specs.Prelude.{codes}
use Rattle.std.specs.Str.{bytes_eq}
use Rattle.std.proofs.lemmas.Bool.{false≢true}
use Rattle.rc_base.specs.Name.{name_of}
use Rattle.rc_base.specs.Prefix.{Cidr}
use Rattle.rc_openings.specs.Reading.{Decision, Passed, Refused, OfForm, decided, decided_before, judged, said, share_a_word}
use Rattle.rc_openings.specs.Values.{address_of, is_interface_name, mask_length_of, number_of, number_within, prefix_from}
use Rattle.rc_openings.specs.declared.form.AccessListForm.{AccessListForm}
use Rattle.rc_openings.specs.declared.form.AccessListForm.TheVariants as access_form
use Rattle.rc_openings.specs.declared.form.BgpForm.{BgpForm}
use Rattle.rc_openings.specs.declared.form.BgpForm.TheVariants as bgp_form
use Rattle.rc_openings.specs.declared.form.Form.{Form}
use Rattle.rc_openings.specs.declared.form.Form.TheVariants as form
use Rattle.rc_openings.specs.declared.form.GeneralForm.{GeneralForm}
use Rattle.rc_openings.specs.declared.form.GeneralForm.TheVariants as general_form
use Rattle.rc_openings.specs.declared.form.InterfaceForm.{InterfaceForm}
use Rattle.rc_openings.specs.declared.form.InterfaceForm.TheVariants as interface_form
use Rattle.rc_openings.specs.declared.form.MapEntryForm.{MapEntryForm}
use Rattle.rc_openings.specs.declared.form.OspfForm.{OspfForm}
use Rattle.rc_openings.specs.declared.form.OspfForm.TheVariants as ospf_form
use Rattle.rc_openings.specs.declared.form.PolicyForm.{PolicyForm}
use Rattle.rc_openings.specs.declared.form.PolicyForm.TheVariants as policy_form
use Rattle.rc_openings.specs.declared.reading.LineRefusal.{LineRefusal}
use Rattle.rc_openings.specs.declared.reading.LineRefusal.TheVariants.{Unknown, Unsupported, BadValue, OutOfPlace}
use Rattle.rc_config.specs.DirectionWord.{direction_of}
use Rattle.rc_config.specs.IfType.{type_of}
use Rattle.rc_config.specs.Named.{named}
use Rattle.rc_lines.specs.OpenBlock.{block_at}
use Rattle.rc_config.specs.ActionWord.{action_of}
use Rattle.rc_config.specs.Peering.{no_peering}
use Rattle.rc_config.specs.declared.access_list.AccessListKind.{AccessListKind}
use Rattle.rc_config.specs.declared.access_list.AccessListKind.TheVariants.{Standard, Extended}
use Rattle.rc_config.specs.declared.access_list.Action.{Action}
use Rattle.rc_config.specs.declared.access_list.Action.TheVariants.{Permit, Deny}
use Rattle.rc_config.specs.declared.bgp.BgpLine.{BgpLine}
use Rattle.rc_config.specs.declared.bgp.BgpLine.TheVariants as line
use Rattle.rc_config.specs.declared.bgp.BgpProcess.{BgpProcess}
use Rattle.rc_config.specs.declared.bgp.NeighborSetting.{NeighborSetting}
use Rattle.rc_config.specs.declared.bgp.NeighborSetting.TheVariants as setting
use Rattle.rc_config.specs.declared.command.Command.{Command}
use Rattle.rc_config.specs.declared.command.Command.TheVariants as command
use Rattle.rc_config.specs.declared.context.OpenBlock.{OpenBlock}
use Rattle.rc_config.specs.declared.context.OpenBlock.TheVariants as place
use Rattle.rc_config.specs.declared.interface.Direction.{Direction}
use Rattle.rc_config.specs.declared.ospf.NetworkType.TheVariants.{Broadcast, PointToPoint}
use Rattle.rc_config.specs.declared.ospf.OspfLine.{OspfLine}
use Rattle.rc_config.specs.declared.ospf.OspfProcess.{OspfProcess}
use Rattle.rc_config.specs.declared.ospf.OspfSetting.{OspfSetting}
use Rattle.rc_config.specs.declared.ospf.RedistributedSource.TheVariants as source
use Rattle.rc_config.specs.declared.peering.Activity.{Activity}
use Rattle.rc_config.specs.declared.peering.Group.{Group}
use Rattle.rc_config.specs.declared.peering.Peer.{Peer}
use Rattle.rc_config.specs.declared.peering.Peer.TheVariants as peer
use Rattle.rc_config.specs.declared.peering.Peering.{Peering}
use Rattle.rc_config.specs.declared.router_text.RouterText.{RouterText}
use Rattle.rc_config.specs.declared.static_route.Target.{Target}
use Rattle.rc_config.specs.declared.static_route.Target.TheVariants as target
use Rattle.rc_gram_acl.specs.Entry.{Entry, entry}
use Rattle.rc_gram_acl.specs.ListNumber.{kind_of_number}
use Rattle.rc_gram_acl.specs.Lists as lists
use Rattle.rc_gram_acl.specs.Reading as acl
use Rattle.rc_gram_bgp.specs.Lines as bgp_lines
use Rattle.rc_gram_bgp.specs.NeighborLines as neighbor_lines
use Rattle.rc_gram_bgp.specs.Peers as peers
use Rattle.rc_gram_bgp.specs.Peers.{groups_of, whom_of}
use Rattle.rc_gram_bgp.specs.Reading.{refused_words}
use Rattle.rc_gram_bgp.specs.Redistributions.{options, ospf_redistribution}
use Rattle.rc_gram_bgp.specs.Rows as bgp
use Rattle.rc_gram_bgp.specs.Rows.{known_as}
use Rattle.rc_gram_if.specs.Ospf as interface_ospf
use Rattle.rc_gram_if.specs.Reading as interfaces
use Rattle.rc_gram_if.specs.RouteOptions.{distance_of}
use Rattle.rc_gram_if.specs.Rows as rows
use Rattle.rc_gram_ospf.specs.Lines as ospf_lines
use Rattle.rc_gram_ospf.specs.Rows as ospf
use Rattle.rc_gram_policy.specs.Lines as policy_lines
use Rattle.rc_gram_policy.specs.Rows as policies
use Rattle.rc_grammar.specs.Grammars.{Answer, answer_before, answer_of, before, rows_at, says, says_before}
use Rattle.rc_grammar.proofs.PassingLaws.{is_early_form, is_early_of_bgp, before-now, IsEarly, IsEarlyBlock, Stays, refused, stays}

-- ---- what activity lines leave

abbrev pub IsActive : Activity → Type 0
IsActive a = a.is_active ≡ true

-- no groups, and of activity none but `activate` lines about neighbours
pub record IsMarked (q : Peering) : Type 0 where
  pub groups : q.groups ≡ []
  pub members : q.members ≡ []
  pub by_default : q.is_active_by_default ≡ true
  pub active : AllByRecursion IsActive q.activities

abbrev pub HasMarks : Option BgpProcess → Type 0
HasMarks None = Unit {0}
HasMarks (Some p) = IsMarked p.peering

-- the process, and the file, without them
abbrev pub plain_process : BgpProcess → BgpProcess
plain_process p = record p { peering = no_peering }

abbrev pub plain : RouterText → RouterText
plain r = record r { bgp = option_map plain_process r.bgp }

-- ---- the rows of each grammar don't read them

same-groups : (bgp : Option BgpProcess) → HasMarks bgp → option_map_or (λ (p : BgpProcess). p.peering.groups) (option_map plain_process bgp) [] ≡ option_map_or (λ (p : BgpProcess). p.peering.groups) bgp []
same-groups None h = refl
same-groups (Some p) h = sym h.groups

no-groups : (bgp : Option BgpProcess) → HasMarks bgp → option_map_or (λ (p : BgpProcess). p.peering.groups) bgp [] ≡ []
no-groups None h = refl
no-groups (Some p) h = h.groups

same-as : (bgp : Option BgpProcess) → option_map (λ (p : BgpProcess). p.asn) (option_map plain_process bgp) ≡ option_map (λ (p : BgpProcess). p.asn) bgp
same-as None = refl
same-as (Some p) = refl

same-general : (r : RouterText) (f : GeneralForm) (number : ℕ) (behind : List (List ℕ)) → interfaces.general_row f (plain r) number behind ≡ interfaces.general_row f r number behind
same-general r general_form.Hostname number behind = refl
same-general r general_form.Interface number behind = refl
same-general r general_form.StaticRoute number behind = refl

same-list : (r : RouterText) (f : AccessListForm) (at : OpenBlock) (written : Option ℕ) (behind : List (List ℕ)) → acl.row f at (plain r) written behind ≡ acl.row f at r written behind
same-list r access_form.Permit (place.AccessList list kind) written behind = refl
same-list r access_form.Deny (place.AccessList list kind) written behind = refl
same-list r f at written behind = refl

same-policy : (r : RouterText) (f : PolicyForm) (behind : List (List ℕ)) → policies.list_answer (plain r) f behind ≡ policies.list_answer r f behind
same-policy r f behind = refl

same-answer : (at : OpenBlock) (r : RouterText) → HasMarks r.bgp → (number : ℕ) (words : List (List ℕ)) (f : Form) (behind : List (List ℕ)) → answer_of at (plain r) number words f behind ≡ answer_of at r number words f behind
same-answer at r h number words (form.General f) behind = ap (judged (interfaces.refused_in_general f) behind) (same-general r f number behind)
same-answer at r h number words (form.Interface f) behind = refl
same-answer at r h number words (form.AccessList f) behind = ap (judged (acl.refused_behind f) behind) (same-list r f at (acl.written_at at words) behind)
same-answer at r h number words (form.Policy f) behind = same-policy r f behind
same-answer at r h number words (form.MapEntry f) behind = refl
same-answer at r h number words (form.Ospf f) behind = refl
same-answer at r h number words (form.Bgp f) behind =
    ap (λ known. judged (refused_words f) behind (bgp.row at known (groups_of (plain r)) number words f behind)) (same-as r.bgp)
    ∙ ap (λ groups. judged (refused_words f) behind (bgp.row at (known_as r) groups number words f behind)) (same-groups r.bgp h)

-- ---- commands of before

abbrev pub is_old_line : BgpLine → Bool
is_old_line (line.Setting (peer.Address a) setting) = true
is_old_line (line.Setting (peer.Group name) setting) = false
is_old_line (line.Active (peer.Address a) is_active) = is_active
is_old_line (line.Active (peer.Group name) is_active) = false
is_old_line (line.GroupDeclared name) = false
is_old_line (line.MemberOf a name) = false
is_old_line line.InactiveByDefault = false
is_old_line (line.RouterId id) = true
is_old_line (line.MaximumExternalPaths number) = true
is_old_line (line.MaximumInternalPaths number) = true
is_old_line (line.Network prefix) = true
is_old_line (line.RedistributeConnected r) = true
is_old_line (line.RedistributeStatic r) = true
is_old_line (line.RedistributeOspf r) = true

abbrev pub is_old : Command → Bool
is_old (command.BgpLine l) = is_old_line l
is_old command.FamilyOpened = false
is_old command.OtherFamilyOpened = false
is_old command.FamilyClosed = false
is_old m = true

abbrev pub IsOld : Answer → Type 0
IsOld (Ok m) = is_old m ≡ true
IsOld (Err refusal) = Unit {0}

either-old : (b : Bool) (x y : Answer) → IsOld x → IsOld y → IsOld (cond b x y)
either-old true x y p q = p
either-old false x y p q = q

old-judged : (words behind : List (List ℕ)) (a : Answer) → IsOld a → IsOld (judged words behind a)
old-judged words behind (Ok m) h = h
old-judged words behind (Err Unknown) h = tt
old-judged words behind (Err Unsupported) h = tt
old-judged words behind (Err OutOfPlace) h = tt
old-judged words behind (Err BadValue) h = either-old (share_a_word behind words) _ _ tt tt

-- ---- host names, static routes and interfaces

old-with : (prefix : Option Cidr) (to : Target) (distance : Option ℕ) → IsOld (rows.route_with prefix to distance)
old-with None to distance = tt
old-with (Some prefix) to None = tt
old-with (Some prefix) to (Some distance) = refl

old-out : (prefix : Option Cidr) (device : List ℕ) (rest : List (List ℕ)) → IsOld (rows.route_out prefix device rest)
old-out prefix device [] = old-with prefix (target.Dev device) (distance_of [])
old-out prefix device (w ∷ ws) = by (address_of w) refl
  where
    by : (o : Option ℕ) → address_of w ≡ o → IsOld (rows.route_out prefix device (w ∷ ws))
    by None e = rw e (old-with prefix (target.Dev device) (distance_of (w ∷ ws)))
    by (Some gateway) e = rw e (old-with prefix (target.ViaDev gateway device) (distance_of ws))

old-via : (prefix : Option Cidr) (gateway : Option ℕ) (rest : List (List ℕ)) → IsOld (rows.route_via prefix gateway rest)
old-via prefix None rest = tt
old-via prefix (Some gateway) rest = old-with prefix (target.Via gateway) (distance_of rest)

old-by : (prefix : Option Cidr) (device : Option (List ℕ)) (word : List ℕ) (rest : List (List ℕ)) → IsOld (rows.route_by prefix device word rest)
old-by prefix (Some device) word rest = old-out prefix device rest
old-by prefix None word rest = either-old (bytes_eq word (codes "Null0")) _ _ (old-with prefix target.Null (distance_of rest)) (old-via prefix (address_of word) rest)

old-general : (r : RouterText) (f : GeneralForm) (number : ℕ) (behind : List (List ℕ)) → IsOld (interfaces.general_row f r number behind)
old-general r general_form.Hostname number [] = tt
old-general r general_form.Hostname number (name ∷ []) = either-old (rows.is_host_name name && is_none r.host) _ _ refl tt
old-general r general_form.Hostname number (name ∷ w ∷ ws) = tt
old-general r general_form.Interface number [] = tt
old-general r general_form.Interface number (name ∷ []) = either-old (is_interface_name name) _ _ refl tt
old-general r general_form.Interface number (name ∷ w ∷ ws) = tt
old-general r general_form.StaticRoute number [] = tt
old-general r general_form.StaticRoute number (a ∷ []) = tt
old-general r general_form.StaticRoute number (a ∷ m ∷ []) = tt
old-general r general_form.StaticRoute number (a ∷ m ∷ word ∷ rest) = old-by (prefix_from (address_of a) (mask_length_of m)) (rows.device_of word) word rest

old-address : (owner : List ℕ) (secondary : Bool) (a len : Option ℕ) → IsOld (rows.address_in owner secondary a len)
old-address owner secondary None len = tt
old-address owner secondary (Some a) None = tt
old-address owner secondary (Some a) (Some len) = either-old (nat_lt 0 len) _ _ (either-old (is_some (type_of owner)) _ _ refl tt) tt

old-ip : (owner : List ℕ) (behind : List (List ℕ)) → IsOld (rows.ip_address owner behind)
old-ip owner [] = tt
old-ip owner (a ∷ []) = tt
old-ip owner (a ∷ m ∷ []) = old-address owner false (address_of a) (mask_length_of m)
old-ip owner (a ∷ m ∷ s ∷ []) = either-old (bytes_eq s (codes "secondary")) _ _ (old-address owner true (address_of a) (mask_length_of m)) tt
old-ip owner (a ∷ m ∷ s ∷ w ∷ ws) = tt

old-shutdown : (owner : List ℕ) (down : Bool) (behind : List (List ℕ)) → IsOld (rows.shutdown owner down behind)
old-shutdown owner down [] = refl
old-shutdown owner down (w ∷ ws) = tt

old-kbits : (owner : List ℕ) (kbits : Option ℕ) → IsOld (rows.kbits_in owner kbits)
old-kbits owner None = tt
old-kbits owner (Some kbits) = refl

old-bandwidth : (owner : List ℕ) (behind : List (List ℕ)) → IsOld (rows.bandwidth owner behind)
old-bandwidth owner [] = tt
old-bandwidth owner (n ∷ []) = old-kbits owner (number_within 1 10000000 n)
old-bandwidth owner (n ∷ w ∷ ws) = tt

old-list_at : (owner : List ℕ) (list : Option (List ℕ)) (direction : Option Direction) → IsOld (rows.group_in owner list direction)
old-list_at owner None direction = tt
old-list_at owner (Some list) None = tt
old-list_at owner (Some list) (Some direction) = refl

old-access : (owner : List ℕ) (behind : List (List ℕ)) → IsOld (rows.access_group owner behind)
old-access owner [] = tt
old-access owner (name ∷ []) = tt
old-access owner (name ∷ way ∷ []) = old-list_at owner (name_of name) (direction_of way)
old-access owner (name ∷ way ∷ w ∷ ws) = tt

old-sets : (owner : List ℕ) (set : Option OspfSetting) → IsOld (interface_ospf.sets owner set)
old-sets owner None = tt
old-sets owner (Some set) = refl

old-interface : (owner : List ℕ) (f : InterfaceForm) (words behind : List (List ℕ)) → IsOld (interfaces.interface_row f owner words behind)
old-interface owner interface_form.IpAddress words behind = old-ip owner behind
old-interface owner interface_form.Shutdown words behind = old-shutdown owner true behind
old-interface owner interface_form.NoShutdown words behind = old-shutdown owner false behind
old-interface owner interface_form.Bandwidth words behind = old-bandwidth owner behind
old-interface owner interface_form.AccessGroup words behind = old-access owner behind
old-interface owner interface_form.OspfCost words behind = old-sets owner (interface_ospf.cost behind)
old-interface owner interface_form.OspfHelloInterval words behind = old-sets owner (interface_ospf.hello_interval behind)
old-interface owner interface_form.OspfDeadInterval words behind = old-sets owner (interface_ospf.dead_interval behind)
old-interface owner interface_form.OspfNetworkType words behind = tt
old-interface owner interface_form.OspfNetworkBroadcast words behind = old-sets owner (interface_ospf.network_type Broadcast behind)
old-interface owner interface_form.OspfNetworkPointToPoint words behind = old-sets owner (interface_ospf.network_type PointToPoint behind)
old-interface owner interface_form.OspfArea words behind = old-sets owner (interface_ospf.area words)

old-in : (at : OpenBlock) (f : InterfaceForm) (words behind : List (List ℕ)) → IsOld (interfaces.row_in at f words behind)
old-in (place.Interface owner) f words behind = old-interface owner f words behind
old-in at f words behind = tt

-- ---- access lists

old-line_at : (list : List ℕ) (kind : AccessListKind) (n : Option ℕ) (action : Action) (e : Entry) → IsOld (lists.line_at list kind n action e)
old-line_at list kind n action (Err refusal) = tt
old-line_at list kind None action (Ok tests) = tt
old-line_at list kind (Some n) action (Ok tests) = refl

old-line_of : (r : RouterText) (list : List ℕ) (kind : AccessListKind) (written : Option ℕ) (action : Action) (words : List (List ℕ)) → IsOld (lists.line_of r list kind written action words)
old-line_of r list kind written action words = old-line_at list kind (lists.sequence_in r list kind written) action (entry kind words)

old-numbered_line : (r : RouterText) (n : ℕ) (kind : Option AccessListKind) (action : Action) (words : List (List ℕ)) → IsOld (lists.numbered_line r n kind action words)
old-numbered_line r n None action words = tt
old-numbered_line r n (Some kind) action words = old-line_of r _ kind None action words

old-numbered_by : (r : RouterText) (n : Option ℕ) (action : Option Action) (words : List (List ℕ)) → IsOld (lists.numbered_by r n action words)
old-numbered_by r None action words = tt
old-numbered_by r (Some n) None words = tt
old-numbered_by r (Some n) (Some action) words = old-numbered_line r n (kind_of_number n) action words

old-numbered : (r : RouterText) (behind : List (List ℕ)) → IsOld (lists.numbered r behind)
old-numbered r [] = tt
old-numbered r (n ∷ []) = tt
old-numbered r (n ∷ w ∷ rest) = either-old (is_some (number_of n) && bytes_eq w (codes "remark")) _ _ refl (old-numbered_by r (number_of n) (action_of w) rest)

old-opened_as : (r : RouterText) (kind : AccessListKind) (list : Option (List ℕ)) → IsOld (lists.opened_as r kind list)
old-opened_as r kind None = tt
old-opened_as r kind (Some list) = either-old (lists.may_be (named r.lists.access_lists list) kind) _ _ refl tt

old-opened : (r : RouterText) (kind : AccessListKind) (behind : List (List ℕ)) → IsOld (lists.opened r kind behind)
old-opened r kind [] = tt
old-opened r kind (name ∷ []) = old-opened_as r kind (name_of name)
old-opened r kind (name ∷ w ∷ ws) = tt

old-line_in : (at : OpenBlock) (r : RouterText) (written : Option ℕ) (action : Action) (behind : List (List ℕ)) → IsOld (acl.line_in at r written action behind)
old-line_in (place.AccessList list kind) r written action behind = old-line_of r list kind written action behind
old-line_in at r written action behind = tt

old-list : (at : OpenBlock) (r : RouterText) (written : Option ℕ) (f : AccessListForm) (behind : List (List ℕ)) → IsOld (acl.row f at r written behind)
old-list at r written access_form.Numbered behind = old-numbered r behind
old-list at r written access_form.Standard behind = old-opened r Standard behind
old-list at r written access_form.Extended behind = old-opened r Extended behind
old-list at r written access_form.Permit behind = old-line_in at r written Permit behind
old-list at r written access_form.Deny behind = old-line_in at r written Deny behind
old-list at r written access_form.Remark behind = refl

-- ---- policies

old-said : {A : Type 0} (command_of : A → Command) → ((x : A) → is_old (command_of x) ≡ true) → (told : Result A LineRefusal) → IsOld (policies.said command_of told)
old-said command_of each (Ok x) = each x
old-said command_of each (Err refusal) = tt

old-policy : (r : RouterText) (f : PolicyForm) (behind : List (List ℕ)) → IsOld (policies.list_answer r f behind)
old-policy r policy_form.PrefixList behind = old-said policies.prefix_command (λ x. refl) (policy_lines.prefix_answer r.lists.prefix_lists behind)
old-policy r policy_form.CommunityList behind = old-said policies.community_command (λ x. refl) (policy_lines.numbered_answer behind)
old-policy r policy_form.StandardCommunityList behind = old-said policies.community_command (λ x. refl) (policy_lines.standard_answer behind)
old-policy r policy_form.RouteMap behind = old-said policies.opening_command (λ x. refl) (policy_lines.opening_answer behind)

old-entry : (at : OpenBlock) (number : ℕ) (f : MapEntryForm) (behind : List (List ℕ)) → IsOld (policies.entry_answer at number f behind)
old-entry (place.Map map n) number f behind = old-said (command.MapLine map n) (λ x. refl) (policy_lines.map_answer number f behind)
old-entry at number f behind = tt

-- ---- OSPF

old-ospf_line : (l : Option OspfLine) → IsOld (ospf.in_block l)
old-ospf_line None = tt
old-ospf_line (Some l) = refl

old-ospf_opened : (known : Option OspfProcess) (process : Option ℕ) → IsOld (ospf.opened_by known process)
old-ospf_opened known None = tt
old-ospf_opened None (Some process) = refl
old-ospf_opened (Some p) (Some process) = either-old (p.process == process) _ _ refl tt

old-router_ospf : (r : RouterText) (behind : List (List ℕ)) → IsOld (ospf.router_ospf r behind)
old-router_ospf r [] = tt
old-router_ospf r (n ∷ []) = old-ospf_opened r.ospf (number_within 1 65535 n)
old-router_ospf r (n ∷ w ∷ ws) = tt

old-ospf : (r : RouterText) (number : ℕ) (words : List (List ℕ)) (f : OspfForm) (behind : List (List ℕ)) → IsOld (ospf.row r number words f behind)
old-ospf r number words ospf_form.RouterOspf behind = old-router_ospf r behind
old-ospf r number words ospf_form.RouterId behind = old-ospf_line (ospf_lines.router_id behind)
old-ospf r number words ospf_form.Network behind = old-ospf_line (ospf_lines.network behind)
old-ospf r number words ospf_form.StubArea behind = old-ospf_line (ospf_lines.stub_area words)
old-ospf r number words ospf_form.PassiveInterface behind = old-ospf_line (ospf_lines.passive_interface true behind)
old-ospf r number words ospf_form.NoPassiveInterface behind = old-ospf_line (ospf_lines.passive_interface false behind)
old-ospf r number words ospf_form.PassiveInterfaceDefault behind = old-ospf_line (ospf_lines.passive_default behind)
old-ospf r number words ospf_form.ReferenceBandwidth behind = old-ospf_line (ospf_lines.reference_bandwidth behind)
old-ospf r number words ospf_form.RedistributeConnected behind = old-ospf_line (ospf_lines.redistribute source.Connected number behind)
old-ospf r number words ospf_form.RedistributeStatic behind = old-ospf_line (ospf_lines.redistribute source.Static number behind)
old-ospf r number words ospf_form.RedistributeBgp behind = old-ospf_line (ospf_lines.redistribute_bgp number behind)
old-ospf r number words ospf_form.DefaultInformationOriginate behind = old-ospf_line (ospf_lines.default_information behind)

-- ---- BGP, in a file without groups

abbrev IsAddressed : Option Peer → Type 0
IsAddressed None = Unit {0}
IsAddressed (Some (peer.Address a)) = Unit {0}
IsAddressed (Some (peer.Group name)) = ⊥

addressed : (a : Option ℕ) (name : Option (List ℕ)) → IsAddressed (option_or (option_map peer.Address a) (option_map peer.Group (option_and_then (λ n. option_map (λ (g : Group). n) (named [] n)) name)))
addressed (Some a) name = tt
addressed None None = tt
addressed None (Some name) = tt

addressed-whom : (words : List (List ℕ)) → IsAddressed (whom_of [] words)
addressed-whom [] = tt
addressed-whom (w ∷ []) = tt
addressed-whom (w ∷ x ∷ ws) = addressed (address_of x) (name_of x)

abbrev AreOld : Option BgpLine → Type 0
AreOld None = Unit {0}
AreOld (Some l) = is_old_line l ≡ true

old-in_block : (l : Option BgpLine) → AreOld l → IsOld (bgp.in_block l)
old-in_block None h = tt
old-in_block (Some l) h = h

old-map : {A : Type 0} (line_of : A → BgpLine) → ((x : A) → is_old_line (line_of x) ≡ true) → (o : Option A) → AreOld (option_map line_of o)
old-map line_of each None = tt
old-map line_of each (Some x) = each x

old-either : (b : Bool) (l m : Option BgpLine) → AreOld l → AreOld m → AreOld (cond b l m)
old-either true l m p q = p
old-either false l m p q = q

old-sets_of : (whom : Option Peer) → IsAddressed whom → (set : Option NeighborSetting) → IsOld (bgp.sets whom set)
old-sets_of None h set = tt
old-sets_of (Some (peer.Address a)) h None = tt
old-sets_of (Some (peer.Address a)) h (Some set) = refl
old-sets_of (Some (peer.Group name)) h set = absurd h

old-as : (known asn : Option ℕ) → IsOld (bgp.opened_by known asn)
old-as known None = tt
old-as None (Some asn) = refl
old-as (Some k) (Some asn) = either-old (k == asn) _ _ refl tt

old-router_bgp : (known : Option ℕ) (behind : List (List ℕ)) → IsOld (bgp.router_bgp known behind)
old-router_bgp known [] = tt
old-router_bgp known (n ∷ []) = old-as known (number_within 1 4294967295 n)
old-router_bgp known (n ∷ w ∷ ws) = tt

old-router_id : (behind : List (List ℕ)) → AreOld (bgp_lines.router_id behind)
old-router_id [] = tt
old-router_id (a ∷ []) = old-map line.RouterId (λ x. refl) (address_of a)
old-router_id (a ∷ w ∷ ws) = tt

old-paths : (behind : List (List ℕ)) → AreOld (bgp_lines.maximum_paths behind)
old-paths [] = tt
old-paths (n ∷ []) = old-map line.MaximumExternalPaths (λ x. refl) (bgp_lines.path_number n)
old-paths (n ∷ w ∷ ws) = tt

old-paths_ibgp : (behind : List (List ℕ)) → AreOld (bgp_lines.maximum_paths_ibgp behind)
old-paths_ibgp [] = tt
old-paths_ibgp (n ∷ []) = old-map line.MaximumInternalPaths (λ x. refl) (bgp_lines.path_number n)
old-paths_ibgp (n ∷ w ∷ ws) = tt

old-network : (behind : List (List ℕ)) → AreOld (bgp_lines.network behind)
old-network [] = tt
old-network (a ∷ []) = old-map line.Network (λ x. refl) (bgp_lines.natural_prefix (address_of a))
old-network (a ∷ word ∷ []) = tt
old-network (a ∷ word ∷ m ∷ []) = old-either (bytes_eq word (codes "mask")) _ _ (old-map line.Network (λ x. refl) (prefix_from (address_of a) (mask_length_of m))) tt
old-network (a ∷ word ∷ m ∷ w ∷ ws) = tt

old-activity : (whom : Option Peer) → IsAddressed whom → (behind : List (List ℕ)) → AreOld (peers.activity true whom behind)
old-activity None h [] = tt
old-activity None h (w ∷ ws) = tt
old-activity (Some (peer.Address a)) h [] = refl
old-activity (Some (peer.Address a)) h (w ∷ ws) = tt
old-activity (Some (peer.Group name)) h behind = absurd h

old-effect : (whom : Option Peer) → IsOld (bgp.without_effect whom)
old-effect None = tt
old-effect (Some whom) = refl

old-about : (whom : Option Peer) → IsAddressed whom → (number : ℕ) (f : BgpForm) (behind : List (List ℕ)) → IsOld (bgp.about_peer whom number f behind)
old-about whom h number bgp_form.NeighborRemoteAs behind = old-sets_of whom h (neighbor_lines.remote_as behind)
old-about whom h number bgp_form.NeighborUpdateSource behind = old-sets_of whom h (neighbor_lines.update_source behind)
old-about whom h number bgp_form.NeighborEbgpMultihop behind = old-sets_of whom h (neighbor_lines.ebgp_multihop behind)
old-about whom h number bgp_form.NeighborNextHopSelf behind = old-sets_of whom h (neighbor_lines.alone setting.NextHopSelf behind)
old-about whom h number bgp_form.NeighborShutdown behind = old-sets_of whom h (neighbor_lines.alone setting.Shutdown behind)
old-about whom h number bgp_form.NeighborDefaultOriginate behind = old-sets_of whom h (neighbor_lines.alone setting.DefaultOriginate behind)
old-about whom h number bgp_form.NeighborSendCommunity behind = either-old (bgp.is_extended behind) _ _ (old-effect whom) (old-sets_of whom h (neighbor_lines.send_community behind))
old-about whom h number bgp_form.NeighborRouteMap behind = old-sets_of whom h (neighbor_lines.route_map number behind)
old-about whom h number bgp_form.NeighborPrefixList behind = old-sets_of whom h (neighbor_lines.prefix_list number behind)
old-about whom h number bgp_form.NeighborWeight behind = old-sets_of whom h (neighbor_lines.weight behind)
old-about whom h number f behind = tt

old-bgp : (at : OpenBlock) (known : Option ℕ) (number : ℕ) (words : List (List ℕ)) (f : BgpForm) (behind : List (List ℕ)) → is_early_of_bgp f ≡ true → IsOld (bgp.row at known [] number words f behind)
old-bgp at known number words bgp_form.RouterBgp behind e = old-router_bgp known behind
old-bgp at known number words bgp_form.RouterId behind e = old-in_block (bgp_lines.router_id behind) (old-router_id behind)
old-bgp at known number words bgp_form.MaximumPaths behind e = old-in_block (bgp_lines.maximum_paths behind) (old-paths behind)
old-bgp at known number words bgp_form.MaximumPathsIbgp behind e = old-in_block (bgp_lines.maximum_paths_ibgp behind) (old-paths_ibgp behind)
old-bgp at known number words bgp_form.Network behind e = old-in_block (bgp_lines.network behind) (old-network behind)
old-bgp at known number words bgp_form.NeighborActivate behind e = old-in_block (peers.activity true (whom_of [] words) behind) (old-activity (whom_of [] words) (addressed-whom words) behind)
old-bgp at known number words bgp_form.NoNeighborActivate behind e = absurd (false≢true e)
old-bgp at known number words bgp_form.NeighborPeerGroup behind e = absurd (false≢true e)
old-bgp at known number words bgp_form.NoDefaultIpv4Unicast behind e = absurd (false≢true e)
old-bgp at known number words bgp_form.RedistributeConnected behind e = old-in_block (bgp_lines.redistribute_connected number behind) (old-map line.RedistributeConnected (λ x. refl) (options number behind))
old-bgp at known number words bgp_form.RedistributeStatic behind e = old-in_block (bgp_lines.redistribute_static number behind) (old-map line.RedistributeStatic (λ x. refl) (options number behind))
old-bgp at known number words bgp_form.RedistributeOspf behind e = old-in_block (bgp_lines.redistribute_ospf number behind) (old-map line.RedistributeOspf (λ x. refl) (ospf_redistribution number behind))
old-bgp at known number words bgp_form.AddressFamilyIpv4 behind e = absurd (false≢true e)
old-bgp at known number words bgp_form.AddressFamilyIpv6 behind e = absurd (false≢true e)
old-bgp at known number words bgp_form.ExitAddressFamily behind e = absurd (false≢true e)
old-bgp at known number words f behind e = old-about (whom_of [] words) (addressed-whom words) number f behind

old-answer : (at : OpenBlock) (r : RouterText) → HasMarks r.bgp → (number : ℕ) (words : List (List ℕ)) (f : Form) (behind : List (List ℕ)) → is_early_form f ≡ true → IsOld (answer_of at r number words f behind)
old-answer at r h number words (form.General f) behind e = old-judged _ behind _ (old-general r f number behind)
old-answer at r h number words (form.Interface f) behind e = old-judged _ behind _ (old-in at f words behind)
old-answer at r h number words (form.AccessList f) behind e = old-judged _ behind _ (old-list at r (acl.written_at at words) f behind)
old-answer at r h number words (form.Policy f) behind e = old-policy r f behind
old-answer at r h number words (form.MapEntry f) behind e = old-entry at number f behind
old-answer at r h number words (form.Ospf f) behind e = old-judged _ behind _ (old-ospf r number words f behind)
old-answer at r h number words (form.Bgp f) behind e =
    old-judged _ behind _ (subst (λ (groups : peers.Groups). IsOld (bgp.row at (known_as r) groups number words f behind)) (sym (no-groups r.bgp h)) (old-bgp at (known_as r) number words f behind e))

-- ---- what a line said is what it says, but for activity

pub record IsTold (then_ now : Answer) : Type 0 where
  pub told : then_ ≡ answer_before now
  pub old : IsOld now

abbrev pub Tells : Answer → Answer → Type 0
Tells (Ok m) now = IsTold (Ok m) now
Tells (Err refusal) now = Unit {0}

tells : (then_ now : Answer) → IsTold then_ now → Tells then_ now
tells (Ok m) now h = h
tells (Err refusal) now h = tt

by-decision : (at : OpenBlock) (r : RouterText) → HasMarks r.bgp → (number : ℕ) (words : List (List ℕ)) (d : Decision) → IsEarly d
    → IsTold (answer_before (said (rows_at at (plain r) number words) d)) (said (rows_at at r number words) d)
by-decision at r h number words Passed is = record { told = refl; old = refl }
by-decision at r h number words (Refused refusal) is = record { told = refl; old = tt }
by-decision at r h number words (OfForm f behind) is = record { told = ap answer_before (same-answer at r h number words f behind); old = old-answer at r h number words f behind is }

by-stay : (at : OpenBlock) (r : RouterText) → HasMarks r.bgp → (number : ℕ) (words : List (List ℕ)) (now was_ : Decision) → Stays now was_
    → Tells (answer_before (said (rows_at at (plain r) number words) was_)) (said (rows_at at r number words) now)
by-stay at r h number words now was_ (refused refusal e) =
    subst (λ (d : Decision). Tells (answer_before (said (rows_at at (plain r) number words) d)) (said (rows_at at r number words) now)) (sym e) tt
by-stay at r h number words now was_ (stays e is) =
    subst (λ (d : Decision). Tells (answer_before (said (rows_at at (plain r) number words) d)) (said (rows_at at r number words) now)) (sym e)
    (tells (answer_before (said (rows_at at (plain r) number words) now)) (said (rows_at at r number words) now) (by-decision at r h number words now is))

pub says-told : (at : OpenBlock) (r : RouterText) → IsEarlyBlock (block_at at) → HasMarks r.bgp → (number : ℕ) (words : List (List ℕ)) → Tells (says_before at (plain r) number words) (says at r number words)
says-told at r early h number words = by-stay at r h number words (decided (block_at at) words) (decided_before (block_at at) words) (before-now (block_at at) words early)
