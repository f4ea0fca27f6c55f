-- The model of a file by its lines: of each value the last line counts that says it, and no other line matters.
use Rattle.std.proofs.Common.{◌≡◌, ◌∙◌, ap, refl, sym, subst, ℕ, ◌==◌, ◌&&◌, Bool, true, false, cond, List, [], ◌++◌, Option, Some, None}
use Rattle.std.specs.Prelude.{option_and_then, unwrap_or}
use Rattle.std.specs.List.{cons_option, filter_map, fold}
use Rattle.std.specs.Option.{option_map, option_map_or, option_or}
use Rattle.std.proofs.lemmas.Bool.{eqb-true}
use Rattle.std.specs.Map.{keys_of}
use Rattle.indexmap.specs.IndexSet.{insert_key}
use Rattle.rc_config.proofs.NamedLaws.{keys_with_value}
use Rattle.rc_base.specs.Name.{same_name}
use Rattle.rc_commands.specs.LastLine as said
use Rattle.rc_commands.specs.LastLine.{model_of, LastLineCounts}
use Rattle.rc_commands.specs.BgpLines.{IsBgpByLines}
use Rattle.rc_commands.specs.EntryLines.{IsEntryByLines}
use Rattle.rc_commands.specs.InterfaceLines.{IsInterfaceByLines}
use Rattle.rc_commands.specs.OspfLines.{IsProcessByLines}
use Rattle.rc_config.specs.AccessList as access
use Rattle.rc_config.specs.Bgp as bgp
use Rattle.rc_config.specs.ByNumber.{placed, with_number}
use Rattle.rc_config.specs.CommunityList as communities
use Rattle.rc_config.specs.Interface.{fresh, with_line}
use Rattle.rc_config.specs.Lists.{community_list_named}
use Rattle.rc_config.specs.Named.{named, with_value}
use Rattle.rc_config.specs.Ospf as ospf
use Rattle.rc_config.specs.PrefixList as prefixes
use Rattle.rc_config.specs.RouteMap as maps
use Rattle.rc_config.specs.Update.{after, block_of, empty, interface_named, route_map_named}
use Rattle.rc_config.specs.declared.access_list.AccessList.{AccessList}
use Rattle.rc_config.specs.declared.access_list.AccessListKind.{AccessListKind}
use Rattle.rc_config.specs.declared.access_list.AccessListLine.{AccessListLine}
use Rattle.rc_config.specs.declared.access_list.Action.{Action}
use Rattle.rc_config.specs.declared.access_list.Action.TheVariants.{Permit}
use Rattle.rc_config.specs.declared.command.Command.{Command}
use Rattle.rc_config.specs.declared.command.Command.TheVariants as command
use Rattle.rc_config.specs.declared.community_list.CommunityLine.{CommunityLine}
use Rattle.rc_config.specs.declared.community_list.CommunityList.{CommunityList}
use Rattle.rc_config.specs.declared.interface.Interface.{Interface}
use Rattle.rc_config.specs.declared.map_line.MapLine.{MapLine}
use Rattle.rc_config.specs.declared.map_line.MapLine.TheVariants as map_line
use Rattle.rc_config.specs.declared.map_line.MatchKind.TheVariants as match_kind
use Rattle.rc_config.specs.declared.lists.ListLine.TheVariants as list_line
use Rattle.rc_config.specs.declared.prefix_list.PrefixLine.{PrefixLine}
use Rattle.rc_config.specs.declared.prefix_list.PrefixList.{PrefixList}
use Rattle.rc_config.specs.declared.route_map.MapEntry.{MapEntry}
use Rattle.rc_config.specs.declared.route_map.RouteMap.{RouteMap}
use Rattle.rc_config.specs.declared.router_text.RouterText.{RouterText}
use Rattle.rc_commands.proofs.PlacedLaws.{found_number}
use Rattle.rc_commands.proofs.EntryLineLaws.{any-action, entry-lines, line-unacted, unacted}
use Rattle.rc_commands.proofs.InterfaceLineLaws.{interface-lines}
use Rattle.rc_commands.proofs.PolicyLaws.{entry-number, opened-number}
use Rattle.rc_commands.proofs.BgpLineLaws.{asn_at, asn-step, bgp_after, bgp-by-lines, bgp-step}
use Rattle.rc_commands.proofs.ProcessLineLaws.{process_after, process_at, process-by-lines, process-number-step, process-step}
use Rattle.rc_commands.proofs.SaidLaws.{add-if, all-in-order, all-in-turn, either-way, first-counts, found-placed, from-opening, kept, last-counts, named-change, nothing-more, number-said, opened}

-- ---- a file
host-step : (r : RouterText) (c : Command) → (after r c).host ≡ option_or (said.host_said c) r.host
host-step r (command.Hostname name line) = refl
host-step r c = refl

routes-step : (r : RouterText) (c : Command) → (after r c).static_routes ≡ r.static_routes ++ cons_option (said.static_route_said c) []
routes-step r (command.StaticRoute route) = refl
routes-step r c = nothing-more r.static_routes

-- ---- which names there are
abbrev one_more : List (List ℕ) → Option (List ℕ) → List (List ℕ)
one_more names o = option_map_or (insert_key same_name names) o names

interface_names-step : (r : RouterText) (c : Command) → keys_of (after r c).interfaces ≡ one_more (keys_of r.interfaces) (said.interface_of c)
interface_names-step r (command.Interface n line) = keys_with_value r.interfaces n _
interface_names-step r (command.InterfaceLine n line) = keys_with_value r.interfaces n _
interface_names-step r c = refl

access_list_names-step : (r : RouterText) (c : Command) → keys_of (after r c).lists.access_lists ≡ one_more (keys_of r.lists.access_lists) (said.access_list_of c)
access_list_names-step r (command.ListLine n (list_line.AccessListOpened kind)) = keys_with_value r.lists.access_lists n _
access_list_names-step r (command.ListLine n (list_line.AccessListLine kind line)) = keys_with_value r.lists.access_lists n _
access_list_names-step r c = refl

prefix_list_names-step : (r : RouterText) (c : Command) → keys_of (after r c).lists.prefix_lists ≡ one_more (keys_of r.lists.prefix_lists) (said.prefix_list_of c)
prefix_list_names-step r (command.ListLine n (list_line.PrefixLine line)) = keys_with_value r.lists.prefix_lists n _
prefix_list_names-step r c = refl

community_list_names-step : (r : RouterText) (c : Command) → keys_of (after r c).lists.community_lists ≡ one_more (keys_of r.lists.community_lists) (said.community_list_of c)
community_list_names-step r (command.ListLine n (list_line.CommunityLine line)) = keys_with_value r.lists.community_lists n _
community_list_names-step r c = refl

route_map_names-step : (r : RouterText) (c : Command) → keys_of (after r c).route_maps ≡ one_more (keys_of r.route_maps) (said.route_map_of c)
route_map_names-step r (command.MapOpened n k action) = keys_with_value r.route_maps n _
route_map_names-step r (command.MapLine n k line) = keys_with_value r.route_maps n _
route_map_names-step r c = refl

-- ---- interfaces

block-put : (r : RouterText) (n name : List ℕ) (f : Interface → Interface)
    → block_of (with_value r.interfaces n (f (block_of r.interfaces n))) name ≡ cond (same_name name n) (f (interface_named r name)) (interface_named r name)
block-put r n name f = ap (λ o. unwrap_or o fresh) (named-change r.interfaces n name (λ o. f (unwrap_or o fresh))) ∙ by (same_name name n) (named r.interfaces name)
  where
    by : (b : Bool) (o : Option Interface) → unwrap_or (cond b (Some (f (unwrap_or o fresh))) o) fresh ≡ cond b (f (unwrap_or o fresh)) (unwrap_or o fresh)
    by true o = refl
    by false o = refl

block-step : (name : List ℕ) (r : RouterText) (c : Command)
    → interface_named (after r c) name ≡ option_map_or (with_line (interface_named r name)) (said.interface_line_said name c) (interface_named r name)
block-step name r (command.Interface n line) = block-put r n name (λ b. b) ∙ either-way (same_name name n) (interface_named r name)
block-step name r (command.InterfaceLine n line) = block-put r n name (λ b. with_line b line) ∙ add-if with_line (same_name name n) line (interface_named r name)
block-step name r c = refl

interface-by-lines : (lines : List Command) (name : List ℕ) → IsInterfaceByLines (interface_named (model_of lines) name) (filter_map (said.interface_line_said name) lines)
interface-by-lines lines name =
    subst (λ i. IsInterfaceByLines i (filter_map (said.interface_line_said name) lines)) (sym (all-in-turn after (λ r. interface_named r name) (said.interface_line_said name) with_line (block-step name) lines empty))
    (interface-lines (filter_map (said.interface_line_said name) lines))

-- ---- lists
abbrev kind_at : Option AccessList → Option AccessListKind
kind_at o = option_map (λ l. l.kind) o

abbrev access_line_at : ℕ → Option AccessList → Option AccessListLine
access_line_at n o = option_and_then (λ l. with_number access.sequence_of n l.lines) o

abbrev prefix_line_at : ℕ → Option PrefixList → Option PrefixLine
prefix_line_at n o = option_and_then (λ l. with_number prefixes.sequence_of n l.lines) o

same-kind : (b : Bool) (o : Option AccessList) (kind : AccessListKind) → kind_at (cond b (Some (unwrap_or o (access.no_lines kind))) o) ≡ option_or (kind_at o) (cond b (Some kind) None)
same-kind true None kind = refl
same-kind false None kind = refl
same-kind true (Some l) kind = refl
same-kind false (Some l) kind = refl

lined-kind : (b : Bool) (o : Option AccessList) (kind : AccessListKind) (line : AccessListLine)
    → kind_at (cond b (Some (access.with_line (unwrap_or o (access.no_lines kind)) line)) o) ≡ option_or (kind_at o) (cond b (Some kind) None)
lined-kind true None kind line = refl
lined-kind false None kind line = refl
lined-kind true (Some l) kind line = refl
lined-kind false (Some l) kind line = refl

no-kind : (o : Option AccessListKind) → o ≡ option_or o None
no-kind None = refl
no-kind (Some kind) = refl

kind-step : (name : List ℕ) (r : RouterText) (c : Command) → kind_at (named (after r c).lists.access_lists name) ≡ option_or (kind_at (named r.lists.access_lists name)) (said.kind_said name c)
kind-step name r (command.ListLine list (list_line.AccessListOpened kind)) =
    ap kind_at (named-change r.lists.access_lists list name (λ o. unwrap_or o (access.no_lines kind))) ∙ same-kind (same_name name list) (named r.lists.access_lists name) kind
kind-step name r (command.ListLine list (list_line.AccessListLine kind line)) =
    ap kind_at (named-change r.lists.access_lists list name (λ o. access.with_line (unwrap_or o (access.no_lines kind)) line)) ∙ lined-kind (same_name name list) (named r.lists.access_lists name) kind line
kind-step name r c = no-kind (kind_at (named r.lists.access_lists name))

same-lines : (n : ℕ) (b : Bool) (o : Option AccessList) (kind : AccessListKind) → access_line_at n (cond b (Some (unwrap_or o (access.no_lines kind))) o) ≡ access_line_at n o
same-lines n true None kind = refl
same-lines n false None kind = refl
same-lines n true (Some l) kind = refl
same-lines n false (Some l) kind = refl

one-line : (n : ℕ) (b : Bool) (o : Option AccessList) (kind : AccessListKind) (line : AccessListLine)
    → access_line_at n (cond b (Some (access.with_line (unwrap_or o (access.no_lines kind)) line)) o) ≡ option_or (cond (b && (line.sequence == n)) (Some line) None) (access_line_at n o)
one-line n true None kind line = number-said access.sequence_of n line []
one-line n true (Some l) kind line = number-said access.sequence_of n line l.lines
one-line n false o kind line = refl

access-step : (name : List ℕ) (n : ℕ) (r : RouterText) (c : Command)
    → access_line_at n (named (after r c).lists.access_lists name) ≡ option_or (said.access_line_said name n c) (access_line_at n (named r.lists.access_lists name))
access-step name n r (command.ListLine list (list_line.AccessListOpened kind)) =
    ap (access_line_at n) (named-change r.lists.access_lists list name (λ o. unwrap_or o (access.no_lines kind))) ∙ same-lines n (same_name name list) (named r.lists.access_lists name) kind
access-step name n r (command.ListLine list (list_line.AccessListLine kind line)) =
    ap (access_line_at n) (named-change r.lists.access_lists list name (λ o. access.with_line (unwrap_or o (access.no_lines kind)) line))
    ∙ one-line n (same_name name list) (named r.lists.access_lists name) kind line
access-step name n r c = refl

one-prefix-line : (n : ℕ) (b : Bool) (o : Option PrefixList) (line : PrefixLine)
    → prefix_line_at n (cond b (Some (prefixes.with_line (unwrap_or o prefixes.no_lines) line)) o) ≡ option_or (cond (b && (line.sequence == n)) (Some line) None) (prefix_line_at n o)
one-prefix-line n true None line = number-said prefixes.sequence_of n line []
one-prefix-line n true (Some l) line = number-said prefixes.sequence_of n line l.lines
one-prefix-line n false o line = refl

prefix-step : (name : List ℕ) (n : ℕ) (r : RouterText) (c : Command)
    → prefix_line_at n (named (after r c).lists.prefix_lists name) ≡ option_or (said.prefix_line_said name n c) (prefix_line_at n (named r.lists.prefix_lists name))
prefix-step name n r (command.ListLine list (list_line.PrefixLine line)) =
    ap (prefix_line_at n) (named-change r.lists.prefix_lists list name (λ o. prefixes.with_line (unwrap_or o prefixes.no_lines) line))
    ∙ one-prefix-line n (same_name name list) (named r.lists.prefix_lists name) line
prefix-step name n r c = refl

abbrev community_lines_at : Option CommunityList → List CommunityLine
community_lines_at o = (unwrap_or o communities.no_lines).lines

one-community-line : (b : Bool) (o : Option CommunityList) (line : CommunityLine)
    → community_lines_at (cond b (Some (communities.with_line (unwrap_or o communities.no_lines) line)) o) ≡ community_lines_at o ++ cons_option (cond b (Some line) None) []
one-community-line true o line = refl
one-community-line false o line = nothing-more (community_lines_at o)

community-step : (name : List ℕ) (r : RouterText) (c : Command)
    → (community_list_named (after r c).lists name).lines ≡ (community_list_named r.lists name).lines ++ cons_option (said.community_line_said name c) []
community-step name r (command.ListLine list (list_line.CommunityLine line)) =
    ap community_lines_at (named-change r.lists.community_lists list name (λ o. communities.with_line (unwrap_or o communities.no_lines) line))
    ∙ one-community-line (same_name name list) (named r.lists.community_lists name) line
community-step name r c = nothing-more (community_list_named r.lists name).lines

-- ---- entries of route maps
abbrev entry_in : ℕ → Option RouteMap → Option MapEntry
entry_in n o = with_number maps.number_of n (unwrap_or o maps.no_entries).entries

abbrev entry_at : List ℕ → ℕ → RouterText → Option MapEntry
entry_at name n r = with_number maps.number_of n (route_map_named r name).entries

-- what the entry of a number says after one more line
abbrev added : List ℕ → ℕ → MapEntry → Command → MapEntry
added name n e (command.MapOpened map k action) = cond (same_name name map && (k == n)) (record e { action = action }) e
added name n e (command.MapLine map k line) = cond (same_name name map && (k == n)) (maps.entry_with e line) e
added name n e _ = e

opened-entry : (es : List MapEntry) (k n : ℕ) (action : Action)
    → with_number maps.number_of n (placed maps.number_of (maps.entry_opened es k action) es)
    ≡ option_map (λ (e : MapEntry). cond (k == n) (record e { action = action }) e) (opened (maps.fresh_entry n) (with_number maps.number_of n es) (cond (k == n) (Some action) None))
opened-entry es k n action =
    found-placed maps.number_of n (maps.entry_opened es k action) es
    ∙ ap (λ m. cond (m == n) (Some (maps.entry_opened es k action)) (with_number maps.number_of n es)) (opened-number (with_number maps.number_of k es) k action (found_number maps.number_of k es))
    ∙ by (k == n) refl
  where
    there : (g : Option MapEntry) → Some (record (unwrap_or g (maps.fresh_entry n action)) { action = action }) ≡ option_map (λ (e : MapEntry). record e { action = action }) (opened (maps.fresh_entry n) g (Some action))
    there None = refl
    there (Some e) = refl

    by : (b : Bool) → (k == n) ≡ b → cond b (Some (maps.entry_opened es k action)) (with_number maps.number_of n es)
        ≡ option_map (λ (e : MapEntry). cond b (record e { action = action }) e) (opened (maps.fresh_entry n) (with_number maps.number_of n es) (cond b (Some action) None))
    by true is = ap (λ m. Some (maps.entry_opened es m action)) (eqb-true k n is) ∙ there (with_number maps.number_of n es)
    by false other = kept (maps.fresh_entry n) (with_number maps.number_of n es)

lined-entry : (m : RouteMap) (k n : ℕ) (line : MapLine)
    → with_number maps.number_of n (maps.with_line m k line).entries
    ≡ option_map (λ e. cond (k == n) (maps.entry_with e line) e) (opened (maps.fresh_entry n) (with_number maps.number_of n m.entries) None)
lined-entry m k n line = by (with_number maps.number_of k m.entries) refl (k == n) refl
  where
    by : (o : Option MapEntry) → with_number maps.number_of k m.entries ≡ o → (b : Bool) → (k == n) ≡ b
        → with_number maps.number_of n (option_map_or (λ e. record { entries = placed maps.number_of (maps.entry_with e line) m.entries }) o m).entries
        ≡ option_map (λ e. cond b (maps.entry_with e line) e) (opened (maps.fresh_entry n) (with_number maps.number_of n m.entries) None)
    by None none true is =
        let same : with_number maps.number_of n m.entries ≡ None = ap (λ j. with_number maps.number_of j m.entries) (sym (eqb-true k n is)) ∙ none in
        same ∙ ap (λ g. option_map (λ e. maps.entry_with e line) (opened (maps.fresh_entry n) g None)) (sym same)
    by None none false other = kept (maps.fresh_entry n) (with_number maps.number_of n m.entries)
    by (Some e) found b is =
        found-placed maps.number_of n (maps.entry_with e line) m.entries
        ∙ ap (λ j. cond (j == n) (Some (maps.entry_with e line)) (with_number maps.number_of n m.entries)) (entry-number e line ∙ found_number maps.number_of k m.entries e found)
        ∙ ap (λ t. cond t (Some (maps.entry_with e line)) (with_number maps.number_of n m.entries)) is
        ∙ split b is
      where
        split : (b : Bool) → (k == n) ≡ b → cond b (Some (maps.entry_with e line)) (with_number maps.number_of n m.entries)
            ≡ option_map (λ x. cond b (maps.entry_with x line) x) (opened (maps.fresh_entry n) (with_number maps.number_of n m.entries) None)
        split true is =
            let same : Some e ≡ with_number maps.number_of n m.entries = sym found ∙ ap (λ j. with_number maps.number_of j m.entries) (eqb-true k n is) in
            ap (λ g. option_map (λ x. maps.entry_with x line) (opened (maps.fresh_entry n) g None)) same
        split false other = kept (maps.fresh_entry n) (with_number maps.number_of n m.entries)

entry-step : (name : List ℕ) (n : ℕ) (r : RouterText) (c : Command)
    → entry_at name n (after r c) ≡ option_map (λ e. added name n e c) (opened (maps.fresh_entry n) (entry_at name n r) (said.action_said name n c))
entry-step name n r (command.MapOpened map k action) =
    ap (entry_in n) (named-change r.route_maps map name (λ o. maps.opened (unwrap_or o maps.no_entries) k action)) ∙ by (same_name name map) (named r.route_maps name)
  where
    by : (b : Bool) (o : Option RouteMap) → entry_in n (cond b (Some (maps.opened (unwrap_or o maps.no_entries) k action)) o)
        ≡ option_map (λ (e : MapEntry). cond (b && (k == n)) (record e { action = action }) e) (opened (maps.fresh_entry n) (entry_in n o) (cond (b && (k == n)) (Some action) None))
    by true o = opened-entry (unwrap_or o maps.no_entries).entries k n action
    by false o = kept (maps.fresh_entry n) (entry_in n o)
entry-step name n r (command.MapLine map k line) =
    ap (entry_in n) (named-change r.route_maps map name (λ o. maps.with_line (unwrap_or o maps.no_entries) k line)) ∙ by (same_name name map) (named r.route_maps name)
  where
    by : (b : Bool) (o : Option RouteMap) → entry_in n (cond b (Some (maps.with_line (unwrap_or o maps.no_entries) k line)) o)
        ≡ option_map (λ e. cond (b && (k == n)) (maps.entry_with e line) e) (opened (maps.fresh_entry n) (entry_in n o) None)
    by true o = lined-entry (unwrap_or o maps.no_entries) k n line
    by false o = kept (maps.fresh_entry n) (entry_in n o)
entry-step name n r c = kept (maps.fresh_entry n) (entry_at name n r)

abbrev action_at : Option MapEntry → Option Action
action_at o = option_map (λ e. e.action) o

line-action : (e : MapEntry) (line : MapLine) → (maps.entry_with e line).action ≡ e.action
line-action e (map_line.Match match_kind.AccessList names line) = refl
line-action e (map_line.Match match_kind.PrefixList names line) = refl
line-action e (map_line.Match match_kind.CommunityList names line) = refl
line-action e (map_line.Set set) = refl

lined-action : (n : ℕ) (b : Bool) (g : Option MapEntry) (line : MapLine) → action_at (option_map (λ e. cond b (maps.entry_with e line) e) (opened (maps.fresh_entry n) g None)) ≡ action_at g
lined-action n b None line = refl
lined-action n true (Some e) line = ap Some (line-action e line)
lined-action n false (Some e) line = refl

opened-action : (n : ℕ) (b : Bool) (g : Option MapEntry) (action : Action)
    → action_at (option_map (λ (e : MapEntry). cond b (record e { action = action }) e) (opened (maps.fresh_entry n) g (cond b (Some action) None))) ≡ option_or (cond b (Some action) None) (action_at g)
opened-action n true None action = refl
opened-action n false None action = refl
opened-action n true (Some e) action = refl
opened-action n false (Some e) action = refl

action-step : (name : List ℕ) (n : ℕ) (r : RouterText) (c : Command) → action_at (entry_at name n (after r c)) ≡ option_or (said.action_said name n c) (action_at (entry_at name n r))
action-step name n r (command.MapOpened map k action) = ap action_at (entry-step name n r (command.MapOpened map k action)) ∙ opened-action n (same_name name map && (k == n)) (entry_at name n r) action
action-step name n r (command.MapLine map k line) = ap action_at (entry-step name n r (command.MapLine map k line)) ∙ lined-action n (same_name name map && (k == n)) (entry_at name n r) line
action-step name n r c = refl

own-step : (name : List ℕ) (n : ℕ) (e : MapEntry) (c : Command) → unacted (added name n e c) ≡ option_map_or (maps.entry_with (unacted e)) (said.entry_line_said name n c) (unacted e)
own-step name n e (command.MapOpened map k action) = by (same_name name map && (k == n))
  where
    by : (b : Bool) → unacted (cond b (record e { action = action }) e) ≡ unacted e
    by true = refl
    by false = refl
own-step name n e (command.MapLine map k line) = by (same_name name map && (k == n))
  where
    by : (b : Bool) → unacted (cond b (maps.entry_with e line) e) ≡ option_map_or (maps.entry_with (unacted e)) (cond b (Some line) None) (unacted e)
    by true = line-unacted e line
    by false = refl
own-step name n e c = refl

own-entry : (name : List ℕ) (n : ℕ) (action : Action) (lines : List Command) → IsEntryByLines (fold (added name n) (maps.fresh_entry n action) lines) (filter_map (said.entry_line_said name n) lines)
own-entry name n action lines =
    any-action (fold (added name n) (maps.fresh_entry n action) lines) (filter_map (said.entry_line_said name n) lines)
    (subst (λ e. IsEntryByLines e (filter_map (said.entry_line_said name n) lines))
    (sym (all-in-turn (added name n) unacted (said.entry_line_said name n) maps.entry_with (own-step name n) lines (maps.fresh_entry n action)))
    (entry-lines n Permit (filter_map (said.entry_line_said name n) lines)))

-- ---- all
pub model-by-lines : LastLineCounts
model-by-lines lines = record {
  host = last-counts after (λ r. r.host) said.host_said host-step lines empty;
  static_routes = all-in-order after (λ r. r.static_routes) said.static_route_said routes-step lines empty;
  interface_names = all-in-turn after (λ r. keys_of r.interfaces) said.interface_of (insert_key same_name) interface_names-step lines empty;
  interface = interface-by-lines lines;
  access_list_names = all-in-turn after (λ r. keys_of r.lists.access_lists) said.access_list_of (insert_key same_name) access_list_names-step lines empty;
  access_list_kind = λ name. first-counts after (λ r. kind_at (named r.lists.access_lists name)) (said.kind_said name) (kind-step name) lines empty;
  access_list_line = λ name n. last-counts after (λ r. access_line_at n (named r.lists.access_lists name)) (said.access_line_said name n) (access-step name n) lines empty;
  prefix_list_names = all-in-turn after (λ r. keys_of r.lists.prefix_lists) said.prefix_list_of (insert_key same_name) prefix_list_names-step lines empty;
  prefix_list_line = λ name n. last-counts after (λ r. prefix_line_at n (named r.lists.prefix_lists name)) (said.prefix_line_said name n) (prefix-step name n) lines empty;
  community_list_names = all-in-turn after (λ r. keys_of r.lists.community_lists) said.community_list_of (insert_key same_name) community_list_names-step lines empty;
  community_list = λ name. all-in-order after (λ r. (community_list_named r.lists name).lines) (said.community_line_said name) (community-step name) lines empty;
  route_map_names = all-in-turn after (λ r. keys_of r.route_maps) said.route_map_of (insert_key same_name) route_map_names-step lines empty;
  entry_action = λ name n. last-counts after (λ r. action_at (entry_at name n r)) (said.action_said name n) (action-step name n) lines empty;
  entry = λ name n. from-opening after (entry_at name n) (said.action_said name n) (maps.fresh_entry n) (added name n) (entry-step name n)
      (λ e own. IsEntryByLines e (filter_map (said.entry_line_said name n) own)) (own-entry name n) lines empty refl;
  ospf_process = first-counts after (λ r. process_at r.ospf) said.process_said process-number-step lines empty;
  ospf = from-opening after (λ r. r.ospf) said.process_said ospf.no_lines process_after process-step (λ p own. IsProcessByLines p (filter_map said.ospf_line_said own)) process-by-lines lines empty refl;
  bgp_asn = first-counts after (λ r. asn_at r.bgp) said.asn_said asn-step lines empty;
  bgp = from-opening after (λ r. r.bgp) said.asn_said bgp.no_lines bgp_after bgp-step (λ p own. IsBgpByLines p (filter_map said.bgp_line_said own)) bgp-by-lines lines empty refl;
}
