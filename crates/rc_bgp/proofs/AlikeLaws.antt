-- Where a router reads alike, its best paths change by those of its senders alone.
use Rattle.std.proofs.Common.{refl, ◌≡◌, ◌⊎◌, inl, inr, ap, sym, ◌∙◌, subst, ℕ, ◌+◌, ◌<◌, ◌==◌, length, get_or, drop, Bool, true, false, not, cond, ◌&&◌, ◌||◌, List, [], ◌∷◌, ◌++◌, Option, Some, None, IfSome, option_and_then, unwrap_or}
use Rattle.std.specs.List.{AllByRecursion, cons_option, filter, filter_map, flat_map, list_any, slice_get}
use Rattle.std.specs.List.Sorted.{IsStrictlySortedBy}
use Rattle.std.specs.Option.{option_map, option_or}
use Rattle.std.proofs.lemmas.Bool.{or_parts}
use Rattle.rc_base.specs.Communities.{has_community}
use Rattle.rc_base.specs.Lists.{in_order}
use Rattle.rc_base.specs.Prefix.{Cidr, prefix_cmp, same_prefix, default_prefix}
use Rattle.rc_base.proofs.OrderedLaws.{any-in_order, in_order-sorted, prefix_cmp_total, same_by_prefix_cmp}
use Rattle.rc_bgp_decide.specs.Decision.{is_internal, is_originated}
use Rattle.rc_config.specs.declared.bgp.Neighbor.{Neighbor}
use Rattle.rc_config.specs.declared.network.Network.{Network}
use Rattle.rc_config.specs.declared.router_text.RouterText.{RouterText}
use Rattle.rc_pieces.specs.Editing.{SaysAsEdited}
use Rattle.rc_pieces.specs.declared.edit.Edit.{Edit}
use Rattle.rc_route.specs.Tables.{IsBestList, best_for}
use Rattle.rc_route.specs.declared.best.Best.{Best}
use Rattle.rc_route.specs.declared.path.BgpPath.{BgpPath}
use Rattle.rc_route.specs.declared.route.Route.{Route}
use Rattle.rc_route.specs.declared.state.RouterState.{RouterState}
use Rattle.rc_topology.proofs.ListLaws.{all_filter, any_append, filter_agree, found_has}
use Rattle.rc_bgp.specs.Candidates.{advertised_best, best_at, best_among, best_with_further, best_paths, path_heard, own_at, prefixes_of, prefixes_seen, reachable, sender_prefixes}
use Rattle.rc_bgp.specs.Changes.{AreChanges, AreChangesInside, AreUpdated, CoversChange, IsHeardAlike, IsToldAlike, NothingChanged, ReadsAlike, asn_of, changes_of, changes_over, may_hear, may_hear_either, news_over, told_of, updated_paths, changed_at_senders}
use Rattle.rc_bgp.specs.Maximum.{maximum_of}
use Rattle.rc_config.specs.declared.bgp.MaximumPaths.{MaximumPaths}
use Rattle.rc_bgp.specs.RouterStates.{paths_of, table_of}
use Rattle.rc_bgp.specs.Telling.{AreListed, may_tell, offered}
use Rattle.rc_bgp.specs.Updating.{AreDecided, updated}
use Rattle.rc_bgp.specs.AllOriginated.{own_paths}
use Rattle.rc_bgp_session.specs.Passing.{as_received, as_sent, default_path, export, exported, import, imported, is_withheld, mapped_path, next_hop_over, no_advertise, no_export, no_export_subconfed, originated_default, passes_list, weight_of, with_med}
use Rattle.rc_bgp.specs.Reaching.{metric_to}
use Rattle.rc_bgp.specs.Sessions.{is_up, sessions_of, up_sessions}
use Rattle.rc_bgp_session.specs.declared.session.Session.{Session}
use Rattle.rc_bgp.proofs.BestLaws.{among_has, best_in_order}
use Rattle.rc_bgp.proofs.ChangeLaws.{covered, none_best_for, none_named}
use Rattle.rc_bgp.proofs.ListLaws.{all_of_filter, first_left}
use Rattle.rc_bgp.proofs.DecidedLaws.{edited_is_updated, stays_listed}
use Rattle.rc_bgp.proofs.ListedLaws.{at_made, at_updated, same_lists, up_updated}
use Rattle.rc_bgp.proofs.LoopLaws.{nothing_taken, same_taken}
use Rattle.rc_bgp.proofs.PartLaws.{Each, ask_each, either_each, map_each, mapped_each, none_each, or_each, some_each, then_each}
use Rattle.rc_bgp.proofs.PrefixLaws.{left_out}
use Rattle.rc_bgp.proofs.WithheldLaws.{none_exported}

abbrev best_prefix : Best → Cidr
best_prefix b = b.path.prefix

-- ---- what comes over a session has the sender's address as its next hop, or over an internal one that of a path which the sender heard outside

module _ (s : Session) (t u : List Route) (metric : metric_to t s.sender_address ≡ metric_to u s.sender_address) where
  -- the next hop of a path is known alike in both tables
  abbrev IsKnownAlike : BgpPath → Type 0
  IsKnownAlike x = metric_to t x.next_hop ≡ metric_to u x.next_hop

  -- that of a path which its sender tells with the next hop that it has
  abbrev pub IsPassedAlike : BgpPath → Type 0
  IsPassedAlike x = s.is_external ≡ false → is_internal x.source ≡ false → is_originated x.source ≡ false → IsKnownAlike x

  hop_alike : (n : Neighbor) (x : BgpPath) → (s.is_external ≡ false → is_originated x.source ≡ false → IsKnownAlike x) → metric_to t (next_hop_over s n x) ≡ metric_to u (next_hop_over s n x)
  hop_alike n x known = by s.is_external n.settings.next_hop_self (is_originated x.source) refl refl
    where
      by : (e h o : Bool) → s.is_external ≡ e → is_originated x.source ≡ o → metric_to t (cond (e || h || o) s.sender_address x.next_hop) ≡ metric_to u (cond (e || h || o) s.sender_address x.next_hop)
      by true h o is own = metric
      by false true o is own = metric
      by false false true is own = metric
      by false false false is own = known is own

  abbrev SameWay : BgpPath → BgpPath → Type 0
  SameWay x y = (y.source ≡ x.source) × (y.next_hop ≡ x.next_hop)

  kept_in : (i e a b : Bool) → (i && not e) || a || b ≡ false → e ≡ false → i ≡ false
  kept_in true true a b is inside = absurd (let clash : true ≡ false = inside in cc)
  kept_in true false a b is inside = absurd (let clash : true ≡ false = is in cc)
  kept_in false e a b is inside = refl

  exported_alike : (x : BgpPath) → IsPassedAlike x → (file : RouterText) (asn : ℕ) (n : Neighbor) → Each IsKnownAlike (exported file asn n s x)
  exported_alike x known file asn n = by (is_withheld s x) refl
    where
      sent : (y : BgpPath) → is_internal x.source ≡ false ⊎ (s.is_external ≡ true) → SameWay x y → IsKnownAlike (as_sent asn s n y)
      sent y outside is = hop_alike n y (λ inside other. ap (metric_to t) is.1 ∙ known inside (told outside inside) (ap is_originated (sym is.0) ∙ other) ∙ sym (ap (metric_to u) is.1))
        where
          told : is_internal x.source ≡ false ⊎ (s.is_external ≡ true) → s.is_external ≡ false → is_internal x.source ≡ false
          told (inl not_inside) inside = not_inside
          told (inr outer) inside = absurd (let clash : true ≡ false = sym outer ∙ inside in cc)

      by : (b : Bool) → is_withheld s x ≡ b → Each IsKnownAlike (cond b None (cond (not (passes_list file n.settings.list_out x.prefix)) None (option_map (as_sent asn s n) (mapped_path file n.settings.map_out (with_med s x)))))
      by true is = none_each IsKnownAlike
      by false is =
          either_each IsKnownAlike (not (passes_list file n.settings.list_out x.prefix)) None _ (none_each IsKnownAlike)
          (mapped_each IsKnownAlike (SameWay x) (as_sent asn s n) (λ y same. sent y (outside s.is_external refl) same) (mapped_path file n.settings.map_out (with_med s x)) (map_each (SameWay x) file n.settings.map_out (with_med s x) (λ a. (refl, refl))))
        where
          outside : (e : Bool) → s.is_external ≡ e → is_internal x.source ≡ false ⊎ (s.is_external ≡ true)
          outside true e = inr e
          outside false e =
              inl (kept_in (is_internal x.source) s.is_external (has_community x.communities no_advertise) (s.is_external && (has_community x.communities no_export || has_community x.communities no_export_subconfed)) is e)

  imported_alike : (x : BgpPath) → IsKnownAlike x → (file : RouterText) (asn : ℕ) (n : Neighbor) → Each IsKnownAlike (imported file asn n s x)
  imported_alike x is file asn n =
      either_each IsKnownAlike (list_any (λ a. a == asn) x.as_path) None _ (none_each IsKnownAlike)
      (either_each IsKnownAlike (not (passes_list file n.settings.list_in x.prefix)) None _ (none_each IsKnownAlike)
      (mapped_each IsKnownAlike IsKnownAlike (as_received s) (λ y same. same) (mapped_path file n.settings.map_in (record x { weight = weight_of n })) (map_each IsKnownAlike file n.settings.map_in (record x { weight = weight_of n }) (λ a. is))))

  module _ (net : Network) where
    -- what goes over the session of a best path of the sender
    abbrev pub sent : Option Best → Option BgpPath
    sent o = option_and_then (export net s) (option_map (λ (b : Best). b.path) o)

    abbrev offered_of : Cidr → Option BgpPath → Option BgpPath
    offered_of p o = cond (same_prefix p default_prefix) (option_or (originated_default net s) o) o

    abbrev pub ArePassedAlike : Option Best → Type 0
    ArePassedAlike o = (b : Best) → o ≡ Some b → IsPassedAlike b.path

    sent_alike : (o : Option Best) → ArePassedAlike o → Each IsKnownAlike (sent o)
    sent_alike None known = none_each IsKnownAlike
    sent_alike (Some b) known = ask_each IsKnownAlike net s.sender s.receiver_address (λ file asn n. exported file asn n s b.path) (exported_alike b.path (known b refl))

    default_alike : Each IsKnownAlike (originated_default net s)
    default_alike = ask_each IsKnownAlike net s.sender s.receiver_address (λ file asn n. cond n.settings.default_originate (Some (default_path asn s)) None)
        (λ file asn n. either_each IsKnownAlike n.settings.default_originate (Some (default_path asn s)) None (some_each IsKnownAlike (default_path asn s) metric) (none_each IsKnownAlike))

    taken_alike : (p : Cidr) (o : Option Best) → ArePassedAlike o → Each IsKnownAlike (option_and_then (import net s) (offered_of p (sent o)))
    taken_alike p o known =
        then_each IsKnownAlike IsKnownAlike (import net s) (λ x is. ask_each IsKnownAlike net s.receiver s.sender_address (λ file asn n. imported file asn n s x) (imported_alike x is)) (offered_of p (sent o))
        (either_each IsKnownAlike (same_prefix p default_prefix) _ _ (or_each IsKnownAlike (originated_default net s) (sent o) default_alike (sent_alike o known)) (sent_alike o known))

    -- ---- so the same is heard where the sender says the same and its next hops are known alike

    reached_alike : (o : Option BgpPath) → Each IsKnownAlike o → option_and_then (reachable t) o ≡ option_and_then (reachable u) o
    reached_alike None known = refl
    reached_alike (Some x) known = ap (option_map (λ metric. record x { igp_metric = metric })) (known x refl)

    -- what is taken of a best path of the sender
    abbrev pub taken : Cidr → Option Best → Option BgpPath
    taken p o = option_and_then (import net s) (offered_of p (sent o))

    pub heard_alike : (old now : List RouterState) (p : Cidr) → ArePassedAlike (best_for (paths_of now s.sender) p) → taken p (best_for (paths_of old s.sender) p) ≡ taken p (best_for (paths_of now s.sender) p)
        → path_heard net old t s p ≡ path_heard net now u s p
    heard_alike old now p known same =
        ap (option_and_then (reachable t)) same
        ∙ reached_alike (option_and_then (import net s) (offered_of p (sent (best_for (paths_of now s.sender) p)))) (taken_alike p (best_for (paths_of now s.sender) p) known)

    -- over an internal session goes what internal peers may be told
    told_sent : s.is_external ≡ false → (o : Option Best) → sent o ≡ sent (told_of o)
    told_sent inside None = refl
    told_sent inside (Some b) = by (is_internal b.path.source) refl
      where
        by : (c : Bool) → is_internal b.path.source ≡ c → export net s b.path ≡ sent (cond c None (Some b))
        by true is = none_exported net s b.path (λ i. inside i || not (is i))
        by false is = refl

    pub told_alike_sent : s.is_external ≡ false → (o q : Option Best) → told_of o ≡ told_of q → sent o ≡ sent q
    told_alike_sent inside o q same = told_sent inside o ∙ ap sent same ∙ sym (told_sent inside q)

-- what may be told is told alike, so what is told for a prefix is
passed_alike : (s : Session) (t u : List Route) (metric : metric_to t s.sender_address ≡ metric_to u s.sender_address) (net : Network) (paths : List Best) (p : Cidr)
    → (s.is_external ≡ false → AllByRecursion (IsToldAlike t u) (may_tell paths)) → ArePassedAlike s t u metric net (best_for paths p)
passed_alike s t u metric net paths p told b here inside not_internal other =
    found_has (λ (x : Best). not (is_internal x.path.source) ≡ true → IsToldAlike t u x) (λ (x : Best). same_prefix p x.path.prefix) paths b
    (all_of_filter (IsToldAlike t u) (λ (x : Best). not (is_internal x.path.source)) paths (told inside)) here (ap not not_internal) other

-- what is listed of the sender is all that it may tell
pub told_alike : (t u : List Route) (all : List (Option (List Best))) (now : List RouterState) (s : Session) (paths : List Best) → AreListed all now → paths ≡ offered all now s → s.is_external ≡ false
    → AllByRecursion (IsToldAlike t u) paths → AllByRecursion (IsToldAlike t u) (may_tell (paths_of now s.sender))
told_alike t u all now s paths listed is inside alike =
    at (slice_get all s.sender) (listed.each s.sender)
    (subst (AllByRecursion (IsToldAlike t u)) (is ∙ ap (λ b. unwrap_or (cond b None (unwrap_or (slice_get all s.sender) None)) (paths_of now s.sender)) inside) alike)
  where
    whole : AllByRecursion (IsToldAlike t u) (paths_of now s.sender) → AllByRecursion (IsToldAlike t u) (may_tell (paths_of now s.sender))
    whole = all_filter (IsToldAlike t u) (λ (b : Best). not (is_internal b.path.source)) (paths_of now s.sender)

    at : (o : Option (Option (List Best))) → IfSome o (λ l. IfSome l (λ xs. xs ≡ may_tell (paths_of now s.sender)))
        → AllByRecursion (IsToldAlike t u) (unwrap_or (unwrap_or o None) (paths_of now s.sender)) → AllByRecursion (IsToldAlike t u) (may_tell (paths_of now s.sender))
    at None is alike = whole alike
    at (Some None) is alike = whole alike
    at (Some (Some xs)) is alike = subst (AllByRecursion (IsToldAlike t u)) is alike

-- ---- session by session

-- all are heard alike, where those that are left are
pub record AreAlikeBut (r : ℕ) (old now : List RouterState) (left all : List Session) : Type 0 where
  pub back : AllByRecursion (IsHeardAlike r old now) left → AllByRecursion (IsHeardAlike r old now) all

pub none_looked_at : (r : ℕ) (old now : List RouterState) (all : List Session) → AreAlikeBut r old now all all
none_looked_at r old now all = record { back = λ h. h }

pub one_more_alike : (r : ℕ) (old now : List RouterState) (all : List Session) (i : ℕ) (s : Session) → i < length all → s ≡ get_or all i s → IsHeardAlike r old now s → AreAlikeBut r old now (drop i all) all → AreAlikeBut r old now (drop (i + 1) all) all
one_more_alike r old now all i s less is here so_far = record { back = λ left. so_far.back (subst (AllByRecursion (IsHeardAlike r old now)) (sym (first_left all i s less is)) (here, left)) }

-- ---- a prefix that nobody has is nobody's

module _ (net : Network) (old : List RouterState) where
  none_own : (own : List (List BgpPath)) (p : Cidr) → list_any (same_prefix p) (flat_map prefixes_of own) ≡ false → own_at own p ≡ []
  none_own [] p none = refl
  none_own (paths ∷ rest) p none =
      let parts = or_parts (list_any (same_prefix p) (prefixes_of paths)) (list_any (same_prefix p) (flat_map prefixes_of rest)) (sym (any_append (same_prefix p) (prefixes_of paths) (flat_map prefixes_of rest)) ∙ none) in
      ap (λ o. cons_option o (own_at rest p)) (none_named paths p parts.0) ∙ none_own rest p parts.1

  none_heard : (table : List Route) (ss : List Session) (p : Cidr) → same_prefix p default_prefix ≡ false → list_any (same_prefix p) (flat_map (sender_prefixes old) ss) ≡ false → filter_map (λ s. path_heard net old table s p) ss ≡ []
  none_heard table [] p other none = refl
  none_heard table (s ∷ ss) p other none =
      let parts = or_parts (list_any (same_prefix p) (sender_prefixes old s)) (list_any (same_prefix p) (flat_map (sender_prefixes old) ss)) (sym (any_append (same_prefix p) (sender_prefixes old s) (flat_map (sender_prefixes old) ss)) ∙ none) in
      ap (λ o. cons_option o (filter_map (λ t. path_heard net old table t p) ss))
      (ap (λ b. option_and_then (reachable table) (option_and_then (import net s) (cond b (option_or (originated_default net s) (advertised_best net old s p)) (advertised_best net old s p)))) other
      ∙ ap (λ o. option_and_then (reachable table) (option_and_then (import net s) (option_and_then (export net s) o))) (ap (option_map (λ (b : Best). b.path)) (none_best_for (paths_of old s.sender) p parts.0)))
      ∙ none_heard table ss p other parts.1

  pub none_best : (most : MaximumPaths) (table : List Route) (own : List (List BgpPath)) (ss : List Session) (p : Cidr) → list_any (same_prefix p) (prefixes_seen old own ss) ≡ false → best_among net old most table own ss p ≡ None
  none_best most table own ss p none =
      let seen = sym (any-in_order prefix_cmp same_by_prefix_cmp (same_prefix p) (default_prefix ∷ (flat_map prefixes_of own ++ flat_map (sender_prefixes old) ss))) ∙ none in
      let parts = or_parts (same_prefix p default_prefix) (list_any (same_prefix p) (flat_map prefixes_of own ++ flat_map (sender_prefixes old) ss)) seen in
      let others = or_parts (list_any (same_prefix p) (flat_map prefixes_of own)) (list_any (same_prefix p) (flat_map (sender_prefixes old) ss)) (sym (any_append (same_prefix p) (flat_map prefixes_of own) (flat_map (sender_prefixes old) ss)) ∙ parts.1) in
      ap (best_with_further most) (λ i. none_own own p others.0 i ++ none_heard table ss p parts.0 others.1 i)

-- what senders may tell anew stands in order
pub news_in_order : (net : Network) (old now : List RouterState) (changes inside : List (List Cidr)) (up : List Session) (ps : List Cidr) → ps ≡ changed_at_senders net old now changes inside up → IsStrictlySortedBy prefix_cmp ps
news_in_order net old now changes inside up ps is = subst (IsStrictlySortedBy prefix_cmp) (sym is) (in_order-sorted prefix_cmp prefix_cmp_total (flat_map (news_over net old now changes inside) up))

module _ (net : Network) (sessions : List (List Session)) (r : ℕ) (now : List RouterState) (ps : List Cidr) (ordered : IsStrictlySortedBy prefix_cmp ps) where
  keeps : (p : Cidr) (b : Best) → best_at net sessions now r p ≡ Some b → b.path.prefix ≡ p
  keeps p = among_has net now p (maximum_of net r) (table_of now r) (own_paths net (table_of now r) r) (up_sessions sessions now r)

  -- what is updated, from its parts
  of_parts : (most : MaximumPaths) (table : List Route) (own : List (List BgpPath)) (up : List Session) (known paths : List Best) → most ≡ maximum_of net r → table ≡ table_of now r → own ≡ own_paths net (table_of now r) r → up ≡ up_sessions sessions now r
      → known ≡ paths_of now r → paths ≡ updated best_prefix (best_among net now most table own up) known ps → paths ≡ updated_paths net sessions now r ps
  of_parts most table own up known paths m a b c d is = is ∙ (λ i. updated best_prefix (best_among net now (m i) (a i) (b i) (c i)) (d i) ps)

  -- what is decided at some prefixes makes of what is known what is updated
  pub decided_updates : (most : MaximumPaths) (table : List Route) (own : List (List BgpPath)) (up : List Session) (known paths : List Best) (changed : List Cidr) (edits : List (Edit Best)) → most ≡ maximum_of net r → table ≡ table_of now r → own ≡ own_paths net (table_of now r) r → up ≡ up_sessions sessions now r
      → known ≡ paths_of now r → IsBestList known → AreDecided best_prefix (best_among net now most table own up) known ps changed edits → SaysAsEdited best_prefix known edits paths
      → AreUpdated net sessions now r ps paths changed
  decided_updates most table own up known paths changed edits m a b c d in_order decided edited =
      let f = best_among net now most table own up in
      let has = λ (p : Cidr). among_has net now p most table own up in
      record {
        value = of_parts most table own up known paths m a b c d (edited_is_updated best_prefix f known ps has changed edits decided paths edited in_order ordered);
        told = record { each = λ p here none. ap (λ xs. best_for xs p) (sym d) ∙ stays_listed best_prefix f known ps has changed edits decided paths edited p none };
      }

  -- what is updated is in order; at those prefixes it says what is best now, and at others what is known
  updated_in_order : IsBestList (paths_of now r) → (paths : List Best) → paths ≡ updated_paths net sessions now r ps → IsBestList paths
  updated_in_order up paths is = subst IsBestList (sym is) (up_updated best_prefix (best_at net sessions now r) keeps ps ordered (paths_of now r) up)

  says_updated : (paths : List Best) → paths ≡ updated_paths net sessions now r ps → (p : Cidr) → best_for paths p ≡ cond (list_any (same_prefix p) ps) (best_at net sessions now r p) (best_for (paths_of now r) p)
  says_updated paths is p = ap (λ l. best_for l p) is ∙ at_updated best_prefix (best_at net sessions now r) keeps ps ordered (paths_of now r) p

  pub updated_covered : (paths : List Best) (changed : List Cidr) → AreUpdated net sessions now r ps paths changed → CoversChange changed (paths_of now r) paths
  updated_covered paths changed updated =
      covered ps changed (paths_of now r) paths (λ p none. sym (says_updated paths updated.value p ∙ ap (λ b. cond b (best_at net sessions now r p) (best_for (paths_of now r) p)) none)) updated.told

module _ (net : Network) (sessions : List (List Session)) (r : ℕ) where
  -- at every prefix the best paths say what is best there
  says_best : (old : List RouterState) (p : Cidr) → best_for (best_paths net sessions old r) p ≡ best_at net sessions old r p
  unfolding best_paths
  says_best old p =
      let table = table_of old r in
      let own = own_paths net table r in
      let up = up_sessions sessions old r in
      at_made best_prefix (best_among net old (maximum_of net r) table own up) (λ q. among_has net old q (maximum_of net r) table own up) (prefixes_seen old own up)
      (in_order-sorted prefix_cmp prefix_cmp_total (default_prefix ∷ (flat_map prefixes_of own ++ flat_map (sender_prefixes old) up))) p (none_best net old (maximum_of net r) table own up p)

  pub best_up : (old : List RouterState) → IsBestList (best_paths net sessions old r)
  unfolding best_paths
  best_up old = best_in_order net old (maximum_of net r) (table_of old r) (own_paths net (table_of old r) r) (up_sessions sessions old r) (best_paths net sessions old r) refl

  module _ (old now : List RouterState) (alike : ReadsAlike net sessions old now r) (changes inside : List (List Cidr)) (told : AreChanges changes old now) (told_inside : AreChangesInside inside old now) where
    ups_alike : (ss : List Session) → AllByRecursion (IsHeardAlike r old now) ss → AllByRecursion (λ s. is_up old s ≡ is_up now s) ss
    ups_alike [] all = tt
    ups_alike (s ∷ ss) all = (all.0.up, ups_alike ss all.1)

    same_up : up_sessions sessions old r ≡ up_sessions sessions now r
    same_up = filter_agree (is_up old) (is_up now) (sessions_of sessions r) (ups_alike (sessions_of sessions r) alike.heard)

    -- over a session the same is taken for a prefix at which nothing changed over it, and for one at which nothing is taken, before or now
    taken_alike_at : (p : Cidr) (s : Session) (heard : IsHeardAlike r old now s) → list_any (same_prefix p) (news_over net old now changes inside s) ≡ false
        → taken s (table_of old r) (table_of now r) heard.metric net p (best_for (paths_of old s.sender) p) ≡ taken s (table_of old r) (table_of now r) heard.metric net p (best_for (paths_of now s.sender) p)
    taken_alike_at p s heard none = among (list_any (same_prefix p) (changes_over changes inside s)) refl
      where
        same_sent : (e : Bool) → s.is_external ≡ e → list_any (same_prefix p) (cond e (changes_of changes s.sender) (changes_of inside s.sender)) ≡ false
            → sent s (table_of old r) (table_of now r) heard.metric net (best_for (paths_of old s.sender) p) ≡ sent s (table_of old r) (table_of now r) heard.metric net (best_for (paths_of now s.sender) p)
        same_sent true e none = ap (sent s (table_of old r) (table_of now r) heard.metric net) ((told.each s.sender).elsewhere p none)
        same_sent false e none = told_alike_sent s (table_of old r) (table_of now r) heard.metric net e (best_for (paths_of old s.sender) p) (best_for (paths_of now s.sender) p) ((told_inside.each s.sender).elsewhere p none)

        among : (b : Bool) → list_any (same_prefix p) (changes_over changes inside s) ≡ b
            → taken s (table_of old r) (table_of now r) heard.metric net p (best_for (paths_of old s.sender) p) ≡ taken s (table_of old r) (table_of now r) heard.metric net p (best_for (paths_of now s.sender) p)
        among false there = ap (λ o. option_and_then (import net s) (offered_of s (table_of old r) (table_of now r) heard.metric net p o)) (same_sent s.is_external refl there)
        among true here =
            let parts = or_parts (may_hear (asn_of net s.receiver) (paths_of now s.sender) p) (may_hear (asn_of net s.receiver) (paths_of old s.sender) p)
            (left_out (may_hear_either (asn_of net s.receiver) (paths_of old s.sender) (paths_of now s.sender)) p (changes_over changes inside s) here none) in
            same_taken net s p _ _ (nothing_taken net s (paths_of old s.sender) p parts.1) (nothing_taken net s (paths_of now s.sender) p parts.0)

    all_heard : (p : Cidr) (ss : List Session) → AllByRecursion (IsHeardAlike r old now) ss → list_any (same_prefix p) (flat_map (news_over net old now changes inside) ss) ≡ false
        → filter_map (λ s. path_heard net old (table_of old r) s p) ss ≡ filter_map (λ s. path_heard net now (table_of now r) s p) ss
    all_heard p [] all none = refl
    all_heard p (s ∷ ss) all none =
        let parts = or_parts (list_any (same_prefix p) (news_over net old now changes inside s)) (list_any (same_prefix p) (flat_map (news_over net old now changes inside) ss))
        (sym (any_append (same_prefix p) (news_over net old now changes inside s) (flat_map (news_over net old now changes inside) ss)) ∙ none) in
        let here = heard_alike s (table_of old r) (table_of now r) all.0.metric net old now p (passed_alike s (table_of old r) (table_of now r) all.0.metric net (paths_of now s.sender) p all.0.next_hops) (taken_alike_at p s all.0 parts.0) in
        λ i. cons_option (here i) (all_heard p ss all.1 parts.1 i)

    -- what no sender over a session that is up may tell anew has the best path that it had
    abbrev news : List Cidr
    news = changed_at_senders net old now changes inside (up_sessions sessions now r)

    stays_best : (p : Cidr) → list_any (same_prefix p) news ≡ false → best_at net sessions old r p ≡ best_at net sessions now r p
    stays_best p none =
        let unsuspected = sym (any-in_order prefix_cmp same_by_prefix_cmp (same_prefix p) (flat_map (news_over net old now changes inside) (up_sessions sessions now r))) ∙ none in
        ap (λ ss. best_with_further (maximum_of net r) (own_at (own_paths net (table_of old r) r) p ++ filter_map (λ s. path_heard net old (table_of old r) s p) ss)) same_up
        ∙ (λ i. best_with_further (maximum_of net r) (own_at (alike.own i) p ++ all_heard p (up_sessions sessions now r) (all_filter (IsHeardAlike r old now) (is_up now) (sessions_of sessions r) alike.heard) unsuspected i))

    ordered_news : IsStrictlySortedBy prefix_cmp news
    ordered_news = news_in_order net old now changes inside (up_sessions sessions now r) news refl

    -- so what is updated at these is what is best now
    pub updated_is_best : (ps : List Cidr) (paths : List Best) (changed : List Cidr) → ps ≡ news → paths_of now r ≡ best_paths net sessions old r → AreUpdated net sessions now r ps paths changed → paths ≡ best_paths net sessions now r
    updated_is_best ps paths changed these is updated =
        same_lists best_prefix paths (best_paths net sessions now r) (updated_in_order net sessions r now news ordered_news (subst IsBestList (sym is) (best_up old)) paths value) (best_up now)
        (λ p. says_updated net sessions r now news ordered_news paths value p ∙ by p (list_any (same_prefix p) news) refl ∙ sym (says_best now p))
      where
        value : paths ≡ updated_paths net sessions now r news
        value = updated.value ∙ ap (updated_paths net sessions now r) these

        by : (p : Cidr) (b : Bool) → list_any (same_prefix p) news ≡ b → cond (list_any (same_prefix p) news) (best_at net sessions now r p) (best_for (paths_of now r) p) ≡ best_at net sessions now r p
        by p true e = ap (λ b. cond b (best_at net sessions now r p) (best_for (paths_of now r) p)) e
        by p false e = ap (λ b. cond b (best_at net sessions now r p) (best_for (paths_of now r) p)) e ∙ ap (λ paths. best_for paths p) is ∙ says_best old p ∙ stays_best p e

    none_over : (ss : List Session) → NothingChanged changes inside ss → flat_map (news_over net old now changes inside) ss ≡ []
    none_over [] none = refl
    none_over (s ∷ ss) none = (λ i. filter (may_hear_either (asn_of net s.receiver) (paths_of old s.sender) (paths_of now s.sender)) (none.0 i) ++ none_over ss none.1 i)

    -- where nothing changed over any session all best paths stay
    pub all_stay : NothingChanged changes inside (sessions_of sessions r) → best_paths net sessions old r ≡ best_paths net sessions now r
    all_stay none =
        same_lists best_prefix (best_paths net sessions old r) (best_paths net sessions now r) (best_up old) (best_up now)
        (λ p. says_best old p ∙ stays_best p (ap (λ ps. list_any (same_prefix p) (in_order prefix_cmp ps)) (none_over (up_sessions sessions now r) up_none)) ∙ sym (says_best now p))
      where
        up_none : NothingChanged changes inside (up_sessions sessions now r)
        up_none = all_filter (λ (s : Session). changes_over changes inside s ≡ []) (is_up now) (sessions_of sessions r) none
