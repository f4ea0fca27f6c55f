-- The best paths are in order of prefix: each candidate has the prefix for which it is one.
use Rattle.std.proofs.Common.{refl, ◌≡◌, ap, sym, subst, ◌∙◌, ℕ, zero, suc, ◌==◌, Bool, true, false, not, cond, List, [], ◌∷◌, ◌++◌, All, Option, Some, None, option_and_then}
use Rattle.std.specs.Prelude.{◌<◌, length, slice_get, slice_index_or}
use Rattle.std.proofs.lemmas.Option.{slice_get_read}
use Rattle.std.specs.List.{AllByRecursion, cons_option, filter_map, flat_map, fold, list_any}
use Rattle.std.specs.Option.{option_map, option_or}
use Rattle.std.specs.BTreeSet.{insert_key}
use Rattle.std.proofs.lemmas.List.Elements.{All-from_recursion}
use Rattle.std.proofs.lemmas.List.Sums.{fold-append}
use Rattle.rc_base.specs.Prefix.{Cidr, prefix_cmp, same_prefix, default_prefix}
use Rattle.rc_base.proofs.OrderedLaws.{in_order-sorted, prefix_cmp_total}
use Rattle.rc_bgp_decide.specs.Decision.{best_path, best_place}
use Rattle.rc_bgp_decide.proofs.DecisionLaws.{best_path_at_place}
use Rattle.rc_base.specs.declared.origin.Origin.TheVariants.{Igp, Incomplete}
use Rattle.rc_config.specs.declared.bgp.BgpRedistribution.{BgpRedistribution}
use Rattle.rc_config.specs.declared.bgp.Neighbor.{Neighbor}
use Rattle.rc_config.specs.declared.bgp.OspfKinds.{OspfKinds}
use Rattle.rc_config.specs.declared.network.Network.{Network}
use Rattle.rc_config.specs.declared.router_text.RouterText.{RouterText}
use Rattle.rc_route.specs.declared.best.Best.{Best}
use Rattle.rc_route.specs.declared.path.BgpPath.{BgpPath}
use Rattle.rc_route.specs.declared.route.Route.{Route}
use Rattle.rc_route.specs.declared.state.RouterState.{RouterState}
use Rattle.rc_route.specs.declared.path.PathSource.{PathSource}
use Rattle.rc_route.specs.declared.path.PathSource.TheVariants.{Network as ByNetwork}
use Rattle.rc_route.specs.Tables.{IsBestList, IsPathList, IsTable, best_for, best_path_for}
use Rattle.rc_topology.proofs.ListLaws.{all_append, found_passes}
use Rattle.rc_bgp.specs.Maximum.{number_for}
use Rattle.rc_bgp.specs.RouterStates.{path_at, paths_of}
use Rattle.rc_bgp.specs.Originating.{by_network, by_networks, metric_for, originated}
use Rattle.rc_bgp.specs.Redistributing.{med_of, redistributed, redistributed_paths, redistributes}
use Rattle.rc_bgp_session.specs.Passing.{as_sent, as_received, default_path, exported, export, imported, import, is_withheld, mapped_path, originated_default, passes_list, weight_of, with_med}
use Rattle.rc_bgp.specs.Reaching.{metric_to}
use Rattle.rc_bgp.specs.Candidates.{advertised, advertised_best, best_among, best_with_further, candidates_at, further, path_heard, own_at, prefixes_of, prefixes_seen, reachable, sender_prefixes, with_further}
use Rattle.rc_bgp_session.specs.declared.session.Session.{Session}
use Rattle.rc_config.specs.declared.bgp.MaximumPaths.{MaximumPaths}
use Rattle.rc_bgp.proofs.PartLaws.{Has, ask_has, either_has, map_has, mapped_has, none_has, or_has, some_has, then_has}
use Rattle.rc_bgp.proofs.PrefixLaws.{made_from, made_in_order, same_is}

at_index : {X : Type 0} (P : X → Type 0) (xs : List X) (i : ℕ) (x : X) → AllByRecursion P xs → slice_get xs i ≡ Some x → P x
at_index P [] i x all found = absurd (cc)
at_index P (y ∷ ys) zero x all found = (let same : y ≡ x = cc in subst P same all.0)
at_index P (y ∷ ys) (suc i) x all found = at_index P ys i x all.1 found

abbrev prefix_of : BgpPath → Cidr
prefix_of x = x.prefix

pub exported_has : (p : Cidr) (s : Session) (x : BgpPath) → x.prefix ≡ p → (file : RouterText) (asn : ℕ) (n : Neighbor) → Has prefix_of p (exported file asn n s x)
exported_has p s x is file asn n =
    either_has prefix_of p (is_withheld s x) None _ (none_has prefix_of p)
    (either_has prefix_of p (not (passes_list file n.settings.list_out x.prefix)) None _ (none_has prefix_of p)
    (mapped_has prefix_of p (as_sent asn s n) (λ y. refl) (mapped_path file n.settings.map_out (with_med s x)) (map_has prefix_of (λ x a. refl) p file n.settings.map_out (with_med s x) is)))

pub imported_has : (p : Cidr) (s : Session) (x : BgpPath) → x.prefix ≡ p → (file : RouterText) (asn : ℕ) (n : Neighbor) → Has prefix_of p (imported file asn n s x)
imported_has p s x is file asn n =
    either_has prefix_of p (list_any (λ a. a == asn) x.as_path) None _ (none_has prefix_of p)
    (either_has prefix_of p (not (passes_list file n.settings.list_in x.prefix)) None _ (none_has prefix_of p)
    (mapped_has prefix_of p (as_received s) (λ y. refl) (mapped_path file n.settings.map_in (record x { weight = weight_of n })) (map_has prefix_of (λ x a. refl) p file n.settings.map_in (record x { weight = weight_of n }) is)))

-- ---- candidates

at_has : (p : Cidr) (paths : List BgpPath) → Has prefix_of p (path_at paths p)
at_has p paths x e = sym (same_is p x.prefix (found_passes (λ (y : BgpPath). same_prefix p y.prefix) paths x e))

known_has : (p : Cidr) (paths : List Best) → Has prefix_of p (best_path_for paths p)
known_has p paths = by (best_for paths p) (λ b e. sym (same_is p b.path.prefix (found_passes (λ (y : Best). same_prefix p y.path.prefix) paths b e)))
  where
    by : (o : Option Best) → ((b : Best) → o ≡ Some b → b.path.prefix ≡ p) → Has prefix_of p (option_map (λ (b : Best). b.path) o)
    by None has = none_has prefix_of p
    by (Some b) has = some_has prefix_of p b.path (has b refl)

default_has : (p : Cidr) (net : Network) (s : Session) → default_prefix ≡ p → Has prefix_of p (originated_default net s)
default_has p net s is = ask_has prefix_of p net s.sender s.receiver_address (λ file asn n. cond n.settings.default_originate (Some (default_path asn s)) None)
    (λ file asn n. either_has prefix_of p n.settings.default_originate (Some (default_path asn s)) None (some_has prefix_of p (default_path asn s) is) (none_has prefix_of p))

module _ (net : Network) (old : List RouterState) where
  best_has : (p : Cidr) (s : Session) → Has prefix_of p (advertised_best net old s p)
  best_has p s = then_has prefix_of p (export net s) (λ x is. ask_has prefix_of p net s.sender s.receiver_address (λ file asn n. exported file asn n s x) (exported_has p s x is)) (best_path_for (paths_of old s.sender) p) (known_has p (paths_of old s.sender))

  advertised_has : (p : Cidr) (s : Session) → Has prefix_of p (advertised net old s p)
  advertised_has p s = by (same_prefix p default_prefix) refl
    where
      by : (b : Bool) → same_prefix p default_prefix ≡ b → Has prefix_of p (cond b (option_or (originated_default net s) (advertised_best net old s p)) (advertised_best net old s p))
      by true is = or_has prefix_of p (originated_default net s) (advertised_best net old s p) (default_has p net s (sym (same_is p default_prefix is))) (best_has p s)
      by false is = best_has p s

  pub reachable_has : (p : Cidr) (table : List Route) (x : BgpPath) → x.prefix ≡ p → Has prefix_of p (reachable table x)
  reachable_has p table x is = by (metric_to table x.next_hop)
    where
      by : (o : Option ℕ) → Has prefix_of p (option_map (λ metric. record x { igp_metric = metric }) o)
      by None = none_has prefix_of p
      by (Some metric) = some_has prefix_of p (record x { igp_metric = metric }) is

  pub heard_has : (p : Cidr) (table : List Route) (s : Session) → Has prefix_of p (path_heard net old table s p)
  heard_has p table s =
      then_has prefix_of p (reachable table) (reachable_has p table) (option_and_then (import net s) (advertised net old s p))
      (then_has prefix_of p (import net s) (λ x is. ask_has prefix_of p net s.receiver s.sender_address (λ file asn n. imported file asn n s x) (imported_has p s x is)) (advertised net old s p) (advertised_has p s))

  candidates_have : (p : Cidr) (table : List Route) (own : List (List BgpPath)) (sessions : List Session) → AllByRecursion (λ (x : BgpPath). x.prefix ≡ p) (candidates_at net old table own sessions p)
  candidates_have p table own sessions = all_append (λ (x : BgpPath). x.prefix ≡ p) (own_at own p) (filter_map (λ s. path_heard net old table s p) sessions) (own_all own) (heard_all sessions)
    where
      heard_all : (ss : List Session) → AllByRecursion (λ (x : BgpPath). x.prefix ≡ p) (filter_map (λ s. path_heard net old table s p) ss)
      heard_all [] = tt
      heard_all (s ∷ ss) = by (path_heard net old table s p) (heard_has p table s) (heard_all ss)
        where
          by : (o : Option BgpPath) → Has prefix_of p o → AllByRecursion (λ (x : BgpPath). x.prefix ≡ p) (filter_map (λ t. path_heard net old table t p) ss) → AllByRecursion (λ (x : BgpPath). x.prefix ≡ p) (cons_option o (filter_map (λ t. path_heard net old table t p) ss))
          by None has rest = rest
          by (Some x) has rest = (has x refl, rest)

      own_all : (all : List (List BgpPath)) → AllByRecursion (λ (x : BgpPath). x.prefix ≡ p) (own_at all p)
      own_all [] = tt
      own_all (paths ∷ rest) = by (path_at paths p) (at_has p paths) (own_all rest)
        where
          by : (o : Option BgpPath) → Has prefix_of p o → AllByRecursion (λ (x : BgpPath). x.prefix ≡ p) (own_at rest p) → AllByRecursion (λ (x : BgpPath). x.prefix ≡ p) (cons_option o (own_at rest p))
          by None has all = all
          by (Some x) has all = (has x refl, all)

  chosen_has : (p : Cidr) (table : List Route) (own : List (List BgpPath)) (sessions : List Session) → Has prefix_of p (best_path (candidates_at net old table own sessions p))
  chosen_has p table own sessions x e =
      let paths = candidates_at net old table own sessions p in
      by paths (best_place paths) (candidates_have p table own sessions) (sym (best_path_at_place paths) ∙ e)
    where
      by : (paths : List BgpPath) (o : Option ℕ) → AllByRecursion (λ (y : BgpPath). y.prefix ≡ p) paths → option_and_then (slice_get paths) o ≡ Some x → x.prefix ≡ p
      by paths None all found = absurd (cc)
      by paths (Some i) all found = at_index (λ (y : BgpPath). y.prefix ≡ p) paths i x all found

  pub among_has : (p : Cidr) (most : MaximumPaths) (table : List Route) (own : List (List BgpPath)) (sessions : List Session) (b : Best) → best_among net old most table own sessions p ≡ Some b → b.path.prefix ≡ p
  among_has p most table own sessions b e = by (best_path (candidates_at net old table own sessions p)) (chosen_has p table own sessions) e
    where
      by : (o : Option BgpPath) → Has prefix_of p o → option_map (with_further most (candidates_at net old table own sessions p)) o ≡ Some b → b.path.prefix ≡ p
      by None has found = absurd (cc)
      by (Some x) has found = (let same : with_further most (candidates_at net old table own sessions p) x ≡ b = cc in ap (λ (c : Best). c.path.prefix) (sym same) ∙ has x refl)

  -- the best paths of prefixes in order are in order
  pub best_in_order : (most : MaximumPaths) (table : List Route) (own : List (List BgpPath)) (sessions : List Session) (paths : List Best) → paths ≡ filter_map (best_among net old most table own sessions) (prefixes_seen old own sessions) → IsBestList paths
  best_in_order most table own sessions paths is = subst IsBestList (sym is)
      (made_in_order (λ (b : Best). b.path.prefix) (best_among net old most table own sessions) (λ p. among_has p most table own sessions) (prefixes_seen old own sessions)
      (in_order-sorted prefix_cmp prefix_cmp_total (default_prefix ∷ (flat_map prefixes_of own ++ flat_map (sender_prefixes old) sessions))))

-- ---- own paths

by_network_has : (r : ℕ) (table : List Route) (p : Cidr) → Has prefix_of p (by_network r table p)
by_network_has r table p = by (metric_for table p)
  where
    by : (o : Option ℕ) → Has prefix_of p (option_map (λ metric. originated r ByNetwork Igp metric p) o)
    by None = none_has prefix_of p
    by (Some metric) = some_has prefix_of p (originated r ByNetwork Igp metric p) refl

pub networks_in_order : (r : ℕ) (table : List Route) (networks : List Cidr) (paths : List BgpPath) → paths ≡ by_networks r table networks → IsPathList paths
networks_in_order r table networks paths is = subst IsPathList (sym is)
    (made_in_order (λ (x : BgpPath). x.prefix) (by_network r table) (by_network_has r table) _ (in_order-sorted prefix_cmp prefix_cmp_total networks))

-- redistributed paths stand as the routes do
redistributed_has : (r : ℕ) (file : RouterText) (source : PathSource) (k : OspfKinds) (prefixes : List Cidr) (line : BgpRedistribution) (x : Route) → Has prefix_of x.prefix (redistributed r file source k prefixes line x)
redistributed_has r file source k prefixes line x =
    either_has prefix_of x.prefix (not (redistributes source k prefixes x)) None _ (none_has prefix_of x.prefix)
    (either_has prefix_of x.prefix (same_prefix x.prefix default_prefix) None _ (none_has prefix_of x.prefix)
    (map_has prefix_of (λ x a. refl) x.prefix file line.route_map (originated r source Incomplete (med_of line x) x.prefix) refl))

pub redistributed_in_order : (r : ℕ) (file : RouterText) (source : PathSource) (k : OspfKinds) (prefixes : List Cidr) (table : List Route) (line : BgpRedistribution) (paths : List BgpPath) → IsTable table
    → paths ≡ redistributed_paths r file source k prefixes table line → IsPathList paths
redistributed_in_order r file source k prefixes table line paths up is = subst IsPathList (sym is)
    (made_from (λ (x : Route). x.prefix) (λ (x : BgpPath). x.prefix) (redistributed r file source k prefixes line) (redistributed_has r file source k prefixes line) table up)

pub none_in_order : (own : List (List BgpPath)) → own ≡ [] → All IsPathList own
none_in_order own is = subst (All IsPathList) (sym is) (All-from_recursion IsPathList [] tt)

pub four_in_order : (own : List (List BgpPath)) (a b c d : List BgpPath) → own ≡ a ∷ b ∷ c ∷ d ∷ [] → IsPathList a → IsPathList b → IsPathList c → IsPathList d → All IsPathList own
four_in_order own a b c d is p q r s = subst (All IsPathList) (sym is) (All-from_recursion IsPathList (a ∷ b ∷ c ∷ d ∷ []) (p, (q, (r, (s, tt)))))

-- ---- the prefixes seen, part by part

pub seen_in_parts : (old : List RouterState) (own : List (List BgpPath)) (sessions : List Session) (first second last : List Cidr) → first ≡ insert_key prefix_cmp [] default_prefix → second ≡ fold (insert_key prefix_cmp) first (flat_map prefixes_of own)
    → last ≡ fold (insert_key prefix_cmp) second (flat_map (sender_prefixes old) sessions) → last ≡ prefixes_seen old own sessions
seen_in_parts old own sessions first second last a b c =
    c ∙ ap (λ ks. fold (insert_key prefix_cmp) ks (flat_map (sender_prefixes old) sessions)) (b ∙ ap (λ ks. fold (insert_key prefix_cmp) ks (flat_map prefixes_of own)) a)
    ∙ sym (fold-append (insert_key prefix_cmp) (default_prefix ∷ []) (flat_map prefixes_of own) (flat_map (sender_prefixes old) sessions))

-- ---- the best by its place

module _ (most : MaximumPaths) (paths : List BgpPath) where
  -- taken out of its place, with the next hops of further paths
  pub best_taken : (place : ℕ) (x y : BgpPath) (also : List ℕ) → place < length paths → Some place ≡ best_place paths → x ≡ slice_index_or paths place x → y ≡ slice_index_or paths place y
      → also ≡ further (number_for most y.source) paths → Some (record { path = x; also = also }) ≡ best_with_further most paths
  best_taken place x y also within found taken read is =
      let here : slice_get paths place ≡ Some x = slice_get_read paths (length paths) place x refl within taken in
      let there : slice_get paths place ≡ Some y = slice_get_read paths (length paths) place y refl within read in
      let both : Some y ≡ Some x = sym there ∙ here in
      let same : y ≡ x = cc both in
      (λ i. Some (record { path = x; also = (is ∙ ap (λ (z : BgpPath). further (number_for most z.source) paths) same) i }))
      ∙ sym (ap (option_map (with_further most paths)) (best_path_at_place paths ∙ ap (option_and_then (slice_get paths)) (sym found) ∙ here))

  pub none_placed : None ≡ best_place paths → None ≡ best_with_further most paths
  none_placed none = ap (option_map (with_further most paths)) (ap (option_and_then (slice_get paths)) none ∙ sym (best_path_at_place paths))
