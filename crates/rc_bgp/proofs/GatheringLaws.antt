-- Of all candidates of a router, gathered path by path, those of a prefix are the candidates for it.
use Rattle.std.proofs.Common.{refl, ◌≡◌, ap, sym, ◌∙◌, ℕ, ◌+◌, ◌<◌, length, get_or, drop, append_assoc, Bool, true, false, not, cond, ◌&&◌, ◌||◌, List, [], ◌∷◌, ◌++◌, map, filter, append-nil, All, Option, Some, None, option_and_then}
use Rattle.std.specs.List.{AllByRecursion, cons_option, filter_map, find, flat_map, fold, list_any}
use Rattle.std.specs.List.Sorted.{IsStrictlySortedBy}
use Rattle.std.specs.Option.{option_map, option_or, option_to_list}
use Rattle.std.specs.Ordering.{is_eq}
use Rattle.std.specs.declared.cmp.Ordering.TheVariants.{Less}
use Rattle.std.proofs.lemmas.Bool.{or_parts}
use Rattle.std.proofs.lemmas.List.Elements.{filter-append, recursion_from_All}
use Rattle.std.proofs.lemmas.List.Sums.{fold-append}
use Rattle.rc_base.specs.Groups.{value_at, value_of}
use Rattle.rc_base.specs.Lists.{in_order}
use Rattle.rc_base.specs.Prefix.{Cidr, prefix_cmp, same_prefix, default_prefix}
use Rattle.rc_base.proofs.GroupLaws.{grouped_rows, same_itself}
use Rattle.rc_base.proofs.OrderedLaws.{any-in_order, in_order-sorted, prefix_cmp_total, same_by_prefix_cmp}
use Rattle.rc_bgp_decide.specs.Decision.{is_internal}
use Rattle.rc_topology.proofs.ListLaws.{found_passes}
use Rattle.rc_config.specs.declared.bgp.MaximumPaths.{MaximumPaths}
use Rattle.rc_config.specs.declared.network.Network.{Network}
use Rattle.rc_route.specs.Tables.{IsBestList, IsPathList, IsRouterState, best_for}
use Rattle.rc_route.specs.declared.best.Best.{Best}
use Rattle.rc_route.specs.declared.path.BgpPath.{BgpPath}
use Rattle.rc_route.specs.declared.route.Route.{Route}
use Rattle.rc_route.specs.declared.state.RouterState.{RouterState}
use Rattle.rc_bgp.specs.Candidates.{advertised_best, all_best, best_among, best_with_further, candidates_at, own_at, path_heard, prefixes_of, prefixes_seen, reachable, sender_prefixes}
use Rattle.rc_bgp.specs.Gathering.{gathered, heard_of, heard_over, may_go, prefix_of, told_of, with_path, with_paths}
use Rattle.rc_bgp.specs.RouterStates.{path_at, paths_of}
use Rattle.rc_bgp_session.specs.Passing.{export, exported, import, imported, originated_default}
use Rattle.rc_bgp_session.specs.declared.session.Session.{Session}
use Rattle.rc_bgp.proofs.AlikeLaws.{none_best}
use Rattle.rc_bgp.proofs.BestLaws.{among_has, exported_has, heard_has, imported_has, reachable_has}
use Rattle.rc_bgp.proofs.KnownLaws.{paths_in_order}
use Rattle.rc_bgp.proofs.ListLaws.{first_left, in_front}
use Rattle.rc_bgp.proofs.ListedLaws.{at_made, same_lists}
use Rattle.rc_bgp.proofs.PartLaws.{Has, ask_has, either_has, none_has, then_has}
use Rattle.rc_bgp.proofs.WithheldLaws.{none_exported}
use Rattle.rc_bgp.proofs.PrefixLaws.{made_in_order, same_is}

abbrev best_prefix : Best → Cidr
best_prefix b = b.path.prefix

abbrev of_prefix : Cidr → List BgpPath → List BgpPath
of_prefix p xs = filter (λ (x : BgpPath). same_prefix p x.prefix) xs

-- ---- loops

pub in_two_parts : (rows second last : List (Cidr × List BgpPath)) (xs ys : List BgpPath) → second ≡ with_paths rows xs → last ≡ with_paths second ys → last ≡ with_paths rows (xs ++ ys)
in_two_parts rows second last xs ys a b = b ∙ ap (λ rs. with_paths rs ys) a ∙ sym (fold-append _ rows xs ys)

-- one path more of a loop that puts what a function makes under prefixes
pub one_told : {S : Type 0} (f : S → Option BgpPath) (xs : List S) (i : ℕ) (x : S) (rows more done : List (Cidr × List BgpPath)) → i < length xs → x ≡ get_or xs i x → more ≡ with_paths rows (option_to_list (f x))
    → with_paths rows (filter_map f (drop i xs)) ≡ done → with_paths more (filter_map f (drop (i + 1) xs)) ≡ done
one_told f xs i x rows more done less is put kept =
    ap (λ rs. with_paths rs (filter_map f (drop (i + 1) xs))) put ∙ by (f x) ∙ ap (λ l. with_paths rows (filter_map f l)) (sym (first_left xs i x less is)) ∙ kept
  where
    by : (o : Option BgpPath) → with_paths (with_paths rows (option_to_list o)) (filter_map f (drop (i + 1) xs)) ≡ with_paths rows (cons_option o (filter_map f (drop (i + 1) xs)))
    by None = refl
    by (Some y) = refl

-- one list of paths more
pub one_list : {S : Type 0} (f : S → List BgpPath) (xs : List S) (i : ℕ) (x : S) (rows more done : List (Cidr × List BgpPath)) → i < length xs → x ≡ get_or xs i x → more ≡ with_paths rows (f x)
    → with_paths rows (flat_map f (drop i xs)) ≡ done → with_paths more (flat_map f (drop (i + 1) xs)) ≡ done
one_list f xs i x rows more done less is put kept =
    ap (λ rs. with_paths rs (flat_map f (drop (i + 1) xs))) put ∙ sym (fold-append _ rows (f x) (flat_map f (drop (i + 1) xs))) ∙ ap (λ l. with_paths rows (flat_map f l)) (sym (first_left xs i x less is)) ∙ kept

-- ---- of what is made of things in order, those of a prefix are what is made of the thing of that prefix

module _ {X : Type 0} (key : X → Cidr) (f : X → Option BgpPath) (keeps : (x : X) → Has prefix_of (key x) (f x)) where
  none_of : (p : Cidr) (xs : List X) → AllByRecursion (λ q. prefix_cmp p q ≡ Less) (map key xs) → of_prefix p (filter_map f xs) ≡ []
  none_of p [] later = refl
  none_of p (x ∷ xs) later = by (f x) (keeps x) (none_of p xs later.1)
    where
      by : (o : Option BgpPath) → Has prefix_of (key x) o → of_prefix p (filter_map f xs) ≡ [] → of_prefix p (cons_option o (filter_map f xs)) ≡ []
      by None has rest = rest
      by (Some y) has rest = ap (λ b. cond b (y ∷ of_prefix p (filter_map f xs)) (of_prefix p (filter_map f xs))) (ap (λ q. is_eq (prefix_cmp p q)) (has y refl) ∙ ap is_eq later.0) ∙ rest

  one_of : (p : Cidr) (xs : List X) → IsStrictlySortedBy prefix_cmp (map key xs) → of_prefix p (filter_map f xs) ≡ option_to_list (option_and_then f (find (λ x. same_prefix p (key x)) xs))
  unfolding IsStrictlySortedBy
  one_of p [] up = refl
  one_of p (x ∷ xs) up = by (f x) refl (keeps x) (same_prefix p (key x)) refl (one_of p xs up.1)
    where
      alone : same_prefix p (key x) ≡ true → of_prefix p (filter_map f xs) ≡ []
      alone is = ap (λ q. of_prefix q (filter_map f xs)) (same_is p (key x) is) ∙ none_of (key x) xs up.0

      kept : (y : BgpPath) (b : Bool) → y.prefix ≡ key x → same_prefix p (key x) ≡ b → of_prefix p (y ∷ filter_map f xs) ≡ cond b (y ∷ of_prefix p (filter_map f xs)) (of_prefix p (filter_map f xs))
      kept y b has is = ap (λ c. cond c (y ∷ of_prefix p (filter_map f xs)) (of_prefix p (filter_map f xs))) (ap (same_prefix p) has ∙ is)

      by : (o : Option BgpPath) → f x ≡ o → Has prefix_of (key x) o → (b : Bool) → same_prefix p (key x) ≡ b → of_prefix p (filter_map f xs) ≡ option_to_list (option_and_then f (find (λ z. same_prefix p (key z)) xs))
          → of_prefix p (cons_option o (filter_map f xs)) ≡ option_to_list (option_and_then f (cond b (Some x) (find (λ z. same_prefix p (key z)) xs)))
      by None made has true is rest = alone is ∙ ap option_to_list (sym made)
      by (Some y) made has true is rest = kept y true (has y refl) is ∙ ap (λ l. y ∷ l) (alone is) ∙ ap option_to_list (sym made)
      by None made has false is rest = rest
      by (Some y) made has false is rest = kept y false (has y refl) is ∙ rest

-- ---- what a router originates

all_some : (xs : List BgpPath) → filter_map (λ x. Some x) xs ≡ xs
all_some [] = refl
all_some (x ∷ xs) = ap (λ l. x ∷ l) (all_some xs)

then_some : (o : Option BgpPath) → option_and_then (λ x. Some x) o ≡ o
then_some None = refl
then_some (Some x) = refl

itself : (x : BgpPath) → Has prefix_of x.prefix (Some x)
itself x y e = (let same : x ≡ y = cc in ap prefix_of (sym same))

originated_here : (p : Cidr) (own : List (List BgpPath)) → AllByRecursion IsPathList own → of_prefix p (flat_map (λ paths. paths) own) ≡ own_at own p
originated_here p [] up = refl
originated_here p (paths ∷ own) up =
    filter-append (λ (x : BgpPath). same_prefix p x.prefix) paths (flat_map (λ xs. xs) own)
    ∙ (λ i. here i ++ originated_here p own up.1 i) ∙ in_front (path_at paths p) (own_at own p)
  where
    here : of_prefix p paths ≡ option_to_list (path_at paths p)
    here = ap (of_prefix p) (sym (all_some paths)) ∙ one_of prefix_of (λ x. Some x) itself p paths up.0 ∙ ap option_to_list (then_some (path_at paths p))

module _ (net : Network) (table : List Route) (s : Session) where
  heard_of_has : (b : Best) → Has prefix_of b.path.prefix (heard_of net table s b)
  heard_of_has b =
      then_has prefix_of b.path.prefix (reachable table) (reachable_has net [] b.path.prefix table) (option_and_then (import net s) (export net s b.path))
      (then_has prefix_of b.path.prefix (import net s) (λ x is. ask_has prefix_of b.path.prefix net s.receiver s.sender_address (λ file asn n. imported file asn n s x) (imported_has b.path.prefix s x is)) (export net s b.path)
      (ask_has prefix_of b.path.prefix net s.sender s.receiver_address (λ file asn n. exported file asn n s b.path) (exported_has b.path.prefix s b.path refl)))

  told_of_has : (b : Best) → Has prefix_of b.path.prefix (told_of net table s b)
  told_of_has b = either_has prefix_of b.path.prefix (may_go s b) (heard_of net table s b) None (heard_of_has b) (none_has prefix_of b.path.prefix)

  -- nothing is told of what may not go, and what may is told
  told_heard : (b : Best) → same_prefix b.path.prefix default_prefix ≡ false → told_of net table s b ≡ heard_of net table s b
  told_heard b other = ap (λ c. cond ((s.is_external || not (is_internal b.path.source)) && not c) (heard_of net table s b) None) other ∙ by (s.is_external || not (is_internal b.path.source)) refl
    where
      by : (c : Bool) → (s.is_external || not (is_internal b.path.source)) ≡ c → cond (c && true) (heard_of net table s b) None ≡ heard_of net table s b
      by true is = refl
      by false is = ap (λ o. option_and_then (reachable table) (option_and_then (import net s) o)) (sym (none_exported net s b.path is))

  told_default : (b : Best) → same_prefix b.path.prefix default_prefix ≡ true → told_of net table s b ≡ None
  told_default b is = ap (λ c. cond ((s.is_external || not (is_internal b.path.source)) && not c) (heard_of net table s b) None) is ∙ by (s.is_external || not (is_internal b.path.source))
    where
      by : (c : Bool) → cond (c && false) (heard_of net table s b) None ≡ None
      by true = refl
      by false = refl

  -- ---- so of all that is heard over a session the paths of a prefix are what is heard for it

  module _ (old : List RouterState) (up : IsBestList (paths_of old s.sender)) (p : Cidr) where
    abbrev found : Option Best
    found = best_for (paths_of old s.sender) p

    found_is : (b : Best) → found ≡ Some b → b.path.prefix ≡ p
    found_is b e = sym (same_is p b.path.prefix (found_passes (λ (x : Best). same_prefix p x.path.prefix) (paths_of old s.sender) b e))

    told_part : of_prefix p (filter_map (told_of net table s) (paths_of old s.sender)) ≡ option_to_list (option_and_then (told_of net table s) found)
    told_part = one_of best_prefix (told_of net table s) told_of_has p (paths_of old s.sender) up

    abbrev whole : Option BgpPath → List BgpPath
    whole o = of_prefix p (option_to_list o) ++ option_to_list (option_and_then (told_of net table s) found)

    at_default : p ≡ default_prefix → (o : Option BgpPath) → Has prefix_of default_prefix o → whole o ≡ option_to_list o
    at_default is o has = (λ i. first o has i ++ option_to_list (second found found_is i)) ∙ append-nil (option_to_list o)
      where
        first : (o : Option BgpPath) → Has prefix_of default_prefix o → of_prefix p (option_to_list o) ≡ option_to_list o
        first None has = refl
        first (Some x) has = ap (λ c. cond c (x ∷ []) []) ((λ i. same_prefix (is i) (has x refl i)) ∙ ap is_eq (same_itself default_prefix))

        second : (o : Option Best) → ((b : Best) → o ≡ Some b → b.path.prefix ≡ p) → option_and_then (told_of net table s) o ≡ None
        second None keeps = refl
        second (Some b) keeps = told_default b (ap (λ q. same_prefix q default_prefix) (keeps b refl ∙ is) ∙ ap is_eq (same_itself default_prefix))

    elsewhere : same_prefix p default_prefix ≡ false → (o : Option BgpPath) → Has prefix_of default_prefix o → whole o ≡ option_to_list (path_heard net old table s p)
    elsewhere other o has = (λ i. first o has i ++ option_to_list (second found found_is i)) ∙ ap option_to_list (ap (λ c. option_and_then (reachable table) (option_and_then (import net s) (cond c (option_or (originated_default net s) (advertised_best net old s p)) (advertised_best net old s p)))) (sym other))
      where
        first : (o : Option BgpPath) → Has prefix_of default_prefix o → of_prefix p (option_to_list o) ≡ []
        first None has = refl
        first (Some x) has = ap (λ c. cond c (x ∷ []) []) (ap (same_prefix p) (has x refl) ∙ other)

        second : (o : Option Best) → ((b : Best) → o ≡ Some b → b.path.prefix ≡ p) → option_and_then (told_of net table s) o ≡ option_and_then (reachable table) (option_and_then (import net s) (option_and_then (export net s) (option_map (λ (b : Best). b.path) o)))
        second None keeps = refl
        second (Some b) keeps = told_heard b (ap (λ q. same_prefix q default_prefix) (keeps b refl) ∙ other)

    heard_here : of_prefix p (heard_over net table old s) ≡ option_to_list (path_heard net old table s p)
    heard_here =
        filter-append (λ (x : BgpPath). same_prefix p x.prefix) (option_to_list (path_heard net old table s default_prefix)) (filter_map (told_of net table s) (paths_of old s.sender))
        ∙ ap (λ l. of_prefix p (option_to_list (path_heard net old table s default_prefix)) ++ l) told_part ∙ by (same_prefix p default_prefix) refl
      where
        by : (c : Bool) → same_prefix p default_prefix ≡ c → whole (path_heard net old table s default_prefix) ≡ option_to_list (path_heard net old table s p)
        by true is =
            let here = same_is p default_prefix is in
            at_default here (path_heard net old table s default_prefix) (heard_has net old default_prefix table s) ∙ ap (λ q. option_to_list (path_heard net old table s q)) (sym here)
        by false is = elsewhere is (path_heard net old table s default_prefix) (heard_has net old default_prefix table s)

-- ---- all candidates

module _ (net : Network) (table : List Route) (old : List RouterState) (known : All IsRouterState old) where
  all_heard_here : (p : Cidr) (ss : List Session) → of_prefix p (flat_map (heard_over net table old) ss) ≡ filter_map (λ s. path_heard net old table s p) ss
  all_heard_here p [] = refl
  all_heard_here p (s ∷ ss) =
      filter-append (λ (x : BgpPath). same_prefix p x.prefix) (heard_over net table old s) (flat_map (heard_over net table old) ss)
      ∙ (λ i. heard_here net table s old (paths_in_order old s.sender (paths_of old s.sender) known refl) p i ++ all_heard_here p ss i) ∙ in_front (path_heard net old table s p) (filter_map (λ t. path_heard net old table t p) ss)

  module _ (own : List (List BgpPath)) (ups : All IsPathList own) (ss : List Session) where
    here : (p : Cidr) → of_prefix p (gathered net table old own ss) ≡ candidates_at net old table own ss p
    here p =
        filter-append (λ (x : BgpPath). same_prefix p x.prefix) (flat_map (λ paths. paths) own) (flat_map (heard_over net table old) ss)
        ∙ (λ i. originated_here p own (recursion_from_All IsPathList own ups) i ++ all_heard_here p ss i)

-- ---- the best of each prefix

of_both : {X Y : Type 0} (g : X → Option Y) (xs : List X) → filter_map (λ o. o) (map g xs) ≡ filter_map g xs
of_both g [] = refl
of_both g (x ∷ xs) = ap (cons_option (g x)) (of_both g xs)

twice : {X Y : Type 0} (h : X → Option (Option Y)) (xs : List X) → filter_map (λ o. o) (filter_map h xs) ≡ filter_map (λ x. option_and_then (λ o. o) (h x)) xs
twice {X} {Y} h [] = refl
twice {X} {Y} h (x ∷ xs) = by (h x) (twice h xs)
  where
    by : (o : Option (Option Y)) → filter_map (λ o. o) (filter_map h xs) ≡ filter_map (λ x. option_and_then (λ o. o) (h x)) xs
        → filter_map (λ o. o) (cons_option o (filter_map h xs)) ≡ cons_option (option_and_then (λ o. o) o) (filter_map (λ x. option_and_then (λ o. o) (h x)) xs)
    by None rest = rest
    by (Some o) rest = ap (cons_option o) rest

value_from : (known xs : List BgpPath) → fold (λ v x. Some (with_path v x)) (Some known) xs ≡ Some (known ++ xs)
value_from known [] = ap Some (sym (append-nil known))
value_from known (x ∷ xs) = value_from (known ++ x ∷ []) xs ∙ ap Some (append_assoc known (x ∷ []) xs)

best_value : (most : MaximumPaths) (xs : List BgpPath) → option_and_then (λ o. o) (option_map (best_with_further most) (value_of prefix_of with_path xs)) ≡ best_with_further most xs
best_value most [] = refl
best_value most (x ∷ xs) = ap (λ v. option_and_then (λ o. o) (option_map (best_with_further most) v)) (value_from (x ∷ []) xs)

best_rows : (most : MaximumPaths) (xs : List BgpPath) → filter_map (λ row. best_with_further most row.1) (with_paths [] xs) ≡ filter_map (λ p. best_with_further most (of_prefix p xs)) (in_order prefix_cmp (prefixes_of xs))
best_rows most xs =
    sym (of_both (λ (row : Cidr × List BgpPath). best_with_further most row.1) (with_paths [] xs)) ∙ ap (filter_map (λ o. o)) (grouped_rows prefix_of with_path (λ p v. best_with_further most v) xs)
    ∙ twice (λ p. option_map (best_with_further most) (value_at prefix_of with_path p xs)) (in_order prefix_cmp (prefixes_of xs)) ∙ (λ i. filter_map (λ p. best_value most (of_prefix p xs) i) (in_order prefix_cmp (prefixes_of xs)))

none_here : (p : Cidr) (xs : List BgpPath) → list_any (same_prefix p) (prefixes_of xs) ≡ false → of_prefix p xs ≡ []
none_here p [] none = refl
none_here p (x ∷ xs) none =
    let parts = or_parts (same_prefix p x.prefix) (list_any (same_prefix p) (prefixes_of xs)) none in
    ap (λ b. cond b (x ∷ of_prefix p xs) (of_prefix p xs)) parts.0 ∙ none_here p xs parts.1

-- the best of the candidates of each prefix, gathered path by path, are the best of all prefixes
pub gathered_best : (net : Network) (table : List Route) (old : List RouterState) (most : MaximumPaths) (own : List (List BgpPath)) (ss : List Session) (rows : List (Cidr × List BgpPath)) (paths : List Best) → All IsRouterState old → All IsPathList own
    → rows ≡ with_paths [] (gathered net table old own ss) → paths ≡ filter_map (λ row. best_with_further most row.1) rows → paths ≡ all_best net old most table own ss
gathered_best net table old most own ss rows paths known ups is made =
    made ∙ ap (filter_map (λ row. best_with_further most row.1)) is ∙ best_rows most all
    ∙ (λ i. filter_map (λ p. best_with_further most (here net table old known own ups ss p i)) (in_order prefix_cmp (prefixes_of all)))
    ∙ same_lists best_prefix (filter_map best (in_order prefix_cmp (prefixes_of all))) (filter_map best (prefixes_seen old own ss)) (up (prefixes_of all)) (up (default_prefix ∷ (flat_map prefixes_of own ++ flat_map (sender_prefixes old) ss))) same
  where
    all : List BgpPath
    all = gathered net table old own ss

    best : Cidr → Option Best
    best = best_among net old most table own ss

    keeps : (p : Cidr) (b : Best) → best p ≡ Some b → b.path.prefix ≡ p
    keeps p = among_has net old p most table own ss

    up : (ps : List Cidr) → IsBestList (filter_map best (in_order prefix_cmp ps))
    up ps = made_in_order best_prefix best keeps (in_order prefix_cmp ps) (in_order-sorted prefix_cmp prefix_cmp_total ps)

    none : (p : Cidr) → list_any (same_prefix p) (in_order prefix_cmp (prefixes_of all)) ≡ false → best p ≡ None
    none p absent =
        let missing = sym (any-in_order prefix_cmp same_by_prefix_cmp (same_prefix p) (prefixes_of all)) ∙ absent in
        ap (best_with_further most) (sym (here net table old known own ups ss p) ∙ none_here p all missing)

    same : (p : Cidr) → best_for (filter_map best (in_order prefix_cmp (prefixes_of all))) p ≡ best_for (filter_map best (prefixes_seen old own ss)) p
    same p =
        at_made best_prefix best keeps (in_order prefix_cmp (prefixes_of all)) (in_order-sorted prefix_cmp prefix_cmp_total (prefixes_of all)) p (none p)
        ∙ sym (at_made best_prefix best keeps (prefixes_seen old own ss) (in_order-sorted prefix_cmp prefix_cmp_total (default_prefix ∷ (flat_map prefixes_of own ++ flat_map (sender_prefixes old) ss))) p (none_best net old most table own ss p))
