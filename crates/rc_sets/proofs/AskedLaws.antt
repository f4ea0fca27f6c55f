-- The access lists that are asked about, by their places; and what a table may hold for them.
use Rattle.std.proofs.Common.{refl, ◌≡◌, ap, sym, ◌∙◌, subst, ℕ, zero, suc, ◌+◌, ◌-◌, ◌<◌, ◌≤◌, Bool, true, false, ◌||◌, cond, List, [], ◌∷◌, ◌++◌, inl, inr, filter, length, map, take, drop, get_or, Option, Some, None, arith}
use Rattle.std.specs.List.{flat_map, list_any, range_with_len, slice_get}
use Rattle.std.specs.Option.{option_map}
use Rattle.std.proofs.lemmas.List.{map-append}
use Rattle.std.proofs.lemmas.Option.{get_or_from_slice_get, slice_get-map}
use Rattle.rc_base.proofs.FirstSeenLaws.{any-first_seen}
use Rattle.rc_base.specs.Lists.{first_seen}
use Rattle.rc_config.specs.declared.access_list.AccessList.{AccessList}
use Rattle.rc_config.specs.declared.network.Network.{Network}
use Rattle.rc_nodes.specs.Seats.{TableView}
use Rattle.rc_shares.specs.Stretches.{IsStretch}
use Rattle.rc_shares.proofs.StretchLaws.{stretch_up}
use Rattle.rc_trees.specs.Trees.{Tree, is_node, same_tree, HasNodes, IsAmong}
use Rattle.rc_trees.specs.Recipes.{Recipe, parts}
use Rattle.rc_trees.proofs.TreeLaws.{same_tree-Decides}
use Rattle.rc_sets.specs.AskedLists.{AreAsked, ArePlaces, IsIdleAt, MayTell, idle_of, list_at}
use Rattle.rc_sets.specs.IdleLines.{all_parts, idle_sets, nodes_of}
use Rattle.rc_sets.specs.LinesQuery.{access_lists_at, idle_in, lists_nodes}
use Rattle.rc_sets.specs.declared.asked_lists.ListPlace.{ListPlace}
use Rattle.rc_sets.specs.declared.idle_line.IdleLine.{IdleLine}
use Rattle.rc_sets.proofs.DecidingLaws.{nothing_more}

abbrev Lists : Type 0
Lists = List (List ℕ × AccessList)

-- ---- places

pub one_taken : {A : Type 0} (xs : List A) (i : ℕ) → i < length xs → map Some (take (suc i) xs) ≡ map Some (take i xs) ++ slice_get xs i ∷ []
one_taken [] i less = absurd (omega arith)
one_taken (x ∷ xs) zero less = refl
one_taken (x ∷ xs) (suc i) less = ap (λ ys. Some x ∷ ys) (one_taken xs i (omega arith))

append-again : {A : Type 0} (xs ys zs : List A) → (xs ++ ys) ++ zs ≡ xs ++ (ys ++ zs)
append-again [] ys zs = refl
append-again (x ∷ xs) ys zs = ap (λ s. x ∷ s) (append-again xs ys zs)

-- one place more, of a router whose first lists stand there
pub place_more : (net : Network) (before old more : List ListPlace) (router i : ℕ) → i < length (access_lists_at net router) → more ≡ before ++ record { router = router; list = i } ∷ []
    → map (list_at net) before ≡ map (list_at net) old ++ map Some (take i (access_lists_at net router)) → map (list_at net) more ≡ map (list_at net) old ++ map Some (take (i + 1) (access_lists_at net router))
place_more net before old more router i less same so_far =
    let lists = access_lists_at net router in
    ap (map (list_at net)) same
    ∙ map-append (list_at net) before (record { router = router; list = i } ∷ [])
    ∙ ap (λ xs. xs ++ slice_get lists i ∷ []) so_far
    ∙ append-again (map (list_at net) old) (map Some (take i lists)) (slice_get lists i ∷ [])
    ∙ ap (λ xs. map (list_at net) old ++ xs) (sym (one_taken lists i less))
    ∙ ap (λ n. map (list_at net) old ++ map Some (take n lists)) (let e : suc i ≡ i + 1 = omega arith in e)

take-all : {A : Type 0} (k : ℕ) (xs : List A) → length xs ≤ k → take k xs ≡ xs
take-all zero [] le = refl
take-all zero (x ∷ xs) le = absurd (omega arith)
take-all (suc k) [] le = refl
take-all (suc k) (x ∷ xs) le = ap (λ ys. x ∷ ys) (take-all k xs (omega arith))

pub all_taken : (net : Network) (before old : List ListPlace) (router i : ℕ) → length (access_lists_at net router) ≤ i
    → map (list_at net) before ≡ map (list_at net) old ++ map Some (take i (access_lists_at net router)) → map (list_at net) before ≡ map (list_at net) old ++ map Some (access_lists_at net router)
all_taken net before old router i le so_far = so_far ∙ ap (λ ls. map (list_at net) old ++ map Some ls) (take-all i (access_lists_at net router) le)

-- the lists of one router more
pub router_more : (net : Network) (before more : List ListPlace) (router count : ℕ) (all : List (Option (List ℕ × AccessList))) → router < count
    → map (list_at net) more ≡ map (list_at net) before ++ map Some (access_lists_at net router)
    → map (list_at net) before ++ map Some (flat_map (access_lists_at net) (range_with_len router (count - router))) ≡ all
    → map (list_at net) more ++ map Some (flat_map (access_lists_at net) (range_with_len (router + 1) (count - (router + 1)))) ≡ all
router_more net before more router count all less pushed so_far =
    let left = flat_map (access_lists_at net) (range_with_len (router + 1) (count - (router + 1))) in
    let one : count - router ≡ suc (count - (router + 1)) = omega arith in
    ap (λ xs. xs ++ map Some left) pushed
    ∙ append-again (map (list_at net) before) (map Some (access_lists_at net router)) (map Some left)
    ∙ ap (λ xs. map (list_at net) before ++ xs) (sym (map-append Some (access_lists_at net router) left))
    ∙ ap (λ n. map (list_at net) before ++ map Some (flat_map (access_lists_at net) (range_with_len router n))) (sym one)
    ∙ so_far

pub no_router_left : (net : Network) (before : List ListPlace) (router count : ℕ) (all : List (Option (List ℕ × AccessList))) → count ≤ router
    → map (list_at net) before ++ map Some (flat_map (access_lists_at net) (range_with_len router (count - router))) ≡ all → map (list_at net) before ≡ all
no_router_left net before router count all le so_far =
    let none : 0 ≡ count - router = omega arith in
    sym (nothing_more (map (list_at net) before)) ∙ ap (λ n. map (list_at net) before ++ map Some (flat_map (access_lists_at net) (range_with_len router n))) none ∙ so_far

-- ---- what may be made for them

any-among : (x : Tree) (xs : List Tree) → IsAmong xs x → list_any (same_tree x) xs ≡ true
any-among x [] there = absurd there
any-among x (y ∷ ys) (inl same) = ap (λ b. b || list_any (same_tree x) ys) ((same_tree-Decides x y).1 (sym same))
any-among x (y ∷ ys) (inr rest) = by (same_tree x y) (any-among x ys rest)
  where
    by : (b : Bool) → list_any (same_tree x) ys ≡ true → (b || list_any (same_tree x) ys) ≡ true
    by true later = refl
    by false later = later

among-any : (x : Tree) (xs : List Tree) → list_any (same_tree x) xs ≡ true → IsAmong xs x
among-any x [] some = absurd (let e : false ≡ true = some in cc)
among-any x (y ∷ ys) some = by (same_tree x y) (same_tree-Decides x y).0 some (among-any x ys)
  where
    by : (b : Bool) → (b ≡ true → x ≡ y) → (b || list_any (same_tree x) ys) ≡ true → (list_any (same_tree x) ys ≡ true → IsAmong ys x) → IsAmong (y ∷ ys) x
    by true same some later = inl (sym (same refl))
    by false same some later = inr (later some)

among-filter : (x : Tree) (xs : List Tree) → IsAmong xs x → is_node x ≡ true → IsAmong (filter is_node xs) x
among-filter x [] there is = absurd there
among-filter x (y ∷ ys) (inl same) is = subst (λ b. IsAmong (cond b (y ∷ filter is_node ys) (filter is_node ys)) x) (sym (ap is_node same ∙ is)) (inl same)
among-filter x (y ∷ ys) (inr rest) is = by (is_node y) (among-filter x ys rest is)
  where
    by : (b : Bool) → IsAmong (filter is_node ys) x → IsAmong (cond b (y ∷ filter is_node ys) (filter is_node ys)) x
    by true there = inr there
    by false there = there

-- each node among the parts of some sets is one of their different nodes
pub nodes_of_all : (sets : List Recipe) → HasNodes (nodes_of sets) (all_parts sets)
unfolding nodes_of
nodes_of_all sets x there is =
    let nodes = filter is_node (all_parts sets) in
    among-any x (first_seen same_tree nodes) (any-first_seen same_tree (λ a b. (same_tree-Decides a b).0) (same_tree x) nodes ∙ any-among x nodes (among-filter x (all_parts sets) there is))

in-front : (x : Tree) (xs ys : List Tree) → IsAmong xs x → IsAmong (xs ++ ys) x
in-front x [] ys there = absurd there
in-front x (y ∷ xs) ys (inl same) = inl same
in-front x (y ∷ xs) ys (inr rest) = inr (in-front x xs ys rest)

in-back : (x : Tree) (xs ys : List Tree) → IsAmong ys x → IsAmong (xs ++ ys) x
in-back x [] ys there = there
in-back x (y ∷ xs) ys there = inr (in-back x xs ys there)

parts-append : (rs ss : List Recipe) → all_parts (rs ++ ss) ≡ all_parts rs ++ all_parts ss
parts-append [] ss = refl
parts-append (r ∷ rs) ss = ap (λ xs. parts r ++ xs) (parts-append rs ss) ∙ sym (append-again (parts r) (all_parts rs) (all_parts ss))

-- the sets of all lists
abbrev sets_in : Lists → List Recipe
sets_in lists = flat_map (λ e. idle_sets e.1.lines) lists

among-lists : (lists : Lists) (name : List ℕ) (f : AccessList) (i : ℕ) → slice_get lists i ≡ Some (name, f) → (x : Tree) → IsAmong (all_parts (idle_sets f.lines)) x → IsAmong (all_parts (sets_in lists)) x
among-lists [] name f i found x there = absurd (let e : None ≡ Some (name, f) = found in cc)
among-lists (e ∷ lists) name f zero found x there =
    let same : Some e ≡ Some (name, f) = found in
    let same' : e ≡ (name, f) = cc in
    subst (λ xs. IsAmong xs x) (sym (parts-append (idle_sets e.1.lines) (sets_in lists)))
    (in-front x (all_parts (idle_sets e.1.lines)) (all_parts (sets_in lists)) (subst (λ (g : List ℕ × AccessList). IsAmong (all_parts (idle_sets g.1.lines)) x) (sym same') there))
among-lists (e ∷ lists) name f (suc i) found x there =
    subst (λ xs. IsAmong xs x) (sym (parts-append (idle_sets e.1.lines) (sets_in lists)))
    (in-back x (all_parts (idle_sets e.1.lines)) (all_parts (sets_in lists)) (among-lists lists name f i found x there))

pub may_tell : (nodes : TableView) (lists : Lists) → nodes.may ≡ lists_nodes lists → MayTell nodes lists
may_tell nodes lists is name f i found x there node =
    subst (λ may. IsAmong may x) (sym is) (nodes_of_all (sets_in lists) x (among-lists lists name f i found x there) node)

-- ---- what is made for them

found_at : (net : Network) (places : List ListPlace) (lists : Lists) → ArePlaces net places lists → (i : ℕ) (p : ListPlace) → slice_get places i ≡ Some p → Some (list_at net p) ≡ option_map Some (slice_get lists i)
found_at net places lists are i p found = sym (ap (option_map (list_at net)) found) ∙ sym (slice_get-map (list_at net) places i) ∙ ap (λ xs. slice_get xs i) are ∙ slice_get-map Some lists i

some_there : {A : Type 0} (x : A) (o : Option A) → Some (Some x) ≡ option_map Some o → o ≡ Some x
some_there x None e = absurd (cc)
some_there x (Some y) e = let f : Some x ≡ Some y = cc in sym f

-- what is asked where a list is told
pub may_at : {nodes : TableView} {net : Network} {places : List ListPlace} → AreAsked nodes net places → (i : ℕ) (p : ListPlace) → slice_get places i ≡ Some p
    → (name : List ℕ) (f : AccessList) → list_at net p ≡ Some (name, f) → HasNodes nodes.may (all_parts (idle_sets f.lines))
may_at {nodes} {net} {places} asked i p found name f there =
    asked.may name f i (some_there (name, f) (slice_get asked.lists i) (ap Some (sym there) ∙ found_at net places asked.lists asked.places_are i p found))

drop_one : {A : Type 0} (xs : List A) (i : ℕ) → i < length xs → (x : A) × (slice_get xs i ≡ Some x) × (drop i xs ≡ x ∷ drop (suc i) xs)
drop_one [] i less = absurd (omega arith)
drop_one (x ∷ xs) zero less = (x, refl, refl)
drop_one (x ∷ xs) (suc i) less = let (y, found, is) = drop_one xs i (omega arith) in (y, found, is)

drop_all : {A : Type 0} (xs : List A) (i : ℕ) → length xs ≤ i → drop i xs ≡ []
drop_all [] zero le = refl
drop_all [] (suc i) le = refl
drop_all (x ∷ xs) zero le = absurd (omega arith)
drop_all (x ∷ xs) (suc i) le = drop_all xs i (omega arith)

both-maps : {A B C : Type 0} (f : B → C) (g : A → B) (xs : List A) → map (λ x. f (g x)) xs ≡ map f (map g xs)
both-maps f g [] = refl
both-maps f g (x ∷ xs) = ap (λ ys. f (g x) ∷ ys) (both-maps f g xs)

abbrev idle_there : Network → ListPlace → List IdleLine
idle_there net p = idle_of (list_at net p)

by_places : (net : Network) (places : List ListPlace) (made : List (List IdleLine)) (a : ℕ) → IsStretch (IsIdleAt net places) a (length places) made → made ≡ map (idle_there net) (drop a places)
unfolding IsStretch
by_places net places [] a is = ap (map (idle_there net)) (sym (drop_all places a (omega (arith, is))))
by_places net places (x ∷ made) a is =
    let up = stretch_up (IsIdleAt net places) (a + 1) (length places) made is.1 in
    let (p, found, parted) = drop_one places a (omega (arith, up)) in
    (λ i. is.0 p found i ∷ by_places net places made (a + 1) is.1 i) ∙ ap (map (idle_there net)) (ap (λ n. p ∷ drop n places) (let e : a + 1 ≡ suc a = omega arith in e) ∙ sym parted)

-- what was made of all places is what is asked
pub all_told : (net : Network) (places : List ListPlace) (lists : Lists) → ArePlaces net places lists → (made : List (List IdleLine)) → IsStretch (IsIdleAt net places) 0 (length places) made → made ≡ idle_in lists
all_told net places lists are made is =
    by_places net places made 0 is ∙ both-maps idle_of (list_at net) places ∙ ap (map idle_of) are ∙ sym (both-maps idle_of Some lists)

-- what is told at a place is what is asked of the place of that number
pub told_at : (net : Network) (places : List ListPlace) (number : ℕ) (d : ListPlace) (idle : List IdleLine) → idle ≡ idle_of (list_at net (get_or places number d)) → IsIdleAt net places number idle
told_at net places number d idle is p found = is ∙ ap (λ q. idle_of (list_at net q)) (get_or_from_slice_get places number p d found)
