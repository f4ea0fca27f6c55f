-- The interfaces onto which a hop leads, and what all of them get.
use Rattle.std.proofs.Common.{refl, ◌≡◌, ◌≢◌, ap, sym, ◌∙◌, subst, ℕ, zero, suc, ◌+◌, ◌<◌, ◌==◌, Bool, true, false, not, ◌&&◌, ◌||◌, cond, List, [], ◌∷◌, ◌++◌, append-nil, append_assoc, length, take, drop, get_or, Option, Some, None, inl, inr, ◌⊎◌, arith}
use Rattle.std.specs.List.{flat_map, list_any, slice_get, AllByRecursion}
use Rattle.std.specs.Option.{option_map_or}
use Rattle.std.proofs.lemmas.Bool.{and_parts, and_from, cases_eq, eq-eqb, ne_eqb}
use Rattle.std.proofs.lemmas.List.{length-map}
use Rattle.rc_base.proofs.KeepLaws.{In}
use Rattle.rc_base.specs.Positions.{same_interface}
use Rattle.rc_base.specs.declared.position.IfId.{IfId}
use Rattle.rc_base.specs.declared.position.Pos.{Pos}
use Rattle.rc_base.specs.declared.position.Pos.TheVariants.{Own, Entering}
use Rattle.rc_config.specs.Lawful.{IsPosition}
use Rattle.rc_config.specs.Members.{interfaces_of, positions}
use Rattle.rc_config.specs.declared.network.Network.{Network}
use Rattle.rc_config.specs.declared.router_text.RouterText.{RouterText}
use Rattle.rc_router_sets.proofs.JoinLaws.{front, piece, taken}
use Rattle.rc_router_sets.proofs.MemberLaws.{member-linked, member-takers, passes_there, same_interface-Decides, some_ports, within_list}
use Rattle.rc_router_sets.proofs.PlaneLaws.{ports}
use Rattle.rc_edges.proofs.PrepareLaws.{in-place}
use Rattle.rc_router_sets.specs.Edges.{edge, onto_link, takes, towards, union}
use Rattle.rc_edges.specs.Given.{given_by, given_onto, hop_targets, is_entry, leads_onto, sets_to, with_sets}
use Rattle.rc_router_sets.specs.Sent.{hops_at, leaving}
use Rattle.rc_places.proofs.PlaceLaws.{number_at, number_there}
use Rattle.rc_places.specs.Places.{number_of, position_at}
use Rattle.rc_route.specs.declared.route.Hop.{Hop}
use Rattle.rc_route.specs.declared.route.Hop.TheVariants.{Null, Dev, Via}
use Rattle.rc_sets.proofs.LongestLaws.{in-filter}
use Rattle.rc_topology.proofs.InterfaceLaws.{some_in_order}
use Rattle.rc_topology.proofs.OrderLaws.{before_itself, in_order_filter}
use Rattle.rc_topology.specs.Links.{all_ids, are_linked, is_cut, linked, port_at, port_is, ports_at, share_subnet, takers}
use Rattle.rc_topology.specs.Order.{AreInPositionOrder, is_before}
use Rattle.rc_topology.specs.Ports.{is_loopback, links_of, owns, port_of, ports_of, share_prefix}
use Rattle.rc_topology.specs.Topology.{Topology}
use Rattle.rc_topology.specs.declared.port.Port.{Port}
use Rattle.rc_trees.specs.Recipes.{Recipe, given, parts, tree}
use Rattle.rc_trees.specs.Trees.{Tree, never, HasNodes}
use Rattle.rc_moves.specs.Moves.{DataPlane}

-- ---- targets are positions

module _ (net : Network) where
  is_there : (i : IfId) (p : Port) → port_at (links_of net) i ≡ Some p → IsPosition net (Entering i)
  unfolding links_of
  is_there i p found =
      let router = some_ports (links_of net) i.router (slice_get (links_of net).ports i.router) i.index p found in
      let r : i.router < length (links_of net).ports = within_list (links_of net).ports i.router router.0 router.1 in
      let n : i.index < length (ports_at (links_of net) i.router) = within_list (ports_at (links_of net) i.router) i.index p found in
      let routers : length (links_of net).ports ≡ length net.routers = length-map net.routers (λ (e : List ℕ × RouterText). ports_of e.1) in
      let interfaces : length (ports_at (links_of net) i.router) ≡ length (interfaces_of net i.router) = ap length (ports net i.router) ∙ length-map (interfaces_of net i.router) (port_of (interfaces_of net i.router)) in
      let one : i.router < length net.routers = omega arith in
      let two : i.index < length (interfaces_of net i.router) = omega arith in
      (one, two)

  linked_is : (i t : IfId) → are_linked (links_of net) i t ≡ true → IsPosition net (Entering t)
  linked_is i t linked = by (port_at (links_of net) i) (and_parts (not (i.router == t.router)) (option_map_or (λ p. port_is (links_of net) (share_prefix p) t) (port_at (links_of net) i) false) (and_parts (share_subnet (links_of net) i t) (not (is_cut (links_of net) i t)) linked).0).1
    where
      by : (o : Option Port) → option_map_or (λ p. port_is (links_of net) (share_prefix p) t) o false ≡ true → IsPosition net (Entering t)
      by None e = absurd (let x : false ≡ true = e in cc)
      by (Some p) e = let found = passes_there (links_of net) (share_prefix p) t (port_at (links_of net) t) e in is_there t found.0 found.1

  pub leads_is : (links : Topology) → links ≡ links_of net → (x : Hop) (t : IfId) → leads_onto links x t ≡ true → IsPosition net (Entering t)
  leads_is links e Null t leads = absurd (let y : false ≡ true = leads in cc)
  leads_is links e (Dev i) t leads = linked_is i t (subst (λ l. are_linked l i t ≡ true) e (and_parts (not (port_is links is_loopback i)) (are_linked links i t) leads).1)
  leads_is links e (Via g None) t leads = absurd (let y : false ≡ true = leads in cc)
  leads_is links e (Via g (Some i)) t leads =
      linked_is i t (subst (λ l. are_linked l i t ≡ true) e (and_parts (are_linked links i t) (port_is links (owns g) t) (and_parts (not (port_is links is_loopback i)) (takes links i g t) leads).1).0)

-- ---- each target is led onto, and stands once

module _ (links : Topology) where
  not_loop : (b c : Bool) → c ≡ true → b ≡ false → (not b && c) ≡ true
  not_loop true c is none = absurd (cc)
  not_loop false c is none = is

  some_led : (b : Bool) (t : IfId) (ts : List IfId) (c : Bool) → In t (cond b [] ts) → (In t ts → c ≡ true) → (not b && c) ≡ true
  some_led true t ts c there f = absurd there
  some_led false t ts c there f = f there

  in_led : (x : Hop) (t : IfId) → In t (hop_targets links x) → leads_onto links x t ≡ true
  in_led Null t there = absurd there
  in_led (Dev i) t there = some_led (port_is links is_loopback i) t (linked links i) (are_linked links i t) there (λ here. (in-filter (are_linked links i) t (all_ids links) here).1)
  in_led (Via g None) t there = absurd there
  in_led (Via g (Some i)) t there =
      some_led (port_is links is_loopback i) t (takers links i g) (takes links i g t) there
      (λ here.
      let one = in-filter (port_is links (owns g)) t (linked links i) here in
      and_from (are_linked links i t) (port_is links (owns g) t) (in-filter (are_linked links i) t (all_ids links) one.0).1 one.1)

  pub target_led : (x : Hop) (ts : List IfId) → ts ≡ hop_targets links x → (j : ℕ) (t : IfId) → t ≡ get_or ts j t → j < length ts → leads_onto links x t ≡ true
  target_led x ts e j t is less = in_led x t (subst (In t) e (subst (λ u. In u ts) (sym is) (in-place ts j t less)))

  in_order_choice : (b : Bool) (ts : List IfId) → AreInPositionOrder ts → AreInPositionOrder (cond b [] ts)
  in_order_choice true ts ordered = tt
  in_order_choice false ts ordered = ordered

  targets_in_order : (x : Hop) → AreInPositionOrder (hop_targets links x)
  targets_in_order Null = tt
  targets_in_order (Dev i) = in_order_choice (port_is links is_loopback i) (linked links i) (some_in_order links (are_linked links i))
  targets_in_order (Via g None) = tt
  targets_in_order (Via g (Some i)) = in_order_choice (port_is links is_loopback i) (takers links i g) (in_order_filter (port_is links (owns g)) (linked links i) (some_in_order links (are_linked links i)))

  apart : (y z : IfId) → is_before y z ≡ true → same_interface z y ≡ false
  apart y z before = by (same_interface z y) refl
    where
      by : (b : Bool) → same_interface z y ≡ b → b ≡ false
      by true same = absurd (let e : z ≡ y = (same_interface-Decides z y).0 same in let f : is_before y y ≡ true = subst (λ u. is_before y u ≡ true) e before in let g : true ≡ false = sym f ∙ before_itself y in cc)
      by false other = refl

  at_place : (P : IfId → Type 0) (xs : List IfId) (j : ℕ) (d : IfId) → j < length xs → AllByRecursion P xs → P (get_or xs j d)
  at_place P [] j d less all = absurd (omega arith)
  at_place P (x ∷ xs) zero d less all = all.0
  at_place P (x ∷ xs) (suc j) d less all = at_place P xs j d (omega arith) all.1

  stands_once : (ts : List IfId) → AreInPositionOrder ts → (j : ℕ) (d : IfId) → j < length ts → list_any (same_interface (get_or ts j d)) (take j ts) ≡ false
  stands_once [] ordered j d less = absurd (omega arith)
  stands_once (y ∷ ys) ordered zero d less = refl
  stands_once (y ∷ ys) ordered (suc j) d less =
      let rest = stands_once ys ordered.1 j d (omega arith) in
      let here = apart y (get_or ys j d) (at_place (λ z. is_before y z ≡ true) ys j d (omega arith) ordered.0) in
      (λ n. here n || rest n)

  pub target_once : (x : Hop) (ts : List IfId) → ts ≡ hop_targets links x → (j : ℕ) (t : IfId) → t ≡ get_or ts j t → j < length ts → list_any (same_interface t) (take j ts) ≡ false
  target_once x ts e j t is less = subst (λ u. list_any (same_interface u) (take j ts) ≡ false) (sym is) (stands_once ts (subst AreInPositionOrder (sym e) (targets_in_order x)) j t less)

-- ---- what hops give

pub flat-append : {A B : Type 0} (f : A → List B) (xs ys : List A) → flat_map f (xs ++ ys) ≡ flat_map f xs ++ flat_map f ys
flat-append f [] ys = refl
flat-append f (x ∷ xs) ys = ap (λ zs. f x ++ zs) (flat-append f xs ys) ∙ sym (append_assoc (f x) (flat_map f xs) (flat_map f ys))

pub at_index : {A : Type 0} (xs : List A) (k : ℕ) (x : A) → slice_get xs k ≡ Some x → xs ≡ take k xs ++ x ∷ drop (suc k) xs
at_index [] k x at = absurd (let e : None ≡ Some x = at in cc)
at_index (y ∷ ys) zero x at = ap (λ z. z ∷ ys) (let e : y ≡ x = cc in e)
at_index (y ∷ ys) (suc k) x at = ap (λ zs. y ∷ zs) (at_index ys k x at)

pub to_index : {A : Type 0} (xs : List A) (k : ℕ) (x : A) → slice_get xs k ≡ Some x → take (k + 1) xs ≡ take k xs ++ x ∷ []
to_index xs k x at = ap (λ n. take n xs) (let e : k + 1 ≡ suc k = omega arith in e) ∙ by xs k x at
  where
    by : {A : Type 0} (xs : List A) (k : ℕ) (x : A) → slice_get xs k ≡ Some x → take (suc k) xs ≡ take k xs ++ x ∷ []
    by [] k x at = absurd (let e : None ≡ Some x = at in cc)
    by (y ∷ ys) zero x at = ap (λ z. z ∷ []) (let e : y ≡ x = cc in e)
    by (y ∷ ys) (suc k) x at = ap (λ zs. y ∷ zs) (by ys k x at)

any-snoc : (p : IfId → Bool) (xs : List IfId) (x : IfId) → list_any p (xs ++ x ∷ []) ≡ (list_any p xs || p x)
any-snoc p [] x = at (p x)
  where
    at : (b : Bool) → (b || false) ≡ b
    at true = refl
    at false = refl
any-snoc p (y ∷ ys) x = ap (λ b. p y || b) (any-snoc p ys x) ∙ assoc (p y) (list_any p ys) (p x)
  where
    assoc : (a b c : Bool) → (a || (b || c)) ≡ ((a || b) || c)
    assoc true b c = refl
    assoc false b c = refl

or_none : (a b : Bool) → b ≡ false → (a || b) ≡ a
or_none true b none = refl
or_none false b none = none

module _ (plane : DataPlane) (q : Pos) (hops : List Hop) (k : ℕ) (x : Hop) (at : slice_get hops k ≡ Some x) where
  net : Network
  net = plane.network

  pub given_next : (t : ℕ) → given_by plane q (take (k + 1) hops) t ≡ given_by plane q (take k hops) t ++ sets_to plane q (position_at plane.network t) x
  given_next t =
      ap (flat_map (sets_to plane q (position_at plane.network t))) (to_index hops k x at)
      ∙ flat-append (sets_to plane q (position_at plane.network t)) (take k hops) (x ∷ [])
      ∙ ap (λ ys. flat_map (sets_to plane q (position_at plane.network t)) (take k hops) ++ ys) (append-nil (sets_to plane q (position_at plane.network t) x))

  pub given_none : (t : ℕ) → given_by plane q (take k hops) t ≡ given_onto plane q (take k hops) x [] t
  given_none t = sym (ap (λ b. given_by plane q (take k hops) t ++ cond b (sets_to plane q (position_at plane.network t) x) []) (by (position_at plane.network t)) ∙ append-nil (given_by plane q (take k hops) t))
    where
      by : (p : Pos) → is_entry [] p ≡ false
      by (Own r) = refl
      by (Entering u) = refl

  -- where the hop doesn't lead it gives nothing
  idle : (p : Pos) → is_entry (hop_targets plane.links x) p ≡ false → sets_to plane q p x ≡ []
  idle (Own r) none = refl
  idle (Entering u) none = by x none
    where
      one : (b c : Bool) (xs : List Recipe) → (b ≡ false → c ≡ false) → cond b [] (cond c xs []) ≡ []
      one true c xs f = refl
      one false c xs f = ap (λ d. cond d xs []) (f refl)

      link : (b : Bool) (ts : List IfId) (c : Bool) → list_any (same_interface u) ts ≡ c → list_any (same_interface u) (cond b [] ts) ≡ false → b ≡ false → c ≡ false
      link true ts c e none is = absurd (cc)
      link false ts c e none is = sym e ∙ none

      by : (y : Hop) → list_any (same_interface u) (hop_targets plane.links y) ≡ false → towards plane q u y ≡ []
      by Null none = refl
      by (Dev i) none = one (port_is plane.links is_loopback i) (are_linked plane.links i u) (onto_link plane q u i) (link (port_is plane.links is_loopback i) (linked plane.links i) (are_linked plane.links i u) (member-linked plane.links i u) none)
      by (Via g None) none = refl
      by (Via g (Some i)) none = one (port_is plane.links is_loopback i) (takes plane.links i g u) (leaving plane q (Via g (Some i)) i ∷ []) (link (port_is plane.links is_loopback i) (takers plane.links i g) (takes plane.links i g u) (member-takers plane.links i g u) none)

  pub given_all : (ts : List IfId) → ts ≡ hop_targets plane.links x → (t : ℕ) → given_onto plane q (take k hops) x ts t ≡ given_by plane q (take (k + 1) hops) t
  given_all ts e t = ap (λ ys. given_by plane q (take k hops) t ++ ys) (by (is_entry ts (position_at plane.network t)) (idle (position_at plane.network t)) (ap (λ us. is_entry us (position_at plane.network t)) e)) ∙ sym (given_next t)
    where
      by : (b : Bool) → (is_entry (hop_targets plane.links x) (position_at plane.network t) ≡ false → sets_to plane q (position_at plane.network t) x ≡ []) → b ≡ is_entry (hop_targets plane.links x) (position_at plane.network t) → cond b (sets_to plane q (position_at plane.network t) x) [] ≡ sets_to plane q (position_at plane.network t) x
      by true f e = refl
      by false f e = sym (f (sym e))

  -- ---- one target more

  module _ (ts : List IfId) (j : ℕ) (next : IfId) (is : next ≡ get_or ts j next) (less : j < length ts) (once : list_any (same_interface next) (take j ts) ≡ false) (there : IsPosition plane.network (Entering next)) where
    abbrev onto : ℕ
    onto = number_of plane.network (Entering next)

    abbrev so_far : ℕ → List Recipe
    so_far = given_onto plane q (take k hops) x (take j ts)

    here : position_at plane.network onto ≡ Entering next
    here = (number_there plane.network (Entering next) there).1

    entries : take (j + 1) ts ≡ take j ts ++ next ∷ []
    entries = taken ts j next less ∙ ap (λ u. take j ts ++ u ∷ []) (sym is)

    so_far_here : so_far onto ≡ given_by plane q (take k hops) onto
    so_far_here = ap (λ b. given_by plane q (take k hops) onto ++ cond b (sets_to plane q (position_at plane.network onto) x) []) (ap (is_entry (take j ts)) here ∙ once) ∙ append-nil (given_by plane q (take k hops) onto)

    -- what it gets is a front of its edge
    pub may_get_it : (may : List Tree) → hops ≡ hops_at plane q → HasNodes may (parts (edge plane q (position_at plane.network onto))) → HasNodes may (parts (union (so_far onto ++ towards plane q next x)))
    unfolding edge
    may_get_it may e has =
        let f = towards plane q next in
        let first : so_far onto ++ f x ≡ flat_map f (take k hops) ++ f x = ap (λ ys. ys ++ f x) (so_far_here ∙ ap (λ p. flat_map (sets_to plane q p) (take k hops)) here) in
        let whole : (flat_map f (take k hops) ++ f x) ++ flat_map f (drop (suc k) hops) ≡ flat_map f (hops_at plane q)
        = append_assoc (flat_map f (take k hops)) (f x) (flat_map f (drop (suc k) hops)) ∙ sym (flat-append f (take k hops) (x ∷ drop (suc k) hops)) ∙ ap (flat_map f) (sym (at_index hops k x at) ∙ e) in
        subst (λ ys. HasNodes may (parts (union ys))) (sym first)
        (piece may (union ((flat_map f (take k hops) ++ f x) ++ flat_map f (drop (suc k) hops))) (union (flat_map f (take k hops) ++ f x)) (front (λ s. s) (given never) (flat_map f (take k hops) ++ f x) (flat_map f (drop (suc k) hops)))
        (subst (λ ys. HasNodes may (parts (union ys))) (sym whole) (subst (λ p. HasNodes may (parts (edge plane q p))) here has)))

    step_here : with_sets so_far onto (towards plane q next x) onto ≡ given_onto plane q (take k hops) x (take (j + 1) ts) onto
    step_here =
        ap (λ b. cond b (so_far onto ++ towards plane q next x) (so_far onto)) (eq-eqb onto onto refl)
        ∙ ap (λ ys. ys ++ towards plane q next x) so_far_here
        ∙ ap (λ p. given_by plane q (take k hops) onto ++ sets_to plane q p x) (sym here)
        ∙ ap (λ b. given_by plane q (take k hops) onto ++ cond b (sets_to plane q (position_at plane.network onto) x) []) (sym (ap (is_entry (take (j + 1) ts)) here ∙ ap (list_any (same_interface next)) entries ∙ any-snoc (same_interface next) (take j ts) next ∙ (λ n. once n || (same_interface-Decides next next).1 refl n)))

    other_entry : (p : Pos) → (p ≡ Entering next → ⊥) → is_entry (take j ts) p ≡ is_entry (take (j + 1) ts) p
    other_entry (Own r) other = refl
    other_entry (Entering u) other = sym (ap (list_any (same_interface u)) entries ∙ any-snoc (same_interface u) (take j ts) next ∙ or_none (list_any (same_interface u) (take j ts)) (same_interface u next) (none_of (same_interface u next) refl))
      where
        none_of : (b : Bool) → same_interface u next ≡ b → b ≡ false
        none_of true same = absurd (other (ap Entering ((same_interface-Decides u next).0 same)))
        none_of false none = refl

    step_there : (t : ℕ) → t < length (positions plane.network) → t ≢ onto → with_sets so_far onto (towards plane q next x) t ≡ given_onto plane q (take k hops) x (take (j + 1) ts) t
    step_there t low other =
        ap (λ b. cond b (so_far t ++ towards plane q next x) (so_far t)) (ne_eqb t onto other)
        ∙ ap (λ b. given_by plane q (take k hops) t ++ cond b (sets_to plane q (position_at plane.network t) x) []) (other_entry (position_at plane.network t) (λ e. other (sym (number_at plane.network t low) ∙ ap (number_of plane.network) e)))

    pub step : (t : ℕ) → t < length (positions plane.network) → with_sets so_far onto (towards plane q next x) t ≡ given_onto plane q (take k hops) x (take (j + 1) ts) t
    step t low = by (cases_eq t onto)
      where
        by : (t ≡ onto) ⊎ (t ≢ onto) → with_sets so_far onto (towards plane q next x) t ≡ given_onto plane q (take k hops) x (take (j + 1) ts) t
        by (inl e) = subst (λ n. with_sets so_far onto (towards plane q next x) n ≡ given_onto plane q (take k hops) x (take (j + 1) ts) n) (sym e) step_here
        by (inr other) = step_there t low other

abbrev nothing_from : Hop → List Recipe
nothing_from x = []

nothing_given : (xs : List Hop) → flat_map nothing_from xs ≡ []
nothing_given [] = refl
nothing_given (x ∷ xs) = nothing_given xs

-- all hops give the edge
pub all_given : (plane : DataPlane) (q : Pos) (t : ℕ) → tree (union (given_by plane q (hops_at plane q) t)) ≡ tree (edge plane q (position_at plane.network t))
unfolding edge
all_given plane q t = by (position_at plane.network t)
  where
    by : (p : Pos) → tree (union (flat_map (sets_to plane q p) (hops_at plane q))) ≡ tree (edge plane q p)
    by (Own r) = ap (λ ss. tree (union ss)) (nothing_given (hops_at plane q))
    by (Entering u) = refl
