-- Interfaces that stand together are adjacent, and the steps are those that are listed and those over networks.
use Rattle.std.proofs.Common.{refl, ◌≡◌, ap, sym, ◌∙◌, subst, ℕ, ◌==◌, inl, inr, Bool, true, false, not, ◌&&◌, ◌||◌, List, [], ◌∷◌, map, filter, Option, Some, None, Contains, arith, eq-eqb}
use Rattle.std.specs.Bool.{beq}
use Rattle.std.specs.List.{flat_map, list_any}
use Rattle.std.specs.Option.{option_map_or}
use Rattle.rc_base.specs.Positions.{same_interface}
use Rattle.rc_base.specs.Prefix.{Cidr, prefix_cmp, same_prefix}
use Rattle.rc_base.specs.declared.position.IfId.{IfId}
use Rattle.rc_base.proofs.OrderedLaws.{same_by_prefix_cmp}
use Rattle.rc_config.specs.declared.network.Pair.{Pair}
use Rattle.rc_topology.specs.Links.{are_linked, is_between, is_cut, is_named, port_at, port_is, share_subnet}
use Rattle.rc_topology.specs.Ports.{is_on, is_loopback, share_prefix}
use Rattle.rc_topology.specs.Topology.{Topology}
use Rattle.rc_topology.specs.declared.port.Port.{Port}
use Rattle.std.specs.Ordering.{is_eq}
use Rattle.std.specs.declared.cmp.Ordering.{Ordering}
use Rattle.std.specs.declared.cmp.Ordering.TheVariants.{Less, Equal, Greater}
use Rattle.rc_ospf_interfaces.specs.declared.interface.OspfInterface.{OspfInterface}
use Rattle.rc_link_state.specs.Adjacency.{adjacencies, is_adjacent, is_same_network, step_over}
use Rattle.rc_link_state.specs.declared.step.Step.{Step}
use Rattle.rc_link_state.specs.Transits.{AreStepsBy, IsAcross, across}
use Rattle.rc_link_state.specs.Whole.{AreTogether, attached_of, IsStepBetween, HasBoth, AreAttached, AreSplit}
use Rattle.rc_link_state.specs.declared.transit.Attached.{Attached}
use Rattle.rc_link_state.specs.declared.transit.Transit.{Transit}
use Rattle.rc_link_state.proofs.Members.{In, contains_in, in_contains, in_map, of_map, in_front, in_back, in_either, in_filter, of_filter}

pub both : (a b : Bool) → (a && b) ≡ true → (a ≡ true) × (b ≡ true)
both true true e = (refl, refl)
both true false e = absurd (cc e)
both false b e = absurd (cc e)

pub and_true : (a b : Bool) → a ≡ true → b ≡ true → (a && b) ≡ true
and_true true b p q = q
and_true false b p q = absurd (cc p)

all_nine : (a b c d e f g h k : Bool) → a ≡ true → b ≡ true → c ≡ true → d ≡ true → e ≡ true → f ≡ true → g ≡ true → h ≡ true → k ≡ true → (a && b && c && d && e && f && g && h && k) ≡ true
all_nine a b c d e f g h k p q r s t u v w x =
    and_true _ k (and_true _ h (and_true _ g (and_true _ f (and_true _ e (and_true _ d (and_true _ c (and_true a b p q) r) s) t) u) v) w) x

second_of : (a b c d e f g h k : Bool) → (a && b && c && d && e && f && g && h && k) ≡ true → b ≡ true
second_of true true c d e f g h k is = refl
second_of true false c d e f g h k is = absurd (cc is)
second_of false b c d e f g h k is = absurd (cc is)

or_true : (a b : Bool) → b ≡ true → (a || b) ≡ true
or_true true b q = refl
or_true false b q = q

not_true : (a : Bool) → not a ≡ true → a ≡ false
not_true true e = absurd (cc e)
not_true false e = refl

not_false : (a : Bool) → a ≡ false → not a ≡ true
not_false true e = absurd (cc e)
not_false false e = refl

either_false : (a b : Bool) → (a || b) ≡ false → (a ≡ false) × (b ≡ false)
either_false true b e = absurd (cc e)
either_false false b e = (refl, e)

apart_is : (a b : ℕ) → ¬ (a ≡ b) → not (a == b) ≡ true
apart_is a b apart = by (a == b) refl
  where
    by : (t : Bool) → (a == b) ≡ t → not t ≡ true
    by true is = absurd (apart (grind (arith, is)))
    by false is = refl

not_same : (a b : ℕ) → not (a == b) ≡ true → ¬ (a ≡ b)
not_same a b is same = let e : (a == b) ≡ true = eq-eqb a b same in let f : (a == b) ≡ false = not_true (a == b) is in absurd (let g : true ≡ false = sym e ∙ f in cc)

pub eq_equal : (o : Ordering) → is_eq o ≡ true → o ≡ Equal
eq_equal Less e = absurd (cc e)
eq_equal Equal e = refl
eq_equal Greater e = absurd (cc e)

pub same_is : (p q : Cidr) → same_prefix p q ≡ true → p ≡ q
same_is p q is = same_by_prefix_cmp p q (eq_equal (prefix_cmp p q) is)

-- ---- no cut parts what no cut names

between_false : (a b x y : Bool) → (a || b) ≡ false → ((a && x) || (b && y)) ≡ false
between_false true b x y e = absurd (cc e)
between_false false true x y e = absurd (cc e)
between_false false false x y e = refl

not_cut : (i j : IfId) (cuts : List Pair) → list_any (is_named i) cuts ≡ false → list_any (is_between i j) cuts ≡ false
not_cut i j [] e = refl
not_cut i j (c ∷ cuts) e =
    let (here, later) = either_false (is_named i c) (list_any (is_named i) cuts) e in
    ap (λ t. t || list_any (is_between i j) cuts) (between_false (same_interface i c.first) (same_interface i c.second) (same_interface j c.second) (same_interface j c.first) here)
    ∙ not_cut i j cuts later

-- ---- two on one prefix share a subnet

some_in : (x : Cidr) (ps qs : List Cidr) → list_any (same_prefix x) ps ≡ true → list_any (same_prefix x) qs ≡ true → list_any (λ y. list_any (same_prefix y) qs) ps ≡ true
some_in x [] qs a b = absurd (cc a)
some_in x (y ∷ ps) qs a b = by (same_prefix x y) refl a (λ rest. some_in x ps qs rest b)
  where
    by : (t : Bool) → same_prefix x y ≡ t → (t || list_any (same_prefix x) ps) ≡ true → (list_any (same_prefix x) ps ≡ true → list_any (λ z. list_any (same_prefix z) qs) ps ≡ true) →
        (list_any (same_prefix y) qs || list_any (λ z. list_any (same_prefix z) qs) ps) ≡ true
    by true is a rest = ap (λ t. t || list_any (λ z. list_any (same_prefix z) qs) ps) (subst (λ z. list_any (same_prefix z) qs ≡ true) (same_is x y is) b)
    by false is a rest = or_true (list_any (same_prefix y) qs) (list_any (λ z. list_any (same_prefix z) qs) ps) (rest a)

both_on : (x : Cidr) (p q : Port) → is_on x p ≡ true → is_on x q ≡ true → share_prefix p q ≡ true
both_on x p q a b =
    let (first, on_p) = both (not (is_loopback p)) (list_any (same_prefix x) p.prefixes) a in
    let (second, on_q) = both (not (is_loopback q)) (list_any (same_prefix x) q.prefixes) b in
    and_true (not (is_loopback p) && not (is_loopback q)) _ (and_true (not (is_loopback p)) (not (is_loopback q)) first second) (some_in x p.prefixes q.prefixes on_p on_q)

shares : (x : Cidr) (o u : Option Port) → option_map_or (is_on x) o false ≡ true → option_map_or (is_on x) u false ≡ true → option_map_or (λ p. option_map_or (share_prefix p) u false) o false ≡ true
shares x None u a b = absurd (cc a)
shares x (Some p) None a b = absurd (cc b)
shares x (Some p) (Some q) a b = both_on x p q a b

-- two that stand together, of different routers, are adjacent
pub together : (links : Topology) (i j : OspfInterface) → AreTogether links i j → ¬ (i.id.router ≡ j.id.router) → is_adjacent links i j ≡ true
together links i j t apart =
    let (takes_i, whole_i) = both (not i.is_passive) _ t.first in
    let (on_i, uncut_i) = both (port_is links (is_on i.prefix) i.id) _ whole_i in
    let (takes_j, whole_j) = both (not j.is_passive) _ t.second in
    let (on_j, uncut_j) = both (port_is links (is_on j.prefix) j.id) _ whole_j in
    let (prefix, one) = both (same_prefix i.prefix j.prefix) _ t.alike in
    let (area, two) = both (i.area == j.area) _ one in
    let (stub, three) = both (beq i.is_stub j.is_stub) _ two in
    let (network, four) = both (is_same_network i.network j.network) _ three in
    let (hello, dead) = both (i.hello == j.hello) _ four in
    let on_j' : port_is links (is_on i.prefix) j.id ≡ true = subst (λ x. port_is links (is_on x) j.id ≡ true) (sym (same_is i.prefix j.prefix prefix)) on_j in
    let subnet : share_subnet links i.id j.id ≡ true =
    and_true (not (i.id.router == j.id.router)) _ (apart_is i.id.router j.id.router apart) (shares i.prefix (port_at links i.id) (port_at links j.id) on_i on_j') in
    let uncut : not (is_cut links i.id j.id) ≡ true = not_false (is_cut links i.id j.id) (not_cut i.id j.id links.cuts (not_true (list_any (is_named i.id) links.cuts) uncut_i)) in
    let linked : are_linked links i.id j.id ≡ true = and_true (share_subnet links i.id j.id) (not (is_cut links i.id j.id)) subnet uncut in
    all_nine (same_prefix i.prefix j.prefix) (are_linked links i.id j.id) (not i.is_passive) (not j.is_passive) (i.area == j.area) (beq i.is_stub j.is_stub) (is_same_network i.network j.network)
    (i.hello == j.hello) (i.dead == j.dead) prefix linked takes_i takes_j area stub network hello dead

-- adjacent interfaces are of different routers
apart_of : (links : Topology) (i j : OspfInterface) → is_adjacent links i j ≡ true → ¬ (i.id.router ≡ j.id.router)
apart_of links i j is =
    let linked : are_linked links i.id j.id ≡ true = second_of (same_prefix i.prefix j.prefix) (are_linked links i.id j.id) (not i.is_passive) (not j.is_passive) (i.area == j.area) (beq i.is_stub j.is_stub)
    (is_same_network i.network j.network) (i.hello == j.hello) (i.dead == j.dead) is in
    let (subnet, uncut) = both (share_subnet links i.id j.id) _ linked in
    let (apart, shared) = both (not (i.id.router == j.id.router)) _ subnet in not_same i.id.router j.id.router apart

-- ---- the steps between interfaces

pub in_flat : {X Y : Type 0} (f : X → List Y) (xs : List X) (x : X) (y : Y) → In x xs → In y (f x) → In y (flat_map f xs)
in_flat f [] x y there is = absurd there
in_flat f (z ∷ xs) x y (inl same) is = in_front (f z) (flat_map f xs) y (subst (λ w. In y (f w)) (sym same) is)
in_flat f (z ∷ xs) x y (inr there) is = in_back (f z) (flat_map f xs) y (in_flat f xs x y there is)

pub of_flat : {X Y : Type 0} (f : X → List Y) (xs : List X) (y : Y) → In y (flat_map f xs) → (x : X) × In x xs × In y (f x)
of_flat f [] y there = absurd there
of_flat f (z ∷ xs) y there = elim (in_either (f z) (flat_map f xs) y there) [
  | inl front ↦ (z, inl refl, front)
  | inr back ↦ (let (x, has, is) = of_flat f xs y back in (x, inr has, is))
]

step_there : (links : Topology) (interfaces : List OspfInterface) (x : Step) → IsStepBetween links interfaces x → Contains (adjacencies links interfaces) x
unfolding adjacencies
step_there links interfaces x b =
    in_contains (flat_map (λ i. map (step_over i) (filter (is_adjacent links i) interfaces)) interfaces) x
    (in_flat (λ i. map (step_over i) (filter (is_adjacent links i) interfaces)) interfaces b.source x (contains_in interfaces b.source b.has_source)
    (subst (λ y. In y (map (step_over b.source) (filter (is_adjacent links b.source) interfaces))) b.step
    (in_map (step_over b.source) (filter (is_adjacent links b.source) interfaces) b.target
    (in_filter (is_adjacent links b.source) interfaces b.target (contains_in interfaces b.target b.has_target) b.adjacent))))

step_between : (links : Topology) (interfaces : List OspfInterface) (x : Step) → Contains (adjacencies links interfaces) x → IsStepBetween links interfaces x
unfolding adjacencies
step_between links interfaces x has =
    let (i, has_i, there) = of_flat (λ i. map (step_over i) (filter (is_adjacent links i) interfaces)) interfaces x
    (contains_in (flat_map (λ i. map (step_over i) (filter (is_adjacent links i) interfaces)) interfaces) x has) in
    let (j, among, same) = of_map (step_over i) (filter (is_adjacent links i) interfaces) x there in
    let (has_j, adjacent) = of_filter (is_adjacent links i) interfaces j among in record {
      source = i;
      target = j;
      has_source = in_contains interfaces i has_i;
      has_target = in_contains interfaces j has_j;
      adjacent = adjacent;
      step = same;
    }

module _ (links : Topology) (interfaces : List OspfInterface) (listed : List Step) (transits : List Transit) (split : AreSplit links interfaces listed transits) (x : Step) where
  over_network : (b : IsStepBetween links interfaces x) → HasBoth transits b.source b.target → (t : Transit) × Contains transits t × IsAcross t x
  over_network b h = (
    h.network,
    h.has,
    record {
      source = attached_of b.source;
      target = attached_of b.target;
      has_source = h.source;
      has_target = h.target;
      apart = apart_of links b.source b.target b.adjacent;
      step = ap (λ m. across m (attached_of b.source) (attached_of b.target)) h.area ∙ b.step;
    },
  )

  from_network : (t : Transit) → Contains transits t → IsAcross t x → IsStepBetween links interfaces x
  from_network t has a =
      let o : AreAttached links interfaces t a.source a.target = split.each_network t a.source a.target has a.has_source a.has_target in
      let apart : ¬ (o.source.id.router ≡ o.target.id.router) =
      (λ same. a.apart (sym (ap (λ (k : Attached). k.out.router) o.first) ∙ same ∙ ap (λ (k : Attached). k.out.router) o.second)) in record {
        source = o.source;
        target = o.target;
        has_source = o.has_source;
        has_target = o.has_target;
        adjacent = together links o.source o.target o.together apart;
        step = ap (λ m. across m (attached_of o.source) (attached_of o.target)) (sym o.area) ∙ ap (λ k. across t.area k (attached_of o.target)) o.first ∙ ap (λ k. across t.area a.source k) o.second ∙ a.step;
      }

-- listed steps and networks that make up the steps between some interfaces are those steps
pub split_is : (links : Topology) (interfaces : List OspfInterface) (listed : List Step) (transits : List Transit) → AreSplit links interfaces listed transits →
    AreStepsBy listed transits (adjacencies links interfaces)
split_is links interfaces listed transits split x = (
  λ has. (let b : IsStepBetween links interfaces x = step_between links interfaces x has in
      elim (split.each_step b.source b.target b.has_source b.has_target b.adjacent) [
        | inl there ↦ inl (subst (λ y. Contains listed y) b.step there)
        | inr h ↦ inr (over_network links interfaces listed transits split x b h)
      ]),
  λ either. elim either [
    | inl there ↦ step_there links interfaces x (split.each_listed x there)
    | inr (t, has, a) ↦ step_there links interfaces x (from_network links interfaces listed transits split x t has a)
  ],
)
