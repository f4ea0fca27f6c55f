-- Adjacent interfaces are of one segment: so what is split segment by segment is split.
use Rattle.std.proofs.Common.{refl, ◌≡◌, ap, sym, ◌∙◌, subst, ◌==◌, Bool, true, false, not, ◌&&◌, List, [], ◌∷◌, ◌++◌, map, filter, Option, Some, None, Contains}
use Rattle.std.specs.Prelude.{unwrap_or}
use Rattle.std.specs.BTreeMap.{get}
use Rattle.std.specs.Bool.{beq}
use Rattle.std.specs.List.{flat_map}
use Rattle.std.specs.Option.{option_map_or}
use Rattle.std.proofs.lemmas.Map.Views.{btree_map_get_iff}
use Rattle.rc_base.specs.Prefix.{same_prefix}
use Rattle.rc_topology.specs.Links.{are_linked, is_cut, port_at, port_is, share_subnet}
use Rattle.rc_topology.specs.Ports.{is_loopback, share_prefix, some_is_in}
use Rattle.rc_topology.specs.Topology.{Topology}
use Rattle.rc_topology.specs.declared.port.Port.{Port}
use Rattle.rc_base.specs.declared.position.IfId.{IfId}
use Rattle.rc_ospf_interfaces.specs.declared.interface.OspfInterface.{OspfInterface}
use Rattle.rc_link_state.specs.Adjacency.{is_adjacent, is_same_network}
use Rattle.rc_link_state.specs.Grouping.{interfaces_of, is_active, is_of, members, segment_cmp, segment_of, AreRows}
use Rattle.rc_link_state.specs.Split.{listed_row, networks_row}
use Rattle.rc_link_state.specs.Whole.{agree, AreSplit}
use Rattle.rc_link_state.specs.declared.segment.Segment.{Segment}
use Rattle.rc_link_state.specs.declared.step.Step.{Step}
use Rattle.rc_link_state.specs.declared.transit.Transit.{Transit}
use Rattle.rc_link_state.proofs.Members.{In, contains_in, in_contains, in_map, of_map, in_filter, of_filter}
use Rattle.rc_link_state.proofs.PartLaws.{Part, listed_of, transits_of, HasPart, ArePartsOf, parts_split}
use Rattle.rc_link_state.proofs.SegmentLaws.{is_of_own, of_one_segment, segment_exact, segment_total, Rows}
use Rattle.rc_link_state.proofs.SplitLaws.{segment_split}
use Rattle.rc_link_state.proofs.WholeLaws.{and_true, both, eq_equal}

-- ---- adjacent interfaces take neighbours, and agree

all_of : (a b c d e f g h k : Bool) → (a && b && c && d && e && f && g && h && k) ≡ true → ((a && (e && (f && (g && (h && k))))) ≡ true) × (b ≡ true) × (c ≡ true) × (d ≡ true)
all_of true true true true true true true true k is = (is, refl, refl, refl)
all_of true true true true true true true false k is = absurd (cc is)
all_of true true true true true true false h k is = absurd (cc is)
all_of true true true true true false g h k is = absurd (cc is)
all_of true true true true false f g h k is = absurd (cc is)
all_of true true true false e f g h k is = absurd (cc is)
all_of true true false d e f g h k is = absurd (cc is)
all_of true false c d e f g h k is = absurd (cc is)
all_of false b c d e f g h k is = absurd (cc is)

-- neither end of a link is a loopback
no_loopbacks : (p q : Option Port) → option_map_or (λ x. option_map_or (share_prefix x) q false) p false ≡ true → (not (option_map_or is_loopback p false) ≡ true) × (not (option_map_or is_loopback q false) ≡ true)
no_loopbacks None q is = absurd (cc is)
no_loopbacks (Some x) None is = absurd (cc is)
no_loopbacks (Some x) (Some y) is = both (not (is_loopback x)) (not (is_loopback y)) (both (not (is_loopback x) && not (is_loopback y)) (some_is_in x.prefixes y.prefixes) is).0

linked_ends : (links : Topology) (i j : IfId) → are_linked links i j ≡ true → (not (port_is links is_loopback i) ≡ true) × (not (port_is links is_loopback j) ≡ true)
linked_ends links i j is =
    let shares : share_subnet links i j ≡ true = (both (share_subnet links i j) (not (is_cut links i j)) is).0 in
    no_loopbacks (port_at links i) (port_at links j) (both (not (i.router == j.router)) _ shares).1

adjacent_agree : (links : Topology) (i j : OspfInterface) → is_adjacent links i j ≡ true → (agree i j ≡ true) × (is_active links i ≡ true) × (is_active links j ≡ true)
adjacent_agree links i j is =
    let (alike, linked, active_i, active_j) = all_of (same_prefix i.prefix j.prefix) (are_linked links i.id j.id) (not i.is_passive) (not j.is_passive) (i.area == j.area) (beq i.is_stub j.is_stub)
    (is_same_network i.network j.network) (i.hello == j.hello) (i.dead == j.dead) is in
    let (end_i, end_j) = linked_ends links i.id j.id linked in
    (alike, and_true (not i.is_passive) _ active_i end_i, and_true (not j.is_passive) _ active_j end_j)

some_row : (known : Option (List OspfInterface)) (i : OspfInterface) → In i (unwrap_or known []) → (row : List OspfInterface) × (known ≡ Some row)
some_row None i none = absurd none
some_row (Some row) i there = (row, refl)

-- ---- the rows are parts

abbrev part_of : Topology → Segment × List OspfInterface → Part
part_of links row = record { members = row.1; listed = listed_row links row; transits = networks_row links row }

module _ (links : Topology) (interfaces : List OspfInterface) (rows : Rows) (are : AreRows links interfaces rows) where
  abbrev parts : List Part
  parts = map (part_of links) rows.entries

  row_is : (row : Segment × List OspfInterface) → In row rows.entries → row.1 ≡ interfaces_of links row.0 interfaces
  row_is row has =
      let found : get segment_cmp rows row.0 ≡ Some row.1 = (btree_map_get_iff segment_total segment_exact rows are.ordered row.0 row.1).1 (in_contains rows.entries row has) in
      sym (ap (λ known. unwrap_or known []) found) ∙ are.members_of row.0

  -- those of a row are some of the interfaces, and of its segment
  of_row : (row : Segment × List OspfInterface) → In row rows.entries → (i : OspfInterface) → In i row.1 → In i interfaces × (segment_of i ≡ row.0)
  of_row row has i has_i =
      let (active, of) = of_filter (is_of row.0) (filter (is_active links) interfaces) i (subst (In i) (row_is row has) has_i) in
      ((of_filter (is_active links) interfaces i active).0, segment_exact (segment_of i) row.0 (eq_equal (segment_cmp (segment_of i) row.0) of))

  in_row : (i : OspfInterface) → In i interfaces → is_active links i ≡ true → In i (members rows (segment_of i))
  in_row i has active = subst (In i) (sym (are.members_of (segment_of i))) (in_filter (is_of (segment_of i)) (filter (is_active links) interfaces) i (in_filter (is_active links) interfaces i has active) (is_of_own i))

  split : (p : Part) → Contains parts p → AreSplit links p.members p.listed p.transits
  split p has =
      let (row, among, same) = of_map (part_of links) rows.entries p (contains_in parts p has) in
      subst (λ (q : Part). AreSplit links q.members q.listed q.transits) same (segment_split links row.0 row.1 (λ i has_i. (of_row row among i has_i).1))

  within : (p : Part) (i : OspfInterface) → Contains parts p → Contains p.members i → Contains interfaces i
  within p i has has_i =
      let (row, among, same) = of_map (part_of links) rows.entries p (contains_in parts p has) in
      in_contains interfaces i (of_row row among i (subst (λ (o : Part). In i o.members) (sym same) (contains_in p.members i has_i))).0

  together : (i j : OspfInterface) → Contains interfaces i → Contains interfaces j → is_adjacent links i j ≡ true → HasPart parts i j
  together i j has_i has_j is =
      let (alike, active_i, active_j) = adjacent_agree links i j is in
      let in_i : In i (members rows (segment_of i)) = in_row i (contains_in interfaces i has_i) active_i in
      let in_j : In j (members rows (segment_of i)) = subst (λ s. In j (members rows s)) (sym (of_one_segment i j alike)) (in_row j (contains_in interfaces j has_j) active_j) in
      let (row, found) = some_row (get segment_cmp rows (segment_of i)) i in_i in
      let among : Contains rows.entries (segment_of i, row) = (btree_map_get_iff segment_total segment_exact rows are.ordered (segment_of i) row).0 found in record {
        part = part_of links (segment_of i, row);
        has = in_contains parts (part_of links (segment_of i, row)) (in_map (part_of links) rows.entries (segment_of i, row) (contains_in rows.entries (segment_of i, row) among));
        first = in_contains row i (subst (λ known. In i (unwrap_or known [])) found in_i);
        second = in_contains row j (subst (λ known. In j (unwrap_or known [])) found in_j);
      }

  rows_are_parts : ArePartsOf links interfaces parts
  rows_are_parts = record { split = split; within = within; together = together }

flat_of_map : {X Y Z : Type 0} (f : Y → List Z) (g : X → Y) (xs : List X) → flat_map f (map g xs) ≡ flat_map (λ x. f (g x)) xs
flat_of_map f g [] = refl
flat_of_map f g (x ∷ xs) = ap (λ l. f (g x) ++ l) (flat_of_map f g xs)

-- what is split row by row is split
pub rows_split : (links : Topology) (interfaces : List OspfInterface) (rows : Rows) (listed : List Step) (transits : List Transit) → AreRows links interfaces rows
    → listed ≡ flat_map (listed_row links) rows.entries → transits ≡ flat_map (networks_row links) rows.entries → AreSplit links interfaces listed transits
rows_split links interfaces rows listed transits are steps networks =
    subst (λ l. AreSplit links interfaces l transits) (flat_of_map listed_of (part_of links) rows.entries ∙ sym steps)
    (subst (λ l. AreSplit links interfaces (flat_map listed_of (parts links interfaces rows are)) l) (flat_of_map transits_of (part_of links) rows.entries ∙ sym networks)
    (parts_split links interfaces (parts links interfaces rows are) (rows_are_parts links interfaces rows are)))
