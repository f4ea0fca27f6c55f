-- Interfaces are of one segment exactly where they agree, and are put under their segments one by one.
use Rattle.std.proofs.Common.{refl, ◌≡◌, ap, sym, ◌∙◌, subst, ℕ, ◌==◌, Bool, true, false, cond, List, [], ◌∷◌, ◌++◌, Option, Some, None, arith, eq-eqb}
use Rattle.std.specs.Prelude.{unwrap_or}
use Rattle.std.specs.BTreeMap.{BTreeMap, Updates, get}
use Rattle.std.specs.Bool.{beq}
use Rattle.std.specs.Cmp.{IsTotalOrder}
use Rattle.std.specs.HashMap.Eq.{lookup_congr}
use Rattle.std.specs.Ordering.{bool_cmp, eq_by_cmp, is_eq, nat_cmp, ordering_then}
use Rattle.std.specs.declared.cmp.Ordering.{Ordering}
use Rattle.std.specs.declared.cmp.Ordering.TheVariants.{Less, Equal, Greater}
use Rattle.std.proofs.lemmas.Cmp.{eq_by_cmp_equiv, tied_itself}
use Rattle.std.proofs.lemmas.List.{append-nil}
use Rattle.std.proofs.lemmas.Map.Lookups.{exact_unsigned}
use Rattle.rc_base.specs.Prefix.{Cidr, same_prefix}
use Rattle.rc_base.specs.contracts.prefix.PrefixOrd.TheImpl as impl
use Rattle.rc_base.proofs.GroupLaws.{code_cmp}
use Rattle.rc_base.proofs.OrderedLaws.{prefix_cmp_total, same_by_prefix_cmp}
use Rattle.rc_config.specs.declared.ospf.NetworkType.{NetworkType}
use Rattle.rc_config.specs.declared.ospf.NetworkType.TheVariants.{Broadcast, PointToPoint}
use Rattle.rc_ospf_interfaces.specs.declared.interface.OspfInterface.{OspfInterface}
use Rattle.rc_link_state.specs.Adjacency.{is_same_network}
use Rattle.rc_link_state.specs.Grouping.{is_of, members, segment_cmp, segment_of, with_interface, IsPut}
use Rattle.rc_link_state.specs.Whole.{agree}
use Rattle.rc_link_state.specs.contracts.segment.SegmentOrd.TheImpl.Laws as laws
use Rattle.rc_link_state.specs.declared.segment.Segment.{Segment}
use Rattle.rc_link_state.proofs.WholeLaws.{both, and_true, same_is}

pub segment_total : IsTotalOrder segment_cmp
segment_total = laws.total-law

-- ---- an order that tells all segments apart

both_equal : (o p : Ordering) → ordering_then o p ≡ Equal → (o ≡ Equal) × (p ≡ Equal)
both_equal Less p e = absurd (cc e)
both_equal Equal p e = (refl, e)
both_equal Greater p e = absurd (cc e)

exact_truth : (a b : Bool) → bool_cmp a b ≡ Equal → a ≡ b
exact_truth true true e = refl
exact_truth true false e = absurd (cc e)
exact_truth false true e = absurd (cc e)
exact_truth false false e = refl

exact_prefix : (p q : Cidr) → impl.cmp-value.it p q ≡ Equal → p ≡ q
exact_prefix p q e = same_by_prefix_cmp p q (sym (λ k. code_cmp k p q) ∙ e)

same_segment : (a b : Segment) → a.prefix ≡ b.prefix → a.area ≡ b.area → a.hello ≡ b.hello → a.dead ≡ b.dead → a.is_stub ≡ b.is_stub → a.is_broadcast ≡ b.is_broadcast → a ≡ b
same_segment a b prefix area hello dead stub broadcast k = record { prefix = prefix k; area = area k; hello = hello k; dead = dead k; is_stub = stub k; is_broadcast = broadcast k }

pub segment_exact : (a b : Segment) → segment_cmp a b ≡ Equal → a ≡ b
segment_exact a b e =
    let (prefix, one) = both_equal (impl.cmp-value.it a.prefix b.prefix) _ e in
    let (area, two) = both_equal (nat_cmp a.area b.area) _ one in
    let (hello, three) = both_equal (nat_cmp a.hello b.hello) _ two in
    let (dead, four) = both_equal (nat_cmp a.dead b.dead) _ three in
    let (stub, broadcast) = both_equal (bool_cmp a.is_stub b.is_stub) _ four in
    same_segment a b (exact_prefix a.prefix b.prefix prefix) (exact_unsigned a.area b.area area) (exact_unsigned a.hello b.hello hello) (exact_unsigned a.dead b.dead dead)
    (exact_truth a.is_stub b.is_stub stub) (exact_truth a.is_broadcast b.is_broadcast broadcast)

pub is_of_own : (i : OspfInterface) → is_of (segment_of i) i ≡ true
is_of_own i = ap is_eq (tied_itself segment_total (segment_of i))

-- ---- interfaces of one segment agree

same_number : (a b : ℕ) → (a == b) ≡ true → a ≡ b
same_number a b e = grind (arith, e)

same_truth : (a b : Bool) → beq a b ≡ true → a ≡ b
same_truth true true e = refl
same_truth true false e = absurd (cc e)
same_truth false true e = absurd (cc e)
same_truth false false e = refl

truth_is : (a b : Bool) → a ≡ b → beq a b ≡ true
truth_is true true e = refl
truth_is true false e = absurd (cc e)
truth_is false true e = absurd (cc e)
truth_is false false e = refl

both_broadcast : (a b : NetworkType) → is_same_network a b ≡ true → is_same_network a Broadcast ≡ is_same_network b Broadcast
both_broadcast Broadcast Broadcast e = refl
both_broadcast Broadcast PointToPoint e = absurd (cc e)
both_broadcast PointToPoint Broadcast e = absurd (cc e)
both_broadcast PointToPoint PointToPoint e = refl

same_type : (a b : NetworkType) → is_same_network a Broadcast ≡ is_same_network b Broadcast → is_same_network a b ≡ true
same_type Broadcast Broadcast e = refl
same_type Broadcast PointToPoint e = absurd (cc e)
same_type PointToPoint Broadcast e = absurd (cc e)
same_type PointToPoint PointToPoint e = refl

pub of_one_segment : (i j : OspfInterface) → agree i j ≡ true → segment_of i ≡ segment_of j
of_one_segment i j is =
    let (prefix, one) = both (same_prefix i.prefix j.prefix) _ is in
    let (area, two) = both (i.area == j.area) _ one in
    let (stub, three) = both (beq i.is_stub j.is_stub) _ two in
    let (network, four) = both (is_same_network i.network j.network) _ three in
    let (hello, dead) = both (i.hello == j.hello) _ four in
    same_segment (segment_of i) (segment_of j) (same_is i.prefix j.prefix prefix) (same_number i.area j.area area) (same_number i.hello j.hello hello) (same_number i.dead j.dead dead)
    (same_truth i.is_stub j.is_stub stub) (both_broadcast i.network j.network network)

pub segments_agree : (i j : OspfInterface) → segment_of i ≡ segment_of j → agree i j ≡ true
segments_agree i j is =
    and_true (same_prefix i.prefix j.prefix) _ (subst (λ p. same_prefix i.prefix p ≡ true) (ap (λ (s : Segment). s.prefix) is) (ap is_eq (tied_itself prefix_cmp_total i.prefix)))
    (and_true (i.area == j.area) _ (eq-eqb i.area j.area (ap (λ (s : Segment). s.area) is))
    (and_true (beq i.is_stub j.is_stub) _ (truth_is i.is_stub j.is_stub (ap (λ (s : Segment). s.is_stub) is))
    (and_true (is_same_network i.network j.network) _ (same_type i.network j.network (ap (λ (s : Segment). s.is_broadcast) is))
    (and_true (i.hello == j.hello) _ (eq-eqb i.hello j.hello (ap (λ (s : Segment). s.hello) is)) (eq-eqb i.dead j.dead (ap (λ (s : Segment). s.dead) is))))))

-- ---- an interface is put under its segment

abbrev pub Rows : Type 0
Rows = BTreeMap Segment (List OspfInterface)

appended : (known : Option (List OspfInterface)) (i : OspfInterface) → with_interface known i ≡ unwrap_or known [] ++ i ∷ []
appended None i = refl
appended (Some known) i = refl

-- of two values that are put under a segment the later stays
put_twice : (old between new : Rows) (i : OspfInterface) (first made : List OspfInterface) → Updates segment_cmp old between (segment_of i) (Some first) → Updates segment_cmp between new (segment_of i) (Some made)
    → made ≡ with_interface (get segment_cmp old (segment_of i)) i → IsPut old i new
put_twice old between new i first made once again is = record { members_with = λ s. by s (is_of s i) refl }
  where
    by : (s : Segment) (b : Bool) → is_of s i ≡ b → members new s ≡ members old s ++ cond b (i ∷ []) []
    by s true at =
        ap (λ o. unwrap_or o []) (again.0 s ∙ ap (λ b. cond b (Some made) (get segment_cmp between s)) at)
        ∙ is ∙ appended (get segment_cmp old (segment_of i)) i
        ∙ ap (λ o. unwrap_or o [] ++ i ∷ []) (lookup_congr (eq_by_cmp segment_cmp) (eq_by_cmp_equiv segment_total).congr old.entries (segment_of i) s at)
    by s false at =
        ap (λ o. unwrap_or o []) (again.0 s ∙ ap (λ b. cond b (Some made) (get segment_cmp between s)) at ∙ once.0 s ∙ ap (λ b. cond b (Some first) (get segment_cmp old s)) at)
        ∙ sym (append-nil (members old s))

pub put_is : (old between new : Rows) (i : OspfInterface) (k l : Segment) (first made : List OspfInterface) → k ≡ segment_of i → l ≡ segment_of i
    → Updates segment_cmp old between k (Some first) → Updates segment_cmp between new l (Some made) → made ≡ with_interface (get segment_cmp old k) i → IsPut old i new
put_is old between new i k l first made of_k of_l once again is =
    put_twice old between new i first made (subst (λ s. Updates segment_cmp old between s (Some first)) of_k once) (subst (λ s. Updates segment_cmp between new s (Some made)) of_l again)
    (is ∙ ap (λ s. with_interface (get segment_cmp old s) i) of_k)
