-- What is kept of walks from a router.
use Rattle.std.proofs.Common.{◌≡◌, ap, sym, ◌∙◌, subst, ℕ, ◌-◌, ◌<◌, ◌^◌, List, [], ◌∷◌, ◌++◌, Some, Result, Ok, Err, OnOk, IfSome, All, length, arith}
use Rattle.std.specs.List.{slice_get}
use Rattle.std.specs.List.Sorted.{IsStrictlySortedBy}
use Rattle.std.specs.declared.alloc.AllocError.{AllocError}
use Rattle.std.proofs.Math.Seq.{get_or-append_seam}
use Rattle.std.proofs.lemmas.List.{get_or_append_left, length-append}
use Rattle.std.proofs.lemmas.List.Elements.{All-push, All-weaker}
use Rattle.std.proofs.lemmas.Option.{slice_get_within, slice_get-get_or, get_or_from_slice_get}
use Rattle.rc_route.specs.Hops.{hop_cmp}
use Rattle.rc_route.specs.declared.route.Hop.{Hop}
use Rattle.rc_link_state.specs.Tables.{cost_of, hops_of}
use Rattle.rc_ospf.specs.FirstHops.{IsTowards, AreFound, AreLast}
use Rattle.rc_ospf.specs.Members.{reach_of}
use Rattle.rc_ospf.specs.declared.first_hops.FoundHops.{FoundHops}
use Rattle.rc_ospf.specs.declared.first_hops.Towards.{Towards}
use Rattle.rc_ospf.specs.declared.ospf_router.Member.{Member}

-- ---- lists of hops

stays : (xs ys : List (List Hop)) (i : ℕ) (x : List Hop) → slice_get xs i ≡ Some x → slice_get (xs ++ ys) i ≡ Some x
stays xs ys i x is =
    let within = slice_get_within xs i x is in
    let lengths = length-append xs ys in
    let longer : i < length (xs ++ ys) = omega (arith, within, lengths) in
    slice_get-get_or (xs ++ ys) i x longer ∙ ap Some (get_or_append_left xs ys x i within ∙ get_or_from_slice_get xs i x x is)

at_the_end : (xs : List (List Hop)) (x : List Hop) → slice_get (xs ++ x ∷ []) (length (xs ++ x ∷ []) - 1) ≡ Some x
at_the_end xs x =
    let lengths = length-append xs (x ∷ []) in
    let last : length (xs ++ x ∷ []) - 1 ≡ length xs = omega (arith, lengths) in
    let within : length xs < length (xs ++ x ∷ []) = omega (arith, lengths) in
    ap (slice_get (xs ++ x ∷ [])) last ∙ slice_get-get_or (xs ++ x ∷ []) (length xs) x within ∙ ap Some (get_or-append_seam xs x [] x)

-- where they are the last ones nothing is put
pub last_already : (xs ys : List (List Hop)) (x : List Hop) → ys ≡ xs → slice_get xs (length xs - 1) ≡ Some x → AreLast xs ys x
last_already xs ys x same is = subst (λ zs. AreLast xs zs x) (sym same) (record { stay = λ i other there. there; last = is })

-- and where they are put behind the others
pub last_now : (xs ys : List (List Hop)) (x : List Hop) (done : Result (Unit {0}) AllocError) → OnOk done (ys ≡ xs ++ x ∷ []) → OnOk done (AreLast xs ys x)
last_now xs ys x (Err e) put = tt
last_now xs ys x (Ok u) put = subst (λ zs. AreLast xs zs x) (sym put) (record { stay = stays xs (x ∷ []); last = at_the_end xs x })

-- ---- what is found

pub one_rises : (h : Hop) → IsStrictlySortedBy hop_cmp (h ∷ [])
unfolding IsStrictlySortedBy
one_rises h = (tt, tt)

-- what was found is so still, where hops stand where they stood
found_still : (m : Member) (old new : List (List Hop)) → ((i : ℕ) (others : List Hop) → slice_get old i ≡ Some others → slice_get new i ≡ Some others) → (t : Towards) → IsTowards m old t → IsTowards m new t
found_still m old new stay t is = record {
  cost = is.cost;
  small = is.small;
  value = stay t.place (hops_of (reach_of m t.area t.router)) is.value;
  in_order = is.in_order;
}

-- one more, whose first hops are the last ones
pub one_more : (m : Member) (old mid new : FoundHops) (done : Result (Unit {0}) AllocError) (hops : List Hop) (t : Towards)
    → AreFound m old → mid.towards ≡ old.towards → AreLast old.hops mid.hops hops
    → t.cost ≡ cost_of (reach_of m t.area t.router) → IfSome t.cost (λ c. c < 2 ^ 26) → hops ≡ hops_of (reach_of m t.area t.router) → IsStrictlySortedBy hop_cmp hops
    → t.place ≡ length mid.hops - 1 → new.hops ≡ mid.hops → OnOk done (new.towards ≡ mid.towards ++ t ∷ []) → OnOk done (AreFound m new)
one_more m old mid new (Err e) hops t all same are cost small value in_order place stay put = tt
one_more m old mid new (Ok u) hops t all same are cost small value in_order place stay put =
    let is : IsTowards m mid.hops t = record {
      cost = cost;
      small = small;
      value = ap (slice_get mid.hops) place ∙ are.last ∙ ap Some value;
      in_order = subst (IsStrictlySortedBy hop_cmp) value in_order;
    } in
    let before : All (IsTowards m mid.hops) mid.towards = subst (All (IsTowards m mid.hops)) (sym same) (All-weaker (IsTowards m old.hops) (IsTowards m mid.hops) (found_still m old.hops mid.hops are.stay) old.towards all) in
    let after : All (IsTowards m mid.hops) new.towards = subst (All (IsTowards m mid.hops)) (sym put) (All-push (IsTowards m mid.hops) mid.towards t before is) in
    subst (λ hs. All (IsTowards m hs) new.towards) (sym stay) after

-- walks that all leave by one step
pub sole_cost : (m : Member) (area router c : ℕ) (h : Hop) → reach_of m area router ≡ Some (record { cost = c; hops = h ∷ [] }) → Some c ≡ cost_of (reach_of m area router)
sole_cost m area router c h reach = sym (ap cost_of reach)

pub sole_hops : (m : Member) (area router c : ℕ) (h : Hop) → reach_of m area router ≡ Some (record { cost = c; hops = h ∷ [] }) → h ∷ [] ≡ hops_of (reach_of m area router)
sole_hops m area router c h reach = sym (ap hops_of reach)
