-- What waits in rising order and what waits in a heap, together.
use Rattle.std.proofs.Common.{◌≡◌, ℕ, zero, suc, ◌+◌, ◌-◌, ◌<◌, ◌≤◌, inl, inr, List, [], ◌∷◌, ◌++◌, length, get_or, drop, Option, Some, None, sym, ◌∙◌, ap, subst, arith, refl, append_assoc, Contains, All, IsPermutation, IfSome, OnSome}
use Rattle.std.specs.List.{AllPairs}
use Rattle.std.proofs.lemmas.Bool.{cases_eq}
use Rattle.std.proofs.lemmas.List.{get_or-drop, get_or_default, drop_more, length-drop}
use Rattle.std.proofs.lemmas.List.Sorted.{IsPermutation-sym, IsPermutation-trans, IsPermutation-middle, IsPermutation-append_right, length_permutation}
use Rattle.rc_spf.specs.Waiting.{IsNearerThan, AreBefore, IsRising, IsLeastOf}

abbrev Entry : Type 0
Entry = ℕ × ℕ

abbrev Entries : Type 0
Entries = List Entry

-- the last in rising order waits at no more, and so does each
pub behind_last : (entries : Entries) (cost : ℕ) (d : Entry) → AllPairs IsNearerThan entries → 0 < length entries →
    (get_or entries (length entries - 1) d).0 ≤ cost → AreBefore cost entries
behind_last entries cost d rises some le k d' lt = subst (λ (q : Entry). q.0 ≤ cost) (get_or_default entries k d d' lt) (elim (cases_eq k (length entries - 1)) [
  | inl same ↦ subst (λ n. (get_or entries n d).0 ≤ cost) (sym same) le
  | inr other ↦ (let l : (get_or entries k d).0 ≤ (get_or entries (length entries - 1) d).0 = rises k (length entries - 1) d (omega arith) (omega arith) in omega arith)
])

-- the first that waits is one of the nearest
rising_nearest : (entries : Entries) (gone : ℕ) (d : Entry) → IsRising entries gone → gone < length entries → All (IsNearerThan (get_or entries gone d)) (drop gone entries)
rising_nearest entries gone d rising lt k d' lk =
    subst (λ (q : Entry). (get_or entries gone d).0 ≤ q.0) (sym (get_or-drop gone entries k d'))
    (subst (λ (q : Entry). q.0 ≤ (get_or entries (gone + k) d').0) (sym (get_or_default entries gone d d' lt))
    (nearer k (let l : length (drop gone entries) ≡ length entries - gone = length-drop gone entries in omega arith)))
  where
    nearer : (k : ℕ) → gone + k < length entries → (get_or entries gone d').0 ≤ (get_or entries (gone + k) d').0
    nearer zero l = subst (λ n. (get_or entries gone d').0 ≤ (get_or entries n d').0) (let e : gone ≡ gone + zero = omega arith in e)
        (let r : (get_or entries gone d').0 ≤ (get_or entries gone d').0 = omega arith in r)
    nearer (suc k) l = rising.rises gone (gone + suc k) d' (omega arith) l

rising_least : (entries : Entries) (gone : ℕ) (d : Entry) → IsRising entries gone → gone < length entries → IsLeastOf (Some (get_or entries gone d).0) (drop gone entries)
rising_least entries gone d rising lt = (
  ((get_or entries gone d).1, subst (λ (l : Entries). Contains l (get_or entries gone d)) (sym (drop_more entries gone d lt)) (0, omega arith, refl)),
  rising_nearest entries gone d rising lt,
)

-- an entry more in rising order, or in the heap
pub joins_rising : (rising rising' heap : Entries) (p : Entry) → rising' ≡ rising ++ p ∷ [] → IsPermutation (p ∷ (rising ++ heap)) (rising' ++ heap)
joins_rising rising rising' heap p is = IsPermutation-sym (rising' ++ heap) (p ∷ (rising ++ heap))
    (subst (λ (l : Entries). IsPermutation l (p ∷ (rising ++ heap))) (sym (ap (λ (l : Entries). l ++ heap) is ∙ append_assoc rising (p ∷ []) heap)) (IsPermutation-middle rising p heap))

pub joins_heap : (rising rising' heap heap' : Entries) (p : Entry) → rising' ≡ rising → IsPermutation (p ∷ heap) heap' → IsPermutation (p ∷ (rising ++ heap)) (rising' ++ heap')
joins_heap rising rising' heap heap' p is perm = subst (λ (l : Entries). IsPermutation (p ∷ (rising ++ heap)) (l ++ heap')) (sym is)
    (IsPermutation-trans (p ∷ (rising ++ heap)) (rising ++ p ∷ heap) (rising ++ heap') (IsPermutation-sym (rising ++ p ∷ heap) (p ∷ (rising ++ heap)) (IsPermutation-middle rising p heap))
    (IsPermutation-append_right rising (p ∷ heap) heap' perm))

-- an entry less
leaves_heap : (rising heap heap' : Entries) (p : Entry) → IsPermutation heap (p ∷ heap') → IsPermutation (rising ++ heap) (p ∷ (rising ++ heap'))
leaves_heap rising heap heap' p perm = IsPermutation-trans (rising ++ heap) (rising ++ p ∷ heap') (p ∷ (rising ++ heap'))
    (IsPermutation-append_right rising heap (p ∷ heap') perm) (IsPermutation-middle rising p heap')

one_fewer : (queue left : Entries) (p : Entry) → IsPermutation queue (p ∷ left) → length left + 1 ≡ length queue
one_fewer queue left p perm = let l : length (p ∷ left) ≡ length queue = length_permutation queue (p ∷ left) perm in omega arith

-- the first in rising order, as it is read
pub rising_least_at : (entries : Entries) (gone : ℕ) (x : Entry) → IsRising entries gone → gone < length entries → x ≡ get_or entries gone x → IsLeastOf (Some x.0) (drop gone entries)
rising_least_at entries gone x rising lt is = subst (λ (q : Entry). IsLeastOf (Some q.0) (drop gone entries)) (sym is) (rising_least entries gone x rising lt)

pub rising_nearest_at : (entries : Entries) (gone : ℕ) (x : Entry) → IsRising entries gone → gone < length entries → x ≡ get_or entries gone x → All (IsNearerThan x) (drop gone entries)
rising_nearest_at entries gone x rising lt is = subst (λ (q : Entry). All (IsNearerThan q) (drop gone entries)) (sym is) (rising_nearest entries gone x rising lt)

-- what went out of the heap went out of all
pub leaves_heap_if : (rising heap heap' : Entries) (result : Option Entry) → IfSome result (λ p. IsPermutation heap (p ∷ heap')) →
    IfSome result (λ p. IsPermutation (rising ++ heap) (p ∷ (rising ++ heap')))
leaves_heap_if rising heap heap' None perm = tt
leaves_heap_if rising heap heap' (Some p) perm = leaves_heap rising heap heap' p perm

pub fewer_in_heap : (rising heap heap' : Entries) (result : Option Entry) → IfSome result (λ p. IsPermutation heap (p ∷ heap')) →
    OnSome result (length (rising ++ heap') + 1 ≡ length (rising ++ heap))
fewer_in_heap rising heap heap' None perm = tt
fewer_in_heap rising heap heap' (Some p) perm = one_fewer (rising ++ heap) (rising ++ heap') p (leaves_heap rising heap heap' p perm)
