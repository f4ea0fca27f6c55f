-- Interfaces listed one by one, and the pairs of each.
use Rattle.std.proofs.Common.{refl, ◌≡◌, ap, sym, ◌∙◌, ℕ, suc, ◌+◌, List, [], ◌∷◌, ◌++◌, map, append_assoc, append-nil, zero, arith}
use Rattle.std.specs.List.{flat_map, range_with_len}
use Rattle.std.proofs.lemmas.List.{map-append}
use Rattle.rc_base.specs.declared.position.IfId.{IfId}
use Rattle.rc_topology.specs.Links.{ids_of}
use Rattle.rc_topology.specs.Topology.{Topology}

-- a list by index, and one element more
range_more : (n : ℕ) → range_with_len 0 (n + 1) ≡ range_with_len 0 n ++ n ∷ []
range_more n = ap (range_with_len 0) (sym suc_is) ∙ by 0 n ∙ ap (λ k. range_with_len 0 n ++ k ∷ []) same
  where
    suc_is : suc n ≡ n + 1
    suc_is = omega arith

    same : 0 + n ≡ n
    same = omega arith

    next : (from n : ℕ) → (from + 1) + n ≡ from + suc n
    next from n = omega arith

    plain : (from : ℕ) → from ≡ from + 0
    plain from = omega arith

    by : (from n : ℕ) → range_with_len from (suc n) ≡ range_with_len from n ++ (from + n) ∷ []
    by from zero = ap (λ k. k ∷ []) (plain from)
    by from (suc n) = ap (λ ks. from ∷ ks) (by (from + 1) n ∙ ap (λ k. range_with_len (from + 1) n ++ k ∷ []) (next from n))

-- one interface more of a router
pub ids_more : (before all more : List IfId) (r n : ℕ)
    → all ≡ before ++ map (λ k. record { router = r; index = k }) (range_with_len 0 n) → more ≡ all ++ record { router = r; index = n } ∷ []
    → more ≡ before ++ map (λ k. record { router = r; index = k }) (range_with_len 0 (n + 1))
ids_more before all more r n is push =
    push ∙ ap (λ xs. xs ++ id n ∷ []) is ∙ append_assoc before (map id (range_with_len 0 n)) (id n ∷ [])
    ∙ ap (λ xs. before ++ xs) (sym (map-append id (range_with_len 0 n) (n ∷ [])) ∙ ap (map id) (sym (range_more n)))
  where
    id : ℕ → IfId
    id k = record { router = r; index = k }

-- those of one router more
pub routers_more : (links : Topology) (n : ℕ) (all more : List IfId) → all ≡ flat_map (ids_of links) (range_with_len 0 n) → more ≡ all ++ ids_of links n → more ≡ flat_map (ids_of links) (range_with_len 0 (n + 1))
routers_more links n all more is put =
    put ∙ ap (λ xs. xs ++ ids_of links n) is ∙ sym (by (range_with_len 0 n)) ∙ ap (flat_map (ids_of links)) (sym (range_more n))
  where
    by : (rs : List ℕ) → flat_map (ids_of links) (rs ++ n ∷ []) ≡ flat_map (ids_of links) rs ++ ids_of links n
    by [] = append-nil (ids_of links n)
    by (r ∷ rs) = ap (λ xs. ids_of links r ++ xs) (by rs) ∙ sym (append_assoc (ids_of links r) (flat_map (ids_of links) rs) (ids_of links n))
