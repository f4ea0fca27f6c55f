-- Each hop of an address says where a packet goes: no gateway without an interface is left.
use Rattle.std.proofs.Common.{refl, ◌≡◌, ℕ, zero, suc, true, false, cond, List, [], ◌∷◌, ◌++◌, All, map, Some, None}
use Rattle.std.specs.List.{AllByRecursion, flat_map, fold, list_any}
use Rattle.std.specs.Option.{option_map_or}
use Rattle.std.proofs.lemmas.List.Elements.{All-append, All-cons, All-map, All-nil, All-push, All-weaker, recursion_from_All}
use Rattle.indexmap.specs.IndexSet.{insert_key}
use Rattle.rc_route.specs.declared.route.Hop.{Hop}
use Rattle.rc_route.specs.declared.route.Hop.TheVariants.{Null, Dev, Via}
use Rattle.rc_route.specs.declared.route.Route.{Route}
use Rattle.rc_route.specs.Hops.{same_hop}
use Rattle.rc_fib.specs.Forwarding.{is_resolved, with_gateway, resolve_hop, resolve_all, hops_within, hops_of, longest, resolved}
use Rattle.rc_fib.specs.Entry.{Entry}

abbrev IsResolved : Hop → Type 0
IsResolved hop = is_resolved hop ≡ true

one : (hop : Hop) → IsResolved hop → All IsResolved (hop ∷ [])
one hop h = All-cons IsResolved hop [] h (All-nil IsResolved)

insert-resolved : (hops : List Hop) (hop : Hop) → All IsResolved hops → IsResolved hop → All IsResolved (insert_key same_hop hops hop)
insert-resolved hops hop all h =
    elim (list_any (same_hop hop) hops) as (λ b. All IsResolved (cond b hops (hops ++ hop ∷ []))) [ true ↦ all | false ↦ All-push IsResolved hops hop all h ]

fold-resolved : (xs hops : List Hop) → All IsResolved hops → AllByRecursion IsResolved xs → All IsResolved (fold (insert_key same_hop) hops xs)
fold-resolved [] hops all h = all
fold-resolved (x ∷ xs) hops all h = fold-resolved xs (insert_key same_hop hops x) (insert-resolved hops x all h.0) h.1

through : (g : ℕ) (hop : Hop) → IsResolved hop → IsResolved (with_gateway g hop)
through g Null h = refl
through g (Dev i) h = refl
through g (Via f None) h = h
through g (Via f (Some i)) h = refl

module _ (hops : ℕ → List Hop) (each : (a : ℕ) → All IsResolved (hops a)) where
  hop-resolved : (hop : Hop) → All IsResolved (resolve_hop hops hop)
  hop-resolved Null = one Null refl
  hop-resolved (Dev i) = one (Dev i) refl
  hop-resolved (Via g None) = All-map IsResolved (with_gateway g) (hops g) (All-weaker IsResolved (λ hop. IsResolved (with_gateway g hop)) (through g) (hops g) (each g))
  hop-resolved (Via g (Some i)) = one (Via g (Some i)) refl

  strung : (xs : List Hop) → All IsResolved (flat_map (resolve_hop hops) xs)
  strung [] = All-nil IsResolved
  strung (x ∷ xs) = All-append IsResolved (resolve_hop hops x) (flat_map (resolve_hop hops) xs) (hop-resolved x) (strung xs)

  pub all-resolved : (xs : List Hop) → All IsResolved (resolve_all hops xs)
  all-resolved xs = fold-resolved (flat_map (resolve_hop hops) xs) [] (All-nil IsResolved) (recursion_from_All IsResolved (flat_map (resolve_hop hops) xs) (strung xs))

hops_within-resolved : (table : List Route) (depth a : ℕ) → All IsResolved (hops_within table depth a)
unfolding hops_within
hops_within-resolved table zero a = All-nil IsResolved
hops_within-resolved table (suc depth) a =
    let each : (b : ℕ) → All IsResolved (hops_within table depth b) = hops_within-resolved table depth in
    elim (longest table a) as (λ o. All IsResolved (option_map_or (λ (r : Route). resolve_all (hops_within table depth) r.hops) o [])) [
      | None ↦ All-nil IsResolved
      | Some r ↦ all-resolved (hops_within table depth) each r.hops
    ]

-- the hops of an address are null or name an interface
pub hops_of-resolved : (table : List Route) (a : ℕ) → All (λ hop. is_resolved hop ≡ true) (hops_of table a)
hops_of-resolved table a = hops_within-resolved table 16 a

entries-resolved : (all table : List Route) → All (λ (e : Entry). All IsResolved e.hops) (map (λ (r : Route). record { prefix = r.prefix; hops = resolve_all (hops_within all 15) r.hops }) table)
entries-resolved all [] = All-nil (λ (e : Entry). All IsResolved e.hops)
entries-resolved all (r ∷ rs) =
    All-cons (λ (e : Entry). All IsResolved e.hops) (record { prefix = r.prefix; hops = resolve_all (hops_within all 15) r.hops })
    (map (λ (x : Route). record { prefix = x.prefix; hops = resolve_all (hops_within all 15) x.hops }) rs)
    (all-resolved (hops_within all 15) (hops_within-resolved all 15) r.hops) (entries-resolved all rs)

-- so are the hops of each entry of a resolved table
pub resolved-resolved : (table : List Route) → All (λ (e : Entry). All (λ hop. is_resolved hop ≡ true) e.hops) (resolved table)
resolved-resolved table = entries-resolved table table
