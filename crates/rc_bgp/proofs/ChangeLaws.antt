-- What changed between two lists of paths.
use Rattle.std.proofs.Common.{refl, ◌≡◌, ap, sym, ◌∙◌, subst, ℕ, Bool, true, false, cond, nat_eq, List, [], ◌∷◌, ◌++◌, Some, None}
use Rattle.std.specs.Bool.{Decides}
use Rattle.std.specs.List.{fold, list_any}
use Rattle.std.specs.List.Sorted.{IsStrictlySortedBy}
use Rattle.std.specs.BTreeSet.{insert_key}
use Rattle.std.specs.Cmp.Lexicographic.{pointwise, pointwise_decides, bytes_decides}
use Rattle.std.proofs.lemmas.Bool.{or_parts}
use Rattle.std.proofs.lemmas.List.Sums.{fold-append}
use Rattle.rc_base.specs.Lists.{in_order}
use Rattle.rc_base.specs.Prefix.{Cidr, prefix_cmp, same_prefix}
use Rattle.rc_base.proofs.OrderedLaws.{any-in_order, in_order-sorted, prefix_cmp_total, same_by_prefix_cmp}
use Rattle.rc_route.proofs.EqualLaws.{path_decides}
use Rattle.rc_route.specs.contracts.path.BgpPathPartialEq.TheImpl as path_impl
use Rattle.rc_route.specs.Tables.{best_for}
use Rattle.rc_route.specs.declared.best.Best.{Best}
use Rattle.rc_route.specs.declared.path.BgpPath.{BgpPath}
use Rattle.rc_topology.proofs.ListLaws.{any_append}
use Rattle.rc_bgp.specs.Candidates.{best_prefixes, prefixes_of}
use Rattle.rc_bgp.specs.Changes.{AreToldAmong, CoversChange}
use Rattle.rc_bgp.specs.RouterStates.{path_at}
use Rattle.rc_bgp.specs.Updating.{AreTaken}

-- ---- the test of lists of paths decides whether they are equal

pub lists_decide : (xs ys : List (List BgpPath)) → Decides (pointwise (pointwise path_impl.eq-value.it) xs ys) (xs ≡ ys)
lists_decide = pointwise_decides (pointwise_decides path_decides)

pub as_path_decides : (x y : List ℕ) → Decides (pointwise nat_eq x y) (x ≡ y)
as_path_decides = bytes_decides

-- ---- the prefixes of two lists

pub both_listed : (old new : List Best) (first last : List Cidr) → first ≡ fold (insert_key prefix_cmp) [] (best_prefixes old) → last ≡ fold (insert_key prefix_cmp) first (best_prefixes new)
    → last ≡ in_order prefix_cmp (best_prefixes old ++ best_prefixes new)
both_listed old new first last a b = b ∙ ap (λ ks. fold (insert_key prefix_cmp) ks (best_prefixes new)) a ∙ sym (fold-append (insert_key prefix_cmp) [] (best_prefixes old) (best_prefixes new))

-- a prefix that no path has is that of none
pub none_named : (paths : List BgpPath) (p : Cidr) → list_any (same_prefix p) (prefixes_of paths) ≡ false → path_at paths p ≡ None
none_named [] p none = refl
none_named (x ∷ xs) p none =
    let parts = or_parts (same_prefix p x.prefix) (list_any (same_prefix p) (prefixes_of xs)) none in
    ap (λ b. cond b (Some x) (path_at xs p)) parts.0 ∙ none_named xs p parts.1

pub none_best_for : (paths : List Best) (p : Cidr) → list_any (same_prefix p) (best_prefixes paths) ≡ false → best_for paths p ≡ None
none_best_for [] p none = refl
none_best_for (x ∷ xs) p none =
    let parts = or_parts (same_prefix p x.path.prefix) (list_any (same_prefix p) (best_prefixes xs)) none in
    ap (λ b. cond b (Some x) (best_for xs p)) parts.0 ∙ none_best_for xs p parts.1

-- ---- all that changes is told, where both say the same at all other prefixes

pub covered : (prefixes changed : List Cidr) (old new : List Best) → ((p : Cidr) → list_any (same_prefix p) prefixes ≡ false → best_for old p ≡ best_for new p) → AreToldAmong prefixes changed old new
    → CoversChange changed old new
covered prefixes changed old new others told = record { elsewhere = λ p none. by p none (list_any (same_prefix p) prefixes) refl }
  where
    by : (p : Cidr) → list_any (same_prefix p) changed ≡ false → (b : Bool) → list_any (same_prefix p) prefixes ≡ b → best_for old p ≡ best_for new p
    by p none true here = told.each p here none
    by p none false there = others p there

pub both_in_order : (prefixes : List Cidr) (old new : List Best) → prefixes ≡ in_order prefix_cmp (best_prefixes old ++ best_prefixes new) → IsStrictlySortedBy prefix_cmp prefixes
both_in_order prefixes old new is = subst (IsStrictlySortedBy prefix_cmp) (sym is) (in_order-sorted prefix_cmp prefix_cmp_total (best_prefixes old ++ best_prefixes new))

pub both_covered : (prefixes changed : List Cidr) (old new : List Best) → prefixes ≡ in_order prefix_cmp (best_prefixes old ++ best_prefixes new) → AreTaken (λ (b : Best). b.path.prefix) (best_for new) old prefixes changed → CoversChange changed old new
both_covered prefixes changed old new is taken = covered prefixes changed old new others (record { each = taken.others })
  where
    others : (p : Cidr) → list_any (same_prefix p) prefixes ≡ false → best_for old p ≡ best_for new p
    others p none =
        let parts = or_parts (list_any (same_prefix p) (best_prefixes old)) (list_any (same_prefix p) (best_prefixes new))
        (sym (any_append (same_prefix p) (best_prefixes old) (best_prefixes new)) ∙ sym (any-in_order prefix_cmp same_by_prefix_cmp (same_prefix p) (best_prefixes old ++ best_prefixes new))
        ∙ ap (list_any (same_prefix p)) (sym is) ∙ none) in
        none_best_for old p parts.0 ∙ sym (none_best_for new p parts.1)
