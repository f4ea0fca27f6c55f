-- The set of a hop holds the headers whose destination's hops it is among.
use Rattle.std.proofs.Common.{refl, ◌≡◌, ap, sym, ◌∙◌, subst, ℕ, Bool, true, false, not, ◌&&◌, List, [], ◌∷◌, ◌++◌, map, Option, Some, None, inl, inr}
use Rattle.std.specs.List.{list_any, filter, fold, reduce, flat_map}
use Rattle.std.specs.Option.{option_map_or}
use Rattle.std.proofs.lemmas.Bool.{and_parts, and_from}
use Rattle.std.proofs.lemmas.List.Elements.{recursion_from_All}
use Rattle.rc_base.proofs.KeepLaws.{In, any_yes, any_same}
use Rattle.rc_base.proofs.OrderedLaws.{any-in_order}
use Rattle.rc_base.specs.Prefix.{Cidr, IsCidr, contains}
use Rattle.rc_base.specs.declared.header.Header.{Header}
use Rattle.rc_route.proofs.OrderLaws.{same_by_hop_cmp}
use Rattle.rc_route.proofs.HopLaws.{same_hop-Decides}
use Rattle.rc_route.specs.Hops.{hop_cmp, same_hop}
use Rattle.rc_route.specs.declared.route.Hop.{Hop}
use Rattle.rc_fib.specs.Forwarding.{entry_of, resolved_hops}
use Rattle.rc_fib.specs.Entry.{Entry}
use Rattle.rc_trees.specs.Recipes.{has}
use Rattle.rc_trees.specs.Fields.{chain}
use Rattle.rc_fib.specs.Entries.{IsFib}
use Rattle.rc_base.specs.Header.{IsHeader}
use Rattle.rc_base.specs.declared.field.Field.TheVariants.{Dst}
use Rattle.rc_sets.specs.Regions.{is_within, longer_within, region, gives, hop_set, hops_in}
use Rattle.rc_trees.proofs.FieldLaws.{has-chain}
use Rattle.rc_trees.proofs.RecipeLaws.{has-without, has-union_of}
use Rattle.rc_sets.proofs.LongestLaws.{same_bool, any-in, in-filter, in-map, all-in, longer, len_of, folded, holds, is_longest, any-longest}

module _ (fib : List Entry) (ordered : IsFib fib) where
  -- ---- sets of hops

  module _ (h : Header) (header : IsHeader h) where
    entry_has : (e : Entry) → In e fib → has (chain e.prefix) h ≡ contains e.prefix h.dst
    entry_has e there =
        let canonical = all-in (λ (x : Entry). IsCidr x.prefix) e fib (recursion_from_All (λ (x : Entry). IsCidr x.prefix) fib ordered.canonical) there in
        has-chain h (header Dst) e.prefix canonical.short

    within_has : (p q : Cidr) → In q (longer_within fib p) → has (chain q) h ≡ contains q h.dst
    within_has p q there =
        let kept = in-filter (is_within p) q (map (λ (x : Entry). x.prefix) fib) there in
        let entry = in-map (λ (x : Entry). x.prefix) q fib kept.0 in
        ap (λ (r : Cidr). has (chain r) h) (sym entry.2) ∙ entry_has entry.0 entry.1 ∙ ap (λ (r : Cidr). contains r h.dst) entry.2

    -- the region of an entry's prefix holds the headers whose entry it is
    pub has-region : (e : Entry) → In e fib → has (region fib e.prefix) h ≡ is_longest fib ordered h.dst e
    unfolding region
    has-region e there =
        has-without chain h (chain e.prefix) (longer_within fib e.prefix)
        ∙ (λ i. entry_has e there i && not (any_same (λ q. has (chain q) h) (λ q. contains q h.dst) (longer_within fib e.prefix) (within_has e.prefix) i))

    found_hop : (x : Hop) (o : Option Entry) → option_map_or (gives x) o false ≡ list_any (same_hop x) (option_map_or (λ (e : Entry). e.hops) o [])
    found_hop x None = refl
    found_hop x (Some e) = refl

    -- the set of a hop holds the headers whose destination's hops it is among
    pub has-hop_set : (x : Hop) → has (hop_set fib x) h ≡ list_any (same_hop x) (resolved_hops fib h.dst)
    unfolding hop_set
    has-hop_set x =
        has-union_of (λ (e : Entry). region fib e.prefix) h (filter (gives x) fib)
        ∙ any_same (λ (e : Entry). has (region fib e.prefix) h) (is_longest fib ordered h.dst) (filter (gives x) fib) (λ e there. has-region e (in-filter (gives x) e fib there).0)
        ∙ any-longest fib ordered h.dst (gives x)
        ∙ found_hop x (entry_of fib h.dst)

  -- ---- the hops of an address are among those of the table

  module _ (a : ℕ) where
    entry_in : (xs : List Entry) → filter (holds fib ordered a) fib ≡ xs → (e : Entry) → reduce (longer (len_of fib ordered a)) xs ≡ Some e → In e fib
    entry_in [] same e found = absurd (let x : None ≡ Some e = found in cc)
    entry_in (x ∷ xs) same e found =
        let m = fold (longer (len_of fib ordered a)) x xs in
        let found' : Some m ≡ Some e = found in
        let one : m ≡ e = cc in
        let longest = folded (len_of fib ordered a) x xs in
        subst (λ y. In y fib) one (in-filter (holds fib ordered a) m fib (subst (In m) (sym same) longest.member)).0

    in-append-left : (x : Hop) (xs ys : List Hop) → In x xs → In x (xs ++ ys)
    in-append-left x [] ys there = absurd there
    in-append-left x (y ∷ xs) ys (inl same) = inl same
    in-append-left x (y ∷ xs) ys (inr rest) = inr (in-append-left x xs ys rest)

    in-append-right : (x : Hop) (xs ys : List Hop) → In x ys → In x (xs ++ ys)
    in-append-right x [] ys there = there
    in-append-right x (y ∷ xs) ys there = inr (in-append-right x xs ys there)

    in-hops : (x : Hop) (e : Entry) (es : List Entry) → In e es → In x e.hops → In x (flat_map (λ (d : Entry). d.hops) es)
    in-hops x e [] there here = absurd there
    in-hops x e (d ∷ es) (inl same) here = in-append-left x d.hops (flat_map (λ (d : Entry). d.hops) es) (subst (λ (c : Entry). In x c.hops) (sym same) here)
    in-hops x e (d ∷ es) (inr rest) here = in-append-right x d.hops (flat_map (λ (d : Entry). d.hops) es) (in-hops x e es rest here)

    hop_in : (x : Hop) (o : Option Entry) → ((e : Entry) → o ≡ Some e → In e fib) → In x (option_map_or (λ (e : Entry). e.hops) o []) → In x (flat_map (λ (d : Entry). d.hops) fib)
    hop_in x None found there = absurd there
    hop_in x (Some e) found there = in-hops x e fib (found e refl) there

    -- a test of an address's hops, asked hop by hop of the table
    pub any-hops : (f : Hop → Bool) → list_any f (resolved_hops fib a) ≡ list_any (λ x. list_any (same_hop x) (resolved_hops fib a) && f x) (hops_in fib)
    any-hops f =
        same_bool _ _ there back
        ∙ sym (any-in_order hop_cmp same_by_hop_cmp (λ x. list_any (same_hop x) (resolved_hops fib a) && f x) (flat_map (λ (d : Entry). d.hops) fib))
      where
        there : list_any f (resolved_hops fib a) ≡ true → list_any (λ x. list_any (same_hop x) (resolved_hops fib a) && f x) (flat_map (λ (d : Entry). d.hops) fib) ≡ true
        there some =
            let one = any_yes f (resolved_hops fib a) some in
            any-in (λ x. list_any (same_hop x) (resolved_hops fib a) && f x) one.0 (flat_map (λ (d : Entry). d.hops) fib)
            (hop_in one.0 (entry_of fib a) (entry_in (filter (holds fib ordered a) fib) refl) one.1)
            (and_from _ _ (any-in (same_hop one.0) one.0 (resolved_hops fib a) one.1 ((same_hop-Decides one.0 one.0).1 refl)) one.2)

        back : list_any (λ x. list_any (same_hop x) (resolved_hops fib a) && f x) (flat_map (λ (d : Entry). d.hops) fib) ≡ true → list_any f (resolved_hops fib a) ≡ true
        back some =
            let one = any_yes (λ x. list_any (same_hop x) (resolved_hops fib a) && f x) (flat_map (λ (d : Entry). d.hops) fib) some in
            let parts = and_parts _ _ one.2 in
            let other = any_yes (same_hop one.0) (resolved_hops fib a) parts.0 in
            let same : one.0 ≡ other.0 = (same_hop-Decides one.0 other.0).0 other.2 in
            any-in f other.0 (resolved_hops fib a) other.1 (ap f (sym same) ∙ parts.1)
