-- The place of a prefix among rows.
use Rattle.std.proofs.Common.{refl, ◌≡◌, ap, sym, ◌∙◌, subst, ℕ, ◌-◌, ◌<◌, ◌≤◌, true, false, List, length, get_or, Option, Some, None, inl, inr, arith}
use Rattle.std.specs.List.Sorted.{IsPartitionedBy, IsPartitionPoint}
use Rattle.std.specs.Prelude.{slice_get}
use Rattle.std.specs.Option.{option_map_or}
use Rattle.std.proofs.lemmas.Option.{get_or_from_slice_get, none-some, slice_get-get_or}
use Rattle.std.specs.Ordering.{is_lt}
use Rattle.std.specs.declared.cmp.Ordering.{Ordering}
use Rattle.std.specs.declared.cmp.Ordering.TheVariants.{Less, Equal, Greater}
use Rattle.std.proofs.lemmas.Bool.{cases_lt}
use Rattle.rc_base.specs.Prefix.{Cidr, prefix_cmp}
use Rattle.rc_base.proofs.OrderedLaws.{prefix_cmp_total}
use Rattle.rc_trie.specs.declared.row.Row.{Row}
use Rattle.rc_trie.specs.Search.{AreRows, IsPlace, ends_before}
use Rattle.rc_trie.proofs.SearchLaws.{rises}

lt_less : (o : Ordering) → is_lt o ≡ true → o ≡ Less
lt_less Less e = refl
lt_less Equal e = absurd (cc e)
lt_less Greater e = absurd (cc e)

module _ (rows : List Row) (are : AreRows rows) where
  rise : (i j : ℕ) (d : Row) → i < j → j < length rows → prefix_cmp (get_or rows i d).prefix (get_or rows j d).prefix ≡ Less
  rise i j d less within = rises (λ (r : Row). r.prefix) rows are i j d less within

  -- the rows that stand before a prefix come first
  pub stand_first : (p : Cidr) → IsPartitionedBy (λ (r : Row). is_lt (prefix_cmp r.prefix p)) rows
  stand_first p i j d le within passes = elim (cases_lt i j) [
    | inl less ↦ ap is_lt (prefix_cmp_total.trans (get_or rows i d).prefix (get_or rows j d).prefix p (rise i j d less within) (lt_less (prefix_cmp (get_or rows j d).prefix p) passes))
    | inr same ↦ let one : i ≡ j = omega arith in subst (λ k. is_lt (prefix_cmp (get_or rows k d).prefix p) ≡ true) (sym one) passes
  ]

  pub placed_at : (p : Cidr) (m : ℕ) → m ≤ length rows → IsPartitionPoint (λ (r : Row). is_lt (prefix_cmp r.prefix p) ≡ true) (λ (r : Row). is_lt (prefix_cmp r.prefix p) ≡ false) rows m → IsPlace rows p m
  placed_at p m within point = record {
    within = within;
    before = λ k d less. lt_less (prefix_cmp (get_or rows k d).prefix p) (point.0 k d (omega arith) less);
    behind = λ k d low less. point.1 k d low less;
  }

  -- all stand before what stands behind the last
  pub placed_last : (p : Cidr) → ends_before rows p ≡ true → IsPlace rows p (length rows)
  placed_last p ends = at (slice_get rows (length rows - 1)) refl ends
    where
      at : (o : Option Row) → slice_get rows (length rows - 1) ≡ o → option_map_or (λ (r : Row). is_lt (prefix_cmp r.prefix p)) o true ≡ true → IsPlace rows p (length rows)
      at (Some last) is less = record {
        within = omega arith;
        before = λ k d within.
            let here : get_or rows (length rows - 1) d ≡ last = get_or_from_slice_get rows (length rows - 1) last d is in
            let behind : prefix_cmp (get_or rows (length rows - 1) d).prefix p ≡ Less = ap (λ (r : Row). prefix_cmp r.prefix p) here ∙ lt_less (prefix_cmp last.prefix p) less in
            elim (cases_lt k (length rows - 1)) [
              | inl sooner ↦ prefix_cmp_total.trans (get_or rows k d).prefix (get_or rows (length rows - 1) d).prefix p (rise k (length rows - 1) d sooner (omega arith)) behind
              | inr latest ↦ let same : k ≡ length rows - 1 = omega arith in ap (λ j. prefix_cmp (get_or rows j d).prefix p) same ∙ behind
            ];
        behind = λ k d low within. absurd (omega arith);
      }
      at None is less = record {
        within = omega arith;
        before = λ k d within. absurd (none-some (get_or rows (length rows - 1) d) (sym is ∙ slice_get-get_or rows (length rows - 1) d (omega arith)));
        behind = λ k d low within. absurd (omega arith);
      }
