-- Loops over the numbers below one: what is left of the range gives the rest.
use Rattle.std.proofs.Common.{◌≡◌, ℕ, suc, ◌+◌, ◌-◌, ◌<◌, Bool, true, false, cond, List, [], ◌∷◌, ◌++◌, map, filter, Option, Some, None, ap, sym, ◌∙◌, arith, append_assoc}
use Rattle.std.specs.List.{filter_map, flat_map, cons_option, range_with_len}

range_rest : (i n : ℕ) → i < n → range_with_len i (n - i) ≡ i ∷ range_with_len (i + 1) (n - (i + 1))
range_rest i n lt = ap (range_with_len i) (let more : n - i ≡ suc (n - (i + 1)) = omega arith in more) ∙ ap (λ k. i ∷ range_with_len k (n - (i + 1))) (omega arith)

module _ {Y : Type 0} (f : ℕ → Option Y) where
  pub one_more : (all all' done : List Y) (i n : ℕ) (y : Y) → i < n → f i ≡ Some y → all' ≡ all ++ y ∷ [] → all ++ filter_map f (range_with_len i (n - i)) ≡ done →
      all' ++ filter_map f (range_with_len (i + 1) (n - (i + 1))) ≡ done
  one_more all all' done i n y lt here is rest =
      ap (λ l. l ++ filter_map f (range_with_len (i + 1) (n - (i + 1)))) is ∙ append_assoc all (y ∷ []) (filter_map f (range_with_len (i + 1) (n - (i + 1))))
      ∙ ap (λ o. all ++ cons_option o (filter_map f (range_with_len (i + 1) (n - (i + 1))))) (sym here) ∙ ap (λ l. all ++ filter_map f l) (sym (range_rest i n lt)) ∙ rest

  pub none_more : (all all' done : List Y) (i n : ℕ) → i < n → f i ≡ None → all' ≡ all → all ++ filter_map f (range_with_len i (n - i)) ≡ done →
      all' ++ filter_map f (range_with_len (i + 1) (n - (i + 1))) ≡ done
  none_more all all' done i n lt here is rest =
      ap (λ l. l ++ filter_map f (range_with_len (i + 1) (n - (i + 1)))) is
      ∙ ap (λ o. all ++ cons_option o (filter_map f (range_with_len (i + 1) (n - (i + 1))))) (sym here) ∙ ap (λ l. all ++ filter_map f l) (sym (range_rest i n lt)) ∙ rest

pub some_more : {Y : Type 0} (f : ℕ → List Y) (all all' done : List Y) (i n : ℕ) → i < n → all' ≡ all ++ f i → all ++ flat_map f (range_with_len i (n - i)) ≡ done →
    all' ++ flat_map f (range_with_len (i + 1) (n - (i + 1))) ≡ done
some_more f all all' done i n lt is rest =
    ap (λ l. l ++ flat_map f (range_with_len (i + 1) (n - (i + 1)))) is ∙ append_assoc all (f i) (flat_map f (range_with_len (i + 1) (n - (i + 1))))
    ∙ ap (λ l. all ++ flat_map f l) (sym (range_rest i n lt)) ∙ rest

pub map_more : {Y : Type 0} (f : ℕ → Y) (all all' done : List Y) (i n : ℕ) → i < n → all' ≡ all ++ f i ∷ [] → all ++ map f (range_with_len i (n - i)) ≡ done →
    all' ++ map f (range_with_len (i + 1) (n - (i + 1))) ≡ done
map_more f all all' done i n lt is rest =
    ap (λ l. l ++ map f (range_with_len (i + 1) (n - (i + 1)))) is ∙ append_assoc all (f i ∷ []) (map f (range_with_len (i + 1) (n - (i + 1))))
    ∙ ap (λ l. all ++ map f l) (sym (range_rest i n lt)) ∙ rest

module _ (p : ℕ → Bool) (all all' done : List ℕ) (i n : ℕ) (lt : i < n) (rest : all ++ filter p (range_with_len i (n - i)) ≡ done) where
  pub passes_more : p i ≡ true → all' ≡ all ++ i ∷ [] → all' ++ filter p (range_with_len (i + 1) (n - (i + 1))) ≡ done
  passes_more here is =
      ap (λ l. l ++ filter p (range_with_len (i + 1) (n - (i + 1)))) is ∙ append_assoc all (i ∷ []) (filter p (range_with_len (i + 1) (n - (i + 1))))
      ∙ ap (λ b. all ++ cond b (i ∷ filter p (range_with_len (i + 1) (n - (i + 1)))) (filter p (range_with_len (i + 1) (n - (i + 1))))) (sym here)
      ∙ ap (λ l. all ++ filter p l) (sym (range_rest i n lt)) ∙ rest

  pub fails_more : p i ≡ false → all' ≡ all → all' ++ filter p (range_with_len (i + 1) (n - (i + 1))) ≡ done
  fails_more here is =
      ap (λ l. l ++ filter p (range_with_len (i + 1) (n - (i + 1)))) is
      ∙ ap (λ b. all ++ cond b (i ∷ filter p (range_with_len (i + 1) (n - (i + 1)))) (filter p (range_with_len (i + 1) (n - (i + 1))))) (sym here)
      ∙ ap (λ l. all ++ filter p l) (sym (range_rest i n lt)) ∙ rest

pub range_more : (all all' done : List ℕ) (i n : ℕ) → i < n → all' ≡ all ++ i ∷ [] → all ++ range_with_len i (n - i) ≡ done → all' ++ range_with_len (i + 1) (n - (i + 1)) ≡ done
range_more all all' done i n lt is rest =
    ap (λ l. l ++ range_with_len (i + 1) (n - (i + 1))) is ∙ append_assoc all (i ∷ []) (range_with_len (i + 1) (n - (i + 1)))
    ∙ ap (λ l. all ++ l) (sym (range_rest i n lt)) ∙ rest
