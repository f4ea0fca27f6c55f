-- A loop over the numbers below one: what is left of the range gives the rest.
use Rattle.std.proofs.Common.{◌≡◌, ℕ, suc, ◌+◌, ◌-◌, ◌<◌, List, ◌∷◌, ◌++◌, ap, sym, ◌∙◌, arith, append_assoc}
use Rattle.std.specs.List.{flat_map, range_with_len}

range_rest : (i n : ℕ) → i < n → range_with_len i (n - i) ≡ i ∷ range_with_len (i + 1) (n - (i + 1))
range_rest i n lt = ap (range_with_len i) (let more : n - i ≡ suc (n - (i + 1)) = omega arith in more) ∙ ap (λ k. i ∷ range_with_len k (n - (i + 1))) (omega arith)

pub some_more : {Y : Type 0} (f : ℕ → List Y) (all all' done : List Y) (i n : ℕ) → i < n → all' ≡ all ++ f i → all ++ flat_map f (range_with_len i (n - i)) ≡ done →
    all' ++ flat_map f (range_with_len (i + 1) (n - (i + 1))) ≡ done
some_more f all all' done i n lt is rest =
    ap (λ l. l ++ flat_map f (range_with_len (i + 1) (n - (i + 1)))) is ∙ append_assoc all (f i) (flat_map f (range_with_len (i + 1) (n - (i + 1))))
    ∙ ap (λ l. all ++ flat_map f l) (sym (range_rest i n lt)) ∙ rest
