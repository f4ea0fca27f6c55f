-- The front of what a reader has left, also where one byte more than the front would pass the end of its type.
use Rattle.std.proofs.Common.{subst, arith}
use Rattle.std.proofs.lemmas.Grind.{common_steps}
use Rattle.std.proofs.lemmas.List.{length-take}
use Rattle.std.specs.Prelude.{◌≡◌, ℕ, ◌+◌, ◌-◌, ◌^◌, ◌<◌, min, List, [], ◌++◌, length, take, Option, Some, None, IfSome}
use Rattle.std.specs.Option.{option_map}
use Rattle.std.specs.Io.Take.{take_inner, take_limit, take_remaining}
use Rattle.std.specs.declared.io.Take.{Take}

short : (limit most : ℕ) (all items : List ℕ) → limit ≡ min (most + 1) (2 ^ 64 - 1) → length items < 2 ^ 63 → items ≡ take limit all → items ≡ take (most + 1) all
short limit most all items is few taken = grind (arith, common_steps, length-take)

taken_from : (limit most : ℕ) (told : Option (List ℕ)) (items : List ℕ) → limit ≡ min (most + 1) (2 ^ 64 - 1) → length items < 2 ^ 63 → IfSome (option_map (take limit) told) (λ xs. items ≡ xs) → IfSome told (λ all. items ≡ take (most + 1) all)
taken_from limit most None items is few taken = tt
taken_from limit most (Some all) items is few taken = short limit most all items is few taken

pub front_taken : {F : Type 0} (remaining : F → Option (List ℕ)) (file : F) (t : Take F) (most : ℕ) (old items : List ℕ) → take_inner t ≡ file → take_limit t ≡ min (most + 1) (2 ^ 64 - 1) → old ≡ [] → length items < 2 ^ 63 → IfSome (take_remaining remaining t) (λ xs. items ≡ old ++ xs) → IfSome (remaining file) (λ all. items ≡ take (most + 1) all)
front_taken remaining file t most old items inner limit empty few taken =
    let bytes : IfSome (take_remaining remaining t) (λ xs. items ≡ xs) = subst (λ o. IfSome (take_remaining remaining t) (λ xs. items ≡ o ++ xs)) empty taken in
    taken_from (take_limit t) most (remaining file) items limit few (subst (λ f. IfSome (option_map (take (take_limit t)) (remaining f)) (λ xs. items ≡ xs)) inner bytes)
