-- What a hop resolves to, that hops are told apart in a set as in the definitions, and that the derived `==` of stretches is equality.
use Rattle.std.proofs.Common.{refl, ◌≡◌, ap, ℕ, map, Bool, List, [], ◌∷◌, Some, None, ◌==◌, rules}
use Rattle.std.specs.Bool.{Decides}
use Rattle.std.proofs.lemmas.Bool.Decides.{nat_tests, Decides-and, Decides-like}
use Rattle.std.specs.Cmp.Lexicographic.{pointwise, pointwise_decides}
use Rattle.indexmap.specs.IndexSet.{insert_key}
use Rattle.rc_base.specs.Prefix.{Cidr}
use Rattle.rc_base.specs.contracts.prefix.PrefixPartialEq.TheImpl as prefix_impl
use Rattle.rc_route.specs.Hops.{same_hop}
use Rattle.rc_route.specs.declared.route.Hop.{Hop}
use Rattle.rc_route.specs.declared.route.Hop.TheVariants.{Null, Dev, Via}
use Rattle.rc_route.specs.contracts.route.HopPartialEq.TheImpl as hop_impl
use Rattle.rc_route.proofs.HopLaws.{same_test, same_hops-Decides}
use Rattle.rc_fib.specs.contracts.stretch.StretchPartialEq.TheImpl as stretch_impl
use Rattle.rc_fib.specs.declared.stretch.Stretch.{Stretch}
use Rattle.rc_fib.specs.Entries.{gateway_of}
use Rattle.rc_fib.specs.Forwarding.{with_gateway, resolve_hop}

-- hops are told apart in a set as in the definitions
pub same_insert : (hops : List Hop) (x : Hop) → insert_key hop_impl.eq-value.it hops x ≡ insert_key same_hop hops x
same_insert hops x = ap (λ (test : Hop → Hop → Bool). insert_key test hops x) (λ i y z. same_test y z i)

-- what a hop resolves to, by its gateway
pub resolve_by_gateway : (hops : ℕ → List Hop) (hop : Hop) → resolve_hop hops hop ≡ elim (gateway_of hop) [ Some g ↦ map (with_gateway g) (hops g) | None ↦ hop ∷ [] ]
resolve_by_gateway hops Null = refl
resolve_by_gateway hops (Dev i) = refl
resolve_by_gateway hops (Via g None) = refl
resolve_by_gateway hops (Via g (Some i)) = refl

-- ---- prefixes and stretches

prefix-Decides : (p q : Cidr) → Decides (prefix_impl.eq-value.it p q) (p ≡ q)
prefix-Decides p q = search (rules, nat_tests)

-- the test of two lists of prefixes decides whether they are equal
pub prefixes_decide : (x y : List Cidr) → Decides (pointwise prefix_impl.eq-value.it x y) (x ≡ y)
prefixes_decide = pointwise_decides prefix-Decides

end-Decides : (m n : ℕ) → Decides (m == n) (m ≡ n)
end-Decides m n = search (rules, nat_tests)

stretch-Decides : (x y : Stretch) → Decides (stretch_impl.eq-value.it x y) (x ≡ y)
stretch-Decides x y =
    Decides-like _ (λ h. search rules) (λ e. search rules) (Decides-and _ _ (end-Decides x.end y.end) (same_hops-Decides x.hops y.hops))

-- so does that of two lists of stretches
pub stretches_decide : (x y : List Stretch) → Decides (pointwise stretch_impl.eq-value.it x y) (x ≡ y)
stretches_decide = pointwise_decides stretch-Decides
