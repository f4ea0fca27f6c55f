-- The test of two hops decides whether they are the same, and the derived `==` is that test.
use Rattle.std.proofs.Common.{◌≡◌, ap, Bool, List, Some, None, nat_eq, rules}
use Rattle.std.specs.Bool.{Decides}
use Rattle.std.specs.Ordering.{on}
use Rattle.std.specs.Cmp.Lexicographic.{pointwise, pointwise_decides, bytes_decides}
use Rattle.std.proofs.lemmas.Bool.Decides.{nat_tests, same_from_decides, Decides-like}
use Rattle.rc_route.specs.declared.route.Hop.{Hop}
use Rattle.rc_route.specs.declared.route.Hop.TheVariants.{Null, Dev, Via}
use Rattle.rc_route.specs.contracts.route.HopPartialEq.TheImpl as hop_impl
use Rattle.rc_route.specs.Hops.{same_hop, hop_key}
use Rattle.rc_route.proofs.KeyLaws.{same_by_key}

hop-Decides : (x y : Hop) → Decides (hop_impl.eq-value.it x y) (x ≡ y)
hop-Decides x y = search rules

pub same_hop-Decides : (x y : Hop) → Decides (same_hop x y) (x ≡ y)
same_hop-Decides Null Null = search rules
same_hop-Decides Null (Dev j) = search rules
same_hop-Decides Null (Via h None) = search rules
same_hop-Decides Null (Via h (Some j)) = search rules
same_hop-Decides (Dev i) Null = search rules
same_hop-Decides (Dev i) (Dev j) = search (rules, nat_tests)
same_hop-Decides (Dev i) (Via h None) = search rules
same_hop-Decides (Dev i) (Via h (Some j)) = search rules
same_hop-Decides (Via g None) Null = search rules
same_hop-Decides (Via g None) (Dev j) = search rules
same_hop-Decides (Via g None) (Via h None) = search (rules, nat_tests)
same_hop-Decides (Via g None) (Via h (Some j)) = search rules
same_hop-Decides (Via g (Some i)) Null = search rules
same_hop-Decides (Via g (Some i)) (Dev j) = search rules
same_hop-Decides (Via g (Some i)) (Via h None) = search rules
same_hop-Decides (Via g (Some i)) (Via h (Some j)) = search (rules, nat_tests)

-- the derived `==` of hops is the test of the definitions
pub same_test : (x y : Hop) → hop_impl.eq-value.it x y ≡ same_hop x y
same_test x y = same_from_decides _ _ (hop-Decides x y) (same_hop-Decides x y)

-- so is the test of their keys
keys-Decides : (x y : Hop) → Decides (on hop_key (pointwise nat_eq) x y) (x ≡ y)
keys-Decides x y = Decides-like _ (λ keys. same_by_key x y keys) (λ e. ap hop_key e) (bytes_decides (hop_key x) (hop_key y))

-- the test of two lists of hops, as the code makes it
pub same_tests : (xs ys : List Hop) → pointwise hop_impl.eq-value.it xs ys ≡ pointwise (on hop_key (pointwise nat_eq)) xs ys
same_tests xs ys = ap (λ (test : Hop → Hop → Bool). pointwise test xs ys) (λ i x y. same_from_decides _ _ (hop-Decides x y) (keys-Decides x y) i)

-- it decides whether they are the same
pub same_hops-Decides : (xs ys : List Hop) → Decides (pointwise (on hop_key (pointwise nat_eq)) xs ys) (xs ≡ ys)
same_hops-Decides = pointwise_decides keys-Decides

pub hops_decide : (xs ys : List Hop) → Decides (pointwise (on hop_key (pointwise nat_eq)) xs ys) (xs ≡ ys)
hops_decide = same_hops-Decides
