-- The order of costs.
use Rattle.std.proofs.Common.{refl, ◌≡◌, ap}
use Rattle.std.specs.Cmp.{IsTotalOrder, on_total}
use Rattle.std.specs.Cmp.Lexicographic.{nat_list_cmp_total}
use Rattle.std.specs.Ordering.{ordering_then}
use Rattle.std.specs.declared.cmp.Ordering.{Ordering}
use Rattle.std.specs.declared.cmp.Ordering.TheVariants.{Less, Equal, Greater}
use Rattle.rc_external.specs.Costs.{cost_cmp, cost_key}

then_equal : (o : Ordering) → o ≡ ordering_then o Equal
then_equal Less = refl
then_equal Equal = refl
then_equal Greater = refl

-- three comparisons, one behind the other
pub three_in_row : (a b c : Ordering) → ordering_then a (ordering_then b c) ≡ ordering_then a (ordering_then b (ordering_then c Equal))
three_in_row a b c = ap (λ o. ordering_then a (ordering_then b o)) (then_equal c)

pub cost_cmp_total : IsTotalOrder cost_cmp
cost_cmp_total = on_total cost_key nat_list_cmp_total
