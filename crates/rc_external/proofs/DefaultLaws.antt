-- The first default route of a table is the one of just that prefix.
use Rattle.std.proofs.Common.{refl, ◌≡◌, ap, ◌∙◌, cond, List, [], ◌∷◌, Some}
use Rattle.std.specs.List.{find}
use Rattle.std.specs.Ordering.{is_eq, ordering_reverse}
use Rattle.std.specs.declared.cmp.Ordering.{Ordering}
use Rattle.std.specs.declared.cmp.Ordering.TheVariants.{Less, Equal, Greater}
use Rattle.rc_base.specs.Prefix.{Cidr, default_prefix, is_default, prefix_cmp, same_prefix}
use Rattle.rc_base.proofs.OrderedLaws.{prefix_cmp_total}
use Rattle.rc_route.specs.Tables.{listed_at}
use Rattle.rc_route.specs.declared.route.Route.{Route}

reversed : (o : Ordering) → is_eq (ordering_reverse o) ≡ is_eq o
reversed Less = refl
reversed Equal = refl
reversed Greater = refl

-- the other way round they are one as well
turned : (p q : Cidr) → same_prefix p q ≡ same_prefix q p
turned p q = ap is_eq (prefix_cmp_total.antisymm p q) ∙ reversed (prefix_cmp q p)

pub default_is : (table : List Route) → listed_at (λ (x : Route). x.prefix) table default_prefix ≡ find (λ (x : Route). is_default x.prefix) table
default_is [] = refl
default_is (x ∷ xs) =
    ap (λ b. cond b (Some x) (listed_at (λ (y : Route). y.prefix) xs default_prefix)) (turned default_prefix x.prefix)
    ∙ ap (cond (is_default x.prefix) (Some x)) (default_is xs)
