-- The derived orders of hops and of sources are those of the definitions, and `hop_cmp` is an order that tells hops apart.
use Rattle.std.proofs.Common.{◌≡◌, rules}
use Rattle.std.specs.Ordering.{nat_cmp}
use Rattle.std.specs.declared.cmp.Ordering.TheVariants.{Equal}
use Rattle.std.specs.Cmp.{IsTotalOrder, on_total}
use Rattle.std.specs.Cmp.Lexicographic.{nat_list_cmp_total}
use Rattle.std.specs.FinMap.{slice_cmp-IsAntisymmetric, nat_cmp-IsAntisymmetric}
use Rattle.rc_route.specs.declared.route.Hop.{Hop}
use Rattle.rc_route.specs.declared.route.Source.{Source}
use Rattle.rc_route.specs.contracts.route.HopOrd.TheImpl as hop_impl
use Rattle.rc_route.specs.contracts.route.SourceOrd.TheImpl as source_impl
use Rattle.rc_route.specs.Hops.{hop_key, hop_cmp, source_rank}
use Rattle.rc_route.proofs.KeyLaws.{same_by_key}

-- the order of `Hop` as a key is that of a route's hops
pub hop_ord : (x y : Hop) → hop_impl.cmp-value.it x y ≡ hop_cmp x y
hop_ord x y = search rules

-- the order of `Source` is that of preference
pub source_ord : (x y : Source) → source_impl.cmp-value.it x y ≡ nat_cmp (source_rank x) (source_rank y)
source_ord x y = search rules

pub hop_cmp_total : IsTotalOrder hop_cmp
hop_cmp_total = on_total hop_key nat_list_cmp_total

-- hops that tie are the same
pub same_by_hop_cmp : (x y : Hop) → hop_cmp x y ≡ Equal → x ≡ y
same_by_hop_cmp x y e =
    let keys : hop_key x ≡ hop_key y = slice_cmp-IsAntisymmetric nat_cmp-IsAntisymmetric (hop_key x) (hop_key y) e in
    same_by_key x y keys
