-- What a router advertises itself is in order.
use Rattle.std.proofs.Common.{sym, subst, All, get_or, map}
use Rattle.std.specs.List.{flat_map}
use Rattle.std.specs.List.Sorted.{IsStrictlySortedBy}
use Rattle.std.proofs.lemmas.List.Elements.{All-map}
use Rattle.rc_base.specs.Prefix.{prefix_cmp}
use Rattle.rc_base.proofs.OrderedLaws.{in_order-sorted, prefix_cmp_total}
use Rattle.rc_config.specs.Members.{router_ids}
use Rattle.rc_config.specs.declared.network.Network.{Network}
use Rattle.rc_ospf.specs.Adverts.{adverts_of}
use Rattle.rc_ospf.specs.Internal.{IsInternal}
use Rattle.rc_ospf.specs.Routes.{advert_prefix, own_prefixes}
use Rattle.rc_ospf.specs.declared.model.Internal.{Internal}
use Rattle.rc_ospf_interfaces.specs.Interfaces.{interfaces_at}

-- the prefixes that routers advertise themselves stand in order
pub own_in_order : (net : Network) (i : Internal) → IsInternal net i → All (IsStrictlySortedBy prefix_cmp) i.own
own_in_order net i is =
    subst (All (IsStrictlySortedBy prefix_cmp)) (sym is.own)
    (All-map (IsStrictlySortedBy prefix_cmp) (own_prefixes net) (router_ids net) (λ k d less. in_order-sorted prefix_cmp prefix_cmp_total (map advert_prefix (flat_map (adverts_of net) (interfaces_at net (get_or (router_ids net) k d))))))
