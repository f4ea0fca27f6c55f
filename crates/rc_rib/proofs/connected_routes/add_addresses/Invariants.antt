use Rattle.std.proofs.Common.{◌≡◌, map, drop}
use Rattle.std.specs.List.{fold}
use Rattle.rc_base.specs.Index.{with_member}
use Rattle.rc_config.specs.Down.{prefix_of}
use Rattle.rc_rib.proofs.connected_routes.add_addresses.Given as goal

abbrev pub invariant-loop-address : goal.invariant-loop-address
invariant-loop-address l =
    fold (λ rows p. with_member rows p l.id) l.index (map prefix_of (drop l.address-index l.addresses)) ≡ fold (λ rows p. with_member rows p l.id) l.fn.index (map prefix_of l.addresses)
