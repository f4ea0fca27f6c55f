use Rattle.std.proofs.Common.{◌≡◌, drop, map}
use Rattle.std.specs.List.{fold}
use Rattle.std.specs.BTreeSet.{keys, insert_key}
use Rattle.rc_base.specs.Lists.{in_order}
use Rattle.rc_base.specs.Prefix.{prefix_cmp}
use Rattle.rc_ospf.specs.Routes.{advert_prefix}
use Rattle.rc_ospf.proofs.own.prefix_set.Given as goal

abbrev pub invariant-loop-advert : goal.invariant-loop-advert
invariant-loop-advert l = fold (insert_key prefix_cmp) (keys l.set) (map advert_prefix (drop l.advert-index l.adverts)) ≡ in_order prefix_cmp (map advert_prefix l.adverts)
