use Rattle.std.proofs.Common.{◌≡◌, ◌++◌, map}
use Rattle.rc_base.specs.Lists.{in_order}
use Rattle.rc_base.specs.Prefix.{prefix_cmp}
use Rattle.rc_ospf.specs.Routes.{advert_prefix}
use Rattle.rc_ospf.proofs.own.prefixes_of.Given as goal

abbrev pub invariant-loop-prefix : goal.invariant-loop-prefix
invariant-loop-prefix l = l.prefixes ++ l.prefix-iterator ≡ in_order prefix_cmp (map advert_prefix l.adverts)
