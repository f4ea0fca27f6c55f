use Rattle.std.proofs.Common.{◌≡◌, drop}
use Rattle.std.specs.List.{list_any}
use Rattle.rc_ospf.specs.Members.{are_border}
use Rattle.rc_ospf.proofs.asked.has_border.Given as goal

abbrev pub invariant-loop-own : goal.invariant-loop-own
invariant-loop-own l = list_any are_border (drop l.own-index l.areas) ≡ list_any are_border l.areas
