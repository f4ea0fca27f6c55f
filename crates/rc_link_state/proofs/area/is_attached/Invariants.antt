use Rattle.std.proofs.Common.{◌≡◌, drop}
use Rattle.std.specs.List.{list_any}
use Rattle.rc_link_state.specs.Areas.{is_of}
use Rattle.rc_link_state.proofs.area.is_attached.Given as goal

abbrev pub invariant-loop-interface : goal.invariant-loop-interface
invariant-loop-interface l = list_any (is_of l.router) (drop l.interface-index l.attached) ≡ list_any (is_of l.router) l.attached
