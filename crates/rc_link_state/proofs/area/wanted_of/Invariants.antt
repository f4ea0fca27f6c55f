use Rattle.std.proofs.Common.{◌≡◌, take, vec_len}
use Rattle.rc_link_state.specs.Areas.{HasEnds}
use Rattle.rc_link_state.proofs.area.wanted_of.Given as goal

abbrev pub invariant-loop-end : goal.invariant-loop-end
invariant-loop-end l = (vec_len l.wanted ≡ l.routers) × HasEnds l.area (take l.end-index l.ends) l.wanted.items
