use Rattle.std.proofs.Common.{◌≡◌, ◌++◌, drop, filter}
use Rattle.rc_link_state.specs.HopsBy.{leaves_by}
use Rattle.rc_link_state.proofs.leading.sources_of.Given as goal

abbrev pub invariant-loop-source : goal.invariant-loop-source
invariant-loop-source l = l.found ++ filter (leaves_by l.router l.left l.cost) (drop l.source-index l.attached) ≡ filter (leaves_by l.router l.left l.cost) l.attached
