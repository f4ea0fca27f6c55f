use Rattle.std.proofs.Common.{◌≡◌, ◌++◌, drop}
use Rattle.std.specs.List.{filter_map}
use Rattle.rc_external.specs.Origination.{redistributed}
use Rattle.rc_external.proofs.sending.add_of_routes.Given as goal

abbrev pub invariant-loop-route : goal.invariant-loop-route
invariant-loop-route l =
    l.all ++ filter_map (redistributed l.router l.file l.process l.paths) (drop l.route-index l.routes)
    ≡ l.initial.all ++ filter_map (redistributed l.router l.file l.process l.paths) l.routes
