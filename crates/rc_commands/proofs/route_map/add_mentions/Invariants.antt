use Rattle.std.proofs.Common.{◌≡◌, ◌++◌, take}
use Rattle.rc_config.specs.RouteMap.{mentions}
use Rattle.rc_commands.proofs.route_map.add_mentions.Given as goal

-- the names so far stand behind the others
abbrev pub invariant-loop-name : goal.invariant-loop-name
invariant-loop-name l = l.known ≡ l.fn.known ++ mentions (take l.name-index l.fn.names) l.fn.line
