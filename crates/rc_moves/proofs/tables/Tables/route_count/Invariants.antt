use Rattle.std.proofs.Common.{◌≡◌, ◌+◌, List, length, drop}
use Rattle.std.specs.List.{fold}
use Rattle.rc_fib.specs.Entry.{Entry}
use Rattle.rc_moves.specs.Moves.{route_count}
use Rattle.rc_moves.proofs.tables.Tables.route_count.Given as goal

abbrev pub invariant-loop-fib : goal.invariant-loop-fib
invariant-loop-fib l = fold (λ n (t : List Entry). n + length t) l.count (drop l.fib-index l.fib-items) ≡ route_count l.self
