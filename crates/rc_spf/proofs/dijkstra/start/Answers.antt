use Rattle.std.proofs.Common.{rules, List, Option, Some, set, ap}
use Rattle.std.specs.Prelude.{ℕ}
use Rattle.rc_spf.proofs.dijkstra.start.Goals as goal

pub returns : goal.returns
returns c = ap (λ (k : List (Option ℕ)). set k c.args.root (Some 0)) (c.in_ok-costs.ensures.items_if_clones_equal (search rules))
