-- Graphs in which the first nodes alone cost something to enter: routers with the networks behind them, each edge turned round,
-- since what leads out of a network costs nothing (RFC 2328, section 2.1).
use Rattle.std.specs.Prelude.{ℕ, ◌*◌, ◌≤◌, nat_lt, if◌then◌else◌}
use Rattle.rc_spf.specs.Steps.{cost_to_enter}

-- one cost for the first n nodes, none for those behind them
abbrev pub first_cost : ℕ → ℕ → ℕ → ℕ
first_cost n most k = if nat_lt k n then most else 0

-- however many nodes there are, to enter each once costs no more than to enter the first ones
abbrev pub FirstNodesCost : Type 0
FirstNodesCost = (n most nodes : ℕ) → cost_to_enter (first_cost n most) 0 nodes ≤ n * most
