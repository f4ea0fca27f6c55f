use Rattle.std.specs.Prelude.{ℕ, ◌<◌, IfSome}
use Rattle.rc_config.specs.Members.{router_at}
use Rattle.rc_rounds.specs.AtAddress.{AsksNoTable}
use Rattle.rc_rounds.proofs.at_address.none_ask_tables.Given as goal

abbrev pub invariant-loop-index : goal.invariant-loop-index
invariant-loop-index l = (r : ℕ) → r < l.index → IfSome (router_at l.net r) AsksNoTable
