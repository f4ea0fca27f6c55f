use Rattle.std.proofs.Common.{◌≡◌, drop}
use Rattle.std.specs.List.{list_any}
use Rattle.rc_bgp.specs.Levels.{is_direct}
use Rattle.rc_bgp.proofs.reaching.some_direct.Given as goal

abbrev pub invariant-loop-addr : goal.invariant-loop-addr
invariant-loop-addr l = list_any (is_direct l.table) (drop l.addr-index l.addresses) ≡ list_any (is_direct l.table) l.addresses
