-- The order of the sources of BGP paths, and a path for another prefix.
use Rattle.std.specs.Prelude.{ℕ}
use Rattle.rc_base.specs.Prefix.{Cidr}
use Rattle.rc_route.specs.declared.path.BgpPath.{BgpPath}
use Rattle.rc_route.specs.declared.path.PathSource.{PathSource}
use Rattle.rc_route.specs.declared.path.PathSource.TheVariants.{Network, Connected, Static, Ospf, External, Internal}

-- which of a router's own paths is preferred where all else is equal, the least first: a line `network`, then redistribution of
-- connected, static and OSPF routes; behind them what peers sent, from another AS first
abbrev pub path_source_rank : PathSource → ℕ
path_source_rank Network = 0
path_source_rank Connected = 1
path_source_rank Static = 2
path_source_rank Ospf = 3
path_source_rank External = 4
path_source_rank Internal = 5

-- the same path for another prefix: all its attributes stay (RFC 4271 s.5)
abbrev pub for_prefix : Cidr → BgpPath → BgpPath
for_prefix p x = record x { prefix = p }
