-- The best path of a prefix, and the next hops that go with it.
use Rattle.std.specs.Prelude.{[]}
use Rattle.rc_route.specs.declared.best.Best.{Best}
use Rattle.rc_route.specs.declared.path.BgpPath.{BgpPath}

-- a best path without further next hops
abbrev pub alone : BgpPath → Best
alone x = record { path = x; also = [] }
