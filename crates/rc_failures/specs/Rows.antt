-- Worked cases of the definitions, each by computation.
use Rattle.std.specs.Prelude.{ℕ, false, [], refl}
use Rattle.rc_base.specs.declared.ending.Ends.{Ends}
use Rattle.rc_base.specs.declared.header.Header.{Header}
use Rattle.rc_base.specs.declared.position.Pos.{Pos}
use Rattle.rc_config.specs.Cuts.{uncut}
use Rattle.rc_config.specs.declared.network.Network.{Network}
use Rattle.rc_route.specs.declared.outcome.Outcome.TheVariants.{Repeats, Limit}
use Rattle.rc_topology.specs.Ports.{links_of}
use Rattle.rc_failures.specs.Failures.{AreFailures, IsArrival}

-- a network without links has no row
pub no_link : (limit : ℕ) (place : Pos) (h : Header) (ends : Ends) → AreFailures (uncut []) limit place h ends []
unfolding links_of
no_link limit place h ends = tt

-- where the rounds repeat the packet doesn't arrive, whatever the tables of the last one say
pub repeating : (net : Network) (place : Pos) (h : Header) (ends : Ends) → IsArrival net place h ends (Repeats 4 7) false
repeating net place h ends = refl

-- nor does it where they reach the limit
pub at_the_limit : (net : Network) (place : Pos) (h : Header) (ends : Ends) → IsArrival net place h ends (Limit 3) false
at_the_limit net place h ends = refl
