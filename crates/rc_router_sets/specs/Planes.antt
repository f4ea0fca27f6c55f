-- A data plane as the calls that are given one rely on it: of a lawful network, with its links and with tables in order.
use Rattle.std.specs.Prelude.{◌≡◌, All}
use Rattle.rc_config.specs.Lawful.{IsLawful}
use Rattle.rc_fib.specs.Entries.{IsFib}
use Rattle.rc_topology.specs.Ports.{links_of}
use Rattle.rc_moves.specs.Moves.{DataPlane}

-- what forwards packets in a lawful network: its own links, and tables in order
pub record IsPlane (plane : DataPlane) : Type 0 where
  pub lawful : IsLawful plane.network
  pub links : plane.links ≡ links_of plane.network
  pub fibs : All IsFib plane.fibs
