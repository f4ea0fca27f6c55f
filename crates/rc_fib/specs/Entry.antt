-- What a prepared table says of one route.
use Rattle.std.specs.Prelude.{List}
use Rattle.rc_base.specs.Prefix.{Cidr}
use Rattle.rc_route.specs.declared.route.Hop.{Hop}

-- its prefix, with the hops that it resolves to (RFC 1812 s.5.2.4.3)
pub record Entry : Type 0 where
  pub prefix : Cidr
  pub hops : List Hop
