-- Worked cases of the routes of best paths, each by computation.
use Rattle.std.specs.Prelude.{◌≡◌, [], ◌∷◌, Option, Some, None, refl}
use Rattle.rc_route.specs.Best.{alone}
use Rattle.rc_route.specs.declared.path.BgpPath.{BgpPath}
use Rattle.rc_route.specs.declared.path.PathSource.TheVariants.{Network}
use Rattle.rc_route.specs.declared.route.Hop.TheVariants.{Via}
use Rattle.rc_route.specs.declared.route.Route.{Route}
use Rattle.rc_route.specs.declared.route.Source.TheVariants.{Ebgp, Ibgp}
use Rattle.rc_bgp_session.specs.Nets.{ip, subnet, ninth}
use Rattle.rc_bgp_session.specs.PassingRows.{from_peer, learned}
use Rattle.rc_bgp.specs.Learning.{learned_route}

abbrev route : BgpPath → Option Route
route x = learned_route (alone x)

pub external_route : route learned ≡ Some (record { prefix = subnet 9; source = Ebgp; distance = 20; metric = 50; hops = Via (ip 7 7) None ∷ [] })
external_route = refl

pub internal_route : route from_peer ≡ Some (record { prefix = subnet 9; source = Ibgp; distance = 200; metric = 50; hops = Via (ip 7 7) None ∷ [] })
internal_route = refl

pub own_path_gives_none : route (ninth 0 Network) ≡ None
own_path_gives_none = refl

-- with further next hops, by address, each once
pub over_three : learned_route (record { path = from_peer; also = ip 9 9 ∷ ip 7 7 ∷ ip 5 5 ∷ [] })
    ≡ Some (record { prefix = subnet 9; source = Ibgp; distance = 200; metric = 50; hops = Via (ip 5 5) None ∷ Via (ip 7 7) None ∷ Via (ip 9 9) None ∷ [] })
over_three = refl
