-- The derived `==` of routes and paths decides equality.
use Rattle.std.proofs.Common.{◌≡◌, ◌&&◌, ◌==◌, rules}
use Rattle.std.specs.Bool.{Decides}
use Rattle.std.proofs.lemmas.Bool.Decides.{nat_tests, Decides-eqb, Decides-and, Decides-like}
use Rattle.std.specs.Cmp.Lexicographic.{bytes_decides}
use Rattle.rc_base.specs.Prefix.{Cidr}
use Rattle.rc_base.specs.declared.origin.Origin.{Origin}
use Rattle.rc_base.specs.contracts.origin.OriginPartialEq.TheImpl as origin_impl
use Rattle.rc_route.proofs.HopLaws.{same_hops-Decides}
use Rattle.rc_route.specs.declared.path.BgpPath.{BgpPath}
use Rattle.rc_route.specs.declared.path.PathSource.{PathSource}
use Rattle.rc_route.specs.declared.route.Route.{Route}
use Rattle.rc_route.specs.declared.route.Source.{Source}
use Rattle.rc_route.specs.contracts.path.BgpPathPartialEq.TheImpl as path_impl
use Rattle.rc_route.specs.contracts.path.PathSourcePartialEq.TheImpl as path_source_impl
use Rattle.rc_route.specs.contracts.route.RoutePartialEq.TheImpl as route_impl
use Rattle.rc_route.specs.contracts.route.SourcePartialEq.TheImpl as source_impl

source-Decides : (x y : Source) → Decides (source_impl.eq-value.it x y) (x ≡ y)
source-Decides x y = search rules

origin-Decides : (x y : Origin) → Decides (origin_impl.eq-value.it x y) (x ≡ y)
origin-Decides x y = search rules

path_source-Decides : (x y : PathSource) → Decides (path_source_impl.eq-value.it x y) (x ≡ y)
path_source-Decides x y = search rules

prefix-Decides : (p q : Cidr) → Decides ((p.network == q.network) && (p.len == q.len)) (p ≡ q)
prefix-Decides p q = search (rules, nat_tests)

-- the test of two routes decides whether they are equal
pub route_decides : (x y : Route) → Decides (route_impl.eq-value.it x y) (x ≡ y)
route_decides x y =
    Decides-like _ (λ h. search rules) (λ e. search rules)
    (Decides-and _ _ (prefix-Decides x.prefix y.prefix) (Decides-and _ _ (source-Decides x.source y.source) (Decides-and _ _ (Decides-eqb x.distance y.distance) (Decides-and _ _ (Decides-eqb x.metric y.metric) (same_hops-Decides x.hops y.hops)))))

-- the test of two paths decides whether they are equal
pub path_decides : (x y : BgpPath) → Decides (path_impl.eq-value.it x y) (x ≡ y)
path_decides x y =
    Decides-like _ (λ h. search rules) (λ e. search rules)
    (Decides-and _ _ (prefix-Decides x.prefix y.prefix) (Decides-and _ _ (Decides-eqb x.next_hop y.next_hop) (Decides-and _ _ (Decides-eqb x.med y.med) (Decides-and _ _ (Decides-eqb x.local_preference y.local_preference) (Decides-and _ _ (Decides-eqb x.weight y.weight) (Decides-and _ _ (Decides-eqb x.sender_id y.sender_id) (Decides-and _ _ (Decides-eqb x.neighbor y.neighbor) (Decides-and _ _ (Decides-eqb x.igp_metric y.igp_metric) (Decides-and _ _ (origin-Decides x.origin y.origin) (Decides-and _ _ (path_source-Decides x.source y.source) (Decides-and _ _ (Decides-eqb x.sender y.sender) (Decides-and _ _ (bytes_decides x.communities y.communities) (bytes_decides x.as_path y.as_path)))))))))))))
