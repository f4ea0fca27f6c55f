-- The orders of hops and of sources, by computation: of things that stand in their order each pair compares as its places do.
use Rattle.std.specs.Prelude.{◌≡◌, ℕ, List, [], ◌∷◌, map, Some, None, refl}
use Rattle.std.specs.List.{range_with_len}
use Rattle.std.specs.Ordering.{nat_cmp}
use Rattle.std.specs.declared.cmp.Ordering.{Ordering}
use Rattle.rc_base.specs.declared.position.IfId.{IfId}
use Rattle.rc_route.specs.Hops.{hop_cmp, source_rank}
use Rattle.rc_route.specs.Paths.{path_source_rank}
use Rattle.rc_route.specs.declared.path.PathSource.{PathSource}
use Rattle.rc_route.specs.declared.path.PathSource.TheVariants as path
use Rattle.rc_route.specs.declared.route.Hop.{Hop}
use Rattle.rc_route.specs.declared.route.Hop.TheVariants.{Null, Dev, Via}
use Rattle.rc_route.specs.declared.route.Source.{Source}
use Rattle.rc_route.specs.declared.route.Source.TheVariants as source

-- each of so many places, compared with each
abbrev places : ℕ → List (List Ordering)
places n = map (λ i. map (nat_cmp i) (range_with_len 0 n)) (range_with_len 0 n)

abbrev port : ℕ → IfId
port n = record { router = 0; index = n }

-- null, interfaces as declared, then gateways by address (10.0.0.1 and 192.168.0.1), each first without an interface
abbrev hops : List Hop
hops = Null ∷ Dev (port 0) ∷ Dev (port 2) ∷ Via 167772161 None ∷ Via 167772161 (Some (port 0)) ∷ Via 167772161 (Some (port 2)) ∷ Via 3232235521 None ∷ Via 3232235521 (Some (port 1)) ∷ []

pub hops_in_order : map (λ a. map (hop_cmp a) hops) hops ≡ places 8
hops_in_order = refl

abbrev sources : List Source
sources = source.Connected ∷ source.Static ∷ source.Ebgp ∷ source.Ospf ∷ source.OspfIa ∷ source.OspfE1 ∷ source.OspfE2 ∷ source.Ibgp ∷ []

pub sources_in_order : map (λ a. map (λ b. nat_cmp (source_rank a) (source_rank b)) sources) sources ≡ places 8
sources_in_order = refl

abbrev path_sources : List PathSource
path_sources = path.Network ∷ path.Connected ∷ path.Static ∷ path.Ospf ∷ path.External ∷ path.Internal ∷ []

pub path_sources_in_order : map (λ a. map (λ b. nat_cmp (path_source_rank a) (path_source_rank b)) path_sources) path_sources ≡ places 6
path_sources_in_order = refl
