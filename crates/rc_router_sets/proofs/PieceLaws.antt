-- The sets of destinations as joins of chains of prefixes.
use Rattle.std.proofs.Common.{refl, ◌≡◌, ap, sym, ◌∙◌, ℕ, ◌+◌, ◌<◌, List, [], ◌∷◌, ◌++◌, append_assoc, append-nil, length, map, take, get_or, Option, Some, None}
use Rattle.std.proofs.lemmas.List.{map_more}
use Rattle.std.specs.List.{flat_map}
use Rattle.std.specs.Option.{option_map_or}
use Rattle.rc_base.specs.Prefix.{prefix_at}
use Rattle.rc_base.specs.declared.position.IfId.{IfId}
use Rattle.rc_router_sets.proofs.JoinLaws.{taken_here, union-map}
use Rattle.rc_router_sets.specs.Made.{hosts_by_port, owned_at}
use Rattle.rc_router_sets.specs.Sent.{addresses_at, addresses_of, prefixes_by_address, taken, to_interface, to_router, to_subnets}
use Rattle.rc_topology.specs.Links.{linked, port_at, ports_at}
use Rattle.rc_topology.specs.declared.port.Port.{Port}
use Rattle.rc_topology.specs.declared.port.PortAddr.{PortAddr}
use Rattle.rc_trees.specs.Fields.{chain}
use Rattle.rc_trees.specs.Recipes.{given, union_of}
use Rattle.rc_trees.specs.Trees.{never}
use Rattle.rc_moves.specs.Moves.{DataPlane}

map-append : {A B : Type 0} (f : A → B) (xs ys : List A) → map f (xs ++ ys) ≡ map f xs ++ map f ys
map-append f [] ys = refl
map-append f (x ∷ xs) ys = ap (λ zs. f x ∷ zs) (map-append f xs ys)

hosts : (xs : List PortAddr) → map (λ (a : PortAddr). prefix_at a.addr 32) xs ≡ map (λ a. prefix_at a 32) (map (λ (a : PortAddr). a.addr) xs)
hosts [] = refl
hosts (x ∷ xs) = ap (λ ys. prefix_at x.addr 32 ∷ ys) (hosts xs)

hosts_of_ports : (ps : List Port) → flat_map hosts_by_port ps ≡ map (λ a. prefix_at a 32) (flat_map addresses_of ps)
hosts_of_ports [] = refl
hosts_of_ports (p ∷ ps) = (λ i. hosts p.addresses i ++ hosts_of_ports ps i) ∙ sym (map-append (λ a. prefix_at a 32) (addresses_of p) (flat_map addresses_of ps))

module _ (plane : DataPlane) where
  pub router_is : (r : ℕ) → union_of chain (flat_map hosts_by_port (ports_at plane.links r)) ≡ to_router plane r
  unfolding to_router
  router_is r = ap (union_of chain) (hosts_of_ports (ports_at plane.links r)) ∙ union-map chain (λ a. prefix_at a 32) (flat_map addresses_of (ports_at plane.links r))

  owned : (o : Option Port) → map (λ (a : PortAddr). a.addr) (option_map_or (λ (p : Port). p.addresses) o []) ≡ option_map_or addresses_of o []
  owned None = refl
  owned (Some p) = refl

  prefixed : (o : Option Port) → map (λ (a : PortAddr). a.prefix) (option_map_or (λ (p : Port). p.addresses) o []) ≡ option_map_or prefixes_by_address o []
  prefixed None = refl
  prefixed (Some p) = refl

  pub interface_is : (i : IfId) → union_of chain (map (λ (a : PortAddr). prefix_at a.addr 32) (owned_at plane i)) ≡ to_interface plane i
  unfolding to_interface
  interface_is i =
      ap (union_of chain) (hosts (owned_at plane i) ∙ ap (map (λ a. prefix_at a 32)) (owned (port_at plane.links i)))
      ∙ union-map chain (λ a. prefix_at a 32) (addresses_at plane i)

  pub subnets_are : (i : IfId) → union_of chain (map (λ (a : PortAddr). a.prefix) (owned_at plane i)) ≡ to_subnets plane i
  unfolding to_subnets
  subnets_are i = ap (union_of chain) (prefixed (port_at plane.links i))

  pub taken_is : (i : IfId) → union_of (to_interface plane) (linked plane.links i) ≡ taken plane i
  unfolding taken
  taken_is i = refl

hosts_append : (xs ys : List Port) → flat_map hosts_by_port (xs ++ ys) ≡ flat_map hosts_by_port xs ++ flat_map hosts_by_port ys
hosts_append [] ys = refl
hosts_append (x ∷ xs) ys = ap (λ zs. hosts_by_port x ++ zs) (hosts_append xs ys) ∙ sym (append_assoc (hosts_by_port x) (flat_map hosts_by_port xs) (flat_map hosts_by_port ys))

-- those of one interface more
pub hosts_more : (ps : List Port) (k : ℕ) (p : Port) → p ≡ get_or ps k p → k < length ps → flat_map hosts_by_port (take k ps) ++ hosts_by_port p ≡ flat_map hosts_by_port (take (k + 1) ps)
hosts_more ps k p is less =
    ap (λ xs. flat_map hosts_by_port (take k ps) ++ xs) (sym (append-nil (hosts_by_port p)))
    ∙ sym (hosts_append (take k ps) (p ∷ []))
    ∙ ap (flat_map hosts_by_port) (sym (taken_here (λ (x : Port). given never) ps k p is less))

-- each of some things in a row made into another, and one more
pub mapped_more : {A B : Type 0} (f : A → B) (xs : List A) (k : ℕ) (x : A) → x ≡ get_or xs k x → k < length xs → map f (take k xs) ++ f x ∷ [] ≡ map f (take (k + 1) xs)
mapped_more f xs k x is less = ap (λ y. map f (take k xs) ++ f y ∷ []) is ∙ sym (map_more f xs k x less)
