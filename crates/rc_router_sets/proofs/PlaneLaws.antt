-- What the laws need of a plane.
use Rattle.std.proofs.Common.{refl, ◌≡◌, ap, sym, ◌∙◌, subst, ℕ, zero, suc, ◌≤◌, Bool, true, false, cond, List, [], ◌∷◌, ◌++◌, map, Option, Some, None}
use Rattle.std.specs.Prelude.{unwrap_or}
use Rattle.std.specs.List.{AllByRecursion, slice_get}
use Rattle.std.specs.List.Sorted.{IsStrictlySortedBy}
use Rattle.std.specs.Option.{option_map, option_map_or}
use Rattle.std.proofs.lemmas.List.Elements.{All-from_recursion, recursion_from_All}
use Rattle.std.proofs.lemmas.Option.{slice_get-map}
use Rattle.rc_base.specs.Prefix.{Cidr, IsCidr}
use Rattle.rc_base.specs.declared.position.IfId.{IfId}
use Rattle.rc_config.specs.Down.{is_down, prefix_of, prefixes_of}
use Rattle.rc_config.specs.Interface.{declared_addresses}
use Rattle.rc_config.specs.Lawful.{IsLawful, IsLawfulFile}
use Rattle.rc_config.specs.LawfulInterface.{IsLawfulInterface}
use Rattle.rc_config.specs.MaskedAddr.{IsMaskLen}
use Rattle.rc_config.specs.Members.{interface_at, interfaces_of}
use Rattle.rc_config.specs.declared.interface.IfAddr.{IfAddr}
use Rattle.rc_config.specs.declared.interface.Interface.{Interface}
use Rattle.rc_config.specs.declared.network.Network.{Network}
use Rattle.rc_config.specs.declared.router_text.RouterText.{RouterText}
use Rattle.rc_fib.specs.Entries.{IsFib}
use Rattle.rc_fib.specs.Entry.{Entry}
use Rattle.rc_topology.specs.Links as topology
use Rattle.rc_topology.specs.Ports.{block_addresses, links_of, port_addr, port_of, ports_of}
use Rattle.rc_topology.specs.Topology.{Topology}
use Rattle.rc_topology.specs.declared.port.Port.{Port}
use Rattle.rc_topology.specs.declared.port.PortAddr.{PortAddr}
use Rattle.rc_moves.specs.Moves.{DataPlane, fib_of}
use Rattle.rc_router_sets.specs.Planes.{IsPlane}
use Rattle.rc_router_sets.specs.Sent.{prefixes_at, prefixes_by_address}

-- ---- lists

at_place : {A : Type 0} (P : A → Type 0) (xs : List A) (n : ℕ) (Q : Option A → Type 0) → Q None → ((x : A) → P x → Q (Some x)) → AllByRecursion P xs → Q (slice_get xs n)
at_place P [] n Q none some all = none
at_place P (x ∷ xs) zero Q none some all = some x all.0
at_place P (x ∷ xs) (suc n) Q none some all = at_place P xs n Q none some all.1

all-map : {A B : Type 0} (P : A → Type 0) (Q : B → Type 0) (f : A → B) → ((x : A) → P x → Q (f x)) → (xs : List A) → AllByRecursion P xs → AllByRecursion Q (map f xs)
all-map P Q f each [] all = tt
all-map P Q f each (x ∷ xs) all = (each x all.0, all-map P Q f each xs all.1)

-- ---- the interfaces of a network

module _ (net : Network) where
  pub ports : (r : ℕ) → topology.ports_at (links_of net) r ≡ map (port_of (interfaces_of net r)) (interfaces_of net r)
  unfolding links_of
  ports r = ap (λ o. option_map_or (λ (ports : List Port). ports) o []) (slice_get-map (λ (e : List ℕ × RouterText). ports_of e.1) net.routers r) ∙ at (slice_get net.routers r)
    where
      at : (o : Option (List ℕ × RouterText)) → option_map_or (λ (ports : List Port). ports) (option_map (λ e. ports_of e.1) o) []
          ≡ map (port_of (option_map_or (λ (text : RouterText). text.interfaces) (option_map (λ e. e.1) o) [])) (option_map_or (λ (text : RouterText). text.interfaces) (option_map (λ e. e.1) o) [])
      at None = refl
      at (Some e) = refl

  pub port : (i : IfId) → topology.port_at (links_of net) i ≡ option_map (port_of (interfaces_of net i.router)) (interface_at net i)
  port i = ap (λ (ps : List Port). slice_get ps i.index) (ports i.router) ∙ slice_get-map (port_of (interfaces_of net i.router)) (interfaces_of net i.router) i.index

-- ---- prefixes of interfaces

secondaries : (xs : List IfAddr) → map (λ (a : PortAddr). a.prefix) (map (port_addr false) xs) ≡ map prefix_of xs
secondaries [] = refl
secondaries (x ∷ xs) = ap (λ ps. prefix_of x ∷ ps) (secondaries xs)

of_block : (o : Option IfAddr) (xs : List IfAddr) → map (λ (a : PortAddr). a.prefix) (option_map_or (λ a. port_addr true a ∷ []) o [] ++ map (port_addr false) xs) ≡ map prefix_of (option_map_or (λ a. a ∷ []) o [] ++ xs)
of_block None xs = secondaries xs
of_block (Some a) xs = ap (λ ps. prefix_of a ∷ ps) (secondaries xs)

-- the prefixes of an interface in the order of its addresses are those that its block gives while it is up
by_address : (entries : List (List ℕ × Interface)) (e : List ℕ × Interface) → prefixes_by_address (port_of entries e) ≡ prefixes_of entries e
by_address entries e = by (is_down entries e.0)
  where
    by : (b : Bool) → map (λ (a : PortAddr). a.prefix) (cond b [] (block_addresses e.1)) ≡ cond b [] (map prefix_of (declared_addresses e.1))
    by true = refl
    by false = of_block e.1.primary e.1.secondary

-- those that its block gives while it is up, as written
abbrev pub as_written : Network → IfId → List Cidr
as_written net i = option_map_or (λ e. prefixes_of (interfaces_of net i.router) e) (interface_at net i) []

abbrev pub IsShort : Cidr → Type 0
IsShort p = p.len ≤ 32

abbrev HasMasks : List ℕ × Interface → Type 0
HasMasks e = AllByRecursion (λ (a : IfAddr). IsMaskLen a.len) (declared_addresses e.1)

module _ (net : Network) (lawful : IsLawful net) where
  masks_of : (text : RouterText) → IsLawfulFile text → AllByRecursion HasMasks text.interfaces
  masks_of text file = at text.interfaces (recursion_from_All (λ e. IsLawfulInterface e.0 e.1) text.interfaces file.interfaces)
    where
      at : (es : List (List ℕ × Interface)) → AllByRecursion (λ e. IsLawfulInterface e.0 e.1) es → AllByRecursion HasMasks es
      at [] all = tt
      at (e ∷ es) all = (recursion_from_All (λ (a : IfAddr). IsMaskLen a.len) (declared_addresses e.1) all.0.masks, at es all.1)

  masks : (r : ℕ) → AllByRecursion HasMasks (interfaces_of net r)
  masks r =
      at_place (λ (e : List ℕ × RouterText). IsLawfulFile e.1) net.routers r (λ o. AllByRecursion HasMasks (option_map_or (λ (text : RouterText). text.interfaces) (option_map (λ e. e.1) o) [])) tt (λ e file. masks_of e.1 file)
      (recursion_from_All (λ (e : List ℕ × RouterText). IsLawfulFile e.1) net.routers lawful.each)

  short_of : (entries : List (List ℕ × Interface)) (e : List ℕ × Interface) → HasMasks e → AllByRecursion IsShort (prefixes_of entries e)
  short_of entries e ok = by (is_down entries e.0)
    where
      by : (b : Bool) → AllByRecursion IsShort (cond b [] (map prefix_of (declared_addresses e.1)))
      by true = tt
      by false = all-map (λ (a : IfAddr). IsMaskLen a.len) IsShort prefix_of (λ a mask. mask.1) (declared_addresses e.1) ok

  short_as_written : (i : IfId) → AllByRecursion IsShort (as_written net i)
  short_as_written i = at_place HasMasks (interfaces_of net i.router) i.index (λ o. AllByRecursion IsShort (option_map_or (λ e. prefixes_of (interfaces_of net i.router) e) o [])) tt (short_of (interfaces_of net i.router)) (masks i.router)

module _ (plane : DataPlane) (ok : IsPlane plane) where
  pub prefixes_are : (i : IfId) → prefixes_at plane i ≡ as_written plane.network i
  prefixes_are i =
      ap (λ (l : Topology). option_map_or prefixes_by_address (topology.port_at l i) []) ok.links
      ∙ ap (λ o. option_map_or prefixes_by_address o []) (port plane.network i)
      ∙ at (interface_at plane.network i)
    where
      at : (o : Option (List ℕ × Interface)) → option_map_or prefixes_by_address (option_map (port_of (interfaces_of plane.network i.router)) o) [] ≡ option_map_or (λ e. prefixes_of (interfaces_of plane.network i.router) e) o []
      at None = refl
      at (Some e) = by_address (interfaces_of plane.network i.router) e

  -- no prefix of an interface has more than 32 bits
  pub short_prefixes : (i : IfId) → AllByRecursion IsShort (prefixes_at plane i)
  short_prefixes i = subst (AllByRecursion IsShort) (sym (prefixes_are i)) (short_as_written plane.network ok.lawful i)

-- ---- tables

none_in_order : IsFib []
unfolding IsStrictlySortedBy
none_in_order = record { sorted = tt; canonical = All-from_recursion (λ (e : Entry). IsCidr e.prefix) [] tt }

-- the table of a router is in order
pub fib_in_order : (plane : DataPlane) → IsPlane plane → (r : ℕ) → IsFib (fib_of plane r)
fib_in_order plane ok r = at_place IsFib plane.fibs r (λ o. IsFib (unwrap_or o [])) none_in_order (λ fib ordered. ordered) (recursion_from_All IsFib plane.fibs ok.fibs)
