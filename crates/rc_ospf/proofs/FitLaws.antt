-- The OSPF interfaces of a network are those of its routers, at costs from 1 to 65,535.
use Rattle.std.proofs.Common.{◌≡◌, ℕ, zero, suc, ◌+◌, ◌<◌, ◌≤◌, min, max, Bool, true, false, cond, List, [], ◌∷◌, ◌++◌, length, Option, Some, None, All, sym, subst, refl, arith}
use Rattle.std.specs.Prelude.{slice_get, option_and_then}
use Rattle.std.specs.List.{AllByRecursion, filter_map, flat_map, cons_option, range_with_len}
use Rattle.std.specs.Option.{option_map, option_map_or}
use Rattle.std.proofs.lemmas.Grind.{common_steps}
use Rattle.rc_base.specs.declared.position.IfId.{IfId}
use Rattle.rc_config.specs.Down.{Entries, is_down}
use Rattle.rc_config.specs.Members.{router_at, router_ids}
use Rattle.rc_config.specs.declared.interface.IfAddr.{IfAddr}
use Rattle.rc_config.specs.declared.interface.Interface.{Interface}
use Rattle.rc_config.specs.declared.network.Network.{Network}
use Rattle.rc_config.specs.declared.ospf.OspfProcess.{OspfProcess}
use Rattle.rc_config.specs.declared.router_text.RouterText.{RouterText}
use Rattle.rc_ospf_interfaces.specs.Interfaces.{area_of, ospf_interface, interface_on, interface_at, interfaces_of, interfaces_at, ospf_interfaces}
use Rattle.rc_link_state.specs.Tables.{IsFit}
use Rattle.rc_ospf_interfaces.specs.declared.interface.OspfInterface.{OspfInterface}

at_least : (x : ℕ) → 1 ≤ min 65535 (max 1 x)
at_least x = grind (arith, common_steps)

at_most : (x : ℕ) → min 65535 (max 1 x) ≤ 65535
at_most x = grind (arith, common_steps)

made_fit : (n : ℕ) (p : OspfProcess) (id : IfId) (name : List ℕ) (block : Interface) (primary : IfAddr) (area : ℕ) → id.router < n → IsFit n (ospf_interface p id name block primary area)
made_fit n p id name block primary area lt = record { router = lt; least = at_least _; most = at_most _ }

-- what holds of all that are made for an id holds of the one there
module _ (P : OspfInterface → Type 0) (p : OspfProcess) where
  made_on : (entries : Entries) (id : IfId) → ((name : List ℕ) (block : Interface) (primary : IfAddr) (area : ℕ) → P (ospf_interface p id name block primary area)) →
      (e : List ℕ × Interface) (i : OspfInterface) → interface_on entries p id e ≡ Some i → P i
  made_on entries id each e i is = by_down (is_down entries e.0) is
    where
      by_area : (primary : IfAddr) (area : Option ℕ) → option_map (ospf_interface p id e.0 e.1 primary) area ≡ Some i → P i
      by_area primary None is = absurd (cc)
      by_area primary (Some area) is = subst P (let same : ospf_interface p id e.0 e.1 primary area ≡ i = cc in same) (each e.0 e.1 primary area)

      by_primary : (primary : Option IfAddr) → option_and_then (λ (a : IfAddr). option_map (ospf_interface p id e.0 e.1 a) (area_of p e.1.ospf a.addr)) primary ≡ Some i → P i
      by_primary None is = absurd (cc)
      by_primary (Some a) is = by_area a (area_of p e.1.ospf a.addr) is

      by_down : (b : Bool) → cond b None (option_and_then (λ (a : IfAddr). option_map (ospf_interface p id e.0 e.1 a) (area_of p e.1.ospf a.addr)) e.1.primary) ≡ Some i → P i
      by_down true is = absurd (cc)
      by_down false is = by_primary e.1.primary is

  pub made_at : (r : ℕ) (entries : Entries) (index : ℕ) → ((name : List ℕ) (block : Interface) (primary : IfAddr) (area : ℕ) → P (ospf_interface p (record { router = r; index = index }) name block primary area)) →
      (i : OspfInterface) → interface_at r entries p index ≡ Some i → P i
  made_at r entries index each i is = by (slice_get entries index) is
    where
      by : (o : Option (List ℕ × Interface)) → option_and_then (interface_on entries p (record { router = r; index = index })) o ≡ Some i → P i
      by None is = absurd (cc)
      by (Some e) is = made_on entries (record { router = r; index = index }) each e i is

all_filter_map : {X Y : Type 0} (P : Y → Type 0) (f : X → Option Y) → ((x : X) (y : Y) → f x ≡ Some y → P y) → (xs : List X) → AllByRecursion P (filter_map f xs)
all_filter_map P f each [] = tt
all_filter_map {X} {Y} P f each (x ∷ xs) = by (f x) refl (all_filter_map P f each xs)
  where
    by : (o : Option Y) → f x ≡ o → AllByRecursion P (filter_map f xs) → AllByRecursion P (cons_option o (filter_map f xs))
    by None is rest = rest
    by (Some y) is rest = (each x y is, rest)

all_append : {X : Type 0} (P : X → Type 0) (xs ys : List X) → AllByRecursion P xs → AllByRecursion P ys → AllByRecursion P (xs ++ ys)
all_append P [] ys all all' = all'
all_append P (x ∷ xs) ys all all' = (all.0, all_append P xs ys all.1 all')

all_flat_map : {X Y : Type 0} (P : Y → Type 0) (Q : X → Type 0) (f : X → List Y) → ((x : X) → Q x → AllByRecursion P (f x)) → (xs : List X) → AllByRecursion Q xs → AllByRecursion P (flat_map f xs)
all_flat_map P Q f each [] all = tt
all_flat_map P Q f each (x ∷ xs) all = all_append P (f x) (flat_map f xs) (each x all.0) (all_flat_map P Q f each xs all.1)

range_below : (n i k : ℕ) → i + k ≤ n → AllByRecursion (λ r. r < n) (range_with_len i k)
range_below n i zero le = tt
range_below n i (suc k) le = (omega arith, range_below n (i + 1) k (omega arith))

interfaces_fit : (net : Network) → AllByRecursion (IsFit (length net.routers)) (ospf_interfaces net)
unfolding ospf_interfaces
interfaces_fit net = all_flat_map (IsFit (length net.routers)) (λ r. r < length net.routers) (interfaces_at net) at_router (router_ids net) (range_below (length net.routers) 0 (length net.routers) (omega arith))
  where
    of_process : (r : ℕ) (file : RouterText) → r < length net.routers → (o : Option OspfProcess) →
        AllByRecursion (IsFit (length net.routers)) (option_map_or (λ (p : OspfProcess). filter_map (interface_at r file.interfaces p) (range_with_len 0 (length file.interfaces))) o [])
    of_process r file lt None = tt
    of_process r file lt (Some p) = all_filter_map (IsFit (length net.routers)) (interface_at r file.interfaces p) (λ index i is. made_at (IsFit (length net.routers)) p r file.interfaces index (λ name block primary area. made_fit (length net.routers) p (record { router = r; index = index }) name block primary area lt) i is) (range_with_len 0 (length file.interfaces))

    of_file : (r : ℕ) → r < length net.routers → (o : Option RouterText) → AllByRecursion (IsFit (length net.routers)) (option_map_or (interfaces_of r) o [])
    of_file r lt None = tt
    of_file r lt (Some file) = of_process r file lt file.ospf

    at_router : (r : ℕ) → r < length net.routers → AllByRecursion (IsFit (length net.routers)) (interfaces_at net r)
    at_router r lt = of_file r lt (router_at net r)

pub all_of : {X : Type 0} (P : X → Type 0) (xs : List X) → AllByRecursion P xs → All P xs
all_of P [] all k d lt = absurd (omega arith)
all_of P (x ∷ xs) all zero d lt = all.0
all_of P (x ∷ xs) all (suc k) d lt = all_of P xs all.1 k d (omega arith)

pub all_fit : (net : Network) (n : ℕ) (interfaces : List OspfInterface) → n ≡ length net.routers → interfaces ≡ ospf_interfaces net → All (IsFit n) interfaces
all_fit net n interfaces same are = subst (λ k. All (IsFit k) interfaces) (sym same)
    (subst (All (IsFit (length net.routers))) (sym are) (all_of (IsFit (length net.routers)) (ospf_interfaces net) (interfaces_fit net)))
