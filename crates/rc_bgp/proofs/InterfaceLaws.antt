-- The OSPF interfaces of one router among those of all.
use Rattle.std.proofs.Common.{◌≡◌, ◌≢◌, ℕ, zero, suc, ◌+◌, ◌<◌, ◌≤◌, ◌==◌, Bool, true, false, cond, List, [], ◌∷◌, ◌++◌, length, Option, Some, None, refl, ap, sym, ◌∙◌, append_assoc, arith}
use Rattle.std.specs.Prelude.{slice_get, option_and_then}
use Rattle.std.specs.List.{filter_map, flat_map, cons_option, range_with_len}
use Rattle.std.specs.Option.{option_map, option_map_or}
use Rattle.std.proofs.lemmas.Bool.Decides.{Decides-eqb}
use Rattle.std.proofs.lemmas.List.{append-nil}
use Rattle.std.proofs.lemmas.Option.{slice_get_past}
use Rattle.std.proofs.Math.Decide.{dec_lt}
use Rattle.rc_base.specs.Prefix.{Cidr}
use Rattle.rc_base.specs.declared.position.IfId.{IfId}
use Rattle.rc_config.specs.Down.{Entries, is_down}
use Rattle.rc_config.specs.Members.{router_at}
use Rattle.rc_config.specs.declared.interface.IfAddr.{IfAddr}
use Rattle.rc_config.specs.declared.network.Network.{Network}
use Rattle.rc_config.specs.declared.ospf.OspfProcess.{OspfProcess}
use Rattle.rc_config.specs.declared.router_text.RouterText.{RouterText}
use Rattle.rc_ospf_interfaces.specs.Interfaces.{area_of, ospf_interface, interface_on, interface_at, interfaces_of, interfaces_at, ospf_interfaces}
use Rattle.rc_ospf_interfaces.specs.declared.interface.OspfInterface.{OspfInterface}
use Rattle.rc_bgp.specs.Redistributing.{ospf_prefixes, prefixes_among, prefixes_on}

router_on : (entries : Entries) (p : OspfProcess) (id : IfId) (e : List ℕ × _) (i : OspfInterface) → interface_on entries p id e ≡ Some i → i.id ≡ id
router_on entries p id e i is = by_down (is_down entries e.0) is
  where
    by_area : (primary : IfAddr) (area : Option ℕ) → option_map (ospf_interface p id e.0 e.1 primary) area ≡ Some i → i.id ≡ id
    by_area primary None is = absurd (cc)
    by_area primary (Some area) is = (let same : ospf_interface p id e.0 e.1 primary area ≡ i = cc in ap (λ (j : OspfInterface). j.id) (sym same))

    by_primary : (primary : Option IfAddr) → option_and_then (λ (a : IfAddr). option_map (ospf_interface p id e.0 e.1 a) (area_of p e.1.ospf a.addr)) primary ≡ Some i → i.id ≡ id
    by_primary None is = absurd (cc)
    by_primary (Some a) is = by_area a (area_of p e.1.ospf a.addr) is

    by_down : (b : Bool) → cond b None (option_and_then (λ (a : IfAddr). option_map (ospf_interface p id e.0 e.1 a) (area_of p e.1.ospf a.addr)) e.1.primary) ≡ Some i → i.id ≡ id
    by_down true is = absurd (cc)
    by_down false is = by_primary e.1.primary is

router_at_index : (k : ℕ) (entries : Entries) (p : OspfProcess) (index : ℕ) (i : OspfInterface) → interface_at k entries p index ≡ Some i → i.id.router ≡ k
router_at_index k entries p index i is = by (slice_get entries index) is
  where
    by : (o : Option (List ℕ × _)) → option_and_then (interface_on entries p (record { router = k; index = index })) o ≡ Some i → i.id.router ≡ k
    by None is = absurd (cc)
    by (Some e) is = ap (λ (id : IfId). id.router) (router_on entries p (record { router = k; index = index }) e i is)

module _ (net : Network) (r : ℕ) where
  -- another router's interface has none
  nothing_on : (k : ℕ) → k ≢ r → (i : OspfInterface) → i.id.router ≡ k → prefixes_on net r i ≡ []
  nothing_on k other i is = by (i.id.router == r) refl
    where
      by : (b : Bool) → (i.id.router == r) ≡ b → prefixes_on net r i ≡ []
      by true e = absurd (other (sym is ∙ (Decides-eqb i.id.router r).0 e))
      by false e = rw e refl

  nothing_among : (k : ℕ) → k ≢ r → prefixes_among net r (interfaces_at net k) ≡ []
  nothing_among k other = of_file (router_at net k)
    where
      in_row : (file : RouterText) (p : OspfProcess) (index : ℕ) (o : Option OspfInterface) (rest : List OspfInterface) → interface_at k file.interfaces p index ≡ o → prefixes_among net r rest ≡ [] → prefixes_among net r (cons_option o rest) ≡ []
      in_row file p index None rest is none = none
      in_row file p index (Some i) rest is none = ap (λ l. l ++ prefixes_among net r rest) (nothing_on k other i (router_at_index k file.interfaces p index i is)) ∙ none

      in_rows : (file : RouterText) (p : OspfProcess) (all : List ℕ) → prefixes_among net r (filter_map (interface_at k file.interfaces p) all) ≡ []
      in_rows file p [] = refl
      in_rows file p (index ∷ all) = in_row file p index (interface_at k file.interfaces p index) (filter_map (interface_at k file.interfaces p) all) refl (in_rows file p all)

      of_process : (file : RouterText) (o : Option OspfProcess) → prefixes_among net r (option_map_or (λ (p : OspfProcess). filter_map (interface_at k file.interfaces p) (range_with_len 0 (length file.interfaces))) o []) ≡ []
      of_process file None = refl
      of_process file (Some p) = in_rows file p (range_with_len 0 (length file.interfaces))

      of_file : (o : Option RouterText) → prefixes_among net r (option_map_or (interfaces_of k) o []) ≡ []
      of_file None = refl
      of_file (Some file) = of_process file file.ospf

  apart : (xs ys : List OspfInterface) → prefixes_among net r (xs ++ ys) ≡ prefixes_among net r xs ++ prefixes_among net r ys
  apart [] ys = refl
  apart (x ∷ xs) ys = ap (λ l. prefixes_on net r x ++ l) (apart xs ys) ∙ sym (append_assoc (prefixes_on net r x) (prefixes_among net r xs) (prefixes_among net r ys))

  -- of the routers from one number on
  from_on : ℕ → ℕ → List Cidr
  from_on a n = prefixes_among net r (flat_map (interfaces_at net) (range_with_len a n))

  behind : (a n : ℕ) → r < a → from_on a n ≡ []
  unfolding from_on
  behind a zero less = refl
  behind a (suc n) less =
      apart (interfaces_at net a) (flat_map (interfaces_at net) (range_with_len (a + 1) n))
      ∙ ap (λ l. l ++ from_on (a + 1) n) (nothing_among a (λ e. let none : ⊥ = omega (arith, less, e) in none)) ∙ behind (a + 1) n (omega (arith, less))

  within : (a n : ℕ) → a ≤ r → r < a + n → from_on a n ≡ prefixes_among net r (interfaces_at net r)
  unfolding from_on
  within a zero low high = absurd (let none : ⊥ = omega (arith, low, high) in none)
  within a (suc n) low high = apart (interfaces_at net a) (flat_map (interfaces_at net) (range_with_len (a + 1) n)) ∙ by (a == r) refl (λ up. within (a + 1) n up (omega (arith, high)))
    where
      up : a ≢ r → a + 1 ≤ r
      up other = up_by (dec_lt a r)
        where
          up_by : Dec (a < r) → a + 1 ≤ r
          up_by (yes less) = omega (arith, less)
          up_by (no more) = absurd (other (let same : a ≡ r = omega (arith, low, more) in same))

      by : (b : Bool) → (a == r) ≡ b → (a + 1 ≤ r → from_on (a + 1) n ≡ prefixes_among net r (interfaces_at net r)) → prefixes_among net r (interfaces_at net a) ++ from_on (a + 1) n ≡ prefixes_among net r (interfaces_at net r)
      by true told later =
          let same : a ≡ r = (Decides-eqb a r).0 told in
          ap (λ l. prefixes_among net r (interfaces_at net a) ++ l) (behind (a + 1) n (omega (arith, same))) ∙ append-nil (prefixes_among net r (interfaces_at net a)) ∙ ap (λ k. prefixes_among net r (interfaces_at net k)) same
      by false told later =
          let other : a ≢ r = (λ e. let wrong : (a == r) ≡ true = (Decides-eqb a r).1 e in absurd (cc (told, wrong))) in
          ap (λ l. l ++ from_on (a + 1) n) (nothing_among a other) ∙ later (up other)

  beyond : (a n : ℕ) → a + n ≤ r → from_on a n ≡ []
  unfolding from_on
  beyond a zero high = refl
  beyond a (suc n) high =
      apart (interfaces_at net a) (flat_map (interfaces_at net) (range_with_len (a + 1) n))
      ∙ ap (λ l. l ++ from_on (a + 1) n) (nothing_among a (λ e. let none : ⊥ = omega (arith, high, e) in none)) ∙ beyond (a + 1) n (omega (arith, high))

  -- those of all OSPF interfaces that are the router's are those of its own
  pub own_alone : (all : List Cidr) → all ≡ prefixes_among net r (interfaces_at net r) → all ≡ ospf_prefixes net r
  unfolding ospf_interfaces from_on
  own_alone all is = is ∙ by (dec_lt r (length net.routers))
    where
      by : Dec (r < length net.routers) → prefixes_among net r (interfaces_at net r) ≡ from_on 0 (length net.routers)
      by (yes there) = sym (within 0 (length net.routers) (omega arith) (omega (arith, there)))
      by (no past) =
          let high : length net.routers ≤ r = omega (arith, past) in
          let nobody : router_at net r ≡ None = ap (option_map (λ e. e.1)) (slice_get_past net.routers r high) in
          ap (λ o. prefixes_among net r (option_map_or (interfaces_of r) o [])) nobody ∙ sym (beyond 0 (length net.routers) (omega (arith, high)))
