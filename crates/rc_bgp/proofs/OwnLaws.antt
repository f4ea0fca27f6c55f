-- What lines `network` originate is the same with two tables that say the same for their prefixes.
use Rattle.std.proofs.Common.{refl, ◌≡◌, ap, sym, ◌∙◌, ℕ, List, [], ◌∷◌}
use Rattle.std.specs.BTreeSet.{insert_key}
use Rattle.std.specs.List.{AllByRecursion, cons_option, fold}
use Rattle.std.specs.Option.{option_map}
use Rattle.std.specs.Ordering.{match_ordering}
use Rattle.std.specs.declared.cmp.Ordering.{Ordering}
use Rattle.std.specs.declared.cmp.Ordering.TheVariants.{Less, Equal, Greater}
use Rattle.rc_base.specs.Lists.{in_order}
use Rattle.rc_base.specs.Prefix.{Cidr, prefix_cmp}
use Rattle.rc_base.specs.declared.origin.Origin.TheVariants.{Igp}
use Rattle.rc_config.specs.declared.bgp.BgpProcess.{BgpProcess}
use Rattle.rc_config.specs.declared.network.Network.{Network}
use Rattle.rc_config.specs.declared.router_text.RouterText.{RouterText}
use Rattle.rc_route.specs.declared.path.PathSource.TheVariants.{Network as ByNetwork, Connected, Static}
use Rattle.rc_route.specs.declared.route.Route.{Route}
use Rattle.rc_bgp.specs.AllOriginated.{SayAlike, paths_of_process}
use Rattle.rc_bgp.specs.Originating.{by_networks, metric_for, originated, paths_for}
use Rattle.rc_bgp.specs.Redistributing.{RedistributesNothing, no_kinds, of_ospf, of_source}

-- what holds of some things holds of them in order
module _ {K : Type 0} (R : K → K → Ordering) (P : K → Type 0) where
  all_inserted : (k : K) (ks : List K) → AllByRecursion P ks → P k → AllByRecursion P (insert_key R ks k)
  all_inserted k [] all is = (is, tt)
  all_inserted k (x ∷ xs) all is =
      let rest = all_inserted k xs all.1 is in
      elim (R k x) as (λ o. AllByRecursion P (match_ordering o (k ∷ x ∷ xs) (x ∷ xs) (x ∷ insert_key R xs k))) [ Less ↦ (is, all) | Equal ↦ all | Greater ↦ (all.0, rest) ]

  all_folded : (xs ks : List K) → AllByRecursion P xs → AllByRecursion P ks → AllByRecursion P (fold (insert_key R) ks xs)
  all_folded [] ks all so_far = so_far
  all_folded (x ∷ xs) ks all so_far = all_folded xs (insert_key R ks x) all.1 (all_inserted x ks so_far all.0)

module _ (r : ℕ) (t u : List Route) where
  made_alike : (ps : List Cidr) → SayAlike t u ps → paths_for r t ps ≡ paths_for r u ps
  made_alike [] alike = refl
  made_alike (p ∷ ps) alike = λ i. cons_option (option_map (λ metric. originated r ByNetwork Igp metric p) (alike.0 i)) (made_alike ps alike.1 i)

  networks_alike : (networks : List Cidr) → SayAlike t u networks → by_networks r t networks ≡ by_networks r u networks
  networks_alike networks alike = made_alike (in_order prefix_cmp networks) (all_folded prefix_cmp (λ p. metric_for t p ≡ metric_for u p) networks [] alike tt)

  -- and where nothing is redistributed they are all
  pub alike_by_networks : (net : Network) (file : RouterText) (process : BgpProcess) → RedistributesNothing file process → SayAlike t u process.networks → paths_of_process net r file t process ≡ paths_of_process net r file u process
  alike_by_networks net file process none alike =
      let connected = ap (of_source r file Connected no_kinds [] t) none.connected ∙ sym (ap (of_source r file Connected no_kinds [] u) none.connected) in
      let static_routes = ap (of_source r file Static no_kinds [] t) none.static_routes ∙ sym (ap (of_source r file Static no_kinds [] u) none.static_routes) in
      let ospf = ap (of_ospf net r file t) none.ospf ∙ sym (ap (of_ospf net r file u) none.ospf) in
      λ i. networks_alike process.networks alike i ∷ connected i ∷ static_routes i ∷ ospf i ∷ []
