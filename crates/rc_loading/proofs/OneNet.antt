-- The files of a folder have one network.
use Rattle.std.proofs.Common.{◌≡◌, ◌∙◌, sym, ap, subst, Bool, true, false, List, length, nat_lt, filter, Result, Ok, Err}
use Rattle.std.specs.Option.{unwrap_or}
use Rattle.std.proofs.lemmas.Option.{none-some}
use Rattle.rc_base.proofs.SortedLaws.{one_sorted_list}
use Rattle.rc_outside.specs.Folder.{names_in, is_config}
use Rattle.rc_config.specs.declared.network.Network.{Network}
use Rattle.rc_network.proofs.OneNetwork.{one_network}
use Rattle.rc_network.specs.Build.{Model}
use Rattle.rc_network.specs.Files.{most_files, models_of, IsNetOfModels, IsNetOf, IsNetOfFew, IsNetOfConfigs}
use Rattle.rc_network.specs.declared.refusal.NetRefusal.{NetRefusal}
use Rattle.rc_loading.specs.Net.{bytes_in, HasOneNet}

net_of_models : (models : List Model) (this that : Result Network NetRefusal) → IsNetOfModels models this → IsNetOfModels models that → this ≡ that
net_of_models models (Ok m) (Ok n) h g = ap Ok (one_network models m n h.1 g.1)
net_of_models models (Ok m) (Err r) h g = absurd (none-some r (sym h.0 ∙ g))
net_of_models models (Err r) (Ok n) h g = absurd (none-some r (sym g.0 ∙ h))
net_of_models models (Err r) (Err s) h g = ap (λ o. Err (unwrap_or o r)) (sym h ∙ g)

net_of : (models : Result (List Model) NetRefusal) (this that : Result Network NetRefusal) → IsNetOf models this → IsNetOf models that → this ≡ that
net_of (Ok models) this that h g = net_of_models models this that h g
net_of (Err refusal) this that h g = h ∙ sym g

net_of_few : (many : Bool) (models : Result (List Model) NetRefusal) (this that : Result Network NetRefusal) → IsNetOfFew many models this → IsNetOfFew many models that → this ≡ that
net_of_few true models this that h g = h ∙ sym g
net_of_few false models this that h g = net_of models this that h g

pub one_net : HasOneNet
one_net dir files this that h g =
    let names : h.names ≡ g.names = one_sorted_list (names_in dir files) h.names g.names h.in_order.same h.in_order.sorted g.in_order.same g.in_order.sorted in
    let here : IsNetOfConfigs (bytes_in dir files) (filter is_config g.names) this = subst (λ ns. IsNetOfConfigs (bytes_in dir files) (filter is_config ns) this) names h.is in
    net_of_few (nat_lt most_files (length (filter is_config g.names))) (models_of (bytes_in dir files) (filter is_config g.names)) this that here g.is
