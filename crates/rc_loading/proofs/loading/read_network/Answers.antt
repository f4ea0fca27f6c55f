use Rattle.std.proofs.Common.{ℕ, List, ap, ◌∙◌, IfSome, length}
use Rattle.std.proofs.lemmas.Result.{IfOk-weaker}
use Rattle.rc_loading.specs.Net.{IsNet, bytes_in}
use Rattle.rc_network.specs.Files.{IsNetOfConfigs, too_many}
use Rattle.rc_loading.proofs.ReadLaws.{few_where_none, is_net, net_of_number}
use Rattle.rc_loading.proofs.loading.read_network.Goals as goal

pub network_in-requires-clause-few : goal.network_in-requires-clause-few
network_in-requires-clause-few g c = few_where_none (length c.in-Ok.configs.items) c.too_many-refusal.result (c.too_many-refusal.ensures ∙ ap (λ (all : List (List ℕ)). too_many (length all)) c.as_slice.ensures.value)

pub returns-clause-net : goal.returns-clause-net
returns-clause-net g c =
    let told = g.F.Folder.told c.args.folder.now in
    let dir = c.args.dir.now in
    let configs = c.in-Ok.configs.items in
    let n = c.in-Ok.ensures.names in
    let nets = rw c.in-Ok.ensures.same_files at c.network_in.ensures.net in
    IfOk-weaker c.network_in.result (λ net. IfSome told (λ files. IsNetOfConfigs (bytes_in dir files) configs net)) (λ net. IfSome told (λ files. IsNet dir files net))
    (λ net is. is_net told dir n.0 configs net n.2 n.1 is) (net_of_number told dir configs c.network_in.result c.too_many-refusal.result (c.too_many-refusal.ensures ∙ ap (λ (all : List (List ℕ)). too_many (length all)) c.as_slice.ensures.value) c.network_in.ensures.refused nets)
