use Rattle.std.proofs.Common.{IfSome}
use Rattle.std.proofs.lemmas.Result.{IfOk-weaker}
use Rattle.rc_loading.specs.Net.{bytes_in}
use Rattle.rc_network.specs.Files.{IsNetOf, models_of}
use Rattle.rc_loading.proofs.ReadLaws.{net_of_read}
use Rattle.rc_loading.proofs.loading.network_read.Goals as goal

pub returns-clause-net : goal.returns-clause-net
returns-clause-net g c =
    let told = g.F.Folder.told c.args.folder.now in
    let dir = c.args.dir.now in
    let configs = c.args.configs.items in
    IfOk-weaker c.network_of.result (IsNetOf c.in-Ok.read) (λ net. IfSome told (λ files. IsNetOf (models_of (bytes_in dir files) configs) net))
    (λ net is. net_of_read told dir configs c.in-Ok.read net c.in-Ok.ensures.models is) c.network_of.ensures.net
