use Rattle.std.proofs.Common.{rules, ◌≡◌, refl}
use Rattle.rc_jobs.proofs.CollectLaws.{all_prepared}
use Rattle.rc_jobs.specs.declared.flow.Prepared.{Prepared}
use Rattle.rc_jobs.proofs.collected.Collected.prepared.Goals as goal

pub returns : goal.returns
returns c = λ seat edge ends count collected.
    let is : c.from_vec.result ≡ c.args.self.into.items = search rules in
    let made : Prepared = record { into = c.from_vec.result; ends = c.args.self.ends } in
    all_prepared seat edge ends count c.args.self made is refl collected
