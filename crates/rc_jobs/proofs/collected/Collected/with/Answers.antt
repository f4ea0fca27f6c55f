use Rattle.std.proofs.Common.{rules, ◌≡◌, ◌++◌}
use Rattle.rc_jobs.proofs.CollectLaws.{collected_joined}
use Rattle.rc_jobs.specs.Collecting.{AreAppended}
use Rattle.rc_jobs.proofs.collected.Collected.with.Goals as goal

pub returns : goal.returns
returns c = λ seat edge ends count a b d left right.
    let rows : AreAppended c.args.self.into.items c.args.next.into.items c.append_all.new.into.items = search rules in
    let more : c.append.new.items ≡ c.args.self.ends ++ c.args.next.ends = search rules in
    collected_joined seat edge ends count a b d c.args.self c.args.next (record { into = c.append_all.new.into; ends = c.append.new.items }) rows more left right
