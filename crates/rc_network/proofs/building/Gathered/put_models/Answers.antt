use Rattle.rc_network.proofs.BuildLaws.{left-more, rest-lawful}
use Rattle.rc_network.proofs.building.Gathered.put_models.Goals as goal

pub loop-file-preserved : goal.loop-file-preserved
loop-file-preserved c =
    let before = c.loop-file.invariant in
    record {
      left = left-more {T = Unit {0}} tt c.args.models.items c.loop-file.left.items c.pop_front.new.self.items (c.in-Some.file, c.in-Some.model) c.loop-file.self c.put_model.new.self before.left c.in-Some.ensures.items c.in_ok-put_model.ensures.adds;
      hosts = rest-lawful (c.in-Some.file, c.in-Some.model) c.loop-file.left.items c.pop_front.new.self.items c.in-Some.ensures.items before.hosts;
    }
