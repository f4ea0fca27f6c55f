use Rattle.std.proofs.Common.{subst, [], List, Bool}
use Rattle.rc_sectors.specs.Cuts.{AreBelow}
use Rattle.rc_sectors.proofs.CutLaws.{all_below}
use Rattle.rc_sectors.proofs.cut.cut_of.Goals as goal

pub returns : goal.returns
returns c =
    let after = c.put_below.new.cut in
    all_below after (subst (λ (s : List Bool). AreBelow s [] after) c.new.ensures (subst (λ (ss : List (List Bool)). AreBelow c.new.result ss after) c.new-cut.ensures c.in_ok-put_below.ensures))
