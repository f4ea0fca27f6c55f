use Rattle.std.proofs.Common.{◌<◌, ◌≤◌, ◌-◌, length, get_or, arith}
use Rattle.std.proofs.lemmas.Bool.{leb-true}
use Rattle.rc_spf.proofs.Queues.{behind_last}
use Rattle.rc_spf.proofs.queue.is_behind.Goals as goal

pub returns : goal.returns
returns c = λ is.
    (let some : 0 < length c.args.entries.now = omega (arith, c.if-len-eq0.false) in
    let le : (get_or c.args.entries.now (length c.args.entries.now - 1) (0, 0)).0 ≤ c.args.cost = leb-true _ _ is in
    behind_last c.args.entries.now c.args.cost (0, 0) c.requires some le)
