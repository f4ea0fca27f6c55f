use Rattle.std.proofs.Common.{◌∙◌, subst}
use Rattle.rc_reads.specs.Reads.{AreEqualAt, reads}
use Rattle.rc_reads.proofs.OwnLaws.{own_in_order}
use Rattle.rc_reads.proofs.ReadLaws.{same_next}
use Rattle.rc_reads.proofs.next.next_of.Goals as goal

pub made_of-requires-clause-own : goal.made_of-requires-clause-own
made_of-requires-clause-own c = own_in_order c.args.net.now c.args.internal.now c.requires.internal

pub returns-then-are_same : goal.returns-then-are_same
returns-then-are_same c =
    let net = c.args.net.now in
    let equal : AreEqualAt (reads net c.args.router) c.args.before.now c.args.now.now = subst (λ rs. AreEqualAt rs c.args.before.now c.args.now.now) (c.as_slice.ensures ∙ c.requires.reads) (c.are_same.ensures.0 c.if-are_same.true) in
    (equal, same_next net c.args.internal.now c.requires.internal c.args.router c.requires.router c.args.before.now c.args.now.now equal)
