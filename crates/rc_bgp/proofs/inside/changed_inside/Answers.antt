use Rattle.std.proofs.lemmas.Result.{IfOk-weaker}
use Rattle.rc_bgp.specs.Changes.{AreChangesInside}
use Rattle.rc_bgp.proofs.InsideLaws.{are_changes_inside}
use Rattle.rc_bgp.proofs.inside.changed_inside.Goals as goal

pub returns-clause-covers : goal.returns-clause-covers
returns-clause-covers c =
    let old = c.args.earlier.now in
    let new = c.args.previous.now in
    IfOk-weaker _ _ (λ inside. AreChangesInside inside old new) (λ inside is. are_changes_inside c.args.sessions.now c.args.changes.now inside old new is c.requires.changes) c.all_changed_inside.ensures
