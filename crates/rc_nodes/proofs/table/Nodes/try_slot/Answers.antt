use Rattle.std.proofs.Common.{◌≡◌, sym, subst, rules}
use Rattle.rc_nodes.specs.Views.{View, MayWrite}
use Rattle.rc_nodes.proofs.Probe.{may_write_moved}
use Rattle.rc_nodes.proofs.table.Nodes.try_slot.Goals as goal

pub claim-found-requires-clause-may : goal.claim-found-requires-clause-may
claim-found-requires-clause-may g c =
    let zero : c.look-found.result ≡ 0 = search rules in
    subst (λ (v : View). MayWrite v c.args.at c.args.word) (sym (c.look-found.ensures.looked.0 zero)) (may_write_moved c.args.seat.now.view c.args.at c.args.word c.requires.may)
