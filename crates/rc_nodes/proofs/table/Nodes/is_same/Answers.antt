use Rattle.std.proofs.Common.{◌≡◌, subst, sym, rules, eqb-true}
use Rattle.rc_nodes.specs.Seats.{SeatKnows}
use Rattle.rc_nodes.specs.Views.{Knows}
use Rattle.rc_nodes.proofs.Crowd.{same_ref, same_tree}
use Rattle.rc_nodes.proofs.table.Nodes.is_same.Goals as goal

pub returns : goal.returns
unfolding SeatKnows
returns g c = λ s t us ut.
    let v = c.args.seat.now.view in
    let forth : c.args.left.index ≡ c.args.right.index → s ≡ t = λ e. same_tree v c.requires.sound c.args.left.index s t us (subst (λ n. Knows v n t) (sym e) ut) in
    let back : s ≡ t → c.args.left.index ≡ c.args.right.index = λ e. same_ref v c.requires.sound c.args.left.index c.args.right.index t (subst (λ q. Knows v c.args.left.index q) e us) ut in
    ((λ e. forth (search (rules, eqb-true, e))), (λ e. let q = back e in search rules))
