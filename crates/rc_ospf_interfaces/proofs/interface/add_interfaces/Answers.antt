use Rattle.std.proofs.Common.{◌<◌, length, sym, ◌∙◌, arith}
use Rattle.rc_ospf_interfaces.specs.Interfaces.{interface_at}
use Rattle.rc_ospf_interfaces.proofs.RangeLaws.{one_more, none_more}
use Rattle.rc_ospf_interfaces.proofs.interface.add_interfaces.Goals.{in-Some+in_ok-push, in_default}
use Rattle.rc_ospf_interfaces.proofs.interface.add_interfaces.Goals as goal

pub loop-index-preserved : goal.loop-index-preserved
loop-index-preserved c =
    let f = interface_at c.args.router c.args.file.now.interfaces c.args.process.now in
    let i = c.loop-index.index in
    let n = length c.args.file.now.interfaces in
    let lt : i < n = omega (arith, c.loop-index-test.true, c.loop-index.auto.index-end, c.len-index-end.ensures) in
    elim c.match-interface_at.branch [
      | in-Some+in_ok-push w ↦ one_more f c.loop-index.all c.match-interface_at.all _ i n w.in-Some.interface lt (sym c.interface_at.ensures ∙ w.in-Some.is) (w.all-is ∙ w.in_ok-push.ensures) c.loop-index.invariant
      | in_default w ↦ none_more f c.loop-index.all c.match-interface_at.all _ i n lt (sym c.interface_at.ensures ∙ w.in_default.is) w.all-is c.loop-index.invariant
    ]
