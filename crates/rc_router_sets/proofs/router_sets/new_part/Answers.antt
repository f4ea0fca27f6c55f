use Rattle.std.proofs.Common.{ap, sym, ◌∙◌}
use Rattle.rc_config.specs.declared.interface.Direction.TheVariants.{Out}
use Rattle.rc_router_sets.proofs.JoinLaws.{known_like, may_like}
use Rattle.rc_router_sets.specs.Sent.{passing_at, taken, to_subnets}
use Rattle.rc_router_sets.specs.Steps.{fixed}
use Rattle.rc_sets.specs.Regions.{hop_set}
use Rattle.rc_moves.specs.Moves.{fib_of}
use Rattle.rc_router_sets.proofs.router_sets.new_part.Goals as goal

pub over_set-requires-clause-may : goal.over_set-requires-clause-may
over_set-requires-clause-may g c =
    let plane = c.args.plane.now in
    let r = c.args.router in
    let hop = c.args.hop.now in
    let e = ap (λ p. fixed plane r p hop) (sym c.in-Over.is) in
    may_like c.args.nodes.now.may (fixed plane r c.args.part hop) (hop_set (fib_of plane r) hop) (sym e) c.requires.may

pub returns-in-Over-clause-set : goal.returns-in-Over-clause-set
returns-in-Over-clause-set g c =
    let plane = c.args.plane.now in
    let r = c.args.router in
    let hop = c.args.hop.now in
    let e = ap (λ p. fixed plane r p hop) (sym c.in-Over.is) in
    known_like c.over_set.new.work c.over_set.result (hop_set (fib_of plane r) hop) (fixed plane r c.args.part hop) e c.over_set.ensures.set

pub let_out_set-requires-clause-may : goal.let_out_set-requires-clause-may
let_out_set-requires-clause-may g c =
    let plane = c.args.plane.now in
    let r = c.args.router in
    let hop = c.args.hop.now in
    let e = ap (λ n. passing_at n Out c.device-interface.result) c.network.ensures ∙ ap (passing_at plane.network Out) c.device-interface.ensures ∙ ap (λ p. fixed plane r p hop) (sym c.in-LetOut.is) in
    may_like c.args.nodes.now.may (fixed plane r c.args.part hop) (passing_at c.network.result.now Out c.device-interface.result) (sym e) c.requires.may

pub returns-in-LetOut-clause-set : goal.returns-in-LetOut-clause-set
returns-in-LetOut-clause-set g c =
    let plane = c.args.plane.now in
    let r = c.args.router in
    let hop = c.args.hop.now in
    let e = ap (λ n. passing_at n Out c.device-interface.result) c.network.ensures ∙ ap (passing_at plane.network Out) c.device-interface.ensures ∙ ap (λ p. fixed plane r p hop) (sym c.in-LetOut.is) in
    known_like c.let_out_set.new.work c.let_out_set.result (passing_at c.network.result.now Out c.device-interface.result) (fixed plane r c.args.part hop) e c.let_out_set.ensures.set

pub taken_set-requires-clause-may : goal.taken_set-requires-clause-may
taken_set-requires-clause-may g c =
    let plane = c.args.plane.now in
    let r = c.args.router in
    let hop = c.args.hop.now in
    let e = ap (taken plane) c.device-interface.ensures ∙ ap (λ p. fixed plane r p hop) (sym c.in-Taken.is) in
    may_like c.args.nodes.now.may (fixed plane r c.args.part hop) (taken plane c.device-interface.result) (sym e) c.requires.may

pub returns-in-Taken-clause-set : goal.returns-in-Taken-clause-set
returns-in-Taken-clause-set g c =
    let plane = c.args.plane.now in
    let r = c.args.router in
    let hop = c.args.hop.now in
    let e = ap (taken plane) c.device-interface.ensures ∙ ap (λ p. fixed plane r p hop) (sym c.in-Taken.is) in
    known_like c.taken_set.new.work c.taken_set.result (taken plane c.device-interface.result) (fixed plane r c.args.part hop) e c.taken_set.ensures.set

pub subnets_set-requires-clause-may : goal.subnets_set-requires-clause-may
subnets_set-requires-clause-may g c =
    let plane = c.args.plane.now in
    let r = c.args.router in
    let hop = c.args.hop.now in
    let e = ap (to_subnets plane) c.device-interface.ensures ∙ ap (λ p. fixed plane r p hop) (sym c.in-Subnets.is) in
    may_like c.args.nodes.now.may (fixed plane r c.args.part hop) (to_subnets plane c.device-interface.result) (sym e) c.requires.may

pub returns-in-Subnets-clause-set : goal.returns-in-Subnets-clause-set
returns-in-Subnets-clause-set g c =
    let plane = c.args.plane.now in
    let r = c.args.router in
    let hop = c.args.hop.now in
    let e = ap (to_subnets plane) c.device-interface.ensures ∙ ap (λ p. fixed plane r p hop) (sym c.in-Subnets.is) in
    known_like c.subnets_set.new.work c.subnets_set.result (to_subnets plane c.device-interface.result) (fixed plane r c.args.part hop) e c.subnets_set.ensures.set
