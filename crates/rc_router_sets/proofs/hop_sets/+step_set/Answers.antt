-- A step is the one before it, with its part or without it.
use Rattle.std.proofs.Common.{sym, subst, ◌∙◌, ◌<◌, arith}
use Rattle.rc_router_sets.proofs.JoinLaws.{known_like, may_like}
use Rattle.rc_router_sets.proofs.MadeLaws.{made_kept, whenever}
use Rattle.rc_router_sets.proofs.StepLaws.{falls, first_is, may_earlier, may_second, may_step, rank, step_known}
use Rattle.rc_router_sets.specs.Sent.{forwarded}
use Rattle.rc_router_sets.specs.Steps.{step_at}
use Rattle.rc_router_sets.proofs.hop_sets.+step_set.Goals as goal

pub forwarded_set-requires-clause-may : goal.forwarded_set-requires-clause-may
forwarded_set-requires-clause-may g t c =
    let plane = c.args.site.now.plane.now in
    let q = c.args.site.now.position in
    may_like c.args.nodes.now.may (step_at plane q c.args.step c.args.at.now.hop) (forwarded plane q) (sym (first_is plane q c.args.at.now.hop c.args.step (sym c.is_first.ensures ∙ c.if-is_first.true))) c.requires.may

pub returns-then-is_first-clause-set : goal.returns-then-is_first-clause-set
returns-then-is_first-clause-set g t c =
    let plane = c.args.site.now.plane.now in
    let q = c.args.site.now.position in
    known_like c.forwarded_set.new.work c.forwarded_set.result (forwarded plane q) (step_at plane q c.args.step c.args.at.now.hop) (first_is plane q c.args.at.now.hop c.args.step (sym c.is_first.ensures ∙ c.if-is_first.true)) c.forwarded_set.ensures.set

pub step_set-requires : goal.step_set-requires
step_set-requires g t c κs within =
    let later = sym c.is_first.ensures ∙ c.if-is_first.false in
    let less : rank c.earlier.result < rank c.args.step = subst (λ s. rank s < rank c.args.step) (sym c.earlier.ensures) (falls c.args.step later) in
    (omega (arith, less, c.decreases), (within, (c.requires.made, (c.requires.at, may_earlier c.args.site.now.plane.now c.args.site.now.position c.args.at.now.hop c.args.step later c.args.nodes.now.may c.requires.may c.earlier.result c.earlier.ensures))))

pub part_set-requires-clause-may : goal.part_set-requires-clause-may
part_set-requires-clause-may g t c =
    may_second c.args.site.now.plane.now c.args.site.now.position c.args.at.now.hop c.args.step (sym c.is_first.ensures ∙ c.if-is_first.false) c.args.nodes.now.may c.requires.may c.second.result c.second.ensures

pub operate-requires-clause-may : goal.operate-requires-clause-may
operate-requires-clause-may g t c =
    may_step c.args.site.now.plane.now c.args.site.now.position c.args.at.now.hop c.args.step (sym c.is_first.ensures ∙ c.if-is_first.false) c.earlier.result c.earlier.ensures c.second.result c.second.ensures c.takes_away.result c.takes_away.ensures
    c.part_set.new.work c.in_ok-first.first.index c.in_ok-second.second.index (c.in_ok-second.ensures.keeps c.in_ok-first.first.index _ c.in_ok-first.ensures.set) c.in_ok-second.ensures.set c.args.nodes.now c.requires.may

pub returns-clause-made : goal.returns-clause-made
returns-clause-made g t c = whenever c.operate.result _ (made_kept c.args.nodes.now c.args.site.now.plane.now c.args.site.now.position c.part_set.new.made c.part_set.new.work c.operate.new.work c.in_ok-second.ensures.made c.operate.ensures.seat c.operate.ensures.keeps)

pub returns-clause-set : goal.returns-clause-set
returns-clause-set g t c =
    step_known c.args.site.now.plane.now c.args.site.now.position c.args.at.now.hop c.args.step (sym c.is_first.ensures ∙ c.if-is_first.false) c.earlier.result c.earlier.ensures c.second.result c.second.ensures c.takes_away.result c.takes_away.ensures
    c.part_set.new.work c.in_ok-first.first.index c.in_ok-second.second.index (c.in_ok-second.ensures.keeps c.in_ok-first.first.index _ c.in_ok-first.ensures.set) c.in_ok-second.ensures.set c.operate.new.work c.operate.result c.operate.ensures.set

pub returns-clause-keeps : goal.returns-clause-keeps
returns-clause-keeps g t c = λ r u k. c.operate.ensures.keeps r u (c.in_ok-second.ensures.keeps r u (c.in_ok-first.ensures.keeps r u k))
