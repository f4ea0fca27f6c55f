use Rattle.std.proofs.Common.{rules, ◌≡◌, ◌∙◌, List, [], IfErr, sym, subst}
use Rattle.rc_bdd.specs.Work.{IsCause}
use Rattle.rc_sets.specs.Deciding.{AreDecided}
use Rattle.rc_sets.specs.IdleLines.{AreIdle, idle_lines}
use Rattle.rc_sets.specs.declared.deciding.Decided.{Decided}
use Rattle.rc_sets.specs.declared.idle_line.IdleLine.{IdleLine}
use Rattle.rc_sets.proofs.DecidingLaws.{listed}
use Rattle.rc_sets.proofs.FullLaws.{full_means_more}
use Rattle.rc_sets.proofs.IdleLaws.{idle_lines_are_idle}
use Rattle.rc_sets.proofs.idle_lines.idle.Goals as goal

pub returns-in_err-all-clause-full : goal.returns-in_err-all-clause-full
returns-in_err-all-clause-full g c =
    let cause : IfErr c.from_residual.result (IsCause c.args.nodes.now c.decide_all.new.work) = search rules in
    full_means_more c.from_residual.result c.args.nodes.now c.decide_all.new.work cause

pub returns-in-Ok-clause-idle : goal.returns-in-Ok-clause-idle
returns-in-Ok-clause-idle g c =
    let lines = c.args.access_list.now.lines in
    c.in-Ok.ensures.idle lines (subst (λ (ds : List Decided). AreDecided c.decide_all.new.work [] lines ds) (sym c.as_slice.ensures.value) c.in_ok-all.ensures.decided) ∙ listed lines

pub returns-in-Ok-clause-headers : goal.returns-in-Ok-clause-headers
returns-in-Ok-clause-headers g c =
    let lines = c.args.access_list.now.lines in
    let is : c.in-Ok.idle ≡ idle_lines lines =
    c.in-Ok.ensures.idle lines (subst (λ (ds : List Decided). AreDecided c.decide_all.new.work [] lines ds) (sym c.as_slice.ensures.value) c.in_ok-all.ensures.decided) ∙ listed lines in
    subst (λ (found : List IdleLine). AreIdle [] lines found) (sym is) (idle_lines_are_idle lines)
