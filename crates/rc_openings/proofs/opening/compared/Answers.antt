use Rattle.std.proofs.Common.{arith, ap, sym, ◌∙◌, [], Some, get_or, length, drop}
use Rattle.std.proofs.lemmas.List.{take_rest}
use Rattle.rc_openings.specs.Opening.{byte_before, glance, told_by}
use Rattle.rc_openings.proofs.CommonLemmas.{compared_end, compared_short, compared_other}
use Rattle.rc_openings.proofs.PartLemmas.{glance_is}
use Rattle.rc_openings.proofs.opening.compared.Goals as goal

pub returns-then-count-opening : goal.returns-then-count-opening
returns-then-count-opening c =
    let opening = c.args.opening.now in
    let line = c.args.line.now in
    let rest = take_rest line c.common-count.result ∙ ap (λ n. drop n line) c.if-count-opening.true in
    c.at_end.ensures ∙ ap (glance []) rest ∙ sym (glance_is 32 [] (drop (length opening) line))
    ∙ sym (compared_end 32 32 opening line (sym c.common-count.ensures.count ∙ c.if-count-opening.true)) ∙ glance_is 32 opening line

pub returns-then-count-line : goal.returns-then-count-line
returns-then-count-line c =
    sym (compared_short 32 c.args.opening.now c.args.line.now (omega arith) (omega arith)) ∙ glance_is 32 c.args.opening.now c.args.line.now

pub returns : goal.returns
returns c =
    let opening = c.args.opening.now in
    let line = c.args.line.now in
    c.at_difference.ensures ∙ ap (λ x. told_by (Some (x, get_or opening c.common-count.result 0, get_or line c.common-count.result 0))) c.byte_before.ensures
    ∙ ap (λ n. told_by (Some (byte_before 32 opening n, get_or opening n 0, get_or line n 0))) c.common-count.ensures.count
    ∙ sym (compared_other 32 opening line (omega arith) (omega arith)) ∙ glance_is 32 opening line
