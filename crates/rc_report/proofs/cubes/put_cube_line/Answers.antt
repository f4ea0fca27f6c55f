use Rattle.std.proofs.Common.{sym, ◌∙◌, subst}
use Rattle.rc_outside.specs.Put.{IsPut}
use Rattle.rc_report.proofs.CubeLaws.{line_of_all, line_of_tests}
use Rattle.rc_report.proofs.cubes.put_cube_line.Goals as goal

pub returns-then-header_is_free : goal.returns-then-header_is_free
returns-then-header_is_free g c =
    subst (λ t. IsPut g.S.Sink c.args.out.now c.put_line.new.out c.put_line.result t) (sym (line_of_all c.args.cube.now (sym c.header_is_free.ensures ∙ c.if-header_is_free.true))) c.put_line.ensures

pub returns : goal.returns
returns g c =
    subst (λ t. IsPut g.S.Sink c.args.out.now c.put_headed.new.out c.put_headed.result t) (sym (line_of_tests c.args.cube.now (sym c.header_is_free.ensures ∙ c.if-header_is_free.false))) c.put_headed.ensures
