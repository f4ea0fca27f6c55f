use Rattle.std.proofs.Common.{[], ap, sym, ◌∙◌}
use Rattle.std.specs.Option.{option_copied}
use Rattle.std.specs.Prelude.{slice_get, unwrap_or}
use Rattle.rc_edges.proofs.MakingLaws.{made_for, without_table}
use Rattle.rc_edges.proofs.position_sets.sets_of.Goals as goal

pub returns-in_default-clause-sets : goal.returns-in_default-clause-sets
returns-in_default-clause-sets c = λ nodes seat table.
    let (parts, owned, none) = c.without_table.ensures.nothing in
    without_table nodes seat c.args.site.now.plane.now c.args.site.now.position _
    (ap (λ o. unwrap_or o []) (ap (slice_get c.args.site.now.plane.now.fibs) (sym c.router.ensures) ∙ sym c.fib.ensures ∙ ap option_copied c.in_default.is)) table c.without_table.ensures.hops parts owned none

pub returns-clause-sets : goal.returns-clause-sets
returns-clause-sets c =
    made_for c.made_of.result c.args.site.now.plane.now c.args.site.now.position c.in-Some.fib.now
    (ap (λ o. unwrap_or o []) (ap (slice_get c.args.site.now.plane.now.fibs) (sym c.router.ensures) ∙ sym c.in-Some.ensures)) c.made_of.ensures.sets
