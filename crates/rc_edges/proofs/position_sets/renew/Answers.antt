use Rattle.std.proofs.Common.{rules, refl, ◌≡◌, sym, ◌∙◌}
use Rattle.rc_edges.proofs.MakingLaws.{made_again}
use Rattle.rc_edges.proofs.position_sets.renew.Goals as goal

pub returns-then-eq-clause-sets : goal.returns-then-eq-clause-sets
returns-then-eq-clause-sets c = λ nodes seat q same m.
    let here : c.router.result ≡ c.args.last = search rules in
    made_again nodes seat c.args.site.now.plane.now q c.args.site.now.position c.args.made.now _ (same ∙ sym here ∙ c.router.ensures) m refl refl refl refl

pub returns-clause-sets : goal.returns-clause-sets
returns-clause-sets c = λ nodes seat q same m. c.in_ok-made.ensures.sets nodes seat m.table
