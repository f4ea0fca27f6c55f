use Rattle.std.proofs.Common.{rules, ◌≡◌, ap, sym, ◌∙◌, length, replicate, None}
use Rattle.rc_edges.proofs.MakingLaws.{nothing_made}
use Rattle.rc_router_sets.specs.HopParts.{no_parts}
use Rattle.rc_sets.specs.Regions.{hops_in}
use Rattle.rc_edges.proofs.position_sets.made_of.Goals as goal

pub returns-in-Ok-clause-sets : goal.returns-in-Ok-clause-sets
returns-in-Ok-clause-sets c = λ nodes seat plane q is table.
    let hops : c.in-Ok.made.hops ≡ hops_in c.args.fib.now = search rules in
    let parts : c.in-Ok.made.parts.items ≡ replicate (length c.in-Ok.made.hops) no_parts = search rules in
    let owned : c.in-Ok.made.owned ≡ None = search rules in
    let none : c.in-Ok.made.forwarded ≡ None = search rules in
    nothing_made nodes seat plane q c.in-Ok.made table (hops ∙ ap hops_in (sym is)) parts owned none
