use Rattle.std.proofs.Common.{ap, ◌∙◌}
use Rattle.rc_edges.proofs.MakingLaws.{on_ok}
use Rattle.rc_edges.proofs.RowLaws.{gives_one, may_add}
use Rattle.rc_edges.specs.Given.{set_at}
use Rattle.rc_edges.proofs.outgoing.Row.add.Goals as goal

pub or-requires-clause-may : goal.or-requires-clause-may
or-requires-clause-may g c =
    may_add c.args.nodes.now c.args.work.now c.args.self.now c.args.onto c.args.set.index c.set_at-before.result c.or_none.result c.requires.onto (c.set_at-before.ensures ∙ ap (λ xs. set_at xs c.args.onto) c.as_slice.ensures.value) c.or_none.ensures c.requires.may

pub returns-clause-added : goal.returns-clause-added
returns-clause-added g c =
    on_ok c.touch.result _ _
    (λ put more known. gives_one c.args.work.now c.or.new.self c.args.self.now _ c.args.onto c.set_at-before.result c.or_none.result c.in_ok-joined.joined c.args.set.index more c.or.ensures.keeps c.requires.onto
    (c.set_at-before.ensures ∙ ap (λ xs. set_at xs c.args.onto) c.as_slice.ensures.value) c.or_none.ensures c.note.ensures put known c.in_ok-joined.ensures.or)
    c.touch.ensures.put
