use Rattle.std.proofs.Common.{◌∙◌, sym, arith}
use Rattle.rc_pieces.proofs.FindLaws.{passed_all}
use Rattle.rc_pieces.proofs.finder.passed.Goals as goal

pub returns-then-stands_before : goal.returns-then-stands_before
returns-then-stands_before g c =
    passed_all g.T.HasPrefix.prefix_of c.args.prefix.now c.args.items.now c.args.count c.requires (omega (arith, c.if-count-gt0.true)) (sym c.stands_before.ensures ∙ c.if-stands_before.true)
