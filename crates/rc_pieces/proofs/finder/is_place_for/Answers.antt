use Rattle.std.proofs.Common.{◌∙◌, sym, arith}
use Rattle.rc_pieces.proofs.FindLaws.{first_place, near_place}
use Rattle.rc_pieces.proofs.finder.is_place_for.Goals as goal

pub returns-then-place-eq0 : goal.returns-then-place-eq0
returns-then-place-eq0 g c _ =
    first_place g.T.HasPrefix.prefix_of c.args.prefix.now c.args.pieces.now c.args.place c.requires.filled c.requires.in_order (omega (arith, c.if-place-eq0.true)) (sym c.is_begun.ensures ∙ c.if-is_begun.false)

pub returns-else-place-eq0 : goal.returns-else-place-eq0
returns-else-place-eq0 g c begun =
    near_place g.T.HasPrefix.prefix_of c.args.prefix.now c.args.pieces.now c.args.place c.requires.filled c.requires.in_order (omega (arith, c.if-place-eq0.false)) (sym c.is_begun-else-place-eq0.ensures ∙ begun)
    (sym c.is_begun.ensures ∙ c.if-is_begun.false)
