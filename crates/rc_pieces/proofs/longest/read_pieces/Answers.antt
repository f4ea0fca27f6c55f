use Rattle.std.proofs.Common.{subst, sym}
use Rattle.rc_trie.specs.Tree.{AreInOrder}
use Rattle.rc_route.specs.Tables.{IsListed}
use Rattle.rc_pieces.proofs.LongestLaws.{next_piece, next_up, read_more}
use Rattle.rc_pieces.proofs.longest.read_pieces.Goals as goal

pub read_prefixes-requires : goal.read_prefixes-requires
read_prefixes-requires g c =
    let f = g.T.HasPrefix.prefix_of in
    let piece = c.piece-item.result in
    subst (IsListed f) (sym c.as_slice.ensures.value) (next_up f c.args.pieces.now _ _ piece (next_piece c.args.pieces.now c.loop-piece.piece-index piece c.loop-piece-test.true c.piece-item.is) c.loop-piece.invariant)

pub loop-piece-preserved : goal.loop-piece-preserved
loop-piece-preserved g c =
    let f = g.T.HasPrefix.prefix_of in
    let piece = c.piece-item.result in
    read_more f c.args.pieces.now _ _ piece (next_piece c.args.pieces.now c.loop-piece.piece-index piece c.loop-piece-test.true c.piece-item.is) c.loop-piece.invariant (subst (AreInOrder f) c.as_slice.ensures.value c.read_prefixes.ensures)
