use Rattle.std.proofs.Common.{rules, ◌≡◌, ◌∙◌, ◌++◌, ap, sym, append-nil}
use Rattle.std.specs.List.{filter_map}
use Rattle.rc_external.specs.Origination.{redistributed}
use Rattle.rc_external.proofs.PieceLaws.{nothing_sent, piece_more}
use Rattle.rc_external.proofs.sending.add_redistributed.Goals as goal

pub loop-piece-preserved : goal.loop-piece-preserved
loop-piece-preserved c =
    let sent = redistributed c.args.router c.args.file.now c.args.process.now c.args.paths.now in
    let more : c.add_of_routes.new.all ≡ c.loop-piece.all ++ filter_map sent c.as_slice.result.now = search rules in
    piece_more sent c.pieces-pieces.result.now c.loop-piece.piece-index c.piece-item.result c.loop-piece.all c.add_of_routes.new.all _ c.loop-piece-test.true c.piece-item.is
    (more ∙ ap (λ routes. c.loop-piece.all ++ filter_map sent routes) c.as_slice.ensures.value) c.loop-piece.invariant

pub returns-then-is_empty : goal.returns-then-is_empty
returns-then-is_empty c =
    let none = nothing_sent c.args.router c.args.file.now c.args.process.now c.args.paths.now c.args.table.now (c.is_empty.ensures.0 c.if-is_empty.true) in
    sym (ap (λ sent. c.args.all.now ++ sent) none ∙ append-nil c.args.all.now)
