use Rattle.std.proofs.Common.{◌≡◌, ◌++◌, ◌∷◌, [], rules, subst, sym, arith}
use Rattle.rc_idle.proofs.ListLaws.{AreToldSoFar, all_told, one_more}
use Rattle.rc_idle.proofs.telling.lists_told.Goals as goal

pub loop-index-preserved : goal.loop-index-preserved
loop-index-preserved c =
    let lists = c.args.lists.now in
    let list = c.in-Some.list in
    let (entry, is, next) = c.in-Some.ensures in
    let pushed : c.push.new.self ≡ c.loop-index.told ++ list ∷ [] = search rules in
    subst (AreToldSoFar lists _ c.args.left.now.items c.list_told.new.left.items) (sym pushed) (one_more lists c.loop-index.index c.args.left.now.items c.loop-index.left.items c.list_told.new.left.items c.loop-index.told list entry is next c.loop-index.invariant)

pub returns : goal.returns
returns c = all_told c.args.lists.now c.loop-index.index c.args.left.now.items c.loop-index.left.items c.loop-index.told (omega arith) c.loop-index.invariant
