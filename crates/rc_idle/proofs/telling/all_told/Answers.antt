use Rattle.std.proofs.Common.{◌≡◌, ◌++◌, ◌∷◌, ℕ, List, [], rules, subst, sym, arith}
use Rattle.rc_config.specs.declared.access_list.AccessList.{AccessList}
use Rattle.rc_sets.specs.LinesQuery.{access_lists_at, idle_in}
use Rattle.rc_idle.specs.Told.{IsRouterTold}
use Rattle.rc_idle.proofs.ListLaws.{AreRoutersSoFar, all_routers, one_router_more}
use Rattle.rc_idle.proofs.telling.all_told.Goals as goal

pub loop-index-preserved : goal.loop-index-preserved
loop-index-preserved c =
    let net = c.args.network.now in
    let router = c.in_ok-router.router in
    let old = c.loop-index.left.items in
    let left = c.router_told.new.left.items in
    let tells = subst (λ r. (behind : List (List ℕ × AccessList)) → old ≡ idle_in (access_lists_at net r ++ behind) → IsRouterTold net r router × (left ≡ idle_in behind)) c.at.ensures c.in_ok-router.ensures in
    let pushed : c.push.new.self ≡ c.loop-index.told ++ router ∷ [] = search rules in
    subst (AreRoutersSoFar net _ left) (sym pushed) (one_router_more net c.loop-index.index old left c.loop-index.told router (omega arith) tells c.loop-index.invariant)

pub returns : goal.returns
returns c = all_routers c.args.network.now c.loop-index.index c.loop-index.left.items c.loop-index.told (omega arith) c.loop-index.invariant
