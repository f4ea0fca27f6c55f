use Rattle.std.proofs.Common.{◌≡◌, ◌<◌, List, IfErr, sym, subst}
use Rattle.std.specs.Set.{distinct_count}
use Rattle.std.proofs.lemmas.Result.{IfOk-weaker}
use Rattle.rc_bdd.specs.declared.work.SetError.TheVariants.{Full}
use Rattle.rc_trees.specs.Trees.{Tree, same_tree}
use Rattle.rc_sets.specs.AskedLists.{AreAsked, ArePlaces}
use Rattle.rc_sets.specs.LinesQuery.{asked_lists, idle_in}
use Rattle.rc_sets.specs.declared.asked_lists.ListPlace.{ListPlace}
use Rattle.rc_sets.specs.declared.idle_line.IdleLine.{IdleLine}
use Rattle.rc_sets.proofs.AskedLaws.{all_told, may_tell}
use Rattle.rc_sets.proofs.FullLaws.{full_means_more}
use Rattle.rc_sets.proofs.asked_lists.idle_of_lists.Goals as goal

pub idle_at_places-requires-clause-asked : goal.idle_at_places-requires-clause-asked
idle_at_places-requires-clause-asked g c κs within =
    let lists = asked_lists c.args.network.now c.args.router in
    let asked : AreAsked c.args.nodes.now c.args.network.now c.as_slice.result.now = record {
      lists = lists;
      places_are = subst (λ (ps : List ListPlace). ArePlaces c.args.network.now ps lists) (sym c.as_slice.ensures.value) c.in-Ok.ensures;
      may = may_tell c.args.nodes.now lists c.requires.may;
    } in
    asked

pub returns-clause-idle : goal.returns-clause-idle
returns-clause-idle g c =
    let net = c.args.network.now in
    let lists = asked_lists net c.args.router in
    IfOk-weaker c.idle_at_places.result.1 _ (λ (all : List (List IdleLine)). all ≡ idle_in lists)
    (λ all is. all_told net c.as_slice.result.now lists (subst (λ (ps : List ListPlace). ArePlaces net ps lists) (sym c.as_slice.ensures.value) c.in-Ok.ensures) all is) c.idle_at_places.ensures.idle

pub returns-clause-full : goal.returns-clause-full
returns-clause-full g c =
    subst (λ (may : List Tree). IfErr c.idle_at_places.result.1 (λ e. e ≡ Full → c.args.nodes.now.capacity < distinct_count same_tree may)) c.requires.may
    (full_means_more c.idle_at_places.result.1 c.args.nodes.now c.idle_at_places.result.0 c.idle_at_places.ensures.cause)
