use Rattle.std.proofs.Common.{refl, ◌∙◌, ap, sym, subst, ◌++◌}
use Rattle.std.specs.Option.{option_to_list}
use Rattle.rc_route.specs.Tables.{IsPathList}
use Rattle.rc_bgp.specs.RouterStates.{path_at}
use Rattle.rc_bgp.proofs.ListLaws.{one_made}
use Rattle.rc_bgp.proofs.hearing.add_own_at.Goals as goal

pub push_at-requires : goal.push_at-requires
push_at-requires c = subst IsPathList (sym c.paths-item.is ∙ sym c.as_slice.ensures) (c.requires c.loop-paths.paths-index c.paths-item.result c.loop-paths-test.true)

pub loop-paths-preserved : goal.loop-paths-preserved
loop-paths-preserved c =
    one_made (λ paths. path_at paths c.args.prefix.now) c.args.own.now c.loop-paths.paths-index c.paths-item.result c.loop-paths.made.items c.push_at.new.made.items _ (path_at c.paths-item.result c.args.prefix.now)
    c.loop-paths-test.true c.paths-item.is refl
    (c.in_ok-push_at.ensures ∙ ap (λ xs. c.loop-paths.made.items ++ option_to_list (path_at xs c.args.prefix.now)) c.as_slice.ensures) c.loop-paths.invariant
