use Rattle.std.proofs.Common.{◌∙◌, ap, sym, subst}
use Rattle.std.specs.List.Sorted.{IsStrictlySortedBy}
use Rattle.rc_base.specs.Prefix.{prefix_cmp}
use Rattle.rc_bgp.specs.Changes.{changed_at_senders}
use Rattle.rc_route.specs.Tables.{IsBestList}
use Rattle.rc_bgp.proofs.AlikeLaws.{best_up, updated_covered, updated_is_best}
use Rattle.rc_bgp.proofs.round_paths.paths_again.Goals as goal

pub returns-clause-paths : goal.returns-clause-paths
returns-clause-paths c =
    let net = c.args.net.now in
    let old = c.args.earlier.now in
    let now = c.args.previous.now in
    let changes = c.args.changes.now in
    let inside = c.args.changes_inside.now in
    let these = c.as_slice-4.ensures ∙ c.in_ok-prefixes.ensures.value ∙ ap (changed_at_senders net old now changes inside) (c.as_slice.ensures ∙ c.in_ok-up.ensures) in
    updated_is_best net c.args.sessions.now c.args.router old now c.requires.alike changes inside c.requires.changes c.requires.changes_inside
    c.as_slice-4.result.now c.in_ok-made.made.paths c.in_ok-made.made.changed these c.requires.known c.in_ok-made.ensures.updated

pub returns-clause-in_order : goal.returns-clause-in_order
returns-clause-in_order c = subst IsBestList (sym (returns-clause-paths c)) (best_up c.args.net.now c.args.sessions.now c.args.router c.args.previous.now)

pub returns-clause-changed : goal.returns-clause-changed
returns-clause-changed c =
    updated_covered c.args.net.now c.args.sessions.now c.args.router c.args.previous.now c.as_slice-4.result.now (subst (IsStrictlySortedBy prefix_cmp) (sym c.as_slice-4.ensures) c.in_ok-prefixes.ensures.in_order)
    c.in_ok-made.made.paths c.in_ok-made.made.changed c.in_ok-made.ensures.updated
