use Rattle.std.proofs.Common.{◌∙◌, ap}
use Rattle.rc_bgp.specs.AllOriginated.{own_paths}
use Rattle.rc_bgp.specs.Candidates.{best_among}
use Rattle.rc_route.specs.declared.best.Best.{Best}
use Rattle.rc_bgp.proofs.AlikeLaws.{decided_updates}
use Rattle.rc_bgp.proofs.BestLaws.{among_has}
use Rattle.rc_bgp.proofs.DecidedLaws.{are_edits}
use Rattle.rc_bgp.proofs.round_paths.updated_paths.Goals as goal

pub returns-clause-in_order : goal.returns-clause-in_order
returns-clause-in_order c = c.in_ok-changed.ensures.taken.in_order

pub returns-clause-updated : goal.returns-clause-updated
returns-clause-updated c =
    let net = c.args.net.now in
    let now = c.args.previous.now in
    let most = c.maximum_of.result in
    let resolver = c.new-resolver.result in
    let own = c.as_slice.result.now in
    let up = c.args.up.now in
    let known = c.paths_of-known.result in
    let ps = c.args.prefixes.now in
    let changed = c.in_ok-changed.changed in
    let edits = c.in_ok-changed.edits.items in
    let table = c.new-resolver.ensures ∙ c.table_of-table.ensures.value in
    let originated = c.as_slice.ensures ∙ c.in_ok-own.ensures.value ∙ ap (λ t. own_paths net t c.args.router) c.table_of-table.ensures.value in
    let edited =
    c.in_ok-paths.ensures.says
    (are_edits (λ (b : Best). b.path.prefix) (best_among net now most resolver own up) known ps (λ p. among_has net now p most resolver own up) changed edits c.in_ok-changed.ensures) in
    decided_updates net c.args.sessions.now c.args.router now ps c.requires.prefixes most resolver own up known c.in_ok-paths.paths changed edits
    c.maximum_of.ensures table originated c.requires.up c.paths_of-known.ensures.value c.paths_of-known.ensures.in_order c.in_ok-changed.ensures edited
