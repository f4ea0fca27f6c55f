use Rattle.std.proofs.Common.{◌≡◌, subst, true}
use Rattle.std.proofs.lemmas.Result.{IfOk-weaker}
use Rattle.rc_bgp.specs.Candidates.{best_paths}
use Rattle.rc_bgp.specs.Changes.{NothingChanged}
use Rattle.rc_bgp.proofs.AlikeLaws.{all_stay}
use Rattle.rc_bgp.proofs.round_paths.stay_best.Goals as goal

pub returns : goal.returns
returns c =
    let net = c.args.net.now in
    let sessions = c.args.sessions.now in
    let r = c.args.router in
    let old = c.args.earlier.now in
    let now = c.args.previous.now in
    let none = subst (NothingChanged c.args.changes.now c.args.changes_inside.now) c.sessions_of.ensures (c.nothing_changed.ensures c.if-not-nothing_changed.false) in
    IfOk-weaker _ _ (λ stay. stay ≡ true → best_paths net sessions old r ≡ best_paths net sessions now r)
    (λ stay alike is. all_stay net sessions r old now (alike is) c.args.changes.now c.args.changes_inside.now c.requires.changes c.requires.changes_inside none) c.reads_alike.ensures
