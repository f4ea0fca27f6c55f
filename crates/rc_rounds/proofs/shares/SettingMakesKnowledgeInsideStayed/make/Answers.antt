use Rattle.std.proofs.Common.{refl}
use Rattle.rc_rounds.specs.Parts.{AreRead, IsReady}
use Rattle.rc_rounds.proofs.SettingLaws.{are_inputs, told_earlier, told_stayed}
use Rattle.rc_rounds.proofs.shares.SettingMakesKnowledgeInsideStayed.make.Goals as goal

pub table_anew-requires-clause-inputs : goal.table_anew-requires-clause-inputs
unfolding IsReady
table_anew-requires-clause-inputs c =
    let s = c.args.self.now in
    let r : AreRead s c.args.inside.now c.args.read.now c.args.earlier.now = c.requires.ready.0 in
    are_inputs _ s.network.now s.internal.now s.sessions.now s.externals.now c.args.inside.now c.args.read.now refl refl refl refl refl refl r.setting r.state r.externals r.by_prefix r.listed
    (told_earlier s.network.now s.internal.now c.args.read.now c.earlier_of.result s.has_earlier c.args.earlier.now s.changes.now s.changes_inside.now c.earlier_of.ensures r.earlier)

pub table_anew-requires-clause-stayed : goal.table_anew-requires-clause-stayed
unfolding IsReady
table_anew-requires-clause-stayed c =
    let s = c.args.self.now in
    told_stayed s.network.now c.args.stayed.now c.args.read.now c.earlier_of.result s.has_earlier c.args.earlier.now s.changes.now s.changes_inside.now c.earlier_of.ensures c.requires.ready.1
