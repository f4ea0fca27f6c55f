use Rattle.std.proofs.Common.{subst, sym}
use Rattle.rc_analyse.proofs.FoundLaws.{asked_sound}
use Rattle.rc_analyse.specs.Sound.{IsSoundBefore}
use Rattle.rc_analyse.proofs.findings.found_in.Goals as goal

pub findings_of-requires-clause-sound : goal.findings_of-requires-clause-sound
findings_of-requires-clause-sound g c κs within = subst IsSoundBefore (sym c.before_rounds.ensures) (asked_sound c.args.net c.args.request.now.ask c.requires.lawful)
