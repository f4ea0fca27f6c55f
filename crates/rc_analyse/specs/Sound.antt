-- What is found of what is asked of a network, or of the refusal of one.
use Rattle.std.specs.Prelude.{◌≡◌, List, []}
use Rattle.rc_config.specs.Lawful.{IsLawful}
use Rattle.rc_config.specs.declared.network.Network.{Network}
use Rattle.rc_failures.specs.Failures.{AreFailures}
use Rattle.rc_report.specs.declared.failures.FailRow.{FailRow}
use Rattle.rc_rounds.specs.Rounds.{IsOutcome}
use Rattle.rc_route.specs.Outcomes.{end_of}
use Rattle.rc_route.specs.declared.outcome.Outcome.{Outcome}
use Rattle.rc_route.specs.declared.outcome.RoundsEnd.{RoundsEnd}
use Rattle.rc_route.specs.declared.outcome.RoundsEnd.TheVariants.{Fixed}
use Rattle.rc_words.specs.declared.request.Limits.{Limits}
use Rattle.rc_answers.specs.Sound.{StartsIn}
use Rattle.rc_answers.specs.declared.findings.BeforeRounds.{BeforeRounds}
use Rattle.rc_answers.specs.declared.findings.BeforeRounds.TheVariants as before
use Rattle.rc_answers.specs.declared.findings.FileFindings.{FileFindings}
use Rattle.rc_answers.specs.declared.findings.Findings.{Findings}
use Rattle.rc_answers.specs.declared.findings.Findings.TheVariants.{OfFiles, Ended, Failures}
use Rattle.rc_answers.specs.declared.subject.Arrival.{Arrival}
use Rattle.rc_answers.specs.declared.subject.Subject.{Subject}

-- it is the network with the outcome of its rounds
abbrev pub IsEndedAs : Network → Limits → Subject → Findings → Type 0
IsEndedAs net limits subject f = (outcome : Outcome) × (f ≡ Ended net outcome subject) × IsOutcome net limits.rounds outcome

-- the rounds of the network end so, apart from the state of a fixed point
abbrev pub HasEnd : Network → Limits → RoundsEnd → Type 0
HasEnd net limits end = (outcome : Outcome) × (end ≡ end_of outcome) × IsOutcome net limits.rounds outcome

-- at a fixed point of the whole network there is a row for each single link, and else there is none
abbrev pub AreRowsAfter : Network → Limits → Arrival → RoundsEnd → List FailRow → Type 0
AreRowsAfter net limits arrival (Fixed k) rows = AreFailures net limits.rounds arrival.place arrival.header arrival.ends rows
AreRowsAfter net limits arrival end rows = rows ≡ []

-- it is the network with how its rounds end, and with what each single link's failure does
abbrev pub IsFailuresAs : Network → Limits → Arrival → Findings → Type 0
IsFailuresAs net limits arrival f = (end : RoundsEnd) × (rows : List FailRow) × (f ≡ Failures net end rows) × HasEnd net limits end × AreRowsAfter net limits arrival end rows

-- what the files alone tell, or their network with the outcome of its rounds, or with what each single link's failure does
abbrev pub IsFoundAs : Limits → BeforeRounds → Findings → Type 0
IsFoundAs limits (before.OfFiles found) f = f ≡ OfFiles found
IsFoundAs limits (before.OfRounds net subject) f = IsEndedAs net limits subject f
IsFoundAs limits (before.OfFailures net arrival) f = IsFailuresAs net limits arrival f

-- what the code knows before rounds: a network is lawful, and packets start in it
abbrev pub IsSoundBefore : BeforeRounds → Type 0
IsSoundBefore (before.OfFiles found) = Unit {0}
IsSoundBefore (before.OfRounds net subject) = IsLawful net × StartsIn net subject
IsSoundBefore (before.OfFailures net arrival) = IsLawful net

-- a fact about what the files alone tell, where that is what is asked
abbrev pub IfOfFiles : BeforeRounds → (FileFindings → Type 0) → Type 0
IfOfFiles (before.OfFiles found) P = P found
IfOfFiles (before.OfRounds net subject) P = Unit {0}
IfOfFiles (before.OfFailures net arrival) P = Unit {0}
