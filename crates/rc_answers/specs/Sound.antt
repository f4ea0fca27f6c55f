-- What the code knows of what it found, beside what the definitions of the answer say.
use Rattle.std.specs.Prelude.{length}
use Rattle.rc_config.specs.Lawful.{IsLawful, IsPosition}
use Rattle.rc_config.specs.declared.network.Network.{Network}
use Rattle.rc_reach.specs.Asked.{place_of}
use Rattle.rc_route.specs.Outcomes.{IsInOrder}
use Rattle.rc_route.specs.declared.outcome.Outcome.{Outcome}
use Rattle.rc_answers.specs.declared.findings.Findings.{Findings}
use Rattle.rc_answers.specs.declared.findings.Findings.TheVariants.{Ended}
use Rattle.rc_answers.specs.declared.subject.Question.{Question}
use Rattle.rc_answers.specs.declared.subject.Question.TheVariants.{OfLists, OfTables, OfFailures}
use Rattle.rc_answers.specs.declared.subject.Subject.{Subject}
use Rattle.rc_answers.specs.declared.subject.Subject.TheVariants.{Packets}

-- where packets start is a position of the network
abbrev pub StartsIn : Network → Subject → Type 0
StartsIn net (Packets set) = IsPosition net (place_of set.asked)
StartsIn net _ = Unit {0}

-- so it is with what is asked about the network
abbrev pub AsksWithin : Network → Question → Type 0
AsksWithin net (OfTables subject) = StartsIn net subject
AsksWithin net (OfLists routers) = Unit {0}
AsksWithin net (OfFailures arrival) = Unit {0}

-- the network is lawful, the state of a fixed point is in its order, and what is asked about is in the network
pub record IsSoundEnd (net : Network) (outcome : Outcome) (subject : Subject) : Type 0 where
  pub lawful : IsLawful net
  pub state : IsInOrder (length net.routers) outcome
  pub starts : StartsIn net subject

-- what was found is in order, and asks for what the network has
abbrev pub IsSound : Findings → Type 0
IsSound (Ended net outcome subject) = IsSoundEnd net outcome subject
IsSound _ = Unit {0}
