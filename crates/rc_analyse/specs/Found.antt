-- What the code finds, which stands for what is found of files.
use Rattle.std.specs.Prelude.{◌≡◌, ℕ, List, Option, IfSome}
use Rattle.rc_config.specs.Lawful.{IsLawful, IsPosition}
use Rattle.rc_config.specs.declared.network.Network.{Network}
use Rattle.rc_moves.specs.Moves.{tables_of}
use Rattle.rc_outside.specs.Folder.{File}
use Rattle.rc_reach.specs.Asked.{place_of}
use Rattle.rc_route.specs.declared.outcome.Outcome.TheVariants.{Fixed}
use Rattle.rc_route.specs.declared.state.RouterState.{RouterState}
use Rattle.rc_topology.specs.Ports.{links_of}
use Rattle.rc_words.specs.declared.request.Limits.{Limits}
use Rattle.rc_words.specs.declared.request.Request.{Request}
use Rattle.rc_writing.specs.declared.status.Status.{Status}
use Rattle.rc_answers.specs.Sound.{IsSound}
use Rattle.rc_answers.specs.Written.{IsPutOf}
use Rattle.rc_answers.specs.declared.findings.BeforeRounds.{BeforeRounds}
use Rattle.rc_answers.specs.declared.findings.Findings.{Findings}
use Rattle.rc_answers.specs.declared.findings.Findings.TheVariants.{Ended}
use Rattle.rc_answers.specs.declared.subject.Subject.{Subject}
use Rattle.rc_answers.specs.declared.subject.Subject.TheVariants.{Packets}
use Rattle.rc_analyse.specs.Answer.{AreFound}
use Rattle.rc_analyse.specs.Sound.{IsEndedAs, IsFoundAs}
use Rattle.rc_analyse.specs.declared.found.Found.{Found}
use Rattle.rc_analyse.specs.declared.found.Found.TheVariants.{Whole, Prepared}

-- it is this; or it is a network at a fixed point, whose prepared tables are those of the state
abbrev pub StandsFor : Found → Findings → Type 0
StandsFor (Whole found) f = f ≡ found
StandsFor (Prepared net alone packets) f = (state : List RouterState) × (alone.tables ≡ tables_of state) × (f ≡ Ended net (Fixed alone.round state) (Packets packets))

-- what it stands for is in order, and asks for what the network has
abbrev pub IsSoundFound : Found → Type 0
IsSoundFound (Whole found) = IsSound found
IsSoundFound (Prepared net alone packets) = IsLawful net × (alone.links ≡ links_of net) × IsPosition net (place_of packets.asked)

-- it stands for the network with the outcome of its rounds
abbrev pub IsEndedFor : Network → Limits → Subject → Found → Type 0
IsEndedFor net limits subject found = (f : Findings) × StandsFor found f × IsEndedAs net limits subject f

-- it stands for what is found of what is asked
abbrev pub IsFoundFor : Limits → BeforeRounds → Found → Type 0
IsFoundFor limits known found = (f : Findings) × StandsFor found f × IsFoundAs limits known f

-- it stands for what the files, where they are told, are found to be
abbrev pub AreFoundFor : Option (List File) → Request → Found → Type 0
AreFoundFor told r found = (f : Findings) × StandsFor found f × IfSome told (λ files. AreFound files r f)

-- whatever it stands for is written as that gives; or nothing is, where something is lacking
abbrev pub IsPutFor : Request → Found → Status → Option (List ℕ) → Option (List ℕ) → Type 0
IsPutFor r found answer old new = (f : Findings) → StandsFor found f → IsPutOf r f answer old new
