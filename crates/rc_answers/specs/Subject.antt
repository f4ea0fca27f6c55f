-- What of a network is asked about.
use Rattle.std.specs.Prelude.{ℕ, List, Option, Some, None, Result, Ok, Err}
use Rattle.std.specs.Option.{option_and_then, option_map}
use Rattle.rc_base.specs.Name.{name_of}
use Rattle.rc_base.specs.declared.position.Pos.{Pos}
use Rattle.rc_base.specs.declared.position.Pos.TheVariants.{Own, Entering}
use Rattle.rc_config.specs.Members.{router_named, interface_named}
use Rattle.rc_config.specs.declared.network.Network.{Network}
use Rattle.rc_network.specs.declared.refusal.NetRefusal.{NetRefusal}
use Rattle.rc_reach.specs.Uneven.{arrivals}
use Rattle.rc_reach.specs.declared.asked.Asked.TheVariants.{Reaching, Looping, Uneven}
use Rattle.rc_words.specs.declared.request.Ask.{Ask}
use Rattle.rc_words.specs.declared.request.Ask.TheVariants.{Routes, Trace, Reach, Loops, Lines, Failures, Summary}
use Rattle.rc_words.specs.declared.request.Ask.TheVariants as ask
use Rattle.rc_words.specs.declared.request.PlaceName.{PlaceName}
use Rattle.rc_writing.specs.Places.{sample_place}
use Rattle.rc_answers.specs.declared.findings.BeforeRounds.{BeforeRounds}
use Rattle.rc_answers.specs.declared.findings.BeforeRounds.TheVariants as before
use Rattle.rc_answers.specs.declared.findings.FileFindings.TheVariants as file
use Rattle.rc_answers.specs.declared.subject.Detail.TheVariants.{Examples, First}
use Rattle.rc_answers.specs.declared.subject.Question.{Question}
use Rattle.rc_answers.specs.declared.subject.Question.TheVariants.{OfLists, OfTables, OfFailures}
use Rattle.rc_answers.specs.declared.subject.Subject.TheVariants.{AllRouters, OneRouter, Packet, Packets}

-- the router that a text names; a text that is no name names none
abbrev pub router_of_text : Network → List ℕ → Option ℕ
router_of_text net text = option_and_then (router_named net) (name_of text)

-- at a router, or entering it by the interface of a name
abbrev pub position_at : Network → ℕ → Option (List ℕ) → Option Pos
position_at net r None = Some (Own r)
position_at net r (Some name) = option_map Entering (interface_named net r name)

-- the position of a place, where the network has the router and, if one is named, the interface; whether it is up is not asked
abbrev pub position_named : Network → PlaceName → Option Pos
position_named net place = option_and_then (λ r. position_at net r place.interface) (router_named net place.router)

-- what of the network is asked about, and none where it has no such router or interface
abbrev pub question_of : Network → Ask → Option Question
question_of net (Routes None) = Some (OfTables AllRouters)
question_of net (Routes (Some text)) = option_map (λ r. OfTables (OneRouter r)) (router_of_text net text)
question_of net (Trace place header) = option_map (λ q. OfTables (Packet q header)) (position_named net place)
question_of net (Reach place ends examples) = option_map (λ q. OfTables (Packets (record { asked = Reaching q ends; detail = Examples examples }))) (position_named net place)
question_of net (Loops place examples) = option_map (λ q. OfTables (Packets (record { asked = Looping q; detail = Examples examples }))) (position_named net place)
question_of net (ask.Uneven place examples) = option_map (λ q. OfTables (Packets (record { asked = Uneven q; detail = Examples examples }))) (position_named net place)
question_of net (Lines None) = Some (OfLists None)
question_of net (Lines (Some text)) = option_map (λ r. OfLists (Some r)) (router_of_text net text)
question_of net (Failures place header ends) = option_map (λ q. OfFailures (record { place = q; header = header; ends = ends })) (position_named net place)
question_of net Summary = option_map (λ q. OfTables (Packets (record { asked = Reaching q arrivals; detail = First }))) (position_named net sample_place)

-- where there is such a router or interface the rounds have to be run, of the network alone or also without each single link, or the lists alone tell what is asked; and else the files tell that there is none
abbrev pub question_at : Network → Option Question → BeforeRounds
question_at net None = before.OfFiles file.NoPlace
question_at net (Some (OfLists routers)) = before.OfFiles (file.Lists net routers)
question_at net (Some (OfTables subject)) = before.OfRounds net subject
question_at net (Some (OfFailures arrival)) = before.OfFailures net arrival

-- what the files alone tell, as their first refusal, or their network and what of it is asked about once its rounds have ended
abbrev pub before_rounds : Result Network NetRefusal → Ask → BeforeRounds
before_rounds (Err refusal) ask = before.OfFiles (file.Refused refusal)
before_rounds (Ok net) ask = question_at net (question_of net ask)
