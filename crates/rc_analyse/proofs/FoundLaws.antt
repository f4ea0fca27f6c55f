-- What the network of files is found to be.
use Rattle.std.proofs.Common.{refl, ◌≡◌, subst, List, Option, Some, None, Result, Ok, Err, IfOk, IfSome}
use Rattle.rc_config.specs.Lawful.{IsLawful}
use Rattle.rc_config.specs.declared.network.Network.{Network}
use Rattle.rc_network.specs.declared.refusal.NetRefusal.{NetRefusal}
use Rattle.rc_outside.specs.Folder.{File}
use Rattle.rc_route.specs.declared.outcome.Outcome.TheVariants.{Fixed}
use Rattle.rc_words.specs.declared.request.Ask.{Ask}
use Rattle.rc_words.specs.declared.request.Limits.{Limits}
use Rattle.rc_words.specs.declared.request.Request.{Request}
use Rattle.rc_answers.proofs.SubjectLaws.{asked_is_there}
use Rattle.rc_answers.specs.Subject.{before_rounds, question_at, question_of}
use Rattle.rc_answers.specs.declared.findings.Findings.{Findings}
use Rattle.rc_answers.specs.declared.findings.Findings.TheVariants.{Ended}
use Rattle.rc_answers.specs.declared.subject.PacketSet.{PacketSet}
use Rattle.rc_answers.specs.declared.subject.Subject.TheVariants.{Packets}
use Rattle.rc_answers.specs.declared.subject.Question.{Question}
use Rattle.rc_answers.specs.declared.subject.Question.TheVariants.{OfLists, OfTables, OfFailures}
use Rattle.rc_alone.specs.Alone.{AreTablesAlone}
use Rattle.rc_alone.specs.declared.tables.Alone.{Alone}
use Rattle.rc_analyse.specs.Answer.{AreFound, dir_of}
use Rattle.rc_analyse.specs.Found.{AreFoundFor, IsEndedFor, IsFoundFor}
use Rattle.rc_analyse.specs.declared.found.Found.{Found}
use Rattle.rc_analyse.specs.declared.found.Found.TheVariants.{Prepared}
use Rattle.rc_loading.specs.Net.{IsNet}
use Rattle.rc_analyse.specs.Sound.{IsFoundAs, IsSoundBefore}

-- what is asked of a lawful network is in it
asked-sound : (net : Network) (ask : Ask) (question : Option Question) → IsLawful net → question_of net ask ≡ question → IsSoundBefore (question_at net question)
asked-sound net ask None lawful is = tt
asked-sound net ask (Some (OfLists router)) lawful is = tt
asked-sound net ask (Some (OfFailures arrival)) lawful is = lawful
asked-sound net ask (Some (OfTables subject)) lawful is = (lawful, asked_is_there net ask (OfTables subject) is)

pub asked_sound : (net : Result Network NetRefusal) (ask : Ask) → IfOk net IsLawful → IsSoundBefore (before_rounds net ask)
asked_sound (Ok net) ask lawful = asked-sound net ask (question_of net ask) lawful refl
asked_sound (Err refusal) ask lawful = tt

pub are_found : (told : Option (List File)) (r : Request) (net : Result Network NetRefusal) (f : Findings) → IfSome told (λ files. IsNet (dir_of r.source) files net) → IsFoundAs r.limits (before_rounds net r.ask) f
    → IfSome told (λ files. AreFound files r f)
are_found None r net f is f_of = tt
are_found (Some files) r net f is f_of = (net, is, f_of)

-- what the code finds stands for what files are found to be
pub found_for : (told : Option (List File)) (r : Request) (net : Result Network NetRefusal) (found : Found) → IfSome told (λ files. IsNet (dir_of r.source) files net) → IsFoundFor r.limits (before_rounds net r.ask) found → AreFoundFor told r found
found_for told r net found is (f, stands, f_of) = (f, stands, are_found told r net f is f_of)

-- prepared tables of a fixed point stand for how the rounds of a network end
pub ended_alone : (net : Network) (limits : Limits) (packets : PacketSet) (found : Option Alone) (alone : Alone)
    → IfSome found (λ a. AreTablesAlone net limits.rounds a.links a.tables a.round) → found ≡ Some alone → IsEndedFor net limits (Packets packets) (Prepared net alone packets)
ended_alone net limits packets found alone are is = by (subst (λ o. IfSome o (λ a. AreTablesAlone net limits.rounds a.links a.tables a.round)) is are)
  where
    by : AreTablesAlone net limits.rounds alone.links alone.tables alone.round → IsEndedFor net limits (Packets packets) (Prepared net alone packets)
    by a = (Ended net (Fixed alone.round a.state) (Packets packets), (a.state, a.prepared, refl), (Fixed alone.round a.state, refl, a.outcome))
