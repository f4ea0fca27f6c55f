use Rattle.std.proofs.Common.{refl}
use Rattle.rc_writing.specs.Places.{place_text}
use Rattle.rc_writing.specs.Texts.{refused_line, no_place_line}
use Rattle.rc_answers.proofs.PutLaws.{file_put, refused_put, no_place_put}
use Rattle.rc_answers.proofs.answering.answer_files.Goals as goal

pub returns-in-Refused-clause-put : goal.returns-in-Refused-clause-put
returns-in-Refused-clause-put g c = refused_put c.args.request.now c.args.found c.in-Refused.is (c.write.ensures.put (refused_line c.in-Refused.refusal) refl)

pub returns-in-NoPlace-clause-put : goal.returns-in-NoPlace-clause-put
returns-in-NoPlace-clause-put g c = no_place_put c.args.request.now c.args.found c.in-NoPlace.is (c.write-in-NoPlace.ensures.put (no_place_line (place_text c.args.request.now.ask)) refl)

pub returns-in-Lists-clause-put : goal.returns-in-Lists-clause-put
returns-in-Lists-clause-put g c = file_put c.args.request.now c.args.found _ c.in-Lists.is c.answer_lists.ensures.put
