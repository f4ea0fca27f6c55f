use Rattle.std.proofs.Common.{map}
use Rattle.rc_outside.specs.Causes.{Rose}
use Rattle.rc_words.specs.Request.{request_of}
use Rattle.rc_analyse.proofs.AnswerLaws.{answer_of_words, complete_of_words, usage_alone, usage_put}
use Rattle.rc_analyse.proofs.runs.run.Goals as goal

pub returns-clause-usage : goal.returns-clause-usage
returns-clause-usage g c =
    let asked = request_of (map (λ w. w.now) c.args.words.now) in
    let made = c.request_of_words-request in
    let said = c.answer_request in
    usage_put asked made.result said.result (g.S.Sink.told c.args.out.now) (g.S.Sink.told said.new.out) made.ensures.taken said.ensures.usage said.ensures.memory

pub returns-clause-usage_only : goal.returns-clause-usage_only
returns-clause-usage_only g c =
    let asked = request_of (map (λ w. w.now) c.args.words.now) in
    let made = c.request_of_words-request in
    let said = c.answer_request in
    usage_alone asked made.result said.result (g.S.Sink.told c.args.out.now) (g.S.Sink.told said.new.out) made.ensures.usage said.ensures.never_usage said.ensures.memory

pub returns-clause-answer : goal.returns-clause-answer
returns-clause-answer g c =
    let asked = request_of (map (λ w. w.now) c.args.words.now) in
    let made = c.request_of_words-request in
    let said = c.answer_request in
    answer_of_words asked made.result (g.F.Folder.told c.args.folder.now) said.result (g.S.Sink.told c.args.out.now) (g.S.Sink.told said.new.out)
    made.ensures.taken made.ensures.usage said.ensures.memory said.ensures.answer

pub returns-clause-complete : goal.returns-clause-complete
returns-clause-complete g c =
    let asked = request_of (map (λ w. w.now) c.args.words.now) in
    let made = c.request_of_words-request in
    let said = c.answer_request in
    complete_of_words asked made.result (g.F.Folder.told c.args.folder.now) said.result (g.S.Sink.told c.args.out.now) (g.S.Sink.told said.new.out)
    (Rose (g.F.Folder.faults c.args.folder.now) (g.F.Folder.faults said.new.folder)) (Rose (g.S.Sink.faults c.args.out.now) (g.S.Sink.faults said.new.out))
    made.ensures.taken made.ensures.usage said.ensures.memory said.ensures.complete
