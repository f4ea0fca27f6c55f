use Rattle.std.proofs.Common.{sym, ◌∙◌, map}
use Rattle.std.proofs.lemmas.Result.{IfOk-weaker}
use Rattle.rc_ospf.specs.Members.{known}
use Rattle.rc_ospf.specs.Wanted.{Suffice}
use Rattle.rc_ospf.proofs.WantedLaws.{all_suffice, none_suffice, any_suffices}
use Rattle.rc_ospf.proofs.summaries.summaries_wanted.Goals as goal

pub returns : goal.returns
returns c =
    let routers = map (known c.args.stubs) c.args.members.now in
    IfOk-weaker c.summaries_of.result _ (Suffice routers c.args.is_default c.args.inside.now) (λ s are. all_suffice routers c.args.is_default c.args.inside.now s are) c.summaries_of.ensures

pub returns-then-not-has_border : goal.returns-then-not-has_border
returns-then-not-has_border c = none_suffice c.args.stubs c.args.members.now c.args.is_default c.args.inside.now _ c.no_summaries.ensures (sym c.requires ∙ c.if-not-has_border.true)

pub returns-then-not-is_lacked : goal.returns-then-not-is_lacked
returns-then-not-is_lacked c = any_suffices c.args.stubs c.args.members.now c.args.is_default c.args.inside.now _ (sym c.is_lacked.ensures ∙ c.if-not-is_lacked.true)
