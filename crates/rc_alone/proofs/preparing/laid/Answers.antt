use Rattle.std.proofs.Common.{◌∙◌, subst, []}
use Rattle.rc_route.specs.Tables.{IsTable}
use Rattle.rc_alone.proofs.LayingLaws.{all_laid, no_step}
use Rattle.rc_alone.proofs.preparing.laid.Goals as goal

pub returns : goal.returns
returns c =
    let start = c.in_ok-laying.laying in
    all_laid start c.take_all.new.taking _ _ (c.in_ok-laying.ensures.connected ∙ c.in_ok-own.ensures.value) c.in_ok-laying.ensures.made
    (subst IsTable c.in_ok-own.ensures.value c.in_ok-own.ensures.in_order) c.requires (c.in_ok-take_all.ensures start [] (no_step start []))
