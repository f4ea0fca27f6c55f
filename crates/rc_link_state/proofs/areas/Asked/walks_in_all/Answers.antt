use Rattle.std.proofs.Common.{rules, ◌≡◌, ◌∷◌}
use Rattle.rc_link_state.specs.Asked.{IsAskedArea}
use Rattle.rc_link_state.proofs.KeptLaws.{one_area_more, one_number_more}
use Rattle.rc_link_state.proofs.areas.Asked.walks_in_all.Goals as goal

pub loop-area-preserved : goal.loop-area-preserved
loop-area-preserved g c =
    let next : c.loop-area.area-iterator ≡ c.in-Some.area ∷ c.next.new.self = search rules in
    record {
      each = one_area_more (IsAskedArea c.args.self.now.routers c.args.listed.now c.args.transits.now c.args.self.now.all c.args.self.now.ends.now) _ _ _ c.in_ok-push.ensures.ok c.loop-area.invariant.each c.in_ok-walks_in.ensures.is;
      which = one_number_more _ _ _ _ _ _ _ c.in_ok-push.ensures.ok c.in_ok-walks_in.ensures.area next c.loop-area.invariant.which;
    }
