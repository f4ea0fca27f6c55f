use Rattle.std.proofs.Common.{refl, ◌≡◌, sym, ◌∙◌, ◌+◌, ◌≤◌, Bool, not, nat_lt, List, filter, length, arith}
use Rattle.std.proofs.lemmas.Bool.{le-ltb}
use Rattle.std.proofs.lemmas.List.Filters.{length-filter_both}
use Rattle.rc_ospf_interfaces.specs.declared.interface.OspfInterface.{OspfInterface}
use Rattle.rc_link_state.specs.Whole.{is_whole}
use Rattle.rc_link_state.proofs.whole.has_network.Goals as goal

of_few : (p : OspfInterface → Bool) (xs : List OspfInterface) → length xs ≤ 3 → nat_lt 3 (length xs) ≡ nat_lt 3 (length (filter p xs))
of_few p xs few =
    let all : length (filter p xs) + length (filter (λ x. not (p x)) xs) ≡ length xs = length-filter_both p (λ x. not (p x)) (λ x. refl) xs in
    let fewer : length (filter p xs) ≤ 3 = omega (arith, few, all) in le-ltb 3 (length xs) few ∙ sym (le-ltb 3 (length (filter p xs)) fewer)

pub returns-else-members-gt-FEW : goal.returns-else-members-gt-FEW
returns-else-members-gt-FEW c = of_few (is_whole c.args.links.now) c.args.members.now c.if-members-gt-FEW.false
