use Rattle.std.proofs.Common.{◌∙◌, ◌++◌, ap}
use Rattle.rc_network.specs.Undefined.{least_line, of_kind}
use Rattle.rc_network.specs.declared.undefined.NamedKind.TheVariants as kind
use Rattle.rc_network.proofs.LeastLaws.{both_parts}
use Rattle.rc_network.proofs.undefined.least_of_entry.Goals as goal

pub returns : goal.returns
returns c =
    let r = c.args.file.now in
    let e = c.args.entry.now in
    let access = of_kind kind.AccessList e.access_lists in
    let prefix = of_kind kind.PrefixList e.prefix_lists in
    let community = of_kind kind.CommunityList e.community_lists in
    let of_access = c.least_of-of_access.ensures ∙ ap (λ ms. least_line r (of_kind kind.AccessList ms)) c.as_slice.ensures in
    let of_prefix = c.least_of-of_prefix.ensures ∙ ap (λ ms. least_line r (of_kind kind.PrefixList ms)) c.as_slice-2.ensures in
    let of_community = c.least_of-of_community.ensures ∙ ap (λ ms. least_line r (of_kind kind.CommunityList ms)) c.as_slice-communities.ensures in
    both_parts r (access ++ prefix) community c.lower.result c.least_of-of_community.result c.lower-2.result
    (both_parts r access prefix c.least_of-of_access.result c.least_of-of_prefix.result c.lower.result of_access of_prefix c.lower.ensures)
    of_community c.lower-2.ensures
