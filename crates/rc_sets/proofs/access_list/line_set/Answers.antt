-- What a line tests behind its ports, one test after another.
use Rattle.std.proofs.Common.{sym, subst, ap}
use Rattle.rc_trees.specs.Combine as trees
use Rattle.rc_trees.specs.Recipes.{tree}
use Rattle.rc_sets.specs.AccessLists.{way_set, type_set, code_set, flag_set}
use Rattle.rc_sets.proofs.LineLaws.{IsKnownAs, typed, coded, line_is, has_way, has_type, has_typed, has_code, has_coded, has_flags, has_flagged, may_and, operated}
use Rattle.rc_sets.proofs.access_list.line_set.Goals as goal

pub way_set-requires-clause-may : goal.way_set-requires-clause-may
way_set-requires-clause-may g c = has_way c.args.line.now c.args.nodes.now.may c.requires.may

pub type_set-requires-clause-may : goal.type_set-requires-clause-may
type_set-requires-clause-may g c = has_type c.args.line.now c.args.nodes.now.may c.requires.may

pub code_set-requires-clause-may : goal.code_set-requires-clause-may
code_set-requires-clause-may g c = has_code c.args.line.now c.args.nodes.now.may c.requires.may

pub flag_set-requires-clause-may : goal.flag_set-requires-clause-may
flag_set-requires-clause-may g c = has_flags c.args.line.now c.args.nodes.now.may c.requires.may

pub and-requires-clause-may : goal.and-requires-clause-may
and-requires-clause-may g c =
    let l = c.args.line.now in
    let first = c.type_set.ensures.keeps c.in_ok-way.way.index (tree (way_set l)) c.in_ok-way.ensures.set in
    may_and c.args.nodes.now c.type_set.new.work c.in_ok-way.way.index c.in_ok-icmp_type.icmp_type.index (way_set l) (type_set l.further) first c.in_ok-icmp_type.ensures.set (has_typed l c.args.nodes.now.may c.requires.may)

pub and-requires-2-clause-may : goal.and-requires-2-clause-may
and-requires-2-clause-may g c =
    let l = c.args.line.now in
    let first = c.type_set.ensures.keeps c.in_ok-way.way.index (tree (way_set l)) c.in_ok-way.ensures.set in
    let second = c.code_set.ensures.keeps c.in_ok-typed.typed.index (tree (typed l)) (c.in_ok-typed.ensures.and (tree (way_set l)) (tree (type_set l.further)) first c.in_ok-icmp_type.ensures.set) in
    may_and c.args.nodes.now c.code_set.new.work c.in_ok-typed.typed.index c.in_ok-code.code.index (typed l) (code_set l.further) second c.in_ok-code.ensures.set (has_coded l c.args.nodes.now.may c.requires.may)

pub and-requires-3-clause-may : goal.and-requires-3-clause-may
and-requires-3-clause-may g c =
    let l = c.args.line.now in
    let first = c.type_set.ensures.keeps c.in_ok-way.way.index (tree (way_set l)) c.in_ok-way.ensures.set in
    let second = c.code_set.ensures.keeps c.in_ok-typed.typed.index (tree (typed l)) (c.in_ok-typed.ensures.and (tree (way_set l)) (tree (type_set l.further)) first c.in_ok-icmp_type.ensures.set) in
    let third = c.flag_set.ensures.keeps c.in_ok-coded.coded.index (tree (coded l)) (c.in_ok-coded.ensures.and (tree (typed l)) (tree (code_set l.further)) second c.in_ok-code.ensures.set) in
    may_and c.args.nodes.now c.flag_set.new.work c.in_ok-coded.coded.index c.in_ok-flags.flags.index (coded l) (flag_set l.further) third c.in_ok-flags.ensures.set (has_flagged l c.args.nodes.now.may c.requires.may)

pub returns-clause-set : goal.returns-clause-set
returns-clause-set g c =
    let l = c.args.line.now in
    let first = c.type_set.ensures.keeps c.in_ok-way.way.index (tree (way_set l)) c.in_ok-way.ensures.set in
    let second = c.code_set.ensures.keeps c.in_ok-typed.typed.index (tree (typed l)) (c.in_ok-typed.ensures.and (tree (way_set l)) (tree (type_set l.further)) first c.in_ok-icmp_type.ensures.set) in
    let third = c.flag_set.ensures.keeps c.in_ok-coded.coded.index (tree (coded l)) (c.in_ok-coded.ensures.and (tree (typed l)) (tree (code_set l.further)) second c.in_ok-code.ensures.set) in
    subst (IsKnownAs c.and-3.new.self c.and-3.result) (ap tree (sym (line_is l)))
    (operated c.flag_set.new.work c.and-3.new.self trees.and c.in_ok-coded.coded.index c.in_ok-flags.flags.index (tree (coded l)) (tree (flag_set l.further)) third c.in_ok-flags.ensures.set c.and-3.result c.and-3.ensures.and)
