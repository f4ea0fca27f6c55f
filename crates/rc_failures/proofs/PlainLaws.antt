-- Routes in parts that say where a packet goes.
use Rattle.std.proofs.Common.{◌≡◌, ◌&&◌, List, [], ◌∷◌, ap, sym, ◌∙◌, refl}
use Rattle.std.specs.Arc.{arc_value}
use Rattle.std.specs.List.{list_all}
use Rattle.std.specs.declared.alloc.Global.{Global}
use Rattle.std.specs.declared.sync.Arc.{Arc}
use Rattle.std.proofs.lemmas.List.Folds.{list_all-append}
use Rattle.rc_route.specs.Parts.{joined_parts}
use Rattle.rc_route.specs.declared.route.Route.{Route}
use Rattle.rc_failures.specs.AtAddress.{is_plain, is_plain_part}

-- all parts do where all routes do
pub parts_are_plain : (parts : List (Arc (List Route) Global)) → list_all is_plain_part parts ≡ list_all is_plain (joined_parts parts)
unfolding is_plain_part
parts_are_plain [] = refl
parts_are_plain (part ∷ parts) = ap (λ rest. list_all is_plain (arc_value part) && rest) (parts_are_plain parts) ∙ sym (list_all-append is_plain (arc_value part) (joined_parts parts))
