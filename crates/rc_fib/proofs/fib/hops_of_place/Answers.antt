use Rattle.std.proofs.Common.{◌≡◌, ap, sym, ◌∙◌, refl, nat_le, length, slice_get, rules, [], Option, Some, None}
use Rattle.std.specs.Option.{option_map_or}
use Rattle.std.proofs.lemmas.List.Sorted.{IsPartitionPoint-from_clause}
use Rattle.std.proofs.lemmas.Option.{slice_get_past, slice_get_read}
use Rattle.rc_fib.specs.declared.stretch.Stretch.{Stretch}
use Rattle.rc_fib.proofs.StretchLaws.{ends_rise, found_there}
use Rattle.rc_fib.proofs.fib.hops_of_place.Goals as goal

pub returns-in-Some : goal.returns-in-Some
returns-in-Some c =
    let ss = c.args.stretches.now in
    let k = c.partition_point-before.result in
    let point = IsPartitionPoint-from_clause (λ (s : Stretch). nat_le s.end c.args.place) ss k c.partition_point-before.ensures.partitioned (ends_rise c.args.place 0 ss c.requires) (λ a r q called. search rules) in
    let there : slice_get ss k ≡ Some c.in-Some.stretch.now = slice_get_read ss (length ss) k c.in-Some.stretch.now refl (search rules) (search rules) in
    c.as_slice.ensures ∙ ap (λ (o : Option Stretch). option_map_or (λ (s : Stretch). s.hops) o []) (sym there) ∙ found_there c.args.place ss k c.partition_point-before.ensures.bound point

pub returns-in-None : goal.returns-in-None
returns-in-None c =
    let ss = c.args.stretches.now in
    let k = c.partition_point-before.result in
    let point = IsPartitionPoint-from_clause (λ (s : Stretch). nat_le s.end c.args.place) ss k c.partition_point-before.ensures.partitioned (ends_rise c.args.place 0 ss c.requires) (λ a r q called. search rules) in
    let there : slice_get ss k ≡ None = slice_get_past ss k (search rules) in
    ap (λ (o : Option Stretch). option_map_or (λ (s : Stretch). s.hops) o []) (sym there) ∙ found_there c.args.place ss k c.partition_point-before.ensures.bound point
