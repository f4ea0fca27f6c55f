use Rattle.std.proofs.Common.{◌+◌, ◌<◌, ◌≤◌, length, arith}
use Rattle.rc_topology.specs.Links.{all_ids}
use Rattle.rc_walk.proofs.SearchState.{begins, few_found, next_place, place_fits}
use Rattle.rc_walk.proofs.search.seek.Goals as goal

pub loop-search-init : goal.loop-search-init
loop-search-init c = begins c.in_ok-search.search.found c.in_ok-search.search.from.items c.in_ok-search.search.by.items c.in_ok-search.ensures.found c.in_ok-search.ensures.from c.in_ok-search.ensures.by

pub loop-search-smaller : goal.loop-search-smaller
loop-search-smaller c =
    let looked = rw c.in_default.is at c.in_ok-met.ensures in
    let few : length c.look.new.self.found ≤ 1 + length (all_ids c.args.seeking.now.plane.now.links) = few_found looked.way in
    let fits : c.loop-search.place < length c.look.new.self.found = place_fits looked.way in
    let more = c.if-place-len.false in
    let long = c.len.ensures in
    omega arith

pub loop-search-preserved : goal.loop-search-preserved
loop-search-preserved c =
    let looked = rw c.in_default.is at c.in_ok-met.ensures in
    let fits : c.loop-search.place < length c.look.new.self.found = place_fits looked.way in
    let more = c.if-place-len.false in
    let long = c.len.ensures in
    next_place looked.way (omega arith) looked.all
