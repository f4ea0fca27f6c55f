use Rattle.std.proofs.Common.{rules, refl, ◌≡◌, ◌-◌, subst, suc, length, drop, Some, arith}
use Rattle.std.specs.List.{slice_get}
use Rattle.std.proofs.lemmas.Option.{slice_get_read}
use Rattle.rc_external.specs.BoundaryIndex.{ArePlaces}
use Rattle.rc_external.proofs.PlaceLaws.{one_noted}
use Rattle.rc_external.proofs.boundary_index.places_of.Goals as goal

pub loop-left-preserved : goal.loop-left-preserved
loop-left-preserved c =
    let paths = c.args.paths.now in
    let k = c.loop-left.left - 1 in
    let one : c.loop-left.left ≡ suc k = omega (arith, c.loop-left-test.true) in
    let at : slice_get paths k ≡ Some c.index-paths-left.result = slice_get_read paths (length paths) k c.index-paths-left.result refl (omega (arith, c.loop-left-test.true, c.loop-left.invariant.within)) c.index-paths-left.is in
    record {
      within = omega (arith, c.loop-left.invariant.within);
      noted = one_noted paths k c.index-paths-left.result c.loop-left.places.items c.note.new.places.items at (search rules)
          (subst (λ n. ArePlaces paths (drop n paths) c.loop-left.places.items) one c.loop-left.invariant.noted);
    }
