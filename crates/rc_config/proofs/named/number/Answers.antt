use Rattle.std.proofs.lemmas.Option.{slice_get-get_or}
use Rattle.rc_config.proofs.NamedLaws.{number_start, has_place, number_next, number_end}
use Rattle.rc_config.proofs.named.number.Goals as goal

pub loop-index-init : goal.loop-index-init
loop-index-init g c = number_start c.args.places.now.entries c.args.entries.now c.requires.names

pub note-requires : goal.note-requires
note-requires g c =
    has_place c.loop-index.places.entries c.args.entries.now c.loop-index.index _ c.requires.distinct (slice_get-get_or c.args.entries.now c.loop-index.index c.index-entries-index.result c.loop-index-test.true) c.loop-index.invariant

pub loop-index-preserved : goal.loop-index-preserved
loop-index-preserved g c =
    number_next c.loop-index.places.entries c.note.new.places.entries c.args.entries.now c.loop-index.index _ c.requires.distinct
    (slice_get-get_or c.args.entries.now c.loop-index.index c.index-entries-index.result c.loop-index-test.true) c.loop-index.invariant c.note.ensures

pub returns : goal.returns
returns g c = number_end c.loop-index.places.entries c.args.entries.now c.loop-index.index c.loop-index-test.false c.requires.distinct c.loop-index.invariant
