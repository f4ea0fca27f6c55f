use Rattle.rc_openings.specs.Words.{words_left, byte_behind}
use Rattle.rc_openings.specs.Groups.{one_word, starred, more_words}
use Rattle.rc_openings.proofs.GroupLemmas.{form_of_found}
use Rattle.rc_openings.proofs.table.Table.begins_form.Goals as goal

pub returns : goal.returns
returns c =
    λ rows h.
    let ones = rw (c.at.ensures (byte_behind 0) (one_word rows) h.one_word, c.first_byte.ensures) at c.begins_form-one_word.ensures in
    let stars = rw (c.at-2.ensures (starred rows) h.starred) at c.begins_form-starred.ensures in
    let more = rw (c.at-3.ensures (more_words rows) h.more_words) at c.begins_form-more_words.ensures in
    rw (c.is_one_of_three.ensures, ones, stars, more) (form_of_found c.args.self rows (words_left c.args.line) h)
