use Rattle.std.proofs.Common.{◌≡◌, true, map}
use Rattle.std.specs.List.{list_all}
use Rattle.std.specs.Prelude.{nat_eq}
use Rattle.rc_openings.specs.Words.{words_left, byte_behind}
use Rattle.rc_openings.specs.Groups.{has_one_word, one_word, starred, more_words}
use Rattle.rc_openings.specs.Opening.{row_of}
use Rattle.rc_openings.proofs.GroupLemmas.{all_left, answer_of_found, group}
use Rattle.rc_openings.proofs.table.Table.decide.Goals as goal

pub returns : goal.returns
returns c =
    λ rows h.
    let line = words_left c.args.line in
    let here : map row_of c.at.result.now ≡ group 0 line (one_word rows) = rw c.first_byte-front.ensures at (c.at.ensures (byte_behind 0) (one_word rows) h.one_word) in
    let ones : list_all has_one_word (map row_of c.at.result.now) ≡ true = rw here (all_left has_one_word (λ r. nat_eq (byte_behind 0 r.words) (byte_behind 0 line)) (one_word rows) h.ones) in
    let first = rw (here, c.text.ensures) at (c.first_fitting-one_word.ensures ones) in
    let all = c.decide_from.ensures _ (more_words rows) h.more_words c.first_byte-front.ensures (c.decide_from-starred.ensures _ (starred rows) h.starred c.first_byte-front.ensures first) in
    answer_of_found c.args.self rows line _ h all
