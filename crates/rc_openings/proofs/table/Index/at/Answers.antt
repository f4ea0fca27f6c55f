use Rattle.std.proofs.Common.{◌≡◌, sym, true, false, ◌<◌, arith}
use Rattle.std.proofs.lemmas.Bool.Decides.{nat_tests}
use Rattle.rc_openings.specs.Groups.{is_letter}
use Rattle.rc_openings.proofs.GroupLemmas.{at_letter, none_keyed}
use Rattle.rc_openings.proofs.table.Index.at.Goals as goal
use Rattle.rc_openings.proofs.table.Index.at.Goals.{then-byte-lt65-via-then-byte-lt65, then-byte-lt65-via-else-byte-lt65+then-byte-gt122}

pub returns-then-byte-lt65 : goal.returns-then-byte-lt65
returns-then-byte-lt65 c = λ key rows h.
    let none : is_letter c.args.byte ≡ false = elim c.then-byte-lt65.branch [
      | then-byte-lt65-via-then-byte-lt65 w ↦ let low : c.args.byte < 65 = w.if-byte-lt65.true in grind (arith, nat_tests)
      | then-byte-lt65-via-else-byte-lt65+then-byte-gt122 w ↦ let high : 122 < c.args.byte = w.if-byte-gt122.true in grind (arith, nat_tests)
    ] in
    sym (none_keyed key rows c.args.byte h.placed none)

pub returns : goal.returns
returns c = λ key rows h.
    let low = c.if-byte-lt65.false in
    let high = c.if-byte-gt122.false in
    let letter : is_letter c.args.byte ≡ true = grind (arith, nat_tests) in
    rw (c.part_of.ensures, c.saturating_sub.ensures, c.from-end.ensures, c.from-start.ensures, c.from-place.ensures) (at_letter key c.args.self rows c.args.byte letter h)
