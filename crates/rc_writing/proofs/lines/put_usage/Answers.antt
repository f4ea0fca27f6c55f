use Rattle.std.proofs.Common.{rules, ◌≡◌, ◌<◌, List, [], length, get_or, Bor, ℕ, arith}
use Rattle.std.proofs.lemmas.List.{get_or_default}
use Rattle.rc_outside.proofs.PutLaws.{each_put, each_stopped}
use Rattle.rc_writing.proofs.lines.put_usage.Goals as goal

-- what stands past the end of a list of texts
abbrev nothing : Bor (List ℕ)
nothing = record { ref_ptr = (0, 0); now = [] }

pub returns-in_err-put_piece : goal.returns-in_err-put_piece
returns-in_err-put_piece g c =
    let lines = c.usage_lines-lines.result in
    let i = c.loop-text.text-index in
    let line = get_or lines i nothing in
    let long : length lines ≡ 9 = search rules in
    let less : i < length lines = omega (arith, long) in
    rw (← c.usage_lines-lines.ensures) (each_stopped (λ t. t.now) lines i line c.from_residual.ensures.0 less (get_or_default lines i nothing line less) c.loop-text.invariant c.in_err-put_piece.ensures)

pub loop-text-preserved : goal.loop-text-preserved
loop-text-preserved g c =
    let lines = c.usage_lines-lines.result in
    let i = c.loop-text.text-index in
    let line = get_or lines i nothing in
    let long : length lines ≡ 9 = search rules in
    let less : i < length lines = omega (arith, long) in
    each_put (λ t. t.now) lines i line less (get_or_default lines i nothing line less) c.loop-text.invariant c.in_ok-put_piece.ensures
