use Rattle.std.proofs.Common.{◌≡◌, ◌+◌, ◌++◌, ◌∷◌, [], sym, ◌∙◌, arith}
use Rattle.std.proofs.lemmas.List.FromFn.{map-range_with_len_more}
use Rattle.rc_generate.specs.Files.{file_name}
use Rattle.rc_generate.proofs.names.file_names.Goals as goal

pub loop-router-preserved : goal.loop-router-preserved
loop-router-preserved c =
    let i = c.loop-router.router in
    let at_end : 0 + i ≡ i = omega arith in
    let name = c.new.ensures ∙ c.in_ok-name.ensures in
    let names = c.loop-router.invariant in
    c.in_ok-push.ensures.items ∙ (λ j. names j ++ name j ∷ []) ∙ sym (map-range_with_len_more file_name 0 i i at_end)
