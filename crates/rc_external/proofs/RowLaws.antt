-- The rows that are made by putting what is sent under its prefix are the prefixes that are sent, each with what is sent for it.
use Rattle.std.proofs.Common.{refl, ◌≡◌, ap, ◌∙◌, List, [], ◌∷◌, ◌++◌, map, Some, append_assoc}
use Rattle.std.specs.List.{fold, filter_map, cons_option}
use Rattle.std.specs.Option.{option_map}
use Rattle.rc_base.specs.Lists.{in_order}
use Rattle.rc_base.specs.Prefix.{Cidr, prefix_cmp}
use Rattle.rc_base.specs.Groups.{grouped, value_of, value_at}
use Rattle.rc_base.proofs.GroupLaws.{grouped_rows}
use Rattle.rc_external.specs.AsExternal.{AsExternal}
use Rattle.rc_external.specs.ByPrefix.{row_of, with_external}
use Rattle.rc_external.specs.Externals.{by_prefix, prefix_of, row_for, sent_for}

all_sent : (done es : List AsExternal) → fold (λ v e. Some (with_external v e)) (Some done) es ≡ Some (done ++ es)
all_sent done [] = ap Some (nothing done)
  where
    nothing : (xs : List AsExternal) → xs ≡ xs ++ []
    nothing [] = refl
    nothing (x ∷ xs) = ap (λ t. x ∷ t) (nothing xs)
all_sent done (e ∷ es) = all_sent (done ++ e ∷ []) es ∙ ap Some (append_assoc done (e ∷ []) es)

row_is : (p : Cidr) (es : List AsExternal) → option_map (λ sent. row_of (p, sent)) (value_of prefix_of with_external es) ≡ row_for p es
row_is p [] = refl
row_is p (e ∷ es) = ap (option_map (λ sent. row_of (p, sent))) (all_sent (e ∷ []) es)

each_row : (sent : List AsExternal) (ps : List Cidr)
    → filter_map (λ p. option_map (λ es. row_of (p, es)) (value_at prefix_of with_external p sent)) ps ≡ filter_map (λ p. row_for p (sent_for p sent)) ps
each_row sent [] = refl
each_row sent (p ∷ ps) =
    ap (λ o. cons_option o (filter_map (λ q. option_map (λ es. row_of (q, es)) (value_at prefix_of with_external q sent)) ps)) (row_is p (sent_for p sent))
    ∙ ap (cons_option (row_for p (sent_for p sent))) (each_row sent ps)

pub rows_are : (sent : List AsExternal) → map row_of (grouped prefix_of with_external sent) ≡ by_prefix sent
unfolding by_prefix
rows_are sent = grouped_rows prefix_of with_external (λ p es. row_of (p, es)) sent ∙ each_row sent (in_order prefix_cmp (map prefix_of sent))
