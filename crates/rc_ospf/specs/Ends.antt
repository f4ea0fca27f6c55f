-- The routers that offer something, each in its area.
use Rattle.std.specs.Prelude.{◌==◌, ◌&&◌, Bool, if◌then◌else◌, List, [], ◌∷◌, ◌++◌}
use Rattle.std.specs.List.{fold, list_any}
use Rattle.rc_link_state.specs.declared.end.End.{End}
use Rattle.rc_ospf.specs.Offered.{Offered}
use Rattle.rc_ospf.specs.declared.grouping.Row.{Row}

abbrev pub is_end : Offered → End → Bool
is_end o e = (e.area == o.area) && (e.router == o.router)

abbrev pub end_of : Offered → End
end_of o = record { area = o.area; router = o.router }

-- each of them once
abbrev pub with_end : List End → Offered → List End
with_end ends o = if list_any (is_end o) ends then ends else ends ++ end_of o ∷ []

abbrev pub with_ends : List End → List Offered → List End
with_ends ends offers = fold with_end ends offers

abbrev pub ends_of : List Row → List End
ends_of rows = fold (λ ends (row : Row). with_ends ends row.offers) [] rows
