-- The openings of a line under `ip access-list`, behind its sequence number.
use Rattle.std.specs.Prelude.{List, [], ◌∷◌, ◌++◌, codes}
use Rattle.rc_openings.specs.declared.form.Form.TheVariants.{AccessList}
use Rattle.rc_openings.specs.declared.form.AccessListForm.TheVariants.{Permit, Deny, Remark}
use Rattle.rc_openings.specs.Opening.{Row, form, refused, ignored}

-- with these begin the forms
unfoldable pub access_list_forms : List Row
access_list_forms =
    form (codes "permit") (AccessList Permit)
    ∷ form (codes "deny") (AccessList Deny)
    ∷ form (codes "remark") (AccessList Remark)
    ∷ []

-- with these begin lines whose meaning is not modelled
unfoldable pub access_list_refused : List Row
access_list_refused =
    refused (codes "dynamic")
    ∷ refused (codes "evaluate")
    ∷ []

-- with these begin lines that do not matter
unfoldable pub access_list_ignored : List Row
access_list_ignored =
    ignored (codes "") (codes "exit")

unfoldable pub access_list : List Row
access_list = access_list_forms ++ access_list_refused ++ access_list_ignored
