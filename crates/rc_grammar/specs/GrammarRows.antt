-- A line's form is read by its own grammar, by computation.
use Rattle.std.specs.Fmt.{digits}
use Rattle.std.specs.Prelude.{◌≡◌, List, [], ◌∷◌, ℕ, None, Ok, Err, codes, refl}
use Rattle.rc_base.specs.Prefix.{prefix_at}
use Rattle.rc_config.specs.AccessList.{any_address, standard_line}
use Rattle.rc_config.specs.Update.{empty}
use Rattle.rc_config.specs.declared.access_list.AccessListKind.TheVariants.{Standard}
use Rattle.rc_config.specs.declared.access_list.Action.TheVariants.{Permit}
use Rattle.rc_config.specs.declared.command.Command.TheVariants as command
use Rattle.rc_config.specs.declared.lists.ListLine.TheVariants as list_line
use Rattle.rc_config.specs.declared.context.OpenBlock.TheVariants as place
use Rattle.rc_gram_acl.specs.NumberName.{protocol_names, port_names}
use Rattle.rc_gram_acl.specs.Refused.{refused_words}
use Rattle.rc_gram_policy.specs.Refused.{refused_in_entry}
use Rattle.rc_grammar.specs.Grammars.{Answer, answer_of}
use Rattle.rc_openings.specs.Words.{words_of}
use Rattle.rc_openings.specs.declared.form.Form.{Form}
use Rattle.rc_openings.specs.declared.form.Form.TheVariants as form
use Rattle.rc_openings.specs.declared.form.AccessListForm.TheVariants as access
use Rattle.rc_openings.specs.declared.form.GeneralForm.TheVariants as general
use Rattle.rc_openings.specs.declared.form.InterfaceForm.TheVariants as interface
use Rattle.rc_openings.specs.declared.form.MapEntryForm.TheVariants as entry
use Rattle.rc_openings.specs.declared.form.PolicyForm.TheVariants as policy
use Rattle.rc_openings.specs.declared.reading.LineRefusal.TheVariants.{BadValue}

-- a first line of this form, without indent, with these words behind its opening
abbrev says_of : Form → List (List ℕ) → Answer
says_of f behind = answer_of place.Global empty 1 (codes "!" ∷ []) f behind

pub host_names : says_of (form.General general.Hostname) (codes "R1" ∷ []) ≡ Ok (command.Hostname (codes "R1") 1)
host_names = refl

pub access_lists :
    says_of (form.AccessList access.Numbered) (codes "5" ∷ codes "permit" ∷ codes "any" ∷ [])
    ≡ Ok (command.ListLine (codes "5") (list_line.AccessListLine Standard (standard_line 10 Permit any_address)))
unfolding digits protocol_names port_names refused_words words_of
access_lists = refl

pub prefix_lists :
    says_of (form.Policy policy.PrefixList) (codes "P" ∷ codes "permit" ∷ codes "10.0.0.0/8" ∷ [])
    ≡ Ok (command.ListLine (codes "P") (list_line.PrefixLine (record { sequence = 5; action = Permit; prefix = prefix_at 0x0a000000 8; ge = None; le = None })))
prefix_lists = refl

-- a form of a block fits no row in another one
pub elsewhere :
    (says_of (form.Interface interface.Shutdown) [] ≡ Err BadValue)
    × (says_of (form.AccessList access.Permit) (codes "any" ∷ []) ≡ Err BadValue)
    × (says_of (form.MapEntry entry.SetMetric) (codes "5" ∷ []) ≡ Err BadValue)
unfolding refused_words refused_in_entry words_of
elsewhere = (refl, refl, refl)
