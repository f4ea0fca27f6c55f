-- What is read of a file is what was read when address families and peer groups were refused, but for the `activate` lines, which are noted.
use Rattle.std.proofs.Common.{◌≡◌, ◌∙◌, ℕ, ◌==◌, nat_lt, Bool, true, false, cond, List, [], ◌∷◌, Option, Some, None, is_some, Result, Ok, Err, refl, sym, ap, subst}
use Rattle.std.specs.List.{AllByRecursion}
use Rattle.std.specs.Option.{option_map}
use Rattle.std.proofs.lemmas.Bool.{false≢true}
use Rattle.rc_openings.specs.Words.{words_of}
use Rattle.rc_lines.specs.Banners.{indent_of}
use Rattle.rc_lines.specs.Lines.{TextLine, is_too_long, lines_of}
use Rattle.rc_lines.specs.declared.banner.Part.{Part}
use Rattle.rc_lines.specs.declared.banner.Part.TheVariants as part
use Rattle.rc_config.specs.Bgp.{with_line as with_bgp_line}
use Rattle.rc_config.specs.ByNumber.{placed}
use Rattle.rc_lines.specs.OpenBlock.{block_at}
use Rattle.rc_config.specs.Peering.{activity_address, no_peering}
use Rattle.rc_config.specs.Update.{after}
use Rattle.rc_config.specs.declared.bgp.BgpLine.{BgpLine}
use Rattle.rc_config.specs.declared.bgp.BgpLine.TheVariants as line
use Rattle.rc_config.specs.declared.bgp.BgpProcess.{BgpProcess}
use Rattle.rc_config.specs.declared.command.Command.{Command}
use Rattle.rc_config.specs.declared.command.Command.TheVariants as command
use Rattle.rc_config.specs.declared.context.OpenBlock.{OpenBlock}
use Rattle.rc_config.specs.declared.context.OpenBlock.TheVariants as place
use Rattle.rc_config.specs.declared.lists.ListLine.{ListLine}
use Rattle.rc_config.specs.declared.lists.ListLine.TheVariants as list_line
use Rattle.rc_config.specs.declared.peering.Activity.{Activity}
use Rattle.rc_config.specs.declared.peering.Peer.TheVariants as peer
use Rattle.rc_config.specs.declared.router_text.RouterText.{RouterText}
use Rattle.rc_grammar.specs.File.{at_line, by_part, file_before, file_of, interface_of, is_one_too_many, is_passed, list_block, open_after, read_by, refused, start, step, with_answer, with_command, with_host, with_line, with_lines, with_said}
use Rattle.rc_grammar.specs.Grammars.{Answer, answer_before, before, says, says_before}
use Rattle.rc_grammar.specs.declared.reading.Reading.{Reading}
use Rattle.rc_grammar.specs.declared.refusal.FileCause.TheVariants.{TooManyInterfaces}
use Rattle.rc_grammar.specs.declared.refusal.FileRefusal.{FileRefusal}
use Rattle.rc_grammar.proofs.OldRowLaws.{is_old, is_old_line, plain, plain_process, says-told, HasMarks, IsActive, IsMarked, IsOld, IsTold, Tells}
use Rattle.rc_grammar.proofs.PassingLaws.{IsEarlyBlock}

-- ---- what a command changes

active-placed : (x : Activity) (xs : List Activity) → IsActive x → AllByRecursion IsActive xs → AllByRecursion IsActive (placed activity_address x xs)
active-placed x [] h all = (h, tt)
active-placed x (y ∷ ys) h all = by (nat_lt x.address y.address) (x.address == y.address) (active-placed x ys h all.1)
  where
    by : (less same : Bool) → AllByRecursion IsActive (placed activity_address x ys) → AllByRecursion IsActive (cond less (x ∷ y ∷ ys) (cond same (x ∷ ys) (y ∷ placed activity_address x ys)))
    by true same rest = (h, all)
    by false true rest = (h, all.1)
    by false false rest = (all.0, rest)

after-plain : (r : RouterText) (m : Command) → is_old m ≡ true → after (plain r) (before m) ≡ plain (after r m)
after-plain r (command.BgpOpened asn) h = by r.bgp
  where
    by : (bgp : Option BgpProcess) → after (plain (record r { bgp = bgp })) (command.BgpOpened asn) ≡ plain (after (record r { bgp = bgp }) (command.BgpOpened asn))
    by None = refl
    by (Some p) = refl
after-plain r (command.BgpLine l) h = by r.bgp l h
  where
    by : (bgp : Option BgpProcess) (l : BgpLine) → is_old_line l ≡ true → after (plain (record r { bgp = bgp })) (before (command.BgpLine l)) ≡ plain (after (record r { bgp = bgp }) (command.BgpLine l))
    by None (line.Active (peer.Address a) is_active) h = refl
    by None (line.Active (peer.Group name) is_active) h = refl
    by None l h = refl
    by (Some p) (line.Setting (peer.Address a) setting) h = refl
    by (Some p) (line.Setting (peer.Group name) setting) h = absurd (false≢true h)
    by (Some p) (line.Active (peer.Address a) is_active) h = refl
    by (Some p) (line.Active (peer.Group name) is_active) h = absurd (false≢true h)
    by (Some p) (line.GroupDeclared name) h = absurd (false≢true h)
    by (Some p) (line.MemberOf a name) h = absurd (false≢true h)
    by (Some p) line.InactiveByDefault h = absurd (false≢true h)
    by (Some p) (line.RouterId id) h = refl
    by (Some p) (line.MaximumExternalPaths number) h = refl
    by (Some p) (line.MaximumInternalPaths number) h = refl
    by (Some p) (line.Network prefix) h = refl
    by (Some p) (line.RedistributeConnected x) h = refl
    by (Some p) (line.RedistributeStatic x) h = refl
    by (Some p) (line.RedistributeOspf x) h = refl
after-plain r m h = refl

no-marks : IsMarked no_peering
no-marks = record { groups = refl; members = refl; by_default = refl; active = tt }

line-marks : (p : BgpProcess) (l : BgpLine) → is_old_line l ≡ true → IsMarked p.peering → IsMarked (with_bgp_line p l).peering
line-marks p (line.Setting (peer.Address a) setting) h is = is
line-marks p (line.Setting (peer.Group name) setting) h is = absurd (false≢true h)
line-marks p (line.Active (peer.Address a) is_active) h is = record { groups = is.groups; members = is.members; by_default = is.by_default; active = active-placed _ p.peering.activities h is.active }
line-marks p (line.Active (peer.Group name) is_active) h is = absurd (false≢true h)
line-marks p (line.GroupDeclared name) h is = absurd (false≢true h)
line-marks p (line.MemberOf a name) h is = absurd (false≢true h)
line-marks p line.InactiveByDefault h is = absurd (false≢true h)
line-marks p (line.RouterId id) h is = is
line-marks p (line.MaximumExternalPaths number) h is = is
line-marks p (line.MaximumInternalPaths number) h is = is
line-marks p (line.Network prefix) h is = is
line-marks p (line.RedistributeConnected x) h is = is
line-marks p (line.RedistributeStatic x) h is = is
line-marks p (line.RedistributeOspf x) h is = is

after-marks : (r : RouterText) (m : Command) → is_old m ≡ true → HasMarks r.bgp → HasMarks (after r m).bgp
after-marks r (command.BgpOpened asn) h is = by r.bgp is
  where
    by : (bgp : Option BgpProcess) → HasMarks bgp → HasMarks (after (record r { bgp = bgp }) (command.BgpOpened asn)).bgp
    by None is = no-marks
    by (Some p) is = is
after-marks r (command.BgpLine l) h is = by r.bgp is
  where
    by : (bgp : Option BgpProcess) → HasMarks bgp → HasMarks (option_map (λ p. with_bgp_line p l) bgp)
    by None is = tt
    by (Some p) is = line-marks p l h is
after-marks r m h is = is

-- ---- readings

abbrev plain_reading : Reading → Reading
plain_reading r = record r { file = plain r.file }

-- no address family is open, and of activity there are `activate` lines alone
record IsOldReading (r : Reading) : Type 0 where
  at : IsEarlyBlock (block_at r.block)
  marks : HasMarks r.file.bgp

abbrev Read : Type 0
Read = Result Reading FileRefusal

record IsReached (o : Reading) (now : Read) : Type 0 where
  reading : Reading
  is : now ≡ Ok reading
  old : IsOldReading reading
  same : o ≡ plain_reading reading

-- where a file was read, it is read now
abbrev Reaches : Read → Read → Type 0
Reaches (Ok o) now = IsReached o now
Reaches (Err refusal) now = Unit {0}

reached : (r : Reading) → IsOldReading r → Reaches (Ok (plain_reading r)) (Ok r)
reached r old = record { reading = r; is = refl; old = old; same = refl }

either-reaches : (b : Bool) (x y x' y' : Read) → Reaches x x' → Reaches y y' → Reaches (cond b x y) (cond b x' y')
either-reaches true x y x' y' p q = p
either-reaches false x y x' y' p q = q

at-open : (at : OpenBlock) (m : Command) → is_old m ≡ true → IsEarlyBlock (block_at at) → IsEarlyBlock (block_at (open_after at m))
at-open place.Global (command.ListLine list (list_line.AccessListOpened kind)) h is = tt
at-open place.Global (command.ListLine list (list_line.AccessListLine kind row)) h is = tt
at-open place.Global (command.ListLine list (list_line.PrefixLine row)) h is = tt
at-open place.Global (command.ListLine list (list_line.CommunityLine row)) h is = tt
at-open place.Global m h is = tt
at-open place.Bgp command.FamilyOpened h is = absurd (false≢true h)
at-open place.Bgp command.OtherFamilyOpened h is = absurd (false≢true h)
at-open place.Bgp m h is = tt
at-open place.InFamily m h is = absurd is
at-open place.InOtherFamily m h is = absurd is
at-open at m h is = is

same-open : (at : OpenBlock) (m : Command) → open_after at (before m) ≡ open_after at m
same-open at (command.BgpLine (line.Active whom is_active)) = by at
  where
    by : (at : OpenBlock) → open_after at command.Remark ≡ open_after at (command.BgpLine (line.Active whom is_active))
    by place.Global = refl
    by at = refl
same-open at m = refl

same-interface : (m : Command) → interface_of (before m) ≡ interface_of m
same-interface (command.BgpLine (line.Active whom is_active)) = refl
same-interface m = refl

command-reaches : (number : ℕ) (at : OpenBlock) (file : RouterText) (m : Command) → is_old m ≡ true → IsEarlyBlock (block_at at) → HasMarks file.bgp
    → Reaches (with_command number (record { file = plain file; block = at }) (before m)) (with_command number (record { file = file; block = at }) m)
command-reaches number at file m old is marks =
    let same : Reading = record { file = after file m; block = open_after at m } in
    subst (λ (i : Option (List ℕ)). Reaches (cond (is_one_too_many file i) (refused number TooManyInterfaces) (Ok (record { file = after (plain file) (before m); block = open_after at (before m) }))) (with_command number (record { file = file; block = at }) m)) (sym (same-interface m))
    (either-reaches (is_one_too_many file (interface_of m)) _ _ _ _ tt
    (record {
      reading = same;
      is = refl;
      old = record { at = at-open at m old is; marks = after-marks file m old marks };
      same = (λ i. record { file = after-plain file m old i; block = same-open at m i });
    }))

abbrev command_of : Command → Answer → Command
command_of other (Ok m) = m
command_of other (Err refusal) = other

answer-reaches : (number : ℕ) (at : OpenBlock) (file : RouterText) → IsEarlyBlock (block_at at) → HasMarks file.bgp → (then_ now : Answer) → Tells then_ now
    → Reaches (with_answer number (record { file = plain file; block = at }) then_) (with_answer number (record { file = file; block = at }) now)
answer-reaches number at file early marks (Err refusal) now h = tt
answer-reaches number at file early marks (Ok m) now h = by now h.told h.old
  where
    by : (now : Answer) → Ok m ≡ answer_before now → IsOld now → Reaches (with_command number (record { file = plain file; block = at }) m) (with_answer number (record { file = file; block = at }) now)
    by (Err refusal) e old = absurd (cc)
    by (Ok n) e old =
        subst (λ (x : Command). Reaches (with_command number (record { file = plain file; block = at }) x) (with_command number (record { file = file; block = at }) n)) (sym (ap (command_of m) e))
        (command-reaches number at file n old early marks)

said-reaches : (r : Reading) (l : TextLine) → IsOldReading r → Reaches (with_said says_before (plain_reading r) l) (with_said says r l)
said-reaches r l old =
    answer-reaches l.number r.block r.file old.at old.marks (says_before r.block (plain r.file) l.number (words_of l.text)) (says r.block r.file l.number (words_of l.text))
    (says-told r.block r.file old.at old.marks l.number (words_of l.text))

old-at_line : (r : Reading) (text : List ℕ) → IsOldReading r → IsOldReading (at_line r text)
old-at_line r text old = record { at = by (indent_of text == 0); marks = old.marks }
  where
    by : (b : Bool) → IsEarlyBlock (block_at (cond b place.Global r.block))
    by true = tt
    by false = old.at

part-reaches : (r : Reading) (l : TextLine) (p : Part) → IsOldReading r → Reaches (by_part says_before (plain_reading r) l p) (by_part says r l p)
part-reaches r l part.Plain old = either-reaches (is_passed (words_of l.text)) _ _ _ _ (reached r old) (said-reaches (at_line r l.text) l (old-at_line r l.text old))
part-reaches r l part.InBanner old = reached r old
part-reaches r l part.Banner old = reached (record r { block = place.Closed }) (record { at = tt; marks = old.marks })
part-reaches r l part.ShortBanner old = tt
part-reaches r l part.OpenBanner old = tt

step-reaches : (r : Reading) (l : TextLine) → IsOldReading r → Reaches (step says_before (plain_reading r) l) (step says r l)
unfolding step
step-reaches r l old = either-reaches (is_too_long l.text) _ _ _ _ tt (part-reaches r l l.part old)

line-reaches : (l : TextLine) (then_ now : Read) → Reaches then_ now → Reaches (with_line says_before then_ l) (with_line says now l)
line-reaches l (Err refusal) now h = tt
line-reaches l (Ok o) now h =
    subst (λ (x : Read). Reaches (step says_before o l) (with_line says x l)) (sym h.is)
    (subst (λ (x : Reading). Reaches (step says_before x l) (step says h.reading l)) (sym h.same) (step-reaches h.reading l h.old))

lines-reach : (ls : List TextLine) (then_ now : Read) → Reaches then_ now → Reaches (with_lines says_before then_ ls) (with_lines says now ls)
lines-reach [] then_ now h = h
lines-reach (l ∷ ls) then_ now h = lines-reach ls (with_line says_before then_ l) (with_line says now l) (line-reaches l then_ now h)

-- ---- files

pub record IsKeptFile (t : RouterText) (now : Result RouterText FileRefusal) : Type 0 where
  pub text : RouterText
  pub is : now ≡ Ok text
  pub marks : HasMarks text.bgp
  pub same : t ≡ plain text

-- where a file had a model, it has the same one but for activity
abbrev pub Keeps : Result RouterText FileRefusal → Result RouterText FileRefusal → Type 0
Keeps (Ok t) now = IsKeptFile t now
Keeps (Err refusal) now = Unit {0}

either-keeps : (b : Bool) (x y x' y' : Result RouterText FileRefusal) → Keeps x x' → Keeps y y' → Keeps (cond b x y) (cond b x' y')
either-keeps true x y x' y' p q = p
either-keeps false x y x' y' p q = q

host-keeps : (then_ now : Read) → Reaches then_ now → Keeps (with_host then_) (with_host now)
host-keeps (Err refusal) now h = tt
host-keeps (Ok o) now h =
    subst (λ (x : Read). Keeps (with_host (Ok o)) (with_host x)) (sym h.is)
    (subst (λ (x : Reading). Keeps (with_host (Ok x)) (with_host (Ok h.reading))) (sym h.same)
    (either-keeps (is_some h.reading.file.host) _ _ _ _ (record { text = h.reading.file; is = refl; marks = h.old.marks; same = refl }) tt))

pub file-keeps : (bytes : List ℕ) → Keeps (file_before bytes) (file_of bytes)
unfolding read_by
file-keeps bytes =
    host-keeps (with_lines says_before (Ok start) (lines_of bytes)) (with_lines says (Ok start) (lines_of bytes)) (lines-reach (lines_of bytes) (Ok start) (Ok start) (reached start (record { at = tt; marks = tt })))
