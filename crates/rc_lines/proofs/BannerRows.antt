-- Files with banners, and the parts that their lines have, by computation.
use Rattle.std.proofs.Common.{◌≡◌, ℕ, List, [], ◌∷◌, ◌++◌, map, Some, refl}
use Rattle.std.specs.Prelude.{codes}
use Rattle.rc_openings.specs.Words.{words_of}
use Rattle.rc_lines.specs.Lines.{lines_of}
use Rattle.rc_lines.specs.Banners.{is_banner, opened}
use Rattle.rc_lines.specs.declared.banner.Part.{Part}
use Rattle.rc_lines.specs.declared.banner.Part.TheVariants.{Plain, InBanner, Banner, ShortBanner, OpenBanner}
use Rattle.rc_lines.specs.declared.banner.Delimiter.TheVariants.{Byte, ControlC}

-- the parts of a file's lines
abbrev parts : List ℕ → List Part
parts bytes = map (λ l. l.part) (lines_of bytes)

closed_later : parts (codes "banner motd ^C\n hello\n! ^C hostname X\nhostname Y\n") ≡ Banner ∷ InBanner ∷ InBanner ∷ Plain ∷ []
unfolding is_banner words_of
closed_later = refl

-- a caret or a C alone, or the two with a byte between, closes nothing that `^C` opens
closed_by_both : parts (codes "banner motd ^C\n^\nC\n^ C\n^^C\nend") ≡ Banner ∷ InBanner ∷ InBanner ∷ InBanner ∷ InBanner ∷ Plain ∷ []
unfolding is_banner words_of
closed_by_both = refl

-- a delimiter isn't put together of two lines
closed_on_one_line : parts (codes "banner motd ^Ca^\nC") ≡ OpenBanner ∷ InBanner ∷ []
unfolding is_banner words_of
closed_on_one_line = refl

closed_on_itself : parts (codes "banner motd #hi#\nhostname X\n") ≡ Banner ∷ Plain ∷ []
unfolding is_banner words_of
closed_on_itself = refl

closed_on_itself_by_both : parts (codes "banner motd ^Chi^C\nhostname X") ≡ Banner ∷ Plain ∷ []
unfolding is_banner words_of
closed_on_itself_by_both = refl

-- it is looked for behind itself alone, and not in the words before it
looked_for_behind : parts (codes "banner motd #") ≡ OpenBanner ∷ []
unfolding is_banner words_of
looked_for_behind = refl

not_before : parts (codes "banner motd m\ninterface x\n") ≡ OpenBanner ∷ InBanner ∷ []
unfolding is_banner words_of
not_before = refl

a_letter : parts (codes "banner exec xax\nx") ≡ Banner ∷ Plain ∷ []
unfolding is_banner words_of
a_letter = refl

-- the rest of the third word is searched, and all words after it
in_later_words : parts (codes "banner login #a b c # d\nx") ≡ Banner ∷ Plain ∷ []
unfolding is_banner words_of
in_later_words = refl

too_few_words : parts (codes "banner motd\nbanner\nbanner motd \t\nhostname X") ≡ ShortBanner ∷ ShortBanner ∷ ShortBanner ∷ Plain ∷ []
unfolding is_banner words_of
too_few_words = refl

indented : parts (codes " banner motd #\n\tbanner motd #\n") ≡ Plain ∷ Plain ∷ []
unfolding is_banner words_of
indented = refl

other_words : parts (codes "banners motd #\nbann\nBanner motd #\nno banner motd #") ≡ Plain ∷ Plain ∷ Plain ∷ Plain ∷ []
unfolding is_banner words_of
other_words = refl

the_rest_is_passed : parts (codes "banner motd #\nhostname X#\nhostname Y") ≡ Banner ∷ InBanner ∷ Plain ∷ []
unfolding is_banner words_of
the_rest_is_passed = refl

two_banners : parts (codes "banner motd #\na\n#\nbanner exec %\nbanner login #\n%\nend") ≡ Banner ∷ InBanner ∷ InBanner ∷ Banner ∷ InBanner ∷ InBanner ∷ Plain ∷ []
unfolding is_banner words_of
two_banners = refl

-- a closing line opens nothing, also where it reads as a banner line
a_closing_line_opens_nothing : parts (codes "banner motd #\nbanner exec #\nend\n") ≡ Banner ∷ InBanner ∷ Plain ∷ []
unfolding is_banner words_of
a_closing_line_opens_nothing = refl

-- each carriage return before a newline is of the end
with_returns : parts (codes "banner motd ^C" ++ 13 ∷ 10 ∷ codes "a" ++ 13 ∷ 10 ∷ codes "^C" ++ 13 ∷ 10 ∷ codes "end" ++ 13 ∷ 10 ∷ []) ≡ Banner ∷ InBanner ∷ InBanner ∷ Plain ∷ []
unfolding is_banner words_of
with_returns = refl

blanks_between : parts (codes "banner \t motd\t  # \t#\nend") ≡ Banner ∷ Plain ∷ []
unfolding is_banner words_of
blanks_between = refl

never_closed : parts (codes "hostname X\nbanner motd #\nbanner exec ^C\n^C") ≡ Plain ∷ OpenBanner ∷ InBanner ∷ InBanner ∷ []
unfolding is_banner words_of
never_closed = refl

-- what stands behind the delimiter keeps its blanks
behind_keeps_blanks : opened (codes "banner motd ^C  a b ") ≡ Some (record { delimiter = ControlC; behind = codes "  a b " })
unfolding is_banner words_of
behind_keeps_blanks = refl

-- a caret without a C is a delimiter of one byte
a_caret_alone : opened (codes "banner motd ^") ≡ Some (record { delimiter = Byte 94; behind = [] })
unfolding is_banner words_of
a_caret_alone = refl

a_caret_first : opened (codes "banner motd ^D") ≡ Some (record { delimiter = Byte 94; behind = codes "D" })
unfolding is_banner words_of
a_caret_first = refl
