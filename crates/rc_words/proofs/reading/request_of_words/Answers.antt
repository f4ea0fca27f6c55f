use Rattle.std.proofs.Common.{ap, sym, ◌≡◌, ◌∙◌, List, map, Err}
use Rattle.std.specs.Borrow.{Bor}
use Rattle.std.proofs.lemmas.Result.{IfOk-weaker}
use Rattle.clap.specs.Words.{Text}
use Rattle.rc_words.specs.Request.{request_at}
use Rattle.rc_words.specs.declared.request.WordsFault.TheVariants.{Usage}
use Rattle.rc_words.proofs.RequestLaws.{when_taken, when_refused, kept_in_range, made_asked}
use Rattle.rc_words.proofs.reading.request_of_words.Goals as goal

pub returns-in-Ok-clause-taken : goal.returns-in-Ok-clause-taken
returns-in-Ok-clause-taken c =
    let words : List Text = map {A = Bor Text} {B = Text} (λ w. w.now) c.args.words.now in
    IfOk-weaker c.request_given.result _ _ (λ r h. when_taken words c.in-Ok.ensures.taken ∙ ap request_at (sym c.in-Ok.ensures.rows) ∙ h) c.request_given.ensures.taken

pub returns-in-Ok-clause-usage : goal.returns-in-Ok-clause-usage
returns-in-Ok-clause-usage c = λ e.
    let words : List Text = map {A = Bor Text} {B = Text} (λ w. w.now) c.args.words.now in
    when_taken words c.in-Ok.ensures.taken ∙ ap request_at (sym c.in-Ok.ensures.rows) ∙ c.request_given.ensures.usage e

pub returns-in-Ok-clause-in_range : goal.returns-in-Ok-clause-in_range
returns-in-Ok-clause-in_range c =
    let words : List Text = map {A = Bor Text} {B = Text} (λ w. w.now) c.args.words.now in
    IfOk-weaker c.request_given.result _ _ (λ r h. (kept_in_range words r (when_taken words c.in-Ok.ensures.taken ∙ ap request_at (sym c.in-Ok.ensures.rows) ∙ h)).0) c.request_given.ensures.taken

pub returns-in-Err-clause-usage : goal.returns-in-Err-clause-usage
returns-in-Err-clause-usage c = λ e.
    let words : List Text = map {A = Bor Text} {B = Text} (λ w. w.now) c.args.words.now in
    let fault_is : c.in-Err.fault ≡ Usage = cc in
    when_refused words (c.matches_of_words.ensures.usage (c.in-Err.is ∙ ap Err fault_is))

pub returns-in-Ok-clause-ask : goal.returns-in-Ok-clause-ask
returns-in-Ok-clause-ask c =
    let words : List Text = map {A = Bor Text} {B = Text} (λ w. w.now) c.args.words.now in
    IfOk-weaker c.request_given.result _ _ (λ r h. (kept_in_range words r (when_taken words c.in-Ok.ensures.taken ∙ ap request_at (sym c.in-Ok.ensures.rows) ∙ h)).2) c.request_given.ensures.taken

pub returns-in-Ok-clause-source : goal.returns-in-Ok-clause-source
returns-in-Ok-clause-source c =
    let words : List Text = map {A = Bor Text} {B = Text} (λ w. w.now) c.args.words.now in
    IfOk-weaker c.request_given.result _ _ (λ r h. (kept_in_range words r (when_taken words c.in-Ok.ensures.taken ∙ ap request_at (sym c.in-Ok.ensures.rows) ∙ h)).1) c.request_given.ensures.taken

pub returns-in-Ok-clause-made : goal.returns-in-Ok-clause-made
returns-in-Ok-clause-made c =
    let words : List Text = map {A = Bor Text} {B = Text} (λ w. w.now) c.args.words.now in
    IfOk-weaker c.request_given.result _ _ (λ r h. made_asked words r (when_taken words c.in-Ok.ensures.taken ∙ ap request_at (sym c.in-Ok.ensures.rows) ∙ h)) c.request_given.ensures.taken
