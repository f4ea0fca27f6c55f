-- How the program ends, by its words.
use Rattle.std.specs.Prelude.{◌≡◌, ℕ, List, None, IfSome, IfNone, IsNone}
use Rattle.rc_words.specs.Request.{request_of}
use Rattle.rc_writing.specs.Texts.{usage_text}
use Rattle.rc_writing.specs.Written.{IsWrittenOrMemory}
use Rattle.rc_writing.specs.declared.status.Status.{Status}
use Rattle.rc_writing.specs.declared.status.Status.TheVariants.{Usage}
use Rattle.rc_analyse.specs.Answer.{files_asked, IsAnswer}

-- A run over a folder and a stream of the system, which tell nothing of what they hold: words that make no request end as usage does,
-- and no others; and a made network ends as its files give.
pub record EndsBy (words : List (List ℕ)) (status : Status) : Type 0 where
  pub usage : IfNone (request_of words) (IsWrittenOrMemory Usage usage_text status None None)
  pub usage_only : status ≡ Usage → IsNone (request_of words)
  pub made : IfSome (request_of words) (λ r. IfSome (files_asked r.source None) (λ files. IsAnswer files r status None None))
