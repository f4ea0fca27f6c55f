-- Where the last bytes of an answer can't be written, the run ends as one whose sink failed.
use Rattle.std.proofs.Common.{refl, ◌≡◌, inl, inr, sym, subst, ℕ, List, [], Option, Some, None, Result, Ok, Err, IfOk, IfErr, IfSome, IfNone}
use Rattle.rc_analyse.specs.Answer.{IsAnswer, IsLacking, IsSilent, files_asked}
use Rattle.rc_outside.specs.Folder.{File}
use Rattle.rc_outside.specs.Sink.{AppendsFront}
use Rattle.rc_words.specs.Request.{request_of}
use Rattle.rc_words.specs.declared.request.Request.{Request}
use Rattle.rc_writing.specs.Texts.{usage_text}
use Rattle.rc_writing.specs.Written.{IsWrittenOrMemory}
use Rattle.rc_writing.specs.declared.status.Status.TheVariants.{Done, Refused, Usage, Repeats, Limit, Nodes, Source, Sink, Memory, NoPlace}
use Rattle.rc_writing.specs.declared.status.Status.{Status}
use Rattle.netcheck.specs.Ends.{EndsBy}

-- a stream that tells nothing has taken a front of any text
front_of : (text : List ℕ) → AppendsFront None None text
front_of text = record { front = []; back = text; whole = refl; told = refl }

-- what is lacking has a status with which nothing is written
lacking_silent : (files : List File) (r : Request) (status : Status) → IsLacking files r status → IsSilent status
lacking_silent files r Memory lacking = tt
lacking_silent files r Nodes lacking = tt
lacking_silent files r Done lacking = absurd lacking
lacking_silent files r Refused lacking = absurd lacking
lacking_silent files r Usage lacking = absurd lacking
lacking_silent files r Repeats lacking = absurd lacking
lacking_silent files r Limit lacking = absurd lacking
lacking_silent files r Source lacking = absurd lacking
lacking_silent files r Sink lacking = absurd lacking
lacking_silent files r NoPlace lacking = absurd lacking

source_silent : (status : Status) → status ≡ Source → IsSilent status
source_silent status e = subst IsSilent (sym e) tt

-- an answer that is written is one whose sink fails
answer_fails : (files : List File) (r : Request) (status : Status) → ¬ IsSilent status → IsAnswer files r status None None → IsAnswer files r Sink None None
answer_fails files r status speaks (inl (g, given, written)) = inl (g, given, inr (refl, front_of _))
answer_fails files r status speaks (inr (inl (is, same))) = absurd (speaks (source_silent status is))
answer_fails files r status speaks (inr (inr (lacking, same))) = absurd (speaks (lacking_silent files r status lacking))

if_files : (told : Option (List File)) (r : Request) (status : Status) → ¬ IsSilent status → IfSome told (λ files. IsAnswer files r status None None) → IfSome told (λ files. IsAnswer files r Sink None None)
if_files None r status speaks a = tt
if_files (Some files) r status speaks a = answer_fails files r status speaks a

if_request : (asked : Option Request) (status : Status) → ¬ IsSilent status → IfSome asked (λ r. IfSome (files_asked r.source None) (λ files. IsAnswer files r status None None)) → IfSome asked (λ r. IfSome (files_asked r.source None) (λ files. IsAnswer files r Sink None None))
if_request None status speaks a = tt
if_request (Some r) status speaks a = if_files (files_asked r.source None) r status speaks a

usage_fails : (asked : Option Request) → IfNone asked (IsWrittenOrMemory Usage usage_text Sink None None)
usage_fails None = inl (inr (refl, front_of usage_text))
usage_fails (Some r) = tt

ends_by_sink : (words : List (List ℕ)) (status : Status) → ¬ IsSilent status → EndsBy words status → EndsBy words Sink
ends_by_sink words status speaks ends = record {
  usage = usage_fails (request_of words);
  usage_only = λ e. absurd (let none : ⊥ = cc (e) in none);
  made = if_request (request_of words) status speaks ends.made;
}

-- so it ends whether they are written or not
pub ends_so : {A E : Type 0} (words : List (List ℕ)) (status result : Status) (written : Result A E) → ¬ IsSilent status → IfOk written (λ _. result ≡ status) → IfErr written (λ _. result ≡ Sink) → EndsBy words status → EndsBy words result
ends_so words status result (Ok a) speaks whole failed ends = subst (EndsBy words) (sym whole) ends
ends_so words status result (Err e) speaks whole failed ends = subst (EndsBy words) (sym failed) (ends_by_sink words status speaks ends)
