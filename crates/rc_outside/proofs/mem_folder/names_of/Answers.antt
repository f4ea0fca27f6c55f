use Rattle.std.proofs.Common.{◌≡◌, ◌+◌, ◌<◌, ◌∷◌, [], ◌++◌, List, ℕ, take, drop, length, get_or, ◌∙◌, ap, sym, arith}
use Rattle.std.proofs.lemmas.List.{take_more, at_drop_more, map-append}
use Rattle.rc_outside.specs.declared.mem_folder.MemFile.{MemFile}
use Rattle.rc_outside.specs.MemFolder.{file_of, files_of}
use Rattle.rc_outside.proofs.Listing.{listing-kept, listing-same}
use Rattle.rc_outside.proofs.mem_folder.names_of.Goals as goal
use Rattle.rc_outside.proofs.mem_folder.names_of.Goals.{then-is_new_in+in_ok-text+in_ok-push, else-is_new_in}

files_of_more : (xs : List MemFile) (i : ℕ) (x : MemFile) → i < length xs → x ≡ get_or xs i x → files_of (take (i + 1) xs) ≡ files_of (take i xs) ++ file_of x ∷ []
files_of_more xs i x lt is = ap files_of (take_more xs i x lt) ∙ map-append file_of (take i xs) (get_or xs i x ∷ []) ∙ ap (λ y. files_of (take i xs) ++ file_of y ∷ []) (sym is)

files_left : (xs : List MemFile) (i : ℕ) (x : MemFile) → i < length xs → x ≡ get_or xs i x → files_of (drop i xs) ≡ file_of x ∷ files_of (drop (i + 1) xs)
files_left xs i x lt is = at_drop_more files_of xs i x lt ∙ ap (λ y. file_of y ∷ files_of (drop (i + 1) xs)) (sym is)

pub loop-file-preserved : goal.loop-file-preserved
loop-file-preserved c =
    let xs = c.args.files.now in
    let lt : c.loop-file.file-index < length xs = omega arith in
    let more = files_of_more xs c.loop-file.file-index c.file-item.result lt c.file-item.is in
    let left = files_left xs c.loop-file.file-index c.file-item.result lt c.file-item.is in
    let before = rw left at c.loop-file.invariant in
    rw more (elim c.if-is_new_in.branch [
      | then-is_new_in+in_ok-text+in_ok-push w ↦ rw (w.names-is, w.in_ok-push.ensures.items) (listing-kept before _ (w.new.ensures ∙ w.in_ok-text.ensures.ok ∙ w.as_str.ensures.value) (rw c.as_slice.ensures.value at (sym c.is_new_in.ensures ∙ w.if-is_new_in.true)))
      | else-is_new_in w ↦ rw w.names-is (listing-same before (rw c.as_slice.ensures.value at (sym c.is_new_in.ensures ∙ w.if-is_new_in.false)))
    ])
