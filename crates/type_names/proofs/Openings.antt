-- Files opened one after the other.
use Rattle.std.proofs.Common.{◌≡◌, ℕ, suc, ◌+◌, ◌<◌, List, [], ◌∷◌, ◌++◌, length, drop, Result, Ok, Err, refl, sym, ap, ◌∙◌, add-one, get_or}
use Rattle.std.proofs.lemmas.List.{map-append, append-nil}
use Rattle.std.proofs.Math.Seq.{drop-cons}
use Rattle.plain_types.specs.declared.fault.Fault.{Fault}
use Rattle.file_tables.specs.File.{FilePart, file_of}
use Rattle.type_names.specs.declared.file.File.{File}
use Rattle.type_names.specs.Files.{part_of, parts_of, fault_in}
use Rattle.type_names.specs.Opening.{joined, opened_from, files_opened}

-- parts, and those of the files behind them
abbrev pub before : List FilePart → Result (List FilePart) Fault → Result (List FilePart) Fault
before ps (Ok qs) = Ok (ps ++ qs)
before ps (Err fault) = Err fault

append_one : (ps : List FilePart) (p : FilePart) (qs : List FilePart) → ps ++ p ∷ qs ≡ (ps ++ p ∷ []) ++ qs
append_one [] p qs = refl
append_one (x ∷ ps) p qs = ap (λ ys. x ∷ ys) (append_one ps p qs)

one_more : (n : ℕ) (ps : List FilePart) (p : FilePart) (rest : Result (List FilePart) Fault) → before ps (joined n (Ok p) rest) ≡ before (ps ++ p ∷ []) rest
one_more n ps p (Ok qs) = ap Ok (append_one ps p qs)
one_more n ps p (Err fault) = refl

module _ (files : List (List ℕ)) (n : ℕ) (within : n < length files) where
  first : opened_from n (drop n files) ≡ joined n (file_of (get_or files n [])) (opened_from (suc n) (drop (suc n) files))
  first = ap (opened_from n) (drop-cons files n [] within)

  pub next_opened : (opened : List File) (file : File) → files_opened files ≡ before (parts_of opened) (opened_from n (drop n files)) → file_of (get_or files n []) ≡ Ok (part_of file) → files_opened files ≡ before (parts_of (opened ++ file ∷ [])) (opened_from (n + 1) (drop (n + 1) files))
  next_opened opened file e f =
      e
      ∙ ap (before (parts_of opened)) (first ∙ ap (λ r. joined n r (opened_from (suc n) (drop (suc n) files))) f)
      ∙ one_more n (parts_of opened) (part_of file) (opened_from (suc n) (drop (suc n) files))
      ∙ ap (λ ps. before ps (opened_from (suc n) (drop (suc n) files))) (sym (map-append part_of opened (file ∷ [])))
      ∙ ap (λ k. before (parts_of (opened ++ file ∷ [])) (opened_from k (drop k files))) (sym (add-one n))

  pub next_broken : (opened : List File) (fault : Fault) → files_opened files ≡ before (parts_of opened) (opened_from n (drop n files)) → file_of (get_or files n []) ≡ Err fault → files_opened files ≡ Err (fault_in n fault)
  next_broken opened fault e f = e ∙ ap (before (parts_of opened)) (first ∙ ap (λ r. joined n r (opened_from (suc n) (drop (suc n) files))) f)

pub all_opened : (files : List (List ℕ)) (opened : List File) (n : ℕ) → files_opened files ≡ before (parts_of opened) (opened_from n (drop n files)) → drop n files ≡ [] → files_opened files ≡ Ok (parts_of opened)
all_opened files opened n e f = e ∙ ap (λ xs. before (parts_of opened) (opened_from n xs)) f ∙ ap Ok (append-nil (parts_of opened))
