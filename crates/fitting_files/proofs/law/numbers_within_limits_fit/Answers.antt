use Rattle.image_numbers.specs.Numbers.{token_word}
use Rattle.fitting_files.proofs.HeaderLaws.{metadata_lies}
use Rattle.fitting_files.proofs.FileLaws.{image_of_file, are_numbers, file_numbers, numbers_fit}
use Rattle.fitting_files.proofs.law.numbers_within_limits_fit.Goals as goal

pub returns : goal.returns
returns c = record {
  file = λ files marks f bytes x p accepted there at are read named none.
      let has = c.opened_files_have_bytes.ensures bytes x are read in
      let token = token_word (image_of_file files marks f x p) in
      file_numbers files marks f x p accepted there at (metadata_lies bytes x are read) has (c.accepted_codes_name_kept_rows.ensures files marks f x accepted there has named) token
      (c.shrunk_codes_are_laid.ensures.words files marks f x p (image_of_file files marks f x p) accepted there at has named (are_numbers files marks f x p))
      (c.lengths_are_those_of_codes.ensures files marks f x token accepted there has) none;
  parts = λ files marks f bytes x p accepted there at are read named none.
      let has = c.opened_files_have_bytes.ensures bytes x are read in
      let token = token_word (image_of_file files marks f x p) in
      numbers_fit files marks f x p accepted there at (metadata_lies bytes x are read) has (c.accepted_codes_name_kept_rows.ensures files marks f x accepted there has named) token
      (c.shrunk_codes_are_laid.ensures.words files marks f x p (image_of_file files marks f x p) accepted there at has named (are_numbers files marks f x p))
      (c.lengths_are_those_of_codes.ensures files marks f x token accepted there has) none named;
}
