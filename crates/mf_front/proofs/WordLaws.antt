-- Words as files.
use Rattle.std.proofs.Common.{◌≡◌, ℕ, Bool, true, false, List, ◌∷◌, length, map, cond, Some, None, ap, ◌∙◌}
use Rattle.std.specs.Prelude.{String, not, ◌&&◌, nat_le}
use Rattle.std.specs.List.{list_all}
use Rattle.std.specs.String.{string_bytes}
use Rattle.std.proofs.lemmas.List.{length-map}
use Rattle.std.proofs.lemmas.List.Folds.{list_all-map}
use Rattle.mf_front.specs.declared.jobs.Job.TheVariants.{Check, Convert}
use Rattle.mf_front.specs.Words.{is_option, are_job_files, check_of, convert_of}

module _ {A : Type 0} (words : List (String A)) where
  abbrev test : Bool
  test = nat_le 1 (length words) && nat_le (length words) 1000 && list_all (λ word. not (is_option (string_bytes word))) words

  same : are_job_files (map string_bytes words) ≡ test
  same =
      ap (λ n. nat_le 1 n && nat_le n 1000 && list_all (λ word. not (is_option word)) (map string_bytes words)) (length-map words string_bytes)
      ∙ ap (λ b. nat_le 1 (length words) && nat_le (length words) 1000 && b) (list_all-map (λ word. not (is_option word)) string_bytes words)

  pub files_found : test ≡ true → check_of (map string_bytes words) ≡ Some (Check (map string_bytes words))
  unfolding check_of
  files_found e = ap (λ b. cond b (Some (Check (map string_bytes words))) None) (same ∙ e)

  pub no_files : test ≡ false → check_of (map string_bytes words) ≡ None
  unfolding check_of
  no_files e = ap (λ b. cond b (Some (Check (map string_bytes words))) None) (same ∙ e)

  -- behind the word OUT
  module _ (out : List ℕ) where
    pub out_found : is_option out ≡ false → test ≡ true → convert_of (out ∷ map string_bytes words) ≡ Some (Convert out (map string_bytes words))
    unfolding convert_of
    out_found o e =
        ap (λ b. cond (not b && are_job_files (map string_bytes words)) (Some (Convert out (map string_bytes words))) None) o
        ∙ ap (λ b. cond b (Some (Convert out (map string_bytes words))) None) (same ∙ e)

    pub no_out : is_option out ≡ true → convert_of (out ∷ map string_bytes words) ≡ None
    unfolding convert_of
    no_out o = ap (λ b. cond (not b && are_job_files (map string_bytes words)) (Some (Convert out (map string_bytes words))) None) o

    pub no_out_files : is_option out ≡ false → test ≡ false → convert_of (out ∷ map string_bytes words) ≡ None
    unfolding convert_of
    no_out_files o e =
        ap (λ b. cond (not b && are_job_files (map string_bytes words)) (Some (Convert out (map string_bytes words))) None) o
        ∙ ap (λ b. cond b (Some (Convert out (map string_bytes words))) None) (same ∙ e)
