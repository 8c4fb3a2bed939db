-- What files come to that are converted.
use Rattle.std.proofs.Common.{◌≡◌, ◌⊎◌, inl, inr, refl, sym, ap, subst, ◌∙◌, ℕ, zero, suc, List, [], ◌∷◌, ◌++◌, length, Result, Ok, Err}
use Rattle.plain_types.specs.declared.fault.Fault.{Fault}
use Rattle.plain_types.specs.declared.fault.Limit.{Limit}
use Rattle.file_tables.specs.File.{FilePart, file_of}
use Rattle.type_names.specs.Opening.{joined, opened_from, files_opened}
use Rattle.assemblies.specs.Closed.{Each}
use Rattle.code_shrink.specs.Lines.{AreBytes}
use Rattle.convert_kept.specs.Conversion.{AreOpened}
use Rattle.mf_convert.specs.Conversion.{Converts}
use Rattle.mf_front.specs.declared.outcome.Outcome.{Outcome}
use Rattle.mf_front.specs.declared.outcome.Outcome.TheVariants.{OverLimit, NoMemory}
use Rattle.mfdeploy_top.specs.Accepted.{base_bytes, IsBased, judged, IsRefusal}
use Rattle.mfdeploy_top.specs.Convert.{limit_place, PassLimit, RefusedBy, AreRefused, IsSetOf}
use Rattle.mfdeploy_top.proofs.CheckLaws.{opened_behind, accepted_is}

-- ---- files that open are the parts of bytes

both_open : (n : ℕ) (p : Result FilePart Fault) (rest : Result (List FilePart) Fault) (files : List FilePart) → joined n p rest ≡ Ok files → (x : FilePart) × ((xs : List FilePart) × ((p ≡ Ok x) × ((rest ≡ Ok xs) × (files ≡ x ∷ xs))))
both_open n (Ok x) (Ok xs) files e = (x, (xs, (refl, (refl, (let same : x ∷ xs ≡ files = cc e in sym same)))))
both_open n (Ok x) (Err fault) files e = absurd (cc e)
both_open n (Err fault) rest files e = absurd (cc e)

opened : (n : ℕ) (bytes : List (List ℕ)) (files : List FilePart) → Each AreBytes bytes → opened_from n bytes ≡ Ok files → AreOpened files
opened n [] [] all e = λ f x at. absurd (cc at)
opened n [] (y ∷ ys) all e = absurd (cc e)
opened n (b ∷ bs) files all e =
    let o = both_open n (file_of b) (opened_from (suc n) bs) files e in
    subst AreOpened (sym o.1.1.1.1) (in_both o.0 o.1.0 o.1.1.0 (opened (suc n) bs o.1.0 all.1 o.1.1.1.0))
  where
    in_both : (x : FilePart) (xs : List FilePart) → file_of b ≡ Ok x → AreOpened xs → AreOpened (x ∷ xs)
    in_both x xs e rest zero y at = (b, (all.0, (let same : x ≡ y = cc at in e ∙ ap (λ (z : FilePart). Ok z) same)))
    in_both x xs e rest (suc f) y at = rest f y at

pub are_opened : (bytes : List (List ℕ)) (files : List FilePart) → Each AreBytes bytes → files_opened bytes ≡ Ok files → AreOpened files
are_opened bytes files all opens = opened 0 bytes files all opens

pub are_based : (bytes rest : List (List ℕ)) (files : List FilePart) → bytes ≡ base_bytes ++ rest → files_opened bytes ≡ Ok files → IsBased files
are_based bytes rest files behind opens = opened_behind bytes rest files behind opens

-- ---- limits

pub passes : (all : List FilePart) (limit : Limit) (outcome : Outcome) → Converts all (Err limit) → (outcome ≡ OverLimit limit (limit_place all limit)) ⊎ (outcome ≡ NoMemory) → PassLimit all outcome ⊎ (outcome ≡ NoMemory)
passes all limit outcome converts (inl told) = inl (limit, (converts, told))
passes all limit outcome converts (inr none) = inr none

-- ---- of bytes behind the base library

module _ (files bytes joined : List (List ℕ)) (behind : joined ≡ base_bytes ++ bytes) where
  pub is_set : (all : List FilePart) (set : List ℕ) (assemblies : ℕ) → judged (files_opened joined) ≡ Ok all → Converts all (Ok set) → assemblies ≡ length all → IsSetOf bytes set assemblies
  is_set all set assemblies e converts count =
      record { all = all; accepted = accepted_is files bytes joined behind all e; converts = converts; count = count }

  pub not_accepted : (outcome : Outcome) → IsRefusal files (judged (files_opened joined)) outcome → AreRefused files bytes outcome ⊎ (outcome ≡ NoMemory)
  not_accepted outcome (inl r) =
      inl (subst (λ found. RefusedBy files found outcome) (sym (ap (λ z. judged (files_opened z)) (sym behind) ∙ r.broken)) r.told)
  not_accepted outcome (inr none) = inr none

  pub too_large : (all : List FilePart) (outcome : Outcome) → judged (files_opened joined) ≡ Ok all → PassLimit all outcome ⊎ (outcome ≡ NoMemory) → AreRefused files bytes outcome ⊎ (outcome ≡ NoMemory)
  too_large all outcome e (inl told) = inl (subst (λ found. RefusedBy files found outcome) (sym (accepted_is files bytes joined behind all e)) told)
  too_large all outcome e (inr none) = inr none
