-- Codes one after the other, up to the limits that they pass.
use Rattle.std.proofs.Common.{◌≡◌, ℕ, zero, suc, ◌+◌, ◌<◌, ◌≤◌, Bool, true, false, List, [], ◌∷◌, ◌++◌, map, length, drop, get_or, Option, Some, None, refl, sym, ap, ◌∙◌, arith}
use Rattle.std.specs.Prelude.{ℤ, unsigned_abs, if◌then◌else◌, Result, Ok, Err, OnOk, IfErr}
use Rattle.std.specs.Global.{Vec}
use Rattle.std.specs.Option.{option_map, option_or}
use Rattle.std.proofs.lemmas.List.{append_assoc, append-nil, map-append, length-map, drop_all}
use Rattle.std.proofs.lemmas.List.Sums.{sum_by-cons}
use Rattle.std.proofs.lemmas.Option.{slice_get-get_or}
use Rattle.cil_code.specs.Bodies.{BodyPart}
use Rattle.file_tables.specs.Metadata.{rows_of, row_count}
use Rattle.file_tables.specs.File.{FilePart}
use Rattle.classes.specs.Queries.{or_else, first_some}
use Rattle.kept_rows.specs.Select.{select}
use Rattle.kept_closure.specs.Named.{InOption}
use Rattle.world_rows.specs.Tokens.{methods}
use Rattle.msspot_write.specs.Written.{codes_of as bytes_of}
use Rattle.row_numbers.specs.declared.table.Table.TheVariants as table
use Rattle.kept_marks.specs.Masks.{Masks}
use Rattle.code_shrink.specs.Limits.{far_in, wide_in}
use Rattle.code_shrink.specs.Shrunk.{CanShrink, shrunk_bytes}
use Rattle.converted.specs.Bodies.{body_of, code_in, codes_of}
use Rattle.converted.specs.Over.{limit_in, over_distances, over_switches}
use Rattle.image_codes.specs.declared.codes.Shrunk.{Shrunk}
use Rattle.image_codes.specs.Codes.{AllCanShrink, short_length, short_lengths, IsLeft}

-- ---- one code more

module _ (token : ℕ → ℕ) (found next : Shrunk) (code : List ℕ) (rest whole : List (List ℕ)) (left : IsLeft token found (code ∷ rest) whole) where
  near_next : far_in code ≡ None → first_some far_in rest ≡ first_some far_in whole
  near_next far = sym (ap (λ o. or_else o (first_some far_in rest)) far) ∙ left.near

  -- it is shortened
  pub added : (v : Vec ℕ) → far_in code ≡ None → wide_in code ≡ None → next.wide ≡ found.wide → next.codes.items ≡ found.codes.items ++ v ∷ [] → v.items ≡ shrunk_bytes token code → IsLeft token next rest whole
  added v far wide same pushed is = record {
    near = near_next far;
    wide = ap (λ o. option_or o (first_some wide_in rest)) same ∙ sym (ap (λ o. option_or found.wide (or_else o (first_some wide_in rest))) wide) ∙ left.wide;
    codes = λ none.
        ap (λ (vs : List (Vec ℕ)). bytes_of vs ++ map (shrunk_bytes token) rest) pushed
        ∙ ap (λ bs. bs ++ map (shrunk_bytes token) rest) (map-append (λ (c : Vec ℕ). c.items) found.codes.items (v ∷ []))
        ∙ append_assoc (bytes_of found.codes.items) (v.items ∷ []) (map (shrunk_bytes token) rest)
        ∙ ap (λ bs. bytes_of found.codes.items ++ bs ∷ map (shrunk_bytes token) rest) is
        ∙ left.codes (sym same ∙ none);
  }

  -- a switch of it has too many targets
  pub noted : (targets : ℕ) → far_in code ≡ None → wide_in code ≡ Some targets → next.wide ≡ option_or found.wide (Some targets) → IsLeft token next rest whole
  noted targets far wide is = record {
    near = near_next far;
    wide = ap (λ o. option_or o (first_some wide_in rest)) is ∙ first found.wide ∙ sym (ap (λ o. option_or found.wide (or_else o (first_some wide_in rest))) wide) ∙ left.wide;
    codes = λ none. some found.wide (sym is ∙ none);
  }
    where
      first : (o : Option ℕ) → option_or (option_or o (Some targets)) (first_some wide_in rest) ≡ option_or o (or_else (Some targets) (first_some wide_in rest))
      first None = refl
      first (Some n) = refl

      some : {A : Type 0} (o : Option ℕ) → option_or o (Some targets) ≡ None → A
      some None e = absurd (cc e)
      some (Some n) e = absurd (cc e)

-- a distance of it is outside
pub far_past : (token : ℕ → ℕ) (found : Shrunk) (code : List ℕ) (rest whole : List (List ℕ)) (f : ℕ) (d : ℤ) → IsLeft token found (code ∷ rest) whole → far_in code ≡ Some d → over_distances f whole ≡ Some (limit_in f 15 (unsigned_abs d))
far_past token found code rest whole f d left far =
    ap (option_map (λ z. limit_in f 15 (unsigned_abs z))) (sym left.near ∙ ap (λ o. or_else o (first_some far_in rest)) far)

-- ---- no code is left

module _ (token : ℕ → ℕ) (found : Shrunk) (whole : List (List ℕ)) (left : IsLeft token found [] whole) where
  pub none_far : (f : ℕ) → over_distances f whole ≡ None
  none_far f = ap (option_map (λ z. limit_in f 15 (unsigned_abs z))) (sym left.near)

  wide_is : (o : Option ℕ) → found.wide ≡ o → first_some wide_in whole ≡ o
  wide_is o e = sym left.wide ∙ ap (λ o. option_or o None) e ∙ none o
    where
      none : (o : Option ℕ) → option_or o None ≡ o
      none None = refl
      none (Some n) = refl

  pub wide_past : (f targets : ℕ) → found.wide ≡ Some targets → over_switches f whole ≡ Some (limit_in f 16 targets)
  wide_past f targets e = ap (option_map (limit_in f 16)) (wide_is (Some targets) e)

  pub none_wide : (f : ℕ) → found.wide ≡ None → over_switches f whole ≡ None
  none_wide f e = ap (option_map (limit_in f 16)) (wide_is None e)

  pub all_codes : found.wide ≡ None → bytes_of found.codes.items ≡ map (shrunk_bytes token) whole
  all_codes e = sym (append-nil (bytes_of found.codes.items)) ∙ left.codes e

-- all are left
pub all_left : (token : ℕ → ℕ) (found : Shrunk) (whole : List (List ℕ)) → found.wide ≡ None → found.codes.items ≡ [] → IsLeft token found whole whole
all_left token found whole none empty = record {
  near = refl;
  wide = ap (λ o. option_or o (first_some wide_in whole)) none;
  codes = λ e. ap (λ (vs : List (Vec ℕ)). bytes_of vs ++ map (shrunk_bytes token) whole) empty;
}

-- ---- the codes of the kept rows from a row on

abbrev pub kept_from : {A : Type 0} → (ℕ → Bool) → ℕ → List A → List A
kept_from keep n xs = select (λ k. keep (n + k)) (drop n xs)

module _ (kept : Masks) (x : FilePart) where
  abbrev pub left_from : ℕ → List (List ℕ)
  left_from n = kept_from (kept table.MethodDef) n (codes_of x)

  abbrev pub code_at : ℕ → List ℕ
  code_at n = code_in (body_of x (get_or (rows_of x.metadata methods) n []))

  first_code : (n : ℕ) → n < row_count x.metadata methods → drop n (codes_of x) ≡ code_at n ∷ drop (n + 1) (codes_of x)
  first_code n within =
      let next : suc n ≡ n + 1 = omega arith in
      dropped (λ row. code_in (body_of x row)) [] (rows_of x.metadata methods) n within ∙ ap (λ k. code_at n ∷ drop k (codes_of x)) next
    where
      dropped : {A B : Type 0} (g : A → B) (d : A) (rows : List A) (n : ℕ) → n < length rows → drop n (map g rows) ≡ g (get_or rows n d) ∷ drop (suc n) (map g rows)
      dropped g d [] n lt = absurd (omega (arith, lt))
      dropped g d (r ∷ rows) zero lt = refl
      dropped g d (r ∷ rows) (suc n) lt = dropped g d rows n (omega (arith, lt))

  pub left_next : (n : ℕ) → n < row_count x.metadata methods → left_from n ≡ (if kept table.MethodDef n then code_at n ∷ left_from (n + 1) else left_from (n + 1))
  left_next n within =
      let keep = kept table.MethodDef in
      let here : n + 0 ≡ n = omega arith in
      let step : (k : ℕ) → n + suc k ≡ n + 1 + k = λ k. omega arith in
      ap (select (λ k. keep (n + k))) (first_code n within)
      ∙ ap (λ (b : Bool). if b then code_at n ∷ select (λ k. keep (n + suc k)) (drop (n + 1) (codes_of x)) else select (λ k. keep (n + suc k)) (drop (n + 1) (codes_of x))) (ap keep here)
      ∙ ap (λ (h : ℕ → Bool). if keep n then code_at n ∷ select h (drop (n + 1) (codes_of x)) else select h (drop (n + 1) (codes_of x))) (λ i k. keep (step k i))

  pub left_first : left_from 0 ≡ select (kept table.MethodDef) (codes_of x)
  left_first =
      let same : (k : ℕ) → 0 + k ≡ k = λ k. omega arith in
      ap (λ (h : ℕ → Bool). select h (codes_of x)) (λ i k. kept table.MethodDef (same k i))

  pub left_last : (n : ℕ) → row_count x.metadata methods ≤ n → left_from n ≡ []
  left_last n past =
      let long = length-map (rows_of x.metadata methods) (λ row. code_in (body_of x row)) in
      ap (select (λ k. kept table.MethodDef (n + k))) (drop_all n (codes_of x) (omega (arith, past, long)))

  -- the body of a kept row can be shortened
  pub body_sound : AllCanShrink kept x → (n : ℕ) → n < row_count x.metadata methods → kept table.MethodDef n ≡ true → InOption (λ (b : BodyPart). CanShrink b.code) (body_of x (get_or (rows_of x.metadata methods) n []))
  body_sound all n within keeps = by (body_of x (get_or (rows_of x.metadata methods) n [])) refl
    where
      by : (o : Option BodyPart) → body_of x (get_or (rows_of x.metadata methods) n []) ≡ o → InOption (λ (b : BodyPart). CanShrink b.code) o
      by None e = tt
      by (Some b) e = all n (get_or (rows_of x.metadata methods) n []) b (slice_get-get_or (rows_of x.metadata methods) n [] within) keeps e

  -- ---- their lengths

  pub total_next : (n total size : ℕ) → n < row_count x.metadata methods → size ≡ (if kept table.MethodDef n then short_length (code_at n) else 0) → total + short_lengths (left_from n) ≡ short_lengths (select (kept table.MethodDef) (codes_of x)) → total + size + short_lengths (left_from (n + 1)) ≡ short_lengths (select (kept table.MethodDef) (codes_of x))
  total_next n total size within is before = by (kept table.MethodDef n) is (ap short_lengths (left_next n within))
    where
      by : (b : Bool) → size ≡ (if b then short_length (code_at n) else 0) → short_lengths (left_from n) ≡ short_lengths (if b then code_at n ∷ left_from (n + 1) else left_from (n + 1)) → total + size + short_lengths (left_from (n + 1)) ≡ short_lengths (select (kept table.MethodDef) (codes_of x))
      by true s e = let sum = sum_by-cons short_length (code_at n) (left_from (n + 1)) in omega (arith, s, e, before, sum)
      by false s e = omega (arith, s, e, before)

  pub total_first : 0 + short_lengths (left_from 0) ≡ short_lengths (select (kept table.MethodDef) (codes_of x))
  total_first = let e = ap short_lengths left_first in omega (arith, e)

  pub total_last : (n total : ℕ) → row_count x.metadata methods ≤ n → total + short_lengths (left_from n) ≡ short_lengths (select (kept table.MethodDef) (codes_of x)) → total ≡ short_lengths (select (kept table.MethodDef) (codes_of x))
  total_last n total past is = let e = ap short_lengths (left_last n past) in omega (arith, e, is)

-- ---- what holds of a result

pub on_ok : {A E : Type 0} (r : Result A E) (P Q : Type 0) → (P → Q) → OnOk r P → OnOk r Q
on_ok (Ok a) P Q h p = h p
on_ok (Err e) P Q h p = tt

pub if_err : {A E : Type 0} (r : Result A E) (P Q : E → Type 0) → ((e : E) → P e → Q e) → IfErr r P → IfErr r Q
if_err (Ok a) P Q h p = tt
if_err (Err e) P Q h p = h e p
