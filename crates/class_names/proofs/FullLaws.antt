-- The units of a class's full name are those of its text.
use Rattle.std.proofs.Common.{◌≡◌, ℕ, zero, suc, ◌<◌, Bool, true, false, List, [], ◌∷◌, ◌++◌, Option, Some, None, refl, sym, ap, ◌∙◌, append_assoc, arith}
use Rattle.std.specs.Prelude.{codes, if◌then◌else◌, unwrap_or}
use Rattle.std.specs.Option.{option_map}
use Rattle.std.specs.Char.Escape.{encode_utf16}
use Rattle.std.specs.Str.{IsAscii, IsUtf8, chars}
use Rattle.std.proofs.lemmas.Str.{chars-append, chars-IsAscii, chars-nil, IsUtf8-append, IsUtf8-nil, IsUtf8-from_ascii}
use Rattle.machine.specs.Data.{Id}
use Rattle.machine.specs.Texts.{same_text, utf16_of, units_of_name}
use Rattle.classes.specs.Classes.{Class, Classes}
use Rattle.classes.specs.Queries.{enclosing_of, own_name, full_name_within, full_name}
use Rattle.class_names.specs.Units.{joined, own_units, units_within, full_units}
use Rattle.class_names.specs.Texts.{AreTexts}

-- ---- texts that are joined

utf16_joined : (cs ds : List ℕ) → utf16_of (cs ++ ds) ≡ utf16_of cs ++ utf16_of ds
utf16_joined [] ds = refl
utf16_joined (c ∷ cs) ds = ap (λ us. encode_utf16 c ++ us) (utf16_joined cs ds) ∙ sym (append_assoc (encode_utf16 c) (utf16_of cs) (utf16_of ds))

units_joined : (xs ys : List ℕ) → IsUtf8 xs → units_of_name (xs ++ ys) ≡ units_of_name xs ++ units_of_name ys
units_joined xs ys u = ap utf16_of (chars-append xs ys u) ∙ utf16_joined (chars xs) (chars ys)

no_units : units_of_name [] ≡ []
no_units = ap utf16_of chars-nil

one_ascii : (b : ℕ) → b < 128 → IsAscii (b ∷ [])
one_ascii b low zero = low
one_ascii b low (suc zero) = omega arith
one_ascii b low (suc (suc i)) = omega arith

dot_ascii : IsAscii (codes ".")
dot_ascii = one_ascii 46 (omega arith)

plus_ascii : IsAscii (codes "+")
plus_ascii = one_ascii 43 (omega arith)

dot_units : units_of_name (codes ".") ≡ 46 ∷ []
dot_units = ap utf16_of (chars-IsAscii (codes ".") dot_ascii)

plus_units : units_of_name (codes "+") ≡ 43 ∷ []
plus_units = ap utf16_of (chars-IsAscii (codes "+") plus_ascii)

-- ---- a class's own part

module _ (k : Class) (space : IsUtf8 k.namespace) where
  own_is : units_of_name (own_name k) ≡ joined k.namespace k.name
  own_is = by (same_text k.namespace [])
    where
      by : (b : Bool) → units_of_name (if b then k.name else k.namespace ++ (codes "." ++ k.name)) ≡ (if b then units_of_name k.name else units_of_name k.namespace ++ (46 ∷ units_of_name k.name))
      by true = refl
      by false =
          units_joined k.namespace (codes "." ++ k.name) space
          ∙ ap (λ us. units_of_name k.namespace ++ us) (units_joined (codes ".") k.name (IsUtf8-from_ascii (codes ".") dot_ascii) ∙ ap (λ us. us ++ units_of_name k.name) dot_units)

  own_text : IsUtf8 k.name → IsUtf8 (own_name k)
  own_text name = by (same_text k.namespace [])
    where
      by : (b : Bool) → IsUtf8 (if b then k.name else k.namespace ++ (codes "." ++ k.name))
      by true = name
      by false = IsUtf8-append k.namespace (codes "." ++ k.name) space (IsUtf8-append (codes ".") k.name (IsUtf8-from_ascii (codes ".") dot_ascii) name)

-- ---- the whole

module _ (cs : Classes) (texts : AreTexts cs) where
  abbrev own_at : Id → List ℕ
  own_at c = unwrap_or (option_map own_name (cs.class c)) []

  own_at_is : (c : Id) → units_of_name (own_at c) ≡ own_units cs c
  own_at_is c = by (cs.class c) refl
    where
      by : (o : Option Class) → cs.class c ≡ o → units_of_name (unwrap_or (option_map own_name o) []) ≡ unwrap_or (option_map (λ (k : Class). joined k.namespace k.name) o) []
      by None e = no_units
      by (Some k) e = own_is k (texts c k e).0

  own_at_text : (c : Id) → IsUtf8 (own_at c)
  own_at_text c = by (cs.class c) refl
    where
      by : (o : Option Class) → cs.class c ≡ o → IsUtf8 (unwrap_or (option_map own_name o) [])
      by None e = IsUtf8-nil
      by (Some k) e = own_text k (texts c k e).0 (texts c k e).1

  plus_text : IsUtf8 (codes "+")
  plus_text = IsUtf8-from_ascii (codes "+") plus_ascii

  within_text : (n : ℕ) (c : Id) → IsUtf8 (full_name_within n cs c)
  within_text zero c = own_at_text c
  within_text (suc n) c = by (within_text n) (enclosing_of cs c)
    where
      by : ((outer : Id) → IsUtf8 (full_name_within n cs outer)) → (o : Option Id) → IsUtf8 (unwrap_or (option_map (λ outer. full_name_within n cs outer ++ codes "+") o) [] ++ own_at c)
      by text None = own_at_text c
      by text (Some outer) = IsUtf8-append (full_name_within n cs outer ++ codes "+") (own_at c) (IsUtf8-append (full_name_within n cs outer) (codes "+") (text outer) plus_text) (own_at_text c)

  within_is : (n : ℕ) (c : Id) → units_of_name (full_name_within n cs c) ≡ units_within n cs c
  within_is zero c = own_at_is c
  within_is (suc n) c = by (within_is n) (enclosing_of cs c)
    where
      by : ((outer : Id) → units_of_name (full_name_within n cs outer) ≡ units_within n cs outer) → (o : Option Id)
          → units_of_name (unwrap_or (option_map (λ outer. full_name_within n cs outer ++ codes "+") o) [] ++ own_at c)
          ≡ unwrap_or (option_map (λ outer. units_within n cs outer ++ 43 ∷ []) o) [] ++ own_units cs c
      by same None = own_at_is c
      by same (Some outer) =
          units_joined (full_name_within n cs outer ++ codes "+") (own_at c) (IsUtf8-append (full_name_within n cs outer) (codes "+") (within_text n outer) plus_text)
          ∙ ap (λ us. us ++ units_of_name (own_at c)) (units_joined (full_name_within n cs outer) (codes "+") (within_text n outer) ∙ ap (λ us. us ++ units_of_name (codes "+")) (same outer) ∙ ap (λ us. units_within n cs outer ++ us) plus_units)
          ∙ ap (λ us. (units_within n cs outer ++ 43 ∷ []) ++ us) (own_at_is c)

pub full_is : (cs : Classes) → AreTexts cs → (c : Id) → units_of_name (full_name cs c) ≡ full_units cs c
full_is cs texts c = within_is cs texts cs.size c
