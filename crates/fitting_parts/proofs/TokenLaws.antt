-- Tokens and signatures of kept rows are small where few rows are kept of the tables that types are named in.
use Rattle.std.proofs.Common.{◌≡◌, suc, ◌<◌, List, [], ◌∷◌, map, length, Option, Some, None, refl, sym, ap, subst, arith}
use Rattle.std.specs.Option.{option_map}
use Rattle.kept_rows.specs.Select.{select}
use Rattle.assemblies.specs.Rows.{TypeToken, TypeDef, TypeRef, TypeSpec, RawType, RawSpelt, RawClass, RawValue, RawArray, RawPlace, RawDirect, RawByRef, RawSignature, Assembly}
use Rattle.assemblies.specs.Chosen.{Choice, token_to, raw_to, place_to, signature_to}
use Rattle.assemblies.specs.Closed.{Each}
use Rattle.kept_closure.specs.Named.{InOption, InType, InPlace, InSignature}
use Rattle.kept_closure.specs.Kept.{HasType}
use Rattle.image_form.specs.Limits.{TypeIsSmall}
use Rattle.image_form.proofs.ChoiceLaws.{kept_below}
use Rattle.fitting_parts.specs.Small.{IsSmall, RawIsSmall, SignatureIsSmall}
use Rattle.fitting_parts.specs.Kept.{AreThere}

pub each_to : {A B : Type 0} (P : A → Type 0) (R : B → Type 0) (f : A → B) → ((x : A) → P x → R (f x)) → (xs : List A) → Each P xs → Each R (map f xs)
each_to P R f h [] p = tt
each_to P R f h (x ∷ xs) p = (h x p.0, each_to P R f h xs p.1)

pub in_mapped : {A B : Type 0} (P : A → Type 0) (R : B → Type 0) (f : A → B) → ((x : A) → P x → R (f x)) → (o : Option A) → InOption P o → InOption R (option_map f o)
in_mapped P R f h None p = tt
in_mapped P R f h (Some x) p = h x p

mapped_length : {A B : Type 0} (make : A → B) (xs : List A) → length (map make xs) ≡ length xs
mapped_length make [] = refl
mapped_length make (x ∷ xs) = ap suc (mapped_length make xs)

pub mapped_small : {A B : Type 0} (make : A → B) (xs : List A) → IsSmall (length xs) → IsSmall (length (map make xs))
mapped_small make xs small = subst IsSmall (sym (mapped_length make xs)) small

-- few rows of the tables that types are named in
pub record TypesAreFew (k : Choice) (p : Assembly) : Type 0 where
  pub types : length (select k.types p.types) < 16384
  pub refs : length (select k.refs p.refs) < 16384
  pub specs : length (select k.specs p.specs) < 16384

module _ (k : Choice) (p : Assembly) (there : AreThere k p) (few : TypesAreFew k p) where
  abbrev Has : TypeToken → Type 0
  Has = HasType k

  pub token_small : (t : TypeToken) → Has t → TypeIsSmall (token_to k t)
  token_small (TypeDef n) h = omega (arith, kept_below k.types p.types n (there.types n h) h, few.types)
  token_small (TypeRef n) h = omega (arith, kept_below k.refs p.refs n (there.refs n h) h, few.refs)
  token_small (TypeSpec n) h = omega (arith, kept_below k.specs p.specs n (there.specs n h) h, few.specs)

  pub raw_small : (s : RawType) → InType Has s → RawIsSmall (raw_to k s)
  raw_small (RawSpelt e) h = tt
  raw_small (RawClass t) h = token_small t h
  raw_small (RawValue t) h = token_small t h
  raw_small (RawArray s) h = raw_small s h

  place_small : (s : RawPlace) → InPlace Has s → InPlace TypeIsSmall (place_to k s)
  place_small (RawDirect s) h = raw_small s h
  place_small (RawByRef s) h = raw_small s h

  pub signature_small : (s : RawSignature) → InSignature Has s → IsSmall (length s.parameters) → SignatureIsSmall (signature_to k s)
  signature_small s h small =
      record {
        tokens = (in_mapped (InType Has) RawIsSmall (raw_to k) raw_small s.returns h.0, each_to (InPlace Has) (InPlace TypeIsSmall) (place_to k) place_small s.parameters h.1);
        parameters = mapped_small (place_to k) s.parameters small;
      }
