-- The file of a name, where one more file is there.
use Rattle.std.proofs.Common.{◌≡◌, ◌≢◌, ◌<◌, ◌+◌, length, take, get_or, ℕ, List, [], ◌∷◌, ◌++◌, Option, Some, None, Bool, true, false, if◌then◌else◌, ap, refl, ◌∙◌, sym}
use Rattle.std.proofs.lemmas.List.{take_more}
use Rattle.std.specs.Option.{option_or}
use Rattle.std.specs.Str.{bytes_eq}
use Rattle.std.proofs.lemmas.Slice.Eq.{bytes_eq-Decides}
use Rattle.mf_types.specs.Files.{bytes_under}
use Rattle.mf_types.specs.declared.files.NamedFile.{NamedFile}

-- the last file decides, and where it has another name the others do
or_if : {A : Type 0} (b : Bool) (x : A) (o p : Option A) → option_or (if b then Some x else o) p ≡ (if b then Some x else option_or o p)
or_if true x o p = refl
or_if false x o p = refl

pub bytes_under-append : (fs : List NamedFile) (f : NamedFile) (name : List ℕ) → bytes_under (fs ++ f ∷ []) name ≡ (if bytes_eq f.name name then Some f.bytes else bytes_under fs name)
bytes_under-append [] f name = refl
bytes_under-append (g ∷ fs) f name =
    ap (λ (o : Option (List ℕ)). option_or o (if bytes_eq g.name name then Some g.bytes else None)) (bytes_under-append fs f name)
    ∙ or_if (bytes_eq f.name name) f.bytes (bytes_under fs name) (if bytes_eq g.name name then Some g.bytes else None)

chosen : {A : Type 0} (b : Bool) (x y : A) → b ≡ true → (if b then x else y) ≡ x
chosen b x y e = ap (λ v. if v then x else y) e

pub bytes_under_new : (fs : List NamedFile) (f : NamedFile) → bytes_under (fs ++ f ∷ []) f.name ≡ Some f.bytes
bytes_under_new fs f = bytes_under-append fs f f.name ∙ chosen (bytes_eq f.name f.name) (Some f.bytes) (bytes_under fs f.name) ((bytes_eq-Decides f.name f.name).1 refl)

passed : {A : Type 0} (b : Bool) (x y : A) → (b ≡ true → (if b then x else y) ≡ y) → (if b then x else y) ≡ y
passed true x y h = h refl
passed false x y h = refl

pub bytes_under_others : (fs : List NamedFile) (f : NamedFile) (other : List ℕ) → other ≢ f.name → bytes_under (fs ++ f ∷ []) other ≡ bytes_under fs other
bytes_under_others fs f other ne =
    bytes_under-append fs f other
    ∙ passed (bytes_eq f.name other) (Some f.bytes) (bytes_under fs other) (λ e. absurd (ne (sym ((bytes_eq-Decides f.name other).0 e))))

-- one file more, of this name
pub bytes_under_this : (fs : List NamedFile) (i : ℕ) (f : NamedFile) (name : List ℕ) → i < length fs → f ≡ get_or fs i f → bytes_eq f.name name ≡ true → bytes_under (take (i + 1) fs) name ≡ Some f.bytes
bytes_under_this fs i f name below is same =
    ap (λ (gs : List NamedFile). bytes_under gs name) (take_more fs i f below ∙ ap (λ (g : NamedFile). take i fs ++ g ∷ []) (sym is))
    ∙ bytes_under-append (take i fs) f name
    ∙ chosen (bytes_eq f.name name) (Some f.bytes) (bytes_under (take i fs) name) same

-- one file more, of another name
pub bytes_under_other : (fs : List NamedFile) (i : ℕ) (f : NamedFile) (name : List ℕ) → i < length fs → f ≡ get_or fs i f → bytes_eq f.name name ≡ false → bytes_under (take (i + 1) fs) name ≡ bytes_under (take i fs) name
bytes_under_other fs i f name below is other =
    ap (λ (gs : List NamedFile). bytes_under gs name) (take_more fs i f below ∙ ap (λ (g : NamedFile). take i fs ++ g ∷ []) (sym is))
    ∙ bytes_under-append (take i fs) f name
    ∙ ap (λ v. if v then Some f.bytes else bytes_under (take i fs) name) other
