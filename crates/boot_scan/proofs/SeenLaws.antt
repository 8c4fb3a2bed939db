-- The reading of images is a format of the deployment: what stands lies inside, and is told by its own bytes.
use Rattle.std.proofs.Common.{◌≡◌, ℕ, ◌≤◌, Bool, false, List, length, take, Option, Some, None, refl, sym, ap, ◌∙◌, subst}
use Rattle.std.specs.Prelude.{nat_eq, not}
use Rattle.std.specs.Option.{option_map}
use Rattle.std.proofs.lemmas.Option.{none-some, same_Some}
use Rattle.machine.specs.Throw.{on_some}
use Rattle.image_bytes.specs.Layout.{Image, view}
use Rattle.assemblies.specs.Rows.{Assembly}
use Rattle.image_form.specs.Whole.{image_rows, seen}
use Rattle.msspot_read.specs.Rows.{size_of}
use Rattle.deploy_model.specs.Banks.{IsFormat}
use Rattle.boot_scan.specs.Images.{has_entry, image_size, image_entry, FORMAT}
use Rattle.boot_scan.proofs.OwnLaws.{view_inside, view_alone}

abbrev with_rows : Image → Option (Image × Assembly)
with_rows i = option_map (λ (p : Assembly). (i, p)) (image_rows i)

-- an image that is seen is viewed
record Viewed (bytes : List ℕ) (x : Image × Assembly) : Type 0 where
  was : view bytes ≡ Some x.0
  rows : with_rows x.0 ≡ Some x

pair_is : (i : Image) (o : Option Assembly) (x : Image × Assembly) → option_map (λ (p : Assembly). (i, p)) o ≡ Some x → i ≡ x.0
pair_is i None x e = absurd (none-some x e)
pair_is i (Some p) x e = ap (λ (y : Image × Assembly). y.0) (same_Some {A = Image × Assembly} (i, p) x e)

viewed : (bytes : List ℕ) (x : Image × Assembly) → seen bytes ≡ Some x → Viewed bytes x
viewed bytes x e = by (view bytes) refl e where
  by : (o : Option Image) → view bytes ≡ o → on_some o with_rows ≡ Some x → Viewed bytes x
  by None is e = absurd (none-some x e)
  by (Some i) is e =
      let same : i ≡ x.0 = pair_is i (image_rows i) x e in
      record { was = is ∙ ap Some same; rows = subst (λ j. with_rows j ≡ Some x) same e }

seen_inside : (bytes : List ℕ) (x : Image × Assembly) → seen bytes ≡ Some x → size_of x.0 ≤ length bytes
seen_inside bytes x e = view_inside bytes x.0 (viewed bytes x e).was

seen_alone : (bytes others : List ℕ) (x : Image × Assembly) → seen bytes ≡ Some x → take (size_of x.0) others ≡ take (size_of x.0) bytes → seen others ≡ Some x
seen_alone bytes others x e same =
    let v = viewed bytes x e in
    ap (λ (o : Option Image). on_some o with_rows) (view_alone bytes others x.0 v.was same) ∙ v.rows

abbrev size_seen : Option (Image × Assembly) → Option ℕ
size_seen o = option_map (λ (x : Image × Assembly). size_of x.0) o

-- what stands, by its size
record Stands (bytes : List ℕ) (size : ℕ) : Type 0 where
  image : Image × Assembly
  was : seen bytes ≡ Some image
  is : size_of image.0 ≡ size

stands : (bytes : List ℕ) (size : ℕ) → image_size bytes ≡ Some size → Stands bytes size
unfolding image_size
stands bytes size e = by (seen bytes) refl e where
  by : (o : Option (Image × Assembly)) → seen bytes ≡ o → size_seen o ≡ Some size → Stands bytes size
  by None is e = absurd (none-some size e)
  by (Some x) is e = record { image = x; was = is; is = same_Some (size_of x.0) size e }

pub image_inside : (bytes : List ℕ) (size : ℕ) → image_size bytes ≡ Some size → size ≤ length bytes
image_inside bytes size e =
    let s = stands bytes size e in
    subst (λ n. n ≤ length bytes) s.is (seen_inside bytes s.image s.was)

same_seen : (bytes others : List ℕ) (size : ℕ) → image_size bytes ≡ Some size → take size others ≡ take size bytes → seen others ≡ seen bytes
same_seen bytes others size e same =
    let s = stands bytes size e in
    seen_alone bytes others s.image s.was (subst (λ n. take n others ≡ take n bytes) (sym s.is) same) ∙ sym s.was

pub image_alone : (bytes others : List ℕ) (size : ℕ) → image_size bytes ≡ Some size → take size others ≡ take size bytes → image_size others ≡ Some size
unfolding image_size
image_alone bytes others size e same = ap size_seen (same_seen bytes others size e same) ∙ e

pub entry_alone : (bytes others : List ℕ) (size : ℕ) → image_size bytes ≡ Some size → take size others ≡ take size bytes → image_entry others ≡ image_entry bytes
unfolding image_entry
entry_alone bytes others size e same = ap has_entry (same_seen bytes others size e same)

pub is_format : IsFormat FORMAT
is_format = record { inside = image_inside; own = image_alone }

-- ---- what a reader of images tells

pub viewed_size : (bytes : List ℕ) (i : Image) → Some i ≡ option_map (λ (x : Image × Assembly). x.0) (seen bytes) → Some (size_of i) ≡ image_size bytes
unfolding image_size
viewed_size bytes i e = ap (λ (o : Option Image). option_map size_of o) e ∙ by (seen bytes) where
  by : (o : Option (Image × Assembly)) → option_map size_of (option_map (λ (x : Image × Assembly). x.0) o) ≡ size_seen o
  by None = refl
  by (Some x) = refl

abbrev entry_of : Option Image → Bool
entry_of None = false
entry_of (Some i) = not (nat_eq i.entry 65535)

pub viewed_entry : (bytes : List ℕ) (i : Image) → Some i ≡ option_map (λ (x : Image × Assembly). x.0) (seen bytes) → not (nat_eq i.entry 65535) ≡ image_entry bytes
unfolding image_entry
viewed_entry bytes i e = ap entry_of e ∙ by (seen bytes) where
  by : (o : Option (Image × Assembly)) → entry_of (option_map (λ (x : Image × Assembly). x.0) o) ≡ has_entry o
  by None = refl
  by (Some x) = refl

pub viewed_none : (bytes : List ℕ) → None ≡ option_map (λ (x : Image × Assembly). x.0) (seen bytes) → None ≡ image_size bytes
unfolding image_size
viewed_none bytes e = ap (λ (o : Option Image). option_map size_of o) e ∙ by (seen bytes) where
  by : (o : Option (Image × Assembly)) → option_map size_of (option_map (λ (x : Image × Assembly). x.0) o) ≡ size_seen o
  by None = refl
  by (Some x) = refl
