-- The images of a set that was found stand at their places.
use Rattle.std.proofs.Common.{◌≡◌, ℕ, zero, suc, ◌+◌, ◌<◌, List, [], ◌∷◌, length, take, drop, map, Option, Some, None, refl, sym, ap, ◌∙◌, subst, arith, length-take-le, get_or-take, get_or, ◌++◌}
use Rattle.std.specs.Prelude.{IsSome, slice_get, slice_index, unwrap_or}
use Rattle.std.specs.Option.{option_map}
use Rattle.std.proofs.lemmas.Option.{slice_get-map, slice_get-get_or}
use Rattle.std.proofs.lemmas.List.{length-map, take_more}
use Rattle.assemblies.specs.Rows.{Assembly}
use Rattle.image_bytes.specs.Layout as layout
use Rattle.image_form.specs.Whole.{seen}
use Rattle.msspot_read.specs.Rows.{size_of}
use Rattle.deploy_model.specs.Banks.{Format, Image}
use Rattle.board_model.specs.Standing.{Stand}
use Rattle.boot_scan.specs.Images.{FORMAT, image_size}
use Rattle.boot_scan.specs.Sets.{image_in, images_of, images_in}
use Rattle.boot_scan.specs.declared.sets.Set.{Set}
use Rattle.bound_set.specs.Set.{IsSized, IsFound}
use Rattle.board_program.specs.Parts.{NO_PARTS, parts_in, set_parts}

-- ---- the k-th image

nth : (bytes places sizes : List ℕ) (k : ℕ) → k < length places → k < length sizes → slice_get (images_of bytes places sizes) k ≡ Some (image_in bytes (slice_index places k) (slice_index sizes k))
nth bytes [] sizes k h g = absurd (omega (arith, h))
nth bytes (at ∷ places) [] k h g = absurd (omega (arith, g))
nth bytes (at ∷ places) (size ∷ sizes) zero h g = refl
nth bytes (at ∷ places) (size ∷ sizes) (suc k) h g = nth bytes places sizes k (omega (arith, h)) (omega (arith, g))

many : (bytes places sizes : List ℕ) → length places ≡ length sizes → length (images_of bytes places sizes) ≡ length places
many bytes [] sizes e = refl
many bytes (at ∷ places) [] e = absurd (omega (arith, e))
many bytes (at ∷ places) (size ∷ sizes) e = ap suc (many bytes places sizes (omega (arith, e)))

module _ (bytes : List ℕ) (s : Set) (sized : IsSized s) where
  long : (xs : List ℕ) → length xs ≡ 32 → length (take s.count xs) ≡ s.count
  long xs e = let few = sized.few in length-take-le s.count xs (omega (arith, few, e))

  pub image_count : length (images_in bytes s) ≡ s.count
  image_count = many bytes (take s.count s.at) (take s.count s.size) (long s.at sized.places ∙ sym (long s.size sized.sizes)) ∙ long s.at sized.places

  pub image_there : (k : ℕ) → k < s.count → slice_get (images_in bytes s) k ≡ Some (image_in bytes (slice_index s.at k) (slice_index s.size k))
  image_there k low =
      let n = long s.at sized.places in
      let m = long s.size sized.sizes in
      nth bytes (take s.count s.at) (take s.count s.size) k (omega (arith, n, low)) (omega (arith, m, low))
      ∙ ap (λ at. Some (image_in bytes at (slice_index (take s.count s.size) k))) (get_or-take s.count s.at k 0 low)
      ∙ ap (λ size. Some (image_in bytes (slice_index s.at k) size)) (get_or-take s.count s.size k 0 low)

-- ---- an image that stands is seen

stands_nth : (f : Format) (xs : List Image) (k : ℕ) (x : Image) → Stand f xs → slice_get xs k ≡ Some x → IsSome (f.image x.bytes)
stands_nth f [] k x h e = absurd (cc e)
stands_nth f (y ∷ xs) zero x h e = let same : y ≡ x = cc e in subst (λ (z : Image). IsSome (f.image z.bytes)) same h.0
stands_nth f (y ∷ xs) (suc k) x h e = stands_nth f xs k x h.1 e

pub record IsSeen (bytes : List ℕ) : Type 0 where
  pub parts : layout.Image
  pub rows : Assembly
  pub is : seen bytes ≡ Some (parts, rows)

seen_of : (bytes : List ℕ) → IsSome (image_size bytes) → IsSeen bytes
unfolding image_size
seen_of bytes h = by (seen bytes) refl h where
  by : (o : Option (layout.Image × Assembly)) → seen bytes ≡ o → IsSome (option_map (λ (x : layout.Image × Assembly). size_of x.0) o) → IsSeen bytes
  by None e g = absurd (cc g)
  by (Some x) e g = record { parts = x.0; rows = x.1; is = e }

pub image_seen : (bytes : List ℕ) (s : Set) → IsSized s → Stand FORMAT (images_in bytes s) → (k : ℕ) → k < s.count → IsSeen (take (slice_index s.size k) (drop (slice_index s.at k) bytes))
image_seen bytes s sized stand k low =
    seen_of _ (stands_nth FORMAT (images_in bytes s) k (image_in bytes (slice_index s.at k) (slice_index s.size k)) stand (image_there bytes s sized k low))

-- what is viewed there is the image's parts
pub parts_there : (bytes : List ℕ) (s : Set) → IsSized s → (k : ℕ) → k < s.count → (i : layout.Image)
    → Some i ≡ option_map (λ (x : layout.Image × Assembly). x.0) (seen (take (slice_index s.size k) (drop (slice_index s.at k) bytes))) → Some i ≡ slice_get (set_parts (images_in bytes s)) k
parts_there bytes s sized k low i e =
    ap (λ o. Some (unwrap_or o NO_PARTS)) e
    ∙ sym (slice_get-map parts_in (images_in bytes s) k ∙ ap (option_map parts_in) (image_there bytes s sized k low))

-- where the images begin
places_law : (bytes places sizes : List ℕ) → length places ≡ length sizes → map (λ (x : Image). x.at) (images_of bytes places sizes) ≡ places
places_law bytes [] sizes e = refl
places_law bytes (at ∷ places) [] e = absurd (omega (arith, e))
places_law bytes (at ∷ places) (size ∷ sizes) e = ap (λ ps. at ∷ ps) (places_law bytes places sizes (omega (arith, e)))

pub places_are : (bytes : List ℕ) (s : Set) → IsSized s → take s.count s.at ≡ map (λ (x : Image). x.at) (images_in bytes s)
places_are bytes s sized = sym (places_law bytes (take s.count s.at) (take s.count s.size) (long bytes s sized s.at sized.places ∙ sym (long bytes s sized s.size sized.sizes)))

-- ---- of a set that was found

pub sized_of : (bytes : List ℕ) (s : Set) → IsFound bytes s → length s.at ≡ 32 → length s.size ≡ 32 → IsSized s
sized_of bytes s found places sizes = record { few = found.inside.few; places = places; sizes = sizes }

pub missing : (bytes : List ℕ) (s : Set) → IsSized s → Stand FORMAT (images_in bytes s) → (k : ℕ) → k < s.count
    → None ≡ option_map (λ (x : layout.Image × Assembly). x.0) (seen (take (slice_index s.size k) (drop (slice_index s.at k) bytes))) → ⊥
missing bytes s sized stand k low e =
    let there = image_seen bytes s sized stand k low in
    let both : None ≡ Some there.parts = e ∙ ap (option_map (λ (x : layout.Image × Assembly). x.0)) there.is in
    cc both

pub parts_count : (bytes : List ℕ) (s : Set) → IsSized s → length (set_parts (images_in bytes s)) ≡ s.count
parts_count bytes s sized = length-map (images_in bytes s) parts_in ∙ image_count bytes s sized

-- one image more
pub one_more : (xs all : List layout.Image) (k : ℕ) (x : layout.Image) → xs ≡ take k all → k < length all → Some x ≡ slice_get all k → xs ++ (x ∷ []) ≡ take (k + 1) all
one_more xs all k x e low at =
    let same : x ≡ get_or all k x = cc (at ∙ slice_get-get_or all k x low) in
    ap (λ (ys : List layout.Image). ys ++ (x ∷ [])) e ∙ ap (λ (y : layout.Image). take k all ++ (y ∷ [])) same ∙ sym (take_more all k x low)
