-- The images of a set that is found are read of bytes.
use Rattle.std.proofs.Common.{◌≡◌, ℕ, zero, suc, ◌+◌, ◌<◌, Bool, true, false, List, [], ◌∷◌, take, drop, Option, Some, None, refl, sym, ap, subst, arith}
use Rattle.std.specs.Prelude.{◌==◌, ◌&&◌, ◌||◌, not, nat_le, if◌then◌else◌, unwrap_or}
use Rattle.std.specs.Option.{option_map}
use Rattle.machine.specs.Throw.{on_some}
use Rattle.little_endian.specs.Numbers.{AreBytes}
use Rattle.wire_packets.specs.declared.payload.TheConstants.{NOT_FOUND, OLD_FORMAT, LATE_OLD_FORMAT, IN_A_BANK}
use Rattle.deploy_model.specs.Banks.{Format, Image, Walked, Stuck, Walks, Found, NoSet, BadSet, WholeSet, MOST_IMAGES, BODY, BANK_SIZE, base, bank_of, number_in, ends, with_image, on_image, walk, entries, judge, is_set, is_late, holds, image_marker, bank_marker, old_found, bank_found, located, first_bad, choose, found}
use Rattle.image_bytes.specs.Layout.{view}
use Rattle.image_bytes.specs.Layout as layout
use Rattle.image_form.specs.Whole.{image_rows}
use Rattle.assemblies.specs.Closed.{Each}
use Rattle.assemblies.specs.Rows.{Assembly}
use Rattle.board_model.specs.Bound.{assembly_in, set_rows}
use Rattle.tiny_rows.specs.Rows.{NO_ASSEMBLY}
use Rattle.tiny_rows.proofs.RowLaws.{is_some_from}
use Rattle.bound_answers.specs.Standing.{IsImage, AreImages}
use Rattle.bound_answers.proofs.WordLaws.{Bytes, bytes_each, each_taken, each_dropped, view_fits, image_stands}

abbrev AllBytes : List Image → Type 0
AllBytes images = Each (λ (x : Image). Bytes x.bytes) images

abbrev IsByte : ℕ → Type 0
IsByte b = b < 256

-- what is found has images of bytes
abbrev OfBytes : Found → Type 0
OfBytes x = (images : List Image) → x ≡ WholeSet images → AllBytes images

-- what is behind an image is of bytes
abbrev Rest : Format → ℕ → ℕ → List ℕ → Type 0
Rest f n at bytes = (size : ℕ) (rest : List Image) → walk f n (at + size) (drop size bytes) ≡ Walks rest → AllBytes rest

module _ (f : Format) where
  ended : (b : Bool) (at : ℕ) (images : List Image) → (if b then Walks [] else Stuck at) ≡ Walks images → AllBytes images
  ended true at images e = let same : [] ≡ images = cc e in subst AllBytes same tt
  ended false at images e = absurd (cc e)

  walk_bytes : (n at : ℕ) (bytes : List ℕ) (images : List Image) → Bytes bytes → walk f n at bytes ≡ Walks images → AllBytes images
  walk_bytes zero at bytes images h e = ended (ends bytes) at images e
  walk_bytes (suc n) at bytes images h e = by (λ size rest q. walk_bytes n (at + size) (drop size bytes) rest (each_dropped IsByte size bytes h) q) (ends bytes) e
    where
      more : Rest f n at bytes → (size : ℕ) (w : Walked) → walk f n (at + size) (drop size bytes) ≡ w → with_image (record { at = at; bytes = take size bytes }) w ≡ Walks images → AllBytes images
      more behind size (Stuck k) q e = absurd (cc e)
      more behind size (Walks rest) q e =
          let first : Image = record { at = at; bytes = take size bytes } in
          let same : first ∷ rest ≡ images = cc e in
          subst AllBytes same (each_taken IsByte size bytes h, behind size rest q)

      begun : Rest f n at bytes → (o : Option ℕ) → on_image o at bytes (λ size. walk f n (at + size) (drop size bytes)) ≡ Walks images → AllBytes images
      begun behind None e = absurd (cc e)
      begun behind (Some size) e = more behind size (walk f n (at + size) (drop size bytes)) refl e

      by : Rest f n at bytes → (b : Bool) → (if b then Walks [] else on_image (f.image bytes) at bytes (λ size. walk f n (at + size) (drop size bytes))) ≡ Walks images → AllBytes images
      by behind true e = let same : [] ≡ images = cc e in subst AllBytes same tt
      by behind false e = begun behind (f.image bytes) e

  judged : (start : ℕ) (w : Walked) (images : List Image) → judge f start w ≡ WholeSet images → w ≡ Walks images
  judged start (Stuck at) images e = absurd (cc e)
  judged start (Walks xs) images e = by (entries f xs == 1) e
    where
      by : (b : Bool) → (if b then WholeSet xs else BadSet start) ≡ WholeSet images → Walks xs ≡ Walks images
      by true e = let same : xs ≡ images = cc e in ap Walks same
      by false e = absurd (cc e)

  old_bytes : (content : List ℕ) → Bytes content → OfBytes (old_found f content)
  unfolding old_found
  old_bytes content h images e = by (holds image_marker 0 content) e
    where
      by : (b : Bool) → (if b then judge f 0 (walk f MOST_IMAGES 0 content) else NoSet) ≡ WholeSet images → AllBytes images
      by true e = walk_bytes MOST_IMAGES 0 content images h (judged 0 (walk f MOST_IMAGES 0 content) images e)
      by false e = absurd (cc e)

  bank_bytes : (bank : ℕ) (bytes : List ℕ) → Bytes bytes → OfBytes (bank_found f bank bytes)
  unfolding bank_found
  bank_bytes bank bytes h images e = by (holds bank_marker 0 bytes) e
    where
      by : (b : Bool) → (if b then judge f (base bank) (walk f MOST_IMAGES (base bank + BODY) (drop BODY bytes)) else NoSet) ≡ WholeSet images → AllBytes images
      by true e = walk_bytes MOST_IMAGES (base bank + BODY) (drop BODY bytes) images (each_dropped IsByte BODY bytes h) (judged (base bank) (walk f MOST_IMAGES (base bank + BODY) (drop BODY bytes)) images e)
      by false e = absurd (cc e)

first_bytes : (a b c : Found) → OfBytes a → OfBytes b → OfBytes c → OfBytes (first_bad a b c)
first_bytes NoSet NoSet c ha hb hc = hc
first_bytes NoSet (BadSet at) c ha hb hc = hb
first_bytes NoSet (WholeSet images) c ha hb hc = hb
first_bytes (BadSet at) b c ha hb hc = ha
first_bytes (WholeSet images) b c ha hb hc = ha

chosen_bytes : (old first second : Found) (n m : ℕ) → OfBytes old → OfBytes first → OfBytes second → OfBytes (choose old first second n m).found
unfolding choose
chosen_bytes old first second n m ho hf hs = by (is_late old) (is_set first && (not (is_set second) || nat_le m n)) (is_set second) (is_set old)
  where
    by : (a b c d : Bool)
        → OfBytes (if a then located old LATE_OLD_FORMAT 0 0
        else (if b then located first IN_A_BANK 0 n
        else (if c then located second IN_A_BANK 1 m
        else (if d then located old OLD_FORMAT 0 0 else located (first_bad old first second) NOT_FOUND 0 0)))).found
    by true b c d = ho
    by false true c d = hf
    by false false true d = hs
    by false false false true = ho
    by false false false false = first_bytes old first second ho hf hs

found_bytes : (f : Format) (content : List ℕ) → Bytes content → OfBytes (found f content)
found_bytes f content h =
    let in_bank : (bank : ℕ) → Bytes (bank_of bank content) = λ bank. each_taken IsByte BANK_SIZE (drop (base bank) content) (each_dropped IsByte (base bank) content h) in
    chosen_bytes (old_found f content) (bank_found f 0 (bank_of 0 content)) (bank_found f 1 (bank_of 1 content)) (number_in (bank_of 0 content)) (number_in (bank_of 1 content))
    (old_bytes f content h) (bank_bytes f 0 (bank_of 0 content) (in_bank 0)) (bank_bytes f 1 (bank_of 1 content) (in_bank 1))

-- ---- an image of bytes has rows with numbers of 16 bits

nothing : IsImage NO_ASSEMBLY
nothing = record { types = omega arith; names = λ n t e. absurd (cc e); known = λ n m c e q. absurd (cc e); words = λ n m c e q. absurd (cc e) }

rows_stand : (i : layout.Image) → IsImage (unwrap_or (image_rows i) NO_ASSEMBLY) → IsImage (unwrap_or (option_map (λ (s : layout.Image × Assembly). s.1) (option_map (λ (p : Assembly). (i, p)) (image_rows i))) NO_ASSEMBLY)
rows_stand i h = by (image_rows i) h
  where
    by : (o : Option Assembly) → IsImage (unwrap_or o NO_ASSEMBLY) → IsImage (unwrap_or (option_map (λ (s : layout.Image × Assembly). s.1) (option_map (λ (p : Assembly). (i, p)) o)) NO_ASSEMBLY)
    by None h = h
    by (Some p) h = h

seen_stands : (i : layout.Image) (bytes : List ℕ) → Bytes bytes → view bytes ≡ Some i → IsImage (unwrap_or (image_rows i) NO_ASSEMBLY)
seen_stands i bytes h e = by (image_rows i) refl
  where
    by : (o : Option Assembly) → image_rows i ≡ o → IsImage (unwrap_or (image_rows i) NO_ASSEMBLY)
    by None q = subst IsImage (sym (ap (λ o. unwrap_or o NO_ASSEMBLY) q)) nothing
    by (Some p) q = image_stands i (view_fits bytes h i e) (is_some_from (image_rows i) p q)

image_is : (x : Image) → Bytes x.bytes → IsImage (assembly_in x)
image_is x h = by (view x.bytes) refl
  where
    by : (o : Option layout.Image) → view x.bytes ≡ o → IsImage (unwrap_or (option_map (λ (s : layout.Image × Assembly). s.1) (on_some o (λ i. option_map (λ (p : Assembly). (i, p)) (image_rows i)))) NO_ASSEMBLY)
    by None e = nothing
    by (Some i) e = rows_stand i (seen_stands i x.bytes h e)

all_stand : (images : List Image) → AllBytes images → AreImages (set_rows images)
all_stand [] h file p e = absurd (cc e)
all_stand (x ∷ images) h zero p e = let same : assembly_in x ≡ p = cc e in subst IsImage same (image_is x h.0)
all_stand (x ∷ images) h (suc file) p e = all_stand images h.1 file p e

pub found_stand : (f : Format) (content : List ℕ) → AreBytes content → (images : List Image) → found f content ≡ WholeSet images → AreImages (set_rows images)
found_stand f content h images e = all_stand images (found_bytes f content (bytes_each content h) images e)
