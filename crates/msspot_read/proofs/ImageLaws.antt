-- What the calls of an image tell.
use Rattle.std.proofs.Common.{◌≡◌, ℕ, Bool, true, false, List, length, drop, min, Option, Some, None, refl, sym, ap, ◌∙◌, arith}
use Rattle.std.specs.Prelude.{is_some, if◌then◌else◌}
use Rattle.std.specs.Option.{option_map}
use Rattle.std.proofs.lemmas.Option.{none-some}
use Rattle.std.proofs.lemmas.List.{drop_min}
use Rattle.machine.specs.Throw.{on_some}
use Rattle.image_bytes.specs.Layout.{Image, view}
use Rattle.image_pools.specs.Pools.{text_at}
use Rattle.assemblies.specs.Rows.{Assembly}
use Rattle.image_form.specs.Whole.{bytes_at, texts_in, image_rows, seen}
use Rattle.msspot_read.specs.Rows.{text_in}
use Rattle.msspot_read.specs.Entry.{first_text}
use Rattle.msspot_read.proofs.EntryLaws.{text_there}

-- ---- the view

abbrev only_image : Option (Image × Assembly) → Option Image
only_image o = option_map (λ (x : Image × Assembly). x.0) o

with_rows : (i : Image) (o : Option Assembly) → only_image (option_map (λ p. (i, p)) o) ≡ (if is_some o then Some i else None)
with_rows i None = refl
with_rows i (Some p) = refl

viewed : (bytes : List ℕ) (i : Image) → Some i ≡ view bytes → only_image (seen bytes) ≡ (if is_some (image_rows i) then Some i else None)
viewed bytes i e = sym (ap (λ (o : Option Image). only_image (on_some o (λ j. option_map (λ p. (j, p)) (image_rows j)))) e) ∙ with_rows i (image_rows i)

pub bad_view : (bytes : List ℕ) (i : Image) → Some i ≡ view bytes → is_some (image_rows i) ≡ false → None ≡ option_map (λ (x : Image × Assembly). x.0) (seen bytes)
bad_view bytes i e bad = sym (viewed bytes i e ∙ ap (λ (b : Bool). if b then Some i else None) bad)

pub good_view : (bytes : List ℕ) (i : Image) → Some i ≡ view bytes → is_some (image_rows i) ≡ true → Some i ≡ option_map (λ (x : Image × Assembly). x.0) (seen bytes)
good_view bytes i e good = sym (viewed bytes i e ∙ ap (λ (b : Bool). if b then Some i else None) good)

-- ---- texts

some_text : (p : List ℕ) (at : ℕ) (o : Option (List (List ℕ))) → texts_in p ≡ o → is_some (on_some o (λ ts. text_at ts at)) ≡ true → on_some o (λ ts. text_at ts at) ≡ first_text (drop at p)
some_text p at None e h = absurd (cc h)
some_text p at (Some ts) e h = by (text_at ts at) refl h where
  by : (t : Option (List ℕ)) → text_at ts at ≡ t → is_some t ≡ true → t ≡ first_text (drop at p)
  by None f g = absurd (cc g)
  by (Some t) f g = sym (text_there (length p) p ts at t e f)

pub text_is : (i : Image) (k at start : ℕ) → is_some (text_in i k at) ≡ true → start ≡ min (length (bytes_at i k)) at → text_in i k at ≡ first_text (drop start (bytes_at i k))
text_is i k at start h e =
    let turned : min (length (bytes_at i k)) at ≡ min at (length (bytes_at i k)) = omega arith in
    some_text (bytes_at i k) at (texts_in (bytes_at i k)) refl h
    ∙ ap first_text (sym (ap (λ n. drop n (bytes_at i k)) (e ∙ turned) ∙ drop_min at (bytes_at i k)))

pub text_missing : (i : Image) (k at start : ℕ) → is_some (text_in i k at) ≡ true → start ≡ min (length (bytes_at i k)) at → None ≡ first_text (drop start (bytes_at i k)) → ⊥
text_missing i k at start h e none = both (text_in i k at) h (text_is i k at start h e ∙ sym none) where
  both : (o : Option (List ℕ)) → is_some o ≡ true → o ≡ None → ⊥
  both None g f = cc g
  both (Some t) g f = none-some t (sym f)
