-- The rules of methods are those by which they keep what their signatures and their code name.
use Rattle.std.proofs.Common.{◌≡◌, ◌⊎◌, inl, inr, ℕ, zero, suc, ◌+◌, List, [], ◌∷◌, ◌++◌, length, Option, Some, None, refl, sym, ap, ◌∙◌, arith}
use Rattle.std.specs.Prelude.{slice_get, unwrap_or}
use Rattle.std.specs.Option.{option_map}
use Rattle.file_tables.specs.Metadata.{rows_of}
use Rattle.file_tables.specs.File.{FilePart}
use Rattle.machine.specs.Program.{Body}
use Rattle.assemblies.specs.Rows.{Assembly}
use Rattle.assemblies.specs.Binding.{id_at, numbered}
use Rattle.assemblies.proofs.Numbered.{get_numbered}
use Rattle.kept_rules.specs.Row.{Row, MethodAt, names_of, of_method}
use Rattle.world_rows.specs.Rows.{method_row}
use Rattle.world_rows.specs.Natives.{body_of_native}
use Rattle.world_rows.specs.Tokens.{methods}
use Rattle.world_rows.specs.World.{size_of, rows_alone, assemblies_of}
use Rattle.row_rules.specs.Links.{Link, keeps, links_from}
use Rattle.row_rules.specs.Named.{named_by_method}
use Rattle.row_rules.specs.Rules.{AreNames}
use Rattle.row_rules.proofs.NameLaws.{IsOf, get_front, get_behind, has_link, is_link, by_table}
use Rattle.body_rules.specs.Code.{named_by_code, code_links}

-- what stands in two lists one behind the other stands in one of them
get_either : {A : Type 0} (xs ys : List A) (i : ℕ) (z : A) → slice_get (xs ++ ys) i ≡ Some z → (slice_get xs i ≡ Some z) ⊎ ((j : ℕ) × (slice_get ys j ≡ Some z))
get_either [] ys i z e = inr (i, e)
get_either (x ∷ xs) ys zero z e = inl e
get_either (x ∷ xs) ys (suc i) z e = get_either xs ys i z e

abbrev Has : List Link → Link → Type 0
Has links l = (k : ℕ) × (slice_get links k ≡ Some l)

in_front : (xs ys : List Link) (l : Link) → Has xs l → Has (xs ++ ys) l
in_front xs ys l (k, e) = (k, get_front xs ys k l e)

in_behind : (xs ys : List Link) (l : Link) → Has ys l → Has (xs ++ ys) l
in_behind xs ys l (k, e) = (length xs + k, get_behind xs ys k ∙ e)

-- where the rows at the places name what the items do in two ways
module _ {A : Type 0} (ps : List Assembly) (at : ℕ → Row) (first second : A → List Row) (xs : List A) (is : (n : ℕ) → names_of ps (at n) ≡ unwrap_or (option_map (λ x. first x ++ second x) (slice_get xs n)) []) where
  abbrev front : List Link
  front = links_from at first 0 xs

  abbrev behind : List Link
  behind = links_from at second 0 xs

  abbrev IsName : Link → Type 0
  IsName l = (n : ℕ) × ((i : ℕ) × ((c : Row) × ((slice_get (names_of ps (at n)) i ≡ Some c) × (l ≡ keeps (at n) c))))

  has : (n i : ℕ) (c : Row) → slice_get (names_of ps (at n)) i ≡ Some c → Has (front ++ behind) (keeps (at n) c)
  has n i c e = go (slice_get xs n) refl (ap (λ cs. slice_get cs i) (sym (is n)) ∙ e)
    where
      here : (0 + n) ≡ n
      here = omega arith

      named : (x : A) → slice_get xs n ≡ Some x → (slice_get (first x) i ≡ Some c) ⊎ ((j : ℕ) × (slice_get (second x) j ≡ Some c)) → Has (front ++ behind) (keeps (at n) c)
      named x f (inl g) = let w = has_link at first 0 xs n i x c f g in in_front front behind (keeps (at n) c) (w.0, w.1 ∙ ap (λ k. Some (keeps (at k) c)) here)
      named x f (inr (j, g)) = let w = has_link at second 0 xs n j x c f g in in_behind front behind (keeps (at n) c) (w.0, w.1 ∙ ap (λ k. Some (keeps (at k) c)) here)

      go : (o : Option A) → slice_get xs n ≡ o → slice_get (unwrap_or (option_map (λ x. first x ++ second x) o) []) i ≡ Some c → Has (front ++ behind) (keeps (at n) c)
      go None f h = absurd (cc h)
      go (Some x) f h = named x f (get_either (first x) (second x) i c h)

  told : (n i : ℕ) (x : A) (c : Row) (l : Link) → slice_get xs n ≡ Some x → slice_get (first x ++ second x) i ≡ Some c → l ≡ keeps (at (0 + n)) c → IsName l
  told n i x c l f g h =
      let here : 0 + n ≡ n = omega arith in
      (n, (i, (c, (ap (λ cs. slice_get cs i) (is n) ∙ ap (λ o. slice_get (unwrap_or (option_map (λ y. first y ++ second y) o) []) i) f ∙ g, h ∙ ap (λ z. keeps (at z) c) here))))

  from_front : (l : Link) → IsOf at first 0 xs l → IsName l
  from_front l (n, (i, (x, (c, (f, (h, s)))))) = told n i x c l f (get_front (first x) (second x) i c h) s

  from_behind : (l : Link) → IsOf at second 0 xs l → IsName l
  from_behind l (n, (i, (x, (c, (f, (h, s)))))) = told n (length (first x) + i) x c l f (get_behind (first x) (second x) i ∙ h) s

  are : (k : ℕ) (l : Link) → slice_get (front ++ behind) k ≡ Some l → IsName l
  are k l e = go (get_either front behind k l e)
    where
      go : (slice_get front k ≡ Some l) ⊎ ((j : ℕ) × (slice_get behind j ≡ Some l)) → IsName l
      go (inl g) = from_front l (is_link at first 0 xs k l g)
      go (inr (j, g)) = from_behind l (is_link at second 0 xs j l g)

  pub are_both : AreNames ps at (front ++ behind)
  are_both = record { has = has; are = are }

module _ (files : List FilePart) (f : ℕ) (x : FilePart) (e : slice_get files f ≡ Some x) where
  abbrev native : ℕ → Body
  native row = body_of_native (size_of (rows_alone files)) (rows_alone files) (id_at f row)

  pub methods_are : AreNames (assemblies_of files) (MethodAt f) (links_from (MethodAt f) (named_by_method f x.metadata) 0 (rows_of x.metadata methods) ++ code_links f x)
  methods_are =
      are_both (assemblies_of files) (MethodAt f) (named_by_method f x.metadata) (named_by_code f x) (rows_of x.metadata methods)
      (by_table files f x e (λ p. p.methods) (of_method f) (λ n. method_row x native n) (λ row. named_by_method f x.metadata row ++ named_by_code f x row) (rows_of x.metadata methods) numbers (λ n y. refl))
    where
      numbers : (n : ℕ) → slice_get (numbered (method_row x native) 0 (rows_of x.metadata methods)) n ≡ option_map (method_row x native n) (slice_get (rows_of x.metadata methods) n)
      numbers n = let here : 0 + n ≡ n = omega arith in get_numbered (method_row x native) 0 n (rows_of x.metadata methods) ∙ ap (λ k. option_map (method_row x native k) (slice_get (rows_of x.metadata methods) n)) here
