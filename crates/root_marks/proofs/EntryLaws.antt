-- The entries of files.
use Rattle.std.proofs.Common.{◌≡◌, ◌⊎◌, inl, inr, ℕ, zero, suc, ◌+◌, ◌-◌, ◌≤◌, Bool, true, false, List, [], ◌∷◌, ◌++◌, length, drop, Some, None, refl, sym, ap, subst, ◌∙◌, arith, add-one}
use Rattle.std.specs.Prelude.{nat_le, if◌then◌else◌, slice_get}
use Rattle.std.specs.Option.{option_map}
use Rattle.std.proofs.lemmas.Bool.{le-leb, leb-true}
use Rattle.std.proofs.lemmas.List.{drop_all}
use Rattle.file_tables.specs.Pe.{PePart}
use Rattle.file_tables.specs.File.{FilePart}
use Rattle.assemblies.specs.Rows.{Assembly}
use Rattle.assemblies.proofs.Belong.{some_map}
use Rattle.world_rows.specs.Rows.{entry_named}
use Rattle.world_rows.specs.World.{assemblies_of, assembly_with, rows_alone, size_of}
use Rattle.kept_rules.specs.Row.{Row, MethodAt}
use Rattle.member_rules.proofs.Among.{Among, in_front, in_rest, in_either, in_some, some_in}
use Rattle.member_rules.proofs.RowLaws.{from_first}
use Rattle.root_marks.specs.Roots.{marked, entry_of, entries_from, entry_rows}
use Rattle.root_marks.proofs.MarkLaws.{marked_more}

drop_at : {A : Type 0} (xs : List A) (i : ℕ) (x : A) → slice_get xs i ≡ Some x → drop i xs ≡ x ∷ drop (suc i) xs
drop_at [] i x e = absurd (cc e)
drop_at (y ∷ xs) zero x e = let same : y ≡ x = cc e in ap (λ z. z ∷ xs) same
drop_at (y ∷ xs) (suc i) x e = drop_at xs i x e

get_drop : {A : Type 0} (k : ℕ) (xs : List A) (i : ℕ) → slice_get (drop k xs) i ≡ slice_get xs (k + i)
get_drop zero xs i = let same : i ≡ 0 + i = omega arith in ap (slice_get xs) same
get_drop (suc k) [] i = refl
get_drop (suc k) (y ∷ ys) i = let same : suc k + i ≡ suc (k + i) = omega arith in get_drop k ys i ∙ sym (ap (slice_get (y ∷ ys)) same)

-- ---- file by file

-- the entries from a file on are its own and those of the files behind it
pub entries_on : (files : List FilePart) (n : ℕ) (pe : PePart) → option_map (λ (x : FilePart). x.pe) (slice_get files n) ≡ Some pe → entries_from n (drop n files) ≡ entry_of n pe.entry ++ entries_from (n + 1) (drop (n + 1) files)
entries_on files n pe e =
    let x = some_map (λ (x : FilePart). x.pe) (slice_get files n) pe e in
    ap (entries_from n) (drop_at files n x.0 x.1)
    ∙ ap (λ (q : PePart). entry_of n q.entry ++ entries_from (suc n) (drop (suc n) files)) x.2
    ∙ ap (λ k. entry_of n pe.entry ++ entries_from k (drop k files)) (sym (add-one n))

pub entries_end : (files : List FilePart) (n : ℕ) → length files ≤ n → entries_from n (drop n files) ≡ []
entries_end files n past = ap (entries_from n) (drop_all n files past)

pub marks_on : (ps : List Assembly) (files : List FilePart) (n : ℕ) (pe : PePart) (token : ℕ) (bits more : List Bool) → option_map (λ (x : FilePart). x.pe) (slice_get files n) ≡ Some pe → token ≡ pe.entry → more ≡ marked ps (entry_of n token) bits → marked ps (entries_from (n + 1) (drop (n + 1) files)) more ≡ marked ps (entries_from n (drop n files)) bits
marks_on ps files n pe token bits more e named is =
    ap (marked ps (entries_from (n + 1) (drop (n + 1) files))) (is ∙ ap (λ k. marked ps (entry_of n k) bits) named)
    ∙ sym (marked_more ps (entry_of n pe.entry) (entries_from (n + 1) (drop (n + 1) files)) bits)
    ∙ ap (λ rows. marked ps rows bits) (sym (entries_on files n pe e))

-- ---- each of them

-- the same row by an equal number of its file
moved : (rows : List Row) (f g n : ℕ) → f ≡ g → Among rows (MethodAt f n) → Among rows (MethodAt g n)
moved rows f g n e h = subst (λ k. Among rows (MethodAt k n)) e h

has_entry : (g : ℕ) (xs : List FilePart) (i n : ℕ) (x : FilePart) → slice_get xs i ≡ Some x → entry_named x.pe.entry ≡ Some n → Among (entries_from g xs) (MethodAt (g + i) n)
has_entry g [] i n x e named = absurd (cc e)
has_entry g (y ∷ ys) zero n x e named =
    let same : y ≡ x = cc e in
    let here : g ≡ g + 0 = omega arith in
    in_front (entry_of g y.pe.entry) (entries_from (suc g) ys) (MethodAt (g + 0) n)
    (moved (entry_of g y.pe.entry) g (g + 0) n here (some_in (MethodAt g) (entry_named y.pe.entry) n (ap (λ (z : FilePart). entry_named z.pe.entry) same ∙ named)))
has_entry g (y ∷ ys) (suc i) n x e named =
    let here : suc g + i ≡ g + suc i = omega arith in
    moved (entries_from g (y ∷ ys)) (suc g + i) (g + suc i) n here (in_rest (entry_of g y.pe.entry) (entries_from (suc g) ys) (MethodAt (suc g + i) n) (has_entry (suc g) ys i n x e named))

record EntryOf (g : ℕ) (xs : List FilePart) (r : Row) : Type 0 where
  pub place : ℕ
  pub row : ℕ
  pub file : FilePart
  pub is_file : slice_get xs place ≡ Some file
  pub named : entry_named file.pe.entry ≡ Some row
  pub is : r ≡ MethodAt (g + place) row

is_entry : (g : ℕ) (xs : List FilePart) (r : Row) → Among (entries_from g xs) r → EntryOf g xs r
is_entry g [] r (k, e) = absurd (cc e)
is_entry g (y ∷ ys) r h = go (in_either (entry_of g y.pe.entry) (entries_from (suc g) ys) r h) (is_entry (suc g) ys r)
  where
    go : Among (entry_of g y.pe.entry) r ⊎ Among (entries_from (suc g) ys) r → (Among (entries_from (suc g) ys) r → EntryOf (suc g) ys r) → EntryOf g (y ∷ ys) r
    go (inl here) rest =
        let n = in_some (MethodAt g) (entry_named y.pe.entry) r here in
        let none : g ≡ g + 0 = omega arith in
        record { place = 0; row = n.0; file = y; is_file = refl; named = n.1.0; is = sym n.1.1 ∙ ap (λ k. MethodAt k n.0) none }
    go (inr there) rest =
        let q = rest there in
        let same : suc g + q.place ≡ g + suc q.place = omega arith in
        record { place = suc q.place; row = q.row; file = q.file; is_file = q.is_file; named = q.named; is = q.is ∙ ap (λ k. MethodAt k q.row) same }

-- ---- of a world

module _ (files : List FilePart) where
  abbrev size : ℕ
  size = size_of (rows_alone files)

  abbrev ps : List Assembly
  ps = assemblies_of files

  abbrev whole : ℕ → FilePart → Assembly
  whole n x = assembly_with size files (rows_alone files) n x

  file_there : (f : ℕ) → slice_get ps f ≡ option_map (whole f) (slice_get files f)
  unfolding assemblies_of
  file_there f = from_first whole f files

  pub entry_among : (f n : ℕ) (p : Assembly) → slice_get ps f ≡ Some p → p.entry ≡ Some n → Among (entry_rows files) (MethodAt f n)
  entry_among f n p at e =
      let x = some_map (whole f) (slice_get files f) p (sym (file_there f) ∙ at) in
      go x.0 x.1 (nat_le 2 f) refl (ap (λ (q : Assembly). q.entry) x.2 ∙ e)
    where
      go : (x : FilePart) → slice_get files f ≡ Some x → (b : Bool) → nat_le 2 f ≡ b → (if b then entry_named x.pe.entry else None) ≡ Some n → Among (entry_rows files) (MethodAt f n)
      go x is false t h = absurd (cc h)
      go x is true t h =
          let low = leb-true 2 f t in
          let place : 2 + (f - 2) ≡ f = omega (arith, low) in
          moved (entry_rows files) (2 + (f - 2)) f n place (has_entry 2 (drop 2 files) (f - 2) n x (get_drop 2 files (f - 2) ∙ ap (slice_get files) place ∙ is) h)

  -- an entry's file, assembly and row
  pub record OfFile (r : Row) : Type 0 where
    pub file : ℕ
    pub row : ℕ
    pub assembly : Assembly
    pub at : slice_get ps file ≡ Some assembly
    pub named : assembly.entry ≡ Some row
    pub is : r ≡ MethodAt file row

  pub among_entry : (r : Row) → Among (entry_rows files) r → OfFile r
  among_entry r h =
      let q = is_entry 2 (drop 2 files) r h in
      let behind : 2 ≤ 2 + q.place = omega arith in
      record {
        file = 2 + q.place;
        row = q.row;
        assembly = whole (2 + q.place) q.file;
        at = file_there (2 + q.place) ∙ ap (option_map (whole (2 + q.place))) (sym (get_drop 2 files q.place) ∙ q.is_file);
        named = ap (λ b. if b then entry_named q.file.pe.entry else None) (le-leb 2 (2 + q.place) behind) ∙ q.named;
        is = q.is;
      }
