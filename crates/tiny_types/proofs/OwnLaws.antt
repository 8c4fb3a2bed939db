-- A class's first virtual method of a name and a signature, row by row.
use Rattle.std.proofs.Common.{◌≡◌, ◌⊎◌, inl, inr, ◌∙◌, ℕ, zero, suc, ◌+◌, ◌<◌, ◌≤◌, Bool, true, false, cond, List, [], length, get_or, take, drop, Option, Some, None, refl, sym, ap, add-one}
use Rattle.std.specs.Prelude.{◌&&◌, slice_get, unwrap_or}
use Rattle.std.specs.List.{find}
use Rattle.std.specs.Option.{option_map}
use Rattle.std.proofs.lemmas.Bool.{cases_lt}
use Rattle.std.proofs.lemmas.List.{drop_all, drop_more}
use Rattle.machine.specs.Data.{Id}
use Rattle.machine.specs.Texts.{same_text}
use Rattle.machine.specs.Throw.{on_some}
use Rattle.classes.specs.Classes.{OwnMethod, Signature}
use Rattle.classes.specs.Queries.{is_virtual_named, method_signature_eq, methods_of}
use Rattle.assemblies.specs.Binding.{numbered, range}
use Rattle.member_keys.specs.Seen.{signature_seen}
use Rattle.class_table.specs.declared.rows.ClassRow.{ClassRow}
use Rattle.class_table.specs.declared.rows.MethodRow.{MethodRow}
use Rattle.class_table.specs.declared.rows.FileRows.{FileRows}
use Rattle.class_table.specs.declared.rows.ClassTable.{ClassTable}
use Rattle.class_table.specs.Seen.{classes_seen, method_seen, row_seen}
use Rattle.class_queries.specs.Found.{found_row}
use Rattle.tiny_types.specs.Named.{IsRowOf}

pub named_is : (m : OwnMethod) (row wanted : MethodRow) → IsRowOf wanted m → (file n : ℕ) → is_virtual_named m (method_seen file n row) ≡ (row.is_virtual && (same_text row.name.now wanted.name.now && method_signature_eq (option_map signature_seen row.signature) (option_map signature_seen wanted.signature)))
named_is m row wanted is file n =
    ap (λ (x : List ℕ). row.is_virtual && (same_text row.name.now x && method_signature_eq (option_map signature_seen row.signature) m.signature)) is.name
    ∙ ap (λ (s : Option Signature). row.is_virtual && (same_text row.name.now wanted.name.now && method_signature_eq (option_map signature_seen row.signature) s)) is.signature

-- ---- rows

module _ (file : ℕ) (rows : List MethodRow) (test : OwnMethod → Bool) where
  abbrev pub found_from : ℕ → ℕ → Option OwnMethod
  found_from place n = find test (numbered (method_seen file) place (take n (drop place rows)))

  one_more : (place n : ℕ) (d : MethodRow) → place < length rows → found_from place (suc n) ≡ cond (test (method_seen file place (get_or rows place d))) (Some (method_seen file place (get_or rows place d))) (found_from (place + 1) n)
  one_more place n d low =
      ap (λ xs. find test (numbered (method_seen file) place (take (suc n) xs))) (drop_more rows place d low)
      ∙ ap (λ k. cond (test (method_seen file place (get_or rows place d))) (Some (method_seen file place (get_or rows place d))) (find test (numbered (method_seen file) k (take n (drop (place + 1) rows))))) (sym (add-one place))

  one_row : (place n : ℕ) (r : MethodRow) → place < length rows → r ≡ get_or rows place r → found_from place (suc n) ≡ cond (test (method_seen file place r)) (Some (method_seen file place r)) (found_from (place + 1) n)
  one_row place n r low is = one_more place n r low ∙ ap (λ x. cond (test (method_seen file place x)) (Some (method_seen file place x)) (found_from (place + 1) n)) (sym is)

  pub hit : (place n : ℕ) (r : MethodRow) → place < length rows → r ≡ get_or rows place r → test (method_seen file place r) ≡ true → found_from place (suc n) ≡ Some (method_seen file place r)
  hit place n r low is e = one_row place n r low is ∙ ap (λ b. cond b (Some (method_seen file place r)) (found_from (place + 1) n)) e

  pub miss : (place n : ℕ) (r : MethodRow) → place < length rows → r ≡ get_or rows place r → test (method_seen file place r) ≡ false → found_from place (suc n) ≡ found_from (place + 1) n
  miss place n r low is e = one_row place n r low is ∙ ap (λ b. cond b (Some (method_seen file place r)) (found_from (place + 1) n)) e

  pub ends_at : (place n : ℕ) → (place < length rows → n ≡ 0) → found_from place n ≡ None
  ends_at place n none = go (cases_lt place (length rows))
    where
      nothing : (k : ℕ) → find test (numbered (method_seen file) place (take k [])) ≡ None
      nothing zero = refl
      nothing (suc k) = refl

      go : (place < length rows) ⊎ (length rows ≤ place) → found_from place n ≡ None
      go (inl low) = ap (found_from place) (none low)
      go (inr high) = ap (λ xs. find test (numbered (method_seen file) place (take n xs))) (drop_all place rows high) ∙ nothing n

-- ---- a class's own

module _ (t : ClassTable) (c : Id) where
  pub no_class : found_row t c ≡ None → methods_of (classes_seen t) c ≡ []
  no_class e = go (slice_get t.files.items c.file) e
    where
      go : (o : Option FileRows) → on_some o (λ (f : FileRows). slice_get f.classes.items c.row) ≡ None → unwrap_or (option_map (λ k. k.methods) (on_some o (λ f. option_map (row_seen c.file f) (slice_get f.classes.items c.row)))) [] ≡ []
      go None h = refl
      go (Some f) h = ap (λ (x : Option ClassRow). unwrap_or (option_map (λ k. k.methods) (option_map (row_seen c.file f) x)) []) h

  pub no_file : slice_get t.files.items c.file ≡ None → methods_of (classes_seen t) c ≡ []
  no_file e = ap (λ (o : Option FileRows). unwrap_or (option_map (λ k. k.methods) (on_some o (λ f. option_map (row_seen c.file f) (slice_get f.classes.items c.row)))) []) e

  pub in_class : (f : FileRows) (r : ClassRow) → slice_get t.files.items c.file ≡ Some f → found_row t c ≡ Some r → methods_of (classes_seen t) c ≡ numbered (method_seen c.file) r.first_method (range r.first_method r.method_count f.methods.items)
  in_class f r here found =
      ap (λ (o : Option FileRows). unwrap_or (option_map (λ k. k.methods) (on_some o (λ g. option_map (row_seen c.file g) (slice_get g.classes.items c.row)))) []) here
      ∙ ap (λ (x : Option ClassRow). unwrap_or (option_map (λ k. k.methods) (option_map (row_seen c.file f) x)) []) (sym (ap (λ (o : Option FileRows). on_some o (λ g. slice_get g.classes.items c.row)) here) ∙ found)
