-- The types of the locals of an accepted body are told (rule 27).
use Rattle.std.proofs.Common.{◌≡◌, ℕ, suc, ◌-◌, ◌<◌, Bool, true, false, cond, List, [], ◌∷◌, map, Some, None, refl, sym, ap, subst, arith}
use Rattle.std.specs.Prelude.{◌&&◌, ◌||◌, ◌==◌, nat_le, if◌then◌else◌, slice_get, slice_index, Ok, Err}
use Rattle.std.proofs.lemmas.Bool.{and_parts, leb-true}
use Rattle.std.proofs.lemmas.Option.{get_or_from_slice_get}
use Rattle.cil_code.specs.Bodies.{BodyPart, body_at}
use Rattle.cil_sig.specs.declared.places.Position.TheVariants as positions
use Rattle.cil_sig.specs.declared.sig.SigType.{SigType}
use Rattle.cil_sig.specs.Reading.{Part, whole_locals}
use Rattle.file_tables.specs.Pe.{tail}
use Rattle.file_tables.specs.Metadata.{MetadataPart, rows_of, row_count, column_of}
use Rattle.file_tables.specs.File.{FilePart}
use Rattle.machine.specs.Throw.{on_some}
use Rattle.class_rules.specs.Rules.{sig_fits}
use Rattle.class_rules.proofs.Kept.{holds_inv}
use Rattle.assemblies.specs.Rows.{RawType}
use Rattle.assemblies.specs.Binding.{numbered, expanded}
use Rattle.assemblies.specs.Closed.{Each}
use Rattle.assemblies.proofs.Back.{get_there}
use Rattle.assemblies.proofs.Binds.{on_some_back}
use Rattle.kept_closure.specs.Named.{InType}
use Rattle.kept_closure.specs.Kept.{NamesClass}
use Rattle.world_rows.specs.Tokens.{locals_signatures, number_of, table_of, bytes_at}
use Rattle.world_rows.specs.Lines.{is_locals_token, is_aligned, locals_of, if_sound, body_in, body_part}
use Rattle.world_rows.specs.Signatures.{raw_type, locals_from, locals_signature}
use Rattle.world_rows.specs.World.{size_of, rows_alone, assemblies_of, ecma_sources}
use Rattle.verdict_rules.specs.Order.{phase_fault}
use Rattle.verdict_rules.specs.World.{World, world_of}
use Rattle.verdict_rules.specs.Members.{Spelling, spelling, in_locals, first_wrong, wrong_at, place_fits, locals_wrong, locals_tests}
use Rattle.verdict_rules.specs.Verdict.{member_rules}
use Rattle.verdict_laws.proofs.Kept.{tests_kept, row_kept}
use Rattle.verdict_laws.proofs.Signatures.{none_wrong}
use Rattle.rows_resolved.proofs.Named.{type_named}

first_fits : (blob : List ℕ) (fits : Spelling → Bool) (s : Spelling) (ss : List Spelling) → first_wrong blob fits (s ∷ ss) ≡ None → (fits s ≡ true) × (first_wrong blob fits ss ≡ None)
first_fits blob fits s ss e = by _ (fits s) refl e
  where
    by : (n : ℕ) (b : Bool) → fits s ≡ b → cond b (first_wrong blob fits ss) (Some n) ≡ None → (fits s ≡ true) × (first_wrong blob fits ss ≡ None)
    by n true k h = (k, h)
    by n false k h = absurd (cc h)

-- a body has a token of locals that is one
module _ (x : FilePart) (rva : ℕ) (b : BodyPart) where
  sound : (bytes : List ℕ) → body_in x.metadata rva bytes ≡ Some b → is_locals_token x.metadata b.locals_token ≡ true
  sound bytes h =
      let a = on_some_back (body_at bytes) (if_sound x.metadata rva bytes) b h in
      by a.0 (is_aligned rva bytes) (is_locals_token x.metadata a.0.locals_token) refl a.2
    where
      by : (z : BodyPart) (p q : Bool) → is_locals_token x.metadata z.locals_token ≡ q → (if p && q then Some z else None) ≡ Some b → is_locals_token x.metadata b.locals_token ≡ true
      by z true true k h = let same : z ≡ b = cc h in subst (λ (z : BodyPart). is_locals_token x.metadata z.locals_token ≡ true) same k
      by z true false k h = absurd (cc h)
      by z false q k h = absurd (cc h)

  pub body_sound : body_part x rva ≡ Some b → (rva == 0 ≡ false) × (is_locals_token x.metadata b.locals_token ≡ true)
  unfolding body_part
  body_sound e = by (rva == 0) refl e
    where
      by : (c : Bool) → rva == 0 ≡ c → (if c then None else on_some (tail x.pe rva) (body_in x.metadata rva)) ≡ Some b → (rva == 0 ≡ false) × (is_locals_token x.metadata b.locals_token ≡ true)
      by true k h = absurd (cc h)
      by false k h = let t = on_some_back (tail x.pe rva) (body_in x.metadata rva) b h in (k, sound t.0 t.2)

module _ (files : List FilePart) (f : ℕ) (x : FilePart) (at : slice_get files f ≡ Some x) (in_members : phase_fault (member_rules (world_of files)) files ≡ None) where
  abbrev w : World
  w = world_of files

  abbrev m : MetadataPart
  m = x.metadata

  abbrev Told : List RawType → Type 0
  Told ss = Each (InType (NamesClass (size_of (rows_alone files)) (assemblies_of files) f)) ss

  each_local : (blob : List ℕ) (n : ℕ) (ss : List SigType) → first_wrong blob (place_fits w f m) (numbered (λ k s. spelling (positions.Local k) s) n ss) ≡ None → Told (map (raw_type m) ss)
  each_local blob n [] e = tt
  each_local blob n (s ∷ ss) e =
      let h = first_fits blob (place_fits w f m) (spelling (positions.Local n) s) (numbered (λ k s. spelling (positions.Local k) s) (suc n) ss) e in
      let t = holds_inv (expanded (size_of (rows_alone files)) (assemblies_of files) f (raw_type m s)) (sig_fits (ecma_sources files).classes) h.0 in
      (type_named (size_of (rows_alone files)) (assemblies_of files) f (raw_type m s) t.0 t.1, each_local blob (suc n) ss h.1)

  locals_told : (blob : List ℕ) → locals_wrong w f m blob ≡ None → Told (locals_signature m blob)
  unfolding locals_signature
  locals_told blob e = by (whole_locals blob) e
    where
      by : (p : Part (List SigType)) → wrong_at blob p in_locals (place_fits w f m) ≡ None → Told (locals_from m p)
      by (Err left) h = tt
      by (Ok ss) h = each_local blob 0 ss h

  row_told : (n : ℕ) → n < row_count m locals_signatures → Told (locals_signature m (bytes_at m (column_of m locals_signatures (suc n) 0)))
  row_told n below =
      let r = get_there (rows_of m locals_signatures) n below in
      let kept = row_kept (member_rules w) files in_members f x at 3 (record { table = locals_signatures; tests = locals_tests w f m }) n r.0 refl r.1 in
      let none = none_wrong 27 (locals_wrong w f m (bytes_at m (slice_index r.0 0))) (tests_kept f locals_signatures (suc n) (locals_tests w f m n r.0) 0 kept) in
      let column : column_of m locals_signatures (suc n) 0 ≡ slice_index r.0 0 = ap (λ z. slice_index z 0) (get_or_from_slice_get (rows_of m locals_signatures) n r.0 [] r.1) in
      subst (λ z. Told (locals_signature m (bytes_at m z))) (sym column) (locals_told (bytes_at m (slice_index r.0 0)) none)

  pub locals_mean : (token : ℕ) → is_locals_token m token ≡ true → Told (locals_of m token)
  locals_mean token e = by (token == 0) e
    where
      number : ℕ
      number = number_of token

      of_row : ((table_of token == locals_signatures) && nat_le 1 number && nat_le number (row_count m locals_signatures)) ≡ true → Told (locals_signature m (bytes_at m (column_of m locals_signatures number 0)))
      of_row h =
          let first = and_parts ((table_of token == locals_signatures) && nat_le 1 number) (nat_le number (row_count m locals_signatures)) h in
          let low = leb-true 1 number (and_parts (table_of token == locals_signatures) (nat_le 1 number) first.0).1 in
          let high = leb-true number (row_count m locals_signatures) first.1 in
          let same : suc (number - 1) ≡ number = omega (arith, low) in
          subst (λ k. Told (locals_signature m (bytes_at m (column_of m locals_signatures k 0)))) same (row_told (number - 1) (omega (arith, low, high)))

      by : (c : Bool) → (c || ((table_of token == locals_signatures) && nat_le 1 number && nat_le number (row_count m locals_signatures))) ≡ true → Told (if c then [] else locals_signature m (bytes_at m (column_of m locals_signatures number 0)))
      by true h = tt
      by false h = of_row h
