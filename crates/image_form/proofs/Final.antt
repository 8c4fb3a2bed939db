-- The image of rows is seen as those rows.
use Rattle.std.proofs.Common.{◌≡◌, ℕ, List, [], ◌∷◌, ◌++◌, map, length, Some, arith}
use Rattle.image_bytes.specs.Layout.{onto}
use Rattle.image_pools.specs.Pools.{Entry}
use Rattle.assemblies.specs.Rows.{RawType, AssemblyRow, TypeRefRow, FieldRefRow, MethodRefRow, TypeRow, FieldRow, MethodRow, Assembly}
use Rattle.image_form.specs.Signatures.{raw_onto, signature_onto}
use Rattle.image_form.specs.Form.{Manner}
use Rattle.image_form.specs.Fits.{NameHas, RefHas, FieldRefHas, MethodRefHas, TypeHas, FieldHas, SpecHas, ClauseHas, MethodHas, TokenHas}
use Rattle.image_form.specs.Whole.{name_entry, signature_entry, literals_in, locals_entry, strings_walk, signatures_walk, offsets, interfaces_of, clauses_of, Methods, Has, laid, seen}
use Rattle.image_form.specs.Limits.{IsUtf8, TokenIn, RefIn, FieldRefIn, MethodRefIn, TypeIn, FieldIn, SpecIn, ClauseIn, MethodIn, IsSpelt}
use Rattle.image_form.proofs.Found.{all_found, each_left, each_right, each_mapped, each_flat, each_two, each_three}
use Rattle.image_form.proofs.LaidLaws.{laid_held, laid_seen}
use Rattle.image_form.proofs.WholeLaws.{each_of}
use Rattle.image_form.proofs.InLaws.{InStrings, InSignatures, MethodFound, methods_count, token_has, row_or_none, name_has, ref_has, field_ref_has, method_ref_has, type_has, field_has, spec_has, clause_has, method_has}
use Rattle.assemblies.specs.Closed.{Each}
use Rattle.std.specs.List.{flat_map}

module _ (p : Assembly) (ms : Methods) (s : IsSpelt p ms) where
  has : Has (laid p ms) (laid_held p ms) (offsets p ms) p ms
  has =
      let o = offsets p ms in
      let h = laid_held p ms in
      let lim = s.limits in
      let S : Entry → Type 0 = InStrings p ms lim in
      let G : Entry → Type 0 = InSignatures p ms lim in
      let a0 = name_entry p.name ∷ [] in
      let a1 = map (λ (a : AssemblyRow). name_entry a.name) p.assemblies in
      let a2 = flat_map (λ (r : TypeRefRow). name_entry r.namespace ∷ name_entry r.name ∷ []) p.refs in
      let a3 = map (λ (r : FieldRefRow). name_entry r.name) p.field_refs in
      let a4 = map (λ (r : MethodRefRow). name_entry r.name) p.method_refs in
      let a5 = flat_map (λ (t : TypeRow). name_entry t.namespace ∷ name_entry t.name ∷ []) p.types in
      let a6 = map (λ (f : FieldRow). name_entry f.name) p.fields in
      let a7 = map (λ (x : Manner × MethodRow). name_entry x.1.name) ms in
      let a8 = flat_map (λ (x : Manner × MethodRow). literals_in x.1.code) ms in
      let b1 = map (λ (r : FieldRefRow). signature_entry (raw_onto r.signature [])) p.field_refs in
      let b2 = map (λ (r : MethodRefRow). signature_entry (signature_onto r.signature [])) p.method_refs in
      let b3 = map (λ (f : FieldRow). signature_entry (raw_onto f.signature [])) p.fields in
      let b4 = flat_map (λ (x : Manner × MethodRow). signature_entry (signature_onto x.1.signature []) ∷ locals_entry x.0 x.1.code) ms in
      let b5 = map (λ (r : RawType). signature_entry (raw_onto r [])) p.specs in
      let r1 = each_right S a0 (a1 ++ (a2 ++ (a3 ++ (a4 ++ (a5 ++ (a6 ++ (a7 ++ a8))))))) (all_found (strings_walk p ms)) in
      let r2 = each_right S a1 (a2 ++ (a3 ++ (a4 ++ (a5 ++ (a6 ++ (a7 ++ a8)))))) r1 in
      let r3 = each_right S a2 (a3 ++ (a4 ++ (a5 ++ (a6 ++ (a7 ++ a8))))) r2 in
      let r4 = each_right S a3 (a4 ++ (a5 ++ (a6 ++ (a7 ++ a8)))) r3 in
      let r5 = each_right S a4 (a5 ++ (a6 ++ (a7 ++ a8))) r4 in
      let r6 = each_right S a5 (a6 ++ (a7 ++ a8)) r5 in
      let r7 = each_right S a6 (a7 ++ a8) r6 in
      let r8 = each_right S a7 a8 r7 in
      let g1 = all_found (signatures_walk p ms) in
      let g2 = each_right G b1 (b2 ++ (b3 ++ (b4 ++ b5))) g1 in
      let g3 = each_right G b2 (b3 ++ (b4 ++ b5)) g2 in
      let g4 = each_right G b3 (b4 ++ b5) g3 in
      let g5 = each_right G b4 b5 g4 in
      record {
        name = name_has p ms lim p.name ((all_found (strings_walk p ms)).0) s.name;
        entry = row_or_none p ms lim 7 (length ms) p.entry (methods_count o 0 0 ms) lim.methods s.entry;
        assemblies =
            each_two (λ (a : AssemblyRow). S (name_entry a.name)) (λ (a : AssemblyRow). IsUtf8 a.name) (λ (a : AssemblyRow). NameHas h o a.name) (λ a e u. name_has p ms lim a.name e u) p.assemblies
            (each_mapped S (λ (a : AssemblyRow). name_entry a.name) p.assemblies (each_left S a1 (a2 ++ (a3 ++ (a4 ++ (a5 ++ (a6 ++ (a7 ++ a8)))))) r1)) s.assemblies;
        refs =
            each_two (λ (r : TypeRefRow). Each S (name_entry r.namespace ∷ name_entry r.name ∷ [])) (RefIn p) (RefHas h o) (ref_has p ms lim) p.refs
            (each_flat S (λ (r : TypeRefRow). name_entry r.namespace ∷ name_entry r.name ∷ []) p.refs (each_left S a2 (a3 ++ (a4 ++ (a5 ++ (a6 ++ (a7 ++ a8))))) r2)) s.refs;
        field_refs =
            each_three (λ (r : FieldRefRow). S (name_entry r.name)) (λ (r : FieldRefRow). G (signature_entry (raw_onto r.signature []))) (FieldRefIn p) (FieldRefHas h o) (field_ref_has p ms lim) p.field_refs
            (each_mapped S (λ (r : FieldRefRow). name_entry r.name) p.field_refs (each_left S a3 (a4 ++ (a5 ++ (a6 ++ (a7 ++ a8)))) r3))
            (each_mapped G (λ (r : FieldRefRow). signature_entry (raw_onto r.signature [])) p.field_refs (each_left G b1 (b2 ++ (b3 ++ (b4 ++ b5))) g1)) s.field_refs;
        method_refs =
            each_three (λ (r : MethodRefRow). S (name_entry r.name)) (λ (r : MethodRefRow). G (signature_entry (signature_onto r.signature []))) (MethodRefIn p) (MethodRefHas h o) (method_ref_has p ms lim) p.method_refs
            (each_mapped S (λ (r : MethodRefRow). name_entry r.name) p.method_refs (each_left S a4 (a5 ++ (a6 ++ (a7 ++ a8))) r4))
            (each_mapped G (λ (r : MethodRefRow). signature_entry (signature_onto r.signature [])) p.method_refs (each_left G b2 (b3 ++ (b4 ++ b5)) g2)) s.method_refs;
        types =
            each_two (λ (t : TypeRow). Each S (name_entry t.namespace ∷ name_entry t.name ∷ [])) (TypeIn p (length ms)) (TypeHas h o) (type_has p ms lim) p.types
            (each_flat S (λ (t : TypeRow). name_entry t.namespace ∷ name_entry t.name ∷ []) p.types (each_left S a5 (a6 ++ (a7 ++ a8)) r5)) s.types;
        interfaces = each_of (TokenIn p) (TokenHas h o) (token_has p ms lim) (interfaces_of p) s.interfaces;
        fields =
            each_three (λ (f : FieldRow). S (name_entry f.name)) (λ (f : FieldRow). G (signature_entry (raw_onto f.signature []))) (FieldIn p) (FieldHas h o) (field_has p ms lim) p.fields
            (each_mapped S (λ (f : FieldRow). name_entry f.name) p.fields (each_left S a6 (a7 ++ a8) r6))
            (each_mapped G (λ (f : FieldRow). signature_entry (raw_onto f.signature [])) p.fields (each_left G b3 (b4 ++ b5) g3)) s.fields;
        methods =
            each_three (MethodFound p ms lim) (λ (x : Manner × MethodRow). Each G (signature_entry (signature_onto x.1.signature []) ∷ locals_entry x.0 x.1.code)) (λ (x : Manner × MethodRow). MethodIn p o x.0 x.1) (λ (x : Manner × MethodRow). MethodHas h o x.0 x.1) (method_has p ms lim) ms
            (each_two (λ (x : Manner × MethodRow). S (name_entry x.1.name)) (λ (x : Manner × MethodRow). Each S (literals_in x.1.code)) (MethodFound p ms lim) (λ x a b. (a, b)) ms
            (each_mapped S (λ (x : Manner × MethodRow). name_entry x.1.name) ms (each_left S a7 a8 r7))
            (each_flat S (λ (x : Manner × MethodRow). literals_in x.1.code) ms r8))
            (each_flat G (λ (x : Manner × MethodRow). signature_entry (signature_onto x.1.signature []) ∷ locals_entry x.0 x.1.code) ms (each_left G b4 b5 g4)) s.methods;
        clauses = each_of (ClauseIn p) (ClauseHas h o) (clause_has p ms lim) (clauses_of ms) s.clauses;
        specs =
            each_two (λ (r : RawType). G (signature_entry (raw_onto r []))) (SpecIn p) (SpecHas h o) (spec_has p ms lim) p.specs
            (each_mapped G (λ (r : RawType). signature_entry (raw_onto r [])) p.specs g5) s.specs;
        same = s.same;
        code_fits = lim.code;
        datas_fit = omega (arith, lim.datas);
      }

  pub spelt_is_seen : (rest : List ℕ) → seen (onto (laid p ms) rest) ≡ Some (laid p ms, p)
  spelt_is_seen rest = laid_seen p ms rest s.version s.versions has
