-- The rows of a file have names in UTF-8, and signatures that have a spelling.
use Rattle.std.proofs.Common.{◌≡◌, ℕ, suc, Bool, true, false, List, [], ◌∷◌, map, Some, None, refl, subst}
use Rattle.std.specs.Prelude.{◌&&◌, nat_lt, if◌then◌else◌, length, drop, slice_get, slice_index, unwrap_or}
use Rattle.std.specs.List.{filter}
use Rattle.std.specs.Str.{is_utf8, chars}
use Rattle.std.proofs.lemmas.Bool.{and_parts}
use Rattle.file_tables.specs.Heaps.{before_zero, string_at}
use Rattle.file_tables.specs.Metadata.{MetadataPart, rows_of}
use Rattle.file_tables.specs.File.{FilePart}
use Rattle.machine.specs.Program.{Body}
use Rattle.classes.specs.Classes.{TypeKind}
use Rattle.assemblies.specs.Rows.{AssemblyRow, Assembly}
use Rattle.assemblies.specs.Binding.{numbered}
use Rattle.assemblies.specs.Closed.{Each}
use Rattle.image_form.specs.Limits.{IsUtf8}
use Rattle.chosen_image.specs.Spells.{TypeSpells, RefSpells, FieldRefSpells, MethodRefSpells}
use Rattle.world_rows.specs.Tokens.{type_refs, type_defs, fields, methods, member_refs, type_specs, assembly_refs, text_at, bytes_at, is_field_ref, is_method_ref}
use Rattle.world_rows.specs.Signatures.{spec_signature}
use Rattle.world_rows.specs.Rows.{assembly_ref, type_ref, field_ref, method_ref, type_row, field_row, method_row, assembly_by}
use Rattle.world_rows.specs.World.{assemblies_of}
use Rattle.rows_resolved.proofs.Types.{file_of}
use Rattle.kept_spelt.specs.Rows.{TypeNameSpells, FieldNameSpells, MethodNameSpells, RowsSpell}
use Rattle.kept_spelt.proofs.SignatureLaws.{field_spells, spec_spells, method_spells}

empty_utf8 : IsUtf8 []
unfolding is_utf8 chars
empty_utf8 = refl

pub text_utf8 : (m : MetadataPart) (at : ℕ) → IsUtf8 (text_at m at)
unfolding string_at
text_utf8 m at =
    by (before_zero (drop at m.strings)) (nat_lt (length (before_zero (drop at m.strings))) (length (drop at m.strings)) && is_utf8 (before_zero (drop at m.strings))) refl
  where
    by : (text : List ℕ) (b : Bool) → (nat_lt (length text) (length (drop at m.strings)) && is_utf8 text) ≡ b → IsUtf8 (unwrap_or (if b then Some text else None) [])
    by text true e = (and_parts (nat_lt (length text) (length (drop at m.strings))) (is_utf8 text) e).1
    by text false e = empty_utf8

-- ---- of all rows

made : {A B : Type 0} (P : B → Type 0) (f : A → B) → ((x : A) → P (f x)) → (xs : List A) → Each P (map f xs)
made P f h [] = tt
made P f h (x ∷ xs) = (h x, made P f h xs)

made_by : {A B : Type 0} (P : B → Type 0) (f : ℕ → A → B) → ((n : ℕ) (x : A) → P (f n x)) → (n : ℕ) (xs : List A) → Each P (numbered f n xs)
made_by P f h n [] = tt
made_by P f h n (x ∷ xs) = (h n x, made_by P f h (suc n) xs)

module _ (kind : ℕ → TypeKind) (filled : ℕ → List ℕ) (native : ℕ → Body) (has_entry : Bool) (x : FilePart) where
  abbrev m : MetadataPart
  m = x.metadata

  file_spells : RowsSpell (assembly_by kind filled native has_entry x)
  file_spells =
      record {
        version = refl;
        name = text_utf8 m _;
        versions = made (λ (a : AssemblyRow). length a.version ≡ 4) (assembly_ref m) (λ row. refl) (rows_of m assembly_refs);
        assemblies = made (λ (a : AssemblyRow). IsUtf8 a.name) (assembly_ref m) (λ row. text_utf8 m (slice_index row 6)) (rows_of m assembly_refs);
        refs = made RefSpells (type_ref m) (λ row. record { namespace = text_utf8 m (slice_index row 2); name = text_utf8 m (slice_index row 1) }) (rows_of m type_refs);
        field_refs = made FieldRefSpells (field_ref m) (λ row. record { name = text_utf8 m (slice_index row 1); signature = field_spells m (bytes_at m (slice_index row 2)) }) (filter (is_field_ref m) (rows_of m member_refs));
        method_refs = made MethodRefSpells (method_ref m) (λ row. record { name = text_utf8 m (slice_index row 1); signature = method_spells m (bytes_at m (slice_index row 2)) }) (filter (is_method_ref m) (rows_of m member_refs));
        types = made_by TypeNameSpells (type_row m kind) (λ n row. record { namespace = text_utf8 m (slice_index row 2); name = text_utf8 m (slice_index row 1) }) 0 (rows_of m type_defs);
        fields = made_by FieldNameSpells (field_row m filled) (λ n row. record { name = text_utf8 m (slice_index row 1); signature = field_spells m (bytes_at m (slice_index row 2)) }) 0 (rows_of m fields);
        methods = made_by MethodNameSpells (method_row x native) (λ n row. record { name = text_utf8 m (slice_index row 3); signature = method_spells m (bytes_at m (slice_index row 4)) }) 0 (rows_of m methods);
        specs = made TypeSpells (λ row. spec_signature m (bytes_at m (slice_index row 0))) (λ row. spec_spells m (bytes_at m (slice_index row 0))) (rows_of m type_specs);
      }

pub rows_spell : (files : List FilePart) (f : ℕ) (p : Assembly) → slice_get (assemblies_of files) f ≡ Some p → RowsSpell p
rows_spell files f p at = let x = file_of files f p at in subst RowsSpell x.2 (file_spells _ _ _ _ x.0)
