-- What is spelt of a file's rows whether they are kept or not: names in UTF-8, versions of four numbers, and signatures of the form (II.22,
-- II.23.2, II.24.2.3).
use Rattle.std.specs.Prelude.{◌≡◌, ℕ, true, length, Some, slice_get}
use Rattle.assemblies.specs.Rows.{AssemblyRow, TypeRow, FieldRow, MethodRow, Assembly}
use Rattle.assemblies.specs.Chosen.{Choice}
use Rattle.assemblies.specs.Closed.{Each}
use Rattle.image_form.specs.Form.{Manner}
use Rattle.image_form.specs.Whole.{Methods}
use Rattle.image_form.specs.Limits.{IsUtf8}
use Rattle.chosen_image.specs.Spells.{TypeSpells, SignatureSpells, BodySpells, RefSpells, FieldRefSpells, MethodRefSpells}

pub record TypeNameSpells (t : TypeRow) : Type 0 where
  pub namespace : IsUtf8 t.namespace
  pub name : IsUtf8 t.name

pub record FieldNameSpells (x : FieldRow) : Type 0 where
  pub name : IsUtf8 x.name
  pub signature : TypeSpells x.signature

pub record MethodNameSpells (m : MethodRow) : Type 0 where
  pub name : IsUtf8 m.name
  pub signature : SignatureSpells m.signature

pub record RowsSpell (p : Assembly) : Type 0 where
  pub version : length p.version ≡ 4
  pub name : IsUtf8 p.name
  pub versions : Each (λ (a : AssemblyRow). length a.version ≡ 4) p.assemblies
  pub assemblies : Each (λ (a : AssemblyRow). IsUtf8 a.name) p.assemblies
  pub refs : Each RefSpells p.refs
  pub field_refs : Each FieldRefSpells p.field_refs
  pub method_refs : Each MethodRefSpells p.method_refs
  pub types : Each TypeNameSpells p.types
  pub fields : Each FieldNameSpells p.fields
  pub methods : Each MethodNameSpells p.methods
  pub specs : Each TypeSpells p.specs

-- what is left to ask of the kept methods: the code of each, or that it has none, is spelt
abbrev pub BodiesSpell : Choice → Methods → Type 0
BodiesSpell k ms = (n : ℕ) (x : Manner × MethodRow) → slice_get ms n ≡ Some x → k.methods n ≡ true → BodySpells x.0 (k.short n) x.1.body x.1.code
