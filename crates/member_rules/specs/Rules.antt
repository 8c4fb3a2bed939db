-- The links of a file's members and types are those of the rules of rows.
use Rattle.std.specs.Prelude.{codes, ◌≡◌, ℕ, true, ◌&&◌, List, Some, slice_get}
use Rattle.std.specs.List.{position}
use Rattle.board_types.specs.declared.board.Known.{Known}
use Rattle.machine.specs.Data.{Id}
use Rattle.machine.specs.Program.{Body, NativeName}
use Rattle.machine.specs.Texts.{same_text}
use Rattle.machine_rename.specs.Rename.{throws}
use Rattle.classes.specs.Queries.{is_instance_kind, library_class, known_name}
use Rattle.assemblies.specs.Rows.{TypeRow, FieldRow, MethodRow, Assembly}
use Rattle.assemblies.specs.Binding.{holds, range, classes_of}
use Rattle.kept_closure.specs.Named.{Stands}
use Rattle.kept_rules.specs.Row.{Row, TypeAt, names_of}
use Rattle.kept_rules.specs.Rules.{TypeOfMethod, TypeOfField, InstanceFieldOf, InitialiserOf, ThrownByNative}
use Rattle.kept_numbers.specs.Numbers.{IsThere}
use Rattle.row_rules.specs.Links.{Link, keeps}
use Rattle.row_rules.specs.Given.{HasLink, AreRules}

-- a list has the rules of members and types of file f, those of members that are there, and no others
pub record AreMemberRules (size : ℕ) (ps : List Assembly) (f : ℕ) (links : List Link) : Type 0 where
  pub type_of_method : (n k : ℕ) (p : Assembly) (m : MethodRow) (at : slice_get ps f ≡ Some p) (e : position (λ (t : TypeRow). holds t.first_method t.method_count n) p.types ≡ Some k) → slice_get p.methods n ≡ Some m → HasLink links size ps (TypeOfMethod f n k p at e)
  pub type_of_field : (n k : ℕ) (p : Assembly) (x : FieldRow) (at : slice_get ps f ≡ Some p) (e : position (λ (t : TypeRow). holds t.first_field t.field_count n) p.types ≡ Some k) → slice_get p.fields n ≡ Some x → HasLink links size ps (TypeOfField f n k p at e)
  pub instance_field_of : (n i : ℕ) (p : Assembly) (t : TypeRow) (x : FieldRow) (s : Stands ps (λ q. q.types) f n p t) (e : slice_get (range t.first_field t.field_count p.fields) i ≡ Some x) (k : is_instance_kind x.kind ≡ true) → HasLink links size ps (InstanceFieldOf f n i p t x s e k)
  pub initialiser_of : (n i : ℕ) (p : Assembly) (t : TypeRow) (m : MethodRow) (s : Stands ps (λ q. q.types) f n p t) (e : slice_get (range t.first_method t.method_count p.methods) i ≡ Some m) (k : (m.is_static && same_text m.name (codes ".cctor")) ≡ true) → HasLink links size ps (InitialiserOf f n i p t m s e k)
  pub thrown_by_native : (n : ℕ) (p : Assembly) (m : MethodRow) (name : NativeName) (k : Known) (c : Id) (s : Stands ps (λ q. q.methods) f n p m) (b : m.body ≡ Body.Native name) (t : throws name k ≡ true) (l : library_class (classes_of size ps) (known_name k) ≡ Some c) → HasLink links size ps (ThrownByNative f n p m name k c s b t l)
  pub are : AreRules size ps links

-- a list has a link for each row that a type of file f names; and of the links whose first row is there no others
pub record AreTypeNames (ps : List Assembly) (f : ℕ) (links : List Link) : Type 0 where
  pub has : (n i : ℕ) (c : Row) → slice_get (names_of ps (TypeAt f n)) i ≡ Some c → (k : ℕ) × (slice_get links k ≡ Some (keeps (TypeAt f n) c))
  pub are : (k : ℕ) (l : Link) → slice_get links k ≡ Some l → IsThere ps l.first → (n : ℕ) × ((i : ℕ) × ((c : Row) × ((slice_get (names_of ps (TypeAt f n)) i ≡ Some c) × (l ≡ keeps (TypeAt f n) c))))
