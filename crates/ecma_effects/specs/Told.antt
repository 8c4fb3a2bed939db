-- What rows tell of a field and of a method, before any rule; and what the tables and the base library give beside the rules.
use Rattle.std.specs.Prelude.{◌≡◌, ℕ, true, false, map, Some, slice_get}
use Rattle.std.specs.Option.{option_map}
use Rattle.file_tables.specs.Bytes.{has_bit}
use Rattle.machine.specs.Data.{Id, Plain}
use Rattle.classes.specs.Classes.{Classes, Class, OwnField, OwnMethod, SigType, Signature}
use Rattle.classes.specs.Queries.{array, fields_of, methods_of, method_at, field_at}
use Rattle.classes.specs.Queries.{type_of as type_in, place_of as place_in}
use Rattle.classes.specs.Listed.{is_constructor}
use Rattle.class_rules.specs.Rules.{is_user, is_native}
use Rattle.place_types.specs.Types.{type_of, place_of, type_up, place_up}
use Rattle.verify_ops.specs.declared.facts.FieldOperand.{FieldOperand}
use Rattle.verify_ops.specs.declared.facts.MethodOperand.{MethodOperand}
use Rattle.verify_ops.specs.Facts.{result_of}
use Rattle.verify_ops.specs.Facts.{kind_of as kind_by_flags}
use Rattle.ecma_effects.specs.Known.{IsClass, is_unmade, without_bytes}

pub record TellsField (cs : Classes) (id : Id) (f : FieldOperand) : Type 0 where
  pub owner : Id
  pub own : OwnField
  pub signature : SigType
  pub owner_is : cs.field_owner id ≡ Some owner
  pub own_is : field_at cs id ≡ Some own
  pub signed : own.signature ≡ Some signature
  pub class : IsClass cs owner f.class
  pub type : type_of f.of ≡ type_up (type_in cs signature)
  pub kind : kind_by_flags f ≡ without_bytes own.kind

pub record TellsMethod (cs : Classes) (id : Id) (m : MethodOperand) : Type 0 where
  pub owner : Id
  pub class : Class
  pub own : OwnMethod
  pub signature : Signature
  pub owner_is : cs.method_owner id ≡ Some owner
  pub class_is : cs.class owner ≡ Some class
  pub own_is : method_at cs id ≡ Some own
  pub signed : own.signature ≡ Some signature
  pub place : IsClass cs owner m.class
  pub unmade : has_bit m.class_flags 7 ≡ is_unmade (array cs) owner class
  pub interface : has_bit m.class_flags 5 ≡ class.is_interface
  pub constructor : m.constructor ≡ is_constructor own
  pub this : m.this ≡ signature.has_this
  pub params : map place_of m.params.now ≡ map place_up (map (place_in cs) signature.parameters)
  pub returns : result_of m.returns ≡ option_map place_up (option_map (λ s. Plain (type_in cs s)) signature.returns)
  pub static : has_bit m.flags 4 ≡ own.is_static
  pub abstract : has_bit m.flags 10 ≡ own.is_abstract

pub record Tabled (cs : Classes) : Type 0 where
  -- a row of a field belongs to one class, and is found there by its number (tables)
  pub entry : (c : Id) (i : ℕ) (g : OwnField) → slice_get (fields_of cs c) i ≡ Some g → field_at cs g.id ≡ Some g
  -- no constructor is native (the base library)
  pub constructors : (c : Id) (i : ℕ) (m : OwnMethod) → is_user c ≡ false → slice_get (methods_of cs c) i ≡ Some m → is_constructor m ≡ true → is_native m.body ≡ false
