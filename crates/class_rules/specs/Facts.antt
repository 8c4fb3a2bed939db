-- What accepted classes keep. Beside each fact stands where it comes from: a rule of refusal, or the base library itself.
use Rattle.std.specs.Prelude.{◌≡◌, ◌⊎◌, ℕ, Bool, true, false, [], ◌∷◌, Option, Some, None, slice_get}
use Rattle.plain_types.specs.declared.elem.Elem.TheVariants as elem
use Rattle.machine.specs.Data.{Id, CliType, Basic, EnumOf, ClassOf, ValueOf, ArrayOf, cell_of}
use Rattle.machine_typed.specs.Typing.{is_refers, is_number, is_plain, has_body}
use Rattle.classes.specs.Classes.{Classes, OwnMethod, Signature}
use Rattle.classes.specs.Queries.{ends, parents, is_interface, superclass_of, interfaces_of, instance_fields, methods_of, method_at, basic, array, class_of, type_of_class, is_or_implements, is_virtual_named, target}

-- the chains and the base library's top
pub record Order (cs : Classes) : Type 0 where
  -- neither superclasses nor interfaces go in a circle (24, 25)
  pub ends_above : (c : Id) → ends cs.size (parents cs) c ≡ true
  -- Object is above nothing else, and arrays stand under it alone (the base library)
  pub object : Id
  pub object_is : basic cs elem.Object ≡ Some object
  pub object_top : parents cs object ≡ []
  pub arrays : Id
  pub arrays_is : array cs ≡ Some arrays
  pub arrays_top : parents cs arrays ≡ object ∷ []

-- the class of an object of the type
abbrev pub class_of_object : Classes → CliType → Option Id
class_of_object cs (ArrayOf a) = array cs
class_of_object cs (Basic e) = basic cs e
class_of_object cs (EnumOf e c) = Some c
class_of_object cs (ClassOf c) = Some c
class_of_object cs (ValueOf c) = Some c

-- a type whose places hold references
abbrev pub is_reference_class : Classes → Id → Bool
is_reference_class cs c = is_refers (cell_of (type_of_class cs c))

-- members of classes
pub record Members (cs : Classes) : Type 0 where
  -- a row belongs to one class, and is found there by its number (tables)
  pub owner : (c : Id) (n : ℕ) (m : OwnMethod) → slice_get (methods_of cs c) n ≡ Some m → cs.method_owner m.id ≡ Some c
  pub entry : (c : Id) (n : ℕ) (m : OwnMethod) → slice_get (methods_of cs c) n ≡ Some m → method_at cs m.id ≡ Some m
  -- an instance method of a class that isn't virtual has a body (29)
  pub plain_bodies : (c : Id) (n : ℕ) (m : OwnMethod) → slice_get (methods_of cs c) n ≡ Some m → m.is_virtual ≡ false → is_interface cs c ≡ false → has_body m.body ≡ true

-- the body at an object's class of each virtual or interface method that it has (31)
abbrev pub Filled : Classes → Id → Type 0
Filled cs c =
    (k : Id) (n : ℕ) (m : OwnMethod) → is_or_implements cs c k ≡ true → slice_get (methods_of cs k) n ≡ Some m → m.is_static ≡ false → (m.is_virtual ≡ true) ⊎ (is_interface cs k ≡ true)
    → (b : Id) × (x : OwnMethod) × (target cs c m.id ≡ Some b) × (method_at cs b ≡ Some x) × (has_body x.body ≡ true)

-- the types of which objects are made
pub record Objects (cs : Classes) (o : Order cs) (made : CliType → Bool) : Type 0 where
  -- a class of its own, under Object, with its slots filled (24, 30, 31; of arrays by the base library)
  pub named : (own : CliType) → made own ≡ true → (c : Id) × (class_of_object cs own ≡ Some c) × (is_or_implements cs c o.object ≡ true) × Filled cs c
  -- a class is found by the type of its places: the base library's by their names (30)
  pub class_back : (c : Id) → class_of cs (type_of_class cs c) ≡ Some c
  -- nothing stands below a value type (24)
  pub value_low : (c k : Id) (n : ℕ) → slice_get (parents cs c) n ≡ Some k → is_reference_class cs k ≡ true
  -- a box is of its class's own type, and holds a number (26, 46)
  pub boxes : (own : CliType) (c : Id) → made own ≡ true → class_of_object cs own ≡ Some c → is_reference_class cs c ≡ false → (own ≡ type_of_class cs c) × (is_number own ≡ true)

abbrev pub is_instance_type : CliType → Bool
is_instance_type (ClassOf c) = true
is_instance_type _ = false

-- the kinds of classes, and what stands above boxes, strings and arrays
pub record Kinds (cs : Classes) (o : Order cs) (made : CliType → Bool) : Type 0 where
  -- an interface has no superclass; what a class implements is an interface (24, 25)
  pub no_super : (c : Id) → is_interface cs c ≡ true → superclass_of cs c ≡ None
  pub interfaces_only : (c k : Id) (n : ℕ) → slice_get (interfaces_of cs c) n ≡ Some k → is_interface cs k ≡ true
  -- nothing stands below String (24)
  pub string : Id
  pub string_is : basic cs elem.String ≡ Some string
  pub string_low : (c k : Id) (n : ℕ) → slice_get (parents cs c) n ≡ Some k → k ≡ string → ⊥
  pub string_not_arrays : o.arrays ≡ string → ⊥
  -- objects are instances of classes other than String and the array class; arrays and strings; boxes (46)
  pub plain_objects : (own : CliType) → made own ≡ true → is_plain own ≡ true
  pub string_alone : (own : CliType) → made own ≡ true → class_of cs own ≡ Some string → own ≡ Basic elem.String
  -- above those that are no instances, but for themselves, stand no classes with instance fields, nor Exception (26, the base library)
  pub flat : (own : CliType) (c k : Id) → made own ≡ true → is_instance_type own ≡ false → class_of_object cs own ≡ Some c → is_or_implements cs c k ≡ true → is_reference_class cs k ≡ true → instance_fields cs k ≡ []

-- what a virtual call finds besides the method itself: a virtual method of its name and signature, at a class that the object's reaches
pub record Overriding (cs : Classes) (c b : Id) (m : OwnMethod) : Type 0 where
  pub class : Id
  pub n : ℕ
  pub method : OwnMethod
  pub reached : is_or_implements cs c class ≡ true
  pub there : slice_get (methods_of cs class) n ≡ Some method
  pub named : is_virtual_named m method ≡ true
  pub is : b ≡ method.id

-- what `callvirt` may name (46): an instance method of a class or an interface
pub record Callable (cs : Classes) (id : Id) : Type 0 where
  pub owner : Id
  pub n : ℕ
  pub entry : OwnMethod
  pub signature : Signature
  pub there : slice_get (methods_of cs owner) n ≡ Some entry
  pub is : entry.id ≡ id
  pub signed : entry.signature ≡ Some signature
  pub instance : signature.has_this ≡ true
  pub not_static : entry.is_static ≡ false
