-- What the record of classes has from the way it is read off files.
use Rattle.std.specs.Prelude.{◌≡◌, codes, ℕ, ◌+◌, ◌≤◌, Some, slice_get}
use Rattle.plain_types.specs.declared.elem.Elem.{Elem}
use Rattle.machine.specs.Data.{Id}
use Rattle.classes.specs.Classes.{Classes, OwnMethod, Reference, Builtin, Enumeration, OtherValue}
use Rattle.classes.specs.Queries.{kind_of, superclass_of, methods_of, method_at, basic, library_class}

-- `n` is the number of all types
pub record IsRead (n : ℕ) (cs : Classes) : Type 0 where
  -- a chain of superclasses and then interfaces needs the room of both
  pub room : n + n ≤ cs.size
  -- a row belongs to one class, and is found there by its number
  pub owner : (c : Id) (i : ℕ) (m : OwnMethod) → slice_get (methods_of cs c) i ≡ Some m → cs.method_owner m.id ≡ Some c
  pub entry : (c : Id) (i : ℕ) (m : OwnMethod) → slice_get (methods_of cs c) i ≡ Some m → method_at cs m.id ≡ Some m
  -- the kind of a type: the library's by name; else by the superclass
  pub builtin : (c : Id) (e : Elem) → kind_of cs c ≡ Some (Builtin e) → basic cs e ≡ Some c
  pub basic_kind : (c : Id) (e : Elem) → basic cs e ≡ Some c → kind_of cs c ≡ Some (Builtin e)
  pub enumeration : (c : Id) (e : Elem) → kind_of cs c ≡ Some (Enumeration e) → superclass_of cs c ≡ library_class cs (codes "Enum")
  pub other : (c : Id) → kind_of cs c ≡ Some OtherValue → superclass_of cs c ≡ library_class cs (codes "ValueType")
  pub reference : (c d : Id) → kind_of cs c ≡ Some Reference → superclass_of cs c ≡ Some d → library_class cs (codes "Enum") ≡ Some d → ⊥
