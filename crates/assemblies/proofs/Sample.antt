-- A set of two assemblies, and a choice of its rows.
use Rattle.std.proofs.Common.{◌≡◌, ◌==◌, ℕ, Bool, true, false, not, ◌||◌, List, [], ◌∷◌, map, Option, Some, None, refl}
use Rattle.std.specs.Prelude.{codes}
use Rattle.machine.specs.Program.{Body}
use Rattle.classes.specs.Classes.{TypeKind}
use Rattle.classes.specs.Queries.{target}
use Rattle.assemblies.specs.Rows.{TypeToken, TypeDef, TypeRef, Reference, OfAssembly, Inside, RawSignature, TypeRow, MethodRow, Assembly}
use Rattle.assemblies.specs.Binding.{id_at, resolve, resolve_method, classes_of}
use Rattle.assemblies.specs.Chosen.{Choice, chosen_set, renaming}

type : List ℕ → Option ℕ → Option TypeToken → ℕ → ℕ → TypeRow
type name outer up first count =
    record {
      namespace = codes "System";
      name = name;
      enclosing = outer;
      extends = up;
      interfaces = [];
      kind = TypeKind.Reference;
      is_interface = false;
      is_abstract = false;
      is_lazy = true;
      first_field = 0;
      field_count = 0;
      first_method = first;
      method_count = count;
    }

nothing : RawSignature
nothing = record { has_this = true; returns = None; parameters = [] }

method : List ℕ → Bool → MethodRow
method name new = record { name = name; signature = nothing; is_static = false; is_virtual = true; is_newslot = new; is_abstract = false; body = Body.Code; code = None }

-- A has F; B under it hides F by a new slot; C under B overrides B's F
base : Assembly
base =
    record {
      name = codes "mscorlib";
      version = 4 ∷ 3 ∷ 1 ∷ 0 ∷ [];
      entry = None;
      assemblies = [];
      refs = [];
      field_refs = [];
      method_refs = [];
      fields = [];
      specs = [];
      types = type (codes "Object") None None 0 0 ∷ type (codes "Unused") None (Some (TypeDef 0)) 0 0 ∷ type (codes "A") None (Some (TypeDef 0)) 0 1 ∷ type (codes "In") (Some 2) (Some (TypeDef 0)) 1 0 ∷ [];
      methods = method (codes "F") true ∷ [];
    }

user : Assembly
user =
    record {
      name = codes "App";
      version = 1 ∷ 0 ∷ 0 ∷ 0 ∷ [];
      entry = None;
      fields = [];
      specs = [];
      field_refs = [];
      assemblies = record { name = codes "mscorlib"; version = 4 ∷ 3 ∷ 1 ∷ 1 ∷ [] } ∷ record { name = codes "mscorlib"; version = 4 ∷ 3 ∷ 1 ∷ 0 ∷ [] } ∷ [];
      refs = record { scope = OfAssembly 1; namespace = codes "System"; name = codes "A" } ∷ record { scope = Inside 0; namespace = codes "System"; name = codes "In" } ∷ record { scope = OfAssembly 0; namespace = codes "System"; name = codes "A" } ∷ [];
      method_refs = record { parent = TypeDef 1; name = codes "F"; signature = nothing } ∷ [];
      types = type (codes "B") None (Some (TypeRef 0)) 0 1 ∷ type (codes "C") None (Some (TypeDef 0)) 1 1 ∷ [];
      methods = method (codes "F") true ∷ method (codes "F") false ∷ [];
    }

set : List Assembly
set = base ∷ user ∷ []

-- without the unused type and the unused references; the methods of B and C aren't kept
keep : ℕ → Choice
keep f =
    record {
      assemblies = λ n. n == 1;
      refs = λ n. not (n == 2);
      field_refs = λ n. false;
      method_refs = λ n. false;
      types = λ n. not (n == 1) || (f == 1);
      fields = λ n. false;
      methods = λ n. f == 0;
      specs = λ n. false;
      short = λ n at. at;
      long = λ n at. at;
    }

-- a reference to a version that isn't there has no definition; nested types are found inside their outer ones
bound : map (resolve 9 set 1) (TypeRef 0 ∷ TypeRef 1 ∷ TypeRef 2 ∷ TypeDef 1 ∷ TypeDef 2 ∷ []) ≡ Some (id_at 0 2) ∷ Some (id_at 0 3) ∷ None ∷ Some (id_at 1 1) ∷ None ∷ []
unfolding set base user type method nothing
bound = refl

-- a member is found in its type or up the superclasses
member : resolve_method 9 set 1 (Reference 0) ≡ Some (id_at 1 1)
unfolding set base user type method nothing
member = refl

-- the call of A's F on a C runs A's F: B's new slot ends the search
calls : target (classes_of 9 set) (id_at 1 1) (id_at 0 0) ≡ Some (id_at 0 0)
unfolding set base user type method nothing
calls = refl

-- the same of the choice
chosen_bound : map (resolve 99 (chosen_set keep set) 1) (TypeRef 0 ∷ TypeRef 1 ∷ TypeRef 2 ∷ TypeDef 1 ∷ []) ≡ Some (id_at 0 1) ∷ Some (id_at 0 2) ∷ None ∷ Some (id_at 1 1) ∷ []
unfolding set base user type method nothing keep
chosen_bound = refl

chosen_calls : target (classes_of 99 (chosen_set keep set)) (id_at 1 1) (id_at 0 0) ≡ Some (id_at 0 0)
unfolding set base user type method nothing keep
chosen_calls = refl

-- numbers lead back, and past the last kept row past the last row
back : map (λ n. (renaming keep set).type (id_at 0 n)) (0 ∷ 1 ∷ 2 ∷ 3 ∷ []) ≡ id_at 0 0 ∷ id_at 0 2 ∷ id_at 0 3 ∷ id_at 0 7 ∷ []
unfolding set base user type method nothing keep
back = refl
