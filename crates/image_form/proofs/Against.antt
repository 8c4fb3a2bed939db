-- Images that another program converted, against the definitions: the image that is laid for their rows is theirs, byte for byte,
-- and the rows that are read of their bytes are those.
use Rattle.std.proofs.Common.{◌≡◌, ℕ, true, false, List, [], ◌∷◌, map, Option, Some, None, refl, arith}
use Rattle.std.specs.Prelude.{pos, negsuc}
use Rattle.std.specs.Str.{is_utf8, chars}
use Rattle.std.specs.Char.{encode_utf8}
use Rattle.plain_types.specs.declared.elem.Elem.TheVariants as elem
use Rattle.cil_opcodes.specs.declared.shape.Shape.{Shape}
use Rattle.cil_opcodes.specs.declared.shape.Shape.TheVariants as shapes
use Rattle.cil_opcodes.specs.declared.shape.Row.{Row}
use Rattle.cil_opcodes.specs.Rows.{row_of}
use Rattle.machine.specs.Throw.{on_some}
use Rattle.machine.specs.Program.{Body, DebugPrint}
use Rattle.classes.specs.Classes.{FieldKind, TypeKind}
use Rattle.image_bytes.specs.Layout.{onto, body_onto, view, read_body}
use Rattle.assemblies.specs.Rows.{TypeDef, TypeRef, Own, Reference, OfAssembly, RawSpelt, RawClass, RawValue, RawArray, RawDirect, RawOperand, RawNothing, RawNumber, RawTargets, RawTypeOf, RawField, RawMethod, RawText, RawLine, RawCatch, RawFinally, MethodRow, Assembly}
use Rattle.image_form.specs.Form.{Manner}
use Rattle.image_form.specs.Whole.{Methods, laid, image_rows}
use Rattle.image_form.specs.Limits.{IsSpelt}

row_list : Option Row → List Row → List Row
row_list None rest = rest
row_list (Some r) rest = r ∷ rest

rows : List ℕ → List Row
unfolding row_list
rows [] = []
rows (o ∷ os) = row_list (row_of o) (rows os)

shape_of : Option Row → Shape
shape_of None = shapes.Nop
shape_of (Some r) = r.shape

line : ℕ → ℕ → RawOperand → ℕ → RawLine
unfolding shape_of
line at o x next = record { at = at; shape = shape_of (row_of o); operand = x; next = next }

methods_native : Methods
methods_native =
    (record { opcodes = []; has_locals = false }, record { name = (80 ∷ 114 ∷ 105 ∷ 110 ∷ 116 ∷ []); signature = (record { has_this = false; returns = None; parameters = ((RawDirect (RawSpelt elem.String)) ∷ []) }); is_static = true; is_virtual = false; is_newslot = false; is_abstract = false; body = (Body.Native DebugPrint); code = None })
    ∷ []

rows_native : Assembly
unfolding methods_native
rows_native =
    record {
      name = (77 ∷ 105 ∷ 99 ∷ 114 ∷ 111 ∷ 115 ∷ 111 ∷ 102 ∷ 116 ∷ 46 ∷ 83 ∷ 80 ∷ 79 ∷ 84 ∷ 46 ∷ 78 ∷ 97 ∷ 116 ∷ 105 ∷ 118 ∷ 101 ∷ []);
      version = (4 ∷ 3 ∷ 1 ∷ 0 ∷ []);
      entry = None;
      assemblies =
          record { name = (109 ∷ 115 ∷ 99 ∷ 111 ∷ 114 ∷ 108 ∷ 105 ∷ 98 ∷ []); version = (4 ∷ 3 ∷ 1 ∷ 0 ∷ []) }
          ∷ [];
      refs =
          record { scope = OfAssembly 0; namespace = (83 ∷ 121 ∷ 115 ∷ 116 ∷ 101 ∷ 109 ∷ []); name = (79 ∷ 98 ∷ 106 ∷ 101 ∷ 99 ∷ 116 ∷ []) }
          ∷ [];
      field_refs = [];
      method_refs = [];
      types =
          record { namespace = (77 ∷ 105 ∷ 99 ∷ 114 ∷ 111 ∷ 115 ∷ 111 ∷ 102 ∷ 116 ∷ 46 ∷ 83 ∷ 80 ∷ 79 ∷ 84 ∷ []); name = (68 ∷ 101 ∷ 98 ∷ 117 ∷ 103 ∷ []); enclosing = None; extends = (Some (TypeRef 0)); interfaces = ([]); kind = TypeKind.Reference; is_interface = false; is_abstract = false; is_lazy = true; first_field = 0; field_count = 0; first_method = 0; method_count = 1 }
          ∷ [];
      fields = [];
      methods = map (λ (x : Manner × MethodRow). x.1) methods_native;
      specs = [];
    }

bytes_native : List ℕ
bytes_native = (77 ∷ 83 ∷ 83 ∷ 112 ∷ 111 ∷ 116 ∷ 49 ∷ 0 ∷ 200 ∷ 0 ∷ 0 ∷ 0 ∷ 4 ∷ 0 ∷ 3 ∷ 0 ∷ 1 ∷ 0 ∷ 0 ∷ 0 ∷ 0 ∷ 0 ∷ 255 ∷ 255 ∷ 1 ∷ 0 ∷ 1 ∷ 0 ∷ 0 ∷ 0 ∷ 0 ∷ 0 ∷ 1 ∷ 0 ∷ 0 ∷ 0 ∷ 0 ∷ 0 ∷ 1 ∷ 0 ∷ 0 ∷ 0 ∷ 0 ∷ 0 ∷ 0 ∷ 0 ∷ 79 ∷ 0 ∷ 7 ∷ 0 ∷ 0 ∷ 0 ∷ 0 ∷ 0 ∷ 0 ∷ 0 ∷ 23 ∷ 0 ∷ 4 ∷ 0 ∷ 3 ∷ 0 ∷ 1 ∷ 0 ∷ 0 ∷ 0 ∷ 0 ∷ 0 ∷ 33 ∷ 0 ∷ 41 ∷ 0 ∷ 49 ∷ 0 ∷ 65 ∷ 0 ∷ 255 ∷ 255 ∷ 0 ∷ 64 ∷ 128 ∷ 0 ∷ 0 ∷ 0 ∷ 0 ∷ 0 ∷ 0 ∷ 0 ∷ 0 ∷ 0 ∷ 0 ∷ 0 ∷ 1 ∷ 0 ∷ 72 ∷ 0 ∷ 0 ∷ 0 ∷ 17 ∷ 0 ∷ 17 ∷ 0 ∷ 0 ∷ 0 ∷ 255 ∷ 255 ∷ 0 ∷ 0 ∷ 0 ∷ 0 ∷ 0 ∷ 0 ∷ 21 ∷ 0 ∷ 77 ∷ 105 ∷ 99 ∷ 114 ∷ 111 ∷ 115 ∷ 111 ∷ 102 ∷ 116 ∷ 46 ∷ 83 ∷ 80 ∷ 79 ∷ 84 ∷ 46 ∷ 78 ∷ 97 ∷ 116 ∷ 105 ∷ 118 ∷ 101 ∷ 8 ∷ 0 ∷ 109 ∷ 115 ∷ 99 ∷ 111 ∷ 114 ∷ 108 ∷ 105 ∷ 98 ∷ 6 ∷ 0 ∷ 83 ∷ 121 ∷ 115 ∷ 116 ∷ 101 ∷ 109 ∷ 6 ∷ 0 ∷ 79 ∷ 98 ∷ 106 ∷ 101 ∷ 99 ∷ 116 ∷ 14 ∷ 0 ∷ 77 ∷ 105 ∷ 99 ∷ 114 ∷ 111 ∷ 115 ∷ 111 ∷ 102 ∷ 116 ∷ 46 ∷ 83 ∷ 80 ∷ 79 ∷ 84 ∷ 5 ∷ 0 ∷ 68 ∷ 101 ∷ 98 ∷ 117 ∷ 103 ∷ 5 ∷ 0 ∷ 80 ∷ 114 ∷ 105 ∷ 110 ∷ 116 ∷ 5 ∷ 0 ∷ 0 ∷ 1 ∷ 0 ∷ 1 ∷ 14 ∷ 0 ∷ 0 ∷ [])

spelt_native : onto (laid rows_native methods_native) [] ≡ bytes_native
unfolding rows line shape_of row_list is_utf8 chars encode_utf8 rows_native methods_native bytes_native body_onto
spelt_native = refl

read_native : on_some (view bytes_native) image_rows ≡ Some rows_native
unfolding rows line shape_of row_list is_utf8 chars encode_utf8 rows_native methods_native bytes_native read_body
read_native = refl

is_spelt_native : IsSpelt rows_native methods_native
unfolding rows line shape_of row_list is_utf8 chars encode_utf8 rows_native methods_native
is_spelt_native =
    record {
      limits = record { assemblies = omega arith; refs = omega arith; types = omega arith; methods = omega arith; specs = omega arith; datas = omega arith; signatures = omega arith; code = omega arith };
      version = refl;
      name = refl;
      entry = tt;
      versions = (refl, tt);
      assemblies = (refl, tt);
      refs = (record { scope = omega arith; namespace = refl; name = refl }, tt);
      field_refs = tt;
      method_refs = tt;
      types = (record { namespace = refl; name = refl; enclosing = tt; extends = omega arith; kind = tt; own_fields = refl; own_methods = refl }, tt);
      interfaces = tt;
      fields = tt;
      methods = (record { name = refl; signature = record { returns = tt; parameters = (record { shallow = refl; named = refl }, tt) }; body = tt }, tt);
      clauses = tt;
      specs = tt;
      same = refl;
    }

methods_hello : Methods
methods_hello =
    (record { opcodes = rows (114 ∷ 40 ∷ 29 ∷ 42 ∷ []); has_locals = false }, record { name = (77 ∷ 97 ∷ 105 ∷ 110 ∷ []); signature = (record { has_this = false; returns = (Some (RawSpelt elem.I4)); parameters = ([]) }); is_static = true; is_virtual = false; is_newslot = false; is_abstract = false; body = Body.Code; code = (Some (record { locals = ([]); max_stack = 8; clauses = ([]); lines = (line 0 114 (RawText (104 ∷ 105 ∷ [])) 3 ∷ line 3 40 (RawMethod (Reference 0)) 6 ∷ line 6 29 RawNothing 7 ∷ line 7 42 RawNothing 8 ∷ []) })) })
    ∷ []

rows_hello : Assembly
unfolding methods_hello
rows_hello =
    record {
      name = (72 ∷ 101 ∷ 108 ∷ 108 ∷ 111 ∷ []);
      version = (1 ∷ 0 ∷ 0 ∷ 0 ∷ []);
      entry = (Some 0);
      assemblies =
          record { name = (109 ∷ 115 ∷ 99 ∷ 111 ∷ 114 ∷ 108 ∷ 105 ∷ 98 ∷ []); version = (4 ∷ 3 ∷ 1 ∷ 0 ∷ []) }
          ∷ record { name = (77 ∷ 105 ∷ 99 ∷ 114 ∷ 111 ∷ 115 ∷ 111 ∷ 102 ∷ 116 ∷ 46 ∷ 83 ∷ 80 ∷ 79 ∷ 84 ∷ 46 ∷ 78 ∷ 97 ∷ 116 ∷ 105 ∷ 118 ∷ 101 ∷ []); version = (4 ∷ 3 ∷ 1 ∷ 0 ∷ []) }
          ∷ [];
      refs =
          record { scope = OfAssembly 0; namespace = (83 ∷ 121 ∷ 115 ∷ 116 ∷ 101 ∷ 109 ∷ []); name = (79 ∷ 98 ∷ 106 ∷ 101 ∷ 99 ∷ 116 ∷ []) }
          ∷ record { scope = OfAssembly 1; namespace = (77 ∷ 105 ∷ 99 ∷ 114 ∷ 111 ∷ 115 ∷ 111 ∷ 102 ∷ 116 ∷ 46 ∷ 83 ∷ 80 ∷ 79 ∷ 84 ∷ []); name = (68 ∷ 101 ∷ 98 ∷ 117 ∷ 103 ∷ []) }
          ∷ [];
      field_refs = [];
      method_refs =
          record { parent = (TypeRef 1); name = (80 ∷ 114 ∷ 105 ∷ 110 ∷ 116 ∷ []); signature = (record { has_this = false; returns = None; parameters = ((RawDirect (RawSpelt elem.String)) ∷ []) }) }
          ∷ [];
      types =
          record { namespace = ([]); name = (80 ∷ 114 ∷ 111 ∷ 103 ∷ 114 ∷ 97 ∷ 109 ∷ []); enclosing = None; extends = (Some (TypeRef 0)); interfaces = ([]); kind = TypeKind.Reference; is_interface = false; is_abstract = false; is_lazy = true; first_field = 0; field_count = 0; first_method = 0; method_count = 1 }
          ∷ [];
      fields = [];
      methods = map (λ (x : Manner × MethodRow). x.1) methods_hello;
      specs = [];
    }

bytes_hello : List ℕ
bytes_hello = (77 ∷ 83 ∷ 83 ∷ 112 ∷ 111 ∷ 116 ∷ 49 ∷ 0 ∷ 8 ∷ 1 ∷ 0 ∷ 0 ∷ 1 ∷ 0 ∷ 0 ∷ 0 ∷ 0 ∷ 0 ∷ 0 ∷ 0 ∷ 0 ∷ 0 ∷ 0 ∷ 0 ∷ 2 ∷ 0 ∷ 2 ∷ 0 ∷ 0 ∷ 0 ∷ 1 ∷ 0 ∷ 1 ∷ 0 ∷ 0 ∷ 0 ∷ 0 ∷ 0 ∷ 1 ∷ 0 ∷ 0 ∷ 0 ∷ 0 ∷ 0 ∷ 0 ∷ 0 ∷ 109 ∷ 0 ∷ 13 ∷ 0 ∷ 8 ∷ 0 ∷ 0 ∷ 0 ∷ 0 ∷ 0 ∷ 7 ∷ 0 ∷ 4 ∷ 0 ∷ 3 ∷ 0 ∷ 1 ∷ 0 ∷ 0 ∷ 0 ∷ 17 ∷ 0 ∷ 4 ∷ 0 ∷ 3 ∷ 0 ∷ 1 ∷ 0 ∷ 0 ∷ 0 ∷ 0 ∷ 0 ∷ 40 ∷ 0 ∷ 48 ∷ 0 ∷ 1 ∷ 0 ∷ 56 ∷ 0 ∷ 72 ∷ 0 ∷ 1 ∷ 64 ∷ 79 ∷ 0 ∷ 0 ∷ 0 ∷ 86 ∷ 0 ∷ 88 ∷ 0 ∷ 255 ∷ 255 ∷ 0 ∷ 64 ∷ 128 ∷ 0 ∷ 0 ∷ 0 ∷ 0 ∷ 0 ∷ 0 ∷ 0 ∷ 0 ∷ 0 ∷ 0 ∷ 0 ∷ 1 ∷ 0 ∷ 97 ∷ 0 ∷ 7 ∷ 0 ∷ 1 ∷ 0 ∷ 0 ∷ 0 ∷ 8 ∷ 0 ∷ 255 ∷ 255 ∷ 8 ∷ 0 ∷ 0 ∷ 0 ∷ 0 ∷ 0 ∷ 5 ∷ 0 ∷ 72 ∷ 101 ∷ 108 ∷ 108 ∷ 111 ∷ 8 ∷ 0 ∷ 109 ∷ 115 ∷ 99 ∷ 111 ∷ 114 ∷ 108 ∷ 105 ∷ 98 ∷ 21 ∷ 0 ∷ 77 ∷ 105 ∷ 99 ∷ 114 ∷ 111 ∷ 115 ∷ 111 ∷ 102 ∷ 116 ∷ 46 ∷ 83 ∷ 80 ∷ 79 ∷ 84 ∷ 46 ∷ 78 ∷ 97 ∷ 116 ∷ 105 ∷ 118 ∷ 101 ∷ 6 ∷ 0 ∷ 83 ∷ 121 ∷ 115 ∷ 116 ∷ 101 ∷ 109 ∷ 6 ∷ 0 ∷ 79 ∷ 98 ∷ 106 ∷ 101 ∷ 99 ∷ 116 ∷ 14 ∷ 0 ∷ 77 ∷ 105 ∷ 99 ∷ 114 ∷ 111 ∷ 115 ∷ 111 ∷ 102 ∷ 116 ∷ 46 ∷ 83 ∷ 80 ∷ 79 ∷ 84 ∷ 5 ∷ 0 ∷ 68 ∷ 101 ∷ 98 ∷ 117 ∷ 103 ∷ 5 ∷ 0 ∷ 80 ∷ 114 ∷ 105 ∷ 110 ∷ 116 ∷ 0 ∷ 0 ∷ 7 ∷ 0 ∷ 80 ∷ 114 ∷ 111 ∷ 103 ∷ 114 ∷ 97 ∷ 109 ∷ 4 ∷ 0 ∷ 77 ∷ 97 ∷ 105 ∷ 110 ∷ 4 ∷ 0 ∷ 104 ∷ 0 ∷ 105 ∷ 0 ∷ 5 ∷ 0 ∷ 0 ∷ 1 ∷ 0 ∷ 1 ∷ 14 ∷ 4 ∷ 0 ∷ 0 ∷ 0 ∷ 0 ∷ 8 ∷ 114 ∷ 103 ∷ 0 ∷ 40 ∷ 0 ∷ 64 ∷ 29 ∷ 42 ∷ [])

spelt_hello : onto (laid rows_hello methods_hello) [] ≡ bytes_hello
unfolding rows line shape_of row_list is_utf8 chars encode_utf8 rows_hello methods_hello bytes_hello body_onto
spelt_hello = refl

read_hello : on_some (view bytes_hello) image_rows ≡ Some rows_hello
unfolding rows line shape_of row_list is_utf8 chars encode_utf8 rows_hello methods_hello bytes_hello read_body
read_hello = refl

is_spelt_hello : IsSpelt rows_hello methods_hello
unfolding rows line shape_of row_list is_utf8 chars encode_utf8 rows_hello methods_hello
is_spelt_hello =
    record {
      limits = record { assemblies = omega arith; refs = omega arith; types = omega arith; methods = omega arith; specs = omega arith; datas = omega arith; signatures = omega arith; code = omega arith };
      version = refl;
      name = refl;
      entry = omega arith;
      versions = (refl, (refl, tt));
      assemblies = (refl, (refl, tt));
      refs = (record { scope = omega arith; namespace = refl; name = refl }, (record { scope = omega arith; namespace = refl; name = refl }, tt));
      field_refs = tt;
      method_refs = (record { parent = omega arith; name = refl; signature = record { returns = tt; parameters = (record { shallow = refl; named = refl }, tt) } }, tt);
      types = (record { namespace = refl; name = refl; enclosing = tt; extends = omega arith; kind = tt; own_fields = refl; own_methods = refl }, tt);
      interfaces = tt;
      fields = tt;
      methods = (record { name = refl; signature = record { returns = record { shallow = refl; named = refl }; parameters = tt }; body = record { some = omega arith; locals = refl; nest = refl; room = refl; lines = (record { known = refl; plain = refl; shape = refl; place = refl; next = refl; operand = ((104 ∷ 105 ∷ []), refl) }, (record { known = refl; plain = refl; shape = refl; place = refl; next = refl; operand = ((Reference 0), refl, omega arith) }, (record { known = refl; plain = refl; shape = refl; place = refl; next = refl; operand = refl }, (record { known = refl; plain = refl; shape = refl; place = refl; next = refl; operand = refl }, tt)))) } }, tt);
      clauses = tt;
      specs = tt;
      same = refl;
    }

methods_iface : Methods
methods_iface =
    (record { opcodes = rows (115 ∷ 111 ∷ 115 ∷ 111 ∷ 31 ∷ 90 ∷ 88 ∷ 115 ∷ 111 ∷ 31 ∷ 90 ∷ 88 ∷ 42 ∷ []); has_locals = false }, record { name = (77 ∷ 97 ∷ 105 ∷ 110 ∷ []); signature = (record { has_this = false; returns = (Some (RawSpelt elem.I4)); parameters = ([]) }); is_static = true; is_virtual = false; is_newslot = false; is_abstract = false; body = Body.Code; code = (Some (record { locals = ([]); max_stack = 8; clauses = ([]); lines = (line 0 115 (RawMethod (Own 4)) 3 ∷ line 3 111 (RawMethod (Own 1)) 6 ∷ line 6 115 (RawMethod (Own 6)) 9 ∷ line 9 111 (RawMethod (Own 1)) 12 ∷ line 12 31 (RawNumber (pos 10)) 14 ∷ line 14 90 RawNothing 15 ∷ line 15 88 RawNothing 16 ∷ line 16 115 (RawMethod (Own 6)) 19 ∷ line 19 111 (RawMethod (Own 3)) 22 ∷ line 22 31 (RawNumber (pos 100)) 24 ∷ line 24 90 RawNothing 25 ∷ line 25 88 RawNothing 26 ∷ line 26 42 RawNothing 27 ∷ []) })) })
    ∷ (record { opcodes = []; has_locals = false }, record { name = (70 ∷ []); signature = (record { has_this = true; returns = (Some (RawSpelt elem.I4)); parameters = ([]) }); is_static = false; is_virtual = true; is_newslot = true; is_abstract = true; body = Body.Missing; code = None })
    ∷ (record { opcodes = rows (2 ∷ 40 ∷ 42 ∷ []); has_locals = false }, record { name = (46 ∷ 99 ∷ 116 ∷ 111 ∷ 114 ∷ []); signature = (record { has_this = true; returns = None; parameters = ([]) }); is_static = false; is_virtual = false; is_newslot = false; is_abstract = false; body = Body.Code; code = (Some (record { locals = ([]); max_stack = 8; clauses = ([]); lines = (line 0 2 RawNothing 1 ∷ line 1 40 (RawMethod (Reference 0)) 4 ∷ line 4 42 RawNothing 5 ∷ []) })) })
    ∷ (record { opcodes = rows (23 ∷ 42 ∷ []); has_locals = false }, record { name = (70 ∷ []); signature = (record { has_this = true; returns = (Some (RawSpelt elem.I4)); parameters = ([]) }); is_static = false; is_virtual = true; is_newslot = true; is_abstract = false; body = Body.Code; code = (Some (record { locals = ([]); max_stack = 8; clauses = ([]); lines = (line 0 23 RawNothing 1 ∷ line 1 42 RawNothing 2 ∷ []) })) })
    ∷ (record { opcodes = rows (2 ∷ 40 ∷ 42 ∷ []); has_locals = false }, record { name = (46 ∷ 99 ∷ 116 ∷ 111 ∷ 114 ∷ []); signature = (record { has_this = true; returns = None; parameters = ([]) }); is_static = false; is_virtual = false; is_newslot = false; is_abstract = false; body = Body.Code; code = (Some (record { locals = ([]); max_stack = 8; clauses = ([]); lines = (line 0 2 RawNothing 1 ∷ line 1 40 (RawMethod (Own 2)) 4 ∷ line 4 42 RawNothing 5 ∷ []) })) })
    ∷ (record { opcodes = rows (24 ∷ 42 ∷ []); has_locals = false }, record { name = (70 ∷ []); signature = (record { has_this = true; returns = (Some (RawSpelt elem.I4)); parameters = ([]) }); is_static = false; is_virtual = true; is_newslot = true; is_abstract = false; body = Body.Code; code = (Some (record { locals = ([]); max_stack = 8; clauses = ([]); lines = (line 0 24 RawNothing 1 ∷ line 1 42 RawNothing 2 ∷ []) })) })
    ∷ (record { opcodes = rows (2 ∷ 40 ∷ 42 ∷ []); has_locals = false }, record { name = (46 ∷ 99 ∷ 116 ∷ 111 ∷ 114 ∷ []); signature = (record { has_this = true; returns = None; parameters = ([]) }); is_static = false; is_virtual = false; is_newslot = false; is_abstract = false; body = Body.Code; code = (Some (record { locals = ([]); max_stack = 8; clauses = ([]); lines = (line 0 2 RawNothing 1 ∷ line 1 40 (RawMethod (Own 4)) 4 ∷ line 4 42 RawNothing 5 ∷ []) })) })
    ∷ (record { opcodes = rows (25 ∷ 42 ∷ []); has_locals = false }, record { name = (70 ∷ []); signature = (record { has_this = true; returns = (Some (RawSpelt elem.I4)); parameters = ([]) }); is_static = false; is_virtual = true; is_newslot = false; is_abstract = false; body = Body.Code; code = (Some (record { locals = ([]); max_stack = 8; clauses = ([]); lines = (line 0 25 RawNothing 1 ∷ line 1 42 RawNothing 2 ∷ []) })) })
    ∷ []

rows_iface : Assembly
unfolding methods_iface
rows_iface =
    record {
      name = (73 ∷ 102 ∷ 97 ∷ 99 ∷ 101 ∷ []);
      version = (1 ∷ 0 ∷ 0 ∷ 0 ∷ []);
      entry = (Some 0);
      assemblies =
          record { name = (109 ∷ 115 ∷ 99 ∷ 111 ∷ 114 ∷ 108 ∷ 105 ∷ 98 ∷ []); version = (4 ∷ 3 ∷ 1 ∷ 0 ∷ []) }
          ∷ [];
      refs =
          record { scope = OfAssembly 0; namespace = (83 ∷ 121 ∷ 115 ∷ 116 ∷ 101 ∷ 109 ∷ []); name = (79 ∷ 98 ∷ 106 ∷ 101 ∷ 99 ∷ 116 ∷ []) }
          ∷ [];
      field_refs = [];
      method_refs =
          record { parent = (TypeRef 0); name = (46 ∷ 99 ∷ 116 ∷ 111 ∷ 114 ∷ []); signature = (record { has_this = true; returns = None; parameters = ([]) }) }
          ∷ [];
      types =
          record { namespace = ([]); name = (80 ∷ 114 ∷ 111 ∷ 103 ∷ 114 ∷ 97 ∷ 109 ∷ []); enclosing = None; extends = (Some (TypeRef 0)); interfaces = ([]); kind = TypeKind.Reference; is_interface = false; is_abstract = false; is_lazy = true; first_field = 0; field_count = 0; first_method = 0; method_count = 1 }
          ∷ record { namespace = ([]); name = (73 ∷ []); enclosing = None; extends = None; interfaces = ([]); kind = TypeKind.Reference; is_interface = true; is_abstract = true; is_lazy = false; first_field = 0; field_count = 0; first_method = 1; method_count = 1 }
          ∷ record { namespace = ([]); name = (65 ∷ []); enclosing = None; extends = (Some (TypeRef 0)); interfaces = ([]); kind = TypeKind.Reference; is_interface = false; is_abstract = false; is_lazy = true; first_field = 0; field_count = 0; first_method = 2; method_count = 2 }
          ∷ record { namespace = ([]); name = (66 ∷ []); enclosing = None; extends = (Some (TypeDef 2)); interfaces = ((TypeDef 1) ∷ []); kind = TypeKind.Reference; is_interface = false; is_abstract = false; is_lazy = true; first_field = 0; field_count = 0; first_method = 4; method_count = 2 }
          ∷ record { namespace = ([]); name = (67 ∷ []); enclosing = None; extends = (Some (TypeDef 3)); interfaces = ([]); kind = TypeKind.Reference; is_interface = false; is_abstract = false; is_lazy = true; first_field = 0; field_count = 0; first_method = 6; method_count = 2 }
          ∷ [];
      fields = [];
      methods = map (λ (x : Manner × MethodRow). x.1) methods_iface;
      specs = [];
    }

bytes_iface : List ℕ
bytes_iface = (77 ∷ 83 ∷ 83 ∷ 112 ∷ 111 ∷ 116 ∷ 49 ∷ 0 ∷ 216 ∷ 1 ∷ 0 ∷ 0 ∷ 1 ∷ 0 ∷ 0 ∷ 0 ∷ 0 ∷ 0 ∷ 0 ∷ 0 ∷ 0 ∷ 0 ∷ 0 ∷ 0 ∷ 1 ∷ 0 ∷ 1 ∷ 0 ∷ 0 ∷ 0 ∷ 1 ∷ 0 ∷ 5 ∷ 0 ∷ 1 ∷ 0 ∷ 0 ∷ 0 ∷ 8 ∷ 0 ∷ 0 ∷ 0 ∷ 0 ∷ 0 ∷ 0 ∷ 0 ∷ 72 ∷ 0 ∷ 18 ∷ 0 ∷ 48 ∷ 0 ∷ 0 ∷ 0 ∷ 0 ∷ 0 ∷ 7 ∷ 0 ∷ 4 ∷ 0 ∷ 3 ∷ 0 ∷ 1 ∷ 0 ∷ 0 ∷ 0 ∷ 0 ∷ 0 ∷ 17 ∷ 0 ∷ 25 ∷ 0 ∷ 0 ∷ 64 ∷ 33 ∷ 0 ∷ 0 ∷ 0 ∷ 40 ∷ 0 ∷ 42 ∷ 0 ∷ 255 ∷ 255 ∷ 0 ∷ 64 ∷ 128 ∷ 0 ∷ 0 ∷ 0 ∷ 0 ∷ 0 ∷ 0 ∷ 0 ∷ 0 ∷ 0 ∷ 0 ∷ 0 ∷ 1 ∷ 0 ∷ 40 ∷ 0 ∷ 51 ∷ 0 ∷ 255 ∷ 255 ∷ 255 ∷ 255 ∷ 96 ∷ 0 ∷ 0 ∷ 0 ∷ 0 ∷ 0 ∷ 0 ∷ 0 ∷ 0 ∷ 0 ∷ 1 ∷ 0 ∷ 1 ∷ 0 ∷ 40 ∷ 0 ∷ 54 ∷ 0 ∷ 255 ∷ 255 ∷ 0 ∷ 64 ∷ 128 ∷ 0 ∷ 0 ∷ 0 ∷ 0 ∷ 0 ∷ 0 ∷ 0 ∷ 0 ∷ 0 ∷ 2 ∷ 0 ∷ 2 ∷ 0 ∷ 40 ∷ 0 ∷ 57 ∷ 0 ∷ 255 ∷ 255 ∷ 2 ∷ 0 ∷ 128 ∷ 0 ∷ 0 ∷ 0 ∷ 1 ∷ 0 ∷ 0 ∷ 0 ∷ 0 ∷ 0 ∷ 4 ∷ 0 ∷ 2 ∷ 0 ∷ 40 ∷ 0 ∷ 60 ∷ 0 ∷ 255 ∷ 255 ∷ 3 ∷ 0 ∷ 128 ∷ 0 ∷ 0 ∷ 0 ∷ 0 ∷ 0 ∷ 0 ∷ 0 ∷ 0 ∷ 0 ∷ 6 ∷ 0 ∷ 2 ∷ 0 ∷ 1 ∷ 0 ∷ 63 ∷ 0 ∷ 6 ∷ 0 ∷ 1 ∷ 0 ∷ 0 ∷ 0 ∷ 27 ∷ 0 ∷ 255 ∷ 255 ∷ 8 ∷ 0 ∷ 0 ∷ 0 ∷ 0 ∷ 0 ∷ 69 ∷ 0 ∷ 12 ∷ 0 ∷ 14 ∷ 0 ∷ 255 ∷ 255 ∷ 0 ∷ 0 ∷ 255 ∷ 255 ∷ 0 ∷ 0 ∷ 0 ∷ 0 ∷ 0 ∷ 0 ∷ 33 ∷ 0 ∷ 0 ∷ 0 ∷ 0 ∷ 0 ∷ 27 ∷ 0 ∷ 5 ∷ 0 ∷ 255 ∷ 255 ∷ 8 ∷ 0 ∷ 0 ∷ 0 ∷ 0 ∷ 0 ∷ 69 ∷ 0 ∷ 12 ∷ 0 ∷ 6 ∷ 0 ∷ 32 ∷ 0 ∷ 2 ∷ 0 ∷ 255 ∷ 255 ∷ 8 ∷ 0 ∷ 0 ∷ 0 ∷ 0 ∷ 0 ∷ 33 ∷ 0 ∷ 0 ∷ 0 ∷ 0 ∷ 0 ∷ 34 ∷ 0 ∷ 5 ∷ 0 ∷ 255 ∷ 255 ∷ 8 ∷ 0 ∷ 0 ∷ 0 ∷ 0 ∷ 0 ∷ 69 ∷ 0 ∷ 12 ∷ 0 ∷ 6 ∷ 0 ∷ 39 ∷ 0 ∷ 2 ∷ 0 ∷ 255 ∷ 255 ∷ 8 ∷ 0 ∷ 0 ∷ 0 ∷ 0 ∷ 0 ∷ 33 ∷ 0 ∷ 0 ∷ 0 ∷ 0 ∷ 0 ∷ 41 ∷ 0 ∷ 5 ∷ 0 ∷ 255 ∷ 255 ∷ 8 ∷ 0 ∷ 0 ∷ 0 ∷ 0 ∷ 0 ∷ 69 ∷ 0 ∷ 12 ∷ 0 ∷ 2 ∷ 0 ∷ 46 ∷ 0 ∷ 2 ∷ 0 ∷ 255 ∷ 255 ∷ 8 ∷ 0 ∷ 0 ∷ 0 ∷ 0 ∷ 0 ∷ 5 ∷ 0 ∷ 73 ∷ 102 ∷ 97 ∷ 99 ∷ 101 ∷ 8 ∷ 0 ∷ 109 ∷ 115 ∷ 99 ∷ 111 ∷ 114 ∷ 108 ∷ 105 ∷ 98 ∷ 6 ∷ 0 ∷ 83 ∷ 121 ∷ 115 ∷ 116 ∷ 101 ∷ 109 ∷ 6 ∷ 0 ∷ 79 ∷ 98 ∷ 106 ∷ 101 ∷ 99 ∷ 116 ∷ 5 ∷ 0 ∷ 46 ∷ 99 ∷ 116 ∷ 111 ∷ 114 ∷ 0 ∷ 0 ∷ 7 ∷ 0 ∷ 80 ∷ 114 ∷ 111 ∷ 103 ∷ 114 ∷ 97 ∷ 109 ∷ 1 ∷ 0 ∷ 73 ∷ 1 ∷ 0 ∷ 65 ∷ 1 ∷ 0 ∷ 66 ∷ 1 ∷ 0 ∷ 67 ∷ 4 ∷ 0 ∷ 77 ∷ 97 ∷ 105 ∷ 110 ∷ 1 ∷ 0 ∷ 70 ∷ 4 ∷ 0 ∷ 32 ∷ 0 ∷ 0 ∷ 1 ∷ 4 ∷ 0 ∷ 0 ∷ 0 ∷ 0 ∷ 8 ∷ 4 ∷ 0 ∷ 32 ∷ 0 ∷ 0 ∷ 8 ∷ 115 ∷ 4 ∷ 0 ∷ 111 ∷ 1 ∷ 0 ∷ 115 ∷ 6 ∷ 0 ∷ 111 ∷ 1 ∷ 0 ∷ 31 ∷ 10 ∷ 90 ∷ 88 ∷ 115 ∷ 6 ∷ 0 ∷ 111 ∷ 3 ∷ 0 ∷ 31 ∷ 100 ∷ 90 ∷ 88 ∷ 42 ∷ 2 ∷ 40 ∷ 0 ∷ 64 ∷ 42 ∷ 23 ∷ 42 ∷ 2 ∷ 40 ∷ 2 ∷ 0 ∷ 42 ∷ 24 ∷ 42 ∷ 2 ∷ 40 ∷ 4 ∷ 0 ∷ 42 ∷ 25 ∷ 42 ∷ [])

spelt_iface : onto (laid rows_iface methods_iface) [] ≡ bytes_iface
unfolding rows line shape_of row_list is_utf8 chars encode_utf8 rows_iface methods_iface bytes_iface body_onto
spelt_iface = refl

read_iface : on_some (view bytes_iface) image_rows ≡ Some rows_iface
unfolding rows line shape_of row_list is_utf8 chars encode_utf8 rows_iface methods_iface bytes_iface read_body
read_iface = refl

is_spelt_iface : IsSpelt rows_iface methods_iface
unfolding rows line shape_of row_list is_utf8 chars encode_utf8 rows_iface methods_iface
is_spelt_iface =
    record {
      limits = record { assemblies = omega arith; refs = omega arith; types = omega arith; methods = omega arith; specs = omega arith; datas = omega arith; signatures = omega arith; code = omega arith };
      version = refl;
      name = refl;
      entry = omega arith;
      versions = (refl, tt);
      assemblies = (refl, tt);
      refs = (record { scope = omega arith; namespace = refl; name = refl }, tt);
      field_refs = tt;
      method_refs = (record { parent = omega arith; name = refl; signature = record { returns = tt; parameters = tt } }, tt);
      types = (record { namespace = refl; name = refl; enclosing = tt; extends = omega arith; kind = tt; own_fields = refl; own_methods = refl }, (record { namespace = refl; name = refl; enclosing = tt; extends = tt; kind = tt; own_fields = refl; own_methods = refl }, (record { namespace = refl; name = refl; enclosing = tt; extends = omega arith; kind = tt; own_fields = refl; own_methods = refl }, (record { namespace = refl; name = refl; enclosing = tt; extends = omega arith; kind = tt; own_fields = refl; own_methods = refl }, (record { namespace = refl; name = refl; enclosing = tt; extends = omega arith; kind = tt; own_fields = refl; own_methods = refl }, tt)))));
      interfaces = (omega arith, tt);
      fields = tt;
      methods = (record { name = refl; signature = record { returns = record { shallow = refl; named = refl }; parameters = tt }; body = record { some = omega arith; locals = refl; nest = refl; room = refl; lines = (record { known = refl; plain = refl; shape = refl; place = refl; next = refl; operand = ((Own 4), refl, omega arith) }, (record { known = refl; plain = refl; shape = refl; place = refl; next = refl; operand = ((Own 1), refl, omega arith) }, (record { known = refl; plain = refl; shape = refl; place = refl; next = refl; operand = ((Own 6), refl, omega arith) }, (record { known = refl; plain = refl; shape = refl; place = refl; next = refl; operand = ((Own 1), refl, omega arith) }, (record { known = refl; plain = refl; shape = refl; place = refl; next = refl; operand = ((pos 10), refl, record { sfits = omega arith }) }, (record { known = refl; plain = refl; shape = refl; place = refl; next = refl; operand = refl }, (record { known = refl; plain = refl; shape = refl; place = refl; next = refl; operand = refl }, (record { known = refl; plain = refl; shape = refl; place = refl; next = refl; operand = ((Own 6), refl, omega arith) }, (record { known = refl; plain = refl; shape = refl; place = refl; next = refl; operand = ((Own 3), refl, omega arith) }, (record { known = refl; plain = refl; shape = refl; place = refl; next = refl; operand = ((pos 100), refl, record { sfits = omega arith }) }, (record { known = refl; plain = refl; shape = refl; place = refl; next = refl; operand = refl }, (record { known = refl; plain = refl; shape = refl; place = refl; next = refl; operand = refl }, (record { known = refl; plain = refl; shape = refl; place = refl; next = refl; operand = refl }, tt))))))))))))) } }, (record { name = refl; signature = record { returns = record { shallow = refl; named = refl }; parameters = tt }; body = tt }, (record { name = refl; signature = record { returns = tt; parameters = tt }; body = record { some = omega arith; locals = refl; nest = refl; room = refl; lines = (record { known = refl; plain = refl; shape = refl; place = refl; next = refl; operand = refl }, (record { known = refl; plain = refl; shape = refl; place = refl; next = refl; operand = ((Reference 0), refl, omega arith) }, (record { known = refl; plain = refl; shape = refl; place = refl; next = refl; operand = refl }, tt))) } }, (record { name = refl; signature = record { returns = record { shallow = refl; named = refl }; parameters = tt }; body = record { some = omega arith; locals = refl; nest = refl; room = refl; lines = (record { known = refl; plain = refl; shape = refl; place = refl; next = refl; operand = refl }, (record { known = refl; plain = refl; shape = refl; place = refl; next = refl; operand = refl }, tt)) } }, (record { name = refl; signature = record { returns = tt; parameters = tt }; body = record { some = omega arith; locals = refl; nest = refl; room = refl; lines = (record { known = refl; plain = refl; shape = refl; place = refl; next = refl; operand = refl }, (record { known = refl; plain = refl; shape = refl; place = refl; next = refl; operand = ((Own 2), refl, omega arith) }, (record { known = refl; plain = refl; shape = refl; place = refl; next = refl; operand = refl }, tt))) } }, (record { name = refl; signature = record { returns = record { shallow = refl; named = refl }; parameters = tt }; body = record { some = omega arith; locals = refl; nest = refl; room = refl; lines = (record { known = refl; plain = refl; shape = refl; place = refl; next = refl; operand = refl }, (record { known = refl; plain = refl; shape = refl; place = refl; next = refl; operand = refl }, tt)) } }, (record { name = refl; signature = record { returns = tt; parameters = tt }; body = record { some = omega arith; locals = refl; nest = refl; room = refl; lines = (record { known = refl; plain = refl; shape = refl; place = refl; next = refl; operand = refl }, (record { known = refl; plain = refl; shape = refl; place = refl; next = refl; operand = ((Own 4), refl, omega arith) }, (record { known = refl; plain = refl; shape = refl; place = refl; next = refl; operand = refl }, tt))) } }, (record { name = refl; signature = record { returns = record { shallow = refl; named = refl }; parameters = tt }; body = record { some = omega arith; locals = refl; nest = refl; room = refl; lines = (record { known = refl; plain = refl; shape = refl; place = refl; next = refl; operand = refl }, (record { known = refl; plain = refl; shape = refl; place = refl; next = refl; operand = refl }, tt)) } }, tt))))))));
      clauses = tt;
      specs = tt;
      same = refl;
    }

methods_arrays : Methods
methods_arrays =
    (record { opcodes = rows (25 ∷ 141 ∷ 10 ∷ 6 ∷ 208 ∷ 40 ∷ 6 ∷ 23 ∷ 148 ∷ 140 ∷ 111 ∷ 40 ∷ 6 ∷ 22 ∷ 143 ∷ 31 ∷ 84 ∷ 6 ∷ 22 ∷ 163 ∷ 140 ∷ 111 ∷ 40 ∷ 24 ∷ 141 ∷ 11 ∷ 7 ∷ 23 ∷ 33 ∷ 159 ∷ 7 ∷ 23 ∷ 150 ∷ 140 ∷ 111 ∷ 40 ∷ 27 ∷ 141 ∷ 12 ∷ 8 ∷ 26 ∷ 32 ∷ 156 ∷ 8 ∷ 26 ∷ 145 ∷ 140 ∷ 111 ∷ 40 ∷ 8 ∷ 26 ∷ 144 ∷ 140 ∷ 111 ∷ 40 ∷ 6 ∷ 22 ∷ 6 ∷ 23 ∷ 24 ∷ 40 ∷ 6 ∷ 23 ∷ 148 ∷ 140 ∷ 111 ∷ 40 ∷ 6 ∷ 111 ∷ 40 ∷ 6 ∷ 25 ∷ 148 ∷ 38 ∷ 221 ∷ 111 ∷ 40 ∷ 222 ∷ 21 ∷ 141 ∷ 38 ∷ 222 ∷ 111 ∷ 40 ∷ 222 ∷ 6 ∷ 22 ∷ 7 ∷ 22 ∷ 23 ∷ 40 ∷ 222 ∷ 111 ∷ 40 ∷ 222 ∷ 23 ∷ 141 ∷ 22 ∷ 143 ∷ 38 ∷ 222 ∷ 111 ∷ 40 ∷ 222 ∷ 6 ∷ 142 ∷ 6 ∷ 19 ∷ 17 ∷ 40 ∷ 88 ∷ 42 ∷ []); has_locals = true }, record { name = (77 ∷ 97 ∷ 105 ∷ 110 ∷ []); signature = (record { has_this = false; returns = (Some (RawSpelt elem.I4)); parameters = ([]) }); is_static = true; is_virtual = false; is_newslot = false; is_abstract = false; body = Body.Code; code = (Some (record { locals = ((RawArray (RawSpelt elem.I4)) ∷ (RawArray (RawSpelt elem.I8)) ∷ (RawArray (RawSpelt elem.U1)) ∷ (RawArray (RawSpelt elem.Object)) ∷ (RawClass (TypeRef 4)) ∷ []); max_stack = 6; clauses = (record { kind = RawCatch (TypeRef 10); try_start = 139; try_end = 146; start = 146; end = 154 } ∷ record { kind = RawCatch (TypeRef 10); try_start = 154; try_end = 161; start = 161; end = 169 } ∷ record { kind = RawCatch (TypeRef 10); try_start = 169; try_end = 179; start = 179; end = 187 } ∷ record { kind = RawCatch (TypeRef 10); try_start = 187; try_end = 198; start = 198; end = 206 } ∷ []); lines = (line 0 25 RawNothing 1 ∷ line 1 141 (RawTypeOf (TypeRef 2)) 4 ∷ line 4 10 RawNothing 5 ∷ line 5 6 RawNothing 6 ∷ line 6 208 (RawField (Own 0)) 9 ∷ line 9 40 (RawMethod (Reference 0)) 12 ∷ line 12 6 RawNothing 13 ∷ line 13 23 RawNothing 14 ∷ line 14 148 RawNothing 15 ∷ line 15 140 (RawTypeOf (TypeRef 2)) 18 ∷ line 18 111 (RawMethod (Reference 1)) 21 ∷ line 21 40 (RawMethod (Reference 2)) 24 ∷ line 24 6 RawNothing 25 ∷ line 25 22 RawNothing 26 ∷ line 26 143 (RawTypeOf (TypeRef 2)) 29 ∷ line 29 31 (RawNumber (pos 77)) 31 ∷ line 31 84 RawNothing 32 ∷ line 32 6 RawNothing 33 ∷ line 33 22 RawNothing 34 ∷ line 34 163 (RawTypeOf (TypeRef 2)) 37 ∷ line 37 140 (RawTypeOf (TypeRef 2)) 40 ∷ line 40 111 (RawMethod (Reference 1)) 43 ∷ line 43 40 (RawMethod (Reference 2)) 46 ∷ line 46 24 RawNothing 47 ∷ line 47 141 (RawTypeOf (TypeRef 7)) 50 ∷ line 50 11 RawNothing 51 ∷ line 51 7 RawNothing 52 ∷ line 52 23 RawNothing 53 ∷ line 53 33 (RawNumber (negsuc 8)) 62 ∷ line 62 159 RawNothing 63 ∷ line 63 7 RawNothing 64 ∷ line 64 23 RawNothing 65 ∷ line 65 150 RawNothing 66 ∷ line 66 140 (RawTypeOf (TypeRef 7)) 69 ∷ line 69 111 (RawMethod (Reference 1)) 72 ∷ line 72 40 (RawMethod (Reference 2)) 75 ∷ line 75 27 RawNothing 76 ∷ line 76 141 (RawTypeOf (TypeRef 8)) 79 ∷ line 79 12 RawNothing 80 ∷ line 80 8 RawNothing 81 ∷ line 81 26 RawNothing 82 ∷ line 82 32 (RawNumber (pos 511)) 87 ∷ line 87 156 RawNothing 88 ∷ line 88 8 RawNothing 89 ∷ line 89 26 RawNothing 90 ∷ line 90 145 RawNothing 91 ∷ line 91 140 (RawTypeOf (TypeRef 2)) 94 ∷ line 94 111 (RawMethod (Reference 1)) 97 ∷ line 97 40 (RawMethod (Reference 2)) 100 ∷ line 100 8 RawNothing 101 ∷ line 101 26 RawNothing 102 ∷ line 102 144 RawNothing 103 ∷ line 103 140 (RawTypeOf (TypeRef 2)) 106 ∷ line 106 111 (RawMethod (Reference 1)) 109 ∷ line 109 40 (RawMethod (Reference 2)) 112 ∷ line 112 6 RawNothing 113 ∷ line 113 22 RawNothing 114 ∷ line 114 6 RawNothing 115 ∷ line 115 23 RawNothing 116 ∷ line 116 24 RawNothing 117 ∷ line 117 40 (RawMethod (Reference 3)) 120 ∷ line 120 6 RawNothing 121 ∷ line 121 23 RawNothing 122 ∷ line 122 148 RawNothing 123 ∷ line 123 140 (RawTypeOf (TypeRef 2)) 126 ∷ line 126 111 (RawMethod (Reference 1)) 129 ∷ line 129 40 (RawMethod (Reference 2)) 132 ∷ line 132 6 RawNothing 133 ∷ line 133 111 (RawMethod (Reference 1)) 136 ∷ line 136 40 (RawMethod (Reference 2)) 139 ∷ line 139 6 RawNothing 140 ∷ line 140 25 RawNothing 141 ∷ line 141 148 RawNothing 142 ∷ line 142 38 RawNothing 143 ∷ line 143 221 (RawTargets ((pos 154) ∷ [])) 146 ∷ line 146 111 (RawMethod (Reference 1)) 149 ∷ line 149 40 (RawMethod (Reference 2)) 152 ∷ line 152 222 (RawTargets ((pos 154) ∷ [])) 154 ∷ line 154 21 RawNothing 155 ∷ line 155 141 (RawTypeOf (TypeRef 9)) 158 ∷ line 158 38 RawNothing 159 ∷ line 159 222 (RawTargets ((pos 169) ∷ [])) 161 ∷ line 161 111 (RawMethod (Reference 1)) 164 ∷ line 164 40 (RawMethod (Reference 2)) 167 ∷ line 167 222 (RawTargets ((pos 169) ∷ [])) 169 ∷ line 169 6 RawNothing 170 ∷ line 170 22 RawNothing 171 ∷ line 171 7 RawNothing 172 ∷ line 172 22 RawNothing 173 ∷ line 173 23 RawNothing 174 ∷ line 174 40 (RawMethod (Reference 3)) 177 ∷ line 177 222 (RawTargets ((pos 187) ∷ [])) 179 ∷ line 179 111 (RawMethod (Reference 1)) 182 ∷ line 182 40 (RawMethod (Reference 2)) 185 ∷ line 185 222 (RawTargets ((pos 187) ∷ [])) 187 ∷ line 187 23 RawNothing 188 ∷ line 188 141 (RawTypeOf (TypeRef 9)) 191 ∷ line 191 22 RawNothing 192 ∷ line 192 143 (RawTypeOf (TypeRef 0)) 195 ∷ line 195 38 RawNothing 196 ∷ line 196 222 (RawTargets ((pos 206) ∷ [])) 198 ∷ line 198 111 (RawMethod (Reference 1)) 201 ∷ line 201 40 (RawMethod (Reference 2)) 204 ∷ line 204 222 (RawTargets ((pos 206) ∷ [])) 206 ∷ line 206 6 RawNothing 207 ∷ line 207 142 RawNothing 208 ∷ line 208 6 RawNothing 209 ∷ line 209 19 (RawNumber (pos 4)) 211 ∷ line 211 17 (RawNumber (pos 4)) 213 ∷ line 213 40 (RawMethod (Reference 4)) 216 ∷ line 216 88 RawNothing 217 ∷ line 217 42 RawNothing 218 ∷ []) })) })
    ∷ []

rows_arrays : Assembly
unfolding methods_arrays
rows_arrays =
    record {
      name = (65 ∷ 114 ∷ 114 ∷ 97 ∷ 121 ∷ 115 ∷ []);
      version = (1 ∷ 0 ∷ 0 ∷ 0 ∷ []);
      entry = (Some 0);
      assemblies =
          record { name = (109 ∷ 115 ∷ 99 ∷ 111 ∷ 114 ∷ 108 ∷ 105 ∷ 98 ∷ []); version = (4 ∷ 3 ∷ 1 ∷ 0 ∷ []) }
          ∷ record { name = (77 ∷ 105 ∷ 99 ∷ 114 ∷ 111 ∷ 115 ∷ 111 ∷ 102 ∷ 116 ∷ 46 ∷ 83 ∷ 80 ∷ 79 ∷ 84 ∷ 46 ∷ 78 ∷ 97 ∷ 116 ∷ 105 ∷ 118 ∷ 101 ∷ []); version = (4 ∷ 3 ∷ 1 ∷ 0 ∷ []) }
          ∷ [];
      refs =
          record { scope = OfAssembly 0; namespace = (83 ∷ 121 ∷ 115 ∷ 116 ∷ 101 ∷ 109 ∷ []); name = (79 ∷ 98 ∷ 106 ∷ 101 ∷ 99 ∷ 116 ∷ []) }
          ∷ record { scope = OfAssembly 0; namespace = (83 ∷ 121 ∷ 115 ∷ 116 ∷ 101 ∷ 109 ∷ []); name = (86 ∷ 97 ∷ 108 ∷ 117 ∷ 101 ∷ 84 ∷ 121 ∷ 112 ∷ 101 ∷ []) }
          ∷ record { scope = OfAssembly 0; namespace = (83 ∷ 121 ∷ 115 ∷ 116 ∷ 101 ∷ 109 ∷ []); name = (73 ∷ 110 ∷ 116 ∷ 51 ∷ 50 ∷ []) }
          ∷ record { scope = OfAssembly 0; namespace = (83 ∷ 121 ∷ 115 ∷ 116 ∷ 101 ∷ 109 ∷ 46 ∷ 82 ∷ 117 ∷ 110 ∷ 116 ∷ 105 ∷ 109 ∷ 101 ∷ 46 ∷ 67 ∷ 111 ∷ 109 ∷ 112 ∷ 105 ∷ 108 ∷ 101 ∷ 114 ∷ 83 ∷ 101 ∷ 114 ∷ 118 ∷ 105 ∷ 99 ∷ 101 ∷ 115 ∷ []); name = (82 ∷ 117 ∷ 110 ∷ 116 ∷ 105 ∷ 109 ∷ 101 ∷ 72 ∷ 101 ∷ 108 ∷ 112 ∷ 101 ∷ 114 ∷ 115 ∷ []) }
          ∷ record { scope = OfAssembly 0; namespace = (83 ∷ 121 ∷ 115 ∷ 116 ∷ 101 ∷ 109 ∷ []); name = (65 ∷ 114 ∷ 114 ∷ 97 ∷ 121 ∷ []) }
          ∷ record { scope = OfAssembly 0; namespace = (83 ∷ 121 ∷ 115 ∷ 116 ∷ 101 ∷ 109 ∷ []); name = (82 ∷ 117 ∷ 110 ∷ 116 ∷ 105 ∷ 109 ∷ 101 ∷ 70 ∷ 105 ∷ 101 ∷ 108 ∷ 100 ∷ 72 ∷ 97 ∷ 110 ∷ 100 ∷ 108 ∷ 101 ∷ []) }
          ∷ record { scope = OfAssembly 1; namespace = (77 ∷ 105 ∷ 99 ∷ 114 ∷ 111 ∷ 115 ∷ 111 ∷ 102 ∷ 116 ∷ 46 ∷ 83 ∷ 80 ∷ 79 ∷ 84 ∷ []); name = (68 ∷ 101 ∷ 98 ∷ 117 ∷ 103 ∷ []) }
          ∷ record { scope = OfAssembly 0; namespace = (83 ∷ 121 ∷ 115 ∷ 116 ∷ 101 ∷ 109 ∷ []); name = (73 ∷ 110 ∷ 116 ∷ 54 ∷ 52 ∷ []) }
          ∷ record { scope = OfAssembly 0; namespace = (83 ∷ 121 ∷ 115 ∷ 116 ∷ 101 ∷ 109 ∷ []); name = (66 ∷ 121 ∷ 116 ∷ 101 ∷ []) }
          ∷ record { scope = OfAssembly 0; namespace = (83 ∷ 121 ∷ 115 ∷ 116 ∷ 101 ∷ 109 ∷ []); name = (83 ∷ 116 ∷ 114 ∷ 105 ∷ 110 ∷ 103 ∷ []) }
          ∷ record { scope = OfAssembly 0; namespace = (83 ∷ 121 ∷ 115 ∷ 116 ∷ 101 ∷ 109 ∷ []); name = (69 ∷ 120 ∷ 99 ∷ 101 ∷ 112 ∷ 116 ∷ 105 ∷ 111 ∷ 110 ∷ []) }
          ∷ [];
      field_refs = [];
      method_refs =
          record { parent = (TypeRef 3); name = (73 ∷ 110 ∷ 105 ∷ 116 ∷ 105 ∷ 97 ∷ 108 ∷ 105 ∷ 122 ∷ 101 ∷ 65 ∷ 114 ∷ 114 ∷ 97 ∷ 121 ∷ []); signature = (record { has_this = false; returns = None; parameters = ((RawDirect (RawClass (TypeRef 4))) ∷ (RawDirect (RawValue (TypeRef 5))) ∷ []) }) }
          ∷ record { parent = (TypeRef 0); name = (84 ∷ 111 ∷ 83 ∷ 116 ∷ 114 ∷ 105 ∷ 110 ∷ 103 ∷ []); signature = (record { has_this = true; returns = (Some (RawSpelt elem.String)); parameters = ([]) }) }
          ∷ record { parent = (TypeRef 6); name = (80 ∷ 114 ∷ 105 ∷ 110 ∷ 116 ∷ []); signature = (record { has_this = false; returns = None; parameters = ((RawDirect (RawSpelt elem.String)) ∷ []) }) }
          ∷ record { parent = (TypeRef 4); name = (67 ∷ 111 ∷ 112 ∷ 121 ∷ []); signature = (record { has_this = false; returns = None; parameters = ((RawDirect (RawClass (TypeRef 4))) ∷ (RawDirect (RawSpelt elem.I4)) ∷ (RawDirect (RawClass (TypeRef 4))) ∷ (RawDirect (RawSpelt elem.I4)) ∷ (RawDirect (RawSpelt elem.I4)) ∷ []) }) }
          ∷ record { parent = (TypeRef 4); name = (103 ∷ 101 ∷ 116 ∷ 95 ∷ 76 ∷ 101 ∷ 110 ∷ 103 ∷ 116 ∷ 104 ∷ []); signature = (record { has_this = true; returns = (Some (RawSpelt elem.I4)); parameters = ([]) }) }
          ∷ [];
      types =
          record { namespace = ([]); name = (80 ∷ 114 ∷ 111 ∷ 103 ∷ 114 ∷ 97 ∷ 109 ∷ []); enclosing = None; extends = (Some (TypeRef 0)); interfaces = ([]); kind = TypeKind.Reference; is_interface = false; is_abstract = false; is_lazy = true; first_field = 0; field_count = 0; first_method = 0; method_count = 1 }
          ∷ record { namespace = ([]); name = (68 ∷ []); enclosing = None; extends = (Some (TypeRef 1)); interfaces = ([]); kind = TypeKind.OtherValue; is_interface = false; is_abstract = false; is_lazy = false; first_field = 0; field_count = 0; first_method = 0; method_count = 0 }
          ∷ record { namespace = ([]); name = (72 ∷ 111 ∷ 108 ∷ 100 ∷ 101 ∷ 114 ∷ []); enclosing = None; extends = (Some (TypeRef 0)); interfaces = ([]); kind = TypeKind.Reference; is_interface = false; is_abstract = false; is_lazy = false; first_field = 0; field_count = 1; first_method = 0; method_count = 0 }
          ∷ [];
      fields =
          record { name = (100 ∷ 97 ∷ 116 ∷ 97 ∷ []); signature = (RawValue (TypeDef 1)); kind = (FieldKind.DataField (1 ∷ 0 ∷ 0 ∷ 0 ∷ 2 ∷ 1 ∷ 0 ∷ 0 ∷ 255 ∷ 255 ∷ 255 ∷ 255 ∷ [])) }
          ∷ [];
      methods = map (λ (x : Manner × MethodRow). x.1) methods_arrays;
      specs = [];
    }

bytes_arrays : List ℕ
bytes_arrays = (77 ∷ 83 ∷ 83 ∷ 112 ∷ 111 ∷ 116 ∷ 49 ∷ 0 ∷ 144 ∷ 3 ∷ 0 ∷ 0 ∷ 1 ∷ 0 ∷ 0 ∷ 0 ∷ 0 ∷ 0 ∷ 0 ∷ 0 ∷ 0 ∷ 0 ∷ 0 ∷ 0 ∷ 2 ∷ 0 ∷ 11 ∷ 0 ∷ 0 ∷ 0 ∷ 5 ∷ 0 ∷ 3 ∷ 0 ∷ 0 ∷ 0 ∷ 1 ∷ 0 ∷ 1 ∷ 0 ∷ 4 ∷ 0 ∷ 0 ∷ 0 ∷ 1 ∷ 0 ∷ 36 ∷ 1 ∷ 72 ∷ 0 ∷ 218 ∷ 0 ∷ 12 ∷ 0 ∷ 0 ∷ 0 ∷ 8 ∷ 0 ∷ 4 ∷ 0 ∷ 3 ∷ 0 ∷ 1 ∷ 0 ∷ 0 ∷ 0 ∷ 18 ∷ 0 ∷ 4 ∷ 0 ∷ 3 ∷ 0 ∷ 1 ∷ 0 ∷ 0 ∷ 0 ∷ 0 ∷ 0 ∷ 41 ∷ 0 ∷ 49 ∷ 0 ∷ 0 ∷ 0 ∷ 41 ∷ 0 ∷ 57 ∷ 0 ∷ 0 ∷ 0 ∷ 41 ∷ 0 ∷ 68 ∷ 0 ∷ 0 ∷ 0 ∷ 75 ∷ 0 ∷ 108 ∷ 0 ∷ 0 ∷ 0 ∷ 41 ∷ 0 ∷ 124 ∷ 0 ∷ 0 ∷ 0 ∷ 41 ∷ 0 ∷ 131 ∷ 0 ∷ 1 ∷ 0 ∷ 151 ∷ 0 ∷ 167 ∷ 0 ∷ 0 ∷ 0 ∷ 41 ∷ 0 ∷ 174 ∷ 0 ∷ 0 ∷ 0 ∷ 41 ∷ 0 ∷ 181 ∷ 0 ∷ 0 ∷ 0 ∷ 41 ∷ 0 ∷ 187 ∷ 0 ∷ 0 ∷ 0 ∷ 41 ∷ 0 ∷ 195 ∷ 0 ∷ 3 ∷ 64 ∷ 206 ∷ 0 ∷ 0 ∷ 0 ∷ 0 ∷ 64 ∷ 223 ∷ 0 ∷ 12 ∷ 0 ∷ 6 ∷ 64 ∷ 233 ∷ 0 ∷ 18 ∷ 0 ∷ 4 ∷ 64 ∷ 240 ∷ 0 ∷ 25 ∷ 0 ∷ 4 ∷ 64 ∷ 246 ∷ 0 ∷ 40 ∷ 0 ∷ 2 ∷ 1 ∷ 4 ∷ 1 ∷ 255 ∷ 255 ∷ 0 ∷ 64 ∷ 128 ∷ 0 ∷ 0 ∷ 0 ∷ 0 ∷ 0 ∷ 0 ∷ 0 ∷ 0 ∷ 0 ∷ 0 ∷ 0 ∷ 1 ∷ 0 ∷ 2 ∷ 1 ∷ 13 ∷ 1 ∷ 255 ∷ 255 ∷ 1 ∷ 64 ∷ 0 ∷ 2 ∷ 0 ∷ 0 ∷ 0 ∷ 0 ∷ 0 ∷ 0 ∷ 0 ∷ 0 ∷ 0 ∷ 0 ∷ 0 ∷ 0 ∷ 2 ∷ 1 ∷ 16 ∷ 1 ∷ 255 ∷ 255 ∷ 0 ∷ 64 ∷ 0 ∷ 0 ∷ 0 ∷ 0 ∷ 0 ∷ 0 ∷ 0 ∷ 0 ∷ 1 ∷ 0 ∷ 0 ∷ 0 ∷ 0 ∷ 0 ∷ 24 ∷ 1 ∷ 46 ∷ 0 ∷ 1 ∷ 0 ∷ 0 ∷ 0 ∷ 30 ∷ 1 ∷ 51 ∷ 0 ∷ 1 ∷ 0 ∷ 0 ∷ 0 ∷ 218 ∷ 0 ∷ 57 ∷ 0 ∷ 6 ∷ 0 ∷ 0 ∷ 0 ∷ 4 ∷ 0 ∷ 0 ∷ 0 ∷ 10 ∷ 64 ∷ 139 ∷ 0 ∷ 146 ∷ 0 ∷ 146 ∷ 0 ∷ 154 ∷ 0 ∷ 0 ∷ 0 ∷ 10 ∷ 64 ∷ 154 ∷ 0 ∷ 161 ∷ 0 ∷ 161 ∷ 0 ∷ 169 ∷ 0 ∷ 0 ∷ 0 ∷ 10 ∷ 64 ∷ 169 ∷ 0 ∷ 179 ∷ 0 ∷ 179 ∷ 0 ∷ 187 ∷ 0 ∷ 0 ∷ 0 ∷ 10 ∷ 64 ∷ 187 ∷ 0 ∷ 198 ∷ 0 ∷ 198 ∷ 0 ∷ 206 ∷ 0 ∷ 0 ∷ 0 ∷ 12 ∷ 0 ∷ 6 ∷ 0 ∷ 65 ∷ 114 ∷ 114 ∷ 97 ∷ 121 ∷ 115 ∷ 8 ∷ 0 ∷ 109 ∷ 115 ∷ 99 ∷ 111 ∷ 114 ∷ 108 ∷ 105 ∷ 98 ∷ 21 ∷ 0 ∷ 77 ∷ 105 ∷ 99 ∷ 114 ∷ 111 ∷ 115 ∷ 111 ∷ 102 ∷ 116 ∷ 46 ∷ 83 ∷ 80 ∷ 79 ∷ 84 ∷ 46 ∷ 78 ∷ 97 ∷ 116 ∷ 105 ∷ 118 ∷ 101 ∷ 6 ∷ 0 ∷ 83 ∷ 121 ∷ 115 ∷ 116 ∷ 101 ∷ 109 ∷ 6 ∷ 0 ∷ 79 ∷ 98 ∷ 106 ∷ 101 ∷ 99 ∷ 116 ∷ 9 ∷ 0 ∷ 86 ∷ 97 ∷ 108 ∷ 117 ∷ 101 ∷ 84 ∷ 121 ∷ 112 ∷ 101 ∷ 5 ∷ 0 ∷ 73 ∷ 110 ∷ 116 ∷ 51 ∷ 50 ∷ 31 ∷ 0 ∷ 83 ∷ 121 ∷ 115 ∷ 116 ∷ 101 ∷ 109 ∷ 46 ∷ 82 ∷ 117 ∷ 110 ∷ 116 ∷ 105 ∷ 109 ∷ 101 ∷ 46 ∷ 67 ∷ 111 ∷ 109 ∷ 112 ∷ 105 ∷ 108 ∷ 101 ∷ 114 ∷ 83 ∷ 101 ∷ 114 ∷ 118 ∷ 105 ∷ 99 ∷ 101 ∷ 115 ∷ 14 ∷ 0 ∷ 82 ∷ 117 ∷ 110 ∷ 116 ∷ 105 ∷ 109 ∷ 101 ∷ 72 ∷ 101 ∷ 108 ∷ 112 ∷ 101 ∷ 114 ∷ 115 ∷ 5 ∷ 0 ∷ 65 ∷ 114 ∷ 114 ∷ 97 ∷ 121 ∷ 18 ∷ 0 ∷ 82 ∷ 117 ∷ 110 ∷ 116 ∷ 105 ∷ 109 ∷ 101 ∷ 70 ∷ 105 ∷ 101 ∷ 108 ∷ 100 ∷ 72 ∷ 97 ∷ 110 ∷ 100 ∷ 108 ∷ 101 ∷ 14 ∷ 0 ∷ 77 ∷ 105 ∷ 99 ∷ 114 ∷ 111 ∷ 115 ∷ 111 ∷ 102 ∷ 116 ∷ 46 ∷ 83 ∷ 80 ∷ 79 ∷ 84 ∷ 5 ∷ 0 ∷ 68 ∷ 101 ∷ 98 ∷ 117 ∷ 103 ∷ 5 ∷ 0 ∷ 73 ∷ 110 ∷ 116 ∷ 54 ∷ 52 ∷ 4 ∷ 0 ∷ 66 ∷ 121 ∷ 116 ∷ 101 ∷ 6 ∷ 0 ∷ 83 ∷ 116 ∷ 114 ∷ 105 ∷ 110 ∷ 103 ∷ 9 ∷ 0 ∷ 69 ∷ 120 ∷ 99 ∷ 101 ∷ 112 ∷ 116 ∷ 105 ∷ 111 ∷ 110 ∷ 15 ∷ 0 ∷ 73 ∷ 110 ∷ 105 ∷ 116 ∷ 105 ∷ 97 ∷ 108 ∷ 105 ∷ 122 ∷ 101 ∷ 65 ∷ 114 ∷ 114 ∷ 97 ∷ 121 ∷ 8 ∷ 0 ∷ 84 ∷ 111 ∷ 83 ∷ 116 ∷ 114 ∷ 105 ∷ 110 ∷ 103 ∷ 5 ∷ 0 ∷ 80 ∷ 114 ∷ 105 ∷ 110 ∷ 116 ∷ 4 ∷ 0 ∷ 67 ∷ 111 ∷ 112 ∷ 121 ∷ 10 ∷ 0 ∷ 103 ∷ 101 ∷ 116 ∷ 95 ∷ 76 ∷ 101 ∷ 110 ∷ 103 ∷ 116 ∷ 104 ∷ 0 ∷ 0 ∷ 7 ∷ 0 ∷ 80 ∷ 114 ∷ 111 ∷ 103 ∷ 114 ∷ 97 ∷ 109 ∷ 1 ∷ 0 ∷ 68 ∷ 6 ∷ 0 ∷ 72 ∷ 111 ∷ 108 ∷ 100 ∷ 101 ∷ 114 ∷ 4 ∷ 0 ∷ 100 ∷ 97 ∷ 116 ∷ 97 ∷ 4 ∷ 0 ∷ 77 ∷ 97 ∷ 105 ∷ 110 ∷ 10 ∷ 0 ∷ 0 ∷ 2 ∷ 0 ∷ 1 ∷ 18 ∷ 4 ∷ 64 ∷ 17 ∷ 5 ∷ 64 ∷ 4 ∷ 0 ∷ 32 ∷ 0 ∷ 0 ∷ 14 ∷ 5 ∷ 0 ∷ 0 ∷ 1 ∷ 0 ∷ 1 ∷ 14 ∷ 13 ∷ 0 ∷ 0 ∷ 5 ∷ 0 ∷ 1 ∷ 18 ∷ 4 ∷ 64 ∷ 8 ∷ 18 ∷ 4 ∷ 64 ∷ 8 ∷ 8 ∷ 4 ∷ 0 ∷ 32 ∷ 0 ∷ 0 ∷ 8 ∷ 3 ∷ 0 ∷ 17 ∷ 1 ∷ 0 ∷ 4 ∷ 0 ∷ 0 ∷ 0 ∷ 0 ∷ 8 ∷ 13 ∷ 0 ∷ 5 ∷ 0 ∷ 29 ∷ 8 ∷ 29 ∷ 10 ∷ 29 ∷ 5 ∷ 29 ∷ 28 ∷ 18 ∷ 4 ∷ 64 ∷ 25 ∷ 141 ∷ 2 ∷ 64 ∷ 10 ∷ 6 ∷ 208 ∷ 0 ∷ 0 ∷ 40 ∷ 0 ∷ 64 ∷ 6 ∷ 23 ∷ 148 ∷ 140 ∷ 2 ∷ 64 ∷ 111 ∷ 1 ∷ 64 ∷ 40 ∷ 2 ∷ 64 ∷ 6 ∷ 22 ∷ 143 ∷ 2 ∷ 64 ∷ 31 ∷ 77 ∷ 84 ∷ 6 ∷ 22 ∷ 163 ∷ 2 ∷ 64 ∷ 140 ∷ 2 ∷ 64 ∷ 111 ∷ 1 ∷ 64 ∷ 40 ∷ 2 ∷ 64 ∷ 24 ∷ 141 ∷ 7 ∷ 64 ∷ 11 ∷ 7 ∷ 23 ∷ 33 ∷ 247 ∷ 255 ∷ 255 ∷ 255 ∷ 255 ∷ 255 ∷ 255 ∷ 255 ∷ 159 ∷ 7 ∷ 23 ∷ 150 ∷ 140 ∷ 7 ∷ 64 ∷ 111 ∷ 1 ∷ 64 ∷ 40 ∷ 2 ∷ 64 ∷ 27 ∷ 141 ∷ 8 ∷ 64 ∷ 12 ∷ 8 ∷ 26 ∷ 32 ∷ 255 ∷ 1 ∷ 0 ∷ 0 ∷ 156 ∷ 8 ∷ 26 ∷ 145 ∷ 140 ∷ 2 ∷ 64 ∷ 111 ∷ 1 ∷ 64 ∷ 40 ∷ 2 ∷ 64 ∷ 8 ∷ 26 ∷ 144 ∷ 140 ∷ 2 ∷ 64 ∷ 111 ∷ 1 ∷ 64 ∷ 40 ∷ 2 ∷ 64 ∷ 6 ∷ 22 ∷ 6 ∷ 23 ∷ 24 ∷ 40 ∷ 3 ∷ 64 ∷ 6 ∷ 23 ∷ 148 ∷ 140 ∷ 2 ∷ 64 ∷ 111 ∷ 1 ∷ 64 ∷ 40 ∷ 2 ∷ 64 ∷ 6 ∷ 111 ∷ 1 ∷ 64 ∷ 40 ∷ 2 ∷ 64 ∷ 6 ∷ 25 ∷ 148 ∷ 38 ∷ 221 ∷ 8 ∷ 0 ∷ 111 ∷ 1 ∷ 64 ∷ 40 ∷ 2 ∷ 64 ∷ 222 ∷ 0 ∷ 21 ∷ 141 ∷ 9 ∷ 64 ∷ 38 ∷ 222 ∷ 8 ∷ 111 ∷ 1 ∷ 64 ∷ 40 ∷ 2 ∷ 64 ∷ 222 ∷ 0 ∷ 6 ∷ 22 ∷ 7 ∷ 22 ∷ 23 ∷ 40 ∷ 3 ∷ 64 ∷ 222 ∷ 8 ∷ 111 ∷ 1 ∷ 64 ∷ 40 ∷ 2 ∷ 64 ∷ 222 ∷ 0 ∷ 23 ∷ 141 ∷ 9 ∷ 64 ∷ 22 ∷ 143 ∷ 0 ∷ 64 ∷ 38 ∷ 222 ∷ 8 ∷ 111 ∷ 1 ∷ 64 ∷ 40 ∷ 2 ∷ 64 ∷ 222 ∷ 0 ∷ 6 ∷ 142 ∷ 6 ∷ 19 ∷ 4 ∷ 17 ∷ 4 ∷ 40 ∷ 4 ∷ 64 ∷ 88 ∷ 42 ∷ 1 ∷ 0 ∷ 0 ∷ 0 ∷ 2 ∷ 1 ∷ 0 ∷ 0 ∷ 255 ∷ 255 ∷ 255 ∷ 255 ∷ 0 ∷ 0 ∷ [])

spelt_arrays : onto (laid rows_arrays methods_arrays) [] ≡ bytes_arrays
unfolding rows line shape_of row_list is_utf8 chars encode_utf8 rows_arrays methods_arrays bytes_arrays body_onto
spelt_arrays = refl

read_arrays : on_some (view bytes_arrays) image_rows ≡ Some rows_arrays
unfolding rows line shape_of row_list is_utf8 chars encode_utf8 rows_arrays methods_arrays bytes_arrays read_body
read_arrays = refl

is_spelt_arrays : IsSpelt rows_arrays methods_arrays
unfolding rows line shape_of row_list is_utf8 chars encode_utf8 rows_arrays methods_arrays
is_spelt_arrays =
    record {
      limits = record { assemblies = omega arith; refs = omega arith; types = omega arith; methods = omega arith; specs = omega arith; datas = omega arith; signatures = omega arith; code = omega arith };
      version = refl;
      name = refl;
      entry = omega arith;
      versions = (refl, (refl, tt));
      assemblies = (refl, (refl, tt));
      refs = (record { scope = omega arith; namespace = refl; name = refl }, (record { scope = omega arith; namespace = refl; name = refl }, (record { scope = omega arith; namespace = refl; name = refl }, (record { scope = omega arith; namespace = refl; name = refl }, (record { scope = omega arith; namespace = refl; name = refl }, (record { scope = omega arith; namespace = refl; name = refl }, (record { scope = omega arith; namespace = refl; name = refl }, (record { scope = omega arith; namespace = refl; name = refl }, (record { scope = omega arith; namespace = refl; name = refl }, (record { scope = omega arith; namespace = refl; name = refl }, (record { scope = omega arith; namespace = refl; name = refl }, tt)))))))))));
      field_refs = tt;
      method_refs = (record { parent = omega arith; name = refl; signature = record { returns = tt; parameters = (record { shallow = refl; named = omega arith }, (record { shallow = refl; named = omega arith }, tt)) } }, (record { parent = omega arith; name = refl; signature = record { returns = record { shallow = refl; named = refl }; parameters = tt } }, (record { parent = omega arith; name = refl; signature = record { returns = tt; parameters = (record { shallow = refl; named = refl }, tt) } }, (record { parent = omega arith; name = refl; signature = record { returns = tt; parameters = (record { shallow = refl; named = omega arith }, (record { shallow = refl; named = refl }, (record { shallow = refl; named = omega arith }, (record { shallow = refl; named = refl }, (record { shallow = refl; named = refl }, tt))))) } }, (record { parent = omega arith; name = refl; signature = record { returns = record { shallow = refl; named = refl }; parameters = tt } }, tt)))));
      types = (record { namespace = refl; name = refl; enclosing = tt; extends = omega arith; kind = tt; own_fields = refl; own_methods = refl }, (record { namespace = refl; name = refl; enclosing = tt; extends = omega arith; kind = tt; own_fields = refl; own_methods = refl }, (record { namespace = refl; name = refl; enclosing = tt; extends = omega arith; kind = tt; own_fields = refl; own_methods = refl }, tt)));
      interfaces = tt;
      fields = (record { name = refl; signature = record { shallow = refl; named = omega arith }; kind = tt }, tt);
      methods = (record { name = refl; signature = record { returns = record { shallow = refl; named = refl }; parameters = tt }; body = record { some = omega arith; locals = (record { shallow = refl; named = refl }, (record { shallow = refl; named = refl }, (record { shallow = refl; named = refl }, (record { shallow = refl; named = refl }, (record { shallow = refl; named = omega arith }, tt))))); nest = refl; room = refl; lines = (record { known = refl; plain = refl; shape = refl; place = refl; next = refl; operand = refl }, (record { known = refl; plain = refl; shape = refl; place = refl; next = refl; operand = ((TypeRef 2), refl, omega arith) }, (record { known = refl; plain = refl; shape = refl; place = refl; next = refl; operand = refl }, (record { known = refl; plain = refl; shape = refl; place = refl; next = refl; operand = refl }, (record { known = refl; plain = refl; shape = refl; place = refl; next = refl; operand = ((Own 0), refl, omega arith) }, (record { known = refl; plain = refl; shape = refl; place = refl; next = refl; operand = ((Reference 0), refl, omega arith) }, (record { known = refl; plain = refl; shape = refl; place = refl; next = refl; operand = refl }, (record { known = refl; plain = refl; shape = refl; place = refl; next = refl; operand = refl }, (record { known = refl; plain = refl; shape = refl; place = refl; next = refl; operand = refl }, (record { known = refl; plain = refl; shape = refl; place = refl; next = refl; operand = ((TypeRef 2), refl, omega arith) }, (record { known = refl; plain = refl; shape = refl; place = refl; next = refl; operand = ((Reference 1), refl, omega arith) }, (record { known = refl; plain = refl; shape = refl; place = refl; next = refl; operand = ((Reference 2), refl, omega arith) }, (record { known = refl; plain = refl; shape = refl; place = refl; next = refl; operand = refl }, (record { known = refl; plain = refl; shape = refl; place = refl; next = refl; operand = refl }, (record { known = refl; plain = refl; shape = refl; place = refl; next = refl; operand = ((TypeRef 2), refl, omega arith) }, (record { known = refl; plain = refl; shape = refl; place = refl; next = refl; operand = ((pos 77), refl, record { sfits = omega arith }) }, (record { known = refl; plain = refl; shape = refl; place = refl; next = refl; operand = refl }, (record { known = refl; plain = refl; shape = refl; place = refl; next = refl; operand = refl }, (record { known = refl; plain = refl; shape = refl; place = refl; next = refl; operand = refl }, (record { known = refl; plain = refl; shape = refl; place = refl; next = refl; operand = ((TypeRef 2), refl, omega arith) }, (record { known = refl; plain = refl; shape = refl; place = refl; next = refl; operand = ((TypeRef 2), refl, omega arith) }, (record { known = refl; plain = refl; shape = refl; place = refl; next = refl; operand = ((Reference 1), refl, omega arith) }, (record { known = refl; plain = refl; shape = refl; place = refl; next = refl; operand = ((Reference 2), refl, omega arith) }, (record { known = refl; plain = refl; shape = refl; place = refl; next = refl; operand = refl }, (record { known = refl; plain = refl; shape = refl; place = refl; next = refl; operand = ((TypeRef 7), refl, omega arith) }, (record { known = refl; plain = refl; shape = refl; place = refl; next = refl; operand = refl }, (record { known = refl; plain = refl; shape = refl; place = refl; next = refl; operand = refl }, (record { known = refl; plain = refl; shape = refl; place = refl; next = refl; operand = refl }, (record { known = refl; plain = refl; shape = refl; place = refl; next = refl; operand = ((negsuc 8), refl, record { sfits = omega arith }) }, (record { known = refl; plain = refl; shape = refl; place = refl; next = refl; operand = refl }, (record { known = refl; plain = refl; shape = refl; place = refl; next = refl; operand = refl }, (record { known = refl; plain = refl; shape = refl; place = refl; next = refl; operand = refl }, (record { known = refl; plain = refl; shape = refl; place = refl; next = refl; operand = refl }, (record { known = refl; plain = refl; shape = refl; place = refl; next = refl; operand = ((TypeRef 7), refl, omega arith) }, (record { known = refl; plain = refl; shape = refl; place = refl; next = refl; operand = ((Reference 1), refl, omega arith) }, (record { known = refl; plain = refl; shape = refl; place = refl; next = refl; operand = ((Reference 2), refl, omega arith) }, (record { known = refl; plain = refl; shape = refl; place = refl; next = refl; operand = refl }, (record { known = refl; plain = refl; shape = refl; place = refl; next = refl; operand = ((TypeRef 8), refl, omega arith) }, (record { known = refl; plain = refl; shape = refl; place = refl; next = refl; operand = refl }, (record { known = refl; plain = refl; shape = refl; place = refl; next = refl; operand = refl }, (record { known = refl; plain = refl; shape = refl; place = refl; next = refl; operand = refl }, (record { known = refl; plain = refl; shape = refl; place = refl; next = refl; operand = ((pos 511), refl, record { sfits = omega arith }) }, (record { known = refl; plain = refl; shape = refl; place = refl; next = refl; operand = refl }, (record { known = refl; plain = refl; shape = refl; place = refl; next = refl; operand = refl }, (record { known = refl; plain = refl; shape = refl; place = refl; next = refl; operand = refl }, (record { known = refl; plain = refl; shape = refl; place = refl; next = refl; operand = refl }, (record { known = refl; plain = refl; shape = refl; place = refl; next = refl; operand = ((TypeRef 2), refl, omega arith) }, (record { known = refl; plain = refl; shape = refl; place = refl; next = refl; operand = ((Reference 1), refl, omega arith) }, (record { known = refl; plain = refl; shape = refl; place = refl; next = refl; operand = ((Reference 2), refl, omega arith) }, (record { known = refl; plain = refl; shape = refl; place = refl; next = refl; operand = refl }, (record { known = refl; plain = refl; shape = refl; place = refl; next = refl; operand = refl }, (record { known = refl; plain = refl; shape = refl; place = refl; next = refl; operand = refl }, (record { known = refl; plain = refl; shape = refl; place = refl; next = refl; operand = ((TypeRef 2), refl, omega arith) }, (record { known = refl; plain = refl; shape = refl; place = refl; next = refl; operand = ((Reference 1), refl, omega arith) }, (record { known = refl; plain = refl; shape = refl; place = refl; next = refl; operand = ((Reference 2), refl, omega arith) }, (record { known = refl; plain = refl; shape = refl; place = refl; next = refl; operand = refl }, (record { known = refl; plain = refl; shape = refl; place = refl; next = refl; operand = refl }, (record { known = refl; plain = refl; shape = refl; place = refl; next = refl; operand = refl }, (record { known = refl; plain = refl; shape = refl; place = refl; next = refl; operand = refl }, (record { known = refl; plain = refl; shape = refl; place = refl; next = refl; operand = refl }, (record { known = refl; plain = refl; shape = refl; place = refl; next = refl; operand = ((Reference 3), refl, omega arith) }, (record { known = refl; plain = refl; shape = refl; place = refl; next = refl; operand = refl }, (record { known = refl; plain = refl; shape = refl; place = refl; next = refl; operand = refl }, (record { known = refl; plain = refl; shape = refl; place = refl; next = refl; operand = refl }, (record { known = refl; plain = refl; shape = refl; place = refl; next = refl; operand = ((TypeRef 2), refl, omega arith) }, (record { known = refl; plain = refl; shape = refl; place = refl; next = refl; operand = ((Reference 1), refl, omega arith) }, (record { known = refl; plain = refl; shape = refl; place = refl; next = refl; operand = ((Reference 2), refl, omega arith) }, (record { known = refl; plain = refl; shape = refl; place = refl; next = refl; operand = refl }, (record { known = refl; plain = refl; shape = refl; place = refl; next = refl; operand = ((Reference 1), refl, omega arith) }, (record { known = refl; plain = refl; shape = refl; place = refl; next = refl; operand = ((Reference 2), refl, omega arith) }, (record { known = refl; plain = refl; shape = refl; place = refl; next = refl; operand = refl }, (record { known = refl; plain = refl; shape = refl; place = refl; next = refl; operand = refl }, (record { known = refl; plain = refl; shape = refl; place = refl; next = refl; operand = refl }, (record { known = refl; plain = refl; shape = refl; place = refl; next = refl; operand = refl }, (record { known = refl; plain = refl; shape = refl; place = refl; next = refl; operand = (154, refl, record { sfits = omega arith }) }, (record { known = refl; plain = refl; shape = refl; place = refl; next = refl; operand = ((Reference 1), refl, omega arith) }, (record { known = refl; plain = refl; shape = refl; place = refl; next = refl; operand = ((Reference 2), refl, omega arith) }, (record { known = refl; plain = refl; shape = refl; place = refl; next = refl; operand = (154, refl, record { sfits = omega arith }) }, (record { known = refl; plain = refl; shape = refl; place = refl; next = refl; operand = refl }, (record { known = refl; plain = refl; shape = refl; place = refl; next = refl; operand = ((TypeRef 9), refl, omega arith) }, (record { known = refl; plain = refl; shape = refl; place = refl; next = refl; operand = refl }, (record { known = refl; plain = refl; shape = refl; place = refl; next = refl; operand = (169, refl, record { sfits = omega arith }) }, (record { known = refl; plain = refl; shape = refl; place = refl; next = refl; operand = ((Reference 1), refl, omega arith) }, (record { known = refl; plain = refl; shape = refl; place = refl; next = refl; operand = ((Reference 2), refl, omega arith) }, (record { known = refl; plain = refl; shape = refl; place = refl; next = refl; operand = (169, refl, record { sfits = omega arith }) }, (record { known = refl; plain = refl; shape = refl; place = refl; next = refl; operand = refl }, (record { known = refl; plain = refl; shape = refl; place = refl; next = refl; operand = refl }, (record { known = refl; plain = refl; shape = refl; place = refl; next = refl; operand = refl }, (record { known = refl; plain = refl; shape = refl; place = refl; next = refl; operand = refl }, (record { known = refl; plain = refl; shape = refl; place = refl; next = refl; operand = refl }, (record { known = refl; plain = refl; shape = refl; place = refl; next = refl; operand = ((Reference 3), refl, omega arith) }, (record { known = refl; plain = refl; shape = refl; place = refl; next = refl; operand = (187, refl, record { sfits = omega arith }) }, (record { known = refl; plain = refl; shape = refl; place = refl; next = refl; operand = ((Reference 1), refl, omega arith) }, (record { known = refl; plain = refl; shape = refl; place = refl; next = refl; operand = ((Reference 2), refl, omega arith) }, (record { known = refl; plain = refl; shape = refl; place = refl; next = refl; operand = (187, refl, record { sfits = omega arith }) }, (record { known = refl; plain = refl; shape = refl; place = refl; next = refl; operand = refl }, (record { known = refl; plain = refl; shape = refl; place = refl; next = refl; operand = ((TypeRef 9), refl, omega arith) }, (record { known = refl; plain = refl; shape = refl; place = refl; next = refl; operand = refl }, (record { known = refl; plain = refl; shape = refl; place = refl; next = refl; operand = ((TypeRef 0), refl, omega arith) }, (record { known = refl; plain = refl; shape = refl; place = refl; next = refl; operand = refl }, (record { known = refl; plain = refl; shape = refl; place = refl; next = refl; operand = (206, refl, record { sfits = omega arith }) }, (record { known = refl; plain = refl; shape = refl; place = refl; next = refl; operand = ((Reference 1), refl, omega arith) }, (record { known = refl; plain = refl; shape = refl; place = refl; next = refl; operand = ((Reference 2), refl, omega arith) }, (record { known = refl; plain = refl; shape = refl; place = refl; next = refl; operand = (206, refl, record { sfits = omega arith }) }, (record { known = refl; plain = refl; shape = refl; place = refl; next = refl; operand = refl }, (record { known = refl; plain = refl; shape = refl; place = refl; next = refl; operand = refl }, (record { known = refl; plain = refl; shape = refl; place = refl; next = refl; operand = refl }, (record { known = refl; plain = refl; shape = refl; place = refl; next = refl; operand = (4, refl) }, (record { known = refl; plain = refl; shape = refl; place = refl; next = refl; operand = (4, refl) }, (record { known = refl; plain = refl; shape = refl; place = refl; next = refl; operand = ((Reference 4), refl, omega arith) }, (record { known = refl; plain = refl; shape = refl; place = refl; next = refl; operand = refl }, (record { known = refl; plain = refl; shape = refl; place = refl; next = refl; operand = refl }, tt)))))))))))))))))))))))))))))))))))))))))))))))))))))))))))))))))))))))))))))))))))))))))))))))))))))))))))))))) } }, tt);
      clauses = (omega arith, (omega arith, (omega arith, (omega arith, tt))));
      specs = tt;
      same = refl;
    }

methods_rethrow : Methods
methods_rethrow =
    (record { opcodes = rows (23 ∷ 22 ∷ 93 ∷ 38 ∷ 222 ∷ 38 ∷ 114 ∷ 40 ∷ 65050 ∷ 114 ∷ 40 ∷ 220 ∷ 111 ∷ 40 ∷ 27 ∷ 10 ∷ 222 ∷ 6 ∷ 42 ∷ []); has_locals = true }, record { name = (77 ∷ 97 ∷ 105 ∷ 110 ∷ []); signature = (record { has_this = false; returns = (Some (RawSpelt elem.I4)); parameters = ([]) }); is_static = true; is_virtual = false; is_newslot = false; is_abstract = false; body = Body.Code; code = (Some (record { locals = ((RawSpelt elem.I4) ∷ []); max_stack = 8; clauses = (record { kind = RawCatch (TypeRef 2); try_start = 0; try_end = 6; start = 6; end = 15 } ∷ record { kind = RawFinally; try_start = 0; try_end = 15; start = 15; end = 22 } ∷ record { kind = RawCatch (TypeRef 3); try_start = 0; try_end = 22; start = 22; end = 32 } ∷ []); lines = (line 0 23 RawNothing 1 ∷ line 1 22 RawNothing 2 ∷ line 2 93 RawNothing 3 ∷ line 3 38 RawNothing 4 ∷ line 4 222 (RawTargets ((pos 32) ∷ [])) 6 ∷ line 6 38 RawNothing 7 ∷ line 7 114 (RawText (111 ∷ 110 ∷ 101 ∷ [])) 10 ∷ line 10 40 (RawMethod (Reference 0)) 13 ∷ line 13 65050 RawNothing 15 ∷ line 15 114 (RawText (116 ∷ 119 ∷ 111 ∷ [])) 18 ∷ line 18 40 (RawMethod (Reference 0)) 21 ∷ line 21 220 RawNothing 22 ∷ line 22 111 (RawMethod (Reference 1)) 25 ∷ line 25 40 (RawMethod (Reference 0)) 28 ∷ line 28 27 RawNothing 29 ∷ line 29 10 RawNothing 30 ∷ line 30 222 (RawTargets ((pos 32) ∷ [])) 32 ∷ line 32 6 RawNothing 33 ∷ line 33 42 RawNothing 34 ∷ []) })) })
    ∷ []

rows_rethrow : Assembly
unfolding methods_rethrow
rows_rethrow =
    record {
      name = (82 ∷ 101 ∷ 116 ∷ 104 ∷ 114 ∷ 111 ∷ 119 ∷ []);
      version = (1 ∷ 0 ∷ 0 ∷ 0 ∷ []);
      entry = (Some 0);
      assemblies =
          record { name = (109 ∷ 115 ∷ 99 ∷ 111 ∷ 114 ∷ 108 ∷ 105 ∷ 98 ∷ []); version = (4 ∷ 3 ∷ 1 ∷ 0 ∷ []) }
          ∷ record { name = (77 ∷ 105 ∷ 99 ∷ 114 ∷ 111 ∷ 115 ∷ 111 ∷ 102 ∷ 116 ∷ 46 ∷ 83 ∷ 80 ∷ 79 ∷ 84 ∷ 46 ∷ 78 ∷ 97 ∷ 116 ∷ 105 ∷ 118 ∷ 101 ∷ []); version = (4 ∷ 3 ∷ 1 ∷ 0 ∷ []) }
          ∷ [];
      refs =
          record { scope = OfAssembly 0; namespace = (83 ∷ 121 ∷ 115 ∷ 116 ∷ 101 ∷ 109 ∷ []); name = (79 ∷ 98 ∷ 106 ∷ 101 ∷ 99 ∷ 116 ∷ []) }
          ∷ record { scope = OfAssembly 1; namespace = (77 ∷ 105 ∷ 99 ∷ 114 ∷ 111 ∷ 115 ∷ 111 ∷ 102 ∷ 116 ∷ 46 ∷ 83 ∷ 80 ∷ 79 ∷ 84 ∷ []); name = (68 ∷ 101 ∷ 98 ∷ 117 ∷ 103 ∷ []) }
          ∷ record { scope = OfAssembly 0; namespace = (83 ∷ 121 ∷ 115 ∷ 116 ∷ 101 ∷ 109 ∷ []); name = (69 ∷ 120 ∷ 99 ∷ 101 ∷ 112 ∷ 116 ∷ 105 ∷ 111 ∷ 110 ∷ []) }
          ∷ record { scope = OfAssembly 0; namespace = (83 ∷ 121 ∷ 115 ∷ 116 ∷ 101 ∷ 109 ∷ []); name = (68 ∷ 105 ∷ 118 ∷ 105 ∷ 100 ∷ 101 ∷ 66 ∷ 121 ∷ 90 ∷ 101 ∷ 114 ∷ 111 ∷ 69 ∷ 120 ∷ 99 ∷ 101 ∷ 112 ∷ 116 ∷ 105 ∷ 111 ∷ 110 ∷ []) }
          ∷ [];
      field_refs = [];
      method_refs =
          record { parent = (TypeRef 1); name = (80 ∷ 114 ∷ 105 ∷ 110 ∷ 116 ∷ []); signature = (record { has_this = false; returns = None; parameters = ((RawDirect (RawSpelt elem.String)) ∷ []) }) }
          ∷ record { parent = (TypeRef 0); name = (84 ∷ 111 ∷ 83 ∷ 116 ∷ 114 ∷ 105 ∷ 110 ∷ 103 ∷ []); signature = (record { has_this = true; returns = (Some (RawSpelt elem.String)); parameters = ([]) }) }
          ∷ [];
      types =
          record { namespace = ([]); name = (80 ∷ 114 ∷ 111 ∷ 103 ∷ 114 ∷ 97 ∷ 109 ∷ []); enclosing = None; extends = (Some (TypeRef 0)); interfaces = ([]); kind = TypeKind.Reference; is_interface = false; is_abstract = false; is_lazy = true; first_field = 0; field_count = 0; first_method = 0; method_count = 1 }
          ∷ [];
      fields = [];
      methods = map (λ (x : Manner × MethodRow). x.1) methods_rethrow;
      specs = [];
    }

bytes_rethrow : List ℕ
bytes_rethrow = (77 ∷ 83 ∷ 83 ∷ 112 ∷ 111 ∷ 116 ∷ 49 ∷ 0 ∷ 156 ∷ 1 ∷ 0 ∷ 0 ∷ 1 ∷ 0 ∷ 0 ∷ 0 ∷ 0 ∷ 0 ∷ 0 ∷ 0 ∷ 0 ∷ 0 ∷ 0 ∷ 0 ∷ 2 ∷ 0 ∷ 4 ∷ 0 ∷ 0 ∷ 0 ∷ 2 ∷ 0 ∷ 1 ∷ 0 ∷ 0 ∷ 0 ∷ 0 ∷ 0 ∷ 1 ∷ 0 ∷ 3 ∷ 0 ∷ 0 ∷ 0 ∷ 0 ∷ 0 ∷ 165 ∷ 0 ∷ 24 ∷ 0 ∷ 34 ∷ 0 ∷ 0 ∷ 0 ∷ 0 ∷ 0 ∷ 9 ∷ 0 ∷ 4 ∷ 0 ∷ 3 ∷ 0 ∷ 1 ∷ 0 ∷ 0 ∷ 0 ∷ 19 ∷ 0 ∷ 4 ∷ 0 ∷ 3 ∷ 0 ∷ 1 ∷ 0 ∷ 0 ∷ 0 ∷ 0 ∷ 0 ∷ 42 ∷ 0 ∷ 50 ∷ 0 ∷ 1 ∷ 0 ∷ 58 ∷ 0 ∷ 74 ∷ 0 ∷ 0 ∷ 0 ∷ 42 ∷ 0 ∷ 81 ∷ 0 ∷ 0 ∷ 0 ∷ 42 ∷ 0 ∷ 92 ∷ 0 ∷ 1 ∷ 64 ∷ 115 ∷ 0 ∷ 0 ∷ 0 ∷ 0 ∷ 64 ∷ 122 ∷ 0 ∷ 7 ∷ 0 ∷ 132 ∷ 0 ∷ 134 ∷ 0 ∷ 255 ∷ 255 ∷ 0 ∷ 64 ∷ 128 ∷ 0 ∷ 0 ∷ 0 ∷ 0 ∷ 0 ∷ 0 ∷ 0 ∷ 0 ∷ 0 ∷ 0 ∷ 0 ∷ 1 ∷ 0 ∷ 143 ∷ 0 ∷ 13 ∷ 0 ∷ 1 ∷ 0 ∷ 0 ∷ 0 ∷ 34 ∷ 0 ∷ 19 ∷ 0 ∷ 8 ∷ 0 ∷ 0 ∷ 0 ∷ 3 ∷ 0 ∷ 0 ∷ 0 ∷ 2 ∷ 64 ∷ 0 ∷ 0 ∷ 6 ∷ 0 ∷ 6 ∷ 0 ∷ 15 ∷ 0 ∷ 2 ∷ 0 ∷ 255 ∷ 255 ∷ 0 ∷ 0 ∷ 15 ∷ 0 ∷ 15 ∷ 0 ∷ 22 ∷ 0 ∷ 0 ∷ 0 ∷ 3 ∷ 64 ∷ 0 ∷ 0 ∷ 22 ∷ 0 ∷ 22 ∷ 0 ∷ 32 ∷ 0 ∷ 7 ∷ 0 ∷ 82 ∷ 101 ∷ 116 ∷ 104 ∷ 114 ∷ 111 ∷ 119 ∷ 8 ∷ 0 ∷ 109 ∷ 115 ∷ 99 ∷ 111 ∷ 114 ∷ 108 ∷ 105 ∷ 98 ∷ 21 ∷ 0 ∷ 77 ∷ 105 ∷ 99 ∷ 114 ∷ 111 ∷ 115 ∷ 111 ∷ 102 ∷ 116 ∷ 46 ∷ 83 ∷ 80 ∷ 79 ∷ 84 ∷ 46 ∷ 78 ∷ 97 ∷ 116 ∷ 105 ∷ 118 ∷ 101 ∷ 6 ∷ 0 ∷ 83 ∷ 121 ∷ 115 ∷ 116 ∷ 101 ∷ 109 ∷ 6 ∷ 0 ∷ 79 ∷ 98 ∷ 106 ∷ 101 ∷ 99 ∷ 116 ∷ 14 ∷ 0 ∷ 77 ∷ 105 ∷ 99 ∷ 114 ∷ 111 ∷ 115 ∷ 111 ∷ 102 ∷ 116 ∷ 46 ∷ 83 ∷ 80 ∷ 79 ∷ 84 ∷ 5 ∷ 0 ∷ 68 ∷ 101 ∷ 98 ∷ 117 ∷ 103 ∷ 9 ∷ 0 ∷ 69 ∷ 120 ∷ 99 ∷ 101 ∷ 112 ∷ 116 ∷ 105 ∷ 111 ∷ 110 ∷ 21 ∷ 0 ∷ 68 ∷ 105 ∷ 118 ∷ 105 ∷ 100 ∷ 101 ∷ 66 ∷ 121 ∷ 90 ∷ 101 ∷ 114 ∷ 111 ∷ 69 ∷ 120 ∷ 99 ∷ 101 ∷ 112 ∷ 116 ∷ 105 ∷ 111 ∷ 110 ∷ 5 ∷ 0 ∷ 80 ∷ 114 ∷ 105 ∷ 110 ∷ 116 ∷ 8 ∷ 0 ∷ 84 ∷ 111 ∷ 83 ∷ 116 ∷ 114 ∷ 105 ∷ 110 ∷ 103 ∷ 0 ∷ 0 ∷ 7 ∷ 0 ∷ 80 ∷ 114 ∷ 111 ∷ 103 ∷ 114 ∷ 97 ∷ 109 ∷ 4 ∷ 0 ∷ 77 ∷ 97 ∷ 105 ∷ 110 ∷ 6 ∷ 0 ∷ 111 ∷ 0 ∷ 110 ∷ 0 ∷ 101 ∷ 0 ∷ 6 ∷ 0 ∷ 116 ∷ 0 ∷ 119 ∷ 0 ∷ 111 ∷ 0 ∷ 5 ∷ 0 ∷ 0 ∷ 1 ∷ 0 ∷ 1 ∷ 14 ∷ 4 ∷ 0 ∷ 32 ∷ 0 ∷ 0 ∷ 14 ∷ 4 ∷ 0 ∷ 0 ∷ 0 ∷ 0 ∷ 8 ∷ 3 ∷ 0 ∷ 1 ∷ 0 ∷ 8 ∷ 23 ∷ 22 ∷ 93 ∷ 38 ∷ 222 ∷ 26 ∷ 38 ∷ 114 ∷ 149 ∷ 0 ∷ 40 ∷ 0 ∷ 64 ∷ 254 ∷ 26 ∷ 114 ∷ 157 ∷ 0 ∷ 40 ∷ 0 ∷ 64 ∷ 220 ∷ 111 ∷ 1 ∷ 64 ∷ 40 ∷ 0 ∷ 64 ∷ 27 ∷ 10 ∷ 222 ∷ 0 ∷ 6 ∷ 42 ∷ 0 ∷ [])

spelt_rethrow : onto (laid rows_rethrow methods_rethrow) [] ≡ bytes_rethrow
unfolding rows line shape_of row_list is_utf8 chars encode_utf8 rows_rethrow methods_rethrow bytes_rethrow body_onto
spelt_rethrow = refl

read_rethrow : on_some (view bytes_rethrow) image_rows ≡ Some rows_rethrow
unfolding rows line shape_of row_list is_utf8 chars encode_utf8 rows_rethrow methods_rethrow bytes_rethrow read_body
read_rethrow = refl

is_spelt_rethrow : IsSpelt rows_rethrow methods_rethrow
unfolding rows line shape_of row_list is_utf8 chars encode_utf8 rows_rethrow methods_rethrow
is_spelt_rethrow =
    record {
      limits = record { assemblies = omega arith; refs = omega arith; types = omega arith; methods = omega arith; specs = omega arith; datas = omega arith; signatures = omega arith; code = omega arith };
      version = refl;
      name = refl;
      entry = omega arith;
      versions = (refl, (refl, tt));
      assemblies = (refl, (refl, tt));
      refs = (record { scope = omega arith; namespace = refl; name = refl }, (record { scope = omega arith; namespace = refl; name = refl }, (record { scope = omega arith; namespace = refl; name = refl }, (record { scope = omega arith; namespace = refl; name = refl }, tt))));
      field_refs = tt;
      method_refs = (record { parent = omega arith; name = refl; signature = record { returns = tt; parameters = (record { shallow = refl; named = refl }, tt) } }, (record { parent = omega arith; name = refl; signature = record { returns = record { shallow = refl; named = refl }; parameters = tt } }, tt));
      types = (record { namespace = refl; name = refl; enclosing = tt; extends = omega arith; kind = tt; own_fields = refl; own_methods = refl }, tt);
      interfaces = tt;
      fields = tt;
      methods = (record { name = refl; signature = record { returns = record { shallow = refl; named = refl }; parameters = tt }; body = record { some = omega arith; locals = (record { shallow = refl; named = refl }, tt); nest = refl; room = refl; lines = (record { known = refl; plain = refl; shape = refl; place = refl; next = refl; operand = refl }, (record { known = refl; plain = refl; shape = refl; place = refl; next = refl; operand = refl }, (record { known = refl; plain = refl; shape = refl; place = refl; next = refl; operand = refl }, (record { known = refl; plain = refl; shape = refl; place = refl; next = refl; operand = refl }, (record { known = refl; plain = refl; shape = refl; place = refl; next = refl; operand = (32, refl, record { sfits = omega arith }) }, (record { known = refl; plain = refl; shape = refl; place = refl; next = refl; operand = refl }, (record { known = refl; plain = refl; shape = refl; place = refl; next = refl; operand = ((111 ∷ 110 ∷ 101 ∷ []), refl) }, (record { known = refl; plain = refl; shape = refl; place = refl; next = refl; operand = ((Reference 0), refl, omega arith) }, (record { known = refl; plain = refl; shape = refl; place = refl; next = refl; operand = refl }, (record { known = refl; plain = refl; shape = refl; place = refl; next = refl; operand = ((116 ∷ 119 ∷ 111 ∷ []), refl) }, (record { known = refl; plain = refl; shape = refl; place = refl; next = refl; operand = ((Reference 0), refl, omega arith) }, (record { known = refl; plain = refl; shape = refl; place = refl; next = refl; operand = refl }, (record { known = refl; plain = refl; shape = refl; place = refl; next = refl; operand = ((Reference 1), refl, omega arith) }, (record { known = refl; plain = refl; shape = refl; place = refl; next = refl; operand = ((Reference 0), refl, omega arith) }, (record { known = refl; plain = refl; shape = refl; place = refl; next = refl; operand = refl }, (record { known = refl; plain = refl; shape = refl; place = refl; next = refl; operand = refl }, (record { known = refl; plain = refl; shape = refl; place = refl; next = refl; operand = (32, refl, record { sfits = omega arith }) }, (record { known = refl; plain = refl; shape = refl; place = refl; next = refl; operand = refl }, (record { known = refl; plain = refl; shape = refl; place = refl; next = refl; operand = refl }, tt))))))))))))))))))) } }, tt);
      clauses = (omega arith, (tt, (omega arith, tt)));
      specs = tt;
      same = refl;
    }

methods_base : Methods
methods_base =
    (record { opcodes = rows (114 ∷ 128 ∷ 42 ∷ []); has_locals = false }, record { name = (46 ∷ 99 ∷ 99 ∷ 116 ∷ 111 ∷ 114 ∷ []); signature = (record { has_this = false; returns = None; parameters = ([]) }); is_static = true; is_virtual = false; is_newslot = false; is_abstract = false; body = Body.Code; code = (Some (record { locals = ([]); max_stack = 8; clauses = ([]); lines = (line 0 114 (RawText ([])) 3 ∷ line 3 128 (RawField (Own 10)) 6 ∷ line 6 42 RawNothing 7 ∷ []) })) })
    ∷ []

rows_base : Assembly
unfolding methods_base
rows_base =
    record {
      name = (109 ∷ 115 ∷ 99 ∷ 111 ∷ 114 ∷ 108 ∷ 105 ∷ 98 ∷ []);
      version = (4 ∷ 3 ∷ 1 ∷ 0 ∷ []);
      entry = None;
      assemblies = [];
      refs = [];
      field_refs = [];
      method_refs = [];
      types =
          record { namespace = (83 ∷ 121 ∷ 115 ∷ 116 ∷ 101 ∷ 109 ∷ []); name = (79 ∷ 98 ∷ 106 ∷ 101 ∷ 99 ∷ 116 ∷ []); enclosing = None; extends = None; interfaces = ([]); kind = (TypeKind.Builtin elem.Object); is_interface = false; is_abstract = false; is_lazy = true; first_field = 0; field_count = 0; first_method = 0; method_count = 0 }
          ∷ record { namespace = (83 ∷ 121 ∷ 115 ∷ 116 ∷ 101 ∷ 109 ∷ []); name = (86 ∷ 97 ∷ 108 ∷ 117 ∷ 101 ∷ 84 ∷ 121 ∷ 112 ∷ 101 ∷ []); enclosing = None; extends = (Some (TypeDef 0)); interfaces = ([]); kind = TypeKind.Reference; is_interface = false; is_abstract = true; is_lazy = true; first_field = 0; field_count = 0; first_method = 0; method_count = 0 }
          ∷ record { namespace = (83 ∷ 121 ∷ 115 ∷ 116 ∷ 101 ∷ 109 ∷ []); name = (66 ∷ 111 ∷ 111 ∷ 108 ∷ 101 ∷ 97 ∷ 110 ∷ []); enclosing = None; extends = (Some (TypeDef 1)); interfaces = ([]); kind = (TypeKind.Builtin elem.Bool); is_interface = false; is_abstract = false; is_lazy = true; first_field = 0; field_count = 1; first_method = 0; method_count = 0 }
          ∷ record { namespace = (83 ∷ 121 ∷ 115 ∷ 116 ∷ 101 ∷ 109 ∷ []); name = (67 ∷ 104 ∷ 97 ∷ 114 ∷ []); enclosing = None; extends = (Some (TypeDef 1)); interfaces = ([]); kind = (TypeKind.Builtin elem.Char); is_interface = false; is_abstract = false; is_lazy = true; first_field = 1; field_count = 1; first_method = 0; method_count = 0 }
          ∷ record { namespace = (83 ∷ 121 ∷ 115 ∷ 116 ∷ 101 ∷ 109 ∷ []); name = (83 ∷ 66 ∷ 121 ∷ 116 ∷ 101 ∷ []); enclosing = None; extends = (Some (TypeDef 1)); interfaces = ([]); kind = (TypeKind.Builtin elem.I1); is_interface = false; is_abstract = false; is_lazy = true; first_field = 2; field_count = 1; first_method = 0; method_count = 0 }
          ∷ record { namespace = (83 ∷ 121 ∷ 115 ∷ 116 ∷ 101 ∷ 109 ∷ []); name = (66 ∷ 121 ∷ 116 ∷ 101 ∷ []); enclosing = None; extends = (Some (TypeDef 1)); interfaces = ([]); kind = (TypeKind.Builtin elem.U1); is_interface = false; is_abstract = false; is_lazy = true; first_field = 3; field_count = 1; first_method = 0; method_count = 0 }
          ∷ record { namespace = (83 ∷ 121 ∷ 115 ∷ 116 ∷ 101 ∷ 109 ∷ []); name = (73 ∷ 110 ∷ 116 ∷ 49 ∷ 54 ∷ []); enclosing = None; extends = (Some (TypeDef 1)); interfaces = ([]); kind = (TypeKind.Builtin elem.I2); is_interface = false; is_abstract = false; is_lazy = true; first_field = 4; field_count = 1; first_method = 0; method_count = 0 }
          ∷ record { namespace = (83 ∷ 121 ∷ 115 ∷ 116 ∷ 101 ∷ 109 ∷ []); name = (85 ∷ 73 ∷ 110 ∷ 116 ∷ 49 ∷ 54 ∷ []); enclosing = None; extends = (Some (TypeDef 1)); interfaces = ([]); kind = (TypeKind.Builtin elem.U2); is_interface = false; is_abstract = false; is_lazy = true; first_field = 5; field_count = 1; first_method = 0; method_count = 0 }
          ∷ record { namespace = (83 ∷ 121 ∷ 115 ∷ 116 ∷ 101 ∷ 109 ∷ []); name = (73 ∷ 110 ∷ 116 ∷ 51 ∷ 50 ∷ []); enclosing = None; extends = (Some (TypeDef 1)); interfaces = ([]); kind = (TypeKind.Builtin elem.I4); is_interface = false; is_abstract = false; is_lazy = true; first_field = 6; field_count = 1; first_method = 0; method_count = 0 }
          ∷ record { namespace = (83 ∷ 121 ∷ 115 ∷ 116 ∷ 101 ∷ 109 ∷ []); name = (85 ∷ 73 ∷ 110 ∷ 116 ∷ 51 ∷ 50 ∷ []); enclosing = None; extends = (Some (TypeDef 1)); interfaces = ([]); kind = (TypeKind.Builtin elem.U4); is_interface = false; is_abstract = false; is_lazy = true; first_field = 7; field_count = 1; first_method = 0; method_count = 0 }
          ∷ record { namespace = (83 ∷ 121 ∷ 115 ∷ 116 ∷ 101 ∷ 109 ∷ []); name = (73 ∷ 110 ∷ 116 ∷ 54 ∷ 52 ∷ []); enclosing = None; extends = (Some (TypeDef 1)); interfaces = ([]); kind = (TypeKind.Builtin elem.I8); is_interface = false; is_abstract = false; is_lazy = true; first_field = 8; field_count = 1; first_method = 0; method_count = 0 }
          ∷ record { namespace = (83 ∷ 121 ∷ 115 ∷ 116 ∷ 101 ∷ 109 ∷ []); name = (85 ∷ 73 ∷ 110 ∷ 116 ∷ 54 ∷ 52 ∷ []); enclosing = None; extends = (Some (TypeDef 1)); interfaces = ([]); kind = (TypeKind.Builtin elem.U8); is_interface = false; is_abstract = false; is_lazy = true; first_field = 9; field_count = 1; first_method = 0; method_count = 0 }
          ∷ record { namespace = (83 ∷ 121 ∷ 115 ∷ 116 ∷ 101 ∷ 109 ∷ []); name = (65 ∷ 114 ∷ 114 ∷ 97 ∷ 121 ∷ []); enclosing = None; extends = (Some (TypeDef 0)); interfaces = ([]); kind = TypeKind.Reference; is_interface = false; is_abstract = true; is_lazy = true; first_field = 0; field_count = 0; first_method = 0; method_count = 0 }
          ∷ record { namespace = (83 ∷ 121 ∷ 115 ∷ 116 ∷ 101 ∷ 109 ∷ []); name = (83 ∷ 116 ∷ 114 ∷ 105 ∷ 110 ∷ 103 ∷ []); enclosing = None; extends = (Some (TypeDef 0)); interfaces = ([]); kind = (TypeKind.Builtin elem.String); is_interface = false; is_abstract = false; is_lazy = true; first_field = 10; field_count = 1; first_method = 0; method_count = 1 }
          ∷ record { namespace = (83 ∷ 121 ∷ 115 ∷ 116 ∷ 101 ∷ 109 ∷ []); name = (69 ∷ 120 ∷ 99 ∷ 101 ∷ 112 ∷ 116 ∷ 105 ∷ 111 ∷ 110 ∷ []); enclosing = None; extends = (Some (TypeDef 0)); interfaces = ([]); kind = TypeKind.Reference; is_interface = false; is_abstract = false; is_lazy = true; first_field = 11; field_count = 2; first_method = 0; method_count = 0 }
          ∷ record { namespace = (83 ∷ 121 ∷ 115 ∷ 116 ∷ 101 ∷ 109 ∷ []); name = (83 ∷ 121 ∷ 115 ∷ 116 ∷ 101 ∷ 109 ∷ 69 ∷ 120 ∷ 99 ∷ 101 ∷ 112 ∷ 116 ∷ 105 ∷ 111 ∷ 110 ∷ []); enclosing = None; extends = (Some (TypeDef 14)); interfaces = ([]); kind = TypeKind.Reference; is_interface = false; is_abstract = false; is_lazy = true; first_field = 0; field_count = 0; first_method = 0; method_count = 0 }
          ∷ record { namespace = (83 ∷ 121 ∷ 115 ∷ 116 ∷ 101 ∷ 109 ∷ []); name = (65 ∷ 114 ∷ 105 ∷ 116 ∷ 104 ∷ 109 ∷ 101 ∷ 116 ∷ 105 ∷ 99 ∷ 69 ∷ 120 ∷ 99 ∷ 101 ∷ 112 ∷ 116 ∷ 105 ∷ 111 ∷ 110 ∷ []); enclosing = None; extends = (Some (TypeDef 15)); interfaces = ([]); kind = TypeKind.Reference; is_interface = false; is_abstract = false; is_lazy = true; first_field = 0; field_count = 0; first_method = 0; method_count = 0 }
          ∷ record { namespace = (83 ∷ 121 ∷ 115 ∷ 116 ∷ 101 ∷ 109 ∷ []); name = (68 ∷ 105 ∷ 118 ∷ 105 ∷ 100 ∷ 101 ∷ 66 ∷ 121 ∷ 90 ∷ 101 ∷ 114 ∷ 111 ∷ 69 ∷ 120 ∷ 99 ∷ 101 ∷ 112 ∷ 116 ∷ 105 ∷ 111 ∷ 110 ∷ []); enclosing = None; extends = (Some (TypeDef 16)); interfaces = ([]); kind = TypeKind.Reference; is_interface = false; is_abstract = false; is_lazy = true; first_field = 0; field_count = 0; first_method = 0; method_count = 0 }
          ∷ record { namespace = (83 ∷ 121 ∷ 115 ∷ 116 ∷ 101 ∷ 109 ∷ []); name = (79 ∷ 118 ∷ 101 ∷ 114 ∷ 102 ∷ 108 ∷ 111 ∷ 119 ∷ 69 ∷ 120 ∷ 99 ∷ 101 ∷ 112 ∷ 116 ∷ 105 ∷ 111 ∷ 110 ∷ []); enclosing = None; extends = (Some (TypeDef 16)); interfaces = ([]); kind = TypeKind.Reference; is_interface = false; is_abstract = false; is_lazy = true; first_field = 0; field_count = 0; first_method = 0; method_count = 0 }
          ∷ record { namespace = (83 ∷ 121 ∷ 115 ∷ 116 ∷ 101 ∷ 109 ∷ []); name = (73 ∷ 110 ∷ 100 ∷ 101 ∷ 120 ∷ 79 ∷ 117 ∷ 116 ∷ 79 ∷ 102 ∷ 82 ∷ 97 ∷ 110 ∷ 103 ∷ 101 ∷ 69 ∷ 120 ∷ 99 ∷ 101 ∷ 112 ∷ 116 ∷ 105 ∷ 111 ∷ 110 ∷ []); enclosing = None; extends = (Some (TypeDef 15)); interfaces = ([]); kind = TypeKind.Reference; is_interface = false; is_abstract = false; is_lazy = true; first_field = 0; field_count = 0; first_method = 0; method_count = 0 }
          ∷ record { namespace = (83 ∷ 121 ∷ 115 ∷ 116 ∷ 101 ∷ 109 ∷ []); name = (73 ∷ 110 ∷ 118 ∷ 97 ∷ 108 ∷ 105 ∷ 100 ∷ 67 ∷ 97 ∷ 115 ∷ 116 ∷ 69 ∷ 120 ∷ 99 ∷ 101 ∷ 112 ∷ 116 ∷ 105 ∷ 111 ∷ 110 ∷ []); enclosing = None; extends = (Some (TypeDef 15)); interfaces = ([]); kind = TypeKind.Reference; is_interface = false; is_abstract = false; is_lazy = true; first_field = 0; field_count = 0; first_method = 0; method_count = 0 }
          ∷ record { namespace = (83 ∷ 121 ∷ 115 ∷ 116 ∷ 101 ∷ 109 ∷ []); name = (78 ∷ 117 ∷ 108 ∷ 108 ∷ 82 ∷ 101 ∷ 102 ∷ 101 ∷ 114 ∷ 101 ∷ 110 ∷ 99 ∷ 101 ∷ 69 ∷ 120 ∷ 99 ∷ 101 ∷ 112 ∷ 116 ∷ 105 ∷ 111 ∷ 110 ∷ []); enclosing = None; extends = (Some (TypeDef 15)); interfaces = ([]); kind = TypeKind.Reference; is_interface = false; is_abstract = false; is_lazy = true; first_field = 0; field_count = 0; first_method = 0; method_count = 0 }
          ∷ record { namespace = (83 ∷ 121 ∷ 115 ∷ 116 ∷ 101 ∷ 109 ∷ []); name = (65 ∷ 114 ∷ 114 ∷ 97 ∷ 121 ∷ 84 ∷ 121 ∷ 112 ∷ 101 ∷ 77 ∷ 105 ∷ 115 ∷ 109 ∷ 97 ∷ 116 ∷ 99 ∷ 104 ∷ 69 ∷ 120 ∷ 99 ∷ 101 ∷ 112 ∷ 116 ∷ 105 ∷ 111 ∷ 110 ∷ []); enclosing = None; extends = (Some (TypeDef 15)); interfaces = ([]); kind = TypeKind.Reference; is_interface = false; is_abstract = false; is_lazy = true; first_field = 0; field_count = 0; first_method = 0; method_count = 0 }
          ∷ [];
      fields =
          record { name = (109 ∷ 95 ∷ 118 ∷ 97 ∷ 108 ∷ 117 ∷ 101 ∷ []); signature = (RawSpelt elem.Bool); kind = FieldKind.InstanceField }
          ∷ record { name = (109 ∷ 95 ∷ 118 ∷ 97 ∷ 108 ∷ 117 ∷ 101 ∷ []); signature = (RawSpelt elem.Char); kind = FieldKind.InstanceField }
          ∷ record { name = (109 ∷ 95 ∷ 118 ∷ 97 ∷ 108 ∷ 117 ∷ 101 ∷ []); signature = (RawSpelt elem.I1); kind = FieldKind.InstanceField }
          ∷ record { name = (109 ∷ 95 ∷ 118 ∷ 97 ∷ 108 ∷ 117 ∷ 101 ∷ []); signature = (RawSpelt elem.U1); kind = FieldKind.InstanceField }
          ∷ record { name = (109 ∷ 95 ∷ 118 ∷ 97 ∷ 108 ∷ 117 ∷ 101 ∷ []); signature = (RawSpelt elem.I2); kind = FieldKind.InstanceField }
          ∷ record { name = (109 ∷ 95 ∷ 118 ∷ 97 ∷ 108 ∷ 117 ∷ 101 ∷ []); signature = (RawSpelt elem.U2); kind = FieldKind.InstanceField }
          ∷ record { name = (109 ∷ 95 ∷ 118 ∷ 97 ∷ 108 ∷ 117 ∷ 101 ∷ []); signature = (RawSpelt elem.I4); kind = FieldKind.InstanceField }
          ∷ record { name = (109 ∷ 95 ∷ 118 ∷ 97 ∷ 108 ∷ 117 ∷ 101 ∷ []); signature = (RawSpelt elem.U4); kind = FieldKind.InstanceField }
          ∷ record { name = (109 ∷ 95 ∷ 118 ∷ 97 ∷ 108 ∷ 117 ∷ 101 ∷ []); signature = (RawSpelt elem.I8); kind = FieldKind.InstanceField }
          ∷ record { name = (109 ∷ 95 ∷ 118 ∷ 97 ∷ 108 ∷ 117 ∷ 101 ∷ []); signature = (RawSpelt elem.U8); kind = FieldKind.InstanceField }
          ∷ record { name = (69 ∷ 109 ∷ 112 ∷ 116 ∷ 121 ∷ []); signature = (RawSpelt elem.String); kind = FieldKind.StaticField }
          ∷ record { name = (109 ∷ 101 ∷ 115 ∷ 115 ∷ 97 ∷ 103 ∷ 101 ∷ []); signature = (RawSpelt elem.String); kind = FieldKind.InstanceField }
          ∷ record { name = (105 ∷ 110 ∷ 110 ∷ 101 ∷ 114 ∷ []); signature = (RawClass (TypeDef 14)); kind = FieldKind.InstanceField }
          ∷ [];
      methods = map (λ (x : Manner × MethodRow). x.1) methods_base;
      specs = [];
    }

bytes_base : List ℕ
bytes_base = (77 ∷ 83 ∷ 83 ∷ 112 ∷ 111 ∷ 116 ∷ 49 ∷ 0 ∷ 72 ∷ 4 ∷ 0 ∷ 0 ∷ 4 ∷ 0 ∷ 3 ∷ 0 ∷ 1 ∷ 0 ∷ 0 ∷ 0 ∷ 0 ∷ 0 ∷ 255 ∷ 255 ∷ 0 ∷ 0 ∷ 0 ∷ 0 ∷ 0 ∷ 0 ∷ 0 ∷ 0 ∷ 23 ∷ 0 ∷ 0 ∷ 0 ∷ 13 ∷ 0 ∷ 1 ∷ 0 ∷ 0 ∷ 0 ∷ 0 ∷ 0 ∷ 0 ∷ 0 ∷ 102 ∷ 1 ∷ 44 ∷ 0 ∷ 7 ∷ 0 ∷ 0 ∷ 0 ∷ 0 ∷ 0 ∷ 10 ∷ 0 ∷ 18 ∷ 0 ∷ 255 ∷ 255 ∷ 255 ∷ 255 ∷ 156 ∷ 0 ∷ 0 ∷ 0 ∷ 0 ∷ 0 ∷ 0 ∷ 0 ∷ 0 ∷ 0 ∷ 0 ∷ 0 ∷ 0 ∷ 0 ∷ 10 ∷ 0 ∷ 26 ∷ 0 ∷ 255 ∷ 255 ∷ 0 ∷ 0 ∷ 192 ∷ 0 ∷ 0 ∷ 0 ∷ 0 ∷ 0 ∷ 0 ∷ 0 ∷ 0 ∷ 0 ∷ 0 ∷ 0 ∷ 0 ∷ 0 ∷ 10 ∷ 0 ∷ 37 ∷ 0 ∷ 255 ∷ 255 ∷ 1 ∷ 0 ∷ 130 ∷ 2 ∷ 0 ∷ 0 ∷ 0 ∷ 0 ∷ 0 ∷ 0 ∷ 1 ∷ 0 ∷ 0 ∷ 0 ∷ 0 ∷ 0 ∷ 10 ∷ 0 ∷ 46 ∷ 0 ∷ 255 ∷ 255 ∷ 1 ∷ 0 ∷ 131 ∷ 2 ∷ 0 ∷ 0 ∷ 0 ∷ 0 ∷ 1 ∷ 0 ∷ 1 ∷ 0 ∷ 0 ∷ 0 ∷ 0 ∷ 0 ∷ 10 ∷ 0 ∷ 52 ∷ 0 ∷ 255 ∷ 255 ∷ 1 ∷ 0 ∷ 132 ∷ 2 ∷ 0 ∷ 0 ∷ 0 ∷ 0 ∷ 2 ∷ 0 ∷ 1 ∷ 0 ∷ 0 ∷ 0 ∷ 0 ∷ 0 ∷ 10 ∷ 0 ∷ 59 ∷ 0 ∷ 255 ∷ 255 ∷ 1 ∷ 0 ∷ 133 ∷ 2 ∷ 0 ∷ 0 ∷ 0 ∷ 0 ∷ 3 ∷ 0 ∷ 1 ∷ 0 ∷ 0 ∷ 0 ∷ 0 ∷ 0 ∷ 10 ∷ 0 ∷ 65 ∷ 0 ∷ 255 ∷ 255 ∷ 1 ∷ 0 ∷ 134 ∷ 2 ∷ 0 ∷ 0 ∷ 0 ∷ 0 ∷ 4 ∷ 0 ∷ 1 ∷ 0 ∷ 0 ∷ 0 ∷ 0 ∷ 0 ∷ 10 ∷ 0 ∷ 72 ∷ 0 ∷ 255 ∷ 255 ∷ 1 ∷ 0 ∷ 135 ∷ 2 ∷ 0 ∷ 0 ∷ 0 ∷ 0 ∷ 5 ∷ 0 ∷ 1 ∷ 0 ∷ 0 ∷ 0 ∷ 0 ∷ 0 ∷ 10 ∷ 0 ∷ 80 ∷ 0 ∷ 255 ∷ 255 ∷ 1 ∷ 0 ∷ 136 ∷ 2 ∷ 0 ∷ 0 ∷ 0 ∷ 0 ∷ 6 ∷ 0 ∷ 1 ∷ 0 ∷ 0 ∷ 0 ∷ 0 ∷ 0 ∷ 10 ∷ 0 ∷ 87 ∷ 0 ∷ 255 ∷ 255 ∷ 1 ∷ 0 ∷ 137 ∷ 2 ∷ 0 ∷ 0 ∷ 0 ∷ 0 ∷ 7 ∷ 0 ∷ 1 ∷ 0 ∷ 0 ∷ 0 ∷ 0 ∷ 0 ∷ 10 ∷ 0 ∷ 95 ∷ 0 ∷ 255 ∷ 255 ∷ 1 ∷ 0 ∷ 138 ∷ 2 ∷ 0 ∷ 0 ∷ 0 ∷ 0 ∷ 8 ∷ 0 ∷ 1 ∷ 0 ∷ 0 ∷ 0 ∷ 0 ∷ 0 ∷ 10 ∷ 0 ∷ 102 ∷ 0 ∷ 255 ∷ 255 ∷ 1 ∷ 0 ∷ 139 ∷ 2 ∷ 0 ∷ 0 ∷ 0 ∷ 0 ∷ 9 ∷ 0 ∷ 1 ∷ 0 ∷ 0 ∷ 0 ∷ 0 ∷ 0 ∷ 10 ∷ 0 ∷ 110 ∷ 0 ∷ 255 ∷ 255 ∷ 0 ∷ 0 ∷ 192 ∷ 0 ∷ 0 ∷ 0 ∷ 0 ∷ 0 ∷ 0 ∷ 0 ∷ 0 ∷ 0 ∷ 0 ∷ 0 ∷ 0 ∷ 0 ∷ 10 ∷ 0 ∷ 117 ∷ 0 ∷ 255 ∷ 255 ∷ 0 ∷ 0 ∷ 142 ∷ 0 ∷ 0 ∷ 0 ∷ 0 ∷ 0 ∷ 10 ∷ 0 ∷ 1 ∷ 0 ∷ 0 ∷ 0 ∷ 1 ∷ 0 ∷ 10 ∷ 0 ∷ 125 ∷ 0 ∷ 255 ∷ 255 ∷ 0 ∷ 0 ∷ 128 ∷ 0 ∷ 0 ∷ 0 ∷ 0 ∷ 0 ∷ 11 ∷ 0 ∷ 2 ∷ 0 ∷ 0 ∷ 0 ∷ 0 ∷ 0 ∷ 10 ∷ 0 ∷ 136 ∷ 0 ∷ 255 ∷ 255 ∷ 14 ∷ 0 ∷ 128 ∷ 0 ∷ 0 ∷ 0 ∷ 0 ∷ 0 ∷ 0 ∷ 0 ∷ 0 ∷ 0 ∷ 0 ∷ 0 ∷ 0 ∷ 0 ∷ 10 ∷ 0 ∷ 153 ∷ 0 ∷ 255 ∷ 255 ∷ 15 ∷ 0 ∷ 128 ∷ 0 ∷ 0 ∷ 0 ∷ 0 ∷ 0 ∷ 0 ∷ 0 ∷ 0 ∷ 0 ∷ 0 ∷ 0 ∷ 0 ∷ 0 ∷ 10 ∷ 0 ∷ 174 ∷ 0 ∷ 255 ∷ 255 ∷ 16 ∷ 0 ∷ 128 ∷ 0 ∷ 0 ∷ 0 ∷ 0 ∷ 0 ∷ 0 ∷ 0 ∷ 0 ∷ 0 ∷ 0 ∷ 0 ∷ 0 ∷ 0 ∷ 10 ∷ 0 ∷ 197 ∷ 0 ∷ 255 ∷ 255 ∷ 16 ∷ 0 ∷ 128 ∷ 0 ∷ 0 ∷ 0 ∷ 0 ∷ 0 ∷ 0 ∷ 0 ∷ 0 ∷ 0 ∷ 0 ∷ 0 ∷ 0 ∷ 0 ∷ 10 ∷ 0 ∷ 216 ∷ 0 ∷ 255 ∷ 255 ∷ 15 ∷ 0 ∷ 128 ∷ 0 ∷ 0 ∷ 0 ∷ 0 ∷ 0 ∷ 0 ∷ 0 ∷ 0 ∷ 0 ∷ 0 ∷ 0 ∷ 0 ∷ 0 ∷ 10 ∷ 0 ∷ 242 ∷ 0 ∷ 255 ∷ 255 ∷ 15 ∷ 0 ∷ 128 ∷ 0 ∷ 0 ∷ 0 ∷ 0 ∷ 0 ∷ 0 ∷ 0 ∷ 0 ∷ 0 ∷ 0 ∷ 0 ∷ 0 ∷ 0 ∷ 10 ∷ 0 ∷ 8 ∷ 1 ∷ 255 ∷ 255 ∷ 15 ∷ 0 ∷ 128 ∷ 0 ∷ 0 ∷ 0 ∷ 0 ∷ 0 ∷ 0 ∷ 0 ∷ 0 ∷ 0 ∷ 0 ∷ 0 ∷ 0 ∷ 0 ∷ 10 ∷ 0 ∷ 32 ∷ 1 ∷ 255 ∷ 255 ∷ 15 ∷ 0 ∷ 128 ∷ 0 ∷ 0 ∷ 0 ∷ 0 ∷ 0 ∷ 0 ∷ 0 ∷ 0 ∷ 0 ∷ 0 ∷ 0 ∷ 0 ∷ 0 ∷ 60 ∷ 1 ∷ 0 ∷ 0 ∷ 0 ∷ 0 ∷ 255 ∷ 255 ∷ 60 ∷ 1 ∷ 3 ∷ 0 ∷ 0 ∷ 0 ∷ 255 ∷ 255 ∷ 60 ∷ 1 ∷ 6 ∷ 0 ∷ 0 ∷ 0 ∷ 255 ∷ 255 ∷ 60 ∷ 1 ∷ 9 ∷ 0 ∷ 0 ∷ 0 ∷ 255 ∷ 255 ∷ 60 ∷ 1 ∷ 12 ∷ 0 ∷ 0 ∷ 0 ∷ 255 ∷ 255 ∷ 60 ∷ 1 ∷ 15 ∷ 0 ∷ 0 ∷ 0 ∷ 255 ∷ 255 ∷ 60 ∷ 1 ∷ 18 ∷ 0 ∷ 0 ∷ 0 ∷ 255 ∷ 255 ∷ 60 ∷ 1 ∷ 21 ∷ 0 ∷ 0 ∷ 0 ∷ 255 ∷ 255 ∷ 60 ∷ 1 ∷ 24 ∷ 0 ∷ 0 ∷ 0 ∷ 255 ∷ 255 ∷ 60 ∷ 1 ∷ 27 ∷ 0 ∷ 0 ∷ 0 ∷ 255 ∷ 255 ∷ 69 ∷ 1 ∷ 30 ∷ 0 ∷ 1 ∷ 0 ∷ 255 ∷ 255 ∷ 76 ∷ 1 ∷ 30 ∷ 0 ∷ 0 ∷ 0 ∷ 255 ∷ 255 ∷ 85 ∷ 1 ∷ 33 ∷ 0 ∷ 0 ∷ 0 ∷ 255 ∷ 255 ∷ 92 ∷ 1 ∷ 38 ∷ 0 ∷ 1 ∷ 0 ∷ 0 ∷ 0 ∷ 7 ∷ 0 ∷ 255 ∷ 255 ∷ 8 ∷ 0 ∷ 0 ∷ 0 ∷ 0 ∷ 0 ∷ 8 ∷ 0 ∷ 109 ∷ 115 ∷ 99 ∷ 111 ∷ 114 ∷ 108 ∷ 105 ∷ 98 ∷ 6 ∷ 0 ∷ 83 ∷ 121 ∷ 115 ∷ 116 ∷ 101 ∷ 109 ∷ 6 ∷ 0 ∷ 79 ∷ 98 ∷ 106 ∷ 101 ∷ 99 ∷ 116 ∷ 9 ∷ 0 ∷ 86 ∷ 97 ∷ 108 ∷ 117 ∷ 101 ∷ 84 ∷ 121 ∷ 112 ∷ 101 ∷ 7 ∷ 0 ∷ 66 ∷ 111 ∷ 111 ∷ 108 ∷ 101 ∷ 97 ∷ 110 ∷ 4 ∷ 0 ∷ 67 ∷ 104 ∷ 97 ∷ 114 ∷ 5 ∷ 0 ∷ 83 ∷ 66 ∷ 121 ∷ 116 ∷ 101 ∷ 4 ∷ 0 ∷ 66 ∷ 121 ∷ 116 ∷ 101 ∷ 5 ∷ 0 ∷ 73 ∷ 110 ∷ 116 ∷ 49 ∷ 54 ∷ 6 ∷ 0 ∷ 85 ∷ 73 ∷ 110 ∷ 116 ∷ 49 ∷ 54 ∷ 5 ∷ 0 ∷ 73 ∷ 110 ∷ 116 ∷ 51 ∷ 50 ∷ 6 ∷ 0 ∷ 85 ∷ 73 ∷ 110 ∷ 116 ∷ 51 ∷ 50 ∷ 5 ∷ 0 ∷ 73 ∷ 110 ∷ 116 ∷ 54 ∷ 52 ∷ 6 ∷ 0 ∷ 85 ∷ 73 ∷ 110 ∷ 116 ∷ 54 ∷ 52 ∷ 5 ∷ 0 ∷ 65 ∷ 114 ∷ 114 ∷ 97 ∷ 121 ∷ 6 ∷ 0 ∷ 83 ∷ 116 ∷ 114 ∷ 105 ∷ 110 ∷ 103 ∷ 9 ∷ 0 ∷ 69 ∷ 120 ∷ 99 ∷ 101 ∷ 112 ∷ 116 ∷ 105 ∷ 111 ∷ 110 ∷ 15 ∷ 0 ∷ 83 ∷ 121 ∷ 115 ∷ 116 ∷ 101 ∷ 109 ∷ 69 ∷ 120 ∷ 99 ∷ 101 ∷ 112 ∷ 116 ∷ 105 ∷ 111 ∷ 110 ∷ 19 ∷ 0 ∷ 65 ∷ 114 ∷ 105 ∷ 116 ∷ 104 ∷ 109 ∷ 101 ∷ 116 ∷ 105 ∷ 99 ∷ 69 ∷ 120 ∷ 99 ∷ 101 ∷ 112 ∷ 116 ∷ 105 ∷ 111 ∷ 110 ∷ 21 ∷ 0 ∷ 68 ∷ 105 ∷ 118 ∷ 105 ∷ 100 ∷ 101 ∷ 66 ∷ 121 ∷ 90 ∷ 101 ∷ 114 ∷ 111 ∷ 69 ∷ 120 ∷ 99 ∷ 101 ∷ 112 ∷ 116 ∷ 105 ∷ 111 ∷ 110 ∷ 17 ∷ 0 ∷ 79 ∷ 118 ∷ 101 ∷ 114 ∷ 102 ∷ 108 ∷ 111 ∷ 119 ∷ 69 ∷ 120 ∷ 99 ∷ 101 ∷ 112 ∷ 116 ∷ 105 ∷ 111 ∷ 110 ∷ 24 ∷ 0 ∷ 73 ∷ 110 ∷ 100 ∷ 101 ∷ 120 ∷ 79 ∷ 117 ∷ 116 ∷ 79 ∷ 102 ∷ 82 ∷ 97 ∷ 110 ∷ 103 ∷ 101 ∷ 69 ∷ 120 ∷ 99 ∷ 101 ∷ 112 ∷ 116 ∷ 105 ∷ 111 ∷ 110 ∷ 20 ∷ 0 ∷ 73 ∷ 110 ∷ 118 ∷ 97 ∷ 108 ∷ 105 ∷ 100 ∷ 67 ∷ 97 ∷ 115 ∷ 116 ∷ 69 ∷ 120 ∷ 99 ∷ 101 ∷ 112 ∷ 116 ∷ 105 ∷ 111 ∷ 110 ∷ 22 ∷ 0 ∷ 78 ∷ 117 ∷ 108 ∷ 108 ∷ 82 ∷ 101 ∷ 102 ∷ 101 ∷ 114 ∷ 101 ∷ 110 ∷ 99 ∷ 101 ∷ 69 ∷ 120 ∷ 99 ∷ 101 ∷ 112 ∷ 116 ∷ 105 ∷ 111 ∷ 110 ∷ 26 ∷ 0 ∷ 65 ∷ 114 ∷ 114 ∷ 97 ∷ 121 ∷ 84 ∷ 121 ∷ 112 ∷ 101 ∷ 77 ∷ 105 ∷ 115 ∷ 109 ∷ 97 ∷ 116 ∷ 99 ∷ 104 ∷ 69 ∷ 120 ∷ 99 ∷ 101 ∷ 112 ∷ 116 ∷ 105 ∷ 111 ∷ 110 ∷ 7 ∷ 0 ∷ 109 ∷ 95 ∷ 118 ∷ 97 ∷ 108 ∷ 117 ∷ 101 ∷ 5 ∷ 0 ∷ 69 ∷ 109 ∷ 112 ∷ 116 ∷ 121 ∷ 7 ∷ 0 ∷ 109 ∷ 101 ∷ 115 ∷ 115 ∷ 97 ∷ 103 ∷ 101 ∷ 5 ∷ 0 ∷ 105 ∷ 110 ∷ 110 ∷ 101 ∷ 114 ∷ 6 ∷ 0 ∷ 46 ∷ 99 ∷ 99 ∷ 116 ∷ 111 ∷ 114 ∷ 0 ∷ 0 ∷ 1 ∷ 0 ∷ 2 ∷ 1 ∷ 0 ∷ 3 ∷ 1 ∷ 0 ∷ 4 ∷ 1 ∷ 0 ∷ 5 ∷ 1 ∷ 0 ∷ 6 ∷ 1 ∷ 0 ∷ 7 ∷ 1 ∷ 0 ∷ 8 ∷ 1 ∷ 0 ∷ 9 ∷ 1 ∷ 0 ∷ 10 ∷ 1 ∷ 0 ∷ 11 ∷ 1 ∷ 0 ∷ 14 ∷ 3 ∷ 0 ∷ 18 ∷ 14 ∷ 0 ∷ 4 ∷ 0 ∷ 0 ∷ 0 ∷ 0 ∷ 1 ∷ 114 ∷ 100 ∷ 1 ∷ 128 ∷ 10 ∷ 0 ∷ 42 ∷ 0 ∷ 0 ∷ 0 ∷ [])

spelt_base : onto (laid rows_base methods_base) [] ≡ bytes_base
unfolding rows line shape_of row_list is_utf8 chars encode_utf8 rows_base methods_base bytes_base body_onto
spelt_base = refl

read_base : on_some (view bytes_base) image_rows ≡ Some rows_base
unfolding rows line shape_of row_list is_utf8 chars encode_utf8 rows_base methods_base bytes_base read_body
read_base = refl

is_spelt_base : IsSpelt rows_base methods_base
unfolding rows line shape_of row_list is_utf8 chars encode_utf8 rows_base methods_base
is_spelt_base =
    record {
      limits = record { assemblies = omega arith; refs = omega arith; types = omega arith; methods = omega arith; specs = omega arith; datas = omega arith; signatures = omega arith; code = omega arith };
      version = refl;
      name = refl;
      entry = tt;
      versions = tt;
      assemblies = tt;
      refs = tt;
      field_refs = tt;
      method_refs = tt;
      types = (record { namespace = refl; name = refl; enclosing = tt; extends = tt; kind = refl; own_fields = refl; own_methods = refl }, (record { namespace = refl; name = refl; enclosing = tt; extends = omega arith; kind = tt; own_fields = refl; own_methods = refl }, (record { namespace = refl; name = refl; enclosing = tt; extends = omega arith; kind = refl; own_fields = refl; own_methods = refl }, (record { namespace = refl; name = refl; enclosing = tt; extends = omega arith; kind = refl; own_fields = refl; own_methods = refl }, (record { namespace = refl; name = refl; enclosing = tt; extends = omega arith; kind = refl; own_fields = refl; own_methods = refl }, (record { namespace = refl; name = refl; enclosing = tt; extends = omega arith; kind = refl; own_fields = refl; own_methods = refl }, (record { namespace = refl; name = refl; enclosing = tt; extends = omega arith; kind = refl; own_fields = refl; own_methods = refl }, (record { namespace = refl; name = refl; enclosing = tt; extends = omega arith; kind = refl; own_fields = refl; own_methods = refl }, (record { namespace = refl; name = refl; enclosing = tt; extends = omega arith; kind = refl; own_fields = refl; own_methods = refl }, (record { namespace = refl; name = refl; enclosing = tt; extends = omega arith; kind = refl; own_fields = refl; own_methods = refl }, (record { namespace = refl; name = refl; enclosing = tt; extends = omega arith; kind = refl; own_fields = refl; own_methods = refl }, (record { namespace = refl; name = refl; enclosing = tt; extends = omega arith; kind = refl; own_fields = refl; own_methods = refl }, (record { namespace = refl; name = refl; enclosing = tt; extends = omega arith; kind = tt; own_fields = refl; own_methods = refl }, (record { namespace = refl; name = refl; enclosing = tt; extends = omega arith; kind = refl; own_fields = refl; own_methods = refl }, (record { namespace = refl; name = refl; enclosing = tt; extends = omega arith; kind = tt; own_fields = refl; own_methods = refl }, (record { namespace = refl; name = refl; enclosing = tt; extends = omega arith; kind = tt; own_fields = refl; own_methods = refl }, (record { namespace = refl; name = refl; enclosing = tt; extends = omega arith; kind = tt; own_fields = refl; own_methods = refl }, (record { namespace = refl; name = refl; enclosing = tt; extends = omega arith; kind = tt; own_fields = refl; own_methods = refl }, (record { namespace = refl; name = refl; enclosing = tt; extends = omega arith; kind = tt; own_fields = refl; own_methods = refl }, (record { namespace = refl; name = refl; enclosing = tt; extends = omega arith; kind = tt; own_fields = refl; own_methods = refl }, (record { namespace = refl; name = refl; enclosing = tt; extends = omega arith; kind = tt; own_fields = refl; own_methods = refl }, (record { namespace = refl; name = refl; enclosing = tt; extends = omega arith; kind = tt; own_fields = refl; own_methods = refl }, (record { namespace = refl; name = refl; enclosing = tt; extends = omega arith; kind = tt; own_fields = refl; own_methods = refl }, tt)))))))))))))))))))))));
      interfaces = tt;
      fields = (record { name = refl; signature = record { shallow = refl; named = refl }; kind = tt }, (record { name = refl; signature = record { shallow = refl; named = refl }; kind = tt }, (record { name = refl; signature = record { shallow = refl; named = refl }; kind = tt }, (record { name = refl; signature = record { shallow = refl; named = refl }; kind = tt }, (record { name = refl; signature = record { shallow = refl; named = refl }; kind = tt }, (record { name = refl; signature = record { shallow = refl; named = refl }; kind = tt }, (record { name = refl; signature = record { shallow = refl; named = refl }; kind = tt }, (record { name = refl; signature = record { shallow = refl; named = refl }; kind = tt }, (record { name = refl; signature = record { shallow = refl; named = refl }; kind = tt }, (record { name = refl; signature = record { shallow = refl; named = refl }; kind = tt }, (record { name = refl; signature = record { shallow = refl; named = refl }; kind = tt }, (record { name = refl; signature = record { shallow = refl; named = refl }; kind = tt }, (record { name = refl; signature = record { shallow = refl; named = omega arith }; kind = tt }, tt)))))))))))));
      methods = (record { name = refl; signature = record { returns = tt; parameters = tt }; body = record { some = omega arith; locals = refl; nest = refl; room = refl; lines = (record { known = refl; plain = refl; shape = refl; place = refl; next = refl; operand = (([]), refl) }, (record { known = refl; plain = refl; shape = refl; place = refl; next = refl; operand = ((Own 10), refl, omega arith) }, (record { known = refl; plain = refl; shape = refl; place = refl; next = refl; operand = refl }, tt))) } }, tt);
      clauses = tt;
      specs = tt;
      same = refl;
    }
