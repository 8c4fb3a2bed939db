-- Signatures of small tokens and counts have bytes, table by table of the parts.
use Rattle.std.proofs.Common.{ℕ, ◌+◌, Bool, true, false, List, [], ◌∷◌, length, Option, Some, None}
use Rattle.machine.specs.Program.{Body, native_number}
use Rattle.assemblies.specs.Chosen.{first_of}
use Rattle.assemblies.specs.Closed.{Each}
use Rattle.assemblies.specs.Rows.{TypeToken, RawClause, RawCode, AssemblyRow, TypeRefRow, FieldRefRow, MethodRefRow, TypeRow, FieldRow, MethodRow, Assembly}
use Rattle.kept_closure.specs.Named.{InOption}
use Rattle.image_form.specs.Signatures.{type_word}
use Rattle.image_form.specs.Form.{or_none, type_flags, Manner, clauses_in, data_of}
use Rattle.image_form.specs.Whole.{Methods, interfaces_of, clauses_of, datas_of}
use Rattle.msspot_write.specs.declared.parts.Column.TheVariants.{Number}
use Rattle.msspot_write.specs.declared.parts.PartRow.{PartRow}
use Rattle.msspot_write.specs.Spelt.{numbers, assembly_part, ref_part, field_ref_part, method_ref_part, type_parts, interface_part, clause_numbers, field_numbers, field_parts, locals_column, body_columns, method_parts, clause_part, spec_part, data_part, parts_for}
use Rattle.fitting_parts.specs.Small.{IsSmall, RawIsSmall, SignatureIsSmall}
use Rattle.fitting_parts.proofs.ByteLaws.{raw_bytes, signature_bytes, locals_bytes}
use Rattle.fitting_parts.proofs.TokenLaws.{each_to}
use Rattle.fitting_files.proofs.FileLaws.{made}
use Rattle.kept_image.specs.Kept.{SignatureFits, SignaturesFit}

abbrev RowFits : PartRow → Type 0
RowFits r = Each SignatureFits r.columns

pub record LocalsSmall (c : RawCode) : Type 0 where
  pub tokens : Each RawIsSmall c.locals
  pub count : IsSmall (length c.locals)

pub record MethodSignaturesSmall (m : MethodRow) : Type 0 where
  pub signature : SignatureIsSmall m.signature
  pub locals : InOption LocalsSmall m.code

-- the signatures of all rows
pub record SignaturesSmall (p : Assembly) (ms : Methods) : Type 0 where
  pub field_refs : Each (λ (r : FieldRefRow). RawIsSmall r.signature) p.field_refs
  pub method_refs : Each (λ (r : MethodRefRow). SignatureIsSmall r.signature) p.method_refs
  pub fields : Each (λ (r : FieldRow). RawIsSmall r.signature) p.fields
  pub methods : Each (λ (x : Manner × MethodRow). MethodSignaturesSmall x.1) ms
  pub specs : Each RawIsSmall p.specs

-- numbers are no signatures
no_signatures : (ns : List ℕ) → Each SignatureFits (numbers ns)
no_signatures ns = made SignatureFits (λ n. Number n) (λ n. tt) ns

types_fit : (at : ℕ) (ts : List TypeRow) → Each RowFits (type_parts at ts)
types_fit at [] = tt
types_fit at (t ∷ ts) = (
  (
    tt,
    (
      tt,
      no_signatures
          (or_none (λ n. n) t.enclosing ∷ or_none type_word t.extends ∷ type_flags t.kind t.is_interface t.is_abstract t.is_lazy ∷ first_of at (length t.interfaces) ∷ length t.interfaces ∷ t.first_field ∷ t.field_count ∷ t.first_method ∷ t.method_count ∷ []),
    ),
  ),
  types_fit (at + length t.interfaces) ts,
)

fields_fit : (n : ℕ) (fs : List FieldRow) → Each (λ (r : FieldRow). RawIsSmall r.signature) fs → Each RowFits (field_parts n fs)
fields_fit n [] small = tt
fields_fit n (f ∷ fs) small = ((tt, (raw_bytes f.signature [] small.0 tt, no_signatures (field_numbers n f.kind))), fields_fit (n + length (data_of f.kind)) fs small.1)

locals_fit : (has : Bool) (c : RawCode) → LocalsSmall c → SignatureFits (locals_column has c.locals)
locals_fit true c small = locals_bytes c.locals small.count small.tokens
locals_fit false c small = tt

module _ (clause : ℕ) (k : Manner) where
  code_fits : (c : RawCode) → LocalsSmall c → Each SignatureFits (body_columns clause k Body.Code (Some c))
  code_fits c small = (tt, (tt, (locals_fit k.has_locals c small, no_signatures (c.max_stack ∷ first_of clause (length c.clauses) ∷ length c.clauses ∷ []))))

  body_fits : (b : Body) (o : Option RawCode) → InOption LocalsSmall o → Each SignatureFits (body_columns clause k b o)
  body_fits (Body.Native name) o small = no_signatures (native_number name ∷ 0 ∷ 65535 ∷ 0 ∷ 0 ∷ 0 ∷ [])
  body_fits Body.Code None small = no_signatures (65535 ∷ 0 ∷ 65535 ∷ 0 ∷ 0 ∷ 0 ∷ [])
  body_fits Body.Missing None small = no_signatures (65535 ∷ 0 ∷ 65535 ∷ 0 ∷ 0 ∷ 0 ∷ [])
  body_fits Body.Code (Some c) small = code_fits c small
  body_fits Body.Missing (Some c) small = code_fits c small

methods_fit : (clause : ℕ) (xs : Methods) → Each (λ (x : Manner × MethodRow). MethodSignaturesSmall x.1) xs → Each RowFits (method_parts clause xs)
methods_fit clause [] small = tt
methods_fit clause (x ∷ xs) small = (
  (tt, (signature_bytes x.1.signature small.0.signature, (tt, body_fits clause x.0 x.1.body x.1.code small.0.locals))),
  methods_fit (clause + length (clauses_in x.1.code)) xs small.1,
)

pub columns_fit : (p : Assembly) (ms : Methods) → SignaturesSmall p ms → SignaturesFit (parts_for p ms)
columns_fit p ms small = (
  made RowFits assembly_part (λ (a : AssemblyRow). (tt, no_signatures a.version)) p.assemblies,
  (
    made RowFits ref_part (λ (r : TypeRefRow). (tt, (tt, (tt, tt)))) p.refs,
    (
      each_to (λ (r : FieldRefRow). RawIsSmall r.signature) RowFits field_ref_part (λ r h. (tt, (tt, (raw_bytes r.signature [] h tt, tt)))) p.field_refs small.field_refs,
      (
        each_to (λ (r : MethodRefRow). SignatureIsSmall r.signature) RowFits method_ref_part (λ r h. (tt, (tt, (signature_bytes r.signature h, tt)))) p.method_refs small.method_refs,
        (
          types_fit 0 p.types,
          (
            made RowFits interface_part (λ (t : TypeToken). (tt, tt)) (interfaces_of p),
            (
              fields_fit 0 p.fields small.fields,
              (
                methods_fit 0 ms small.methods,
                (
                  made RowFits clause_part (λ (c : RawClause). no_signatures (clause_numbers c.kind (c.try_start ∷ c.try_end ∷ c.start ∷ c.end ∷ []))) (clauses_of ms),
                  (each_to RawIsSmall RowFits spec_part (λ s h. (raw_bytes s [] h tt, tt)) p.specs small.specs, (made RowFits data_part (λ (bytes : List ℕ). (tt, tt)) (datas_of p), tt)),
                ),
              ),
            ),
          ),
        ),
      ),
    ),
  ),
)
