-- The image that is laid for rows lies for them, and its bytes are seen as it.
use Rattle.std.proofs.Common.{◌≡◌, ℕ, zero, suc, ◌+◌, ◌≤◌, List, [], ◌∷◌, ◌++◌, map, length, Option, Some, None, refl, ap, ◌∙◌, arith}
use Rattle.std.specs.Option.{option_map}
use Rattle.machine.specs.Throw.{on_some}
use Rattle.machine.specs.Program.{Body}
use Rattle.classes.specs.Classes.{FieldKind}
use Rattle.image_bytes.specs.Layout.{AllOfLength, HasShape, all_onto, byte_onto, read_byte, many, onto}
use Rattle.image_bytes.proofs.Laws.{word_law, byte_law, many_law, written}
use Rattle.image_pools.specs.Pools.{Entry, pool, texts_of, pool_onto}
use Rattle.assemblies.specs.Rows.{RawKind, RawCatch, RawFinally, RawOther, AssemblyRow, TypeRow, FieldRow, RawClause, RawCode, Assembly}
use Rattle.image_form.specs.Form.{Held, Offsets, Manner, assembly_row, ref_row, field_ref_row, method_ref_row, type_rows, interface_row, field_rows, field_words, clause_row, clause_words, spec_row, method_rows, body_words, bytes_in, clauses_in, data_of, data_rows}
use Rattle.image_form.specs.Whole.{image_rows, strings_walk, signatures_walk, offsets, interfaces_of, clauses_of, datas_of, Methods, Lies, Has, laid, seen}
use Rattle.image_form.proofs.WholeLaws.{whole_held, image_law}
use Rattle.assemblies.specs.Closed.{Each}

abbrev pub bytes_of : List Entry → List (List ℕ)
bytes_of es = map (λ (e : Entry). e.bytes) es

bytes_grow : (bs rest : List ℕ) → length rest ≤ length (all_onto byte_onto bs rest)
bytes_grow [] rest = omega arith
bytes_grow (b ∷ bs) rest = omega (arith, bytes_grow bs rest)

entries_grow : (es : List Entry) → length es ≤ length (pool_onto es [])
entries_grow [] = omega arith
entries_grow (e ∷ es) = omega (arith, entries_grow es, bytes_grow e.bytes (pool_onto es []))

texts_law : (es : List Entry) (n : ℕ) → length es ≤ n → texts_of n (pool_onto es []) ≡ Some (bytes_of es)
texts_law [] n h = refl
texts_law (e ∷ es) zero h = absurd (omega (arith, h))
texts_law (e ∷ es) (suc n) h =
    ap (λ o. on_some o (λ (l : ℕ × List ℕ). on_some (many read_byte l.0 l.1) (λ t. on_some (texts_of n t.1) (λ ts. Some (t.0 ∷ ts))))) (word_law (length e.bytes) (all_onto byte_onto e.bytes (pool_onto es [])))
    ∙ ap (λ o. on_some o (λ (t : List ℕ × List ℕ). on_some (texts_of n t.1) (λ ts. Some (t.0 ∷ ts)))) (many_law read_byte byte_onto byte_law e.bytes (pool_onto es []))
    ∙ ap (λ o. on_some o (λ ts. Some (e.bytes ∷ ts))) (texts_law es n (omega (arith, h)))

abbrev pub strings_of : Assembly → Methods → List (List ℕ)
strings_of p ms = bytes_of (pool (strings_walk p ms))

abbrev pub signatures_of : Assembly → Methods → List (List ℕ)
signatures_of p ms = bytes_of (pool (signatures_walk p ms))

pub laid_lies : (p : Assembly) (ms : Methods) → Lies (laid p ms) (offsets p ms) p ms (strings_of p ms) (signatures_of p ms)
laid_lies p ms =
    let strings = pool (strings_walk p ms) in
    let signatures = pool (signatures_walk p ms) in
    record {
      version = refl;
      name = refl;
      entry = refl;
      assemblies = refl;
      refs = refl;
      field_refs = refl;
      method_refs = refl;
      types = refl;
      interfaces = refl;
      fields = refl;
      methods = refl;
      clauses = refl;
      specs = refl;
      data_table = refl;
      string_texts = texts_law strings (length (pool_onto strings [])) (entries_grow strings);
      signature_texts = texts_law signatures (length (pool_onto signatures [])) (entries_grow signatures);
      code = refl;
      data_bytes = refl;
    }

-- ---- the shape

mapped : {A : Type 0} (n : ℕ) (spell : A → List ℕ) → ((x : A) → length (spell x) ≡ n) → (xs : List A) → AllOfLength n (map spell xs)
mapped n spell f [] = tt
mapped n spell f (x ∷ xs) = (f x, mapped n spell f xs)

versions : (o : Offsets) (rows : List AssemblyRow) → Each (λ (a : AssemblyRow). length a.version ≡ 4) rows → AllOfLength 5 (map (assembly_row o) rows)
versions o [] h = tt
versions o (a ∷ rows) h = (ap suc h.0, versions o rows h.1)

types_wide : (o : Offsets) (n : ℕ) (ts : List TypeRow) → AllOfLength 11 (type_rows o n ts)
types_wide o n [] = tt
types_wide o n (t ∷ ts) = (refl, types_wide o (n + length t.interfaces) ts)

field_wide : (o : Offsets) (n : ℕ) (k : FieldKind) → length (field_words o n k) ≡ 2
field_wide o n FieldKind.InstanceField = refl
field_wide o n FieldKind.StaticField = refl
field_wide o n FieldKind.LiteralField = refl
field_wide o n (FieldKind.DataField d) = refl

fields_wide : (o : Offsets) (n : ℕ) (fs : List FieldRow) → AllOfLength 4 (field_rows o n fs)
fields_wide o n [] = tt
fields_wide o n (f ∷ fs) = (ap (λ k. suc (suc k)) (field_wide o n f.kind), fields_wide o (n + length (data_of f.kind)) fs)

body_wide : (o : Offsets) (at clause : ℕ) (k : Manner) (b : Body) (c : Option RawCode) → length (body_words o at clause k b c) ≡ 6
body_wide o at clause k Body.Code None = refl
body_wide o at clause k Body.Code (Some c) = refl
body_wide o at clause k (Body.Native name) c = refl
body_wide o at clause k Body.Missing None = refl
body_wide o at clause k Body.Missing (Some c) = refl

methods_wide : (o : Offsets) (at clause : ℕ) (ms : Methods) → AllOfLength 9 (method_rows o at clause ms)
methods_wide o at clause [] = tt
methods_wide o at clause (x ∷ ms) =
    (ap (λ k. suc (suc (suc k))) (body_wide o at clause x.0 x.1.body x.1.code), methods_wide o (at + length (bytes_in o x.0 x.1.code)) (clause + length (clauses_in x.1.code)) ms)

clause_wide : (o : Offsets) (c : RawClause) → length (clause_row o c) ≡ 6
clause_wide o c = go c.kind
  where
    go : (k : RawKind) → length (clause_words o k ++ (c.try_start ∷ c.try_end ∷ c.start ∷ c.end ∷ [])) ≡ 6
    go (RawCatch t) = refl
    go RawFinally = refl
    go RawOther = refl

datas_wide : (n : ℕ) (ds : List (List ℕ)) → AllOfLength 2 (data_rows n ds)
datas_wide n [] = tt
datas_wide n (d ∷ ds) = (refl, datas_wide (n + length d) ds)

pub laid_shape : (p : Assembly) (ms : Methods) → length p.version ≡ 4 → Each (λ (a : AssemblyRow). length a.version ≡ 4) p.assemblies → HasShape (laid p ms)
laid_shape p ms v vs =
    let o = offsets p ms in
    record {
      version = v;
      tables = (
        versions o p.assemblies vs,
        (
          mapped 3 (ref_row o) (λ r. refl) p.refs,
          (
            mapped 3 (field_ref_row o) (λ r. refl) p.field_refs,
            (
              mapped 3 (method_ref_row o) (λ r. refl) p.method_refs,
              (
                types_wide o 0 p.types,
                (
                  mapped 1 (interface_row o) (λ t. refl) (interfaces_of p),
                  (
                    fields_wide o 0 p.fields,
                    (
                      methods_wide o 0 0 ms,
                      (
                        mapped 6 (clause_row o) (clause_wide o) (clauses_of ms),
                        (
                          mapped 1 (spec_row o) (λ s. refl) p.specs,
                          (
                            datas_wide 0 (datas_of p),
                            tt,
                          ),
                        ),
                      ),
                    ),
                  ),
                ),
              ),
            ),
          ),
        ),
      );
      count = refl;
      pools = refl;
    }

-- ---- the whole

abbrev pub laid_held : Assembly → Methods → Held
laid_held p ms = whole_held (laid p ms) (offsets p ms) p ms (strings_of p ms) (signatures_of p ms) (laid_lies p ms)

pub laid_seen : (p : Assembly) (ms : Methods) (rest : List ℕ) → length p.version ≡ 4 → Each (λ (a : AssemblyRow). length a.version ≡ 4) p.assemblies → Has (laid p ms) (laid_held p ms) (offsets p ms) p ms → seen (onto (laid p ms) rest) ≡ Some (laid p ms, p)
laid_seen p ms rest v vs f =
    ap (λ x. on_some x (λ i. option_map (λ p. (i, p)) (image_rows i))) (written (laid p ms) rest (laid_shape p ms v vs))
    ∙ ap (λ x. option_map (λ q. (laid p ms, q)) x) (image_law (laid p ms) (offsets p ms) p ms (strings_of p ms) (signatures_of p ms) (laid_lies p ms) f)
