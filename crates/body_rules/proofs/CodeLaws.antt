-- What the code of a body names, one instruction after the other.
use Rattle.std.proofs.Common.{◌≡◌, ◌≢◌, ◌⊎◌, inl, inr, leb, ℕ, zero, suc, ◌+◌, ◌<◌, ◌≤◌, Bool, true, false, List, [], ◌∷◌, ◌++◌, length, Option, Some, None, Ok, Err, refl, ap, sym, subst, ◌∙◌, arith}
use Rattle.std.specs.Prelude.{ℤ, unsigned_abs, if◌then◌else◌, ◌==◌, ◌&&◌, slice_index}
use Rattle.std.specs.List.{flat_map, filter_map, cons_option}
use Rattle.std.specs.Option.{option_map}
use Rattle.std.proofs.lemmas.List.Folds.{flat_map-map}
use Rattle.std.proofs.lemmas.Bool.{eq-eqb, ne_eqb, cases_lt, le-leb}
use Rattle.std.proofs.lemmas.List.{get_or_past}
use Rattle.cil_opcodes.specs.declared.shape.Operand.{Operand}
use Rattle.cil_opcodes.specs.declared.shape.Operand.TheVariants as kinds
use Rattle.cil_opcodes.specs.declared.shape.Row.{Row as OpcodeRow}
use Rattle.cil_opcodes.specs.Rows.{row_of}
use Rattle.cil_code.specs.declared.clause.Clause.{Clause}
use Rattle.cil_code.specs.declared.fault.CodeFault.{CodeFault}
use Rattle.cil_code.specs.declared.instructions.Instr.{Instr}
use Rattle.cil_code.specs.Instructions.{instruction_at}
use Rattle.cil_code.specs.Walk.{Placed, Walk, walk_from, instructions_of}
use Rattle.cil_code.specs.Bodies.{BodyPart}
use Rattle.cil_code.proofs.Walked.{walk_ends, walk_fails, walk_goes}
use Rattle.file_tables.specs.Heaps.{user_string_at}
use Rattle.file_tables.specs.Metadata.{MetadataPart, rows_of, row_count, column_of, is_row_in}
use Rattle.kept_rules.specs.Row.{Row, in_option, in_type, in_kind, in_clause, in_operand, in_line, in_code, by_type}
use Rattle.assemblies.specs.Rows.{RawCatch, RawFinally, RawOther, RawNothing}
use Rattle.world_rows.specs.Tokens.{literals, table_of, number_of, type_named}
use Rattle.world_rows.specs.Lines.{raw_text, literal, raw_operand, line_by, raw_line, raw_clause, raw_code, lines_of, locals_of}
use Rattle.row_rules.specs.declared.rules.RowRules.{RowRules}
use Rattle.row_rules.specs.Links.{keeps_each, Adds}
use Rattle.row_rules.proofs.LinkLaws.{adds_none, keeps_after}

-- ---- operands

abbrev pub is_row : Operand → Bool
is_row kinds.TypeToken = true
is_row kinds.FieldToken = true
is_row kinds.MethodToken = true
is_row kinds.AnyToken = true
is_row _ = false

-- an operand that is the token of no row names nothing
module _ (f : ℕ) (m : MetadataPart) (code : List ℕ) (at next : ℕ) where
  text_none : (o : Option (List ℕ)) → in_operand f (raw_text o) ≡ []
  text_none None = refl
  text_none (Some bytes) = refl

  literal_none : (token : ℕ) → in_operand f (literal m token) ≡ []
  literal_none token = go (table_of token == literals)
    where
      go : (b : Bool) → in_operand f (if b then raw_text (user_string_at m.user_strings (number_of token)) else RawNothing) ≡ []
      go true = text_none (user_string_at m.user_strings (number_of token))
      go false = refl

  pub names_none : (kind : Operand) (n : ℤ) → is_row kind ≡ false → in_operand f (raw_operand m code at next kind n) ≡ []
  names_none kinds.TypeToken n h = absurd (cc h)
  names_none kinds.FieldToken n h = absurd (cc h)
  names_none kinds.MethodToken n h = absurd (cc h)
  names_none kinds.AnyToken n h = absurd (cc h)
  names_none kinds.StringToken n h = literal_none (unsigned_abs n)
  names_none kinds.Nothing n h = refl
  names_none kinds.Int8 n h = refl
  names_none kinds.UInt8 n h = refl
  names_none kinds.UInt16 n h = refl
  names_none kinds.Int32 n h = refl
  names_none kinds.Int64 n h = refl
  names_none kinds.BranchShort n h = refl
  names_none kinds.BranchLong n h = refl
  names_none kinds.Switch n h = refl

-- ---- instructions

in_filtered : {A B : Type 0} (g : B → List Row) (h : A → Option B) (xs : List A) → flat_map g (filter_map h xs) ≡ flat_map (λ x. in_option g (h x)) xs
in_filtered g h [] = refl
in_filtered {A} {B} g h (x ∷ xs) = go (h x) (in_filtered g h xs)
  where
    go : (o : Option B) → flat_map g (filter_map h xs) ≡ flat_map (λ y. in_option g (h y)) xs → flat_map g (cons_option o (filter_map h xs)) ≡ in_option g o ++ flat_map (λ y. in_option g (h y)) xs
    go None rest = rest
    go (Some y) rest = ap (λ zs. g y ++ zs) rest

module _ (r : Row) (f : ℕ) (m : MetadataPart) (code : List ℕ) where
  abbrev pub named_by : Placed → List Row
  named_by i = in_option (in_line f) (raw_line m code i)

  abbrev pub named_from : ℕ → List Row
  named_from at = flat_map named_by (walk_from code at).met

  lines_named : flat_map (in_line f) (lines_of m code) ≡ named_from 0
  unfolding lines_of
  lines_named = in_filtered (in_line f) (raw_line m code) (instructions_of code)

  pub all_lines : (a b : RowRules) → Adds (keeps_each r (named_from 0)) a b → Adds (keeps_each r (flat_map (in_line f) (lines_of m code))) a b
  all_lines a b adds = subst (λ cs. Adds (keeps_each r cs) a b) (sym lines_named) adds

  -- what is still to be added from an offset on leads from these rules to those that the whole code leads to from the first
  abbrev pub LeadsOn : RowRules → ℕ → RowRules → Type 0
  LeadsOn first at here = (after : RowRules) → Adds (keeps_each r (named_from at)) here after → Adds (keeps_each r (named_from 0)) first after

  module _ (first : RowRules) (at : ℕ) (here : RowRules) (leads : LeadsOn first at here) where
    abbrev names : Walk → List Row
    names walk = flat_map named_by walk.met

    pub line_kept : (instr : Instr) (next : RowRules) → instruction_at code at ≡ Ok instr → Adds (keeps_each r (named_by (record { at = at; instr = instr }))) here next → LeadsOn first (at + instr.length) next
    line_kept instr next stands line after rest =
        leads after
        (subst (λ cs. Adds (keeps_each r cs) here after) (sym (ap names (walk_goes code at instr stands)))
        (keeps_after r (named_by (record { at = at; instr = instr })) (named_from (at + instr.length)) here next after line rest))

    pub faulty_end : (fault : CodeFault) → at < length code → instruction_at code at ≡ Err fault → Adds (keeps_each r (flat_map (in_line f) (lines_of m code))) first here
    faulty_end fault inside stands = all_lines first here (leads here (subst (λ cs. Adds (keeps_each r cs) here here) (sym (ap names (walk_fails code at fault inside stands))) (adds_none here)))

    pub code_end : length code ≤ at → Adds (keeps_each r (flat_map (in_line f) (lines_of m code))) first here
    code_end past = all_lines first here (leads here (subst (λ cs. Adds (keeps_each r cs) here here) (sym (ap names (walk_ends code at past))) (adds_none here)))

-- ---- clauses and bodies

-- a row that isn't there has no columns
pub no_column : {A : Type 0} (m : MetadataPart) (t n : ℕ) (x : A) → Path (Option A) None (if is_row_in m t n then Some x else None) → 0 ≡ column_of m t n 0
no_column m t zero x e = refl
no_column {A} m t (suc k) x e = go (cases_lt k (row_count m t))
  where
    out : (b : Bool) → Path (Option A) None (if b then Some x else None) → b ≡ false
    out true f = absurd (cc f)
    out false f = refl

    go : (k < row_count m t) ⊎ (row_count m t ≤ k) → 0 ≡ column_of m t (suc k) 0
    go (inl within) =
        let one : leb 1 (suc k) ≡ true = le-leb 1 (suc k) (omega arith) in
        let two : leb (suc k) (row_count m t) ≡ true = le-leb (suc k) (row_count m t) (omega (arith, within)) in
        let both : is_row_in m t (suc k) ≡ true = ap (λ b. b && leb (suc k) (row_count m t)) one ∙ two in
        absurd (cc (sym both ∙ out (is_row_in m t (suc k)) e))
    go (inr past) = sym (ap (λ row. slice_index row 0) (get_or_past (rows_of m t) k [] past))

module _ (f : ℕ) (m : MetadataPart) where
  pub catches : (c : Clause) → c.kind ≡ 0 → in_clause f (raw_clause m c) ≡ by_type f (type_named m c.token) ∷ []
  catches c e = ap (λ b. in_kind f (if b then RawCatch (type_named m c.token) else if c.kind == 2 then RawFinally else RawOther)) (eq-eqb c.kind 0 e)

  pub catches_none : (c : Clause) → c.kind ≢ 0 → in_clause f (raw_clause m c) ≡ []
  catches_none c apart = ap (λ b. in_kind f (if b then RawCatch (type_named m c.token) else if c.kind == 2 then RawFinally else RawOther)) (ne_eqb c.kind 0 apart) ∙ go (c.kind == 2)
    where
      go : (b : Bool) → in_kind f (if b then RawFinally else RawOther) ≡ []
      go true = refl
      go false = refl

  body_named : (b : BodyPart) → flat_map (in_type f) (locals_of m b.locals_token) ++ (flat_map (λ c. in_clause f (raw_clause m c)) b.clauses ++ flat_map (in_line f) (lines_of m b.code)) ≡ in_code f (raw_code m b)
  body_named b = ap (λ cs. flat_map (in_type f) (locals_of m b.locals_token) ++ (cs ++ flat_map (in_line f) (lines_of m b.code))) (sym (flat_map-map (in_clause f) (raw_clause m) b.clauses))

  module _ (r : Row) (a : RowRules) where
    pub line_operand : (b : RowRules) (instr : Instr) (row : OpcodeRow) → Some row ≡ row_of instr.op → ((code : List ℕ) (at next : ℕ) → Adds (keeps_each r (in_operand f (raw_operand m code at next row.operand instr.operand))) a b) → (code : List ℕ) (at : ℕ) → Adds (keeps_each r (in_option (in_line f) (raw_line m code (record { at = at; instr = instr })))) a b
    line_operand b instr row e told code at =
        subst (λ o. Adds (keeps_each r (in_option (in_line f) (option_map (line_by m code (record { at = at; instr = instr })) o))) a b) e (told code at (at + instr.length))

    pub body_kept : (x y z : RowRules) (b : BodyPart) → Adds (keeps_each r (flat_map (in_type f) (locals_of m b.locals_token))) a x → Adds (keeps_each r (flat_map (λ c. in_clause f (raw_clause m c)) b.clauses)) x y → Adds (keeps_each r (flat_map (in_line f) (lines_of m b.code))) y z → Adds (keeps_each r (in_code f (raw_code m b))) a z
    body_kept x y z b first second third =
        subst (λ cs. Adds (keeps_each r cs) a z) (body_named b)
        (keeps_after r (flat_map (in_type f) (locals_of m b.locals_token)) (flat_map (λ c. in_clause f (raw_clause m c)) b.clauses ++ flat_map (in_line f) (lines_of m b.code)) a x z first
        (keeps_after r (flat_map (λ c. in_clause f (raw_clause m c)) b.clauses) (flat_map (in_line f) (lines_of m b.code)) x y z second third))
