-- A coded index of a token is read as the token (II.24.2.6).
use Rattle.std.proofs.Common.{◌≡◌, ℕ, ◌+◌, ◌*◌, ◌<◌, ◌≤◌, Bool, true, false, ◌&&◌, ◌||◌, eqb, leb, List, [], ◌∷◌, get_or, refl, sym, ap, ◌∙◌, subst, arith}
use Rattle.std.specs.List.{list_any}
use Rattle.std.proofs.lemmas.Bool.{and_parts, eqb-true, leb-true}
use Rattle.cil_layout.specs.Asked.{Asked, rows_of, token_of}
use Rattle.cil_layout.specs.Askable.{is_token}
use Rattle.cil_layout.specs.Numbers.{token_table, token_row, type_tag, parent_tag, scope_tag, type_index, parent_index, scope_index}
use Rattle.file_tables.specs.declared.schema.Coded.{Coded}
use Rattle.file_tables.specs.declared.schema.Coded.TheVariants.{TypeDefOrRef, MemberRefParent, ResolutionScope}
use Rattle.file_tables.specs.Schema.{tag_bits_of, tables_of}
use Rattle.file_tables.specs.Metadata.{token_table as coded_table, token_row as coded_row}

-- what a token says that a column takes
pub record IsToken (r : Asked) (tables : List ℕ) (token : ℕ) : Type 0 where
  pub one : list_any (λ table. eqb table (token_table token)) tables ≡ true
  pub low : 1 ≤ token_row token
  pub high : token_row token ≤ rows_of r (token_table token)

-- the parts of the test
pub token_parts : (r : Asked) (tables : List ℕ) (token : ℕ) → is_token r tables token ≡ true → IsToken r tables token
token_parts r tables token is =
    let any : Bool = list_any (λ table. eqb table (token_table token)) tables in
    let outer : ((any && leb 1 (token_row token)) ≡ true) × (leb (token_row token) (rows_of r (token_table token)) ≡ true) = and_parts _ _ is in
    let inner : (any ≡ true) × (leb 1 (token_row token) ≡ true) = and_parts _ _ outer.0 in
    record { one = inner.0; low = leb-true 1 (token_row token) inner.1; high = leb-true (token_row token) (rows_of r (token_table token)) outer.1 }

-- the index is read as table and row of the token
pub record IsCodedAs (coded : Coded) (number token : ℕ) : Type 0 where
  pub table : coded_table coded number ≡ token_table token
  pub row : coded_row coded number ≡ token_row token
  pub small : token_table token < 64

-- what holds of each table holds of the token's own
abbrev Each : (ℕ → Type 0) → List ℕ → Type 0
Each P [] = Unit {0}
Each P (t ∷ ts) = P t × Each P ts

-- the token names one of the tables
pick : (P : ℕ → Type 0) (x : ℕ) (tables : List ℕ) → Each P tables → list_any (λ t. eqb t x) tables ≡ true → P x
pick P x [] each any = absurd (cc)
pick P x (t ∷ ts) each any = elim (eqb t x) as (λ b. eqb t x ≡ b → (b || list_any (λ u. eqb u x) ts) ≡ true → P x) [
  | true ↦ λ same _. subst P (eqb-true t x same) each.0
  | false ↦ λ _ more. pick P x ts each.1 more
] refl any

-- a TypeDefOrRef by its tag
type_by : (token table tag : ℕ) → type_tag table ≡ tag → table < 64 → tag < 4 → get_or (2 ∷ 1 ∷ 27 ∷ []) tag 255 ≡ table → table ≡ token_table token → IsCodedAs TypeDefOrRef (type_index token) token
unfolding tag_bits_of tables_of
type_by token table tag tagged below small listed e =
    let is : type_index token ≡ token_row token * 4 + tag = ap (λ x. token_row token * 4 + type_tag x) (sym e) ∙ ap (λ x. token_row token * 4 + x) tagged in
    record { table = ap (λ n. get_or (2 ∷ 1 ∷ 27 ∷ []) n 255) (omega (arith, is)) ∙ listed ∙ e; row = omega (arith, is); small = omega arith }

-- a MemberRefParent by its tag
parent_by : (token table tag : ℕ) → parent_tag table ≡ tag → table < 64 → tag < 8 → get_or (2 ∷ 1 ∷ 26 ∷ 6 ∷ 27 ∷ []) tag 255 ≡ table → table ≡ token_table token → IsCodedAs MemberRefParent (parent_index token) token
unfolding tag_bits_of tables_of
parent_by token table tag tagged below small listed e =
    let is : parent_index token ≡ token_row token * 8 + tag = ap (λ x. token_row token * 8 + parent_tag x) (sym e) ∙ ap (λ x. token_row token * 8 + x) tagged in
    record { table = ap (λ n. get_or (2 ∷ 1 ∷ 26 ∷ 6 ∷ 27 ∷ []) n 255) (omega (arith, is)) ∙ listed ∙ e; row = omega (arith, is); small = omega arith }

-- a ResolutionScope by its tag
scope_by : (token table tag : ℕ) → scope_tag table ≡ tag → table < 64 → tag < 4 → get_or (0 ∷ 26 ∷ 35 ∷ 1 ∷ []) tag 255 ≡ table → table ≡ token_table token → IsCodedAs ResolutionScope (scope_index token) token
unfolding tag_bits_of tables_of
scope_by token table tag tagged below small listed e =
    let is : scope_index token ≡ token_row token * 4 + tag = ap (λ x. token_row token * 4 + scope_tag x) (sym e) ∙ ap (λ x. token_row token * 4 + x) tagged in
    record { table = ap (λ n. get_or (0 ∷ 26 ∷ 35 ∷ 1 ∷ []) n 255) (omega (arith, is)) ∙ listed ∙ e; row = omega (arith, is); small = omega arith }

-- a TypeDefOrRef of each token that it takes
pub type_coded : (r : Asked) (token : ℕ) → IsToken r (2 ∷ 1 ∷ 27 ∷ []) token → IsCodedAs TypeDefOrRef (type_index token) token
type_coded r token is = pick (λ table. table ≡ token_table token → IsCodedAs TypeDefOrRef (type_index token) token) (token_table token) (2 ∷ 1 ∷ 27 ∷ [])
    (type_by token 2 0 refl (omega arith) (omega arith) refl, (type_by token 1 1 refl (omega arith) (omega arith) refl, (type_by token 27 2 refl (omega arith) (omega arith) refl, tt))) is.one refl

-- a MemberRefParent of each token that it takes
pub parent_coded : (r : Asked) (token : ℕ) → IsToken r (2 ∷ 1 ∷ 6 ∷ 27 ∷ []) token → IsCodedAs MemberRefParent (parent_index token) token
parent_coded r token is = pick (λ table. table ≡ token_table token → IsCodedAs MemberRefParent (parent_index token) token) (token_table token) (2 ∷ 1 ∷ 6 ∷ 27 ∷ [])
    (parent_by token 2 0 refl (omega arith) (omega arith) refl, (parent_by token 1 1 refl (omega arith) (omega arith) refl, (parent_by token 6 3 refl (omega arith) (omega arith) refl, (parent_by token 27 4 refl (omega arith) (omega arith) refl, tt)))) is.one refl

-- a ResolutionScope of each token that it takes
pub scope_coded : (r : Asked) (token : ℕ) → IsToken r (0 ∷ 35 ∷ 1 ∷ []) token → IsCodedAs ResolutionScope (scope_index token) token
scope_coded r token is = pick (λ table. table ≡ token_table token → IsCodedAs ResolutionScope (scope_index token) token) (token_table token) (0 ∷ 35 ∷ 1 ∷ [])
    (scope_by token 0 0 refl (omega arith) (omega arith) refl, (scope_by token 35 2 refl (omega arith) (omega arith) refl, (scope_by token 1 3 refl (omega arith) (omega arith) refl, tt))) is.one refl

-- a token of one table is its row there
pub only_table : (r : Asked) (table token : ℕ) → IsToken r (table ∷ []) token → table ≡ token_table token
only_table r table token is = pick (λ t. table ≡ t) (token_table token) (table ∷ []) (refl, tt) is.one

-- table and row name the token
pub named : (token : ℕ) → token_of (token_table token) (token_row token) ≡ token
named token = omega arith

-- and so do those of a coded index
pub named_coded : (coded : Coded) (number token : ℕ) → IsCodedAs coded number token → token_of (coded_table coded number) (coded_row coded number) ≡ token
named_coded coded number token is = ap (λ t. token_of t (coded_row coded number)) is.table ∙ ap (token_of (token_table token)) is.row ∙ named token
