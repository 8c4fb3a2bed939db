-- A choice of rows says the same of tokens wherever places lie.
use Rattle.std.proofs.Common.{◌≡◌, ℕ, List, [], ◌∷◌, map, Option, Some, None, Bool, refl, ap, ◌∙◌}
use Rattle.std.specs.Option.{option_map}
use Rattle.assemblies.specs.Rows.{TypeToken, TypeDef, TypeRef, TypeSpec, MemberToken, Own, Reference, RawType, RawSpelt, RawClass, RawValue, RawArray, RawPlace, RawDirect, RawByRef, RawSignature, RawOperand, RawNothing, RawNumber, RawTargets, RawTypeOf, RawField, RawMethod, RawText, RawLine, RawKind, RawCatch, RawFinally, RawOther, RawClause, RawCode}
use Rattle.assemblies.specs.Chosen.{Choice, token_to, method_token_to, field_token_to, raw_to, place_to, signature_to, operand_to, line_to, kind_to, clause_to, code_to}
use Rattle.kept_marks.specs.Masks.{Masks, choice_with, choice_of_rows}

pub maps_same : {A B : Type 0} (g h : A → B) → ((x : A) → g x ≡ h x) → (xs : List A) → map g xs ≡ map h xs
maps_same g h same [] = refl
maps_same g h same (x ∷ xs) = ap (λ y. y ∷ map g xs) (same x) ∙ ap (λ ys. h x ∷ ys) (maps_same g h same xs)

module _ (kept : Masks) (short long : ℕ → ℕ → ℕ) where
  abbrev k : Choice
  k = choice_with kept short long

  abbrev r : Choice
  r = choice_of_rows kept

  -- ---- signatures

  token_same : (t : TypeToken) → token_to k t ≡ token_to r t
  token_same (TypeDef n) = refl
  token_same (TypeRef n) = refl
  token_same (TypeSpec n) = refl

  raw_same : (s : RawType) → raw_to k s ≡ raw_to r s
  raw_same (RawSpelt e) = refl
  raw_same (RawClass t) = ap (λ u. RawClass u) (token_same t)
  raw_same (RawValue t) = ap (λ u. RawValue u) (token_same t)
  raw_same (RawArray s) = ap (λ u. RawArray u) (raw_same s)

  place_same : (s : RawPlace) → place_to k s ≡ place_to r s
  place_same (RawDirect s) = ap (λ u. RawDirect u) (raw_same s)
  place_same (RawByRef s) = ap (λ u. RawByRef u) (raw_same s)

  result_same : (o : Option RawType) → option_map (raw_to k) o ≡ option_map (raw_to r) o
  result_same None = refl
  result_same (Some s) = ap (λ u. Some u) (raw_same s)

  abbrev signature_with : Bool → Option RawType → List RawPlace → RawSignature
  signature_with this returns parameters = record { has_this = this; returns = returns; parameters = parameters }

  pub signature_same : (s : RawSignature) → signature_to k s ≡ signature_to r s
  signature_same s =
      ap (λ o. signature_with s.has_this o (map (place_to k) s.parameters)) (result_same s.returns)
      ∙ ap (λ ps. signature_with s.has_this (option_map (raw_to r) s.returns) ps) (maps_same (place_to k) (place_to r) place_same s.parameters)

  -- ---- code

  kind_same : (x : RawKind) → kind_to k x ≡ kind_to r x
  kind_same (RawCatch t) = ap (λ u. RawCatch u) (token_same t)
  kind_same RawFinally = refl
  kind_same RawOther = refl

  field_same : (t : MemberToken) → field_token_to k t ≡ field_token_to r t
  field_same (Own n) = refl
  field_same (Reference n) = refl

  method_same : (t : MemberToken) → method_token_to k t ≡ method_token_to r t
  method_same (Own n) = refl
  method_same (Reference n) = refl

  module _ (place : ℕ → ℕ) where
    operand_same : (o : RawOperand) → operand_to k place o ≡ operand_to r place o
    operand_same RawNothing = refl
    operand_same (RawNumber n) = refl
    operand_same (RawTargets to) = refl
    operand_same (RawTypeOf t) = ap (λ u. RawTypeOf u) (token_same t)
    operand_same (RawField t) = ap (λ u. RawField u) (field_same t)
    operand_same (RawMethod t) = ap (λ u. RawMethod u) (method_same t)
    operand_same (RawText units) = refl

    line_same : (l : RawLine) → line_to k place l ≡ line_to r place l
    line_same l = let made : RawOperand → RawLine = λ o. record { at = place l.at; shape = l.shape; operand = o; next = place l.next } in ap made (operand_same l.operand)

    clause_same : (c : RawClause) → clause_to k place c ≡ clause_to r place c
    clause_same c = let made : RawKind → RawClause = λ x. record { kind = x; try_start = place c.try_start; try_end = place c.try_end; start = place c.start; end = place c.end } in ap made (kind_same c.kind)

    abbrev code_of_parts : ℕ → List RawType → List RawClause → List RawLine → RawCode
    code_of_parts stack locals clauses lines = record { locals = locals; max_stack = stack; clauses = clauses; lines = lines }

    pub code_same : (c : RawCode) → code_to k place c ≡ code_to r place c
    code_same c =
        ap (λ xs. code_of_parts c.max_stack xs (map (clause_to k place) c.clauses) (map (line_to k place) c.lines)) (maps_same (raw_to k) (raw_to r) raw_same c.locals)
        ∙ ap (λ xs. code_of_parts c.max_stack (map (raw_to r) c.locals) xs (map (line_to k place) c.lines)) (maps_same (clause_to k place) (clause_to r place) clause_same c.clauses)
        ∙ ap (λ xs. code_of_parts c.max_stack (map (raw_to r) c.locals) (map (clause_to r place) c.clauses) xs) (maps_same (line_to k place) (line_to r place) line_same c.lines)
