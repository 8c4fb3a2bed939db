-- What the parts of a set say of it.
use Rattle.std.proofs.Common.{◌≡◌, ℕ, ◌-◌, ◌<◌, ◌≤◌, ◌&&◌, Bool, true, false, not, List, [], map, length, Option, Some, None, refl, sym, ap, ◌∙◌, subst, arith}
use Rattle.std.specs.Prelude.{IsSome, slice_get, unwrap_or, nat_lt, if◌then◌else◌}
use Rattle.std.specs.Option.{option_map}
use Rattle.std.proofs.lemmas.Bool.{lt-ltb, le-ltb}
use Rattle.std.proofs.lemmas.Option.{slice_get-map, slice_get_past}
use Rattle.board_types.specs.declared.board.TypeAt.{TypeAt}
use Rattle.board_ids.specs.Ids.{id_of, is_no_row}
use Rattle.board_model.specs.Bound.{bound_classes, named}
use Rattle.machine.specs.Data.{Id}
use Rattle.machine.specs.Throw.{on_some}
use Rattle.classes.specs.Classes.{Classes}
use Rattle.classes.specs.Queries.{is_sub}
use Rattle.assemblies.specs.Rows.{Assembly, TypeToken, TypeDef, TypeRef, TypeSpec, TypeRow}
use Rattle.assemblies.specs.Binding.{id_at, resolve}
use Rattle.assemblies.proofs.Back.{get_there, get_within}
use Rattle.world_rows.specs.World.{size_of}
use Rattle.image_form.specs.Signatures.{type_token}
use Rattle.member_keys.specs.declared.keys.ClassId.{ClassId}
use Rattle.member_keys.specs.Seen.{class_seen}
use Rattle.class_table.specs.declared.rows.FileRows.{FileRows}
use Rattle.class_table.specs.declared.rows.ClassRow.{ClassRow}
use Rattle.class_table.specs.declared.rows.ClassTable.{ClassTable}
use Rattle.class_table.specs.Seen.{classes_seen, class_row, row_seen}
use Rattle.tiny_types.specs.Small.{IsSmall}
use Rattle.tiny_clauses.specs.Clauses.{clauses_at}
use Rattle.bound_answers.specs.Told.{sub, clause_told, clauses, data_in, bytes}
use Rattle.bound_answers.specs.Standing.{IsThere}
use Rattle.bound_answers.proofs.TellLaws.{token_row, row_there}

-- ---- tokens

token_def : (w : ℕ) → w < 16384 → type_token w ≡ TypeDef w
token_def w low = ap (λ b. if b then TypeDef w else (if nat_lt w 32768 then TypeRef (w - 16384) else TypeSpec (w - 32768))) (lt-ltb w 16384 low)

token_ref : (w : ℕ) → 16384 ≤ w → w < 32768 → type_token w ≡ TypeRef (w - 16384)
token_ref w high low =
    ap (λ b. if b then TypeDef w else (if nat_lt w 32768 then TypeRef (w - 16384) else TypeSpec (w - 32768))) (le-ltb w 16384 high)
    ∙ ap (λ b. if b then TypeRef (w - 16384) else TypeSpec (w - 32768)) (lt-ltb w 32768 low)

token_spec : (w : ℕ) → 32768 ≤ w → type_token w ≡ TypeSpec (w - 32768)
token_spec w high =
    ap (λ b. if b then TypeDef w else (if nat_lt w 32768 then TypeRef (w - 16384) else TypeSpec (w - 32768))) (le-ltb w 16384 (omega (arith, high)))
    ∙ ap (λ b. if b then TypeRef (w - 16384) else TypeSpec (w - 32768)) (le-ltb w 32768 high)

-- what a token names
pub token_own : (ps : List Assembly) (f w : ℕ) → w < 16384 → resolve (size_of ps) ps f (type_token w) ≡ resolve (size_of ps) ps f (TypeDef w)
token_own ps f w low = ap (resolve (size_of ps) ps f) (token_def w low)

pub token_named : (ps : List Assembly) (f w : ℕ) → 16384 ≤ w → w < 32768 → resolve (size_of ps) ps f (type_token w) ≡ named ps f 1 (w - 16384)
token_named ps f w high low = ap (resolve (size_of ps) ps f) (token_ref w high low)

pub token_none : (ps : List Assembly) (f w : ℕ) → 32768 ≤ w → resolve (size_of ps) ps f (type_token w) ≡ None
token_none ps f w high = ap (resolve (size_of ps) ps f) (token_spec w high)

module _ (ps : List Assembly) where
  own_by : (f n : ℕ) (p : Assembly) → Some p ≡ slice_get ps f → resolve (size_of ps) ps f (TypeDef n) ≡ option_map (λ (t : TypeRow). id_at f n) (slice_get p.types n)
  own_by f n p e = ap (λ o. on_some o (λ (p : Assembly). option_map (λ (t : TypeRow). id_at f n) (slice_get p.types n))) (sym e)

  pub own_there : (f n file row : ℕ) (p : Assembly) → Some p ≡ slice_get ps f → n < length p.types → file ≡ f → row ≡ n → Some (id_at file row) ≡ resolve (size_of ps) ps f (TypeDef n)
  own_there f n file row p e low same_file same_row =
      let t = get_there p.types n low in
      ap (λ x. Some (id_at x row)) same_file ∙ ap (λ x. Some (id_at f x)) same_row ∙ sym (own_by f n p e ∙ ap (option_map (λ (t : TypeRow). id_at f n)) t.1)

  pub own_past : (f n : ℕ) (p : Assembly) → Some p ≡ slice_get ps f → length p.types ≤ n → None ≡ resolve (size_of ps) ps f (TypeDef n)
  own_past f n p e high = sym (own_by f n p e ∙ ap (option_map (λ (t : TypeRow). id_at f n)) (slice_get_past p.types n high))

  pub own_missing : (f n : ℕ) → None ≡ slice_get ps f → None ≡ resolve (size_of ps) ps f (TypeDef n)
  own_missing f n e = ap (λ o. on_some o (λ (p : Assembly). option_map (λ (t : TypeRow). id_at f n) (slice_get p.types n))) e

  pub named_there : (f : ℕ) (t : TypeToken) (o : Option ClassId) → option_map class_seen o ≡ resolve (size_of ps) ps f t → (c : ClassId) → o ≡ Some c → IsThere ps (class_seen c)
  named_there f t o e c q = row_there ps (class_seen c) (token_row ps (size_of ps) f t (class_seen c) (sym e ∙ ap (option_map class_seen) q))

  -- ---- a class of the set has numbers of 16 bits

  pub class_small : (t : ClassTable) → IsSmall t → classes_seen t ≡ bound_classes ps → (c : Id) → IsThere ps c → (c.file < 65535) × (c.row < 65535)
  class_small t small same c there = by (slice_get t.files.items c.file) refl here
    where
      here : IsSome (class_row t c)
      here = subst (λ (cs : Classes). IsSome (cs.class c)) (sym same) there

      in_file : (f : FileRows) → slice_get t.files.items c.file ≡ Some f → (o : Option ClassRow) → slice_get f.classes.items c.row ≡ o → IsSome (option_map (row_seen c.file f) o) → (c.file < 65535) × (c.row < 65535)
      in_file f at None q h = cc h
      in_file f at (Some k) q h =
          let files = get_within t.files.items c.file f at in
          let rows = get_within f.classes.items c.row k q in
          let few = small.files in
          let each = (small.each c.file f at).classes in
          (omega (arith, files, few), omega (arith, rows, each))

      by : (o : Option FileRows) → slice_get t.files.items c.file ≡ o → IsSome (on_some o (λ f. option_map (row_seen c.file f) (slice_get f.classes.items c.row))) → (c.file < 65535) × (c.row < 65535)
      by None at h = cc h
      by (Some f) at h = in_file f at (slice_get f.classes.items c.row) refl h

  -- ---- the answers

  pub sub_none : (a b : TypeAt) (none : Bool) → none ≡ is_no_row b → none ≡ true → false ≡ sub ps a b
  sub_none a b none e q = ap (λ x. not x && is_sub (bound_classes ps) (id_of a) (id_of b)) (sym q ∙ e)

  pub sub_some : (a b : TypeAt) (none : Bool) → none ≡ is_no_row b → none ≡ false → is_sub (bound_classes ps) (id_of a) (id_of b) ≡ sub ps a b
  sub_some a b none e q = ap (λ x. not x && is_sub (bound_classes ps) (id_of a) (id_of b)) (sym q ∙ e)

  pub clause_none : (method : TypeAt) (k : ℕ) → None ≡ slice_get ps method.assembly → None ≡ slice_get (clauses ps method) k
  clause_none method k e = ap (λ o. slice_get (map (clause_told ps method.assembly) (unwrap_or (option_map (λ (p : Assembly). clauses_at p method.row) o) [])) k) e

  pub clause_get : (method : TypeAt) (k : ℕ) (p : Assembly) → Some p ≡ slice_get ps method.assembly → option_map (clause_told ps method.assembly) (slice_get (clauses_at p method.row) k) ≡ slice_get (clauses ps method) k
  clause_get method k p e =
      sym (slice_get-map (clause_told ps method.assembly) (clauses_at p method.row) k)
      ∙ ap (λ o. slice_get (map (clause_told ps method.assembly) (unwrap_or (option_map (λ (p : Assembly). clauses_at p method.row) o) [])) k) e

  pub byte_none : (field : TypeAt) (k : ℕ) → None ≡ slice_get ps field.assembly → None ≡ slice_get (bytes ps field) k
  byte_none field k e = ap (λ o. slice_get (unwrap_or (option_map (λ (p : Assembly). data_in p field.row) o) []) k) e

  pub bytes_there : (field : TypeAt) (p : Assembly) → Some p ≡ slice_get ps field.assembly → data_in p field.row ≡ bytes ps field
  bytes_there field p e = ap (λ o. unwrap_or (option_map (λ (p : Assembly). data_in p field.row) o) []) e
