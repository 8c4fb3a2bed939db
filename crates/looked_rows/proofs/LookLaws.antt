-- Both tables' bits after tokens that were marked one after the other.
use Rattle.std.proofs.Common.{◌≡◌, ℕ, ◌+◌, ◌<◌, ◌≤◌, false, List, [], ◌∷◌, ◌++◌, length, take, get_or, sym, ap, subst, ◌∙◌, add-one}
use Rattle.std.specs.List.{flat_map}
use Rattle.std.proofs.lemmas.List.{take_more, take_all, flat_map_more}
use Rattle.file_tables.specs.Metadata.{MetadataPart, rows_of, row_of, row_count}
use Rattle.file_tables.specs.File.{FilePart}
use Rattle.world_rows.specs.Tokens.{type_defs, fields, methods, interface_impls, locals_signatures, member_refs, type_specs, bytes_at}
use Rattle.std.specs.Prelude.{slice_index, Bool, replicate}
use Rattle.file_tables.specs.declared.schema.Coded.TheVariants.{TypeDefOrRef}
use Rattle.cil_sig.specs.Reading.{whole_field, whole_method, whole_locals}
use Rattle.world_rows.specs.Lines.{body_part}
use Rattle.world_rows.specs.Looked.{token_from, named_by_extends, named_by_field, named_by_method, named_by_locals, named_by_body, named}
use Rattle.looked_rows.specs.declared.looked.Looked.{Looked}
use Rattle.looked_rows.specs.Marks.{Marks}
use Rattle.looked_rows.specs.Looked.{Looks, AreLookedAt}
use Rattle.looked_rows.proofs.MarkLaws.{marks_none, marks_after, marked_count, marked_each}

pub looks_none : (a : Looked) → Looks [] a a
looks_none a = record { members = marks_none member_refs a.members.items; specs = marks_none type_specs a.specs.items }

pub looks_after : (ts us : List ℕ) (a b c : Looked) → Looks ts a b → Looks us b c → Looks (ts ++ us) a c
looks_after ts us a b c first second = record {
  members = marks_after member_refs ts us a.members.items b.members.items c.members.items first.members second.members;
  specs = marks_after type_specs ts us a.specs.items b.specs.items c.specs.items first.specs second.specs;
}

-- the items of a list one after the other
module _ {A : Type 0} (name : A → List ℕ) (xs : List A) where
  pub tokens_more : (i : ℕ) (d : A) → i < length xs → flat_map name (take i xs) ++ name (get_or xs i d) ≡ flat_map name (take (i + 1) xs)
  tokens_more i d within = flat_map_more name [] (take i xs) (get_or xs i d) ∙ ap (flat_map name) (sym (take_more xs i d within))

  pub looks_more : (a b c : Looked) (i : ℕ) (d : A) → i < length xs → Looks (flat_map name (take i xs)) a b → Looks (name (get_or xs i d)) b c → Looks (flat_map name (take (i + 1) xs)) a c
  looks_more a b c i d within first second =
      subst (λ ts. Looks ts a c) (tokens_more i d within) (looks_after (flat_map name (take i xs)) (name (get_or xs i d)) a b c first second)

  pub looks_all : (a b : Looked) (i : ℕ) → length xs ≤ i → Looks (flat_map name (take i xs)) a b → Looks (flat_map name xs) a b
  looks_all a b i past looks = subst (λ ys. Looks (flat_map name ys) a b) (take_all i xs past) looks

-- the rows of a table one after the other
module _ (m : MetadataPart) (table : ℕ) (name : List ℕ → List ℕ) (a b : Looked) where
  pub looks_row : (c : Looked) (n : ℕ) (ts : List ℕ) → n < row_count m table → Looks (flat_map name (take n (rows_of m table))) a b → ts ≡ name (row_of m table (n + 1)) → Looks ts b c → Looks (flat_map name (take (n + 1) (rows_of m table))) a c
  looks_row c n ts within first e second =
      looks_more name (rows_of m table) a b c n [] within first (subst (λ us. Looks us b c) (e ∙ ap (λ k. name (row_of m table k)) (add-one n)) second)

  pub looks_rows : (n : ℕ) → row_count m table ≤ n → Looks (flat_map name (take n (rows_of m table))) a b → Looks (flat_map name (rows_of m table)) a b
  looks_rows n past looks = looks_all name (rows_of m table) a b n past looks

-- all tokens of a file
pub all_marked : (x : FilePart) (table : ℕ) (before after : List Bool) → before ≡ replicate (row_count x.metadata table) false → Marks table (named x) before after → AreLookedAt x table after
all_marked x table before after unset marks =
    let from_none : Marks table (named x) (replicate (row_count x.metadata table) false) after = subst (λ bits. Marks table (named x) bits after) unset marks in
    record {
      count = marked_count table (named x) (row_count x.metadata table) after from_none;
      each = marked_each table (named x) (row_count x.metadata table) after from_none;
    }

pub all_looks : (x : FilePart) (a b c d e f g : Looked)
    → Looks (flat_map (λ row. named_by_extends (slice_index row 3)) (rows_of x.metadata type_defs)) a b
    → Looks (flat_map (λ row. token_from TypeDefOrRef (slice_index row 1) ∷ []) (rows_of x.metadata interface_impls)) b c
    → Looks (flat_map (λ row. named_by_field (whole_field (bytes_at x.metadata (slice_index row 2)))) (rows_of x.metadata fields)) c d
    → Looks (flat_map (λ row. named_by_method (whole_method (bytes_at x.metadata (slice_index row 4)))) (rows_of x.metadata methods)) d e
    → Looks (flat_map (λ row. named_by_locals (whole_locals (bytes_at x.metadata (slice_index row 0)))) (rows_of x.metadata locals_signatures)) e f
    → Looks (flat_map (λ row. named_by_body (body_part x (slice_index row 0))) (rows_of x.metadata methods)) f g
    → Looks (named x) a g
unfolding named
all_looks x a b c d e f g supers interfaces kinds signatures locals bodies =
    looks_after _ _ a f g (looks_after _ _ a e f (looks_after _ _ a d e (looks_after _ _ a c d (looks_after _ _ a b c supers interfaces) kinds) signatures) locals) bodies
