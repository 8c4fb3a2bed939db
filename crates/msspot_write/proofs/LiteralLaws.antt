-- A literal is in the pool exactly where the parts have it.
use Rattle.std.proofs.Common.{◌≡◌, ℕ, Bool, false, ◌||◌, List, [], ◌∷◌, map, refl, ap, ◌∙◌}
use Rattle.std.specs.Prelude.{is_some}
use Rattle.std.specs.List.{list_any, flat_map}
use Rattle.std.proofs.lemmas.List.Folds.{list_any-append}
use Rattle.machine.specs.Texts.{same_text}
use Rattle.image_pools.specs.Pools.{same_entry}
use Rattle.msspot_write.specs.declared.parts.Column.{Column}
use Rattle.msspot_write.specs.declared.parts.Column.TheVariants.{Number, Name, Signature, Data, Code}
use Rattle.msspot_write.specs.declared.parts.PartRow.{PartRow}
use Rattle.msspot_write.specs.declared.parts.PartLiteral.{PartLiteral}
use Rattle.msspot_write.specs.declared.parts.Parts.{Parts}
use Rattle.msspot_write.specs.Parts.{rows_of, tables, in_row, in_rows, in_tables, names, literal_of, strings_walk_of, pools_of, found}
use Rattle.msspot_write.proofs.EntryLaws.{any_pool, found_any}

none_in : {X A : Type 0} (test : A → Bool) (f : X → List A) → ((x : X) → list_any test (f x) ≡ false) → (xs : List X) → list_any test (flat_map f xs) ≡ false
none_in test f h [] = refl
none_in test f h (x ∷ xs) = list_any-append test (f x) (flat_map f xs) ∙ ap (λ a. a || list_any test (flat_map f xs)) (h x) ∙ none_in test f h xs

module _ (text : List ℕ) where
  -- a name is no literal
  no_name : (c : Column) → list_any (same_entry (literal_of text)) (names c) ≡ false
  no_name (Number n) = refl
  no_name (Name b) = refl
  no_name (Signature b) = refl
  no_name (Data b) = refl
  no_name Code = refl

  no_names : (p : Parts) → list_any (same_entry (literal_of text)) (in_tables names p tables) ≡ false
  no_names p =
      none_in (same_entry (literal_of text)) (λ t. in_rows names (rows_of p t))
      (λ t. none_in (same_entry (literal_of text)) (in_row names) (λ (r : PartRow). none_in (same_entry (literal_of text)) names no_name r.columns) (rows_of p t))
      tables

  literals_any : (ls : List PartLiteral) → list_any (same_entry (literal_of text)) (map (λ (l : PartLiteral). literal_of l.text) ls) ≡ list_any (λ (l : PartLiteral). same_text text l.text) ls
  literals_any [] = refl
  literals_any (l ∷ ls) = ap (λ a. same_text text l.text || a) (literals_any ls)

  pub literal_law : (p : Parts) → is_some (found (pools_of p).strings (literal_of text)) ≡ list_any (λ (l : PartLiteral). same_text text l.text) p.literals
  literal_law p =
      found_any (literal_of text) (pools_of p).strings
      ∙ any_pool (literal_of text) (strings_walk_of p)
      ∙ list_any-append (same_entry (literal_of text)) (in_tables names p tables) (map (λ (l : PartLiteral). literal_of l.text) p.literals)
      ∙ ap (λ a. a || list_any (same_entry (literal_of text)) (map (λ (l : PartLiteral). literal_of l.text) p.literals)) (no_names p)
      ∙ literals_any p.literals
