-- The numbers that the tokens of a file's code get in the image of the file's kept rows (III.1.9, II.22): the row among the kept ones of its
-- table, references behind 4000 hexadecimal and specifications behind 8000; and of a literal its offset in the pool of strings.
use Rattle.std.specs.Prelude.{ℕ, zero, suc, ◌+◌, ◌==◌, if◌then◌else◌, List, [], map, take, count_by, slice_get, slice_index_or, unwrap_or}
use Rattle.std.specs.List.{range_with_len}
use Rattle.std.specs.Option.{option_map_or}
use Rattle.file_tables.specs.Heaps.{user_string_at}
use Rattle.file_tables.specs.Metadata.{MetadataPart, rows_of, row_count}
use Rattle.kept_rows.specs.Select.{below}
use Rattle.assemblies.specs.Chosen.{token_to}
use Rattle.image_form.specs.Signatures.{type_word}
use Rattle.image_pools.specs.Pools.{Entry}
use Rattle.world_rows.specs.Tokens.{fields, methods, member_refs, literals, table_of, number_of, from_zero, is_field_ref, is_method_ref, type_token}
use Rattle.msspot_write.specs.Parts.{found, literal_of}
use Rattle.row_numbers.specs.declared.table.Table.TheVariants as table
use Rattle.kept_marks.specs.Masks.{Masks, InFile, masks_of, choice_of_rows}
use Rattle.converted.specs.Cut.{two_bytes}

-- numbers of any size are left as they are
abbrev pub uncut : ℕ → ℕ
uncut n = n

-- of the kept rows of a file, where each number is cut
module _ (cut : ℕ → ℕ) (kept : Masks) (m : MetadataPart) where
  -- ---- the rows of MemberRef, of which references to fields and to methods are counted apart (II.22.25)

  abbrev pub reference_number : ℕ → ℕ
  reference_number n =
      cut (16384
      + (if is_field_ref m (slice_index_or (rows_of m member_refs) n []) then below (kept table.FieldRef) (count_by (is_field_ref m) (take n (rows_of m member_refs)))
      else below (kept table.MethodRef) (count_by (is_method_ref m) (take n (rows_of m member_refs)))))

  abbrev pub reference_numbers : List ℕ
  reference_numbers = map reference_number (range_with_len 0 (row_count m member_refs))

  -- rows count from 1; 0 where there is none
  abbrev pub reference_at : ℕ → ℕ
  reference_at zero = 0
  reference_at (suc n) = unwrap_or (slice_get reference_numbers n) 0

  -- ---- the other tables

  abbrev pub field_number : ℕ → ℕ
  field_number row = cut (below (kept table.Field) (from_zero (row_count m fields) row))

  abbrev pub method_number : ℕ → ℕ
  method_number row = cut (below (kept table.MethodDef) (from_zero (row_count m methods) row))

  abbrev pub type_number : ℕ → ℕ → ℕ
  type_number t row = cut (type_word (token_to (choice_of_rows kept) (type_token m t row)))

  -- ---- tokens, where the image's strings have these entries

  module _ (strings : List Entry) where
    -- 0 where the file has no such literal, or the pool hasn't it
    abbrev pub literal_number : ℕ → ℕ
    literal_number at = option_map_or (λ text. option_map_or cut (found strings (literal_of text)) 0) (user_string_at m.user_strings at) 0

    abbrev pub number_in : ℕ → ℕ → ℕ
    number_in t row =
        if t == literals then literal_number row
        else if t == member_refs then reference_at row
        else if t == fields then field_number row
        else if t == methods then method_number row
        else type_number t row

    abbrev pub number_for : ℕ → ℕ
    number_for token = number_in (table_of token) (number_of token)

-- the kept rows, the file's metadata, and the entries of the image's strings
pub record InImage : Type 0 where
  pub kept : InFile
  pub metadata : MetadataPart
  pub strings : List Entry

-- what two bytes hold of each number, and the number itself
abbrev pub token_number : InImage → ℕ → ℕ
token_number i = number_for two_bytes (masks_of i.kept) i.metadata i.strings

abbrev pub token_word : InImage → ℕ → ℕ
token_word i = number_for uncut (masks_of i.kept) i.metadata i.strings
