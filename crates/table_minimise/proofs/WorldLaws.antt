-- What a judged world has, and marks before any is set.
use Rattle.std.proofs.Common.{◌≡◌, ℕ, zero, suc, ◌≤◌, false, List, ◌++◌, length, take, replicate, refl, sym, ◌∙◌, subst, arith}
use Rattle.std.proofs.lemmas.List.{take-append-le, take_all}
use Rattle.file_tables.specs.File.{FilePart}
use Rattle.classes.specs.Classes.{Classes}
use Rattle.classes.specs.Queries.{above}
use Rattle.class_rules.specs.Base.{IsBase}
use Rattle.class_rules.proofs.Kept.{chain_ends, ends_more}
use Rattle.class_order.specs.Order.{ChainsEnd}
use Rattle.class_table.specs.declared.rows.ClassTable.{ClassTable}
use Rattle.class_table.specs.Seen.{classes_seen}
use Rattle.class_table.specs.Whole.{IsTable}
use Rattle.class_table.proofs.TableLaws.{table_law}
use Rattle.class_targets.specs.Virtual.{AreApart}
use Rattle.world_rows.specs.World.{type_count, rows_alone, ecma_sources}
use Rattle.judged_classes.specs.Judged.{IsJudged}
use Rattle.judged_classes.proofs.JudgedLaws.{read, kept}
use Rattle.slot_laws.proofs.StandLaws.{methods_stand_well}
use Rattle.root_marks.specs.Are.{IsClear}

-- no chain of superclasses goes in a circle
pub chains_end : (files : List FilePart) → IsJudged files → IsBase (ecma_sources files).classes → ChainsEnd (ecma_sources files).classes
chains_end files judged base c =
    let cs : Classes = (ecma_sources files).classes in
    let n : ℕ = type_count (rows_alone files) in
    let reads = read files judged in
    let room : n ≤ cs.size = omega (arith, reads.room) in
    ends_more (above cs) n cs.size c (chain_ends n cs reads base (kept files judged) c) room

-- no class has two methods of one name and signature
pub methods_apart : (files : List FilePart) (t : ClassTable) → IsTable files t → IsJudged files → AreApart (classes_seen t)
methods_apart files t table judged = subst AreApart (sym (table_law files t table)) (methods_stand_well files judged.types judged.profile).apart

pub all_clear : (count : ℕ) → IsClear (replicate count false)
all_clear zero k = refl
all_clear (suc count) zero = refl
all_clear (suc count) (suc k) = all_clear count k

-- what is written over all of a list
pub written : {A : Type 0} (n : ℕ) (xs ys : List A) → length xs ≡ n → take n (xs ++ ys) ≡ xs
written n xs ys e = take-append-le n xs ys (omega (arith, e)) ∙ take_all n xs (omega (arith, e))
