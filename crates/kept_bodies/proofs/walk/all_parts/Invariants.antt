use Rattle.std.proofs.Common.{◌≡◌, ◌≤◌, ◌-◌, ◌*◌, ◌++◌}
use Rattle.file_tables.specs.Metadata.{row_count}
use Rattle.world_rows.specs.Tokens.{methods}
use Rattle.looked_rows.specs.Looked.{file_with}
use Rattle.row_numbers.specs.declared.table.Table.TheVariants as table
use Rattle.kept_marks.specs.Masks.{masks_of}
use Rattle.kept_bodies.specs.Kept.{body_at}
use Rattle.kept_bodies.specs.Walk.{parts_from}
use Rattle.kept_bodies.proofs.walk.all_parts.Given as goal

abbrev pub invariant-loop-n : goal.invariant-loop-n
invariant-loop-n g l = record {
  same : l.sections ≡ l.pe;
  low : l.first ≤ l.n * 4294967295;
  rest :
      l.out.items ++ parts_from (masks_of l.choice table.MethodDef) (λ first n. g.T.MethodParts.parts l.of first n (body_at (file_with l.pe l.tables) n)) (λ n. g.T.MethodParts.range l.of (body_at (file_with l.pe l.tables) n)) (row_count l.tables methods - l.n) l.n l.first
      ≡ parts_from (masks_of l.choice table.MethodDef) (λ first n. g.T.MethodParts.parts l.of first n (body_at (file_with l.pe l.tables) n)) (λ n. g.T.MethodParts.range l.of (body_at (file_with l.pe l.tables) n)) (row_count l.tables methods) 0 0;
}
