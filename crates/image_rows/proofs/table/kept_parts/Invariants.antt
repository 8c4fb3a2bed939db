use Rattle.std.proofs.Common.{◌≡◌, ◌≤◌, map, take, length}
use Rattle.std.specs.List.{filter}
use Rattle.kept_rows.specs.Select.{select}
use Rattle.kept_marks.specs.Masks.{masks_of}
use Rattle.image_rows.proofs.table.kept_parts.Given as goal

abbrev pub invariant-loop-n : goal.invariant-loop-n
invariant-loop-n g l = record {
  few : l.number ≤ l.n;
  counted : l.number ≡ length (filter (g.T.TableParts.belongs l.of) (take l.n (g.T.TableParts.rows l.of)));
  made : l.out.items ≡ map (g.T.TableParts.part l.of) (select (masks_of l.choice l.table) (filter (g.T.TableParts.belongs l.of) (take l.n (g.T.TableParts.rows l.of))));
}
