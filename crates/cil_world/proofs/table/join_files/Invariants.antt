use Rattle.std.proofs.Common.{◌≡◌, ◌++◌, length, map}
use Rattle.std.specs.Vec.Iter.{into_iter_items, into_iter_len}
use Rattle.cil_world.proofs.table.join_files.Given as goal

abbrev pub invariant-loop-rows : goal.invariant-loop-rows
invariant-loop-rows l = record {
  same : length (into_iter_items l.rest) ≡ length (into_iter_items l.rows-iterator);
  len : into_iter_len l.rows-iterator ≡ length (into_iter_items l.rows-iterator);
  left : into_iter_len l.rest ≡ length (into_iter_items l.rest);
  classes : map (λ f. f.classes.items) l.files.items ++ map (λ rows. rows.items) (into_iter_items l.rows-iterator) ≡ map (λ rows. rows.items) l.fn.classes.items;
  fields : map (λ f. f.fields.items) l.files.items ++ map (λ m. m.fields.items) (into_iter_items l.rest) ≡ map (λ m. m.fields.items) l.fn.members.items;
  methods : map (λ f. f.methods.items) l.files.items ++ map (λ m. m.methods.items) (into_iter_items l.rest) ≡ map (λ m. m.methods.items) l.fn.members.items;
}
