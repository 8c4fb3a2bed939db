use Rattle.std.proofs.Common.{◌∙◌, ◌++◌, sym, ap, arith, add-one}
use Rattle.class_queries.specs.Edges.{file_classes, first_classes}
use Rattle.class_queries.proofs.NumberLaws.{count_low}
use Rattle.class_queries.proofs.graph.list_classes.Goals as goal

pub overflow_cast-file : goal.overflow_cast-file
overflow_cast-file c = omega (arith, c.requires.few_files, c.loop-file-test.true, c.len-file-end.ensures, c.args.table.now.files.ok)

pub list_file-requires : goal.list_file-requires
list_file-requires c = let low = count_low c.args.table.now c.loop-file.file (omega (arith, c.loop-file-test.true, c.len-file-end.ensures, c.args.table.now.files.ok)) in omega (arith, low, c.requires.few, c.class_count.ensures)

pub loop-file-preserved : goal.loop-file-preserved
loop-file-preserved c = record {
  listed =
      c.in_ok-list_file.ensures
      ∙ ap (λ xs. xs ++ file_classes c.loop-file.file c.class_count.result) c.loop-file.invariant.listed
      ∙ ap (λ n. first_classes c.args.table.now c.loop-file.file ++ file_classes c.loop-file.file n) c.class_count.ensures
      ∙ sym (ap (first_classes c.args.table.now) (add-one c.loop-file.file));
}
